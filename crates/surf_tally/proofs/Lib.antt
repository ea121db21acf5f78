pub mod Noted
pub mod Followed
pub mod Going
pub mod Summed
pub mod Moved
