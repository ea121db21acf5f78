-- The faults that errors tell.
use Rattle.std.specs.Prelude.{ℕ, List, Option, Some, None}
use Rattle.surf_flatten.specs.declared.error.FlattenError.{FlattenError}
use Rattle.surf_flatten.specs.declared.error.FlattenError.TheVariants as errors
use Rattle.surf_flatten.specs.declared.error.Kind.{Kind}
use Rattle.surf_flatten.specs.declared.error.Kind.TheVariants as kinds
use Rattle.surf_flatten.specs.Faults.{ModelFault, ModelTwice, UnknownModel, BadFormal, Unconnected, Recursive, TooLarge}

abbrev pub told : FlattenError → Option ModelFault
told (errors.ModelTwice line t) = Some (ModelTwice line t)
told (errors.UnknownModel line t) = Some (UnknownModel line t)
told (errors.BadFormal line t) = Some (BadFormal line t)
told (errors.Unconnected line t) = Some (Unconnected line t)
told (errors.Recursive line t) = Some (Recursive line t)
told (errors.TooLarge n) = Some (TooLarge n)
told errors.NoMemory = None

abbrev pub fault_of : Kind → ℕ → List ℕ → ModelFault
fault_of kinds.ModelTwice line t = ModelTwice line t
fault_of kinds.UnknownModel line t = UnknownModel line t
fault_of kinds.BadFormal line t = BadFormal line t
fault_of kinds.Unconnected line t = Unconnected line t
fault_of kinds.Recursive line t = Recursive line t
