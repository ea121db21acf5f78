use Rattle.surf_flatten.proofs.Unfolding.{one_tree, free_tree, tree_free}
use Rattle.surf_flatten.proofs.Searching.{free_is_none, none_is_free}
use Rattle.surf_flatten.proofs.Meaning.{sound_unfold, meanings_one}
use Rattle.surf_flatten.proofs.Working.{cost_meant, plain_stay}
use Rattle.surf_flatten.proofs.Spelling.{names_differ}
use Rattle.surf_flatten.proofs.laws.substitution_laws.Goals as goal

pub returns : goal.returns
returns c = record {
  one_tree = one_tree;
  some_tree = free_tree;
  free = tree_free;
  lines = free_is_none;
  no_lines = none_is_free;
  sound = sound_unfold;
  one_meaning = meanings_one;
  cost = cost_meant;
  names = names_differ;
  plain = plain_stay;
}
