-- What a typed unit guarantees.
use Rattle.cc_ast.specs.Tree.{Source}
use Rattle.cc_types.specs.Typed.{IsTyped, IsWithinLimits}

-- what a typed unit guarantees about its source
pub record IsChecked (s : Source) : Type 0 where
  pub typed : IsTyped s.externals
  pub limits : IsWithinLimits s.externals
