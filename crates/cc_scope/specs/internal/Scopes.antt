-- What the code checks about the names in scope.
use Rattle.std.specs.Prelude.{ℕ, Bool, false, List, map, Option, Some, None, nat_le}
use Rattle.cc_ast.specs.scalar.Scalar.{Scalar}
use Rattle.cc_ast.specs.Tree.{Parameter}

-- there is a number, and it is at least k
abbrev pub from : ℕ → Option ℕ → Bool
from k None = false
from k (Some n) = nat_le k n

-- the types of some parameters
abbrev pub scalars : List Parameter → List Scalar
scalars ps = map (λ (p : Parameter). p.scalar) ps
