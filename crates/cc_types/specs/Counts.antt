-- How names are counted, up to the number allowed.
use Rattle.std.specs.Prelude.{ℕ, ◌+◌, List, [], ◌∷◌, Option, Some, if◌then◌else◌, nat_lt, is_some}
use Rattle.cc_ast.specs.Tree.{Name}
use Rattle.cc_types.specs.declared.limits.Count.{Count}

-- how many names are counted, up to the number allowed, after some more names
abbrev pub counted : ℕ → ℕ → List Name → ℕ
counted most n [] = n
counted most n (x ∷ rest) = counted most (if nat_lt n most then n + 1 else n) rest

-- the offset of the first name past the number allowed
abbrev pub passed : ℕ → ℕ → Option ℕ → List Name → Option ℕ
passed most n at [] = at
passed most n at (x ∷ rest) = if nat_lt n most then passed most (n + 1) at rest else passed most n (if is_some at then at else Some x.at) rest

-- the count after some more names
abbrev pub count_after : Count → List Name → Count
count_after c names = record { most = c.most; names = counted c.most c.names names; past = passed c.most c.names c.past names }
