-- What is checked about the clients in a list.
use Rattle.std.specs.Prelude.{◌≡◌, ℕ, List, Some, slice_get}
use Rattle.cc_history.specs.History.{MemberView}

-- no two clients have the same number
abbrev pub HaveOwnNumbers : {A : Type 0} → (A → MemberView) → List A → Type 0
HaveOwnNumbers who clients = (i j : ℕ) (one other : _) → slice_get clients i ≡ Some one → slice_get clients j ≡ Some other → (who one).number ≡ (who other).number → i ≡ j
