-- The rule of the queue: what all passes have sent is what they have taken together with what the queue holds.
use Rattle.std.specs.Prelude.{◌≡◌, ℕ, ◌+◌, List, [], ◌∷◌, ◌++◌, sum_by}
use mathlib.Core.Option.{some}
use lib.ListN.{get_elem?}
use Rattle.cc_pool.specs.declared.item.Item.{Item}
use Rattle.cc_pool.specs.declared.rule.Role.{Role}
use Rattle.cc_pool.specs.declared.rule.Role.TheVariants.{Owner, Out, Joined}
use Rattle.cc_pool.specs.declared.rule.Hand.{Hand}

abbrev pub hand : Role → (splits joins : ℕ) → (sent taken : List Item) → Hand
hand role splits joins sent taken = record { role = role; splits = splits; joins = joins; sent = sent; taken = taken }

-- ---- the views after a step

abbrev pub first_hand : Hand
first_hand = hand Owner 0 0 [] []

abbrev pub new_hand : Hand
new_hand = hand Out 0 0 [] []

abbrev pub joined_hand : Hand
joined_hand = hand Joined 0 0 [] []

abbrev pub sends_one : Hand → Item → Hand
sends_one v x = hand v.role v.splits v.joins (v.sent ++ x ∷ []) v.taken

abbrev pub takes_one : Hand → Item → Hand
takes_one v x = hand v.role v.splits v.joins v.sent (v.taken ++ x ∷ [])

abbrev pub splits_one : Hand → Hand
splits_one v = hand v.role (v.splits + 1) v.joins v.sent v.taken

abbrev pub joins_one : Hand → Hand → Hand
joins_one v w = hand v.role v.splits (v.joins + 1) (v.sent ++ w.sent) (v.taken ++ w.taken)

-- ---- the rule

-- 1 for the pool's own pass, else 0
abbrev pub owns : Role → ℕ
owns Owner = 1
owns Out = 0
owns Joined = 0

-- 1 for a pass that is out, else 0
abbrev pub is_out : Role → ℕ
is_out Owner = 0
is_out Out = 1
is_out Joined = 0

-- 1 for a pass that may send and take, else 0
abbrev pub is_live : Role → ℕ
is_live Owner = 1
is_live Out = 1
is_live Joined = 0

-- both lists weigh the same, however items are weighed: each item occurs in both equally often
abbrev pub SameItems : List Item → List Item → Type 0
SameItems xs ys = (h : Item → ℕ) → sum_by h xs ≡ sum_by h ys

-- what these passes have sent is what they have taken together with what the queue holds
abbrev pub Balanced : (queue : List Item) (passes : List Hand) → Type 0
Balanced queue passes = (h : Item → ℕ) → sum_by (λ v. sum_by h v.sent) passes ≡ sum_by (λ v. sum_by h v.taken) passes + sum_by h queue

-- The pool has one pass of its own, and only that pass counts splits and joins: the number of passes out is the number of splits
-- minus that of joins. A joined pass has nothing left
pub record Kept (queue : List Item) (passes : List Hand) : Type 0 where
  pub one : sum_by (λ v. owns v.role) passes ≡ 1
  pub counted : sum_by (λ v. is_out v.role) passes + sum_by (λ v. v.joins) passes ≡ sum_by (λ v. v.splits) passes
  pub alone : (k : ℕ) (v : Hand) → get_elem? passes k ≡ some v → owns v.role ≡ 0 → (v.splits ≡ 0) × (v.joins ≡ 0)
  pub empty : (k : ℕ) (v : Hand) → get_elem? passes k ≡ some v → is_live v.role ≡ 0 → (v.sent ≡ []) × (v.taken ≡ [])
  pub balanced : Balanced queue passes

-- if the pool's own pass has as many joins as splits, it has sent what it has taken and what the queue holds
abbrev pub SeesAll : Hand → List Item → Type 0
SeesAll v queue = v.role ≡ Owner → v.splits ≡ v.joins → SameItems v.sent (v.taken ++ queue)
