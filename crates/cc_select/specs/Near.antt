-- Nearby elements. If the element number of an access was computed by adding a word to a register, and neither that register nor the
-- sum's has changed since, the access is to the element whose number is the register's word plus the added word, so the sum need not be
-- computed. Only the last such sum is known, within straight-line code.
use Rattle.std.specs.Prelude.{ℕ, ◌||◌, ◌==◌, if◌then◌else◌, Option, Some, None, List, [], ◌∷◌}
use Rattle.cc_words.specs.Words.{neg}
use Rattle.cc_ltl.specs.declared.operation.Move.TheVariants.{Between, Reload, Spill}
use Rattle.cc_linear_language.specs.declared.item.LinearItem.{LinearItem}
use Rattle.cc_linear_language.specs.declared.item.LinearItem.TheVariants.{Label, Jump, IfNonzero, IfZero, Copy, Const, Unary, Binary, Load, Store, Call, Read, Write, Return}
use Rattle.cc_select.specs.declared.near.Sum.{Sum}
use Rattle.cc_select.specs.declared.step.Step.{Step}
use Rattle.cc_select.specs.declared.step.WordOperator.{WordOperator}
use Rattle.cc_select.specs.declared.step.WordOperator.TheVariants.{Add, Sub}
use Rattle.cc_select.specs.declared.step.Step.TheVariants.{One, Immediate, LoadAt, StoreAt, LoadNear, StoreNear, Branch, BranchImmediate}

-- ---- what is known

-- the known sum after a register is written
abbrev pub unless : (register : ℕ) → Option Sum → Option Sum
unless r None = None
unless r (Some s) = if (r == s.to) || (r == s.from) then None else Some s

-- the known sum after a sum is written to a register
abbrev pub summed : (to from word : ℕ) → Option Sum
summed to from word = if to == from then None else Some (record { to = to; from = from; word = word })

-- the known sum after an item; no sum is known after a label, since a run may reach it from elsewhere, nor after a call
abbrev pub sum_item : LinearItem → Option Sum → Option Sum
sum_item (Label label) z = None
sum_item (Jump to) z = None
sum_item (IfNonzero from to) z = z
sum_item (IfZero from to) z = z
sum_item (Copy (Between to from)) z = unless to z
sum_item (Copy (Reload to slot)) z = unless to z
sum_item (Copy (Spill slot from)) z = z
sum_item (Const to word) z = unless to z
sum_item (Unary operator to from) z = unless to z
sum_item (Binary operator to left right) z = unless to z
sum_item (Load width object to index) z = unless to z
sum_item (Store width object index from) z = z
sum_item (Call function) z = None
sum_item Read z = unless 10 (unless 17 z)
sum_item Write z = unless 17 z
sum_item Return z = None

-- the known sum after an operator on a register and a word: a difference is the sum with the word's negative
abbrev pub sum_immediate : WordOperator → (to from word : ℕ) → Option Sum → Option Sum
sum_immediate Add to from word z = summed to from word
sum_immediate Sub to from word z = summed to from (neg word)
sum_immediate operator to from word z = unless to z

abbrev pub sum_behind : Step → Option Sum → Option Sum
sum_behind (One item) z = sum_item item z
sum_behind (Immediate operator to from word) z = sum_immediate operator to from word z
sum_behind (LoadAt width object to number) z = unless to z
sum_behind (StoreAt width object number from) z = z
sum_behind (LoadNear width object to index word) z = unless to z
sum_behind (StoreNear width object index word from) z = z
sum_behind (Branch operator nonzero left right to) z = z
sum_behind (BranchImmediate operator nonzero from word to) z = z

-- ---- the step that is made

-- the sum that a register has, if it is known
abbrev pub sum_in : Option Sum → (register : ℕ) → Option Sum
sum_in None r = None
sum_in (Some s) r = if r == s.to then Some s else None

-- an access to the element whose number is a sum, if the sum is known; else another step
abbrev pub with_sum : Option Sum → (other : Step) → (access : Sum → Step) → Step
with_sum None other access = other
with_sum (Some s) other access = access s

abbrev pub near : Option Sum → Step → Step
near z (One (Load width object to index)) = with_sum (sum_in z index) (One (Load width object to index)) (λ s. LoadNear width object to s.from s.word)
near z (One (Store width object index from)) = with_sum (sum_in z index) (One (Store width object index from)) (λ s. StoreNear width object s.from s.word from)
near z step = step

abbrev pub nearer : Option Sum → List Step → List Step
nearer z [] = []
nearer z (step ∷ steps) = near z step ∷ nearer (sum_behind step z) steps
