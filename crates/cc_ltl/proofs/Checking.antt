-- Testing a list from its start: if all tests so far held, the rest has the property exactly if the whole list has it.
use Rattle.std.proofs.Common.{◌↔◌, ℕ, List, drop}
use Rattle.std.specs.List.{AllByRecursion}
use Rattle.cc_ltl.specs.declared.block.Block.{Block}
use Rattle.cc_ltl.specs.Ltl.{IsBelowFirst, Ascend}

-- each element of the rest has the property exactly if each element of the list does
abbrev pub SameForRest : {A : Type 0} → (A → Type 0) → List A → ℕ → Type 0
SameForRest P xs i = AllByRecursion P (drop i xs) ↔ AllByRecursion P xs

-- the labels ascend, and the first is above the last one before them
abbrev AscendAfter : ℕ → List Block → Type 0
AscendAfter label blocks = IsBelowFirst label blocks × Ascend blocks

abbrev pub SameAfter : (first last : ℕ) → List Block → ℕ → Type 0
SameAfter first last blocks i = AscendAfter last (drop i blocks) ↔ AscendAfter first blocks
