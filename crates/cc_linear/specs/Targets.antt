-- The labels to which the items of a function lead.
use Rattle.std.specs.Prelude.{ℕ, List, [], ◌∷◌, Contains}
use Rattle.cc_linear_language.specs.declared.item.LinearItem.{LinearItem}
use Rattle.cc_linear_language.specs.declared.item.LinearItem.TheVariants.{Jump, IfNonzero, IfZero}
use Rattle.cc_linear_language.specs.Linear.{labels}

-- the labels of jumps and branches, one after the other
abbrev pub targets : List LinearItem → List ℕ
targets [] = []
targets (Jump to ∷ items) = to ∷ targets items
targets (IfNonzero from to ∷ items) = to ∷ targets items
targets (IfZero from to ∷ items) = to ∷ targets items
targets (item ∷ items) = targets items

-- a jump or a branch leads to each label in the list
abbrev pub NoneIdle : List LinearItem → Type 0
NoneIdle items = (l : ℕ) → Contains (labels items) l → Contains (targets items) l
