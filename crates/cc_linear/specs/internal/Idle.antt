-- Labels to which nothing leads, and the list without them.
use Rattle.std.specs.Prelude.{ℕ, ◌<◌, ◌≤◌, List, [], ◌∷◌, length, get_or, Bool, true, false, if◌then◌else◌, ◌==◌}
use Rattle.cc_linear_language.specs.declared.item.LinearItem.{LinearItem}
use Rattle.cc_linear_language.specs.declared.item.LinearItem.TheVariants.{Label}

-- numbers that do not decrease
abbrev pub IsRising : List ℕ → Type 0
IsRising xs = (i j : ℕ) → i ≤ j → j < length xs → get_or xs i 0 ≤ get_or xs j 0

-- whether a number is in the list
abbrev pub has : List ℕ → ℕ → Bool
has [] l = false
has (x ∷ xs) l = if x == l then true else has xs l

-- whether an item stays: each does, unless it is a label that is not in `led`
abbrev pub stays : (led : List ℕ) → LinearItem → Bool
stays led (Label l) = has led l
stays led item = true

abbrev pub kept : (led : List ℕ) → List LinearItem → List LinearItem
kept led [] = []
kept led (item ∷ items) = if stays led item then item ∷ kept led items else kept led items
