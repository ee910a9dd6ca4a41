-- What is live at labels, found by sweeps from the back of the list. A sweep uses the rows that it has just made for labels further on,
-- and those of the last sweep for labels before. The table used is the first in which a check finds everything that is live at each
-- label's place; if 32 sweeps yield none, everything is live at each label.
use Rattle.std.specs.Prelude.{ℕ, zero, suc, Bool, true, not, ◌&&◌, ◌||◌, ◌==◌, nat_le, if◌then◌else◌, List, [], ◌∷◌}
use Rattle.cc_linear_language.specs.declared.item.LinearItem.TheVariants.{Label}
use Rattle.cc_select.specs.declared.step.Step.{Step}
use Rattle.cc_select.specs.declared.step.Step.TheVariants.{One}
use Rattle.cc_select.specs.Live.{Registers, nothing, live_before, live}

-- what is live at each label
abbrev pub Table : Type 0
Table = ℕ → Registers

-- a row: for the 32 registers it says which are live; all numbers above them count as live
abbrev pub row : Registers → Registers
row s r = nat_le 32 r || s r

abbrev pub with_row : (label : ℕ) → Registers → Table → Table
with_row l s t n = if l == n then row s else t n

-- one sweep from the back: what is live before the steps, and the table with a new row for each label among them
abbrev pub swept : Table → List Step → Registers × Table
swept t [] = (nothing, t)
swept t (One (Label label) ∷ steps) = ((swept t steps).0, with_row label (swept t steps).0 (swept t steps).1)
swept t (step ∷ steps) = (live_before step (swept t steps).1 (swept t steps).0, (swept t steps).1)

abbrev pub rows : Table → List Step → Table
rows t steps = (swept t steps).1

abbrev pub all_below : ℕ → (ℕ → Bool) → Bool
all_below zero f = true
all_below (suc n) f = f n && all_below n f

-- whether each label's row has everything that is live there
abbrev pub fits : Table → List Step → Bool
fits t [] = true
fits t (One (Label label) ∷ steps) = all_below 32 (λ r. not (live t steps r) || t label r) && fits t steps
fits t (step ∷ steps) = fits t steps

-- before the first sweep none of the 32 registers is live at any label
abbrev pub nowhere : Table
nowhere label = row nothing

abbrev pub everywhere : Table
everywhere label r = true

-- the first table that fits, within this many more sweeps
abbrev pub settled_in : (sweeps : ℕ) → Table → List Step → Table
settled_in zero t code = everywhere
settled_in (suc n) t code = if fits (rows t code) code then rows t code else settled_in n (rows t code) code

abbrev pub most_sweeps : ℕ
most_sweeps = 32

-- the table of a function's labels; it is not unfolded, since its 32 sweeps would otherwise be in each goal that has a function's items
unfoldable pub table : List Step → Table
table code = settled_in most_sweeps nowhere code
