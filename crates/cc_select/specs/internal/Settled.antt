-- When a table of what is live at labels is right.
use Rattle.std.specs.Prelude.{◌≡◌, ℕ, true, List}
use Rattle.cc_select.specs.declared.step.Step.{Step}
use Rattle.cc_select.specs.Selected.{place}
use Rattle.cc_select.specs.Live.{Registers, live}

-- what the table has at each label includes everything that is live at the label's place
abbrev pub IsSettled : (at_label : ℕ → Registers) → (code : List Step) → Type 0
IsSettled at code = (label r : ℕ) → live at (place code label) r ≡ true → at label r ≡ true
