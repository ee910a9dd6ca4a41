-- What the code that writes statements stores, in terms of the definitions.
use Rattle.std.specs.Prelude.{ℕ, ◌+◌, ◌-◌, List, ◌∷◌, ◌++◌, length}
use Rattle.cc_meaning.specs.internal.Form as form
use Rattle.cc_meaning.specs.declared.form.Instruction.{Instruction}
use Rattle.cc_meaning.specs.declared.form.Instruction.TheVariants.{JumpIfZero}
use Rattle.cc_meaning.specs.declared.writer.statements.Exits.{Exits}

-- the targets of a break and a continue; the code stores how many of the n written instructions follow each
abbrev pub exits_of : ℕ → Exits → form.Exits
exits_of n e = record { breaks = n - e.breaks; continues = n - e.continues }

-- a condition, and the instructions that run if it holds; if not, these and `more` further ones are skipped
abbrev pub conditional_code : List Instruction → List Instruction → ℕ → List Instruction
conditional_code test held more = test ++ JumpIfZero (length held + more) ∷ held
