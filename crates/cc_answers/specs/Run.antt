-- What an image does.
use Rattle.std.specs.Prelude.{◌≡◌, ℕ, List}
use Rattle.cc_rv32.specs.declared.image.Image.{Image}
use Rattle.cc_rv32.specs.Machine.{machine_behavior}
use Rattle.cc_answers.specs.declared.run.ImageRun.{ImageRun}

-- what an image does on the input words within this many instructions
abbrev pub IsRunOf : Image → (steps : ℕ) → (words : List ℕ) → ImageRun → Type 0
IsRunOf image steps words run = machine_behavior image words steps ≡ record { outcome = run.outcome; output = run.output.items }
