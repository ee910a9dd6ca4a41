-- A run that has stopped in place.
use Rattle.std.specs.Prelude.{ℕ, Bool, ◌&&◌, List}
use Rattle.cc_rv32.specs.declared.image.Image.{Image}
use Rattle.cc_rv32.specs.Machine.{Run, machine_run, start, instruction_at}
use Rattle.cc_rv32.specs.InPlace.{is_going, jumps_to_itself}

-- a run is going, and its next instruction is a jump to itself
abbrev pub is_at_jump : Image → Run → Bool
is_at_jump image r = is_going r.outcome && jumps_to_itself (instruction_at image.code r.state.pc)

-- the image's run on the input words has stopped in place within n instructions
abbrev pub is_final_at : Image → (words : List ℕ) (n : ℕ) → Bool
is_final_at image words n = is_at_jump image (machine_run image.code n (start image words))
