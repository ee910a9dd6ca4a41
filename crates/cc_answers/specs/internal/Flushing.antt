-- A flush after a write.
use Rattle.std.specs.Prelude.{◌≡◌, List, ℕ, Option, Result, Ok, Err}
use Rattle.std.specs.Io.KnownBytes.{Keeps}
use Rattle.cc_script.specs.declared.fault.ScriptFault.{ScriptFault}
use Rattle.cc_script.specs.declared.fault.ScriptFault.TheVariants.{WriteFault}

-- the write succeeded, and nothing more was written by the flush; or one of the two failed, and the fault is 54
abbrev pub Flushes : {T E U : Type 0} → Result T E → (old new : Option (List ℕ)) → Result U ScriptFault → Type 0
Flushes (Ok done) old new (Ok told) = Keeps old new
Flushes (Err failed) old new (Ok told) = ⊥
Flushes write old new (Err fault) = fault ≡ WriteFault
