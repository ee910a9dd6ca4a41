-- How a script from a spool ended, and how a service that was given up ends.
use Rattle.std.specs.Prelude.{◌≡◌, ℕ, Bool, true, false, Option, Some, None, Result, Ok, Err}
use Rattle.cc_script.specs.Fault.{fault_number}
use Rattle.cc_script.specs.declared.fault.ScriptFault.{ScriptFault}
use Rattle.cc_session.specs.declared.end.SessionEnd.{SessionEnd}
use Rattle.cc_session.specs.declared.end.SessionEnd.TheVariants.{Finished, Fault}

-- the script ended with the number of this fault, if a fault ended it
abbrev pub EndOf : {T : Type 0} → Result T ScriptFault → Option ℕ → Type 0
EndOf (Ok done) end = end ≡ None
EndOf (Err fault) end = end ≡ Some (fault_number fault)

-- 39 if not all receipts are in the history; else the fault that ended the clients' work, or 40 if none did
abbrev pub given_up_after : (are_all : Bool) (played : SessionEnd) → SessionEnd
given_up_after true Finished = Fault 40
given_up_after true (Fault first) = Fault first
given_up_after false played = Fault 39
