-- The refusals of a change that come before its room is checked.
use Rattle.std.specs.Prelude.{◌≡◌, ◌⊎◌, List}
use Rattle.cc_history.specs.History.{MemberView}
use Rattle.cc_history.specs.declared.entry.Entry.{Entry}
use Rattle.cc_history.specs.declared.standing.StandingFault.{StandingFault}
use Rattle.cc_history.specs.Standing.{IsStranger}
use Rattle.cc_recorded.specs.Fault.{fault_of}
use Rattle.cc_recorded.specs.declared.fault.BookFault.{BookFault}
use Rattle.cc_recorded.specs.declared.fault.BookFault.TheVariants.{OutOfMemory}

-- a call is refused before anything but the library's map is used: with 39 if the client's last receipt does not match the history, or
-- with 40
abbrev pub IsRefusedEarly : (history : List Entry) → MemberView → BookFault → Type 0
IsRefusedEarly history client fault = (fault ≡ OutOfMemory) ⊎ ((why : StandingFault) × (fault ≡ fault_of why) × IsStranger history client.receipts why)
