-- How many bytes a history counts as.
use Rattle.std.specs.Prelude.{ℕ, ◌+◌, ◌*◌, ◌-◌, ◌^◌, min, List, length, sum_by, Option, Some, None}
use Rattle.cc_unit.specs.declared.unit.StoredUnit.{StoredUnit}
use Rattle.cc_history.specs.Calls.{Command}
use Rattle.cc_library.specs.declared.command.Change.TheVariants.{Add, Replace, Withdraw}
use Rattle.cc_history.specs.declared.command.Asked.{Asked}
use Rattle.cc_history.specs.declared.command.Asked.TheVariants.{Change, Fetch, Names}
use Rattle.cc_history.specs.declared.reply.Reply.{Reply}
use Rattle.cc_history.specs.declared.reply.Reply.TheVariants as reply
use Rattle.cc_history.specs.declared.entry.Entry.{Entry}
use Rattle.cc_history.specs.declared.entry.Receipt.{Receipt}

-- the bytes of a certificate, if there is one
abbrev pub certificate_bytes : Option (List ℕ) → ℕ
certificate_bytes (Some bytes) = length bytes
certificate_bytes None = 0

-- a unit counts as its source's bytes, four for each word of its code and of its globals, and its certificate's bytes
abbrev pub unit_bytes : StoredUnit → ℕ
unit_bytes unit = length unit.source + 4 * length unit.image.code + 4 * length unit.image.globals + certificate_bytes unit.certificate

-- a command counts as the unit that it hands in, whatever its answer
abbrev pub command_bytes : Command → ℕ
command_bytes (Add name unit) = unit_bytes unit
command_bytes (Replace name unit) = unit_bytes unit
command_bytes (Withdraw name) = 0

abbrev pub asked_bytes : Asked → ℕ
asked_bytes (Change command) = command_bytes command
asked_bytes (Fetch name) = 0
asked_bytes Names = 0

-- a reply counts as 48 for each name in a list, however short the name; a unit in a reply belongs to the library and is not counted
abbrev pub reply_bytes : Reply → ℕ
reply_bytes reply.Done = 0
reply_bytes reply.Exists = 0
reply_bytes reply.Absent = 0
reply_bytes (reply.Unit unit) = 0
reply_bytes (reply.Names names) = 48 * length names

-- an entry counts as 256 bytes, plus those of what was asked and of the reply
abbrev pub entry_bytes : Entry → ℕ
entry_bytes entry = 256 + asked_bytes entry.asked + reply_bytes entry.reply

-- how many bytes the entries of these receipts count as together
abbrev pub receipts_bytes : List Receipt → ℕ
receipts_bytes receipts = sum_by (λ receipt. entry_bytes receipt.entry) receipts

-- this number, or the largest number of 64 bits if that is smaller
abbrev pub at_most_told : ℕ → ℕ
at_most_told bytes = min bytes (2 ^ 64 - 1)
