-- What is written as an answer to a script, and how that may fail.
use Rattle.std.specs.Prelude.{◌≡◌, ℕ, ◌==◌, if◌then◌else◌, List, [], ◌++◌, Option, Result, IfErr, OnOk, codes}
use Rattle.std.specs.List.{flat_map}
use Rattle.std.specs.Fmt.{decimal}
use Rattle.std.specs.Io.KnownBytes.{Appends}
use Rattle.cc_link.specs.declared.audit_answer.Audit.{Audit}
use Rattle.cc_link.specs.declared.audit_answer.Audit.TheVariants.{Confirmed, NoCertificate, Unconfirmed}
use Rattle.cc_library.specs.declared.space.SpaceUse.{SpaceUse}
use Rattle.cc_script.specs.Fault.{fault_number}
use Rattle.cc_script.specs.declared.fault.ScriptFault.{ScriptFault}
use Rattle.cc_script.specs.declared.fault.ScriptFault.TheVariants.{WriteFault}
use Rattle.cc_answers.specs.Text.{line, fault_line}

-- this text was appended to what was written before, and nothing else; or it could not be written, and the fault is 54
abbrev pub Tells : {T : Type 0} → (old new : Option (List ℕ)) (text : List ℕ) → Result T ScriptFault → Type 0
Tells old new text result = IfErr result (λ fault. fault ≡ WriteFault) × OnOk result (Appends old new text)

-- the line of a receipt: `ok` and its number
abbrev pub number_text : ℕ → List ℕ
number_text number = line (codes "ok " ++ decimal number)

-- the line of a unit: `unit` and its name
abbrev pub unit_text : List ℕ → List ℕ
unit_text name = line (codes "unit " ++ name)

-- the names of units, each on a line of its own
abbrev pub units_text : List (List ℕ) → List ℕ
units_text names = flat_map unit_text names

-- the names of a library's units, and the number of the receipt that has them
abbrev pub names_text : (names : List (List ℕ)) (number : ℕ) → List ℕ
names_text names number = units_text names ++ number_text number

-- the result of an audit
abbrev pub said_text : Audit → List ℕ
said_text Confirmed = line (codes " confirmed")
said_text NoCertificate = line (codes " none")
said_text Unconfirmed = line (codes " unconfirmed")

abbrev pub audit_text : (name : List ℕ) → Audit → List ℕ
audit_text name audit = codes "audit " ++ name ++ said_text audit

-- how much of its area a library uses: four numbers on a line
abbrev pub space_line : SpaceUse → List ℕ
space_line space =
    codes "space " ++ (decimal space.area ++ (codes " " ++ (decimal space.used ++ (codes " " ++ (decimal space.compacted ++ (codes " " ++ (decimal space.units ++ codes "\n")))))))

abbrev pub space_text : SpaceUse → List ℕ
space_text space = space_line space ++ line (codes "ok")

-- the line of a fault of the script; 54 has no line
abbrev pub script_fault_text : ScriptFault → List ℕ
script_fault_text fault = if fault_number fault == 54 then [] else fault_line (fault_number fault) []
