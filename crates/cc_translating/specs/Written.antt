-- What `translate` writes.
use Rattle.std.specs.Prelude.{◌≡◌, ◌⊎◌, ℕ, Bool, true, false, List, [], ◌++◌, Option, Some, codes}
use Rattle.std.specs.Io.KnownBytes.{Appends}
use Rattle.cc_sources.specs.Reading.{IsTextOf}
use Rattle.cc_answers.specs.Text.{fault_line, line, place_text}
use Rattle.cc_translate.specs.Carried.{carried}
use Rattle.cc_translate.specs.Translates.{Translates}
use Rattle.cc_translate.specs.Fault.{fault_number, fault_place}
use Rattle.cc_translate.specs.Refused.{IsTranslateRefusal}
use Rattle.cc_translate.specs.declared.fault.TranslateFault.{TranslateFault}
use Rattle.cc_translate.specs.declared.fault.TranslateFault.TheVariants.{Untranslated}
use Rattle.cc_translating.specs.declared.translating.Wanted.{Wanted}
use Rattle.cc_translating.specs.declared.translating.Wanted.TheVariants.{Verdict, Text, Bare}

-- the text of a translation carries the wide text, unless it is to be bare
abbrev pub IsCarried : Wanted → (wide text : List ℕ) → Type 0
IsCarried Verdict wide text = carried text ≡ Some wide
IsCarried Text wide text = carried text ≡ Some wide
IsCarried Bare wide text = Unit {0}

-- a translation of the wide text
abbrev pub Answers : Wanted → (wide text : List ℕ) → Type 0
Answers wanted wide text = Translates wide text × IsCarried wanted wide text

-- what is written of it
abbrev pub answer_text : Wanted → (text : List ℕ) → List ℕ
answer_text Verdict text = codes "ok\n"
answer_text Text text = text
answer_text Bare text = text

-- the line of a fault: that of any command, and for 42 one of the same form
abbrev pub fault_text : TranslateFault → List ℕ
fault_text (Untranslated p) = line (codes "fault 42 Untranslated" ++ place_text p)
fault_text fault = fault_line (fault_number fault) (place_text (fault_place fault))

-- a translation of the reader's text was written, or `ok`
pub record IsAnswered (wanted : Wanted) (input old new : Option (List ℕ)) : Type 0 where
  pub wide : List ℕ
  pub read : IsTextOf input wide
  pub text : List ℕ
  pub answers : Answers wanted wide text
  pub written : Appends old new (answer_text wanted text)

-- the reader's text has this fault, and the fault's line was written
pub record IsTurnedDown (input old new : Option (List ℕ)) : Type 0 where
  pub wide : List ℕ
  pub read : IsTextOf input wide
  pub fault : TranslateFault
  pub refused : IsTranslateRefusal wide fault
  pub written : Appends old new (fault_text fault)

-- the text could not be read, or there was no room for it: the line of 53 or 40 was written
abbrev pub IsUnread : (old new : Option (List ℕ)) → Type 0
IsUnread old new = Appends old new (fault_line 53 []) ⊎ Appends old new (fault_line 40 [])

-- The command ended with this status. If all that was to be written is written, the status is 0 for a translation, and 1 for a fault. If
-- something could not be written, the status is 1, and nothing is known about what was written.
abbrev pub IsDone : Wanted → (input old new : Option (List ℕ)) → (status : ℕ) (written : Bool) → Type 0
IsDone wanted input old new status true = (IsAnswered wanted input old new × (status ≡ 0)) ⊎ ((status ≡ 1) × (IsTurnedDown input old new ⊎ IsUnread old new))
IsDone wanted input old new status false = status ≡ 1
