-- How far the command got.
use Rattle.std.specs.Prelude.{◌≡◌, ◌⊎◌, ℕ, Bool, true, false, List, Option, Some, None, Result, Ok, Err}
use Rattle.std.specs.Io.KnownBytes.{Appends, Keeps}
use Rattle.cc_translate.specs.Refused.{IsTranslateRefusal}
use Rattle.cc_translate.specs.declared.fault.TranslateFault.{TranslateFault}
use Rattle.cc_translating.specs.declared.translating.Wanted.{Wanted}
use Rattle.cc_translating.specs.declared.translating.Told.{Told}
use Rattle.cc_translating.specs.declared.translating.Done.{Done}
use Rattle.cc_translating.specs.Written.{Answers, IsUnread, answer_text, fault_text}

-- if so, the write succeeded, and the flush wrote nothing more
abbrev pub Flushes : {T E : Type 0} → Result T E → (old new : Option (List ℕ)) → Bool → Type 0
Flushes (Ok done) old new true = Keeps old new
Flushes (Err failed) old new true = ⊥
Flushes write old new false = Unit {0}

-- a translation of the text was written, or `ok`
pub record IsAnsweredFor (wanted : Wanted) (wide : List ℕ) (old new : Option (List ℕ)) : Type 0 where
  pub text : List ℕ
  pub answers : Answers wanted wide text
  pub written : Appends old new (answer_text wanted text)

-- the text has this fault, and the fault's line was written
pub record IsRefusedFor (wide : List ℕ) (old new : Option (List ℕ)) (fault : TranslateFault) : Type 0 where
  pub refused : IsTranslateRefusal wide fault
  pub written : Appends old new (fault_text fault)

abbrev pub IsToldOf : Wanted → (wide : List ℕ) (old new : Option (List ℕ)) → Option TranslateFault → Bool → Type 0
IsToldOf wanted wide old new None true = IsAnsweredFor wanted wide old new
IsToldOf wanted wide old new (Some fault) true = IsRefusedFor wide old new fault
IsToldOf wanted wide old new fault false = Unit {0}

abbrev pub IsTold : Wanted → (wide : List ℕ) (old new : Option (List ℕ)) → Told → Type 0
IsTold wanted wide old new told = IsToldOf wanted wide old new told.fault told.is_written

-- the status
abbrev pub status_of : Option TranslateFault → Bool → ℕ
status_of None true = 0
status_of None false = 1
status_of (Some fault) written = 1

abbrev pub IsDoneAs : Told → Done → Type 0
IsDoneAs told done = (done.status ≡ status_of told.fault told.is_written) × (done.is_written ≡ told.is_written)

-- the command ended for a text
abbrev pub IsDoneFor : Wanted → (wide : List ℕ) (old new : Option (List ℕ)) → (status : ℕ) (written : Bool) → Type 0
IsDoneFor wanted wide old new status true =
    (IsAnsweredFor wanted wide old new × (status ≡ 0)) ⊎ ((status ≡ 1) × ((fault : TranslateFault) × IsRefusedFor wide old new fault))
IsDoneFor wanted wide old new status false = status ≡ 1

-- the command ended without a text
abbrev pub IsUnreadDone : (old new : Option (List ℕ)) → (status : ℕ) (written : Bool) → Type 0
IsUnreadDone old new status true = (status ≡ 1) × IsUnread old new
IsUnreadDone old new status false = status ≡ 1
