-- What was written for a call.
use Rattle.std.proofs.Common.{◌≡◌, inl, inr, ℕ, Bool, true, false, IsTrue, List, Option, Some, None, Result, Ok, Err, refl, sym, ap, ◌∙◌}
use Rattle.std.specs.Prelude.{IfErr, IfOk, IfSome, IsOk, OnOk}
use Rattle.std.specs.Io.KnownBytes.{Appends, Keeps}
use Rattle.std.proofs.KnownBytes.{Appends-kept}
use Rattle.std.proofs.lemmas.Bool.{false≢true}
use Rattle.cc_rv32.specs.declared.image.Image.{Image}
use Rattle.cc_unit.specs.declared.unit.StoredUnit.{StoredUnit}
use Rattle.cc_runs.specs.declared.count.CountedRun.{CountedRun}
use Rattle.cc_runs.specs.declared.live.LiveEnd.{LiveEnd}
use Rattle.cc_runs.specs.declared.live.LiveEnd.TheVariants as live
use Rattle.cc_runs.specs.Live.{GoesLive}
use Rattle.cc_tasks.specs.Part.{IsNoPartOn}
use Rattle.cc_tasks.specs.declared.part.PartFault.{PartFault}
use Rattle.cc_tasks.specs.declared.work.Done.{Done}
use Rattle.cc_call.specs.Call.{IsCallOn, IsUnitOn}
use Rattle.cc_call.specs.Lines.{CallsLines}
use Rattle.cc_call.specs.declared.lines.LinesEnd.{LinesEnd}
use Rattle.cc_call.specs.declared.lines.LinesEnd.TheVariants as lines
use Rattle.cc_call.specs.Answered.{AnswersTheLines, AnswersLive, CallsLinesOn, CallsLiveOn, CallsOn, IsAnswer}

-- if a text was written, and the flush succeeded, the writer still has the text after the flush
pub settled_text : {T E : Type 0} (write : Result T E) (a b c : Option (List ℕ)) (text : List ℕ) (written : Bool) (status given : ℕ) → OnOk write (Appends a b text)
    → (written ≡ true → IsOk write × Keeps b c × (status ≡ given)) → written ≡ true → Appends a c text × (status ≡ given)
settled_text (Ok done) a b c text written status given one two is = (Appends-kept a b c text one (two is).1, (two is).2)
settled_text (Err e) a b c text written status given one two is = let no = (two is).0 in absurd (cc)

-- one run
pub calls_on : (honest : Bool) (seen : List ℕ) (before after : ℕ) (name : List ℕ) (counted : Bool) (steps : ℕ) (most : Option ℕ) (words : List ℕ) (found : Result CountedRun PartFault) (old new : Option (List ℕ)) (status : ℕ)
    → IfOk found (IsCallOn honest seen name counted steps most words) → IfErr found (λ fault. IsNoPartOn honest seen before after name fault) → IsAnswer found old new status
    → CallsOn honest seen before name counted steps most words old new status
calls_on honest seen before after name counted steps most words (Ok run) old new status is none told = inl (run, is, told)
calls_on honest seen before after name counted steps most words (Err fault) old new status is none told = inr (fault, (after, none), told)

-- a status, and whether all was written
abbrev pub IsDone : Done → (status : ℕ) (is_written : Bool) → Type 0
IsDone done status is_written = done ≡ record { status = status; is_written = is_written }

not_written : (done : Done) (status : ℕ) → IsDone done status false → done.is_written ≡ true → ⊥
not_written done status is written = false≢true (sym (ap (λ (d : Done). d.is_written) is) ∙ written)

status_is : (done : Done) (status : ℕ) (is_written : Bool) → IsDone done status is_written → done.status ≡ status
status_is done status is_written is = ap (λ (d : Done). d.status) is

-- how the lines have ended, and the status of that
pub lines_told : (image : Image) (counted : Bool) (steps : ℕ) (most : Option ℕ) (known old new : Option (List ℕ)) (end : LinesEnd) (done : Done)
    → IfSome known (λ input. CallsLines image counted steps most input old new end)
    → (end ≡ lines.Answered → IsDone done 0 true) → (end ≡ lines.Refused → IsDone done 1 true) → (end ≡ lines.Unwritten → IsDone done 1 false)
    → done.is_written ≡ true → IfSome known (λ input. AnswersTheLines image counted steps most input old new done.status)
lines_told image counted steps most None old new end done calls a r u written = tt
lines_told image counted steps most (Some input) old new lines.Answered done calls a r u written = inl (calls, status_is done 0 true (a refl))
lines_told image counted steps most (Some input) old new lines.Refused done calls a r u written = inr (calls, status_is done 1 true (r refl))
lines_told image counted steps most (Some input) old new lines.Unwritten done calls a r u written = absurd (not_written done 1 (u refl) written)

pub lines_unwritten : (end : LinesEnd) (done : Done) → (end ≡ lines.Answered → IsDone done 0 true) → (end ≡ lines.Refused → IsDone done 1 true) → (end ≡ lines.Unwritten → IsDone done 1 false)
    → done.is_written ≡ false → done.status ≡ 1
lines_unwritten lines.Answered done a r u written = absurd (false≢true (sym written ∙ ap (λ (d : Done). d.is_written) (a refl)))
lines_unwritten lines.Refused done a r u written = status_is done 1 true (r refl)
lines_unwritten lines.Unwritten done a r u written = status_is done 1 false (u refl)

-- how a run whose input comes has ended, and the status of that
pub live_told : (image : Image) (steps : ℕ) (zeros : Bool) (known old new : Option (List ℕ)) (end : LiveEnd) (done : Done)
    → IfSome known (λ input. GoesLive image steps zeros input old new end)
    → ((f : Bool) → end ≡ live.Ended f false → IsDone done 0 true) → ((f : Bool) → end ≡ live.Ended f true → IsDone done 1 true) → (end ≡ live.Refused → IsDone done 1 true)
    → (end ≡ live.Unwritten → IsDone done 1 false) → done.is_written ≡ true → IfSome known (λ input. AnswersLive image steps zeros input old new done.status)
live_told image steps zeros None old new end done goes e b r u written = tt
live_told image steps zeros (Some input) old new (live.Ended f false) done goes e b r u written = inl ((f, goes), status_is done 0 true (e f refl))
live_told image steps zeros (Some input) old new (live.Ended f true) done goes e b r u written = inr (inl ((f, goes), status_is done 1 true (b f refl)))
live_told image steps zeros (Some input) old new live.Refused done goes e b r u written = inr (inr (goes, status_is done 1 true (r refl)))
live_told image steps zeros (Some input) old new live.Unwritten done goes e b r u written = absurd (not_written done 1 (u refl) written)

pub live_unwritten : (end : LiveEnd) (done : Done) → ((f : Bool) → end ≡ live.Ended f false → IsDone done 0 true) → ((f : Bool) → end ≡ live.Ended f true → IsDone done 1 true) → (end ≡ live.Refused → IsDone done 1 true)
    → (end ≡ live.Unwritten → IsDone done 1 false) → done.is_written ≡ false → done.status ≡ 1
live_unwritten (live.Ended f false) done e b r u written = absurd (false≢true (sym written ∙ ap (λ (d : Done). d.is_written) (e f refl)))
live_unwritten (live.Ended f true) done e b r u written = status_is done 1 true (b f refl)
live_unwritten live.Refused done e b r u written = status_is done 1 true (r refl)
live_unwritten live.Unwritten done e b r u written = status_is done 1 false (u refl)

-- a unit was found, and its lines were answered; or it was not
pub lines_on : (honest : Bool) (seen : List ℕ) (before : ℕ) (name : List ℕ) (counted : Bool) (steps : ℕ) (most : Option ℕ) (unit : StoredUnit) (known old new : Option (List ℕ)) (status : ℕ)
    → (IsTrue honest → IsUnitOn seen name unit) → IfSome known (λ input. AnswersTheLines unit.image counted steps most input old new status)
    → IfSome known (λ input. CallsLinesOn honest seen before name counted steps most input old new status)
lines_on honest seen before name counted steps most unit None old new status is told = tt
lines_on honest seen before name counted steps most unit (Some input) old new status is told = inl (unit, is, told)

pub lines_refused : (honest : Bool) (seen : List ℕ) (before : ℕ) (name : List ℕ) (counted : Bool) (steps : ℕ) (most : Option ℕ) (fault : PartFault) (known old new : Option (List ℕ)) (status : ℕ)
    → ((after : ℕ) × IsNoPartOn honest seen before after name fault) → IsAnswer (Err fault) old new status
    → IfSome known (λ input. CallsLinesOn honest seen before name counted steps most input old new status)
lines_refused honest seen before name counted steps most fault None old new status none told = tt
lines_refused honest seen before name counted steps most fault (Some input) old new status none told = inr (fault, none, told)

pub live_on : (honest : Bool) (seen : List ℕ) (before : ℕ) (name : List ℕ) (steps : ℕ) (zeros : Bool) (unit : StoredUnit) (known old new : Option (List ℕ)) (status : ℕ)
    → (IsTrue honest → IsUnitOn seen name unit) → IfSome known (λ input. AnswersLive unit.image steps zeros input old new status)
    → IfSome known (λ input. CallsLiveOn honest seen before name steps zeros input old new status)
live_on honest seen before name steps zeros unit None old new status is told = tt
live_on honest seen before name steps zeros unit (Some input) old new status is told = inl (unit, is, told)

pub live_refused : (honest : Bool) (seen : List ℕ) (before : ℕ) (name : List ℕ) (steps : ℕ) (zeros : Bool) (fault : PartFault) (known old new : Option (List ℕ)) (status : ℕ)
    → ((after : ℕ) × IsNoPartOn honest seen before after name fault) → IsAnswer (Err fault) old new status
    → IfSome known (λ input. CallsLiveOn honest seen before name steps zeros input old new status)
live_refused honest seen before name steps zeros fault None old new status none told = tt
live_refused honest seen before name steps zeros fault (Some input) old new status none told = inr (fault, none, told)
