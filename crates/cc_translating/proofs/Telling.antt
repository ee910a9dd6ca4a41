-- What the command writes for what it reads.
use Rattle.std.proofs.Common.{◌≡◌, ℕ, if◌then◌else◌, Bool, true, false, List, [], Option, Some, None, Result, Ok, Err, OnOk, refl, sym, subst, inl, inr}
use Rattle.std.proofs.KnownBytes.{Appends-kept}
use Rattle.std.specs.Io.KnownBytes.{Appends}
use Rattle.cc_sources.specs.Reading.{IsTextOf}
use Rattle.cc_answers.specs.Text.{fault_line}
use Rattle.cc_translate.specs.Refused.{IsTranslateRefusal}
use Rattle.cc_translate.specs.declared.fault.TranslateFault.{TranslateFault}
use Rattle.cc_translating.specs.declared.translating.Wanted.{Wanted}
use Rattle.cc_translating.specs.Written.{Answers, IsDone, answer_text, fault_text}
use Rattle.cc_translating.specs.internal.Working.{Flushes, IsDoneFor, IsToldOf, IsUnreadDone, status_of}

-- a text was appended and the writer was then flushed: the text is written
written : {T E : Type 0} (write : Result T E) (a b c : Option (List ℕ)) (text : List ℕ) → OnOk write (Appends a b text) → Flushes write b c true → Appends a c text
written (Ok done) a b c text one two = Appends-kept a b c text one two
written (Err e) a b c text one two = absurd two

pub told_answer : {T E : Type 0} (write : Result T E) (is : Bool) (a b c : Option (List ℕ)) (wanted : Wanted) (wide text : List ℕ) → Answers wanted wide text
    → OnOk write (Appends a b (answer_text wanted text)) → Flushes write b c is → IsToldOf wanted wide a c None is
told_answer write true a b c wanted wide text answers one two = record { text = text; answers = answers; written = written write a b c (answer_text wanted text) one two }
told_answer write false a b c wanted wide text answers one two = tt

pub told_fault : {T E : Type 0} (write : Result T E) (is : Bool) (a b c : Option (List ℕ)) (wanted : Wanted) (wide : List ℕ) (fault : TranslateFault) → IsTranslateRefusal wide fault
    → OnOk write (Appends a b (fault_text fault)) → Flushes write b c is → IsToldOf wanted wide a c (Some fault) is
told_fault write true a b c wanted wide fault refused one two = record { refused = refused; written = written write a b c (fault_text fault) one two }
told_fault write false a b c wanted wide fault refused one two = tt

done_as : (fault : Option TranslateFault) (is : Bool) (wanted : Wanted) (wide : List ℕ) (a c : Option (List ℕ)) → IsToldOf wanted wide a c fault is → IsDoneFor wanted wide a c (status_of fault is) is
done_as None true wanted wide a c told = inl (told, refl)
done_as None false wanted wide a c told = refl
done_as (Some fault) true wanted wide a c told = inr (refl, (fault, told))
done_as (Some fault) false wanted wide a c told = refl

pub done_for : (fault : Option TranslateFault) (is shown : Bool) (status : ℕ) (wanted : Wanted) (wide : List ℕ) (a c : Option (List ℕ)) → IsToldOf wanted wide a c fault is → (status ≡ status_of fault is) × (shown ≡ is)
    → IsDoneFor wanted wide a c status shown
done_for fault is shown status wanted wide a c told same =
    subst (λ (b : Bool). IsDoneFor wanted wide a c status b) (sym same.1) (subst (λ (n : ℕ). IsDoneFor wanted wide a c n is) (sym same.0) (done_as fault is wanted wide a c told))

pub unread_done : {T E : Type 0} (write : Result T E) (is memory : Bool) (number : ℕ) (a b c : Option (List ℕ)) → number ≡ (if memory then 40 else 53) → OnOk write (Appends a b (fault_line number [])) → Flushes write b c is → IsUnreadDone a c 1 is
unread_done write true true number a b c e one two = (refl, inr (subst (λ (n : ℕ). Appends a c (fault_line n [])) e (written write a b c (fault_line number []) one two)))
unread_done write true false number a b c e one two = (refl, inl (subst (λ (n : ℕ). Appends a c (fault_line n [])) e (written write a b c (fault_line number []) one two)))
unread_done write false memory number a b c e one two = refl

-- the text is the reader's
pub done_of : (is : Bool) (status : ℕ) (wanted : Wanted) (wide : List ℕ) (input a b c : Option (List ℕ)) → IsTextOf input wide → b ≡ a → IsDoneFor wanted wide b c status is → IsDone wanted input a c status is
done_of true status wanted wide input a b c read same (inl it) =
    inl (record { wide = wide; read = read; text = it.0.text; answers = it.0.answers; written = subst (λ (o : Option (List ℕ)). Appends o c (answer_text wanted it.0.text)) same it.0.written }, it.1)
done_of true status wanted wide input a b c read same (inr it) =
    inr (it.0, inl (record { wide = wide; read = read; fault = it.1.0; refused = it.1.1.refused; written = subst (λ (o : Option (List ℕ)). Appends o c (fault_text it.1.0)) same it.1.1.written }))
done_of false status wanted wide input a b c read same it = it

-- there is no text
pub done_without : (is : Bool) (status : ℕ) (wanted : Wanted) (input a c : Option (List ℕ)) → IsUnreadDone a c status is → IsDone wanted input a c status is
done_without true status wanted input a c it = inr (it.0, inr it.1)
done_without false status wanted input a c it = it
