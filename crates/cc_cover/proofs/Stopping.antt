-- What was seen before the line of a stop, that line, and what was seen after it.
use Rattle.std.proofs.Common.{◌≡◌, ◌∙◌, ℕ, ◌+◌, ◌-◌, ◌<◌, false, List, [], ◌∷◌, ◌++◌, length, ap, Option, Some, Result, Ok, Err, OnOk, arith, length-append}
use Rattle.std.proofs.lemmas.List.{get_or_push}
use Rattle.std.proofs.lemmas.Option.{slice_get-get_or}
use Rattle.std.specs.Prelude.{IsOkAnd}
use Rattle.std.proofs.KnownBytes.{Appends-kept, Appends-trans}
use Rattle.std.specs.Io.KnownBytes.{Appends, Keeps}
use Rattle.cc_meaning.specs.declared.outcome.Outcome.{Outcome}
use Rattle.cc_meaning.specs.declared.outcome.Stop.{Stop}
use Rattle.cc_sources.specs.Joined.{is_other, lacks_newline}
use Rattle.cc_tasks.specs.Answer.{IsRan}
use Rattle.cc_tasks.specs.Written.{stop_text}
use Rattle.cc_tasks.specs.declared.answer.Answer.TheVariants.{Ran}
use Rattle.cc_cover.specs.Traced.{HasStop, IsTraced}

-- a text to which a newline was added ends with one
pub ends : (bytes : List ℕ) → lacks_newline (bytes ++ 10 ∷ []) ≡ false
ends bytes =
    let whole = bytes ++ 10 ∷ [] in
    let long : length whole ≡ length bytes + 1 = length-append bytes (10 ∷ []) in
    let last : length bytes ≡ length whole - 1 = omega (arith, long) in
    let within : length whole - 1 < length whole = omega (arith, long) in
    ap is_other (slice_get-get_or whole (length whole - 1) 10 within ∙ ap Some (get_or_push bytes 10 10 (length whole - 1) last))

-- if a text, the line of a stop and another text were written one after another, then `HasStop` holds
pub has_stop : {T E : Type 0} (answer : Result T E) (stop : Stop) (a b c d : Option (List ℕ)) (xs ys : List ℕ)
    → lacks_newline xs ≡ false → Appends a b xs → Appends b c (stop_text stop) → OnOk answer (Appends c d ys) → OnOk answer (HasStop stop a d)
has_stop (Ok done) stop a b c d xs ys begins one two three =
    record { before = xs; after = ys; begins = begins; written = Appends-trans a c d (xs ++ stop_text stop) ys (Appends-trans a b c xs (stop_text stop) one two) three }
has_stop (Err e) stop a b c d xs ys begins one two three = tt

-- a run is traced if the stop of its outcome was written this way, and flushed
pub traced : {T E : Type 0} (written : Result T E) (steps : ℕ) (words text : List ℕ) (outcome : Outcome) (a b c : Option (List ℕ))
    → IsRan steps words text (Ran outcome) → OnOk written (HasStop outcome.stop a b) → IsOkAnd written (λ _. Keeps b c) → IsTraced steps words text a c
traced (Ok done) steps words text outcome a b c ran had keeps =
    record { outcome = outcome; ran = ran; shown = record { before = had.before; after = had.after; begins = had.begins; written = Appends-kept a b c _ had.written keeps } }
traced (Err e) steps words text outcome a b c ran had keeps = absurd keeps
