-- Writes that follow one another together write the whole text.
use Rattle.std.proofs.Common.{◌≡◌, ◌∙◌, ℕ, ◌+◌, ◌<◌, List, [], ◌∷◌, ◌++◌, length, take, get_or, Option, Result, Ok, Err, OnOk, refl, sym, ap, subst, append_assoc}
use Rattle.std.proofs.KnownBytes.{Appends-kept, Appends-nil, Appends-trans}
use Rattle.std.proofs.lemmas.List.{flat_map_more, take_more}
use Rattle.std.specs.List.{flat_map}
use Rattle.std.specs.Io.KnownBytes.{Appends, Keeps}
use Rattle.cc_script.specs.declared.fault.ScriptFault.{ScriptFault}
use Rattle.cc_answers.specs.Telling.{Tells}
use Rattle.cc_answers.specs.internal.Flushing.{Flushes}

-- two texts that are written one after the other are written as one text
pub written_on : {T E : Type 0} (answer : Result T E) (a b c : Option (List ℕ)) (xs ys : List ℕ) → Appends a b xs → OnOk answer (Appends b c ys) → OnOk answer (Appends a c (xs ++ ys))
written_on (Ok done) a b c xs ys one two = Appends-trans a b c xs ys one two
written_on (Err e) a b c xs ys one two = tt

-- three texts that are written one after another are written as one text
pub written_third : {T E : Type 0} (answer : Result T E) (a b c d : Option (List ℕ)) (xs ys zs : List ℕ) → Appends a b xs → Appends b c ys → OnOk answer (Appends c d zs) → OnOk answer (Appends a d (xs ++ ys ++ zs))
written_third answer a b c d xs ys zs one two three = written_on answer a c d (xs ++ ys) zs (Appends-trans a b c xs ys one two) three

-- if the texts of the first `i` elements are written, and then that of `item`, the next one, the first
-- `i + 1` are written
pub one_more : {A : Type 0} (text : A → List ℕ) (a b c : Option (List ℕ)) (items : List A) (i : ℕ) (item : A) → i < length items → get_or items i item ≡ item
    → Appends a b (flat_map text (take i items)) → Appends b c (text item) → Appends a c (flat_map text (take (i + 1) items))
one_more text a b c items i item within is one two =
    let more : take i items ++ item ∷ [] ≡ take (i + 1) items = ap (λ x. take i items ++ x ∷ []) (sym is) ∙ sym (take_more items i item within) in
    subst (λ (t : List ℕ). Appends a c t) (flat_map_more text [] (take i items) item ∙ ap (flat_map text) more) (Appends-trans a b c _ _ one two)

-- if a text is written, and the writer is then flushed, the text is an answer that was written
pub told : {T E U : Type 0} (write : Result T E) (answer : Result U ScriptFault) (a b c : Option (List ℕ)) (text : List ℕ) → OnOk write (Appends a b text) → Flushes write b c answer → Tells a c text answer
told (Ok done) (Ok sent) a b c text one two = (tt, Appends-kept a b c text one two)
told (Err e) (Ok sent) a b c text one two = absurd two
told (Ok done) (Err fault) a b c text one two = (two, tt)
told (Err e) (Err fault) a b c text one two = (two, tt)
