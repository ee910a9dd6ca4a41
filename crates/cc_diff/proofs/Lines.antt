-- Lines that are added one after the other.
use Rattle.std.proofs.Common.{◌≡◌, ◌<◌, ◌≤◌, ℕ, ◌+◌, List, [], ◌∷◌, ◌++◌, length, take, get_or, Result, Ok, Err, OnOk, sym, ap, ◌∙◌, append_assoc}
use Rattle.std.proofs.lemmas.List.{flat_map_more, take_all, take_more}
use Rattle.std.specs.List.{flat_map}

-- three lists of lines that are added one after another are added as one list
pub three : {T E A : Type 0} (answer : Result T E) (a b c d xs ys zs : List A) → b ≡ a ++ xs → c ≡ b ++ ys → OnOk answer (d ≡ c ++ zs) → OnOk answer (d ≡ a ++ (xs ++ (ys ++ zs)))
three (Err e) a b c d xs ys zs one two last = tt
three (Ok done) a b c d xs ys zs one two last =
    last ∙ (ap (λ l. l ++ zs) (two ∙ ap (λ l. l ++ ys) one) ∙ (append_assoc (a ++ xs) ys zs ∙ append_assoc a xs (ys ++ zs)))

-- if the lines are those of the first `i` names, and those of the next name are added, they are those of the
-- first `i + 1`
pub one_more : {A B : Type 0} (of : A → List B) (names : List A) (i : ℕ) (name : A) (old new : List B) → i < length names → name ≡ get_or names i name
    → old ≡ flat_map of (take i names) → new ≡ old ++ of name → new ≡ flat_map of (take (i + 1) names)
one_more of names i name old new within is before added =
    let more : take i names ++ name ∷ [] ≡ take (i + 1) names = ap (λ x. take i names ++ x ∷ []) is ∙ sym (take_more names i name within) in
    added ∙ (ap (λ l. l ++ of name) before ∙ (flat_map_more of [] (take i names) name ∙ ap (flat_map of) more))

-- after the last name, the lines are those of all names
pub all_lines : {A B : Type 0} (of : A → List B) (names keys : List A) (i : ℕ) (lines : List B) → lines ≡ flat_map of (take i names) → length names ≤ i → names ≡ keys → lines ≡ flat_map of keys
all_lines of names keys i lines is past same = is ∙ ap (flat_map of) (take_all i names past ∙ same)
