-- The units chosen are those of the names so far.
use Rattle.std.proofs.Common.{◌≡◌, ℕ, ◌+◌, ◌<◌, List, ◌++◌, length, take, drop, get_or, IsTrue, Bool, true, false, ◌||◌, refl, sym, ap, ◌∙◌, cond, Option, Some, None}
use Rattle.std.specs.Prelude.{if◌then◌else◌, is_some, Err, Ok}
use Rattle.std.specs.List.{list_any}
use Rattle.std.specs.Str.{bytes_eq}
use Rattle.std.specs.declared.cmp.Ordering.{Ordering}
use Rattle.std.specs.Ordering.{nat_cmp, eq_by_cmp}
use Rattle.std.specs.Cmp.Lexicographic.{slice_cmp, nat_list_cmp_total}
use Rattle.std.proofs.lemmas.Cmp.{eq_by_cmp_equiv}
use Rattle.std.proofs.lemmas.List.{take-append-drop}
use Rattle.std.proofs.lemmas.List.Folds.{list_any_more, list_any-append}
use Rattle.std.proofs.lemmas.Map.Text.{is_eq-slice_cmp}
use Rattle.std.proofs.lemmas.Slice.Eq.{bytes_eq-Decides}
use Rattle.std.specs.FinMap as map
use Rattle.cc_unit.specs.declared.unit.StoredUnit.{StoredUnit}
use Rattle.cc_library.specs.declared.command.Change.TheVariants.{Add}
use Rattle.cc_library.specs.Apply.{Units, after, kept, exists}
use Rattle.cc_copy.specs.Choice.{is_among}

abbrev R : List ℕ → List ℕ → Ordering
R = slice_cmp nat_cmp

-- the chosen map's unit for a name: the map's, if the name is one of those so far
abbrev pub Chosen : (units : Units) (so_far : Bool) (name : List ℕ) → Option StoredUnit → Type 0
Chosen units so_far name found = found ≡ (if so_far then map.get units name else None)

or_true : (a : Bool) → (a || true) ≡ true
or_true true = refl
or_true false = refl

or_none : (a : Bool) → (a || false) ≡ a
or_none true = refl
or_none false = refl

by_tie : (units : Units) (so_far tie : Bool) (q name : List ℕ) (unit : StoredUnit) (found : Option StoredUnit) → bytes_eq q name ≡ tie → map.get units name ≡ Some unit
    → Chosen units so_far q found → Chosen units (so_far || tie) q (cond tie (Some unit) found)
by_tie units so_far true q name unit found e is before =
    let same : q ≡ name = (bytes_eq-Decides q name).0 e in
    sym is ∙ (ap (map.get units) (sym same) ∙ sym (ap (λ (b : Bool). if b then map.get units q else None) (or_true so_far)))
by_tie units so_far false q name unit found e is before = before ∙ sym (ap (λ (b : Bool). if b then map.get units q else None) (or_none so_far))

-- if the chosen map has a unit under the name already, that unit is the map's
again : (units : Units) (so_far tie : Bool) (q name : List ℕ) (unit : StoredUnit) (found : Option StoredUnit) → bytes_eq q name ≡ tie → map.get units name ≡ Some unit
    → (tie ≡ true → is_some found ≡ true) → Chosen units so_far q found → Chosen units (so_far || tie) q found
again units true true q name unit found e is has before = before
again units false true q name unit found e is has before = absurd (cc (has refl, before))
again units so_far false q name unit found e is has before = before ∙ sym (ap (λ (b : Bool). if b then map.get units q else None) (or_none so_far))

step : (units chosen : Units) (so_far : Bool) (q name : List ℕ) (unit : StoredUnit) (has : Bool) → map.contains_key chosen name ≡ has → map.get units name ≡ Some unit
    → Chosen units so_far q (map.get chosen q) → Chosen units (so_far || bytes_eq q name) q (map.get (after chosen (Add name unit)) q)
step units chosen so_far q name unit true e is before =
    let stays : after chosen (Add name unit) ≡ chosen = ap (λ (b : Bool). kept chosen (if b then Err exists else Ok (map.insert chosen name unit))) e in
    let same = λ (t : bytes_eq q name ≡ true). ap (λ (n : List ℕ). map.contains_key chosen n) ((bytes_eq-Decides q name).0 t) ∙ e in
    ap (λ (m : Units). map.get m q) stays ∙ again units so_far (bytes_eq q name) q name unit (map.get chosen q) refl is same before
step units chosen so_far q name unit false e is before =
    let made : after chosen (Add name unit) ≡ map.insert chosen name unit = ap (λ (b : Bool). kept chosen (if b then Err exists else Ok (map.insert chosen name unit))) e in
    ap (λ (m : Units). map.get m q) made
    ∙ (map.get-insert nat_list_cmp_total chosen name unit q
    ∙ (ap (λ (b : Bool). cond b (Some unit) (map.get chosen q)) (is_eq-slice_cmp q name) ∙ by_tie units so_far (bytes_eq q name) q name unit (map.get chosen q) refl is before))

-- if the unit of one more name is added, the units chosen are still those of the names so far
pub one_more : (units chosen new : Units) (names : List (List ℕ)) (i : ℕ) (q name : List ℕ) (unit : StoredUnit) → i < length names → name ≡ get_or names i name → new ≡ after chosen (Add name unit)
    → map.get units name ≡ Some unit → Chosen units (is_among (take i names) q) q (map.get chosen q) → Chosen units (is_among (take (i + 1) names) q) q (map.get new q)
one_more units chosen new names i q name unit within at is there before =
    let more : is_among (take (i + 1) names) q ≡ (is_among (take i names) q || bytes_eq q name) = list_any_more (bytes_eq q) names i name within ∙ ap (λ (n : List ℕ). is_among (take i names) q || bytes_eq q n) (sym at) in
    ap (λ (m : Units). map.get m q) is
    ∙ (step units chosen (is_among (take i names) q) q name unit (map.contains_key chosen name) refl there before
    ∙ ap (λ (b : Bool). if b then map.get units q else None) (sym more))

-- if a name has a unit, the map contains the name
pub has : (units : Units) (name : List ℕ) (unit : StoredUnit) → map.get units name ≡ Some unit → IsTrue (map.contains_key units name)
has units name unit e = ap is_some e

-- each key of a map has a unit
pub key_there : (units : Units) (names : List (List ℕ)) (k : ℕ) (d : List ℕ) → names ≡ map.keys units → k < length names → IsTrue (map.contains_key units (get_or names k d))
key_there units names k d keys within =
    let q = get_or names k d in
    let p = eq_by_cmp R q in
    let here : list_any p (take (k + 1) names) ≡ true =
    list_any_more p names k d within ∙ (ap (λ (b : Bool). list_any p (take k names) || b) ((eq_by_cmp_equiv nat_list_cmp_total).refl q) ∙ or_true (list_any p (take k names))) in
    let parts : take (k + 1) names ++ drop (k + 1) names ≡ names = take-append-drop (k + 1) names in
    let all : list_any p names ≡ true = ap (list_any p) (sym parts) ∙ (list_any-append p (take (k + 1) names) (drop (k + 1) names) ∙ ap (λ (b : Bool). b || list_any p (drop (k + 1) names)) here) in
    map.contains_key-keys units q ∙ (ap (list_any p) (sym keys) ∙ all)
