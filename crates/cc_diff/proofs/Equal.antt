-- The list of lines is empty exactly if the maps are equal.
use Rattle.std.proofs.Common.{◌≡◌, ℕ, List, [], ◌∷◌, ◌++◌, Bool, true, false, ◌&&◌, ◌||◌, refl, sym, ap, ◌∙◌, Option, Some, None}
use Rattle.std.specs.Prelude.{is_some}
use Rattle.std.specs.List.{flat_map, list_any}
use Rattle.std.specs.Str.{bytes_eq}
use Rattle.std.specs.Ordering.{eq_by_cmp}
use Rattle.std.specs.Cmp.Lexicographic.{nat_list_cmp_total}
use Rattle.std.proofs.lemmas.Slice.Eq.{bytes_eq-Decides}
use Rattle.std.specs.FinMap as map
use Rattle.cc_rv32.specs.declared.image.Image.{Image}
use Rattle.cc_unit.specs.declared.unit.StoredUnit.{StoredUnit}
use Rattle.cc_library.specs.Apply.{Units}
use Rattle.cc_diff.specs.declared.difference.Difference.{Difference}
use Rattle.cc_diff.specs.declared.difference.Difference.TheVariants.{Source, Image as ImagePart, Certificate}
use Rattle.cc_diff.specs.Diff.{HasNamesOf, is_same_certificate, is_same_image, lines_of, unless}
use Rattle.cc_diff.proofs.Names.{R, same_name}

-- ---- one name

first_none : {A : Type 0} (xs ys : List A) → xs ++ ys ≡ [] → xs ≡ []
first_none [] ys e = refl
first_none (x ∷ xs) ys e = cc

second_none : {A : Type 0} (xs ys : List A) → xs ++ ys ≡ [] → ys ≡ []
second_none [] ys e = e
second_none (x ∷ xs) ys e = cc

-- there is no line for a part only if the part is the same
is_same : (same : Bool) (name : List ℕ) (part : Difference) → unless same name part ≡ [] → same ≡ true
is_same true name part e = refl
is_same false name part e = cc

both : (a b : Bool) → (a && b) ≡ true → (a ≡ true) × (b ≡ true)
both true b e = (refl, e)
both false b e = cc

same_bytes : (xs ys : List ℕ) → bytes_eq xs ys ≡ true → xs ≡ ys
same_bytes xs ys e = (bytes_eq-Decides xs ys).0 e

itself : (xs : List ℕ) → bytes_eq xs xs ≡ true
itself xs = (bytes_eq-Decides xs xs).1 refl

same_certificate : (a b : Option (List ℕ)) → is_same_certificate a b ≡ true → a ≡ b
same_certificate None None e = refl
same_certificate None (Some y) e = cc
same_certificate (Some x) None e = cc
same_certificate (Some x) (Some y) e = ap Some (same_bytes x y e)

its_certificate : (a : Option (List ℕ)) → is_same_certificate a a ≡ true
its_certificate None = refl
its_certificate (Some x) = itself x

same_image : (a b : Image) → is_same_image a b ≡ true → a ≡ b
same_image a b e =
    let parts = both (bytes_eq a.code b.code) (bytes_eq a.globals b.globals) e in
    let code = same_bytes a.code b.code parts.0 in
    let globals = same_bytes a.globals b.globals parts.1 in
    λ i. record { code = code i; globals = globals i }

its_image : (a : Image) → is_same_image a a ≡ true
its_image a = ap (λ (x : Bool). x && bytes_eq a.globals a.globals) (itself a.code) ∙ itself a.globals

-- if a name has no line, its units on the two sides are the same
same_units : (name : List ℕ) (a b : Option StoredUnit) → lines_of name a b ≡ [] → a ≡ b
same_units name None None e = refl
same_units name None (Some y) e = cc
same_units name (Some x) None e = cc
same_units name (Some x) (Some y) e =
    let rest = second_none _ _ e in
    let source = same_bytes x.source y.source (is_same _ name _ (first_none _ _ e)) in
    let image = same_image x.image y.image (is_same _ name _ (first_none _ _ rest)) in
    let certificate = same_certificate x.certificate y.certificate (is_same _ name _ (second_none _ _ rest)) in
    λ i. Some (record { source = source i; image = image i; certificate = certificate i })

-- a part that is the same has no line
no_line : (same : Bool) (name : List ℕ) (part : Difference) → same ≡ true → unless same name part ≡ []
no_line same name part e = ap (λ (b : Bool). unless b name part) e

no_lines : (name : List ℕ) (a : Option StoredUnit) → lines_of name a a ≡ []
no_lines name None = refl
no_lines name (Some x) =
    λ i. no_line _ name Source (itself x.source) i ++ (no_line _ name ImagePart (its_image x.image) i ++ no_line _ name Certificate (its_certificate x.certificate) i)

-- ---- all names

none_here : {A : Type 0} (of : List ℕ → List A) (name q : List ℕ) (tie later : Bool) → eq_by_cmp R q name ≡ tie → of name ≡ [] → (later ≡ true → of q ≡ []) → (eq_by_cmp R q name || later) ≡ true → of q ≡ []
none_here of name q true later e here there is = ap of (same_name q name e) ∙ here
none_here of name q false later e here there is = there (sym (ap (λ (b : Bool). b || later) e) ∙ is)

none_at : {A : Type 0} (of : List ℕ → List A) (names : List (List ℕ)) (q : List ℕ) → flat_map of names ≡ [] → list_any (eq_by_cmp R q) names ≡ true → of q ≡ []
none_at of [] q e is = cc
none_at of (name ∷ names) q e is =
    none_here of name q (eq_by_cmp R q name) (list_any (eq_by_cmp R q) names) refl (first_none (of name) (flat_map of names) e)
    (λ there. none_at of names q (second_none (of name) (flat_map of names) e) there) is

all_none : {A : Type 0} (of : List ℕ → List A) (names : List (List ℕ)) → ((q : List ℕ) → of q ≡ []) → flat_map of names ≡ []
all_none of [] none = refl
all_none of (name ∷ names) none = λ i. none name i ++ all_none of names none i

neither : (a b : Bool) → (a || b) ≡ false → (a ≡ false) × (b ≡ false)
neither true b e = cc
neither false b e = (refl, e)

no_unit : (a b : Option StoredUnit) → is_some a ≡ false → is_some b ≡ false → a ≡ b
no_unit None None p q = refl
no_unit None (Some y) p q = cc
no_unit (Some x) b p q = cc

pub only_if_same : (left right all : Units) → HasNamesOf left right all → flat_map (λ name. lines_of name (map.get left name) (map.get right name)) (map.keys all) ≡ [] → left ≡ right
only_if_same left right all names e =
    map.same_map nat_list_cmp_total (map.slice_cmp-IsAntisymmetric map.nat_cmp-IsAntisymmetric) left right (λ q. at q (map.contains_key all q) refl)
  where
    at : (q : List ℕ) (has : Bool) → map.contains_key all q ≡ has → map.get left q ≡ map.get right q
    at q true is = same_units q (map.get left q) (map.get right q) (none_at (λ name. lines_of name (map.get left name) (map.get right name)) (map.keys all) q e (sym (map.contains_key-keys all q) ∙ is))
    at q false is =
        let none = neither (map.contains_key left q) (map.contains_key right q) (sym (names q) ∙ is) in
        no_unit (map.get left q) (map.get right q) none.0 none.1

pub if_same : (left right : Units) (names : List (List ℕ)) → left ≡ right → flat_map (λ name. lines_of name (map.get left name) (map.get right name)) names ≡ []
if_same left right names same = all_none (λ name. lines_of name (map.get left name) (map.get right name)) names
    (λ q. ap (λ (m : Units). lines_of q (map.get left q) (map.get m q)) (sym same) ∙ no_lines q (map.get left q))
