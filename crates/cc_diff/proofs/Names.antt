-- The names of both maps: those of the left one, and those of the right one that were added so far.
use Rattle.std.proofs.Common.{◌≡◌, ℕ, ◌+◌, ◌<◌, ◌≤◌, List, ◌++◌, length, take, drop, get_or, Bool, true, false, ◌||◌, refl, sym, ap, ◌∙◌, cond, Option, Some}
use Rattle.std.specs.Prelude.{if◌then◌else◌, is_some, Result, Ok, Err, OnOk}
use Rattle.std.specs.List.{list_any}
use Rattle.std.specs.declared.cmp.Ordering.{Ordering}
use Rattle.std.specs.declared.cmp.Ordering.TheVariants.{Equal}
use Rattle.std.specs.Ordering.{nat_cmp, eq_by_cmp}
use Rattle.std.specs.Cmp.{Equal-is}
use Rattle.std.specs.Cmp.Lexicographic.{slice_cmp, nat_list_cmp_total}
use Rattle.std.proofs.lemmas.List.{take-append-drop, take_all}
use Rattle.std.proofs.lemmas.Cmp.{eq_by_cmp_equiv}
use Rattle.std.proofs.lemmas.List.Folds.{list_any_more, list_any-append}
use Rattle.std.specs.FinMap as map
use Rattle.cc_unit.specs.declared.unit.StoredUnit.{StoredUnit}
use Rattle.cc_library.specs.declared.command.Change.TheVariants.{Add}
use Rattle.cc_library.specs.Apply.{Units, after, kept, exists}
use Rattle.cc_diff.specs.internal.Names.{HasNameToo}

abbrev pub R : List ℕ → List ℕ → Ordering
R = slice_cmp nat_cmp

-- two names that compare as equal are the same
tied : (q name : List ℕ) → eq_by_cmp R q name ≡ true → R q name ≡ Equal
tied q name e = (Equal-is (R q name)).0 e

pub same_name : (q name : List ℕ) → eq_by_cmp R q name ≡ true → q ≡ name
same_name q name e = map.slice_cmp-IsAntisymmetric map.nat_cmp-IsAntisymmetric q name (tied q name e)

or_none : (a : Bool) → (a || false) ≡ a
or_none true = refl
or_none false = refl

or_true : (a : Bool) → (a || true) ≡ true
or_true true = refl
or_true false = refl

-- if the map has the name, nothing has to be added
there : (has q_has tie : Bool) → has ≡ true → (tie ≡ true → q_has ≡ has) → q_has ≡ (q_has || tie)
there has q_has true is same = same refl ∙ (is ∙ sym (or_true q_has))
there has q_has false is same = sym (or_none q_has)

-- if the map lacks the name, it is added
added : (tie : Bool) (unit : StoredUnit) (found : Option StoredUnit) → is_some (cond tie (Some unit) found) ≡ (is_some found || tie)
added true unit found = sym (or_true (is_some found))
added false unit found = sym (or_none (is_some found))

by_name : (units : Units) (name : List ℕ) (unit : StoredUnit) (q : List ℕ) (has : Bool) → map.contains_key units name ≡ has
    → map.contains_key (after units (Add name unit)) q ≡ (map.contains_key units q || eq_by_cmp R q name)
by_name units name unit q true e =
    let stays : after units (Add name unit) ≡ units = ap (λ (b : Bool). kept units (if b then Err exists else Ok (map.insert units name unit))) e in
    ap (λ (m : Units). map.contains_key m q) stays
    ∙ there (map.contains_key units name) (map.contains_key units q) (eq_by_cmp R q name) e
    (λ t. sym (ap is_some (map.get_tied nat_list_cmp_total units q name (tied q name t))))
by_name units name unit q false e =
    let made : after units (Add name unit) ≡ map.insert units name unit = ap (λ (b : Bool). kept units (if b then Err exists else Ok (map.insert units name unit))) e in
    ap (λ (m : Units). map.contains_key m q) made
    ∙ (ap is_some (map.get-insert nat_list_cmp_total units name unit q) ∙ added (eq_by_cmp R q name) unit (map.get units q))

-- a map has its old names and this name after a unit was added, which happens unless the map has a unit with
-- that name
pub with_name : (units : Units) (name : List ℕ) (unit : StoredUnit) (q : List ℕ) → map.contains_key (after units (Add name unit)) q ≡ (map.contains_key units q || eq_by_cmp R q name)
with_name units name unit q = by_name units name unit q (map.contains_key units name) refl

-- a name among the keys of a map is one of its names
pub is_key : (units : Units) (names : List (List ℕ)) (i : ℕ) (name : List ℕ) → names ≡ map.keys units → i < length names → name ≡ get_or names i name → map.contains_key units name ≡ true
is_key units names i name keys within is =
    let p = eq_by_cmp R name in
    let same : p name ≡ true = (eq_by_cmp_equiv nat_list_cmp_total).refl name in
    let here : list_any p (take (i + 1) names) ≡ true = list_any_more p names i name within ∙ (ap (λ b. list_any p (take i names) || b) (ap p (sym is) ∙ same) ∙ or_true (list_any p (take i names))) in
    let parts : take (i + 1) names ++ drop (i + 1) names ≡ names = take-append-drop (i + 1) names in
    let all : list_any p names ≡ true = ap (list_any p) (sym parts) ∙ (list_any-append p (take (i + 1) names) (drop (i + 1) names) ∙ ap (λ b. b || list_any p (drop (i + 1) names)) here) in
    map.contains_key-keys units name ∙ (ap (list_any p) (sym keys) ∙ all)

-- if the map has the names of the left map and those of the right one so far, this is still true with one
-- more name of the right one
pub one_more : (left has tie so_far more : Bool) → has ≡ (left || so_far) → more ≡ (so_far || tie) → (has || tie) ≡ (left || more)
one_more true has tie so_far more is next = ap (λ b. b || tie) is
one_more false has tie so_far more is next = ap (λ b. b || tie) is ∙ sym next

pub added_on : {T E : Type 0} (answer : Result T E) (old new : Units) (name : List ℕ) (unit : StoredUnit) → OnOk answer (new ≡ after old (Add name unit)) → OnOk answer (HasNameToo old name new)
added_on (Err e) old new name unit is = tt
added_on (Ok done) old new name unit is = record { has = λ q. ap (λ (m : Units). map.contains_key m q) is ∙ with_name old name unit q }

-- with the next name of the right map, the map's names are still those of the left map and those of the right
-- one so far
pub named : (left both new : Units) (names : List (List ℕ)) (i : ℕ) (name : List ℕ) → i < length names → name ≡ get_or names i name → HasNameToo both name new
    → ((q : List ℕ) → map.contains_key both q ≡ (map.contains_key left q || list_any (eq_by_cmp R q) (take i names)))
    → (q : List ℕ) → map.contains_key new q ≡ (map.contains_key left q || list_any (eq_by_cmp R q) (take (i + 1) names))
named left both new names i name within is too before q =
    too.has q ∙ one_more (map.contains_key left q) (map.contains_key both q) (eq_by_cmp R q name) (list_any (eq_by_cmp R q) (take i names)) (list_any (eq_by_cmp R q) (take (i + 1) names)) (before q)
    (list_any_more (eq_by_cmp R q) names i name within ∙ ap (λ (n : List ℕ). list_any (eq_by_cmp R q) (take i names) || eq_by_cmp R q n) (sym is))

-- at the end, the map has all names of the right map
pub all_named : (left right both : Units) (names : List (List ℕ)) (i : ℕ) → names ≡ map.keys right → length names ≤ i
    → ((q : List ℕ) → map.contains_key both q ≡ (map.contains_key left q || list_any (eq_by_cmp R q) (take i names)))
    → (q : List ℕ) → map.contains_key both q ≡ (map.contains_key left q || map.contains_key right q)
all_named left right both names i keys past before q =
    let whole : take i names ≡ map.keys right = take_all i names past ∙ keys in
    before q ∙ ap (λ (b : Bool). map.contains_key left q || b) (ap (list_any (eq_by_cmp R q)) whole ∙ sym (map.contains_key-keys right q))
