-- Orders of commands: an order with one more command, the prefix that a recovery keeps, and what a command does to the library.
use Rattle.std.proofs.Common.{◌≡◌, ◌⊎◌, inl, inr, ℕ, ◌+◌, ◌-◌, Bool, true, false, cond, List, [], ◌∷◌, ◌++◌, length, take, Option, Some, None, Result, Ok, Err, refl, sym, ap, subst, ◌∙◌, arith, eqb}
use Rattle.std.specs.Prelude.{IsOk, is_some, ◌↔◌}
use Rattle.std.specs.declared.cmp.Ordering.{Ordering}
use Rattle.std.specs.declared.cmp.Ordering.TheVariants.{Less, Equal, Greater}
use Rattle.std.specs.Ordering.{nat_cmp, eq_by_cmp, is_eq}
use Rattle.std.specs.Cmp.{IsTotalOrder, eq_by_cmp_equiv}
use Rattle.std.specs.Cmp.Lexicographic.{nat_list_cmp_total, slice_cmp}
use Rattle.std.specs.FinMap.{FinMap, get, insert, remove, empty, contains_key, get-insert, get-remove, get-empty, get_tied, same_map, slice_cmp-IsAntisymmetric, nat_cmp-IsAntisymmetric}
use Rattle.std.proofs.lemmas.List.{map-append, take_all, length-append}
use Rattle.std.proofs.lemmas.Bool.Decides.{Decides-eqb}
use Rattle.std.proofs.lemmas.Option.{same_Some}
use Rattle.std.proofs.lemmas.Slice.Eq.{slice_eq-Decides}
use lib.Pointwise.{pointwise}
use Rattle.cc_unit.specs.declared.unit.StoredUnit.{StoredUnit}
use Rattle.cc_library.specs.Change.{LibraryCommand}
use Rattle.cc_library.specs.declared.command.Change.TheVariants as command
use Rattle.cc_library.specs.Apply.{Units, apply, kept, after, after_all, library_of, AreAccepted}
use Rattle.cc_core.specs.declared.command.Numbered.{Numbered}
use Rattle.cc_core.specs.Step.{commands, IsLongest}
use Rattle.cc_core.specs.Run.{EachUnit, IsRightCommand, but_last}
use Rattle.cc_core.specs.internal.Ready.{IsOfOrder, IsInEffect, IsPrefixKept}
use Rattle.cc_core.proofs.Lists.{take-push}

cond_cases : {A : Type 0} (b : Bool) (x y z : A) → cond b x y ≡ z → (x ≡ z) ⊎ (y ≡ z)
cond_cases true x y z is = inl is
cond_cases false x y z is = inr is

-- a value that is found after an insertion is the inserted one, or was found before
module _ {K X : Type 0} {R : K → K → Ordering} (o : IsTotalOrder R) where
  pub found-insert : (m : FinMap R X) (k : K) (v : X) (q : K) (x : X) → get (insert m k v) q ≡ Some x → (Some v ≡ Some x) ⊎ (get m q ≡ Some x)
  found-insert m k v q x is = cond_cases (eq_by_cmp R q k) (Some v) (get m q) (Some x) (sym (get-insert o m k v q) ∙ is)

  pub found-remove : (m : FinMap R X) (k q : K) (x : X) → get (remove m k) q ≡ Some x → get m q ≡ Some x
  found-remove m k q x is =
      elim (cond_cases (eq_by_cmp R q k) None (get m q) (Some x) (sym (get-remove o m k q) ∙ is)) [ inl h ↦ absurd (cc) | inr h ↦ h ]

-- ---- units that are right

EachUnit-insert : (is_right : StoredUnit → Type 0) (library : Units) (name : List ℕ) (unit : StoredUnit) → EachUnit is_right library → is_right unit → EachUnit is_right (insert library name unit)
EachUnit-insert is_right library name unit each right q u is =
    elim (found-insert nat_list_cmp_total library name unit q u is) [ inl h ↦ let same : unit ≡ u = cc in subst is_right same right | inr h ↦ each q u h ]

EachUnit-kept : (is_right : StoredUnit → Type 0) (library : Units) (b : Bool) (made : Units) (first second : ℕ)
    → EachUnit is_right library → EachUnit is_right made → EachUnit is_right (kept library (cond b (Err first) (Ok made))) × EachUnit is_right (kept library (cond b (Ok made) (Err second)))
EachUnit-kept is_right library true made first second each new = (each, new)
EachUnit-kept is_right library false made first second each new = (new, each)

pub EachUnit-after : (is_right : StoredUnit → Type 0) (library : Units) (c : LibraryCommand) → EachUnit is_right library → IsRightCommand is_right c → EachUnit is_right (after library c)
EachUnit-after is_right library (command.Add name unit) each right =
    (EachUnit-kept is_right library (contains_key library name) (insert library name unit) 31 32 each (EachUnit-insert is_right library name unit each right)).0
EachUnit-after is_right library (command.Replace name unit) each right =
    (EachUnit-kept is_right library (contains_key library name) (insert library name unit) 31 32 each (EachUnit-insert is_right library name unit each right)).1
EachUnit-after is_right library (command.Withdraw name) each right =
    (EachUnit-kept is_right library (contains_key library name) (remove library name) 31 32 each (λ q u is. each q u (found-remove nat_list_cmp_total library name q u is))).1

pub EachUnit-empty : (is_right : StoredUnit → Type 0) → EachUnit is_right empty
EachUnit-empty is_right name unit is = let none = sym (get-empty (slice_cmp nat_cmp) name) ∙ is in absurd (cc)

-- ---- one more command

after_all-push : (library : Units) (cs : List LibraryCommand) (c : LibraryCommand) → after_all library (cs ++ c ∷ []) ≡ after (after_all library cs) c
after_all-push library [] c = refl
after_all-push library (d ∷ cs) c = after_all-push (after library d) cs c

commands-push : (prefix : List Numbered) (last : Numbered) → commands (prefix ++ last ∷ []) ≡ commands prefix ++ last.command ∷ []
commands-push prefix last = map-append (λ (p : Numbered). p.command) prefix (last ∷ [])

pub library-push : (prefix : List Numbered) (last : Numbered) → library_of (commands (prefix ++ last ∷ [])) ≡ after (library_of (commands prefix)) last.command
library-push prefix last = ap library_of (commands-push prefix last) ∙ after_all-push empty (commands prefix) last.command

accepted_push : (library : Units) (cs : List LibraryCommand) (c : LibraryCommand) → AreAccepted library cs → IsOk (apply (after_all library cs) c) → AreAccepted library (cs ++ c ∷ [])
accepted_push library [] c all taken = (taken, tt)
accepted_push library (d ∷ cs) c all taken = (all.0, accepted_push (after library d) cs c all.1 taken)

accepted_before : (library : Units) (cs ds : List LibraryCommand) → AreAccepted library (cs ++ ds) → AreAccepted library cs
accepted_before library [] ds all = tt
accepted_before library (c ∷ cs) ds all = (all.0, accepted_before (after library c) cs ds all.1)

accepted_last : (library : Units) (cs : List LibraryCommand) (c : LibraryCommand) → AreAccepted library (cs ++ c ∷ []) → IsOk (apply (after_all library cs) c)
accepted_last library [] c all = all.0
accepted_last library (d ∷ cs) c all = accepted_last (after library d) cs c all.1

pub AreAccepted-push : (prefix : List Numbered) (last : Numbered) → AreAccepted empty (commands prefix) → IsOk (apply (library_of (commands prefix)) last.command) → AreAccepted empty (commands (prefix ++ last ∷ []))
AreAccepted-push prefix last all taken = subst (AreAccepted empty) (sym (commands-push prefix last)) (accepted_push empty (commands prefix) last.command all taken)

pub AreAccepted-before : (prefix rest : List Numbered) → AreAccepted empty (commands (prefix ++ rest)) → AreAccepted empty (commands prefix)
AreAccepted-before prefix rest all = accepted_before empty (commands prefix) (commands rest) (subst (AreAccepted empty) (map-append (λ (p : Numbered). p.command) prefix rest) all)

pub AreAccepted-last : (prefix : List Numbered) (last : Numbered) → AreAccepted empty (commands (prefix ++ last ∷ [])) → IsOk (apply (library_of (commands prefix)) last.command)
AreAccepted-last prefix last all = accepted_last empty (commands prefix) last.command (subst (AreAccepted empty) (commands-push prefix last) all)

pub but_last-push : (prefix : List Numbered) (last : Numbered) (order : List Numbered) → order ≡ prefix ++ last ∷ [] → but_last order ≡ prefix
but_last-push prefix last order is = ap but_last is ∙ take-push prefix last

-- two equal lists have the same last element
pub same_last : {A : Type 0} (xs : List A) (x : A) (ys : List A) (y : A) → xs ++ x ∷ [] ≡ ys ++ y ∷ [] → x ≡ y
same_last [] x [] y e = cc
same_last [] x (z ∷ []) y e = absurd (cc)
same_last [] x (z ∷ w ∷ ys) y e = absurd (cc)
same_last (z ∷ []) x [] y e = absurd (cc)
same_last (z ∷ w ∷ xs) x [] y e = absurd (cc)
same_last (z ∷ xs) x (w ∷ ys) y e = same_last xs x ys y (cc)

-- ---- a command in effect

no_longer_none : {A : Type 0} (x : A) → None ≡ Some x → ⊥
no_longer_none x e = absurd (cc)

is_tied : (r : Ordering) → is_eq r ≡ true → r ≡ Equal
is_tied Less e = absurd (cc)
is_tied Equal e = refl
is_tied Greater e = absurd (cc)

abbrev refused_if : Bool → ℕ → Units → Result Units ℕ
refused_if b number made = cond b (Err number) (Ok made)

abbrev refused_unless : Bool → ℕ → Units → Result Units ℕ
refused_unless b number made = cond b (Ok made) (Err number)

ok_absent : (b : Bool) (made : Units) (number : ℕ) → IsOk (refused_if b number made) → b ≡ false
ok_absent true made number ok = absurd (cc)
ok_absent false made number ok = refl

ok_present : (b : Bool) (made : Units) (number : ℕ) → IsOk (refused_unless b number made) → b ≡ true
ok_present true made number ok = refl
ok_present false made number ok = absurd (cc)

made_absent : (library made : Units) (b : Bool) (number : ℕ) → b ≡ false → kept library (cond b (Err number) (Ok made)) ≡ made
made_absent library made true number e = absurd (cc)
made_absent library made false number e = refl

made_present : (library made : Units) (b : Bool) (number : ℕ) → b ≡ true → kept library (cond b (Ok made) (Err number)) ≡ made
made_present library made true number e = refl
made_present library made false number e = absurd (cc)

get_inserted : (library : Units) (name : List ℕ) (unit : StoredUnit) → get (insert library name unit) name ≡ Some unit
get_inserted library name unit =
    get-insert nat_list_cmp_total library name unit name
    ∙ ap (λ b. cond b (Some unit) (get library name)) ((eq_by_cmp_equiv nat_list_cmp_total).refl name)

get_removed : (library : Units) (name : List ℕ) → get (remove library name) name ≡ None
get_removed library name =
    get-remove nat_list_cmp_total library name name
    ∙ ap (λ b. cond b None (get library name)) ((eq_by_cmp_equiv nat_list_cmp_total).refl name)

-- if the library has this unit under this name, inserting it changes nothing
inserted_same : (library : Units) (name : List ℕ) (unit : StoredUnit) → get library name ≡ Some unit → insert library name unit ≡ library
inserted_same library name unit is =
    same_map nat_list_cmp_total (slice_cmp-IsAntisymmetric nat_cmp-IsAntisymmetric) (insert library name unit) library
    (λ q. get-insert nat_list_cmp_total library name unit q ∙ at q (eq_by_cmp (slice_cmp nat_cmp) q name) refl)
  where
    at : (q : List ℕ) (b : Bool) → eq_by_cmp (slice_cmp nat_cmp) q name ≡ b → cond b (Some unit) (get library q) ≡ get library q
    at q true tied = sym is ∙ get_tied nat_list_cmp_total library q name (is_tied (slice_cmp nat_cmp q name) tied)
    at q false tied = refl

-- an accepted command is in effect in the library that it leaves
after_in_effect : (library : Units) (c : LibraryCommand) → IsOk (apply library c) → IsInEffect (after library c) c
after_in_effect library (command.Add name unit) ok =
    let made = made_absent library (insert library name unit) (contains_key library name) 31 (ok_absent (contains_key library name) (insert library name unit) 31 ok) in
    ap (λ (m : Units). get m name) made ∙ get_inserted library name unit
after_in_effect library (command.Replace name unit) ok =
    let made = made_present library (insert library name unit) (contains_key library name) 32 (ok_present (contains_key library name) (insert library name unit) 32 ok) in
    ap (λ (m : Units). get m name) made ∙ get_inserted library name unit
after_in_effect library (command.Withdraw name) ok =
    let made = made_present library (remove library name) (contains_key library name) 32 (ok_present (contains_key library name) (remove library name) 32 ok) in
    ap (λ (m : Units). get m name) made ∙ get_removed library name

-- if an accepted command is already in effect, it changes nothing
effect_stays : (library : Units) (c : LibraryCommand) → IsOk (apply library c) → IsInEffect library c → after library c ≡ library
effect_stays library (command.Add name unit) ok there =
    let none : is_some (get library name) ≡ false = ok_absent (contains_key library name) (insert library name unit) 31 ok in
    let some : is_some (get library name) ≡ true = ap is_some there in
    absurd (cc)
effect_stays library (command.Replace name unit) ok there =
    made_present library (insert library name unit) (contains_key library name) 32 (ok_present (contains_key library name) (insert library name unit) 32 ok)
    ∙ inserted_same library name unit there
effect_stays library (command.Withdraw name) ok there =
    let some : is_some (get library name) ≡ true = ok_present (contains_key library name) (remove library name) 32 ok in
    let none : is_some (get library name) ≡ false = ap is_some there in
    absurd (cc)

-- ---- whether a command is in effect

same_numbers : (xs ys : List ℕ) → (xs ≡ ys) ⊎ (xs ≡ ys → ⊥)
same_numbers xs ys = at (pointwise eqb xs ys) (slice_eq-Decides Decides-eqb xs ys (pointwise eqb xs ys) refl)
  where
    at : (b : Bool) → ((b ≡ true) ↔ (xs ≡ ys)) → (xs ≡ ys) ⊎ (xs ≡ ys → ⊥)
    at true told = inl (told.0 refl)
    at false told = inr (λ same. let yes = told.1 same in absurd (cc))

same_certificates : (a b : Option (List ℕ)) → (a ≡ b) ⊎ (a ≡ b → ⊥)
same_certificates None None = inl refl
same_certificates None (Some b) = inr (λ same. no_longer_none b same)
same_certificates (Some a) None = inr (λ same. no_longer_none a (sym same))
same_certificates (Some a) (Some b) =
    elim (same_numbers a b) [ inl same ↦ inl (ap Some same) | inr differ ↦ inr (λ same. differ (same_Some a b same)) ]

-- two units with the same source, code, globals and certificate are the same
same_unit : (a b : StoredUnit) → a.source ≡ b.source → a.image.code ≡ b.image.code → a.image.globals ≡ b.image.globals → a.certificate ≡ b.certificate → a ≡ b
same_unit a b source code globals certificate = λ i. record { source = source i; image = record { code = code i; globals = globals i }; certificate = certificate i }

decided_unit : (a b : StoredUnit) → (a ≡ b) ⊎ (a ≡ b → ⊥)
decided_unit a b =
    elim (same_numbers a.source b.source) [
      | inr differ ↦ inr (λ same. differ (ap (λ (u : StoredUnit). u.source) same))
      | inl source ↦ elim (same_numbers a.image.code b.image.code) [
        | inr differ ↦ inr (λ same. differ (ap (λ (u : StoredUnit). u.image.code) same))
        | inl code ↦ elim (same_numbers a.image.globals b.image.globals) [
          | inr differ ↦ inr (λ same. differ (ap (λ (u : StoredUnit). u.image.globals) same))
          | inl globals ↦ elim (same_certificates a.certificate b.certificate) [
            | inr differ ↦ inr (λ same. differ (ap (λ (u : StoredUnit). u.certificate) same))
            | inl certificate ↦ inl (same_unit a b source code globals certificate)
          ]
        ]
      ]
    ]

decided_found : (found : Option StoredUnit) (unit : StoredUnit) → (found ≡ Some unit) ⊎ (found ≡ Some unit → ⊥)
decided_found None unit = inr (λ e. no_longer_none unit e)
decided_found (Some there) unit =
    elim (decided_unit there unit) [ inl same ↦ inl (ap Some same) | inr differ ↦ inr (λ e. differ (cc)) ]

decided_none : (found : Option StoredUnit) → (found ≡ None) ⊎ (found ≡ None → ⊥)
decided_none None = inl refl
decided_none (Some there) = inr (λ e. no_longer_none there (sym e))

decided_effect : (library : Units) (c : LibraryCommand) → IsInEffect library c ⊎ (IsInEffect library c → ⊥)
decided_effect library (command.Add name unit) = decided_found (get library name) unit
decided_effect library (command.Replace name unit) = decided_found (get library name) unit
decided_effect library (command.Withdraw name) = decided_none (get library name)

-- a list is empty, or it has a last element
pub split_last : {A : Type 0} (xs : List A) → (xs ≡ []) ⊎ ((prefix : List A) × (last : A) × (xs ≡ prefix ++ last ∷ []))
split_last [] = inl refl
split_last (x ∷ xs) =
    elim (split_last xs) [
      | inl none ↦ inr ([], x, ap (λ l. x ∷ l) none)
      | inr some ↦ inr (x ∷ some.0, some.1, ap (λ l. x ∷ l) some.2)
    ]

pub no_push : {A : Type 0} (prefix : List A) (last : A) → [] ≡ prefix ++ last ∷ [] → ⊥
no_push [] last e = absurd (cc)
no_push (x ∷ prefix) last e = absurd (cc)

-- for every order, the test of its last command keeps some prefix
pub some_prefix : (library : Units) (order : List Numbered) → (kept : List Numbered) × IsPrefixKept library order kept
some_prefix library order =
    elim (split_last order) [
      | inl none ↦ (order, inl (refl, λ prefix last is. absurd (no_push prefix last (sym none ∙ is))))
      | inr some ↦ elim (decided_effect library some.1.command) [
        | inl there ↦ (order, inl (refl, λ prefix last is. subst (λ (p : Numbered). IsInEffect library p.command) (same_last some.0 some.1 prefix last (sym some.2 ∙ is)) there))
        | inr gone ↦ (some.0, inr (some.1, some.2, gone))
      ]
    ]

-- ---- the longest prefix

longest_whole : (library : Units) (order : List Numbered) → library_of (commands order) ≡ library → IsLongest library order order
longest_whole library order leads = record {
  count = length order;
  within = omega arith;
  prefix = sym (take_all (length order) order (omega arith));
  leads = leads;
  longest = λ n more within other. absurd (omega arith);
}

-- what the test of the last command keeps is the longest prefix whose library is the recovered one
pub prefix_longest : (library : Units) (old new : List Numbered) → AreAccepted empty (commands old) → IsOfOrder library old → IsPrefixKept library old new → IsLongest library old new
prefix_longest library old new all (inl whole) (inl keeps) =
    subst (IsLongest library old) (sym keeps.0) (longest_whole library old (sym whole))
prefix_longest library old new all (inr lacks) (inl keeps) =
    let prefix = lacks.0 in
    let last = lacks.1 in
    let ok = AreAccepted-last prefix last (subst (λ (l : List Numbered). AreAccepted empty (commands l)) lacks.2 all) in
    let there = subst (λ (m : Units). IsInEffect m last.command) lacks.3 (keeps.1 prefix last lacks.2) in
    let leads = ap (λ (l : List Numbered). library_of (commands l)) lacks.2 ∙ library-push prefix last ∙ effect_stays (library_of (commands prefix)) last.command ok there ∙ sym lacks.3 in
    subst (IsLongest library old) (sym keeps.0) (longest_whole library old leads)
prefix_longest library old new all known (inr drops) =
    record {
      count = length new;
      within = omega (arith, long);
      prefix = sym (take-push new last) ∙ ap (λ (l : List Numbered). take (length l - 1) l) (sym is) ∙ ap (λ (n : ℕ). take n old) (omega (arith, long));
      leads = leads known;
      longest = λ n more within other. not_in_effect (whole_in_effect (ap (λ (l : List Numbered). library_of (commands l)) (sym (take_all n old (omega (arith, long)))) ∙ other));
    }
  where
    last : Numbered
    last = drops.0

    is : old ≡ new ++ last ∷ []
    is = drops.1

    not_in_effect : IsInEffect library last.command → ⊥
    not_in_effect = drops.2

    long : length old ≡ length new + 1
    long = ap length is ∙ length-append new (last ∷ [])

    ok : IsOk (apply (library_of (commands new)) last.command)
    ok = AreAccepted-last new last (subst (λ (l : List Numbered). AreAccepted empty (commands l)) is all)

    whole_in_effect : library_of (commands old) ≡ library → IsInEffect library last.command
    whole_in_effect same =
        subst (λ (m : Units). IsInEffect m last.command) (sym (library-push new last) ∙ ap (λ (l : List Numbered). library_of (commands l)) (sym is) ∙ same)
        (after_in_effect (library_of (commands new)) last.command ok)

    leads : IsOfOrder library old → library_of (commands new) ≡ library
    leads (inl whole) = absurd (not_in_effect (whole_in_effect (sym whole)))
    leads (inr lacks) = ap (λ (l : List Numbered). library_of (commands l)) (sym (but_last-push new last old is) ∙ but_last-push lacks.0 lacks.1 old lacks.2) ∙ sym lacks.3
