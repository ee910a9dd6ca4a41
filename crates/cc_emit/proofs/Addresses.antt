-- The table of the objects' addresses: the part made so far, followed by the part still to come, is the whole table.
use Rattle.std.proofs.Common.{◌≡◌, ℕ, zero, suc, ◌+◌, ◌-◌, ◌*◌, ◌≤◌, List, [], ◌∷◌, ◌++◌, true, false, Bool, cond, length, map, get_or, min, nat_lt, refl, sym, ap, ◌∙◌, subst, append_assoc, length-append, arith}
use Rattle.std.proofs.lemmas.Bool.Decides.{nat_tests}
use Rattle.cc_words.specs.Widths.{words_of}
use Rattle.cc_ast.specs.Tree.{Object, External}
use Rattle.cc_types.specs.Types.{object_elements, object_words}
use Rattle.cc_types.specs.Limits.{objects, object_name, too_many, most_words, word_excesses, past, most_functions, function_names, externals_excesses}
use Rattle.cc_types.specs.Typed.{IsTyped, IsWithinLimits}
use Rattle.cc_types.specs.declared.rule.RuleError.{RuleError}
use Rattle.cc_layout.specs.Layout.{laid_from}
use Rattle.cc_c_semantics.specs.Meaning.{Global, initial_globals}
use Rattle.cc_c_semantics.specs.Numbered.{objects_in, objects_of}
use Rattle.cc_c_semantics.specs.Calls as calls
use Rattle.cc_c_semantics.specs.Calls.{sizes, laid_sizes, ObjectsAreSized}
use Rattle.cc_rv32.specs.Machine.{globals_from, globals_to}
use Rattle.cc_simulation.specs.World.{Size, size_of}
use Rattle.cc_emit.specs.Contract.{size_words}
use Rattle.cc_emit.specs.Objects.{words_before, object_address}
use Rattle.cc_emit.specs.internal.Bases.{base_in, bases_from, address_behind}

-- ---- the objects of a unit lie among the globals

pub behind_more : (a : ℕ) (os : List Object) → a ≤ address_behind a os
behind_more a [] = omega arith
behind_more a (o ∷ os) = let h = behind_more (a + 4 * object_words o) os in omega arith

back_none : (xs ys : List RuleError) → xs ++ ys ≡ [] → ys ≡ []
back_none [] ys e = e
back_none (x ∷ xs) ys e = absurd (let z : x ∷ (xs ++ ys) ≡ [] = e in cc)

room_by : (b : Bool) (o : Object) (taken : ℕ) (os : List Object) → nat_lt most_words (taken + object_words o) ≡ b → cond b (too_many (object_name o) ∷ []) (word_excesses (taken + object_words o) os) ≡ []
    → ((taken + object_words o ≤ most_words) → word_excesses (taken + object_words o) os ≡ [] → address_behind (globals_from + 4 * (taken + object_words o)) os ≤ globals_to) → address_behind (globals_from + 4 * (taken + object_words o)) os ≤ globals_to
room_by true o taken os is e next = absurd (let z : too_many (object_name o) ∷ [] ≡ [] = e in cc)
room_by false o taken os is e next = next (grind (arith, nat_tests)) e

room : (taken : ℕ) (os : List Object) → taken ≤ most_words → word_excesses taken os ≡ [] → address_behind (globals_from + 4 * taken) os ≤ globals_to
room taken [] le e = omega arith
room taken (o ∷ os) le e =
    subst (λ a. address_behind a os ≤ globals_to) (let z : globals_from + 4 * (taken + object_words o) ≡ globals_from + 4 * taken + 4 * object_words o = omega arith in z)
    (room_by (nat_lt most_words (taken + object_words o)) o taken os refl e (λ le e. room (taken + object_words o) os le e))

pub unit_fits : (unit : List External) → IsWithinLimits unit → address_behind globals_from (objects unit) ≤ globals_to
unit_fits unit limits = room 0 (objects unit) (omega arith) (back_none (past most_functions (function_names unit)) _ (back_none (externals_excesses unit) _ limits))

-- ---- the table

pub record Listing (from : ℕ) (all : List Object) (old new : List ℕ) (address : ℕ) (rest : List Object) : Type 0 where
  pub bases : new ++ bases_from address rest ≡ old ++ bases_from from all
  pub behind : address_behind address rest ≡ address_behind from all

pub listing_more : (from : ℕ) (all : List Object) (old new new' : List ℕ) (a b : ℕ) (o : Object) (rest : List Object) → Listing from all old new a (o ∷ rest) → new' ≡ new ++ a ∷ [] → b ≡ a + 4 * object_words o → Listing from all old new' b rest
listing_more from all old new new' a b o rest h e s = record {
  bases = ap (λ n. new' ++ bases_from n rest) s ∙ ap (λ xs. xs ++ bases_from (a + 4 * object_words o) rest) e ∙ append_assoc new (a ∷ []) (bases_from (a + 4 * object_words o) rest) ∙ h.bases;
  behind = ap (λ n. address_behind n rest) s ∙ h.behind;
}

pub next_fits : (from a : ℕ) (all : List Object) (old new : List ℕ) (o : Object) (left rest : List Object) → address_behind from all ≤ globals_to → left ≡ o ∷ rest → Listing from all old new a left → a + 4 * object_words o ≤ globals_to
next_fits from a all old new o left rest le is h =
    let e = ap (address_behind a) (sym is) ∙ h.behind in
    let more = behind_more (a + 4 * object_words o) rest in
    omega arith

bases_append : (a : ℕ) (xs ys : List Object) → bases_from a (xs ++ ys) ≡ bases_from a xs ++ bases_from (address_behind a xs) ys
bases_append a [] ys = refl
bases_append a (o ∷ xs) ys = ap (λ l. a ∷ l) (bases_append (a + 4 * object_words o) xs ys)

behind_append : (a : ℕ) (xs ys : List Object) → address_behind a (xs ++ ys) ≡ address_behind (address_behind a xs) ys
behind_append a [] ys = refl
behind_append a (o ∷ xs) ys = behind_append (a + 4 * object_words o) xs ys

-- `Listing` still holds after the addresses of a declaration's objects are added
pub listing_some : (all : List Object) (new new' : List ℕ) (a b : ℕ) (os rest : List Object) → Listing globals_from all [] new a (os ++ rest) → new' ≡ new ++ bases_from a os → b ≡ address_behind a os → Listing globals_from all [] new' b rest
listing_some all new new' a b os rest h e s = record {
  bases = ap (λ n. new' ++ bases_from n rest) s ∙ ap (λ xs. xs ++ bases_from (address_behind a os) rest) e ∙ append_assoc new (bases_from a os) (bases_from (address_behind a os) rest) ∙ ap (λ xs. new ++ xs) (sym (bases_append a os rest)) ∙ h.bases;
  behind = ap (λ n. address_behind n rest) s ∙ sym (behind_append a os rest) ∙ h.behind;
}

pub objects_fit : (unit : List External) (new : List ℕ) (a : ℕ) (os rest : List Object) → IsWithinLimits unit → Listing globals_from (objects unit) [] new a (os ++ rest) → address_behind a os ≤ globals_to
objects_fit unit new a os rest limits h =
    let e = h.behind in
    let fits = unit_fits unit limits in
    let split = behind_append a os rest in
    let more = behind_more (address_behind a os) rest in
    omega arith

-- ---- what the table says

length_bases : (a : ℕ) (os : List Object) → length (bases_from a os) ≡ length os
length_bases a [] = refl
length_bases a (o ∷ os) = ap suc (length_bases (a + 4 * object_words o) os)

-- the sum of the entries before entry number `g`
abbrev sum_before : List ℕ → ℕ → ℕ
sum_before [] g = 0
sum_before (n ∷ ns) zero = 0
sum_before (n ∷ ns) (suc g) = n + sum_before ns g

told : (a : ℕ) (os : List Object) (k g : ℕ) → k ≡ min (length os) g → get_or (bases_from a os ++ address_behind a os ∷ []) k 0 ≡ a + 4 * sum_before (map object_words os) g
told a [] zero g e = omega arith
told a [] (suc k) g e = absurd (omega arith)
told a (o ∷ os) zero zero e = omega arith
told a (o ∷ os) zero (suc g) e = absurd (omega arith)
told a (o ∷ os) (suc k) zero e = absurd (omega arith)
told a (o ∷ os) (suc k) (suc g) e = let h = told (a + 4 * object_words o) os k g (omega arith) in omega arith

before_summed : (sizes : List Size) (g : ℕ) → words_before sizes g ≡ sum_before (map size_words sizes) g
before_summed [] g = refl
before_summed (s ∷ sizes) zero = refl
before_summed (s ∷ sizes) (suc g) = ap (λ n. size_words s + n) (before_summed sizes g)

-- the number of words of a size
abbrev filled : calls.NamedSize → ℕ
filled z = words_of z.width z.elements

words_mapped : (gs : List Global) → map size_words (map size_of (objects_of gs)) ≡ map filled (sizes gs)
words_mapped [] = refl
words_mapped (g ∷ gs) = ap (λ (ns : List ℕ). words_of g.width (length g.words) ∷ ns) (words_mapped gs)

extents_mapped : (at : ℕ) (os : List Object) → map filled (laid_sizes (laid_from at os)) ≡ map object_words os
extents_mapped at [] = refl
extents_mapped at (o ∷ os) = ap (λ (ns : List ℕ). object_words o ∷ ns) (extents_mapped (at + object_elements o) os)

sizes_are : ObjectsAreSized → (unit : List External) → IsTyped unit → map size_words (objects_in unit) ≡ map object_words (objects unit)
sizes_are sized unit typed = words_mapped (initial_globals unit) ∙ ap (map filled) (sized unit typed) ∙ extents_mapped 0 (objects unit)

pub bases_are : ObjectsAreSized → (unit : List External) → IsTyped unit → (new table : List ℕ) (behind : ℕ) → Listing globals_from (objects unit) [] new behind [] → table ≡ new ++ behind ∷ [] → (object : ℕ) → base_in table object ≡ object_address (objects_in unit) object
bases_are sized unit typed new table behind h e g =
    let os = objects unit in
    let all : table ≡ bases_from globals_from os ++ address_behind globals_from os ∷ [] = e ∙ ap (λ n. new ++ n ∷ []) h.behind ∙ ap (λ xs. xs ++ address_behind globals_from os ∷ []) (sym (append_none new) ∙ h.bases) in
    let long : length table ≡ length os + 1 = ap (λ (xs : List ℕ). length xs) all ∙ length-append (bases_from globals_from os) (address_behind globals_from os ∷ []) ∙ ap (λ n. n + 1) (length_bases globals_from os) in
    ap (λ xs. get_or xs (min (length table - 1) g) 0) all ∙ told globals_from os (min (length table - 1) g) g (omega arith) ∙ ap (λ n. globals_from + 4 * n) (ap (λ ns. sum_before ns g) (sym (sizes_are sized unit typed)) ∙ sym (before_summed (objects_in unit) g))
  where
    append_none : (xs : List ℕ) → xs ++ [] ≡ xs
    append_none [] = refl
    append_none (x ∷ xs) = ap (λ l. x ∷ l) (append_none xs)
