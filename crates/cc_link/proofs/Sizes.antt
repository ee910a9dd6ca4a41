-- The objects of a checked unit: how many words of the image they take, and what their elements are.
use Rattle.std.proofs.Common.{◌≡◌, ℕ, zero, suc, ◌+◌, ◌≤◌, Bool, true, false, if◌then◌else◌, nat_lt, List, [], ◌∷◌, ◌++◌, length, map, refl, ap, ◌∙◌, arith}
use Rattle.std.proofs.lemmas.Bool.{ltb-false}
use Rattle.cc_words.specs.Widths.{words_of}
use Rattle.cc_ast.specs.Tree.{Object, External}
use Rattle.cc_types.specs.Types.{object_elements, object_width, object_words, initial_words}
use Rattle.cc_types.specs.Limits.{most_words, too_many, past, function_names, objects, object_name, word_excesses, externals_excesses}
use Rattle.cc_types.specs.Typed.{IsTyped, IsWithinLimits}
use Rattle.cc_layout.specs.Layout.{laid_from}
use Rattle.cc_c_semantics.specs.Meaning.{Global, initial_global, initial_globals}
use Rattle.cc_c_semantics.specs.Calls as calls
use Rattle.cc_c_semantics.specs.Calls.{sizes, laid_sizes, ObjectsAreSized}
use Rattle.cc_c_semantics.specs.Numbered.{objects_of, objects_in}
use Rattle.cc_simulation.specs.Behavior.{AreWords}
use Rattle.cc_simulation.specs.World.{Size, size_of}
use Rattle.cc_emit.specs.Contract.{size_words}
use Rattle.cc_link.specs.Packed.{packed, image_words}
use Rattle.cc_link.proofs.Laying.{AreKept, globals_image, image_long, object_in, packed_words, total}

-- ---- the limit

right_empty : {A : Type 0} (xs ys : List A) → xs ++ ys ≡ [] → ys ≡ []
right_empty [] ys e = e
right_empty (x ∷ xs) ys e = absurd (let l = ap length e in let f : suc (length (xs ++ ys)) ≡ 0 = l in omega arith)

abbrev object_sizes : List Object → List ℕ
object_sizes os = map object_words os

abbrev sum : List ℕ → ℕ
sum [] = 0
sum (n ∷ ns) = n + sum ns

words_fit : (os : List Object) (taken : ℕ) → taken ≤ 65536 → word_excesses taken os ≡ [] → taken + sum (object_sizes os) ≤ 65536
words_fit [] taken le e = omega arith
words_fit (o ∷ rest) taken le e = by (nat_lt most_words (taken + object_words o)) (λ low f. words_fit rest (taken + object_words o) low f) refl e
  where
    by : (b : Bool) → ((taken + object_words o ≤ 65536) → word_excesses (taken + object_words o) rest ≡ [] → taken + object_words o + sum (object_sizes rest) ≤ 65536)
        → nat_lt most_words (taken + object_words o) ≡ b → (if b then too_many (object_name o) ∷ [] else word_excesses (taken + object_words o) rest) ≡ [] → taken + (object_words o + sum (object_sizes rest)) ≤ 65536
    by true again is e = absurd (let l = ap length e in let f : 1 ≡ 0 = l in omega arith)
    by false again is e = let r = again (ltb-false 65536 (taken + object_words o) is) e in omega arith

-- ---- the sizes

-- how many words a size takes
abbrev filled : calls.NamedSize → ℕ
filled z = words_of z.width z.elements

laid_filled : (at : ℕ) (os : List Object) → map filled (laid_sizes (laid_from at os)) ≡ object_sizes os
laid_filled at [] = refl
laid_filled at (o ∷ rest) = ap (λ l. object_words o ∷ l) (laid_filled (at + object_elements o) rest)

global_sizes : (gs : List Global) → map size_words (map size_of (objects_of gs)) ≡ map filled (sizes gs)
global_sizes [] = refl
global_sizes (g ∷ gs) = ap (λ l. words_of g.width (length g.words) ∷ l) (global_sizes gs)

sizes_are : ObjectsAreSized → (unit : List External) → IsTyped unit → map size_words (objects_in unit) ≡ object_sizes (objects unit)
sizes_are sized unit typed = global_sizes (initial_globals unit) ∙ ap (map filled) (sized unit typed) ∙ laid_filled 0 (objects unit)

total_summed : (sizes : List Size) → total sizes ≡ sum (map size_words sizes)
total_summed [] = refl
total_summed (s ∷ sizes) = ap (λ n. size_words s + n) (total_summed sizes)

pub few_words : ObjectsAreSized → (unit : List External) → IsTyped unit → IsWithinLimits unit → total (objects_in unit) ≤ 65536
few_words sized unit typed h =
    let fit = words_fit (objects unit) 0 (omega arith) (right_empty (past 64 (function_names unit)) (word_excesses 0 (objects unit)) (right_empty (externals_excesses unit) (past 64 (function_names unit) ++ word_excesses 0 (objects unit)) h)) in
    let e : total (objects_in unit) ≡ sum (object_sizes (objects unit)) = total_summed (objects_in unit) ∙ ap sum (sizes_are sized unit typed) in omega arith

-- ---- the words

globals_in_order : (os : List Object) → image_words os ≡ globals_image (objects_of (map initial_global os))
globals_in_order [] = refl
globals_in_order (o ∷ rest) = ap (λ l. packed (object_width o) (initial_words o) ++ l) (globals_in_order rest)

pub words_in_order : (unit : List External) → image_words (objects unit) ≡ globals_image (objects_of (initial_globals unit))
words_in_order unit = globals_in_order (objects unit)

pub few_globals : ObjectsAreSized → (unit : List External) → IsTyped unit → IsWithinLimits unit → length (image_words (objects unit)) ≤ 65536
few_globals sized unit typed h =
    let few = few_words sized unit typed h in
    let e : length (image_words (objects unit)) ≡ total (objects_in unit) = ap length (words_in_order unit) ∙ image_long (objects_of (initial_globals unit)) in omega arith

-- ---- what the elements are

-- each initial element of these objects is in the range of its width
abbrev pub AllKept : List Object → Type 0
AllKept [] = Unit {0}
AllKept (o ∷ rest) = AreKept (object_width o) (initial_words o) × AllKept rest

pub kept_at : (os : List Object) → AllKept os → (g : ℕ) → AreKept (object_in (objects_of (map initial_global os)) g).width (object_in (objects_of (map initial_global os)) g).words
kept_at [] h g = tt
kept_at (o ∷ rest) h zero = h.0
kept_at (o ∷ rest) h (suc g) = kept_at rest h.1 g

words_append : (xs ys : List ℕ) → AreWords xs → AreWords ys → AreWords (xs ++ ys)
words_append [] ys h k = k
words_append (x ∷ xs) ys h k = (h.0, words_append xs ys h.1 k)

pub image_are_words : (os : List Object) → AllKept os → AreWords (image_words os)
image_are_words [] h = tt
image_are_words (o ∷ rest) h = words_append (packed (object_width o) (initial_words o)) (image_words rest) (packed_words (object_width o) (initial_words o) h.0) (image_are_words rest h.1)
