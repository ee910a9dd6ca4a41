-- The objects one after the other from 0x200000 on, their image, and what the machine loads from this image at its start: byte
-- i of the packed words is element i.
use Rattle.std.proofs.Common.{◌≡◌, ℕ, zero, suc, ◌+◌, ◌-◌, ◌*◌, ◌/◌, ◌%◌, ◌^◌, ◌<◌, ◌≤◌, ◌⊎◌, inl, inr, Bool, true, false, List, [], ◌∷◌, ◌++◌, length, map, get_or, refl, sym, ap, ap₂, ◌∙◌, subst, arith}
use Rattle.std.specs.Prelude.{nat_le, ◌&&◌, ◌==◌, if◌then◌else◌, slice_index}
use Rattle.std.specs.List.{concat}
use Rattle.std.proofs.lemmas.List.{length-append}
use Rattle.std.proofs.lemmas.Bool.{le-leb}
use Rattle.cc_words.specs.declared.operators.Width.{Width}
use Rattle.cc_words.specs.declared.operators.Width.TheVariants.{Byte, Word}
use Rattle.cc_words.specs.Widths.{words_of}
use Rattle.cc_rv32.specs.Machine.{start_memory, globals_from}
use Rattle.cc_simulation.specs.Behavior.{AreWords}
use Rattle.cc_simulation.specs.World.{Object, Size, size_in, size_of}
use Rattle.cc_emit.specs.Contract.{ObjectLayout, element_at, size_words, words_in}
use Rattle.cc_emit.specs.Objects.{words_before, object_address, IsInOrder}
use Rattle.cc_link.specs.Packed.{packed_bytes, packed}
use Rattle.cc_link.specs.internal.Packing.{AreBytes}
use Rattle.cc_emit.proofs.Bytes.{byte_in}
use Rattle.cc_emit.proofs.Standing.{size_found}

-- ---- the words of objects in an image

abbrev pub object_image : Object → List ℕ
object_image o = packed o.width o.words

-- objects, one after the other
abbrev pub globals_image : List Object → List ℕ
globals_image os = concat (map object_image os)

-- ---- bytes in words

-- each number is in the range of an element of this width
abbrev pub AreKept : Width → List ℕ → Type 0
AreKept Byte bs = AreBytes bs
AreKept Word ws = AreWords ws

pub packed_byte : (bs : List ℕ) (i : ℕ) → AreBytes bs → i < length bs → byte_in (get_or (packed_bytes bs) (i / 4) 0) (i % 4) ≡ get_or bs i 0
packed_byte [] i all lt = absurd (omega arith)
packed_byte (a ∷ []) zero (p, all) lt = omega arith
packed_byte (a ∷ []) (suc i) (p, all) lt = absurd (omega arith)
packed_byte (a ∷ b ∷ []) zero (p, (q, all)) lt = omega arith
packed_byte (a ∷ b ∷ []) (suc zero) (p, (q, all)) lt = omega arith
packed_byte (a ∷ b ∷ []) (suc (suc i)) (p, (q, all)) lt = absurd (omega arith)
packed_byte (a ∷ b ∷ c ∷ []) zero (p, (q, (r, all))) lt = omega arith
packed_byte (a ∷ b ∷ c ∷ []) (suc zero) (p, (q, (r, all))) lt = omega arith
packed_byte (a ∷ b ∷ c ∷ []) (suc (suc zero)) (p, (q, (r, all))) lt = omega arith
packed_byte (a ∷ b ∷ c ∷ []) (suc (suc (suc i))) (p, (q, (r, all))) lt = absurd (omega arith)
packed_byte (a ∷ b ∷ c ∷ d ∷ rest) zero (p, (q, (r, (s, all)))) lt = omega arith
packed_byte (a ∷ b ∷ c ∷ d ∷ rest) (suc zero) (p, (q, (r, (s, all)))) lt = omega arith
packed_byte (a ∷ b ∷ c ∷ d ∷ rest) (suc (suc zero)) (p, (q, (r, (s, all)))) lt = omega arith
packed_byte (a ∷ b ∷ c ∷ d ∷ rest) (suc (suc (suc zero))) (p, (q, (r, (s, all)))) lt = omega arith
packed_byte (a ∷ b ∷ c ∷ d ∷ rest) (suc (suc (suc (suc i)))) (p, (q, (r, (s, all)))) lt =
    let word : suc (suc (suc (suc i))) / 4 ≡ suc (i / 4) = omega arith in
    let byte : suc (suc (suc (suc i))) % 4 ≡ i % 4 = omega arith in
    ap₂ (λ k j. byte_in (get_or (packed_bytes (a ∷ b ∷ c ∷ d ∷ rest)) k 0) j) word byte ∙ packed_byte rest i all (omega arith)

bytes_length : (bs : List ℕ) → length (packed_bytes bs) ≡ (length bs + 3) / 4
bytes_length [] = refl
bytes_length (a ∷ []) = refl
bytes_length (a ∷ b ∷ []) = refl
bytes_length (a ∷ b ∷ c ∷ []) = refl
bytes_length (a ∷ b ∷ c ∷ d ∷ rest) = let h = bytes_length rest in omega arith

pub packed_length : (w : Width) (ws : List ℕ) → length (packed w ws) ≡ words_of w (length ws)
packed_length Byte ws = bytes_length ws
packed_length Word ws = refl

bytes_words : (bs : List ℕ) → AreBytes bs → AreWords (packed_bytes bs)
bytes_words [] all = tt
bytes_words (a ∷ []) (p, all) = (omega arith, tt)
bytes_words (a ∷ b ∷ []) (p, (q, all)) = (omega arith, tt)
bytes_words (a ∷ b ∷ c ∷ []) (p, (q, (r, all))) = (omega arith, tt)
bytes_words (a ∷ b ∷ c ∷ d ∷ rest) (p, (q, (r, (s, all)))) = (omega arith, bytes_words rest all)

pub packed_words : (w : Width) (ws : List ℕ) → AreKept w ws → AreWords (packed w ws)
packed_words Byte ws all = bytes_words ws all
packed_words Word ws all = all

-- ---- objects one after the other

abbrev pub total : List Size → ℕ
total [] = 0
total (o ∷ os) = size_words o + total os

pub within : (os : List Size) (g : ℕ) → words_before os g + words_in os g ≤ total os
within [] g = omega arith
within (o ∷ os) zero = omega arith
within (o ∷ os) (suc g) = let h = within os g in omega arith

shifted : (n a b c d : ℕ) → (a + b ≤ c) ⊎ (c + d ≤ a) → (n + a + b ≤ n + c) ⊎ (n + c + d ≤ n + a)
shifted n a b c d (inl h) = inl (omega arith)
shifted n a b c d (inr h) = inr (omega arith)

pub lie_apart : (os : List Size) (g k : ℕ) → (g ≡ k → ⊥) → (words_before os g + words_in os g ≤ words_before os k) ⊎ (words_before os k + words_in os k ≤ words_before os g)
lie_apart [] g k ne = inl (omega arith)
lie_apart (o ∷ os) zero zero ne = absurd (ne refl)
lie_apart (o ∷ os) zero (suc k) ne = inl (omega arith)
lie_apart (o ∷ os) (suc g) zero ne = inr (omega arith)
lie_apart (o ∷ os) (suc g) (suc k) ne = shifted (size_words o) _ _ _ _ (lie_apart os g k (λ e. ne (ap suc e)))

pub by_four : (a b c d : ℕ) → (a + b ≤ c) ⊎ (c + d ≤ a) → (0x200000 + 4 * a + 4 * b ≤ 0x200000 + 4 * c) ⊎ (0x200000 + 4 * c + 4 * d ≤ 0x200000 + 4 * a)
by_four a b c d (inl h) = inl (omega arith)
by_four a b c d (inr h) = inr (omega arith)

abbrev pub laid_out : (objects : List Size) → total objects ≤ 65536 → ObjectLayout objects
laid_out objects few = record {
  base = object_address objects;
  from = λ g. omega arith;
  to = λ g. let h = within objects g in omega arith;
  aligned = λ g. omega arith;
  apart = λ g k ne. by_four _ _ _ _ (lie_apart objects g k ne);
}

pub laid_in_order : (objects : List Size) (few : total objects ≤ 65536) → IsInOrder (laid_out objects few)
laid_in_order objects few = λ g. refl

-- ---- the places of words and elements

in_front : (xs ys : List ℕ) (i : ℕ) → i < length xs → get_or (xs ++ ys) i 0 ≡ get_or xs i 0
in_front [] ys i lt = absurd (omega arith)
in_front (x ∷ xs) ys zero lt = refl
in_front (x ∷ xs) ys (suc i) lt = in_front xs ys i (omega arith)

behind : (xs ys : List ℕ) (i : ℕ) → get_or (xs ++ ys) (length xs + i) 0 ≡ get_or ys i 0
behind [] ys i = let e : 0 + i ≡ i = omega arith in ap (λ n. get_or ys n 0) e
behind (x ∷ xs) ys i = let e : suc (length xs) + i ≡ suc (length xs + i) = omega arith in ap (λ n. get_or (x ∷ (xs ++ ys)) n 0) e ∙ behind xs ys i

abbrev pub object_in : List Object → (number : ℕ) → Object
object_in gs g = get_or gs g (record { width = Word; words = [] })

-- word k of an object's image is at index k after the words of the objects before it
image_at : (gs : List Object) (g k : ℕ) → k < length (object_image (object_in gs g)) → get_or (globals_image gs) (words_before (map size_of gs) g + k) 0 ≡ get_or (object_image (object_in gs g)) k 0
image_at [] g k lt = absurd (omega arith)
image_at (o ∷ os) zero k lt = let e : 0 + k ≡ k = omega arith in ap (λ n. get_or (object_image o ++ globals_image os) n 0) e ∙ in_front (object_image o) (globals_image os) k lt
image_at (o ∷ os) (suc g) k lt =
    let long = packed_length o.width o.words in
    let e : size_words (size_of o) + words_before (map size_of os) g + k ≡ length (object_image o) + (words_before (map size_of os) g + k) = omega arith in
    ap (λ n. get_or (object_image o ++ globals_image os) n 0) e ∙ behind (object_image o) (globals_image os) (words_before (map size_of os) g + k) ∙ image_at os g k lt

memory_at : (globals : List ℕ) (k : ℕ) → start_memory globals (0x200000 + 4 * k) ≡ get_or globals k 0
memory_at globals k =
    let a = 0x200000 + 4 * k in
    let e : a % 4 ≡ 0 = omega arith in
    let f : (a - 0x200000) / 4 ≡ k = omega arith in
    ap (λ n. if (n == 0) && nat_le globals_from a then slice_index globals ((a - globals_from) / 4) else 0) e
    ∙ ap (λ b. if b then slice_index globals ((a - globals_from) / 4) else 0) (le-leb globals_from a (omega arith))
    ∙ ap (λ n. get_or globals n 0) f

-- if memory has the words of an object, it has each of the object's elements
element_by : (w : Width) (ws : List ℕ) (m : ℕ → ℕ) (b i : ℕ) → b % 4 ≡ 0 → AreKept w ws → ((k : ℕ) → k < words_of w (length ws) → m (b + 4 * k) ≡ get_or (packed w ws) k 0) → i < length ws
    → element_at (record { width = w; elements = length ws }) m b i ≡ get_or ws i 0
element_by Byte ws m b i z all stands lt =
    let at : b + 1 * i - (b + 1 * i) % 4 ≡ b + 4 * (i / 4) = omega arith in
    let byte : (b + 1 * i) % 4 ≡ i % 4 = omega arith in
    ap₂ (λ a j. byte_in (m a) j) at byte ∙ ap (λ n. byte_in n (i % 4)) (stands (i / 4) (omega arith)) ∙ packed_byte ws i all lt
element_by Word ws m b i z all stands lt = stands i lt

-- the machine's memory has each element of each object at the start
pub object_at : (gs : List Object) (objects : List Size) → map size_of gs ≡ objects → ((g : ℕ) → AreKept (object_in gs g).width (object_in gs g).words) → (g i : ℕ) → i < (size_in objects g).elements
    → element_at (size_in objects g) (start_memory (globals_image gs)) (object_address objects g) i ≡ get_or (object_in gs g).words i 0
object_at gs objects is all g i lt =
    let o = object_in gs g in
    let size : size_in objects g ≡ size_of o = size_found objects (record { globals = gs; input = []; output = [] }) is g in
    let m = start_memory (globals_image gs) in
    let stands : ((k : ℕ) → k < words_of o.width (length o.words) → m (object_address objects g + 4 * k) ≡ get_or (packed o.width o.words) k 0) =
    λ k lk. (let long = packed_length o.width o.words in
    let e : 0x200000 + 4 * words_before objects g + 4 * k ≡ 0x200000 + 4 * (words_before objects g + k) = omega arith in
    ap m e ∙ memory_at (globals_image gs) (words_before objects g + k) ∙ ap (λ (s : List Size). get_or (globals_image gs) (words_before s g + k) 0) (sym is) ∙ image_at gs g k (omega arith)) in
    ap (λ (s : Size). element_at s m (object_address objects g) i) size ∙ element_by o.width o.words m (object_address objects g) i (omega arith) (all g) stands (subst (λ (s : Size). i < s.elements) size lt)

-- ---- words

-- the objects' image has as many words as the objects take in all
pub image_long : (os : List Object) → length (globals_image os) ≡ total (map size_of os)
image_long [] = refl
image_long (o ∷ os) =
    let long = packed_length o.width o.words in
    let rest = image_long os in
    let both = length-append (object_image o) (globals_image os) in
    omega arith

bytes_are_words : (bs : List ℕ) → AreBytes bs → AreWords bs
bytes_are_words [] all = tt
bytes_are_words (b ∷ bs) (p, all) = (omega arith, bytes_are_words bs all)

pub kept_are_words : (w : Width) (ws : List ℕ) → AreKept w ws → AreWords ws
kept_are_words Byte ws all = bytes_are_words ws all
kept_are_words Word ws all = all

pub word_below : (ws : List ℕ) (i : ℕ) → AreWords ws → get_or ws i 0 < 2 ^ 32
word_below [] i h = omega arith
word_below (w ∷ ws) zero h = h.0
word_below (w ∷ ws) (suc i) h = word_below ws i h.1

cond_below : (b : Bool) (x : ℕ) → x < 2 ^ 32 → (if b then x else 0) < 2 ^ 32
cond_below true x h = h
cond_below false x h = omega arith

pub start_below : (globals : List ℕ) (a : ℕ) → AreWords globals → start_memory globals a < 2 ^ 32
start_below globals a h = cond_below ((a % 4 == 0) && nat_le globals_from a) (slice_index globals ((a - globals_from) / 4)) (word_below globals _ h)
