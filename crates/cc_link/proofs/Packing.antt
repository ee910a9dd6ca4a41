-- Packing bytes into words, four at a time: what one more word adds, and which bytes are left after it.
use Rattle.std.proofs.Common.{◌≡◌, ℕ, zero, suc, ◌+◌, ◌*◌, ◌^◌, ◌<◌, ◌≤◌, List, [], ◌∷◌, ◌++◌, length, get_or, drop, refl, sym, ◌∙◌, ap, arith, append_assoc}
use Rattle.std.proofs.lemmas.List.{get_or-drop, drop-drop, drop_all, length-drop}
use Rattle.cc_words.specs.declared.operators.Width.TheVariants.{Byte}
use Rattle.cc_ast.specs.Tree.{Object, Single, Array, Bytes, External, Declaration, Definition, Objects}
use Rattle.cc_types.specs.Types.{object_width, initial_words}
use Rattle.cc_types.specs.Limits.{objects}
use Rattle.cc_link.specs.Packed.{word_of_bytes, packed_bytes, object_image, image_words}
use Rattle.cc_link.specs.internal.Packing.{AreBytes, external_image}
use Rattle.cc_link.proofs.Constants.{byte_list}

pub byte_below : (bs : List ℕ) (i : ℕ) → AreBytes bs → get_or bs i 0 < 2 ^ 8
byte_below [] i h = omega arith
byte_below (b ∷ bs) zero h = h.0
byte_below (b ∷ bs) (suc i) h = byte_below bs i h.1

-- packing at least one byte yields a first word and the words of the bytes after the first four
step : (bs : List ℕ) → 0 < length bs
    → packed_bytes bs ≡ word_of_bytes (get_or bs 0 0) (get_or bs 1 0) (get_or bs 2 0) (get_or bs 3 0) ∷ packed_bytes (drop 4 bs)
step [] some = absurd (omega (arith, some))
step (a ∷ []) some = refl
step (a ∷ b ∷ []) some = refl
step (a ∷ b ∷ c ∷ []) some = refl
step (a ∷ b ∷ c ∷ d ∷ rest) some = refl

-- packing the bytes from `4 * n` on yields one word and the words of the bytes from `4 * (n + 1)` on
pub step_at : (bs : List ℕ) (n : ℕ) → 4 * n < length bs
    → packed_bytes (drop (4 * n) bs)
    ≡ word_of_bytes (get_or bs (4 * n) 0) (get_or bs (4 * n + 1) 0) (get_or bs (4 * n + 2) 0) (get_or bs (4 * n + 3) 0) ∷ packed_bytes (drop (4 * (n + 1)) bs)
step_at bs n within =
    let rest = drop (4 * n) bs in
    let at : (i : ℕ) → get_or rest i 0 ≡ get_or bs (4 * n + i) 0 = λ i. get_or-drop (4 * n) bs i 0 in
    let first : get_or rest 0 0 ≡ get_or bs (4 * n) 0 = at 0 ∙ ap (λ (k : ℕ). get_or bs k 0) (omega arith) in
    let behind : drop 4 rest ≡ drop (4 * (n + 1)) bs = drop-drop 4 (4 * n) bs ∙ ap (λ (k : ℕ). drop k bs) (omega arith) in
    step rest (omega (arith, length-drop (4 * n) bs))
    ∙ ap (λ (w : ℕ). word_of_bytes w (get_or rest 1 0) (get_or rest 2 0) (get_or rest 3 0) ∷ packed_bytes (drop 4 rest)) first
    ∙ ap (λ (w : ℕ). word_of_bytes (get_or bs (4 * n) 0) w (get_or rest 2 0) (get_or rest 3 0) ∷ packed_bytes (drop 4 rest)) (at 1)
    ∙ ap (λ (w : ℕ). word_of_bytes (get_or bs (4 * n) 0) (get_or bs (4 * n + 1) 0) w (get_or rest 3 0) ∷ packed_bytes (drop 4 rest)) (at 2)
    ∙ ap (λ (w : ℕ). word_of_bytes (get_or bs (4 * n) 0) (get_or bs (4 * n + 1) 0) (get_or bs (4 * n + 2) 0) w ∷ packed_bytes (drop 4 rest)) (at 3)
    ∙ ap (λ (l : List ℕ). word_of_bytes (get_or bs (4 * n) 0) (get_or bs (4 * n + 1) 0) (get_or bs (4 * n + 2) 0) (get_or bs (4 * n + 3) 0) ∷ packed_bytes l) behind

-- once one more word is added, the words so far and those of the bytes left make up the same list
pub word_more : (bs before words : List ℕ) (n word : ℕ) → 4 * n < length bs
    → word ≡ word_of_bytes (get_or bs (4 * n) 0) (get_or bs (4 * n + 1) 0) (get_or bs (4 * n + 2) 0) (get_or bs (4 * n + 3) 0)
    → words ++ packed_bytes (drop (4 * n) bs) ≡ before ++ packed_bytes bs
    → (words ++ word ∷ []) ++ packed_bytes (drop (4 * (n + 1)) bs) ≡ before ++ packed_bytes bs
word_more bs before words n word within is so_far =
    append_assoc words (word ∷ []) (packed_bytes (drop (4 * (n + 1)) bs))
    ∙ ap (λ (w : ℕ). words ++ (w ∷ packed_bytes (drop (4 * (n + 1)) bs))) is
    ∙ ap (λ (l : List ℕ). words ++ l) (sym (step_at bs n within))
    ∙ so_far

-- past the last byte nothing is left to pack
pub none_left : (bs : List ℕ) (n : ℕ) → length bs ≤ 4 * n → packed_bytes (drop (4 * n) bs) ≡ []
none_left bs n all = ap packed_bytes (drop_all (4 * n) bs all)

-- the elements of an object of bytes are bytes
pub elements_are_bytes : (o : Object) → object_width o ≡ Byte → AreBytes (initial_words o)
elements_are_bytes (Bytes x n vs) is = byte_list vs _
elements_are_bytes (Single x e) is = absurd (let z = is in cc)
elements_are_bytes (Array x n vs) is = absurd (let z = is in cc)

-- ---- declarations

words_apart : (os more : List Object) → image_words (os ++ more) ≡ image_words os ++ image_words more
words_apart [] more = refl
words_apart (o ∷ os) more =
    ap (λ (l : List ℕ). object_image o ++ l) (words_apart os more) ∙ sym (append_assoc (object_image o) (image_words os) (image_words more))

declaration_apart : (e : External) (es : List External) → image_words (objects (e ∷ es)) ≡ external_image e ++ image_words (objects es)
declaration_apart (Declaration s) es = refl
declaration_apart (Definition s body) es = refl
declaration_apart (Objects t os) es = words_apart os (objects es)

-- once the words of one more declaration are added, those so far and those left make up the same list
pub declaration_more : (e : External) (es : List External) (words all : List ℕ) → words ++ image_words (objects (e ∷ es)) ≡ all
    → (words ++ external_image e) ++ image_words (objects es) ≡ all
declaration_more e es words all so_far =
    append_assoc words (external_image e) (image_words (objects es)) ∙ ap (λ (l : List ℕ). words ++ l) (sym (declaration_apart e es)) ∙ so_far
