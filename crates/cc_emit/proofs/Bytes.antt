-- The machine's memory element by element. The machine keeps a word at each multiple of 4, and a byte is a part of one. So each fact
-- follows from the fact about words. For bytes each fact also needs one about the parts of a word, for each of the four places of a byte
-- in a word.
use Rattle.std.proofs.Common.{◌≡◌, ℕ, zero, suc, ◌+◌, ◌-◌, ◌*◌, ◌/◌, ◌%◌, ◌^◌, ◌<◌, ◌≤◌, ◌⊎◌, true, refl, sym, ap, ◌∙◌, inl, inr, arith}
use Rattle.std.proofs.lemmas.Bool.Decides.{eqb_tells, nat_tests}
use Rattle.cc_words.specs.declared.operators.Width.{Width}
use Rattle.cc_words.specs.declared.operators.Width.TheVariants.{Byte, Word}
use Rattle.cc_words.specs.Widths.{bytes, kept, same_width, words_of}
use Rattle.cc_rv32.specs.Machine.{globals_from, globals_to, load_bytes, loaded, part_at, store_bytes, stored, with_part, with_word}
use Rattle.cc_emit.specs.Board.{is_accessible_above}
use Rattle.cc_emit.specs.Contract.{element_place, load_of, store_of}
use Rattle.cc_emit.proofs.Basics.{word_same, word_other, word_word}

pub same_tells : (w v : Width) → same_width w v ≡ true → w ≡ v
same_tells Byte Byte e = refl
same_tells Word Word e = refl
same_tells Byte Word e = absurd (cc)
same_tells Word Byte e = absurd (cc)

-- ---- the parts of a word

-- byte k of a word
abbrev pub byte_in : (w k : ℕ) → ℕ
byte_in w k = w / 2 ^ (8 * k) % 2 ^ 8

-- a byte that is put into a word is found in it
pub byte_same : (w v k : ℕ) → k < 4 → byte_in (with_part w (8 * k) 8 v) k ≡ v % 2 ^ 8
byte_same w v zero lt = omega arith
byte_same w v (suc zero) lt = omega arith
byte_same w v (suc (suc zero)) lt = omega arith
byte_same w v (suc (suc (suc zero))) lt = omega arith
byte_same w v (suc (suc (suc (suc k)))) lt = absurd (omega arith)

-- the other bytes of the word stay the same
pub byte_other : (w v k j : ℕ) → k < 4 → j < 4 → (j ≡ k → ⊥) → byte_in (with_part w (8 * k) 8 v) j ≡ byte_in w j
byte_other w v zero zero lk lj e = absurd (e refl)
byte_other w v zero (suc zero) lk lj e = omega arith
byte_other w v zero (suc (suc zero)) lk lj e = omega arith
byte_other w v zero (suc (suc (suc zero))) lk lj e = omega arith
byte_other w v (suc zero) zero lk lj e = omega arith
byte_other w v (suc zero) (suc zero) lk lj e = absurd (e refl)
byte_other w v (suc zero) (suc (suc zero)) lk lj e = omega arith
byte_other w v (suc zero) (suc (suc (suc zero))) lk lj e = omega arith
byte_other w v (suc (suc zero)) zero lk lj e = omega arith
byte_other w v (suc (suc zero)) (suc zero) lk lj e = omega arith
byte_other w v (suc (suc zero)) (suc (suc zero)) lk lj e = absurd (e refl)
byte_other w v (suc (suc zero)) (suc (suc (suc zero))) lk lj e = omega arith
byte_other w v (suc (suc (suc zero))) zero lk lj e = omega arith
byte_other w v (suc (suc (suc zero))) (suc zero) lk lj e = omega arith
byte_other w v (suc (suc (suc zero))) (suc (suc zero)) lk lj e = omega arith
byte_other w v (suc (suc (suc zero))) (suc (suc (suc zero))) lk lj e = absurd (e refl)
byte_other w v (suc (suc (suc (suc k)))) j lk lj e = absurd (omega arith)
byte_other w v zero (suc (suc (suc (suc j)))) lk lj e = absurd (omega arith)
byte_other w v (suc zero) (suc (suc (suc (suc j)))) lk lj e = absurd (omega arith)
byte_other w v (suc (suc zero)) (suc (suc (suc (suc j)))) lk lj e = absurd (omega arith)
byte_other w v (suc (suc (suc zero))) (suc (suc (suc (suc j)))) lk lj e = absurd (omega arith)

-- a word in which a byte is replaced is still a word
pub byte_word : (w v k : ℕ) → k < 4 → w < 2 ^ 32 → with_part w (8 * k) 8 v < 2 ^ 32
byte_word w v zero lt b = omega arith
byte_word w v (suc zero) lt b = omega arith
byte_word w v (suc (suc zero)) lt b = omega arith
byte_word w v (suc (suc (suc zero))) lt b = omega arith
byte_word w v (suc (suc (suc (suc k)))) lt b = absurd (omega arith)

-- ---- an element stored

-- a load of a stored element yields what the element's width keeps of the value
pub loaded_same : (w : Width) (m : ℕ → ℕ) (a v : ℕ) → loaded (load_of w) (stored (store_of w) m a v) a ≡ kept w v
loaded_same Byte m a v = ap (λ n. byte_in n (a % 4)) (word_same m (a - a % 4) (with_part (m (a - a % 4)) (8 * (a % 4)) 8 v)) ∙ byte_same (m (a - a % 4)) v (a % 4) (omega arith)
loaded_same Word m a v = word_same m a v

byte_beside : (m : ℕ → ℕ) (a b v : ℕ) → (b ≡ a → ⊥) → part_at (stored (store_of Byte) m a v) 8 b ≡ part_at m 8 b
byte_beside m a b v ne =
    let at = a - a % 4 in
    let w = with_part (m at) (8 * (a % 4)) 8 v in
    elim (eqb_tells (b - b % 4) at) [
      | inl t ↦
          (let same : with_word m at w (b - b % 4) ≡ w = ap (with_word m at w) t.1 ∙ word_same m at w in
          let e = t.1 in
          ap (λ n. byte_in n (b % 4)) same ∙ byte_other (m at) v (a % 4) (b % 4) (omega arith) (omega arith) (λ q. ne (omega arith)) ∙ ap (λ n. byte_in (m n) (b % 4)) (sym t.1))
      | inr t ↦ ap (λ n. byte_in n (b % 4)) (word_other m at w (b - b % 4) t.1)
    ]

-- an element that shares no byte with the stored one stays the same, whatever its width
pub loaded_other : (w u : Width) (m : ℕ → ℕ) (a b v : ℕ) → a % bytes w ≡ 0 → b % bytes u ≡ 0 → (a + bytes w ≤ b) ⊎ (b + bytes u ≤ a) → loaded (load_of u) (stored (store_of w) m a v) b ≡ loaded (load_of u) m b
loaded_other Byte Byte m a b v za zb apart = byte_beside m a b v (λ q. elim apart [ inl h ↦ omega arith | inr h ↦ omega arith ])
loaded_other Byte Word m a b v za zb apart = word_other m (a - a % 4) (with_part (m (a - a % 4)) (8 * (a % 4)) 8 v) b (λ q. elim apart [ inl h ↦ omega arith | inr h ↦ omega arith ])
loaded_other Word Byte m a b v za zb apart = ap (λ n. byte_in n (b % 4)) (word_other m a v (b - b % 4) (λ q. elim apart [ inl h ↦ omega arith | inr h ↦ omega arith ]))
loaded_other Word Word m a b v za zb apart = word_other m a v b (λ q. elim apart [ inl h ↦ omega arith | inr h ↦ omega arith ])

-- the words after a stored element stay the same
pub words_behind : (w : Width) (m : ℕ → ℕ) (a v c : ℕ) → a < c → stored (store_of w) m a v c ≡ m c
words_behind Byte m a v c lt = word_other m (a - a % 4) (with_part (m (a - a % 4)) (8 * (a % 4)) 8 v) c (λ q. omega arith)
words_behind Word m a v c lt = word_other m a v c (λ q. omega arith)

-- after a store the memory still holds words
pub stored_words : (w : Width) (m : ℕ → ℕ) (a v : ℕ) → v < 2 ^ 32 → ((b : ℕ) → m b < 2 ^ 32) → (b : ℕ) → stored (store_of w) m a v b < 2 ^ 32
stored_words Byte m a v lt all = word_word m (a - a % 4) (with_part (m (a - a % 4)) (8 * (a % 4)) 8 v) (byte_word (m (a - a % 4)) v (a % 4) (omega arith) (all (a - a % 4))) all
stored_words Word m a v lt all = word_word m a v lt all

-- ---- an element loaded

-- an element stays the same if the words up to it stay the same
pub loaded_alike : (w : Width) (m k : ℕ → ℕ) (b : ℕ) → ((c : ℕ) → c ≤ b → k c ≡ m c) → loaded (load_of w) k b ≡ loaded (load_of w) m b
loaded_alike Byte m k b same = ap (λ n. byte_in n (b % 4)) (same (b - b % 4) (omega arith))
loaded_alike Word m k b same = same b (omega arith)

-- a loaded element is a word
pub loaded_word : (w : Width) (m : ℕ → ℕ) (b : ℕ) → ((c : ℕ) → m c < 2 ^ 32) → loaded (load_of w) m b < 2 ^ 32
loaded_word Byte m b all = (let n = m (b - b % 4) / 2 ^ (8 * (b % 4)) in let p : n % 2 ^ 8 < 2 ^ 32 = omega arith in p)
loaded_word Word m b all = all b

pub kept_word : (w : Width) (v : ℕ) → v < 2 ^ 32 → kept w v < 2 ^ 32
kept_word Byte v lt = omega arith
kept_word Word v lt = lt

-- ---- the places of elements

-- where element i lies in an object that begins at b and has n elements
pub record Lies (w : Width) (b n i : ℕ) : Type 0 where
  pub low : b ≤ element_place w b i
  pub high : element_place w b i + bytes w ≤ b + 4 * words_of w n
  pub aligned : element_place w b i % bytes w ≡ 0
  pub ends : element_place w b i < b + 4 * words_of w n

pub lies : (w : Width) (b n i : ℕ) → b % 4 ≡ 0 → i < n → Lies w b n i
lies Byte b n i z lt = record { low = omega arith; high = omega arith; aligned = omega arith; ends = omega arith }
lies Word b n i z lt = record { low = omega arith; high = omega arith; aligned = omega arith; ends = omega arith }

-- two elements of one object share no byte
pub elements_apart : (w : Width) (b i j : ℕ) → (j ≡ i → ⊥) → (element_place w b i + bytes w ≤ element_place w b j) ⊎ (element_place w b j + bytes w ≤ element_place w b i)
elements_apart w b i j ne = elim (less_or_more i j) [ inl lt ↦ inl (less w i j lt) | inr q ↦ elim q [ inl lt ↦ inr (less w j i lt) | inr e ↦ absurd (ne e) ] ]
  where
    less_or_more : (i j : ℕ) → (i < j) ⊎ ((j < i) ⊎ (j ≡ i))
    less_or_more i j = grind arith

    less : (w : Width) (i j : ℕ) → i < j → element_place w b i + bytes w ≤ element_place w b j
    less Byte i j lt = omega arith
    less Word i j lt = omega arith

-- the machine may load and store an aligned element of the globals
pub load_accessible : (floor : ℕ) (w : Width) (a : ℕ) → a % bytes w ≡ 0 → globals_from ≤ a → a < globals_to → is_accessible_above floor (load_bytes (load_of w)) a ≡ true
load_accessible floor Byte a z from to = grind (arith, nat_tests)
load_accessible floor Word a z from to = grind (arith, nat_tests)

pub store_accessible : (floor : ℕ) (w : Width) (a : ℕ) → a % bytes w ≡ 0 → globals_from ≤ a → a < globals_to → is_accessible_above floor (store_bytes (store_of w)) a ≡ true
store_accessible floor Byte a z from to = grind (arith, nat_tests)
store_accessible floor Word a z from to = grind (arith, nat_tests)
