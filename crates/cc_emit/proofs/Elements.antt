-- An element of an object, in the world of Linear and in the machine's memory.
use Rattle.std.proofs.Common.{◌≡◌, ℕ, zero, suc, ◌+◌, ◌*◌, ◌%◌, ◌<◌, ◌≤◌, ◌⊎◌, List, [], ◌∷◌, Some, None, true, false, Bool, length, get_or, map, refl, sym, ap, ◌∙◌, subst, inl, inr, arith}
use Rattle.std.specs.Prelude.{if◌then◌else◌, set, slice_get}
use Rattle.std.proofs.lemmas.List.{get_or-set_same, get_or-set_other, length-set, get_or_past}
use Rattle.std.proofs.lemmas.Bool.Decides.{eqb_tells}
use Rattle.cc_words.specs.declared.operators.Width.{Width}
use Rattle.cc_words.specs.declared.operators.Width.TheVariants.{Word}
use Rattle.cc_words.specs.Widths.{bytes, kept, same_width, words_of}
use Rattle.cc_rv32.specs.Machine.{State, globals_to, loaded, stored}
use Rattle.cc_simulation.specs.World.{Object, Size, World, element, object_of, object_with, object_words, size_of, with_element}
use Rattle.cc_emit.specs.Contract.{Shares, element_at, element_place, load_of, size_words, store_of, words_in}
use Rattle.cc_emit.proofs.Basics.{got}
use Rattle.cc_emit.proofs.Bytes.{same_tells, lies, elements_apart, loaded_same, loaded_other, loaded_alike}
use Rattle.cc_emit.proofs.Standing.{Site, size_at, size_found}

-- element i of object g exists, and v is its value
pub record IsElement (h : World) (w : Width) (g i v : ℕ) : Type 0 where
  pub width : (object_of h g).width ≡ w
  pub below : i < length (object_words h g)
  pub value : get_or (object_words h g) i 0 ≡ v

pub element_tells : (h : World) (w : Width) (g i v : ℕ) → element h w g i ≡ Some v → IsElement h w g i v
element_tells h w g i v e = by_width (same_width (object_of h g).width w) refl e
  where
    by_width : (b : Bool) → same_width (object_of h g).width w ≡ b → (if b then slice_get (object_words h g) i else None) ≡ Some v → IsElement h w g i v
    by_width true is e = let there = got (object_words h g) i v e in record { width = same_tells (object_of h g).width w is; below = there.0; value = there.1 }
    by_width false is e = absurd (let z : None ≡ Some v = e in cc)

-- the size of the element's object
size_told : (x : Site) (h : World) (s : State) (w : Width) (g i v : ℕ) → Shares x.layout s h → IsElement h w g i v → size_at x g ≡ record { width = w; elements = length (object_words h g) }
size_told x h s w g i v sh is = size_found x.meaning.objects h sh.sizes g ∙ ap (λ (u : Width). record { width = u; elements = length (object_words h g) }) is.width

-- where the element lies in memory
pub record IsPlaced (x : Site) (w : Width) (g i : ℕ) : Type 0 where
  pub from : x.layout.base g ≤ element_place w (x.layout.base g) i
  pub to : element_place w (x.layout.base g) i + bytes w ≤ x.layout.base g + 4 * words_in x.meaning.objects g
  pub below : element_place w (x.layout.base g) i < globals_to
  pub aligned : element_place w (x.layout.base g) i % bytes w ≡ 0

placed_by : (x : Site) (w : Width) (g n i : ℕ) → words_in x.meaning.objects g ≡ words_of w n → i < n → IsPlaced x w g i
placed_by x w g n i same lt =
    let l = lies w (x.layout.base g) n i (x.layout.aligned g) lt in
    let from = l.low in
    let high = l.high in
    let ends = l.ends in
    let to = x.layout.to g in
    record { from = l.low; to = omega arith; below = omega arith; aligned = l.aligned }

pub placed : (x : Site) (h : World) (s : State) (w : Width) (g i v : ℕ) → Shares x.layout s h → IsElement h w g i v → IsPlaced x w g i
placed x h s w g i v sh is = placed_by x w g (length (object_words h g)) i (ap size_words (size_told x h s w g i v sh is)) is.below

-- the machine loads the element's value from the element's place
pub holds : (x : Site) (h : World) (s : State) (w : Width) (g i v : ℕ) → Shares x.layout s h → IsElement h w g i v → loaded (load_of w) s.memory (element_place w (x.layout.base g) i) ≡ v
holds x h s w g i v sh is =
    let size = size_told x h s w g i v sh is in
    sym (ap (λ (z : Size). element_at z s.memory (x.layout.base g) i) size) ∙ sh.globals g i (subst (λ (z : Size). i < z.elements) (sym size) is.below) ∙ is.value

-- elements stay the same if the words of the globals do
pub elements_stay : (x : Site) (m k : ℕ → ℕ) (g j : ℕ) → j < (size_at x g).elements → ((c : ℕ) → c < globals_to → k c ≡ m c) → element_at (size_at x g) k (x.layout.base g) j ≡ element_at (size_at x g) m (x.layout.base g) j
elements_stay x m k g j lj same =
    let p = placed_by x (size_at x g).width g (size_at x g).elements j refl lj in
    let below = p.below in
    loaded_alike (size_at x g).width m k (element_place (size_at x g).width (x.layout.base g) j) (λ c le. same c (omega arith))

-- ---- a world in which an element is stored

object_is : (h : World) (g i : ℕ) → i < length (object_words h g) → (g < length h.globals)
object_is h g i lt =
    elim (le_or_lt (length h.globals) g) [
      | inl le ↦ absurd (let e : length (object_words h g) ≡ 0 = ap (λ (o : Object). length o.words) (get_or_past h.globals g (record { width = Word; words = [] }) le) in omega arith)
      | inr less ↦ less
    ]
  where
    le_or_lt : (a b : ℕ) → (a ≤ b) ⊎ (b < a)
    le_or_lt a b = grind arith

same_object : (h : World) (g i v : ℕ) → i < length (object_words h g) → object_of (with_element h g i v) g ≡ object_with (object_of h g) i v
same_object h g i v lt = get_or-set_same h.globals g (object_with (object_of h g) i v) (record { width = Word; words = [] }) (object_is h g i lt)

other_object : (h : World) (g i v k : ℕ) → (k ≡ g → ⊥) → object_of (with_element h g i v) k ≡ object_of h k
other_object h g i v k e = get_or-set_other h.globals g k (object_with (object_of h g) i v) (record { width = Word; words = [] }) e

set_sizes : (gs : List Object) (g i v : ℕ) → map size_of (set gs g (object_with (get_or gs g (record { width = Word; words = [] })) i v)) ≡ map size_of gs
set_sizes [] g i v = refl
set_sizes (o ∷ os) zero i v = ap (λ (n : ℕ). record { width = o.width; elements = n } ∷ map size_of os) (length-set o.words i v)
set_sizes (o ∷ os) (suc g) i v = ap (λ (ns : List Size). size_of o ∷ ns) (set_sizes os g i v)

pub stored_sizes : (h : World) (g i v : ℕ) → map size_of (with_element h g i v).globals ≡ map size_of h.globals
stored_sizes h g i v = set_sizes h.globals g i v

-- each element of the same object has the right value after a store into the object
stored_here : (x : Site) (h : World) (s : State) (w : Width) (g i v old j : ℕ) → Shares x.layout s h → IsElement h w g i old → j < length (object_words h g)
    → loaded (load_of w) (stored (store_of w) s.memory (element_place w (x.layout.base g) i) v) (element_place w (x.layout.base g) j) ≡ get_or (set (object_words h g) i (kept w v)) j 0
stored_here x h s w g i v old j sh is lj =
    let b = x.layout.base g in
    let ws = object_words h g in
    let new = stored (store_of w) s.memory (element_place w b i) v in
    elim (eqb_tells j i) [
      | inl u ↦
          ap (λ n. loaded (load_of w) new (element_place w b n)) u.1 ∙ loaded_same w s.memory (element_place w b i) v
          ∙ sym (ap (λ n. get_or (set ws i (kept w v)) n 0) u.1 ∙ get_or-set_same ws i (kept w v) 0 is.below)
      | inr u ↦
          (let there : IsElement h w g j (get_or ws j 0) = record { width = is.width; below = lj; value = refl } in
          loaded_other w w s.memory (element_place w b i) (element_place w b j) v (placed x h s w g i old sh is).aligned (placed x h s w g j _ sh there).aligned (elements_apart w b i j u.1)
          ∙ holds x h s w g j (get_or ws j 0) sh there ∙ sym (get_or-set_other ws i j (kept w v) 0 u.1))
    ]

-- an element of another object stays the same after a store
stored_there : (x : Site) (s : State) (w u : Width) (g i v k j : ℕ) → (g ≡ k → ⊥) → IsPlaced x w g i → IsPlaced x u k j
    → loaded (load_of u) (stored (store_of w) s.memory (element_place w (x.layout.base g) i) v) (element_place u (x.layout.base k) j) ≡ loaded (load_of u) s.memory (element_place u (x.layout.base k) j)
stored_there x s w u g i v k j ne p q =
    let from = p.from in
    let to = p.to in
    let low = q.from in
    let high = q.to in
    loaded_other w u s.memory (element_place w (x.layout.base g) i) (element_place u (x.layout.base k) j) v p.aligned q.aligned
    (elim (x.layout.apart g k ne) [ inl b ↦ inl (omega arith) | inr b ↦ inr (omega arith) ])

-- each element has the right value after a store
pub stored_element : (x : Site) (h : World) (s : State) (w : Width) (g i v old : ℕ) → Shares x.layout s h → IsElement h w g i old → (k j : ℕ) → j < (size_at x k).elements
    → element_at (size_at x k) (stored (store_of w) s.memory (element_place w (x.layout.base g) i) v) (x.layout.base k) j ≡ get_or (object_words (with_element h g i (kept w v)) k) j 0
stored_element x h s w g i v old sh is k j lj =
    let new = stored (store_of w) s.memory (element_place w (x.layout.base g) i) v in
    let size = size_told x h s w g i old sh is in
    elim (eqb_tells k g) [
      | inl t ↦
          (let at : (j < (size_at x g).elements → element_at (size_at x g) new (x.layout.base g) j ≡ get_or (object_words (with_element h g i (kept w v)) g) j 0) =
          λ lg. ap (λ (z : Size). element_at z new (x.layout.base g) j) size ∙ stored_here x h s w g i v old j sh is (subst (λ (z : Size). j < z.elements) size lg)
          ∙ sym (ap (λ (o : Object). get_or o.words j 0) (same_object h g i (kept w v) is.below)) in
          subst (λ (n : ℕ). j < (size_at x n).elements → element_at (size_at x n) new (x.layout.base n) j ≡ get_or (object_words (with_element h g i (kept w v)) n) j 0) (sym t.1) at lj)
      | inr t ↦
          (stored_there x s w (size_at x k).width g i v k j (λ e. t.1 (sym e)) (placed x h s w g i old sh is) (placed_by x (size_at x k).width k (size_at x k).elements j refl lj) ∙ sh.globals k j lj
          ∙ sym (ap (λ (o : Object). get_or o.words j 0) (other_object h g i (kept w v) k t.1)))
    ]
