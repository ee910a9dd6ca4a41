-- Places in reverse order: the node at a place has the label that counts from the last place.
use Rattle.std.proofs.Common.{◌≡◌, ℕ, zero, suc, ◌+◌, ◌-◌, ◌<◌, List, [], ◌∷◌, ◌++◌, length, cond, refl, sym, ap, ◌∙◌, inl, inr, ◌⊎◌, arith, Option, Some, None, true, false, ◌==◌, length-append}
use Rattle.std.proofs.lemmas.Bool.{cases_eq}
use Rattle.std.proofs.lemmas.Bool.Decides.{nat_tests}
use Rattle.cc_rtl_language.specs.Rtl as rtl
use Rattle.cc_rtl.specs.internal.Generate.{Places, place_at, renamed, labelled_from, nodes_back}

-- the node at this position of a list
abbrev nth : List rtl.Node → ℕ → Option rtl.Node
nth [] i = None
nth (n ∷ ns) zero = Some n
nth (n ∷ ns) (suc i) = nth ns i

node_by_place : (last from i : ℕ) (ns : List rtl.Node) (n : rtl.Node) → nth ns i ≡ Some n → rtl.node_at (labelled_from last from ns) (from + i) ≡ Some (renamed (λ l. last - l) n)
node_by_place last from i [] n e = absurd (let z : None ≡ Some n = e in cc)
node_by_place last from zero (x ∷ ns) n e =
    let t : (from == from + 0) ≡ true = grind (arith, nat_tests) in
    ap (λ b. cond b (Some (renamed (λ l. last - l) x)) (rtl.node_at (labelled_from last (suc from) ns) (from + 0))) t ∙ (let z : Some x ≡ Some n = e in let w : x ≡ n = cc in ap (λ y. Some (renamed (λ l. last - l) y)) w)
node_by_place last from (suc i) (x ∷ ns) n e =
    let t : (from == from + suc i) ≡ false = grind (arith, nat_tests) in
    let s : suc from + i ≡ from + suc i = omega arith in
    ap (λ b. cond b (Some (renamed (λ l. last - l) x)) (rtl.node_at (labelled_from last (suc from) ns) (from + suc i))) t ∙ ap (rtl.node_at (labelled_from last (suc from) ns)) (sym s) ∙ node_by_place last (suc from) i ns n e

nth_prefix : (ns ms : List rtl.Node) (i : ℕ) (n : rtl.Node) → nth ns i ≡ Some n → nth (ns ++ ms) i ≡ Some n
nth_prefix [] ms i n e = absurd (let z : None ≡ Some n = e in cc)
nth_prefix (x ∷ ns) ms zero n e = e
nth_prefix (x ∷ ns) ms (suc i) n e = nth_prefix ns ms i n e

nth_last : (ns : List rtl.Node) (n : rtl.Node) → nth (ns ++ n ∷ []) (length ns) ≡ Some n
nth_last [] n = refl
nth_last (x ∷ ns) n = nth_last ns n

-- each place has a node
abbrev pub AreFilled : Places → Type 0
AreFilled [] = Unit {0}
AreFilled (None ∷ g) = ⊥
AreFilled (Some n ∷ g) = AreFilled g

pub as_many : (g : Places) → AreFilled g → length (nodes_back g) ≡ length g
as_many [] f = refl
as_many (None ∷ g) f = absurd f
as_many (Some n ∷ g) f = length-append (nodes_back g) (n ∷ []) ∙ (let r = as_many g f in let e : length (nodes_back g) + 1 ≡ suc (length g) = omega arith in e)

back_place : (g : Places) → AreFilled g → (l : ℕ) (n : rtl.Node) → l < length g → place_at g l ≡ Some n → nth (nodes_back g) (length g - suc l) ≡ Some n
back_place [] f l n lt e = absurd (omega arith)
back_place (None ∷ g) f l n lt e = absurd f
back_place (Some x ∷ g) f zero n lt e =
    let z : Some x ≡ Some n = e in
    let w : x ≡ n = cc in
    let m = as_many g f in
    let k : suc (length g) - suc zero ≡ length (nodes_back g) = omega arith in
    ap (nth (nodes_back g ++ x ∷ [])) k ∙ nth_last (nodes_back g) x ∙ ap (λ y. Some y) w
back_place (Some x ∷ g) f (suc l) n lt e =
    let k : suc (length g) - suc (suc l) ≡ length g - suc l = omega arith in
    ap (nth (nodes_back g ++ x ∷ [])) k ∙ nth_prefix (nodes_back g) (x ∷ []) (length g - suc l) n (back_place g f l n (omega arith) e)

-- the node at a place has as its label the distance of that place from the last one
pub turned_node : (g : Places) (last : ℕ) → AreFilled g → length g ≡ suc last → (l : ℕ) (n : rtl.Node) → l < length g → place_at g l ≡ Some n → rtl.node_at (labelled_from last 0 (nodes_back g)) (last - l) ≡ Some (renamed (λ k. last - k) n)
turned_node g last f long l n lt e =
    let k : length g - suc l ≡ last - l = omega arith in
    let z : 0 + (last - l) ≡ last - l = omega arith in
    ap (rtl.node_at (labelled_from last 0 (nodes_back g))) (sym z) ∙ node_by_place last 0 (last - l) (nodes_back g) n (ap (nth (nodes_back g)) (sym k) ∙ back_place g f l n lt e)

pub filled_all : (g : Places) → ((l : ℕ) → l < length g → place_at g l ≡ None → ⊥) → AreFilled g
filled_all [] h = tt
filled_all (None ∷ g) h = h zero (omega arith) refl
filled_all (Some n ∷ g) h = filled_all g (λ l lt e. h (suc l) (omega arith) e)

-- ---- and back: a node at a label comes from a place

nth_within : (ns : List rtl.Node) (i : ℕ) (n : rtl.Node) → nth ns i ≡ Some n → i < length ns
nth_within [] i n e = absurd (let z : None ≡ Some n = e in cc)
nth_within (x ∷ ns) zero n e = omega arith
nth_within (x ∷ ns) (suc i) n e = let r = nth_within ns i n e in omega arith

nth_cases : (ns : List rtl.Node) (x : rtl.Node) (i : ℕ) (n : rtl.Node) → nth (ns ++ x ∷ []) i ≡ Some n → (nth ns i ≡ Some n) ⊎ ((i ≡ length ns) × (x ≡ n))
nth_cases [] x zero n e = inr (refl, (let z : Some x ≡ Some n = e in cc))
nth_cases [] x (suc i) n e = absurd (let z : None ≡ Some n = e in cc)
nth_cases (y ∷ ns) x zero n e = inl e
nth_cases (y ∷ ns) x (suc i) n e = elim (nth_cases ns x i n e) [
  | inl here ↦ inl here
  | inr (last, same) ↦ inr (ap suc last, same)
]

-- a node in the order of labels is at a place, counted from the last
place_of : (g : Places) → AreFilled g → (i : ℕ) (n : rtl.Node) → nth (nodes_back g) i ≡ Some n → (l : ℕ) × (suc (l + i) ≡ length g) × (place_at g l ≡ Some n)
place_of [] f i n e = absurd (let z : None ≡ Some n = e in cc)
place_of (None ∷ g) f i n e = absurd f
place_of (Some x ∷ g) f i n e = elim (nth_cases (nodes_back g) x i n e) [
  | inl before ↦ (let r = place_of g f i n before in let long = r.1 in (suc r.0, omega arith, r.2))
  | inr (last, same) ↦ (let long = as_many g f in (zero, omega arith, ap (λ y. Some y) same))
]

node_by_label : (last from label : ℕ) (ns : List rtl.Node) (n : rtl.Node) → rtl.node_at (labelled_from last from ns) label ≡ Some n → (i : ℕ) × (m : rtl.Node) × (label ≡ from + i) × (nth ns i ≡ Some m) × (n ≡ renamed (λ l. last - l) m)
node_by_label last from label [] n e = absurd (let z : None ≡ Some n = e in cc)
node_by_label last from label (x ∷ ns) n e = elim (cases_eq from label) [
  | inl same ↦
      (let t : (from == label) ≡ true = grind (arith, nat_tests) in
      let z : Some (renamed (λ l. last - l) x) ≡ Some n = sym (ap (λ b. cond b (Some (renamed (λ l. last - l) x)) (rtl.node_at (labelled_from last (suc from) ns) label)) t) ∙ e in
      (zero, x, omega arith, refl, (let w : renamed (λ l. last - l) x ≡ n = cc in sym w)))
  | inr other ↦
      (let t : (from == label) ≡ false = grind (arith, nat_tests) in
      let r = node_by_label last (suc from) label ns n (sym (ap (λ b. cond b (Some (renamed (λ l. last - l) x)) (rtl.node_at (labelled_from last (suc from) ns) label)) t) ∙ e) in
      let far = r.2 in
      (suc r.0, r.1, omega arith, r.3, r.4))
]

-- the place of the node at a label
pub record Placed (g : Places) (last label : ℕ) (n : rtl.Node) : Type 0 where
  pub place : ℕ
  pub node : rtl.Node
  pub stands : place_at g place ≡ Some node
  pub is : n ≡ renamed (λ l. last - l) node

pub placed : (g : Places) (last : ℕ) → AreFilled g → (label : ℕ) (n : rtl.Node) → rtl.node_at (labelled_from last 0 (nodes_back g)) label ≡ Some n → Placed g last label n
placed g last f label n e =
    let r = node_by_label last 0 label (nodes_back g) n e in
    let q = place_of g f r.0 r.1 r.3 in
    record { place = q.0; node = r.1; stands = q.2; is = r.4 }

pub filled_at : (g : Places) → AreFilled g → (l : ℕ) → l < length g → (n : rtl.Node) × (place_at g l ≡ Some n)
filled_at [] f l lt = absurd (omega arith)
filled_at (None ∷ g) f l lt = absurd f
filled_at (Some x ∷ g) f zero lt = (x, refl)
filled_at (Some x ∷ g) f (suc l) lt = filled_at g f l (omega arith)
