-- Marking what one statement sets, and then what another sets, marks what both set.
use Rattle.std.proofs.Common.{◌≡◌, ◌==◌, ℕ, zero, suc, ◌+◌, ◌<◌, ◌≤◌, Bool, true, false, List, [], ◌∷◌, ◌++◌, length, drop, get_or, append_assoc, drop-cons, Some, refl, sym, ap, ◌∙◌, inl, inr, arith}
use Rattle.std.specs.Prelude.{◌||◌, set}
use Rattle.std.proofs.lemmas.Bool.Decides.{nat_tests, eqb_tells}
use Rattle.std.proofs.lemmas.List.{length-set, get_or-set_same, get_or-set_other}
use Rattle.cc_cminor_language.specs.Cminor.{Statement}
use Rattle.cc_cminor_language.specs.Code.{in_sequence}
use Rattle.cc_guard.specs.declared.known.Limit.{Limit}
use Rattle.cc_guard.specs.Guard.{sets_result, sets, stays, kept_if, kept}
use Rattle.cc_guard.specs.internal.Marks.{Marks, IsMarked}

or_false : (a : Bool) → a ≡ (a || false)
or_false true = refl
or_false false = refl

or_true : (a : Bool) → true ≡ (a || true)
or_true true = refl
or_true false = refl

or_grouped : (a b c : Bool) → ((a || b) || c) ≡ (a || (b || c))
or_grouped true b c = refl
or_grouped false b c = refl

pub marks_none : (old : List Bool) → Marks (λ x. false) old old
marks_none old = record { long = refl; marks = λ x lt. or_false (get_or old x false) }

pub marks_both : (p q : ℕ → Bool) (old mid new : List Bool) → Marks p old mid → Marks q mid new → Marks (λ x. p x || q x) old new
marks_both p q old mid new a b = record {
  long = b.long ∙ a.long;
  marks = λ x lt. b.marks x (let e = a.long in omega arith) ∙ ap (λ z. z || q x) (a.marks x lt) ∙ or_grouped (get_or old x false) (p x) (q x);
}

pub marks_one : (old : List Bool) (v : ℕ) → v < length old → Marks (sets_result (Some v)) old (set old v true)
marks_one old v lt = record { long = length-set old v true; marks = at }
  where
    at : (x : ℕ) → x < length old → get_or (set old v true) x false ≡ (get_or old x false || (v == x))
    at x below = elim (eqb_tells v x) [
      | inl (e, same) ↦ ap (λ y. get_or (set old v true) y false) (sym same) ∙ get_or-set_same old v true false lt ∙ or_true (get_or old x false) ∙ ap (λ z. get_or old x false || z) (sym e)
      | inr (e, other) ↦ get_or-set_other old v x true false (λ s. other (sym s)) ∙ or_false (get_or old x false) ∙ ap (λ z. get_or old x false || z) (sym e)
    ]

pub marks_nothing : (old : List Bool) (v : ℕ) → length old ≤ v → Marks (sets_result (Some v)) old old
marks_nothing old v le = record { long = refl; marks = λ x lt. let e : (v == x) ≡ false = grind (arith, nat_tests) in or_false (get_or old x false) ∙ ap (λ z. get_or old x false || z) (sym e) }

-- if no mark is set and one more unset mark is added, none is set
pub none_more : (ms : List Bool) → ((x : ℕ) → get_or ms x false ≡ false) → (x : ℕ) → get_or (ms ++ false ∷ []) x false ≡ false
none_more [] none zero = refl
none_more [] none (suc x) = refl
none_more (m ∷ ms) none zero = none 0
none_more (m ∷ ms) none (suc x) = none_more ms (λ y. none (suc y)) x

pub marked_of : (n : ℕ) (p : ℕ → Bool) (old new : List Bool) → length old ≡ n → ((x : ℕ) → get_or old x false ≡ false) → Marks p old new → IsMarked n p new
marked_of n p old new long none m = record { long = m.long ∙ long; marked = λ x lt. m.marks x (let e = long in omega arith) ∙ ap (λ z. z || p x) (none x) }

-- marking one statement and then those after it marks the whole sequence
pub marks_first : (s : Statement) (ss : List Statement) (old mid new : List Bool) → Marks (sets s) old mid → Marks (sets (in_sequence ss)) mid new → Marks (sets (in_sequence (s ∷ ss))) old new
marks_first s [] old mid new a b =
    let m = marks_both (sets s) (λ x. false) old mid new a b in
    record { long = m.long; marks = λ x lt. m.marks x lt ∙ ap (λ z. get_or old x false || z) (sym (or_false (sets s x))) }
marks_first s (t ∷ ss) old mid new a b = marks_both (sets s) (sets (in_sequence (t ∷ ss))) old mid new a b

-- ---- the known bounds that are kept

kept_here : (n : ℕ) (p : ℕ → Bool) (known : List Limit) (i : ℕ) (d : Limit) → i < length known → kept n p (drop i known) ≡ kept_if (stays n p (get_or known i d)) (get_or known i d) (kept n p (drop (i + 1) known))
kept_here n p known i d lt = ap (kept n p) (drop-cons known i d lt ∙ ap (λ k. get_or known i d ∷ drop k known) (let k : suc i ≡ i + 1 = omega arith in k))

pub kept_then : (n : ℕ) (p : ℕ → Bool) (known : List Limit) (i : ℕ) (d : Limit) (out all : List Limit) → i < length known → stays n p (get_or known i d) ≡ true → out ++ kept n p (drop i known) ≡ all
    → (out ++ get_or known i d ∷ []) ++ kept n p (drop (i + 1) known) ≡ all
kept_then n p known i d out all lt is so =
    let k = get_or known i d in
    let rest = kept n p (drop (i + 1) known) in
    append_assoc out (k ∷ []) rest ∙ sym (ap (λ b. out ++ kept_if b k rest) is) ∙ sym (ap (λ l. out ++ l) (kept_here n p known i d lt)) ∙ so

pub kept_else : (n : ℕ) (p : ℕ → Bool) (known : List Limit) (i : ℕ) (d : Limit) (out all : List Limit) → i < length known → stays n p (get_or known i d) ≡ false → out ++ kept n p (drop i known) ≡ all
    → out ++ kept n p (drop (i + 1) known) ≡ all
kept_else n p known i d out all lt is so =
    let k = get_or known i d in
    let rest = kept n p (drop (i + 1) known) in
    sym (ap (λ b. out ++ kept_if b k rest) is) ∙ sym (ap (λ l. out ++ l) (kept_here n p known i d lt)) ∙ so
