-- The table of the tests that go before labels, as the code makes it: from the back, it notes the test after each label; then it
-- clears the labels to which branches lead. In the walk, the steps so far, followed by those of the items to come, are all the
-- steps.
use Rattle.std.proofs.Common.{◌≡◌, ℕ, ◌+◌, ◌-◌, ◌<◌, ◌≤◌, List, ◌∷◌, ◌++◌, length, get_or, drop, refl, sym, ap, ◌∙◌, Bool, true, false, ◌==◌, ◌||◌, if◌then◌else◌, Option, Some, None, append_assoc, arith}
use Rattle.std.proofs.lemmas.List.{drop_more, drop_all}
use Rattle.cc_linear_language.specs.declared.item.LinearItem.{LinearItem}
use Rattle.cc_linear_language.specs.declared.item.LinearItem.TheVariants.{Label, Jump, IfNonzero, IfZero}
use Rattle.cc_select.specs.declared.step.Step.{Step}
use Rattle.cc_select.specs.Known.{Known, unknown, known_behind, chosen}
use Rattle.cc_select.specs.Threading.{Tests, branches_to, first_test, test_behind, way, before_label, before_jump, in_jump, piece, is_before_gone, threaded_by}
use Rattle.cc_select.specs.internal.Passes.{branched_to}

-- ---- from the back

pub record Gathered (items : List LinearItem) (at : ℕ) (found : Tests) : Type 0 where
  pub within : at ≤ length items
  pub same : (n : ℕ) → found n ≡ test_behind (drop at items) n

pub gather_begins : (items : List LinearItem) (found : Tests) → ((n : ℕ) → found n ≡ None) → Gathered items (length items) found
gather_begins items found e = record {
  within = omega arith;
  same = λ n. e n ∙ sym (ap (λ (xs : List LinearItem). test_behind xs n) (drop_all (length items) items (omega arith)));
}

-- the item before number `at`
abbrev pub At : (items : List LinearItem) (at : ℕ) → LinearItem → Type 0
At items at item = (0 < at) × (item ≡ get_or items (at - 1) item)

rest_more : (items : List LinearItem) (at : ℕ) (item : LinearItem) → at ≤ length items → At items at item → drop (at - 1) items ≡ item ∷ drop at items
rest_more items at item le (pos, is) =
    let n : at - 1 + 1 ≡ at = omega arith in
    drop_more items (at - 1) item (omega arith) ∙ ap (λ x. x ∷ drop (at - 1 + 1) items) (sym is) ∙ ap (λ i. item ∷ drop i items) n

pub gather_label : (items : List LinearItem) (at l : ℕ) (item : LinearItem) (row : Option LinearItem) (old new : Tests) → At items at item → item ≡ Label l → row ≡ first_test (drop (at - 1 + 1) items) → ((n : ℕ) → new n ≡ (if l == n then row else old n))
    → Gathered items at old → Gathered items (at - 1) new
gather_label items at l item row old new (pos, is) label found put g =
    let le = g.within in
    let n : at - 1 + 1 ≡ at = omega arith in
    let rest : drop (at - 1) items ≡ Label l ∷ drop at items = rest_more items at item le (pos, is) ∙ ap (λ x. x ∷ drop at items) label in
    record {
      within = omega arith;
      same = λ m. put m ∙ here m (l == m) (found ∙ ap (λ i. first_test (drop i items)) n) (g.same m) ∙ sym (ap (λ (xs : List LinearItem). test_behind xs m) rest);
    }
  where
    here : (m : ℕ) (b : Bool) → row ≡ first_test (drop at items) → old m ≡ test_behind (drop at items) m → (if b then row else old m) ≡ (if b then first_test (drop at items) else test_behind (drop at items) m)
    here m true p q = p
    here m false p q = q

other_behind : (item : LinearItem) (items : List LinearItem) (n : ℕ) → ((l : ℕ) → item ≡ Label l → ⊥) → test_behind (item ∷ items) n ≡ test_behind items n
other_behind (Label l) items n f = absurd (f l refl)
other_behind item items n f = refl

pub gather_other : (items : List LinearItem) (at : ℕ) (item : LinearItem) (found : Tests) → At items at item → ((l : ℕ) → item ≡ Label l → ⊥) → Gathered items at found → Gathered items (at - 1) found
gather_other items at item found (pos, is) f g =
    let le = g.within in
    record {
      within = omega arith;
      same = λ n. g.same n ∙ sym (other_behind item (drop at items) n f) ∙ sym (ap (λ (xs : List LinearItem). test_behind xs n) (rest_more items at item le (pos, is)));
    }

-- ---- branches

-- `new` is `old` without the tests for the labels to which branches of the first items lead
abbrev pub Crossed : (items : List LinearItem) (at : ℕ) (old new : Tests) → Type 0
Crossed items at old new = (n : ℕ) → (if branches_to (drop at items) n then None else new n) ≡ (if branches_to items n then None else old n)

one_more : (items : List LinearItem) (at : ℕ) (item : LinearItem) → at < length items → item ≡ get_or items at item → drop at items ≡ item ∷ drop (at + 1) items
one_more items at item lt is = drop_more items at item lt ∙ ap (λ x. x ∷ drop (at + 1) items) (sym is)

branch_crossed : (item : LinearItem) (items : List LinearItem) (to n : ℕ) → Some to ≡ branched_to item → branches_to (item ∷ items) n ≡ ((to == n) || branches_to items n)
branch_crossed (IfNonzero r m) items to n e = (let q : to ≡ m = cc in ap (λ k. (k == n) || branches_to items n) (sym q))
branch_crossed (IfZero r m) items to n e = (let q : to ≡ m = cc in ap (λ k. (k == n) || branches_to items n) (sym q))
branch_crossed item items to n e = absurd (cc)

other_crossed : (item : LinearItem) (items : List LinearItem) (n : ℕ) → None ≡ branched_to item → branches_to (item ∷ items) n ≡ branches_to items n
other_crossed (IfNonzero r m) items n e = absurd (cc)
other_crossed (IfZero r m) items n e = absurd (cc)
other_crossed item items n e = refl

pub cross_one : (items : List LinearItem) (at to : ℕ) (item : LinearItem) (first old new : Tests) → at < length items → item ≡ get_or items at item → Some to ≡ branched_to item → ((n : ℕ) → new n ≡ (if to == n then None else old n))
    → Crossed items at first old → Crossed items (at + 1) first new
cross_one items at to item first old new lt is leads put so_far n =
    ap (λ x. if branches_to (drop (at + 1) items) n then None else x) (put n)
    ∙ here (to == n) (branches_to (drop (at + 1) items) n)
    ∙ ap (λ (b : Bool). if b then None else old n) (sym (branch_crossed item (drop (at + 1) items) to n leads))
    ∙ ap (λ (xs : List LinearItem). if branches_to xs n then None else old n) (sym (one_more items at item lt is))
    ∙ so_far n
  where
    here : (b c : Bool) → (if c then None else (if b then None else old n)) ≡ (if b || c then None else old n)
    here true true = refl
    here true false = refl
    here false c = refl

pub cross_other : (items : List LinearItem) (at : ℕ) (item : LinearItem) (first found : Tests) → at < length items → item ≡ get_or items at item → None ≡ branched_to item → Crossed items at first found → Crossed items (at + 1) first found
cross_other items at item first found lt is none so_far n =
    ap (λ (b : Bool). if b then None else found n) (sym (other_crossed item (drop (at + 1) items) n none))
    ∙ ap (λ (xs : List LinearItem). if branches_to xs n then None else found n) (sym (one_more items at item lt is))
    ∙ so_far n

pub cross_ends : (items : List LinearItem) (at : ℕ) (first found : Tests) → length items ≤ at → Crossed items at first found → (n : ℕ) → found n ≡ (if branches_to items n then None else first n)
cross_ends items at first found le so_far n = ap (λ (xs : List LinearItem). if branches_to xs n then None else found n) (sym (drop_all at items le)) ∙ so_far n

-- ---- the walk

-- the steps so far, followed by those of the items to come, are all the steps
abbrev pub Threaded : Tests → List LinearItem → (index : ℕ) → Known → (gone : Bool) → List Step → Type 0
Threaded ts items i k gone steps = steps ++ chosen k (threaded_by ts k gone (drop i items)) ≡ chosen unknown (threaded_by ts unknown false items)

pub thread_gone : (ts : Tests) (items : List LinearItem) (i : ℕ) (item : LinearItem) (k : Known) (steps : List Step) → i < length items → item ≡ get_or items i item → Threaded ts items i k true steps → Threaded ts items (i + 1) k false steps
thread_gone ts items i item k steps lt is so_far = ap (λ (xs : List LinearItem). steps ++ chosen k (threaded_by ts k true xs)) (sym (one_more items i item lt is)) ∙ so_far

-- after a jump and a label nothing is known
jump_chosen : (w : LinearItem) (n : ℕ) (k : Known) (rest : List LinearItem) → chosen k (before_jump w n ++ rest) ≡ chosen k (before_jump w n) ++ chosen unknown rest
jump_chosen (Jump m) n k rest = refl
jump_chosen w n k rest = refl

piece_chosen : (ts : Tests) (k : Known) (item : LinearItem) (rest : List LinearItem) → chosen k (piece ts k item ++ rest) ≡ chosen k (piece ts k item) ++ chosen (known_behind item k) rest
piece_chosen ts k (Label n) rest = by (ts n)
  where
    by : (z : Option LinearItem) → chosen k (before_label k z n ++ rest) ≡ chosen k (before_label k z n) ++ chosen unknown rest
    by None = refl
    by (Some t) = refl
piece_chosen ts k (Jump n) rest = by (ts n)
  where
    by : (z : Option LinearItem) → chosen k (in_jump k z n ++ rest) ≡ chosen k (in_jump k z n) ++ chosen unknown rest
    by None = refl
    by (Some t) = jump_chosen (way k t n) n k rest
piece_chosen ts k item rest = refl

pub thread_one : (ts : Tests) (items : List LinearItem) (i : ℕ) (item : LinearItem) (k k' : Known) (gone : Bool) (steps steps' : List Step) → i < length items → item ≡ get_or items i item → steps' ≡ steps ++ chosen k (piece ts k item) → gone ≡ is_before_gone ts item → k' ≡ known_behind item k
    → Threaded ts items i k false steps → Threaded ts items (i + 1) k' gone steps'
thread_one ts items i item k k' gone steps steps' lt is put before behind so_far =
    ap (λ xs. xs ++ chosen k' (threaded_by ts k' gone (drop (i + 1) items))) put
    ∙ append_assoc steps (chosen k (piece ts k item)) (chosen k' (threaded_by ts k' gone (drop (i + 1) items)))
    ∙ ap (λ n. steps ++ (chosen k (piece ts k item) ++ chosen n (threaded_by ts n gone (drop (i + 1) items)))) behind
    ∙ ap (λ b. steps ++ (chosen k (piece ts k item) ++ chosen (known_behind item k) (threaded_by ts (known_behind item k) b (drop (i + 1) items)))) before
    ∙ ap (λ xs. steps ++ xs) (sym (piece_chosen ts k item (threaded_by ts (known_behind item k) (is_before_gone ts item) (drop (i + 1) items))))
    ∙ ap (λ (xs : List LinearItem). steps ++ chosen k (threaded_by ts k false xs)) (sym (one_more items i item lt is))
    ∙ so_far
