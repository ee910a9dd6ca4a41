-- The registers that a function saves, taken one by one from those that it may save; and the registers that steps write, taken one step at
-- a time.
use Rattle.std.proofs.Common.{◌≡◌, ℕ, zero, suc, ◌+◌, ◌<◌, ◌≤◌, List, [], ◌∷◌, ◌++◌, Bool, ◌||◌, ◌==◌, Option, Some, None, true, false, length, get_or, set, drop, replicate, refl, sym, ap, ◌∙◌, subst, inl, inr, append_assoc, length-append, arith}
use Rattle.std.specs.Prelude.{if◌then◌else◌, MatchOption}
use Rattle.std.specs.List.{AllByRecursion}
use Rattle.std.proofs.lemmas.Bool.Decides.{eqb_tells}
use Rattle.std.proofs.lemmas.List.{at_drop_more, drop_more, drop_all, get_or-set_same, get_or-set_other, length-set, get_or-replicate, length-replicate}
use Rattle.cc_select.specs.declared.step.Step.{Step}
use Rattle.cc_emit.specs.Frames.{writes, is_written, written, saved_by, kept_registers}

-- the registers saved so far, followed by those of the rest that the steps write, are all that are saved
abbrev pub Chosen : List Step → (index : ℕ) → List ℕ → Type 0
Chosen code i saved = (saved ++ written code (drop i kept_registers) ≡ saved_by code) × (length saved ≤ i + 1) × AllByRecursion (λ r. r < 32) saved

below_push : (rs : List ℕ) (r : ℕ) → AllByRecursion (λ r. r < 32) rs → r < 32 → AllByRecursion (λ r. r < 32) (rs ++ r ∷ [])
below_push [] r all lt = (lt, tt)
below_push (x ∷ rs) r all lt = (all.0, below_push rs r all.1 lt)

pub chosen_more : (code : List Step) (i r : ℕ) (old new : List ℕ) → r ≡ get_or kept_registers i 0 → i < 12 → r < 32 → is_written code r ≡ true → new ≡ old ++ r ∷ [] → Chosen code i old → Chosen code (i + 1) new
chosen_more code i r old new is lt small w e (all, few, below) =
    let step = at_drop_more (written code) kept_registers i 0 lt in
    let rest = written code (drop (i + 1) kept_registers) in
    let one : written code (get_or kept_registers i 0 ∷ drop (i + 1) kept_registers) ≡ r ∷ rest = ap (λ x. written code (x ∷ drop (i + 1) kept_registers)) (sym is) ∙ ap (λ b. if b then r ∷ rest else rest) w in (
      ap (λ l. l ++ rest) e ∙ append_assoc old (r ∷ []) rest ∙ ap (λ l. old ++ l) (sym one ∙ sym step) ∙ all,
      (let n = length-append old (r ∷ []) in rw e (omega (arith, n, few))),
      rw e (below_push old r below small),
    )

pub chosen_past : (code : List Step) (i r : ℕ) (old : List ℕ) → r ≡ get_or kept_registers i 0 → i < 12 → is_written code r ≡ false → Chosen code i old → Chosen code (i + 1) old
chosen_past code i r old is lt w (all, few, below) =
    let step = at_drop_more (written code) kept_registers i 0 lt in
    let rest = written code (drop (i + 1) kept_registers) in
    let one : written code (get_or kept_registers i 0 ∷ drop (i + 1) kept_registers) ≡ rest = ap (λ x. written code (x ∷ drop (i + 1) kept_registers)) (sym is) ∙ ap (λ b. if b then r ∷ rest else rest) w in
    (ap (λ l. old ++ l) (sym one ∙ sym step) ∙ all, omega (arith, few), below)

get_below : (rs : List ℕ) (i : ℕ) → AllByRecursion (λ r. r < 32) rs → get_or rs i 0 < 32
get_below [] i all = omega arith
get_below (r ∷ rs) zero all = all.0
get_below (r ∷ rs) (suc i) all = get_below rs i all.1

pub kept_below : (i : ℕ) → get_or kept_registers i 0 < 32
kept_below i = get_below kept_registers i (omega arith, (omega arith, (omega arith, (omega arith, (omega arith, (omega arith, (omega arith, (omega arith, (omega arith, (omega arith, (omega arith, (omega arith, tt))))))))))))

-- ---- the registers that steps write are those that the steps so far write, and those that the rest write

pub record Found (code : List Step) (i : ℕ) (found : List Bool) : Type 0 where
  pub long : length found ≡ 32
  pub each : (r : ℕ) → r < 32 → (get_or found r false || is_written (drop i code) r) ≡ is_written code r

or_true : (b : Bool) → (b || true) ≡ true
or_true true = refl
or_true false = refl

or_false : (b : Bool) → (b || false) ≡ b
or_false true = refl
or_false false = refl

pub found_first : (code : List Step) (found : List Bool) → found ≡ replicate 32 false → Found code 0 found
found_first code found e = record {
  long = ap (λ xs. length xs) e ∙ length-replicate 32 false;
  each = λ r lt. ap (λ b. b || is_written code r) (ap (λ xs. get_or xs r false) e ∙ get_or-replicate 32 r false false lt);
}

one_more : (code : List Step) (i : ℕ) (step : Step) (r : ℕ) → i < length code → step ≡ get_or code i step → is_written (drop i code) r ≡ (writes r step || is_written (drop (i + 1) code) r)
one_more code i step r lt is = ap (λ (xs : List Step). is_written xs r) (drop_more code i step lt ∙ ap (λ x. x ∷ drop (i + 1) code) (sym is))

-- a step's target, if it has one
abbrev pub IsTold : Option ℕ → Step → Type 0
IsTold o step = MatchOption o ((r : ℕ) → writes r step ≡ false) (λ to. (to < 32) × ((r : ℕ) → writes r step ≡ (to == r)))

pub found_more : (code : List Step) (i to : ℕ) (step : Step) (target : Option ℕ) (old : List Bool) → i < length code → step ≡ get_or code i step → target ≡ Some to → IsTold target step → Found code i old → Found code (i + 1) (set old to true)
found_more code i to step target old lt is found told so_far =
    let (low, one) = subst (λ o. IsTold o step) found told in
    let long = so_far.long in
    record {
      long = length-set old to true ∙ so_far.long;
      each = λ r below.
          here r (is_written (drop (i + 1) code) r) (omega arith)
          ∙ ap (λ b. get_or old r false || b) (sym (one_more code i step r lt is ∙ ap (λ b. b || is_written (drop (i + 1) code) r) (one r)))
          ∙ so_far.each r below;
    }
  where
    here : (r : ℕ) (rest : Bool) → to < length old → (get_or (set old to true) r false || rest) ≡ (get_or old r false || ((to == r) || rest))
    here r rest room = elim (eqb_tells to r) [
      | inl q ↦
          ap (λ j. get_or (set old to true) j false || rest) (sym q.1)
          ∙ ap (λ b. b || rest) (get_or-set_same old to true false room)
          ∙ sym (or_true (get_or old r false))
          ∙ sym (ap (λ b. get_or old r false || (b || rest)) q.0)
      | inr q ↦ (ap (λ b. b || rest) (get_or-set_other old to r true false (λ d. q.1 (sym d))) ∙ sym (ap (λ b. get_or old r false || (b || rest)) q.0))
    ]

nothing_told : (target : Option ℕ) (step : Step) → ((n : ℕ) → target ≡ Some n → ⊥) → IsTold target step → (r : ℕ) → writes r step ≡ false
nothing_told None step none told = told
nothing_told (Some n) step none told = absurd (none n refl)

pub found_none : (code : List Step) (i : ℕ) (step : Step) (target : Option ℕ) (found : List Bool) → i < length code → step ≡ get_or code i step → ((n : ℕ) → target ≡ Some n → ⊥) → IsTold target step → Found code i found → Found code (i + 1) found
found_none code i step target found lt is none told so_far = record {
  long = so_far.long;
  each = λ r below.
      ap (λ b. get_or found r false || b) (sym (one_more code i step r lt is ∙ ap (λ b. b || is_written (drop (i + 1) code) r) (nothing_told target step none told r))) ∙ so_far.each r below;
}

pub found_all : (code : List Step) (i : ℕ) (found : List Bool) → length code ≤ i → Found code i found → (r : ℕ) → r < 32 → get_or found r false ≡ is_written code r
found_all code i found le so_far r below =
    sym (or_false (get_or found r false)) ∙ sym (ap (λ (xs : List Step). get_or found r false || is_written xs r) (drop_all i code le)) ∙ so_far.each r below
