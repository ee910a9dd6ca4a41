-- The code finds what comes before a frame.
use Rattle.std.proofs.Common.{◌≡◌, ℕ, zero, suc, ◌+◌, ◌-◌, ◌<◌, ◌⊎◌, List, [], ◌∷◌, Bool, Option, Some, true, false, length, get_or, drop, take, refl, sym, ap, ap₂, ◌∙◌, subst, inl, inr, arith}
use Rattle.std.specs.Prelude.{if◌then◌else◌, ◌==◌, option_map}
use Rattle.std.specs.List.{AllByRecursion}
use Rattle.std.proofs.lemmas.List.{drop_more, take_all, length-drop}
use Rattle.cc_linear_language.specs.declared.item.LinearItem.TheVariants.{Label, Return}
use Rattle.cc_select.specs.declared.step.Step.{Step}
use Rattle.cc_select.specs.declared.step.Step.TheVariants.{One}
use Rattle.cc_select.specs.Selected.{place, labels, IsStep}
use Rattle.cc_emit.specs.declared.early.Ahead as found
use Rattle.cc_emit.specs.declared.item.PieceItem.{PieceItem}
use Rattle.cc_emit.specs.Early.{Early, early, early_from, ending, last_of}
use Rattle.cc_emit.specs.Function.{behind, early_items, function_items, items_with, whole_items}
use Rattle.cc_emit.specs.internal.Ahead.{shown, with_before}
use Rattle.cc_emit.proofs.Headed.{early_says, head_fits, head_gains, head_labels, rest_fits, rest_labels}

step_then : (code : List Step) (i : ℕ) (s : Step) → i < length code → s ≡ get_or code i s → drop i code ≡ s ∷ drop (i + 1) code
step_then code i s lt is = drop_more code i s lt ∙ ap (λ x. x ∷ drop (i + 1) code) (sym is)

-- ---- the ending to which a label leads

-- from a label's place on there are no steps, or the first one is a label
abbrev Begins : List Step → Type 0
Begins steps = (steps ≡ []) ⊎ ((n : ℕ) × (rest : List Step) × (steps ≡ One (Label n) ∷ rest))

begins_either : (b : Bool) (xs ys : List Step) → Begins xs → Begins ys → Begins (if b then xs else ys)
begins_either true xs ys p q = p
begins_either false xs ys p q = q

place_begins : (code : List Step) (l : ℕ) → Begins (place code l)
place_begins [] l = inl refl
place_begins (One (Label n) ∷ code) l = begins_either (n == l) (One (Label n) ∷ code) (place code l) (inr (n, code, refl)) (place_begins code l)
place_begins (_ ∷ code) l = place_begins code l

ending_rest : (code : List Step) (i l : ℕ) (s : Step) → i < length code → s ≡ get_or code i s → drop i code ≡ place code l → ending (place code l) ≡ last_of (drop (i + 1) code)
ending_rest code i l s lt is at = by (place_begins code l)
  where
    split : s ∷ drop (i + 1) code ≡ place code l
    split = sym (step_then code i s lt is) ∙ at

    by : Begins (place code l) → ending (place code l) ≡ last_of (drop (i + 1) code)
    by (inl e) = absurd (let q : s ∷ drop (i + 1) code ≡ [] = split ∙ e in cc)
    by (inr (n, rest, e)) =
        let q : s ∷ drop (i + 1) code ≡ One (Label n) ∷ rest = split ∙ e in
        let same : rest ≡ drop (i + 1) code = cc in
        ap ending e ∙ ap last_of same

pub ending_at : (code : List Step) (i l : ℕ) → i < length code → drop i code ≡ place code l → ending (place code l) ≡ last_of (drop (i + 1) code)
ending_at code i l lt at = ending_rest code i l (get_or code i (One Return)) lt (get_same code i lt) at
  where
    get_same : (xs : List Step) (k : ℕ) → k < length xs → get_or xs k (One Return) ≡ get_or xs k (get_or xs k (One Return))
    get_same [] k lt = absurd (omega arith)
    get_same (x ∷ xs) zero lt = refl
    get_same (x ∷ xs) (suc k) lt = get_same xs k (omega arith)

-- ---- light steps

abbrev pub Light : List Step → ℕ → Type 0
Light code n = (all : List Step) → early_from all code ≡ option_map (with_before (take n code)) (early_from all (drop n code))

-- ---- the whole function

pub ahead_says : (slots : ℕ) (code : List Step) (z : Option found.Ahead) (a : found.Ahead) → z ≡ Some a → option_map (shown code) z ≡ early slots code → early slots code ≡ Some (shown code a)
ahead_says slots code z a e q = sym q ∙ ap (option_map (shown code)) e

-- what is required of the code before the frame, and of the code in the frame
pub record Handed (slots count : ℕ) (code : List Step) : Type 0 where
  pub labels_below : AllByRecursion (λ label. label < count) (labels code)
  pub fit : (functions : ℕ) × (all : List ℕ) × AllByRecursion (λ label. label < count) all × AllByRecursion (IsStep slots functions all) code

pub head_handed : (slots count functions : ℕ) (code : List Step) (e : Early) → early slots code ≡ Some e → AllByRecursion (λ label. label < count) (labels code) → AllByRecursion (IsStep slots functions (labels code)) code → Handed 0 count e.head
head_handed slots count functions code e is below fits =
    let says = early_says slots code e is in
    record {
      labels_below = head_labels count slots functions (labels code) code code e says below fits;
      fit = (functions, labels code, below, head_fits slots functions (labels code) code e says fits);
    }

pub rest_handed : (slots count functions : ℕ) (code : List Step) (e : Early) → early slots code ≡ Some e → AllByRecursion (λ label. label < count) (labels code) → AllByRecursion (IsStep slots functions (labels code)) code → Handed slots count e.rest
rest_handed slots count functions code e is below fits =
    let says = early_says slots code e is in
    record {
      labels_below = subst (AllByRecursion (λ label. label < count)) (rest_labels code code e says) below;
      fit = (functions, labels code, below, rest_fits slots functions (labels code) code code e says fits);
    }

pub early_whole : (base : ℕ → ℕ) (slots : ℕ) (code : List Step) (e : Early) (head rest items : List PieceItem) → early slots code ≡ Some e → head ≡ whole_items base 0 e.head → rest ≡ whole_items base slots e.rest → items ≡ behind head rest → items ≡ function_items base slots code
early_whole base slots code e head rest items is eh er ei =
    let bare : whole_items base 0 e.head ≡ items_with base false 0 e.head = ap (λ b. items_with base b 0 e.head) (head_gains base code e (early_says slots code e is)) in
    ei ∙ ap₂ behind (eh ∙ bare) er ∙ ap (λ z. early_items base slots z code) (sym is)

-- the part of a list from place `n` to the end is what is left after the first `n` items
pub rest_from : (code : List Step) (n : ℕ) → take (length code - n) (drop n code) ≡ drop n code
rest_from code n = (let long = length-drop n code in take_all (length code - n) (drop n code) (omega arith))
