-- Lists of ranges, from one position on.
use Rattle.std.proofs.Common.{◌≡◌, ◌⊎◌, inl, inr, ℕ, zero, suc, ◌+◌, ◌-◌, ◌<◌, ◌≤◌, Bool, true, false, ◌==◌, List, [], ◌∷◌, ◌++◌, length, get_or, drop, drop-cons, refl, sym, ap, ◌∙◌, append-nil, append_assoc, arith}
use Rattle.std.specs.Prelude.{◌&&◌, ◌||◌, not, if◌then◌else◌, replicate}
use Rattle.std.proofs.Math.Bool.{and_assoc}
use Rattle.std.proofs.Math.Dec.{eqb-suc-zero}
use Rattle.std.proofs.lemmas.List.{drop_all}
use Rattle.cc_range.specs.declared.range.Range.{Range}
use Rattle.cc_range.specs.Range.{all_words, is_within, joined}
use Rattle.cc_range_table.specs.Table.{Facts, at, is_written}
use Rattle.cc_range_table.specs.Inductive.{range_of, are_within, joined_all, after_changes, changes_within, are_arguments}
use Rattle.cc_range_check.specs.Checking.{is_empty, each_in, is_in}
use Rattle.cc_cminor_language.specs.Code.{expression_of, expressions_of}
use Rattle.cc_cminor_language.specs.declared.code.Expression.{Expression}

-- ---- one more test

pub held_true : (a b rest whole next : Bool) → next ≡ b → a ≡ true → (a && (b && rest)) ≡ whole → (next && rest) ≡ whole
held_true a b rest whole next n t e = ap (λ k. k && rest) n ∙ sym (ap (λ k. k && (b && rest)) t) ∙ e

pub held_false : (a b rest whole next : Bool) → next ≡ false → a ≡ false → (a && (b && rest)) ≡ whole → (next && rest) ≡ whole
held_false a b rest whole next n t e = ap (λ k. k && rest) n ∙ sym (ap (λ k. k && (b && rest)) t) ∙ e

-- ---- one more position

at_drop : {A : Type 0} (l : List A) (i : ℕ) (d : A) → i < length l → drop i l ≡ get_or l i d ∷ drop (i + 1) l
at_drop l i d h = drop-cons l i d h ∙ ap (λ k. get_or l i d ∷ drop k l) (let e : suc i ≡ i + 1 = omega arith in e)

within_step : (rs : List Range) (i : ℕ) (s : Range) (ss : List Range) → are_within (drop i rs) (s ∷ ss) ≡ (is_within (at rs i) s && are_within (drop (suc i) rs) ss)
within_step [] zero s ss = refl
within_step [] (suc i) s ss = refl
within_step (r ∷ rs) zero s ss = refl
within_step (r ∷ rs) (suc i) s ss = within_step rs i s ss

pub within_more : (rs ss : List Range) (i : ℕ) → i < length ss → are_within (drop i rs) (drop i ss) ≡ (is_within (at rs i) (at ss i) && are_within (drop (i + 1) rs) (drop (i + 1) ss))
within_more rs ss i h =
    ap (λ l. are_within (drop i rs) l) (at_drop ss i all_words h) ∙ within_step rs i (at ss i) (drop (i + 1) ss)
    ∙ ap (λ k. is_within (at rs i) (at ss i) && are_within (drop k rs) (drop (i + 1) ss)) (let e : suc i ≡ i + 1 = omega arith in e)

changes_step : (ws : List Bool) (i : ℕ) (v : Bool) (vs : List Bool) → changes_within (drop i ws) (v ∷ vs) ≡ ((not (is_written ws i) || v) && changes_within (drop (suc i) ws) vs)
changes_step [] zero v vs = refl
changes_step [] (suc i) v vs = refl
changes_step (w ∷ ws) zero v vs = refl
changes_step (w ∷ ws) (suc i) v vs = changes_step ws i v vs

pub changes_more : (ws vs : List Bool) (i : ℕ) → i < length vs → changes_within (drop i ws) (drop i vs) ≡ ((not (is_written ws i) || is_written vs i) && changes_within (drop (i + 1) ws) (drop (i + 1) vs))
changes_more ws vs i h =
    ap (λ l. changes_within (drop i ws) l) (at_drop vs i true h) ∙ changes_step ws i (is_written vs i) (drop (i + 1) vs)
    ∙ ap (λ k. (not (is_written ws i) || is_written vs i) && changes_within (drop k ws) (drop (i + 1) vs)) (let e : suc i ≡ i + 1 = omega arith in e)

-- ---- one more element

pub one_more : {A : Type 0} (xs ys : List A) (r : A) (zs rest whole : List A) → ys ≡ xs ++ r ∷ [] → zs ≡ r ∷ rest → xs ++ zs ≡ whole → ys ++ rest ≡ whole
one_more xs ys r zs rest whole p q w = ap (λ l. l ++ rest) p ∙ append_assoc xs (r ∷ []) rest ∙ ap (λ l. xs ++ l) (sym q) ∙ w

pub joined_more : (rs ss : List Range) (i : ℕ) → i < length rs → i < length ss → joined_all (drop i rs) (drop i ss) ≡ joined (at rs i) (at ss i) ∷ joined_all (drop (i + 1) rs) (drop (i + 1) ss)
joined_more rs ss i h k = (λ j. joined_all (at_drop rs i all_words h j) (at_drop ss i all_words k j))

none_joined : (rs : List Range) → joined_all rs [] ≡ []
none_joined [] = refl
none_joined (r ∷ rs) = refl

pub all_joined : (rs ss : List Range) (i : ℕ) → (length rs ≤ i) ⊎ (length ss ≤ i) → joined_all (drop i rs) (drop i ss) ≡ []
all_joined rs ss i (inl h) = ap (λ l. joined_all l (drop i ss)) (drop_all i rs h)
all_joined rs ss i (inr h) = ap (λ l. joined_all (drop i rs) l) (drop_all i ss h) ∙ none_joined (drop i rs)

pub changed_more : (ws : List Bool) (rs ts : List Range) (i : ℕ) → i < length ws → i < length rs → i < length ts
    → after_changes (drop i ws) (drop i rs) (drop i ts) ≡ (if is_written ws i then at ts i else at rs i) ∷ after_changes (drop (i + 1) ws) (drop (i + 1) rs) (drop (i + 1) ts)
changed_more ws rs ts i h k m = (λ j. after_changes (at_drop ws i true h j) (at_drop rs i all_words k j) (at_drop ts i all_words m j))

none_before : (ws : List Bool) (ts : List Range) → after_changes ws [] ts ≡ []
none_before [] ts = refl
none_before (w ∷ ws) ts = refl

none_in_table : (ws : List Bool) (rs : List Range) → after_changes ws rs [] ≡ []
none_in_table [] rs = refl
none_in_table (w ∷ ws) [] = refl
none_in_table (w ∷ ws) (r ∷ rs) = refl

pub all_changed : (ws : List Bool) (rs ts : List Range) (i : ℕ) → (length ws ≤ i) ⊎ ((length rs ≤ i) ⊎ (length ts ≤ i)) → after_changes (drop i ws) (drop i rs) (drop i ts) ≡ []
all_changed ws rs ts i (inl h) = ap (λ l. after_changes l (drop i rs) (drop i ts)) (drop_all i ws h)
all_changed ws rs ts i (inr (inl h)) = ap (λ l. after_changes (drop i ws) l (drop i ts)) (drop_all i rs h) ∙ none_before (drop i ws) (drop i ts)
all_changed ws rs ts i (inr (inr h)) = ap (λ l. after_changes (drop i ws) (drop i rs) l) (drop_all i ts h) ∙ none_in_table (drop i ws) (drop i rs)

-- ---- arguments

no_more : (b : Bool) → false ≡ (b && false)
no_more true = refl
no_more false = refl

pub other_count : (F : Facts) (es : List Expression) (ps : List Range) → (length es ≡ length ps → ⊥) → false ≡ are_arguments F (expressions_of es) ps
other_count F [] [] n = absurd (n refl)
other_count F [] (p ∷ ps) n = refl
other_count F (e ∷ es) [] n = refl
other_count F (e ∷ es) (p ∷ ps) n = no_more (is_within (range_of F (expression_of e)) p) ∙ ap (λ k. is_within (range_of F (expression_of e)) p && k) (other_count F es ps (λ h. n (ap suc h)))

-- ---- words before the run

pub empty_is : (xs : List Range) → is_empty xs ≡ (length xs == 0)
empty_is [] = refl
empty_is (x ∷ xs) = sym (eqb-suc-zero (length xs))

pub each_append : (r : Range) (xs ys : List ℕ) → each_in r (xs ++ ys) ≡ (each_in r xs && each_in r ys)
each_append r [] ys = refl
each_append r (x ∷ xs) ys = ap (λ k. is_in r x && k) (each_append r xs ys) ∙ sym (and_assoc (is_in r x) (each_in r xs) (each_in r ys))
