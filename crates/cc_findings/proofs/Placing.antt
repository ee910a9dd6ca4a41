-- The functions of an image, one more at a time.
use Rattle.std.proofs.Common.{◌≡◌, ℕ, zero, suc, ◌+◌, ◌*◌, ◌<◌, List, [], ◌∷◌, ◌++◌, length, take, get_or, slice_get, Some, ap, ◌∙◌, subst, arith}
use Rattle.std.specs.Prelude.{sum_by}
use Rattle.std.proofs.lemmas.List.{take_more}
use Rattle.std.proofs.lemmas.List.Sums.{sum_by-append}
use Rattle.cc_size.specs.declared.size.FunctionSize.{FunctionSize}
use Rattle.cc_findings.specs.Measured.{place_by}

-- the place after a function is the function's place plus four bytes for each of its words
pub place_next : (sizes : List FunctionSize) (k : ℕ) (d : FunctionSize) → k < length sizes → place_by sizes (k + 1) ≡ place_by sizes k + 4 * (get_or sizes k d).words
place_next sizes k d h =
    let sum : sum_by (λ (s : FunctionSize). s.words) (take (k + 1) sizes) ≡ sum_by (λ (s : FunctionSize). s.words) (take k sizes) + (get_or sizes k d).words =
    ap (sum_by (λ (s : FunctionSize). s.words)) (take_more sizes k d h) ∙ sum_by-append (λ (s : FunctionSize). s.words) (take k sizes) (get_or sizes k d ∷ []) ∙ omega arith in
    omega (arith, sum)

-- what is true for each place of a list, and for one more item at its end, is true for each place of the longer list
pub each_more : {X : Type 0} (P : ℕ → X → Type 0) (xs : List X) (x : X) → ((f : ℕ) (one : X) → slice_get xs f ≡ Some one → P f one) → P (length xs) x → (f : ℕ) (one : X) → slice_get (xs ++ x ∷ []) f ≡ Some one → P f one
each_more P [] x all new zero one e = subst (P 0) (let same : x ≡ one = cc in same) new
each_more P [] x all new (suc f) one e = absurd (cc)
each_more P (y ∷ ys) x all new zero one e = all 0 one e
each_more P (y ∷ ys) x all new (suc f) one e = each_more (λ k. P (suc k)) ys x (λ g. all (suc g)) new f one e
