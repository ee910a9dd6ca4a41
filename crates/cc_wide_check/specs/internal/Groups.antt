-- The first sections of a marked block, and those after them, while its statements are read one after another.
use Rattle.std.specs.Prelude.{ℕ, zero, suc, Bool, true, false, is_some}
use Rattle.cc_wide.specs.WideTree.{WideStmts, end, next}
use Rattle.cc_wide_text.specs.Forms.{label_of}
use Rattle.cc_wide_check.specs.internal.Sections.{begun}

-- n sections have begun, and it is known whether a label was read last
abbrev pub count_step : (ℕ → Bool → ℕ) → ℕ → Bool → (is_label : Bool) → ℕ
count_step go n label true = go (begun label n) true
count_step go n label false = go n false

abbrev pub counted : ℕ → Bool → WideStmts → ℕ
counted n label end = n
counted n label (next s rest) = count_step (λ m b. counted m b rest) n label (is_some (label_of s))

-- how many statements there are before the section that begins after h more
abbrev pub cut_step : (ℕ → Bool → ℕ) → (h : ℕ) → (label is_label : Bool) → ℕ
cut_step go h label false = suc (go h false)
cut_step go h true true = suc (go h true)
cut_step go zero false true = 0
cut_step go (suc h) false true = suc (go h true)

abbrev pub cut_at : (h : ℕ) → Bool → WideStmts → ℕ
cut_at h label end = 0
cut_at h label (next s rest) = cut_step (λ k b. cut_at k b rest) h label (is_some (label_of s))
