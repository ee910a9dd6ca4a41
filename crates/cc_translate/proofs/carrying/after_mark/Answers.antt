use Rattle.std.proofs.Common.{◌≡◌, ℕ, suc, ◌+◌, ◌-◌, ◌<◌, List, None, length, take, drop, get_or, arith, sym, ap, subst, ◌∙◌, length-drop}
use Rattle.std.proofs.Math.Seq.{drop-cons}
use Rattle.std.proofs.lemmas.List.{take_all}
use Rattle.cc_translate.specs.Carried.{marked, after_mark}
use Rattle.cc_translate.proofs.Lines.{after_skipped}
use Rattle.cc_translate.proofs.carrying.after_mark.Goals as goal

pub loop-i-preserved : goal.loop-i-preserved
loop-i-preserved c =
    let line = c.args.line.now in
    let i = c.loop-i.i in
    let within : i < length line = omega arith in
    let next : suc i ≡ i + 1 = omega arith in
    let all : take (length line - i) (drop i line) ≡ drop i line = take_all (length line - i) (drop i line) (omega (arith, length-drop i line)) in
    let unmarked : marked (drop i line) ≡ None = ap (λ (z : List ℕ). marked z) (sym all) ∙ sym c.in_default.ensures in
    subst (λ (n : ℕ). after_mark (drop n line) ≡ after_mark line) next
    (after_skipped (drop i line) (get_or line i 0) (drop (suc i) line) (drop-cons line i 0 within) unmarked ∙ c.loop-i.invariant)
