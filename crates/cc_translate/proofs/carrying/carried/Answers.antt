use Rattle.std.proofs.Common.{◌≡◌, ℕ, List, [], ◌∷◌, ◌++◌, sym, ap, subst, ◌∙◌}
use Rattle.cc_translate.specs.Carried.{lines, carried}
use Rattle.cc_translate.proofs.Lines.{prefixed, goes_on}
use Rattle.cc_translate.proofs.carrying.carried.Goals as goal

pub loop-wide-preserved : goal.loop-wide-preserved
loop-wide-preserved c =
    let found = c.loop-wide.found.items in
    let rest = c.loop-wide.rest.now in
    let line = c.first_line-next.result.line.now in
    let wide = c.in-Some.wide.now in
    let more = c.in-Some-rest.more.now in
    let two : lines rest ≡ line ∷ lines more = rw c.in-Some-rest.is at c.first_line-next.ensures.lines in
    let items : c.push.new.self.items ≡ (found ++ wide) ++ 10 ∷ [] = c.in_ok-push.ensures.items ∙ ap (λ (z : List ℕ). z ++ 10 ∷ []) c.in_ok-extend_from_slice.ensures.items in
    subst (λ (z : List ℕ). prefixed z (carried more) ≡ carried c.args.text.now) (sym items) (goes_on found c.args.text.now rest line wide more c.loop-wide.invariant two c.in-Some.ensures)
