use Rattle.std.proofs.Common.{◌≡◌, suc, ◌+◌, ◌-◌, ◌++◌, List, [], ◌∷◌, ◌∙◌, ap, sym, arith}
use Rattle.std.proofs.lemmas.List.{append_assoc}
use Rattle.cc_cminor_language.specs.Cminor as cminor
use Rattle.cc_cminor_language.specs.Code as code
use Rattle.cc_cminor.specs.internal.Lowering.{locals_from}
use Rattle.cc_cminor_language.specs.declared.code.Expression.{Expression, Local}
use Rattle.cc_cminor_language.proofs.Codes.{expressions_push}
use Rattle.cc_cminor.proofs.expressions.locals_from.Goals as goal

pub loop-variable-preserved : goal.loop-variable-preserved
loop-variable-preserved c =
    let v = c.loop-variable.variable in
    let e = c.in_ok-variable-end.variable-end in
    let left : e - v ≡ suc (e - (v + 1)) = let lt = c.loop-variable-test.true in omega arith in
    let next : v + 1 ≡ suc v = omega arith in
    ap (λ (l : List Expression). code.expressions_of l ++ locals_from (v + 1) (e - (v + 1))) c.in_ok-push.ensures.items
    ∙ ap (λ l. l ++ locals_from (v + 1) (e - (v + 1))) (expressions_push c.loop-variable.all.items (Local v))
    ∙ append_assoc (code.expressions_of c.loop-variable.all.items) (cminor.Local v ∷ []) (locals_from (v + 1) (e - (v + 1)))
    ∙ ap (λ k. code.expressions_of c.loop-variable.all.items ++ (cminor.Local v ∷ locals_from k (e - (v + 1)))) next
    ∙ sym (ap (λ n. code.expressions_of c.loop-variable.all.items ++ locals_from v n) left)
    ∙ c.loop-variable.invariant
