use Rattle.std.proofs.Common.{◌∙◌, ap}
use Rattle.cc_cminor_language.specs.Cminor as cminor
use Rattle.cc_cminor_language.specs.Code.{expression_of}
use Rattle.cc_cminor_language.proofs.Codes.{if_ok}
use Rattle.cc_guard.specs.Guard.{guards_then, guarded}
use Rattle.cc_guard.specs.internal.Written.{sizes_of}
use Rattle.cc_guard.proofs.Writing.{first_wrote, first_value, written_then}
use Rattle.cc_guard.proofs.statements.write.Goals as goal

pub returns-clause-code : goal.returns-clause-code
returns-clause-code c =
    let objects = sizes_of c.args.sizes.now in
    let b = c.args.blocks in
    let n = c.args.first in
    let ks = c.args.known.now in
    let e = expression_of c.args.e.now in
    let g = guarded objects ks n e in
    let old = c.in_ok-guards.guards in
    let s = c.in_ok-guards.ensures in
    let w = first_wrote objects b n ks e old c.expression.new.guards s.before s.next s.known c.in_ok-value.ensures.adds in
    let v = first_value objects n ks e old (expression_of c.in_ok-value.value.value) s.next s.known c.in_ok-value.ensures.value in
    if_ok _ _ c.finished.result (λ s h. h ∙ written_then b g.next g.before c.expression.new.guards (cminor.Write (expression_of c.in_ok-value.value.value)) w ∙ ap (λ x. guards_then b g.before (cminor.Write x)) v) c.finished.ensures
