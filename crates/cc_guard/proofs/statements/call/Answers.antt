use Rattle.std.proofs.Common.{◌∙◌, ap}
use Rattle.cc_cminor_language.specs.Cminor as cminor
use Rattle.cc_cminor_language.specs.Code.{expressions_of}
use Rattle.cc_cminor_language.proofs.Codes.{if_ok}
use Rattle.cc_guard.specs.Guard.{guards_then, guarded_all}
use Rattle.cc_guard.specs.internal.Written.{sizes_of}
use Rattle.cc_guard.proofs.Writing.{all_wrote, written_then}
use Rattle.cc_guard.proofs.statements.call.Goals as goal

pub returns-clause-code : goal.returns-clause-code
returns-clause-code c =
    let objects = sizes_of c.args.sizes.now in
    let b = c.args.blocks in
    let n = c.args.first in
    let ks = c.args.known.now in
    let es = expressions_of c.args.es.now in
    let g = guarded_all objects ks n es in
    let old = c.in_ok-guards.guards in
    let s = c.in_ok-guards.ensures in
    let w = all_wrote objects b n ks es old c.expressions.new.guards s.before s.next s.known c.in_ok-values.ensures.adds in
    if_ok _ _ c.finished.result (λ t h. h ∙ written_then b g.next g.before c.expressions.new.guards (cminor.Call c.args.to c.args.function (expressions_of c.in_ok-values.values.items)) w
    ∙ ap (λ x. guards_then b g.before (cminor.Call c.args.to c.args.function x)) (c.in_ok-values.ensures.values ∙ (λ i. (guarded_all objects (s.known i) (s.next i) es).values))) c.finished.ensures
