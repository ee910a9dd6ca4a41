-- Code into which the pass puts no guard needs no guard.
use Rattle.std.proofs.Common.{◌≡◌, Bool, true, false, refl, sym, ◌∙◌, subst}
use Rattle.std.specs.Prelude.{not}
use Rattle.cc_cminor_language.specs.Pair.{tree_of, code_of}
use Rattle.cc_cminor_language.specs.Code.{statement_of}
use Rattle.cc_cminor_language.specs.declared.code.Statement as code
use Rattle.cc_guard.specs.Safe.{CodeConstantsFit}
use Rattle.cc_guard.proofs.Lowered.{unguarded_needs_none}
use Rattle.cc_guard.proofs.pass.needs_no_guard.Goals as goal

not_true : (b : Bool) → not b ≡ true → b ≡ false
not_true true e = absurd (let f : false ≡ true = e in cc)
not_true false e = refl

pub returns-clause-needs : goal.returns-clause-needs
returns-clause-needs c = λ none.
    let p = c.args.pair.now in
    unguarded_needs_none c.calls_keep_objects.ensures.calls (tree_of p) p.function (code_of p) c.code.ensures.calls (subst (λ (s : code.Statement). CodeConstantsFit (statement_of s)) c.code.ensures.code c.constants_fit.ensures) c.requires.exits c.requires.fails_alike c.requires.goes_wrong
    (sym c.in_ok-made.ensures.seen.guards ∙ not_true c.guarded_body.new.seen.guards none)
