-- The pair keeps the owner of the given unit.
use Rattle.std.proofs.Common.{◌≡◌, sym, subst}
use Rattle.std.specs.Arc.{arc_value}
use Rattle.cc_ast.specs.Source.{source}
use Rattle.cc_ast.specs.declared.unit.Unit as parsed
use Rattle.cc_cminor_language.specs.Code.{statement_of}
use Rattle.cc_cminor_language.specs.Pair.{Pair, tree_of, code_of, GoesWrong}
use Rattle.cc_cminor.specs.internal.Lowered.{IsLowered}
use Rattle.cc_cminor.proofs.lower.to_cminor.Goals as goal

pub paired-requires-clause-code : goal.paired-requires-clause-code
paired-requires-clause-code c =
    let same : ◌≡◌ {A = parsed.Unit} c.deref.result.now (arc_value c.in-Ok.unit) = let d = c.deref.ensures in let e = c.in-Ok.ensures in cc in
    subst (λ (u : parsed.Unit). IsLowered (source u).externals c.args.function (statement_of c.in_ok-code.code.value)) same c.in_ok-code.ensures

pub returns-clause-goes_wrong : goal.returns-clause-goes_wrong
returns-clause-goes_wrong c = subst (λ (p : Pair). GoesWrong (tree_of p) p.function (code_of p)) (sym c.paired.ensures.answer) c.paired.ensures.goes_wrong
