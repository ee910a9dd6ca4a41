-- The constants of a sequence are those of the statements in its list.
use Rattle.std.proofs.Common.{◌+◌, List, [], ◌∷◌, drop, sym, subst}
use Rattle.std.proofs.lemmas.List.{drop_all}
use Rattle.cc_types.proofs.Items.{drop-item}
use Rattle.cc_cminor_language.specs.Cminor as cminor
use Rattle.cc_cminor_language.specs.Code.{statement_of, in_sequence}
use Rattle.cc_cminor_language.specs.Statements.{statements_of}
use Rattle.cc_cminor_language.specs.declared.code.Statement as code
use Rattle.cc_guard.specs.Safe.{CodeConstantsFit}
use Rattle.cc_guard.proofs.Writing.{same_sequence}
use Rattle.cc_range_check.proofs.constants.+constants.Goals as goal

first_fits : (s : cminor.Statement) (rest : List cminor.Statement) → CodeConstantsFit s → CodeConstantsFit (in_sequence rest) → CodeConstantsFit (in_sequence (s ∷ rest))
first_fits s [] h k = h
first_fits s (t ∷ rest) h k = (h, k)

pub constants_fit-returns-in-Sequence : goal.constants_fit-returns-in-Sequence
constants_fit-returns-in-Sequence t c =
    subst CodeConstantsFit (same_sequence c.args.s.now c.in-Sequence.all c.as_slice-in-Sequence.result.now c.in-Sequence.is c.as_slice-in-Sequence.ensures.value) c.all_fit.ensures

pub all_fit-loop-s-preserved : goal.all_fit-loop-s-preserved
all_fit-loop-s-preserved t c =
    let left = drop-item c.args.all.now c.loop-s.s-index c.s-item.result c.loop-s-test.true c.s-item.is in
    λ h. c.loop-s.invariant (subst (λ (l : List code.Statement). CodeConstantsFit (in_sequence (statements_of l))) (sym left)
    (first_fits (statement_of c.s-item.result) (statements_of (drop (c.loop-s.s-index + 1) c.args.all.now)) c.constants_fit.ensures h))

pub all_fit-returns : goal.all_fit-returns
all_fit-returns t c = c.loop-s.invariant (subst (λ (l : List code.Statement). CodeConstantsFit (in_sequence (statements_of l))) (sym (drop_all c.loop-s.s-index c.args.all.now c.loop-s-test.false)) tt)
