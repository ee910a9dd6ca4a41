-- A sequence sets the same variables as the list of its statements.
use Rattle.std.proofs.Common.{◌+◌, List, drop, sym, subst}
use Rattle.std.proofs.lemmas.List.{drop_all}
use Rattle.cc_types.proofs.Items.{drop-item}
use Rattle.cc_cminor_language.specs.Cminor as cminor
use Rattle.cc_cminor_language.specs.Code.{statement_of, in_sequence}
use Rattle.cc_cminor_language.specs.Statements.{statements_of}
use Rattle.cc_cminor_language.specs.declared.code.Statement as code
use Rattle.cc_guard.specs.Guard.{sets}
use Rattle.cc_guard.specs.internal.Marks.{Marks}
use Rattle.cc_guard.proofs.Writing.{same_sequence}
use Rattle.cc_guard.proofs.Marking.{marks_none, marks_first}
use Rattle.cc_guard.proofs.changed.+marking.Goals as goal

pub mark-returns-in-Sequence : goal.mark-returns-in-Sequence
mark-returns-in-Sequence t c =
    let same = same_sequence c.args.s.now c.in-Sequence.all c.as_slice.result.now c.in-Sequence.is c.as_slice.ensures.value in
    subst (λ (x : cminor.Statement). Marks (sets x) c.args.marks.now.items c.mark_all.new.marks.items) same c.mark_all.ensures

pub mark_all-loop-s-preserved : goal.mark_all-loop-s-preserved
mark_all-loop-s-preserved t c =
    let left = drop-item c.args.all.now c.loop-s.s-index c.s-item.result c.loop-s-test.true c.s-item.is in
    let s = statement_of c.s-item.result in
    let rest = statements_of (drop (c.loop-s.s-index + 1) c.args.all.now) in
    λ last h. c.loop-s.invariant last (subst (λ (l : List code.Statement). Marks (sets (in_sequence (statements_of l))) c.loop-s.marks.items last) (sym left)
    (marks_first s rest c.loop-s.marks.items c.mark.new.marks.items last c.mark.ensures h))

pub mark_all-returns : goal.mark_all-returns
mark_all-returns t c =
    let ms = c.loop-s.marks.items in
    c.loop-s.invariant ms (subst (λ (l : List code.Statement). Marks (sets (in_sequence (statements_of l))) ms ms) (sym (drop_all c.loop-s.s-index c.args.all.now c.loop-s-test.false)) (marks_none ms))
