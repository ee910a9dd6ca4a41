-- A sequence has what the statements in its list have.
use Rattle.std.proofs.Common.{◌≡◌, ◌+◌, ◌∙◌, List, [], ◌∷◌, drop, sym, ap, subst, arith}
use Rattle.std.proofs.lemmas.List.{drop_all}
use Rattle.std.specs.Prelude.{IfOk}
use Rattle.cc_types.proofs.Items.{drop-item}
use Rattle.cc_cminor_language.specs.Cminor as cminor
use Rattle.cc_cminor_language.specs.Code.{statement_of, in_sequence}
use Rattle.cc_cminor_language.specs.Statements.{statements_of}
use Rattle.cc_cminor_language.specs.declared.code.Statement as code
use Rattle.cc_guard.proofs.Writing.{same_sequence}
use Rattle.cc_range_table.specs.Inductive.{places}
use Rattle.cc_range_check.specs.Places.{operations_in}
use Rattle.cc_range_check.specs.declared.counting.Numbers.{Numbers}
use Rattle.cc_range_check.proofs.Sequences.{first_places, first_operations}
use Rattle.cc_range_check.proofs.counting.+counting.Goals as goal

pub after-returns-in-Sequence-clause-place : goal.after-returns-in-Sequence-clause-place
after-returns-in-Sequence-clause-place t c =
    let same = same_sequence c.args.s.now c.in-Sequence.all c.as_slice-in-Sequence.result.now c.in-Sequence.is c.as_slice-in-Sequence.ensures.value in
    subst (λ (x : cminor.Statement). IfOk c.after_all.result (λ (n : Numbers). n.place ≡ c.args.first.place + places x)) same c.after_all.ensures.place

pub after-returns-in-Sequence-clause-operation : goal.after-returns-in-Sequence-clause-operation
after-returns-in-Sequence-clause-operation t c =
    let same = same_sequence c.args.s.now c.in-Sequence.all c.as_slice-in-Sequence.result.now c.in-Sequence.is c.as_slice-in-Sequence.ensures.value in
    subst (λ (x : cminor.Statement). IfOk c.after_all.result (λ (n : Numbers). n.operation ≡ c.args.first.operation + operations_in x)) same c.after_all.ensures.operation

pub after_all-loop-s-preserved : goal.after_all-loop-s-preserved
after_all-loop-s-preserved t c =
    let i = c.loop-s.s-index in
    let left = drop-item c.args.all.now i c.s-item.result c.loop-s-test.true c.s-item.is in
    let rest = statements_of (drop (i + 1) c.args.all.now) in
    let s = statement_of c.s-item.result in
    let p = ap (λ (l : List code.Statement). places (in_sequence (statements_of l))) left ∙ first_places s rest in
    let o = ap (λ (l : List code.Statement). operations_in (in_sequence (statements_of l))) left ∙ first_operations s rest in
    record {
      place = let q = c.in_ok-next.ensures.place in let w = c.loop-s.invariant.place in omega (arith, p, q, w);
      operation = let q = c.in_ok-next.ensures.operation in let w = c.loop-s.invariant.operation in omega (arith, o, q, w);
    }

pub after_all-returns-clause-place : goal.after_all-returns-clause-place
after_all-returns-clause-place t c =
    let none = ap (λ (l : List code.Statement). places (in_sequence (statements_of l))) (drop_all c.loop-s.s-index c.args.all.now c.loop-s-test.false) in
    let w = c.loop-s.invariant.place in omega (arith, none, w)

pub after_all-returns-clause-operation : goal.after_all-returns-clause-operation
after_all-returns-clause-operation t c =
    let none = ap (λ (l : List code.Statement). operations_in (in_sequence (statements_of l))) (drop_all c.loop-s.s-index c.args.all.now c.loop-s-test.false) in
    let w = c.loop-s.invariant.operation in omega (arith, none, w)
