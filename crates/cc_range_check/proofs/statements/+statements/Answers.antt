-- A sequence is walked as the list of its statements is.
use Rattle.std.proofs.Common.{◌≡◌, ◌+◌, ◌∙◌, List, drop, sym, ap, subst}
use Rattle.std.proofs.lemmas.List.{drop_all}
use Rattle.std.specs.Prelude.{Option, IfOk}
use Rattle.cc_types.proofs.Items.{drop-item}
use Rattle.cc_cminor_language.specs.Cminor as cminor
use Rattle.cc_cminor_language.specs.Code.{statement_of, in_sequence}
use Rattle.cc_cminor_language.specs.Statements.{statements_of}
use Rattle.cc_cminor_language.specs.declared.code.Statement as code
use Rattle.cc_cminor_language.proofs.Codes.{on_ok}
use Rattle.cc_guard.proofs.Writing.{same_sequence}
use Rattle.cc_range_table.specs.Inductive.{known_after}
use Rattle.cc_range_check.specs.declared.table.Facts.{Facts}
use Rattle.cc_range_check.specs.Sizes.{sizes_of}
use Rattle.cc_range_check.specs.Values.{facts_of, state_of, row_of_value, table_of}
use Rattle.cc_range_check.specs.internal.Walked.{FindsAt, FindsFrom, PassesAt, PassesFrom, known_from}
use Rattle.cc_range_check.proofs.Sequences.{Turn, some_turn, none_turn, turn_known, turn_passes, turn_finds, end_passes, end_finds}
use Rattle.cc_range_check.proofs.statements.+statements.Goals as goal
use Rattle.cc_range_check.proofs.statements.+statements.Goals.{statements-in-Some+in_ok-state-in-Some, statements-in-None+in_ok-skip-in-None}

pub statement-returns-in-Sequence-clause-after : goal.statement-returns-in-Sequence-clause-after
statement-returns-in-Sequence-clause-after t c =
    let same = same_sequence c.args.s.now c.in-Sequence.all c.as_slice-in-Sequence.result.now c.in-Sequence.is c.as_slice-in-Sequence.ensures.value in
    let row = row_of_value c.args.row.now in
    subst (λ (x : cminor.Statement). IfOk c.statements.result (λ (S : Option Facts). state_of S ≡ known_after (sizes_of c.args.sizes.now) (table_of c.args.table.now) row.notes c.args.walk.now.place (facts_of c.args.facts) x)) same c.statements.ensures.after

pub statement-returns-in-Sequence-clause-walk : goal.statement-returns-in-Sequence-clause-walk
statement-returns-in-Sequence-clause-walk t c =
    let same = same_sequence c.args.s.now c.in-Sequence.all c.as_slice-in-Sequence.result.now c.in-Sequence.is c.as_slice-in-Sequence.ensures.value in
    on_ok c.statements.result (λ h. subst (λ (x : cminor.Statement). PassesAt (sizes_of c.args.sizes.now) (table_of c.args.table.now) (row_of_value c.args.row.now) (facts_of c.args.facts) x c.args.walk.now c.statements.new.walk) same h) c.statements.ensures.walk

pub statement-returns-in-Sequence-clause-found : goal.statement-returns-in-Sequence-clause-found
statement-returns-in-Sequence-clause-found t c =
    let same = same_sequence c.args.s.now c.in-Sequence.all c.as_slice-in-Sequence.result.now c.in-Sequence.is c.as_slice-in-Sequence.ensures.value in
    let row = row_of_value c.args.row.now in
    on_ok c.statements.result (λ h. subst (λ (x : cminor.Statement). FindsAt (sizes_of c.args.sizes.now) (table_of c.args.table.now) row.notes c.args.walk.now.place (facts_of c.args.facts) x c.args.found.now c.statements.new.found) same h) c.statements.ensures.found

pub statements-loop-s-preserved : goal.statements-loop-s-preserved
statements-loop-s-preserved t c =
    let sizes = sizes_of c.args.sizes.now in
    let table = table_of c.args.table.now in
    let row = row_of_value c.args.row.now in
    let i = c.loop-s.s-index in
    let left = drop-item c.args.all.now i c.s-item.result c.loop-s-test.true c.s-item.is in
    let rest = statements_of (drop (i + 1) c.args.all.now) in
    let s = statement_of c.s-item.result in
    let S = state_of c.loop-s.state in
    let T = state_of c.match-state.state in
    let x = c.loop-s.walk in
    let y = c.match-state.walk in
    let f = c.loop-s.found in
    let g = c.match-state.found in
    let turn : Turn sizes table row S T s x y f g =
    elim c.match-state.branch [
      | statements-in-Some+in_ok-state-in-Some w ↦
          let a = w.in_ok-state-in-Some.ensures in
          some_turn sizes table row (facts_of w.in-Some.facts) S T (state_of w.in_ok-state-in-Some.state) s x y w.statement.new.walk f g w.statement.new.found (ap state_of w.in-Some.is) (ap state_of w.state-is) w.walk-is w.found-is a.after a.walk a.found
      | statements-in-None+in_ok-skip-in-None w ↦ none_turn sizes table row S T s x y w.skip.new.walk f g w.skip.new.found (ap state_of w.in-None.is) (ap state_of w.state-is) w.walk-is w.found-is w.in_ok-skip-in-None.ensures
    ] in
    record {
      known = turn_known sizes table row S T s rest x y f g turn ∙ sym (ap (λ (l : List code.Statement). known_from sizes table row.notes x.place S (in_sequence (statements_of l))) left) ∙ c.loop-s.invariant.known;
      walk = λ last h. c.loop-s.invariant.walk last (subst (λ (l : List code.Statement). PassesFrom sizes table row S (in_sequence (statements_of l)) x last) (sym left) (turn_passes sizes table row S T s rest x y last f g turn h));
      found = λ last h. c.loop-s.invariant.found last (subst (λ (l : List code.Statement). FindsFrom sizes table row.notes x.place S (in_sequence (statements_of l)) f last) (sym left) (turn_finds sizes table row S T s rest x y f g last turn h));
    }

pub statements-returns-clause-walk : goal.statements-returns-clause-walk
statements-returns-clause-walk t c =
    let sizes = sizes_of c.args.sizes.now in
    let table = table_of c.args.table.now in
    let row = row_of_value c.args.row.now in
    let S = state_of c.loop-s.state in
    c.loop-s.invariant.walk c.loop-s.walk (subst (λ (l : List code.Statement). PassesFrom sizes table row S (in_sequence (statements_of l)) c.loop-s.walk c.loop-s.walk) (sym (drop_all c.loop-s.s-index c.args.all.now c.loop-s-test.false)) (end_passes sizes table row S c.loop-s.walk))

pub statements-returns-clause-found : goal.statements-returns-clause-found
statements-returns-clause-found t c =
    let sizes = sizes_of c.args.sizes.now in
    let table = table_of c.args.table.now in
    let row = row_of_value c.args.row.now in
    let S = state_of c.loop-s.state in
    c.loop-s.invariant.found c.loop-s.found (subst (λ (l : List code.Statement). FindsFrom sizes table row.notes c.loop-s.walk.place S (in_sequence (statements_of l)) c.loop-s.found c.loop-s.found) (sym (drop_all c.loop-s.s-index c.args.all.now c.loop-s-test.false))
    (end_finds sizes table row c.loop-s.walk.place S c.loop-s.found))
