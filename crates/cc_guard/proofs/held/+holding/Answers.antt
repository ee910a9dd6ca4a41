-- A sequence is rewritten as the list of its statements is.
use Rattle.std.proofs.Common.{◌+◌, ◌∙◌, List, [], ◌∷◌, ◌++◌, drop, sym, ap, append-nil, append_assoc}
use Rattle.std.proofs.lemmas.List.{drop_all}
use Rattle.cc_types.proofs.Items.{drop-item}
use Rattle.cc_cminor_language.specs.Cminor as cminor
use Rattle.cc_cminor_language.specs.Code.{statement_of, in_sequence}
use Rattle.cc_cminor_language.specs.Statements.{statements_of}
use Rattle.cc_cminor_language.specs.declared.code.Statement as code
use Rattle.cc_cminor_language.proofs.Codes.{if_ok, statements_push}
use Rattle.cc_guard.specs.Held.{held_in}
use Rattle.cc_guard.proofs.Writing.{same_sequence}
use Rattle.cc_guard.proofs.HeldWriting.{all_held, sequence_held}
use Rattle.cc_guard.proofs.held.+holding.Goals as goal

pub held_in-returns-in-Sequence : goal.held_in-returns-in-Sequence
held_in-returns-in-Sequence t c =
    let same = same_sequence c.args.s.now c.in-Sequence.all c.as_slice.result.now c.in-Sequence.is c.as_slice.ensures.value in
    if_ok _ _ c.held_all.result (λ s h. h ∙ ap (λ (x : cminor.Statement). held_in c.args.words.now c.args.first x) same) c.held_all.ensures

pub held_all-loop-s-preserved : goal.held_all-loop-s-preserved
held_all-loop-s-preserved t c =
    let ws = c.args.words.now in
    let m = c.args.first in
    let left = drop-item c.args.all.now c.loop-s.s-index c.s-item.result c.loop-s-test.true c.s-item.is in
    let rest = all_held ws m (statements_of (drop (c.loop-s.s-index + 1) c.args.all.now)) in
    let before = statements_of c.loop-s.made.items in
    ap (λ (l : List code.Statement). statements_of l ++ rest) c.in_ok-push.ensures.items ∙ ap (λ l. l ++ rest) (statements_push c.loop-s.made.items c.into_inner.result)
    ∙ append_assoc before (statement_of c.into_inner.result ∷ []) rest ∙ ap (λ s. before ++ (s ∷ rest)) (ap statement_of c.into_inner.ensures ∙ c.in_ok-one.ensures)
    ∙ sym (ap (λ (l : List code.Statement). before ++ all_held ws m (statements_of l)) left) ∙ c.loop-s.invariant

pub held_all-returns : goal.held_all-returns
held_all-returns t c =
    let ws = c.args.words.now in
    let m = c.args.first in
    let before = statements_of c.loop-s.made.items in
    let done = sym (append-nil before) ∙ ap (λ (l : List code.Statement). before ++ all_held ws m (statements_of l)) (sym (drop_all c.loop-s.s-index c.args.all.now c.loop-s-test.false)) ∙ c.loop-s.invariant in
    if_ok _ _ c.sequence.result (λ s e. e ∙ ap in_sequence done ∙ sym (sequence_held ws m (statements_of c.args.all.now))) c.sequence.ensures
