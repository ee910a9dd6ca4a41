-- A sequence is written as the list of its statements is, and an `If` comes after its guards.
use Rattle.std.proofs.Common.{◌≡◌, ◌+◌, ◌∙◌, Bool, true, false, List, [], ◌∷◌, ◌++◌, drop, sym, ap, subst, append-nil, append_assoc}
use Rattle.std.proofs.lemmas.List.{drop_all}
use Rattle.cc_types.proofs.Items.{drop-item}
use Rattle.cc_cminor_language.specs.Cminor as cminor
use Rattle.cc_cminor_language.specs.Code.{expression_of, statement_of, in_sequence}
use Rattle.cc_cminor_language.specs.Statements.{statements_of}
use Rattle.cc_cminor_language.specs.declared.code.Expression as expression
use Rattle.cc_cminor_language.specs.declared.code.Statement as code
use Rattle.cc_cminor_language.proofs.Codes.{on_ok, statements_push}
use Rattle.cc_guard.specs.declared.known.Limit.{Limit}
use Rattle.std.specs.Prelude.{◌||◌, max, IfOk}
use Rattle.cc_guard.specs.declared.statements.Done.{Done}
use Rattle.cc_guard.specs.Guard.{guards_then, guarded, told, with_told, sets, kept, known_after, known_within, code_after, some_guard, guards_after, variables_after}
use Rattle.cc_guard.specs.internal.Written.{SeesStatement, sizes_of}
use Rattle.cc_guard.proofs.Writing.{all_code, sequence_code, known_first, sees_first, sees_then, sees_wrote, sees_none, first_wrote, first_value, first_known, written_then, if_is, same_sequence}
use Rattle.cc_guard.proofs.statements.+statements.Goals as goal

pub statement-returns-in-Sequence-clause-code : goal.statement-returns-in-Sequence-clause-code
statement-returns-in-Sequence-clause-code t c =
    let same = same_sequence c.args.s.now c.in-Sequence.all c.as_slice-in-Sequence.result.now c.in-Sequence.is c.as_slice-in-Sequence.ensures.value in
    subst (λ (x : cminor.Statement). IfOk c.statements.result (λ (d : Done). statement_of d.code.value ≡ code_after (sizes_of c.args.sizes.now) c.args.first c.args.known.now c.args.blocks x)) same c.statements.ensures.code

pub statement-returns-in-Sequence-clause-seen : goal.statement-returns-in-Sequence-clause-seen
statement-returns-in-Sequence-clause-seen t c =
    let same = same_sequence c.args.s.now c.in-Sequence.all c.as_slice-in-Sequence.result.now c.in-Sequence.is c.as_slice-in-Sequence.ensures.value in
    on_ok c.statements.result (λ h. subst (λ (x : cminor.Statement). SeesStatement (sizes_of c.args.sizes.now) c.args.first c.args.known.now x c.args.seen.now c.statements.new.seen) same h) c.statements.ensures.seen

pub statement-returns-in-Sequence-clause-known : goal.statement-returns-in-Sequence-clause-known
statement-returns-in-Sequence-clause-known t c =
    let same = same_sequence c.args.s.now c.in-Sequence.all c.as_slice-in-Sequence.result.now c.in-Sequence.is c.as_slice-in-Sequence.ensures.value in
    subst (λ (x : cminor.Statement). IfOk c.statements.result (λ (d : Done). d.known.items ≡ known_after (sizes_of c.args.sizes.now) c.args.first c.args.known.now x)) same c.statements.ensures.known

pub statement-returns-in_ok-code-in-If-clause-code : goal.statement-returns-in_ok-code-in-If-clause-code
statement-returns-in_ok-code-in-If-clause-code t c =
    let objects = sizes_of c.args.sizes.now in
    let b = c.args.blocks in
    let n = c.args.first in
    let ks = c.args.known.now in
    let e = expression_of c.deref-in-If.result.now in
    let p = statement_of c.deref-in-If-3.result.now in
    let q = statement_of c.deref-in-If-5.result.now in
    let g = guarded objects ks n e in
    let old = c.in_ok-guards-in-If.guards in
    let s = c.in_ok-guards-in-If.ensures in
    let w = first_wrote objects b n ks e old c.expression.new.guards s.before s.next s.known c.in_ok-value-in-If.ensures.adds in
    let known = c.as_slice-in-If-2.ensures.value ∙ first_known objects n ks e old c.expression.new.guards s.next s.known c.in_ok-value-in-If.ensures.adds.known in
    let known' = c.as_slice-in-If-4.ensures.value ∙ first_known objects n ks e old c.expression.new.guards s.next s.known c.in_ok-value-in-If.ensures.adds.known in
    let K = known_within objects n true ks e in
    let N = known_within objects n false ks e in
    let F : Bool → List Limit → cminor.Expression → List Limit = λ way hs x. kept n (sets cminor.Skip) (with_told hs (told hs way x)) in
    let k : c.in_ok-one-in-If.one.items ≡ K = c.in_ok-one-in-If.ensures ∙ ap (λ hs. F true hs (expression_of c.deref-in-If-2.result.now)) known ∙ ap (λ x. F true g.known (expression_of x)) (c.deref-in-If-2.ensures ∙ sym c.deref-in-If.ensures) in
    let j : c.in_ok-other-in-If.other.items ≡ N = c.in_ok-other-in-If.ensures ∙ ap (λ hs. F false hs (expression_of c.deref-in-If-4.result.now)) known' ∙ ap (λ x. F false g.known (expression_of x)) (c.deref-in-If-4.ensures ∙ sym c.deref-in-If.ensures) in
    let is : statement_of c.args.s.now ≡ cminor.If e p q =
    ap statement_of c.in-If.is ∙ if_is c.in-If.e c.in-If.nonzero c.in-If.otherwise
    ∙ ap (λ (k : expression.Expression). cminor.If (expression_of k) (statement_of c.in-If.nonzero.value) (statement_of c.in-If.otherwise.value)) (sym c.deref-in-If.ensures)
    ∙ ap (λ (k : code.Statement). cminor.If e (statement_of k) (statement_of c.in-If.otherwise.value)) (sym c.deref-in-If-3.ensures)
    ∙ ap (λ (k : code.Statement). cminor.If e p (statement_of k)) (sym c.deref-in-If-5.ensures) in
    let v = first_value objects n ks e old (expression_of c.in_ok-value-in-If.value.value) s.next s.known c.in_ok-value-in-If.ensures.value in
    let x = c.in_ok-value-in-If.value in
    let y = c.in_ok-done-in-If.done.code in
    let z = c.in_ok-done-in-If-2.done.code in
    c.in_ok-code-in-If.ensures ∙ written_then b g.next g.before c.expression.new.guards (statement_of (code.If x y z)) w
    ∙ ap (λ (k : cminor.Statement). guards_then b g.before k) (if_is x y z ∙ ap (λ k. cminor.If k (statement_of y.value) (statement_of z.value)) v
    ∙ ap (λ v. cminor.If g.value v (statement_of z.value)) (c.in_ok-done-in-If.ensures.code ∙ ap (λ hs. code_after objects n hs b p) (c.as_slice-in-If-3.ensures.value ∙ k))
    ∙ ap (λ v. cminor.If g.value (code_after objects n K b p) v) (c.in_ok-done-in-If-2.ensures.code ∙ ap (λ hs. code_after objects n hs b q) (c.as_slice-in-If-5.ensures.value ∙ j)))
    ∙ sym (ap (λ (v : cminor.Statement). code_after objects n ks b v) is)

pub statement-returns-in_ok-code-in-If-clause-seen : goal.statement-returns-in_ok-code-in-If-clause-seen
statement-returns-in_ok-code-in-If-clause-seen t c =
    let objects = sizes_of c.args.sizes.now in
    let b = c.args.blocks in
    let n = c.args.first in
    let ks = c.args.known.now in
    let e = expression_of c.deref-in-If.result.now in
    let p = statement_of c.deref-in-If-3.result.now in
    let q = statement_of c.deref-in-If-5.result.now in
    let g = guarded objects ks n e in
    let old = c.in_ok-guards-in-If.guards in
    let s = c.in_ok-guards-in-If.ensures in
    let w = first_wrote objects b n ks e old c.expression.new.guards s.before s.next s.known c.in_ok-value-in-If.ensures.adds in
    let known = c.as_slice-in-If-2.ensures.value ∙ first_known objects n ks e old c.expression.new.guards s.next s.known c.in_ok-value-in-If.ensures.adds.known in
    let known' = c.as_slice-in-If-4.ensures.value ∙ first_known objects n ks e old c.expression.new.guards s.next s.known c.in_ok-value-in-If.ensures.adds.known in
    let K = known_within objects n true ks e in
    let N = known_within objects n false ks e in
    let F : Bool → List Limit → cminor.Expression → List Limit = λ way hs x. kept n (sets cminor.Skip) (with_told hs (told hs way x)) in
    let k : c.in_ok-one-in-If.one.items ≡ K = c.in_ok-one-in-If.ensures ∙ ap (λ hs. F true hs (expression_of c.deref-in-If-2.result.now)) known ∙ ap (λ x. F true g.known (expression_of x)) (c.deref-in-If-2.ensures ∙ sym c.deref-in-If.ensures) in
    let j : c.in_ok-other-in-If.other.items ≡ N = c.in_ok-other-in-If.ensures ∙ ap (λ hs. F false hs (expression_of c.deref-in-If-4.result.now)) known' ∙ ap (λ x. F false g.known (expression_of x)) (c.deref-in-If-4.ensures ∙ sym c.deref-in-If.ensures) in
    let is : statement_of c.args.s.now ≡ cminor.If e p q =
    ap statement_of c.in-If.is ∙ if_is c.in-If.e c.in-If.nonzero c.in-If.otherwise
    ∙ ap (λ (k : expression.Expression). cminor.If (expression_of k) (statement_of c.in-If.nonzero.value) (statement_of c.in-If.otherwise.value)) (sym c.deref-in-If.ensures)
    ∙ ap (λ (k : code.Statement). cminor.If e (statement_of k) (statement_of c.in-If.otherwise.value)) (sym c.deref-in-If-3.ensures)
    ∙ ap (λ (k : code.Statement). cminor.If e p (statement_of k)) (sym c.deref-in-If-5.ensures) in
    let noted = c.note.new.seen in
    let mid = c.statement.new.seen in
    let new = c.statement-in-If.new.seen in
    let first = subst (λ hs. SeesStatement objects n hs p noted mid) (c.as_slice-in-If-3.ensures.value ∙ k) c.in_ok-done-in-If.ensures.seen in
    let second = subst (λ hs. SeesStatement objects n hs q mid new) (c.as_slice-in-If-5.ensures.value ∙ j) c.in_ok-done-in-If-2.ensures.seen in
    let d = guards_after objects n K p in
    let f = guards_after objects n N q in
    let u = variables_after objects n K p in
    let v = variables_after objects n N q in
    subst (λ (x : cminor.Statement). SeesStatement objects n ks x c.args.seen.now new) (sym is)
    (sees_then (some_guard g.before) (d || f) g.next (max u v) c.args.seen.now noted new (sees_wrote b g.next g.before c.expression.new.guards c.args.seen.now noted w c.note.ensures) (sees_then d f u v noted mid new first second))

pub statements-loop-s-preserved : goal.statements-loop-s-preserved
statements-loop-s-preserved t c =
    let objects = sizes_of c.args.sizes.now in
    let b = c.args.blocks in
    let n = c.args.first in
    let i = c.loop-s.s-index in
    let ks = c.loop-s.limits.items in
    let left = drop-item c.args.all.now i c.s-item.result c.loop-s-test.true c.s-item.is in
    let after = statements_of (drop (i + 1) c.args.all.now) in
    let s = statement_of c.s-item.result in
    let here : c.as_slice.result.now ≡ ks = c.as_slice.ensures.value in
    let K = known_after objects n ks s in
    let k : c.in_ok-done.done.known.items ≡ K = c.in_ok-done.ensures.known ∙ ap (λ hs. known_after objects n hs s) here in
    let rest = all_code objects n b c.in_ok-done.done.known.items after in
    let before = statements_of c.loop-s.codes.items in
    record {
      code = ap (λ (l : List code.Statement). statements_of l ++ rest) c.in_ok-push.ensures.items ∙ ap (λ l. l ++ rest) (statements_push c.loop-s.codes.items c.into_inner.result)
          ∙ append_assoc before (statement_of c.into_inner.result ∷ []) rest ∙ ap (λ s. before ++ (s ∷ rest)) (ap statement_of c.into_inner.ensures ∙ c.in_ok-done.ensures.code ∙ ap (λ hs. code_after objects n hs b s) here)
          ∙ ap (λ hs. before ++ (code_after objects n ks b s ∷ all_code objects n b hs after)) k
          ∙ sym (ap (λ (l : List code.Statement). before ++ all_code objects n b ks (statements_of l)) left) ∙ c.loop-s.invariant.code;
      known = ap (λ hs. known_after objects n hs (in_sequence after)) k ∙ sym (known_first objects n b ks s after) ∙ sym (ap (λ (l : List code.Statement). known_after objects n ks (in_sequence (statements_of l))) left) ∙ c.loop-s.invariant.known;
      seen = λ last h. c.loop-s.invariant.seen last (subst (λ (l : List code.Statement). SeesStatement objects n ks (in_sequence (statements_of l)) c.loop-s.seen last) (sym left)
          (sees_first objects n b ks s after c.loop-s.seen c.statement.new.seen (subst (λ hs. SeesStatement objects n hs s c.loop-s.seen c.statement.new.seen) here c.in_ok-done.ensures.seen) last
          (subst (λ hs. SeesStatement objects n hs (in_sequence after) c.statement.new.seen last) k h)));
    }

pub statements-returns-clause-code : goal.statements-returns-clause-code
statements-returns-clause-code t c =
    let objects = sizes_of c.args.sizes.now in
    let b = c.args.blocks in
    let n = c.args.first in
    let before = statements_of c.loop-s.codes.items in
    let done = sym (append-nil before) ∙ ap (λ (l : List code.Statement). before ++ all_code objects n b c.loop-s.limits.items (statements_of l)) (sym (drop_all c.loop-s.s-index c.args.all.now c.loop-s-test.false)) ∙ c.loop-s.invariant.code in
    c.in_ok-code.ensures ∙ ap in_sequence done ∙ sym (sequence_code objects n b c.args.known.now (statements_of c.args.all.now))

pub statements-returns-clause-seen : goal.statements-returns-clause-seen
statements-returns-clause-seen t c =
    let objects = sizes_of c.args.sizes.now in
    c.loop-s.invariant.seen c.loop-s.seen (subst (λ (l : List code.Statement). SeesStatement objects c.args.first c.loop-s.limits.items (in_sequence (statements_of l)) c.loop-s.seen c.loop-s.seen)
    (sym (drop_all c.loop-s.s-index c.args.all.now c.loop-s-test.false)) (sees_none c.loop-s.seen))
