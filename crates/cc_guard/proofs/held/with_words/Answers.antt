-- The statements that put the words into variables come first.
use Rattle.std.proofs.Common.{◌≡◌, ℕ, suc, ◌+◌, ◌∙◌, List, [], ◌∷◌, ◌++◌, drop, get_or, sym, ap, append-nil, append_assoc, drop-cons, arith}
use Rattle.std.proofs.lemmas.List.{drop_all}
use Rattle.cc_cminor_language.specs.Cminor.{Expression, Constant, Set}
use Rattle.cc_cminor_language.specs.Code.{statement_of, in_sequence}
use Rattle.cc_cminor_language.specs.Statements.{statements_of}
use Rattle.cc_cminor_language.specs.declared.code.Statement as code
use Rattle.cc_cminor_language.proofs.Codes.{if_ok, statements_push}
use Rattle.cc_guard.specs.Held.{held_in}
use Rattle.cc_guard.proofs.HeldWriting.{puts_code, first_code}
use Rattle.cc_guard.proofs.held.with_words.Goals as goal

pub loop-word-preserved : goal.loop-word-preserved
loop-word-preserved c =
    let ws = c.args.words.now in
    let i = c.loop-word.word-index in
    let m = c.loop-word.variable in
    let w = get_or ws i 0 in
    let left = drop-cons ws i 0 c.loop-word-test.true ∙ ap (λ k. w ∷ drop k ws) (let k : suc i ≡ i + 1 = omega arith in k) in
    let before = statements_of c.loop-word.all.items in
    let rest = puts_code (drop (i + 1) ws) c.in-Some.next in
    let next : c.in-Some.next ≡ suc m = omega (arith, c.in-Some.ensures) in
    ap (λ (l : List code.Statement). statements_of l ++ rest) c.in_ok-push.ensures.items ∙ ap (λ l. l ++ rest) (statements_push c.loop-word.all.items (code.Set m c.in_ok-value.value))
    ∙ append_assoc before (statement_of (code.Set m c.in_ok-value.value) ∷ []) rest ∙ ap (λ (e : Expression). before ++ (Set m e ∷ rest)) c.in_ok-value.ensures
    ∙ ap (λ k. before ++ (Set m (Constant w) ∷ puts_code (drop (i + 1) ws) k)) next
    ∙ sym (ap (λ (l : List ℕ). before ++ puts_code l m) left) ∙ c.loop-word.invariant

pub returns : goal.returns
returns c =
    let ws = c.args.words.now in
    let m = c.args.first in
    let before = statements_of c.loop-word.all.items in
    let done = sym (append-nil before) ∙ ap (λ (l : List ℕ). before ++ puts_code l c.loop-word.variable) (sym (drop_all c.loop-word.word-index ws c.loop-word-test.false)) ∙ c.loop-word.invariant in
    let s = statement_of c.args.s.now in
    if_ok _ _ c.sequence.result (λ x e. e ∙ ap in_sequence (ap statements_of c.in_ok-push-2.ensures.items ∙ statements_push c.loop-word.all.items c.into_inner.result
    ∙ ap (λ l. l ++ (statement_of c.into_inner.result ∷ [])) done ∙ ap (λ x. puts_code ws m ++ (x ∷ [])) (ap statement_of c.into_inner.ensures ∙ c.in_ok-code.ensures))
    ∙ first_code ws m (held_in ws m s)) c.sequence.ensures
