-- Each clause follows from what the steps answer, by a lemma of Answering.
use Rattle.std.proofs.Common.{◌≡◌, ◌<◌, ◌≤◌, ◌⊎◌, inl, inr, ℕ, List, [], None, Err, false, true, refl, sym, ap, subst, ◌∙◌}
use Rattle.std.proofs.lemmas.Bool.{cases_lt}
use Rattle.std.specs.Arc.{arc_value}
use Rattle.std.specs.Borrow.{Bor}
use Rattle.cc_ast.specs.Source.{source}
use Rattle.cc_ast.specs.declared.unit.Unit as parsed
use Rattle.cc_emit.specs.declared.item.PieceItem.{PieceItem}
use Rattle.cc_emit.specs.Piece.{Piece}
use Rattle.cc_link.specs.declared.fault.LinkFault.TheVariants.{OutOfMemory}
use Rattle.cc_link.specs.Link.{code_words, most_code}
use Rattle.cc_link.specs.Linked.{stranger, doubled, in_order, all_items, linked_in, lent_pieces}
use Rattle.cc_link.specs.internal.Filling.{lent}
use Rattle.cc_link.specs.Stack.{IsBackedFrom, stack_of}
use Rattle.cc_link.proofs.Answering.{order_refused, size_refused, count_is, few_is, stay_is, answer_is, agree_is, backed_is}
use Rattle.cc_link.proofs.linking.made_in.Goals as goal

pub returns-in-Err-clause-refused : goal.returns-in-Err-clause-refused
returns-in-Err-clause-refused c =
    let u = c.deref-unit.result.now in
    let s = source u in
    let ps = lent_pieces c.args.pieces.now in
    let a : stranger c.args.mode s.text 0 ps ≡ None = sym (c.in_default.ensures.answer ∙ ap (λ (t : List ℕ). stranger c.args.mode t 0 ps) c.text.ensures.answer) in
    let b : doubled [] 0 ps ≡ None = sym c.in_default-doubled.ensures in
    subst (λ (v : parsed.Unit). (c.in-Err.fault ≡ OutOfMemory) ⊎ (linked_in c.args.mode (source v) ps ≡ Err c.in-Err.fault)) c.deref-unit.ensures (order_refused c.args.mode s ps c.functions.result a b c.functions.ensures c.in-Err.fault c.in-Err.ensures.refused)

pub returns-then-not-fits-clause-refused : goal.returns-then-not-fits-clause-refused
returns-then-not-fits-clause-refused c =
    let u = c.deref-unit.result.now in
    let s = source u in
    let ps = lent_pieces c.args.pieces.now in
    let a : stranger c.args.mode s.text 0 ps ≡ None = sym (c.in_default.ensures.answer ∙ ap (λ (t : List ℕ). stranger c.args.mode t 0 ps) c.text.ensures.answer) in
    let b : doubled [] 0 ps ≡ None = sym c.in_default-doubled.ensures in
    let fs = c.as_slice-2.result.now in
    let os = c.as_slice.result.now in
    let o : lent_pieces os ≡ in_order ps 0 c.functions.result = ap (λ (l : List (Bor Piece)). lent_pieces l) c.as_slice.ensures.value ∙ c.in-Ok.ensures.ordered in
    let i : lent fs ≡ all_items (lent_pieces os) = ap (λ (l : List (Bor (List PieceItem))). lent l) c.as_slice-2.ensures.value ∙ c.in-Ok-all_items.ensures in
    let large : most_code < code_words (lent fs) = elim (cases_lt most_code (code_words (lent fs))) [ inl lt ↦ lt | inr le ↦ absurd (let d : false ≡ true = c.if-not-fits.ensures.1 le in cc) ] in
    inr (ap (λ (v : parsed.Unit). linked_in c.args.mode (source v) ps) (sym c.deref-unit.ensures) ∙ size_refused c.args.mode s ps c.functions.result a b c.functions.ensures os fs c.in-Ok.ensures.none o i large)

pub stored-requires-clause-count : goal.stored-requires-clause-count
stored-requires-clause-count c =
    let u = c.deref-unit.result.now in
    let s = source u in
    let ps = lent_pieces c.args.pieces.now in
    let a : stranger c.args.mode s.text 0 ps ≡ None = sym (c.in_default.ensures.answer ∙ ap (λ (t : List ℕ). stranger c.args.mode t 0 ps) c.text.ensures.answer) in
    let b : doubled [] 0 ps ≡ None = sym c.in_default-doubled.ensures in
    let fs = c.as_slice-3.result.now in
    let os = c.as_slice-4.result.now in
    let o : lent_pieces os ≡ in_order ps 0 c.functions.result = ap (λ (l : List (Bor Piece)). lent_pieces l) c.as_slice-4.ensures.value ∙ c.in-Ok.ensures.ordered in
    let i : lent fs ≡ all_items (lent_pieces os) = ap (λ (l : List (Bor (List PieceItem))). lent l) c.as_slice-3.ensures.value ∙ c.in-Ok-all_items.ensures ∙ ap (λ (l : List (Bor Piece)). all_items (lent_pieces l)) (c.as_slice.ensures.value ∙ sym c.as_slice-4.ensures.value) in
    count_is c.args.mode s ps c.functions.result a b c.functions.ensures os fs c.in-Ok.ensures.none o i

pub stored-requires-clause-stay : goal.stored-requires-clause-stay
stored-requires-clause-stay c =
    let u = c.deref-unit.result.now in
    let s = source u in
    let ps = lent_pieces c.args.pieces.now in
    let a : stranger c.args.mode s.text 0 ps ≡ None = sym (c.in_default.ensures.answer ∙ ap (λ (t : List ℕ). stranger c.args.mode t 0 ps) c.text.ensures.answer) in
    let b : doubled [] 0 ps ≡ None = sym c.in_default-doubled.ensures in
    let fs = c.as_slice-3.result.now in
    let os = c.as_slice-4.result.now in
    let o : lent_pieces os ≡ in_order ps 0 c.functions.result = ap (λ (l : List (Bor Piece)). lent_pieces l) c.as_slice-4.ensures.value ∙ c.in-Ok.ensures.ordered in
    let i : lent fs ≡ all_items (lent_pieces os) = ap (λ (l : List (Bor (List PieceItem))). lent l) c.as_slice-3.ensures.value ∙ c.in-Ok-all_items.ensures ∙ ap (λ (l : List (Bor Piece)). all_items (lent_pieces l)) (c.as_slice.ensures.value ∙ sym c.as_slice-4.ensures.value) in
    let laws = c.unit_laws.ensures in
    let tree = c.externals-kept.ensures in
    stay_is c.args.mode s ps c.functions.result a b c.functions.ensures os fs c.in-Ok.ensures.none o i laws.tokens laws.trees laws.meanings laws.sized tree.spelled tree.typed tree.limits c.in_default.ensures.kept

pub stored-requires-clause-few_functions : goal.stored-requires-clause-few_functions
stored-requires-clause-few_functions c =
    let u = c.deref-unit.result.now in
    let s = source u in
    let ps = lent_pieces c.args.pieces.now in
    let a : stranger c.args.mode s.text 0 ps ≡ None = sym (c.in_default.ensures.answer ∙ ap (λ (t : List ℕ). stranger c.args.mode t 0 ps) c.text.ensures.answer) in
    let b : doubled [] 0 ps ≡ None = sym c.in_default-doubled.ensures in
    let fs = c.as_slice-3.result.now in
    let os = c.as_slice-4.result.now in
    let o : lent_pieces os ≡ in_order ps 0 c.functions.result = ap (λ (l : List (Bor Piece)). lent_pieces l) c.as_slice-4.ensures.value ∙ c.in-Ok.ensures.ordered in
    let i : lent fs ≡ all_items (lent_pieces os) = ap (λ (l : List (Bor (List PieceItem))). lent l) c.as_slice-3.ensures.value ∙ c.in-Ok-all_items.ensures ∙ ap (λ (l : List (Bor Piece)). all_items (lent_pieces l)) (c.as_slice.ensures.value ∙ sym c.as_slice-4.ensures.value) in
    few_is c.args.mode s ps c.functions.result a b c.functions.ensures os fs c.in-Ok.ensures.none o i c.externals-kept.ensures.limits

pub returns-clause-follows : goal.returns-clause-follows
returns-clause-follows c =
    let u = c.deref-unit.result.now in
    let s = source u in
    let ps = lent_pieces c.args.pieces.now in
    let a : stranger c.args.mode s.text 0 ps ≡ None = sym (c.in_default.ensures.answer ∙ ap (λ (t : List ℕ). stranger c.args.mode t 0 ps) c.text.ensures.answer) in
    let b : doubled [] 0 ps ≡ None = sym c.in_default-doubled.ensures in
    let fs = c.as_slice-3.result.now in
    let os = c.as_slice-4.result.now in
    let o : lent_pieces os ≡ in_order ps 0 c.functions.result = ap (λ (l : List (Bor Piece)). lent_pieces l) c.as_slice-4.ensures.value ∙ c.in-Ok.ensures.ordered in
    let i : lent fs ≡ all_items (lent_pieces os) = ap (λ (l : List (Bor (List PieceItem))). lent l) c.as_slice-3.ensures.value ∙ c.in-Ok-all_items.ensures ∙ ap (λ (l : List (Bor Piece)). all_items (lent_pieces l)) (c.as_slice.ensures.value ∙ sym c.as_slice-4.ensures.value) in
    let few : code_words (lent fs) ≤ most_code =
    subst (λ (l : List (Bor (List PieceItem))). code_words (lent l) ≤ most_code) (c.as_slice-2.ensures.value ∙ sym c.as_slice-3.ensures.value) (c.if-not-fits.ensures.0 refl) in
    let tree = c.externals-kept.ensures in
    agree_is c.args.mode s ps c.functions.result a b c.functions.ensures os fs c.in-Ok.ensures.none o i c.linked_units_follow.ensures.follow tree.spelled (record { typed = tree.typed; limits = tree.limits }) c.in_default.ensures.kept (arc_value c.in-Ok-stored.made) few c.in-Ok-stored.ensures

pub returns-clause-made : goal.returns-clause-made
returns-clause-made c =
    let u = c.deref-unit.result.now in
    let s = source u in
    let ps = lent_pieces c.args.pieces.now in
    let a : stranger c.args.mode s.text 0 ps ≡ None = sym (c.in_default.ensures.answer ∙ ap (λ (t : List ℕ). stranger c.args.mode t 0 ps) c.text.ensures.answer) in
    let b : doubled [] 0 ps ≡ None = sym c.in_default-doubled.ensures in
    let fs = c.as_slice-3.result.now in
    let os = c.as_slice-4.result.now in
    let o : lent_pieces os ≡ in_order ps 0 c.functions.result = ap (λ (l : List (Bor Piece)). lent_pieces l) c.as_slice-4.ensures.value ∙ c.in-Ok.ensures.ordered in
    let i : lent fs ≡ all_items (lent_pieces os) = ap (λ (l : List (Bor (List PieceItem))). lent l) c.as_slice-3.ensures.value ∙ c.in-Ok-all_items.ensures ∙ ap (λ (l : List (Bor Piece)). all_items (lent_pieces l)) (c.as_slice.ensures.value ∙ sym c.as_slice-4.ensures.value) in
    let few : code_words (lent fs) ≤ most_code =
    subst (λ (l : List (Bor (List PieceItem))). code_words (lent l) ≤ most_code) (c.as_slice-2.ensures.value ∙ sym c.as_slice-3.ensures.value) (c.if-not-fits.ensures.0 refl) in
    let tree = c.externals-kept.ensures in
    record {
      of = s;
      spelled = tree.spelled;
      checked = record { typed = tree.typed; limits = tree.limits };
      pieces = ps;
      compiled = c.in_default.ensures.compiled;
      linked_is = answer_is c.args.mode s ps c.functions.result a b c.functions.ensures os fs c.in-Ok.ensures.none o i (arc_value c.in-Ok-stored.made) few c.in-Ok-stored.ensures;
    }

pub returns-clause-answer : goal.returns-clause-answer
returns-clause-answer c =
    let u = c.deref-unit.result.now in
    let s = source u in
    let ps = lent_pieces c.args.pieces.now in
    let a : stranger c.args.mode s.text 0 ps ≡ None = sym (c.in_default.ensures.answer ∙ ap (λ (t : List ℕ). stranger c.args.mode t 0 ps) c.text.ensures.answer) in
    let b : doubled [] 0 ps ≡ None = sym c.in_default-doubled.ensures in
    let fs = c.as_slice-3.result.now in
    let os = c.as_slice-4.result.now in
    let o : lent_pieces os ≡ in_order ps 0 c.functions.result = ap (λ (l : List (Bor Piece)). lent_pieces l) c.as_slice-4.ensures.value ∙ c.in-Ok.ensures.ordered in
    let i : lent fs ≡ all_items (lent_pieces os) = ap (λ (l : List (Bor (List PieceItem))). lent l) c.as_slice-3.ensures.value ∙ c.in-Ok-all_items.ensures ∙ ap (λ (l : List (Bor Piece)). all_items (lent_pieces l)) (c.as_slice.ensures.value ∙ sym c.as_slice-4.ensures.value) in
    let few : code_words (lent fs) ≤ most_code =
    subst (λ (l : List (Bor (List PieceItem))). code_words (lent l) ≤ most_code) (c.as_slice-2.ensures.value ∙ sym c.as_slice-3.ensures.value) (c.if-not-fits.ensures.0 refl) in
    ap (λ (v : parsed.Unit). linked_in c.args.mode (source v) ps) (sym c.deref-unit.ensures)
    ∙ answer_is c.args.mode s ps c.functions.result a b c.functions.ensures os fs c.in-Ok.ensures.none o i (arc_value c.in-Ok-stored.made) few c.in-Ok-stored.ensures

-- the image follows its program in the mode, and so agrees with its text
pub returns-clause-agrees : goal.returns-clause-agrees
returns-clause-agrees c = c.linked_units_follow.ensures.agree c.args.mode _ _ (returns-clause-follows c)

pub returns-clause-backed : goal.returns-clause-backed
returns-clause-backed c =
    let u = c.deref-unit.result.now in
    let s = source u in
    let ps = lent_pieces c.args.pieces.now in
    let a : stranger c.args.mode s.text 0 ps ≡ None = sym (c.in_default.ensures.answer ∙ ap (λ (t : List ℕ). stranger c.args.mode t 0 ps) c.text.ensures.answer) in
    let b : doubled [] 0 ps ≡ None = sym c.in_default-doubled.ensures in
    let fs = c.as_slice-3.result.now in
    let os = c.as_slice-4.result.now in
    let o : lent_pieces os ≡ in_order ps 0 c.functions.result = ap (λ (l : List (Bor Piece)). lent_pieces l) c.as_slice-4.ensures.value ∙ c.in-Ok.ensures.ordered in
    let i : lent fs ≡ all_items (lent_pieces os) = ap (λ (l : List (Bor (List PieceItem))). lent l) c.as_slice-3.ensures.value ∙ c.in-Ok-all_items.ensures ∙ ap (λ (l : List (Bor Piece)). all_items (lent_pieces l)) (c.as_slice.ensures.value ∙ sym c.as_slice-4.ensures.value) in
    let few : code_words (lent fs) ≤ most_code =
    subst (λ (l : List (Bor (List PieceItem))). code_words (lent l) ≤ most_code) (c.as_slice-2.ensures.value ∙ sym c.as_slice-3.ensures.value) (c.if-not-fits.ensures.0 refl) in
    let tree = c.externals-kept.ensures in
    let made = arc_value c.in-Ok-stored.made in
    subst (λ (v : parsed.Unit). IsBackedFrom c.args.mode made.source (stack_of (source v).externals ps) made.image) c.deref-unit.ensures
    (backed_is c.args.mode s ps c.functions.result a b c.functions.ensures os fs c.in-Ok.ensures.none o i c.linked_units_follow.ensures.follow c.linked_units_are_backed.ensures tree.spelled (record { typed = tree.typed; limits = tree.limits }) c.in_default.ensures.kept made few c.in-Ok-stored.ensures)
