-- The nodes of a list's statements are made from the last statement to the first.
use Rattle.std.proofs.Common.{◌≡◌, ◌∙◌, ◌+◌, ◌≤◌, IfOk, OnOk, length, reverse, drop, refl, sym, ap, subst, arith, rules}
use Rattle.std.proofs.lemmas.Iterator.Adapters.{YieldsList-from_rev_slice}
use Rattle.std.proofs.lemmas.Iterator.Consumers.{YieldsList-turn, YieldsList-end}
use Rattle.std.proofs.lemmas.List.{drop_all, length_push}
use Rattle.cc_cminor_language.specs.Numbers.{StatementFits}
use Rattle.cc_cminor_language.specs.Code.{statement_of, in_sequence}
use Rattle.cc_cminor_language.specs.Statements.{statements_of}
use Rattle.cc_cminor_language.proofs.code.Statement.TheLaws.{the_size}
use Rattle.cc_cminor_language.specs.declared.code.Statement as written
use Rattle.cc_rtl_language.specs.Rtl.{most_nodes}
use Rattle.cc_rtl.specs.Size.{statement_nodes}
use Rattle.cc_rtl.specs.internal.Generate.{made}
use Rattle.cc_rtl.specs.internal.Generating.{made_at}
use Rattle.cc_rtl.proofs.Making.{statement_of-sequence, Goes_back, goes_back-start, goes_back-room, goes_back-next, goes_back-made, goes_back-longer, next_left, no_deeper}
use Rattle.cc_rtl.proofs.generate.statements.+code.Goals as goal

pub statement-sequence-requires : goal.statement-sequence-requires
statement-sequence-requires t c =
    let is : statement_of c.args.s.now ≡ in_sequence (statements_of c.deref-in-Sequence.result.now) = ap statement_of c.in-Sequence.is ∙ statement_of-sequence c.in-Sequence.all ∙ ap (λ l. in_sequence (statements_of l)) (sym c.deref-in-Sequence.ensures.value) in
    (search (rules, written.the_lemmas), (subst (λ s. length c.args.graph.now + statement_nodes s ≤ most_nodes) is c.requires.room, (subst StatementFits is c.requires.numbers, c.requires.count)))

pub statement-returns-in-Sequence-clause-made : goal.statement-returns-in-Sequence-clause-made
statement-returns-in-Sequence-clause-made t c =
    subst (λ s. IfOk c.sequence.result (λ entry. made_at entry c.sequence.new.graph ≡ made c.args.count s c.args.exit (reverse c.args.exits.now.items) c.args.graph.now))
    (sym (ap statement_of c.in-Sequence.is ∙ statement_of-sequence c.in-Sequence.all ∙ ap (λ l. in_sequence (statements_of l)) (sym c.deref-in-Sequence.ensures.value))) c.sequence.ensures.made

pub statement-returns-in-Sequence-clause-longer : goal.statement-returns-in-Sequence-clause-longer
statement-returns-in-Sequence-clause-longer t c =
    subst (λ s. OnOk c.sequence.result (length c.sequence.new.graph ≡ length c.args.graph.now + statement_nodes s))
    (sym (ap statement_of c.in-Sequence.is ∙ statement_of-sequence c.in-Sequence.all ∙ ap (λ l. in_sequence (statements_of l)) (sym c.deref-in-Sequence.ensures.value))) c.sequence.ensures.longer

pub sequence-loop-s-init : goal.sequence-loop-s-init
sequence-loop-s-init t c = (goes_back-start c.args.count c.args.exits.now.items c.args.all.now c.args.exit c.args.graph.now c.requires.numbers, refl)

pub sequence-statement-requires : goal.sequence-statement-requires
sequence-statement-requires t c =
    let all = reverse c.args.all.now in
    let turn = YieldsList-turn (YieldsList-from_rev_slice c.args.all.now cc) c.loop-s.yielded _ c.loop-s.yielded_by _ _ c.in-Some.s c.in-Some.is c.next.ensures.steps in
    let left = next_left all (length c.loop-s.yielded) c.in-Some.s.now turn.0 turn.1 in
    let before = subst (λ l. Goes_back c.args.count c.args.exits.now.items all (made_at c.args.exit c.args.graph.now) c.loop-s.entry c.loop-s.graph l) left c.loop-s.invariant.0 in
    let deep = no_deeper the_size c.args.all.now (length c.loop-s.yielded) c.in-Some.s.now turn.0 turn.1 in
    (omega (arith, deep, c.decreases), (goes_back-room _ _ c.args.all.now _ _ _ _ _ _ before c.requires.room, (before.fits.0, c.requires.count)))

pub sequence-loop-s-preserved : goal.sequence-loop-s-preserved
sequence-loop-s-preserved t c =
    let all = reverse c.args.all.now in
    let turn = YieldsList-turn (YieldsList-from_rev_slice c.args.all.now cc) c.loop-s.yielded _ c.loop-s.yielded_by _ _ c.in-Some.s c.in-Some.is c.next.ensures.steps in
    let left = next_left all (length c.loop-s.yielded) c.in-Some.s.now turn.0 turn.1 in
    let before = subst (λ l. Goes_back c.args.count c.args.exits.now.items all (made_at c.args.exit c.args.graph.now) c.loop-s.entry c.loop-s.graph l) left c.loop-s.invariant.0 in (
      subst (λ n. Goes_back c.args.count c.args.exits.now.items all (made_at c.args.exit c.args.graph.now) c.in_ok-entry.entry c.statement.new.graph (drop n all)) (sym (length_push c.loop-s.yielded c.in-Some.s))
          (goes_back-next _ _ c.loop-s.exits.items _ _ _ _ _ _ _ _ before c.loop-s.invariant.1 c.in_ok-entry.ensures.made c.in_ok-entry.ensures.longer),
      c.in_ok-entry.ensures.exits ∙ c.loop-s.invariant.1,
    )

pub sequence-returns-clause-made : goal.sequence-returns-clause-made
sequence-returns-clause-made t c =
    let all = reverse c.args.all.now in
    let done = YieldsList-end (YieldsList-from_rev_slice c.args.all.now cc) c.loop-s.yielded _ c.loop-s.yielded_by _ _ c.in-None.is c.next.ensures.steps in
    goes_back-made _ _ c.args.all.now _ _ _ _ _ c.loop-s.invariant.0 (drop_all (length c.loop-s.yielded) all (omega (arith, done.1)))

pub sequence-returns-clause-longer : goal.sequence-returns-clause-longer
sequence-returns-clause-longer t c =
    let all = reverse c.args.all.now in
    let done = YieldsList-end (YieldsList-from_rev_slice c.args.all.now cc) c.loop-s.yielded _ c.loop-s.yielded_by _ _ c.in-None.is c.next.ensures.steps in
    goes_back-longer _ _ c.args.all.now _ _ _ _ _ c.loop-s.invariant.0 (drop_all (length c.loop-s.yielded) all (omega (arith, done.1)))
