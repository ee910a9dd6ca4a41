-- The names are handled one by one, from last to first.
use Rattle.std.proofs.Common.{◌∙◌, length, reverse, drop, refl, sym, ap, subst, arith}
use Rattle.std.proofs.lemmas.Iterator.Adapters.{YieldsList-from_rev_slice}
use Rattle.std.proofs.lemmas.Iterator.Consumers.{YieldsList-turn, YieldsList-end}
use Rattle.std.proofs.lemmas.List.{drop_all, length_push}
use Rattle.cc_types.proofs.Items.{drop-item}
use Rattle.cc_meaning.proofs.WritingStatements.{with_locals-reversed, declared_onto, declared-is, Undeclaring, Undeclaring-next}
use Rattle.cc_meaning.proofs.writer.declarations.declaration.Goals as goal

pub loop-tree-init : goal.loop-tree-init
loop-tree-init c t w e = record { names = e ∙ with_locals-reversed t c.args.trees.now w; code = refl }

pub loop-tree-preserved : goal.loop-tree-preserved
loop-tree-preserved c t w e =
    let all = reverse c.args.trees.now in
    let turn = YieldsList-turn (YieldsList-from_rev_slice c.args.trees.now cc) c.loop-tree.yielded _ c.loop-tree.yielded_by _ _ c.in-Some.tree c.in-Some.is c.next.ensures.steps in
    let left = drop-item all (length c.loop-tree.yielded) c.in-Some.tree.now turn.0 turn.1 in
    let before = subst (λ ds. Undeclaring t w all c.args.code.now c.loop-tree.names c.loop-tree.code ds) left (c.loop-tree.invariant t w e) in
    subst (λ n. Undeclaring t w all c.args.code.now c.declarator.new.names c.declarator.new.code (drop n all)) (sym (length_push c.loop-tree.yielded c.in-Some.tree))
    (Undeclaring-next t w all _ _ _ _ _ _ _ before c.in_ok-declarator.ensures.names c.in_ok-declarator.ensures.code)

pub returns-clause-code : goal.returns-clause-code
returns-clause-code c t w e =
    let all = reverse c.args.trees.now in
    let done = YieldsList-end (YieldsList-from_rev_slice c.args.trees.now cc) c.loop-tree.yielded _ c.loop-tree.yielded_by _ _ c.in-None.is c.next.ensures.steps in
    let left = drop_all (length c.loop-tree.yielded) all (omega (arith, done.1)) in
    sym (ap (λ ds. declared_onto t ds w c.loop-tree.code) left) ∙ (c.loop-tree.invariant t w e).code ∙ declared-is t c.args.trees.now w c.args.code.now
