-- The set goes back through the moves after the operation, the operation and, with the operands' equations,
-- the moves before it.
use Rattle.std.proofs.Common.{List, subst, sym}
use Rattle.cc_flow.specs.Lattice.{Equivalent}
use Rattle.cc_rtl_language.specs.Code.{node_of}
use Rattle.cc_validate.specs.declared.equation.Equation.{Equation}
use Rattle.cc_validate.specs.Equations.{before_moves, fate, operands}
use Rattle.cc_validate.specs.internal.Facts.{Facts, Below, carried}
use Rattle.cc_validate.specs.internal.Carried.{AreCarried, AreBefore, IsBefore, IsContradicted, AreWith}
use Rattle.cc_validate.proofs.Carried.{before_is, contradicted_is}
use Rattle.cc_validate.proofs.carry.carry_all.Goals as goal

pub returns-in-None : goal.returns-in-None
returns-in-None c =
    let node = node_of c.args.node.now in
    let block = c.args.block.now in
    let es = c.args.behind.now in
    let s1 = c.in_ok-behind.behind in
    let after : AreCarried (before_moves block.after) es s1 = subst (λ (xs : List Equation). AreCarried (before_moves block.after) xs s1) c.in_ok-copy.ensures (subst (λ ms. AreCarried (before_moves ms) c.in_ok-copy.field-0 s1) c.moves.ensures.moves c.in_ok-behind.ensures) in
    let out : IsContradicted (fate node block.operation) s1 = subst (IsBefore (fate node block.operation) s1) c.in-None.is c.in_ok-operate.ensures in
    subst (λ (x : Facts). Equivalent Below x (carried node block es)) (sym c.contradiction.ensures) (contradicted_is node block es s1 after out)

pub returns-in_ok-carry-in-Some : goal.returns-in_ok-carry-in-Some
returns-in_ok-carry-in-Some c =
    let node = node_of c.args.node.now in
    let block = c.args.block.now in
    let es = c.args.behind.now in
    let s1 = c.in_ok-behind.behind in
    let s2 = c.in-Some.before in
    let s3 = c.put_operands.new.before in
    let s4 = c.in_ok-carry-in-Some.field-0 in
    let after : AreCarried (before_moves block.after) es s1 = subst (λ (xs : List Equation). AreCarried (before_moves block.after) xs s1) c.in_ok-copy.ensures (subst (λ ms. AreCarried (before_moves ms) c.in_ok-copy.field-0 s1) c.moves.ensures.moves c.in_ok-behind.ensures) in
    let through : AreBefore (fate node block.operation) s1 s2 = subst (IsBefore (fate node block.operation) s1) c.in-Some.is c.in_ok-operate.ensures in
    let more : AreWith (operands node block.operation) s2 s3 = c.in_ok-put_operands-in-Some.ensures in
    let before : AreCarried (before_moves block.before) s3 s4 = subst (λ ms. AreCarried (before_moves ms) s3 s4) c.moves-in-Some.ensures.moves c.in_ok-carry-in-Some.ensures in
    subst (λ (x : Facts). Equivalent Below x (carried node block es)) (sym c.of.ensures) (before_is node block es s1 s2 s3 s4 after through more before)
