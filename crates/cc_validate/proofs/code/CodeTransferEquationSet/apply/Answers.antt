-- At a position within the lists, the node and the block agree, and the step is carried out; past their end, the answer is
-- the empty set.
use Rattle.std.proofs.Common.{◌≡◌, get_or, sym, ap, ◌∙◌, subst, arith, IfOk}
use Rattle.std.proofs.lemmas.Option.{slice_get_within, get_or_from_slice_get}
use Rattle.cc_flow.specs.Lattice.{Equivalent}
use Rattle.cc_rtl_language.specs.Rtl.{Labelled}
use Rattle.cc_rtl_language.specs.Code.{node_of}
use Rattle.cc_validate.specs.Equations.{Agrees}
use Rattle.cc_validate.specs.internal.Facts.{Below, nothing, through}
use Rattle.cc_validate.specs.internal.Positions.{carries, Sides}
use Rattle.cc_validate.proofs.Places.{beside_length, beside_at, carries_at, carries_past, least_same}
use Rattle.cc_validate.proofs.code.CodeTransferEquationSet.apply.Goals as goal

pub returns-in-None : goal.returns-in-None
returns-in-None c =
    let nodes = c.self.inside.rtl.now.nodes in
    let blocks = c.self.inside.blocks.now in
    let past : carries nodes blocks c.args.node c.args.facts.now ≡ nothing = carries_past nodes blocks c.args.node c.args.facts.now c.in-None.ensures in
    let is : carries c.args.self.now.nodes c.args.self.now.blocks c.args.node c.args.facts.now ≡ nothing = sym (ap (λ (s : Sides). carries s.nodes s.blocks c.args.node c.args.facts.now) c.self.view_is) ∙ past in
    subst (λ x. IfOk c.least.result (λ made. Equivalent Below made x)) (sym is) (least_same c.least.result c.least.ensures)

pub bounds-self-inside-node : goal.bounds-self-inside-node
bounds-self-inside-node c =
    let nodes = c.self.inside.rtl.now.nodes in
    let here = slice_get_within nodes c.args.node _ c.in-Some.ensures in
    let m = beside_length nodes c.self.inside.blocks.now c.self.invariant.beside in
    omega (arith, here, m)

pub offset_bounds-self-inside-node : goal.offset_bounds-self-inside-node
offset_bounds-self-inside-node c =
    let here = slice_get_within c.self.inside.rtl.now.nodes c.args.node _ c.in-Some.ensures in
    let e = c.len-kept.ensures.count in
    let few = c.len-kept.ensures.few in
    omega (arith, here, e, few)

pub carry-requires-clause-agrees : goal.carry-requires-clause-agrees
carry-requires-clause-agrees c =
    let nodes = c.self.inside.rtl.now.nodes in
    let n : Labelled = record { label = c.args.node; node = node_of c.in-Some.rtl.now } in
    let both = beside_at nodes c.self.inside.blocks.now c.args.node n c.index-self-node.result c.self.invariant.beside (slice_get_within nodes c.args.node n c.in-Some.ensures) in
    subst (λ (m : Labelled). Agrees m.node (get_or c.self.inside.blocks.now c.args.node c.index-self-node.result).operation) (get_or_from_slice_get nodes c.args.node n n c.in-Some.ensures) both.1

pub returns-in-Some : goal.returns-in-Some
returns-in-Some c =
    let nodes = c.self.inside.rtl.now.nodes in
    let blocks = c.self.inside.blocks.now in
    let n : Labelled = record { label = c.args.node; node = node_of c.in-Some.rtl.now } in
    let b = c.index-self-node.result in
    let here = slice_get_within nodes c.args.node n c.in-Some.ensures in
    let m = beside_length nodes blocks c.self.invariant.beside in
    let at : carries nodes blocks c.args.node c.args.facts.now ≡ through n.node (get_or blocks c.args.node b) c.args.facts.now =
    carries_at nodes blocks c.args.node n b c.args.facts.now here (omega (arith, here, m)) ∙ ap (λ (k : Labelled). through k.node (get_or blocks c.args.node b) c.args.facts.now) (get_or_from_slice_get nodes c.args.node n n c.in-Some.ensures) in
    let is : carries c.args.self.now.nodes c.args.self.now.blocks c.args.node c.args.facts.now ≡ through n.node (get_or blocks c.args.node b) c.args.facts.now =
    sym (ap (λ (s : Sides). carries s.nodes s.blocks c.args.node c.args.facts.now) c.self.view_is) ∙ at in
    subst (λ x. IfOk c.carry.result (λ made. Equivalent Below made x)) (sym is) c.carry.ensures
