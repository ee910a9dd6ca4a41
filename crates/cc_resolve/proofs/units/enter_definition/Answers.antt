-- The functions of the unit are passed one by one.
use Rattle.std.proofs.Common.{◌+◌, ◌-◌, drop, refl, subst, ap, ◌∙◌, arith}
use Rattle.cc_ast.specs.Erase.{signature_tree, statements_of, object_trees, external_trees}
use Rattle.cc_scope.specs.Bindings.{file_level, file_of}
use Rattle.cc_types.specs.Scope.{with_objects}
use Rattle.cc_types.proofs.Items.{drop-item}
use Rattle.cc_resolve.proofs.Entering.{Entering, Entering-first, Entering-declaration, Entering-definition, Entering-objects, Entering-at, Entering-as, Entering-ends}
use Rattle.cc_resolve.proofs.units.enter_definition.Goals as goal
use Rattle.cc_resolve.proofs.units.enter_definition.Goals.{in-Declaration+in_ok-declare_function-in-Declaration, in-Definition+else-left-eq0+in_ok-declare_function-in-Definition, in-Objects+in_ok-declare_objects-in-Objects}

pub loop-tree-init : goal.loop-tree-init
loop-tree-init c = Entering-first (external_trees c.args.trees.now) c.args.function _ c.args.names.now c.requires.start refl c.requires.number

pub loop-tree-preserved : goal.loop-tree-preserved
loop-tree-preserved c =
    let all = external_trees c.args.trees.now in
    let behind = drop (c.loop-tree.tree-index + 1) c.args.trees.now in
    let rest = external_trees behind in
    let f = c.args.function in
    let v = c.loop-tree.names in
    let k = c.loop-tree.left in
    let left = drop-item c.args.trees.now c.loop-tree.tree-index c.tree-item.result c.loop-tree-test.true c.tree-item.is in
    let before = subst (λ es. Entering all f v k (external_trees es)) left c.loop-tree.invariant in
    elim c.match-tree.branch [
      | in-Declaration+in_ok-declare_function-in-Declaration w ↦
          Entering-as all f _ _ _ _ rest w.names-is w.left-is
          (Entering-declaration all f v k (signature_tree w.in-Declaration.signature) rest _ (Entering-at all f v k _ _ behind w.in-Declaration.is before) w.in_ok-declare_function-in-Declaration.ensures)
      | in-Definition+else-left-eq0+in_ok-declare_function-in-Definition w ↦
          Entering-as all f _ _ _ _ rest w.names-is w.left-is
          (Entering-definition all f v k (k - 1) (signature_tree w.in-Definition.signature) (statements_of w.in-Definition.field-1.items) rest _ (Entering-at all f v k _ _ behind w.in-Definition.is before)
          (omega (arith, w.if-left-eq0.false)) w.in_ok-declare_function-in-Definition.ensures)
      | in-Objects+in_ok-declare_objects-in-Objects w ↦
          Entering-as all f _ _ _ _ rest w.names-is w.left-is
          (Entering-objects all f v k w.in-Objects.scalar (object_trees w.in-Objects.trees.items) rest _ (Entering-at all f v k _ _ behind w.in-Objects.is before)
          (w.in_ok-declare_objects-in-Objects.ensures
          ∙ ap (λ os. record v { visible = file_level (with_objects w.in-Objects.scalar (object_trees os) (file_of v.visible)).bindings }) w.as_slice.ensures.value))
    ]

pub returns-then-left-eq0 : goal.returns-then-left-eq0
returns-then-left-eq0 c =
    let all = external_trees c.args.trees.now in
    let behind = drop (c.loop-tree.tree-index + 1) c.args.trees.now in
    let left = drop-item c.args.trees.now c.loop-tree.tree-index c.tree-item.result c.loop-tree-test.true c.tree-item.is in
    let before = subst (λ es. Entering all c.args.function c.loop-tree.names c.loop-tree.left (external_trees es)) left c.loop-tree.invariant in
    Entering-ends all c.args.function c.loop-tree.names c.loop-tree.left (signature_tree c.in-Definition.signature) (statements_of c.in-Definition.field-1.items) (external_trees behind) _ c.enter_function.result
    (Entering-at all c.args.function c.loop-tree.names c.loop-tree.left _ _ behind c.in-Definition.is before) (omega (arith, c.if-left-eq0.true)) c.enter_function.ensures
