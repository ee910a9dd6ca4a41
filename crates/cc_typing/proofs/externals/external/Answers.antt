-- One proof for each kind of external declaration.
use Rattle.std.proofs.Common.{◌≡◌, ◌∙◌, ◌∷◌, [], false, ap}
use Rattle.cc_ast.specs.Erase.{signature_tree, statements_of, object_trees, external_tree}
use Rattle.cc_scope.specs.Bindings.{file_level, file_of}
use Rattle.cc_typing.specs.internal.Findings.{Found, after, with_before}
use Rattle.cc_types.specs.Rules.{objects_errors, statements_errors, called_in_objects, called_in_statements}
use Rattle.cc_types.specs.Scope.{has_name, with_objects}
use Rattle.cc_typing.proofs.FileScopes.{declaration-scope, declaration-found, definition-scope, definition-found, objects-scope, objects-found}
use Rattle.cc_typing.proofs.externals.external.Goals as goal

pub returns-in_ok-signature-in-Declaration-clause-scope :
    goal.returns-in_ok-signature-in-Declaration-clause-scope
returns-in_ok-signature-in-Declaration-clause-scope c =
    declaration-scope c.args.scope.now c.args.findings.now.functions.before (external_tree c.args.tree.now) c.signature.new.scope c.close.new.self (signature_tree c.in-Declaration.declared)
    (ap external_tree c.in-Declaration.is) c.in_ok-signature-in-Declaration.ensures.scope c.close.ensures

pub returns-in_ok-mark_before-in-Definition-clause-scope :
    goal.returns-in_ok-mark_before-in-Definition-clause-scope
returns-in_ok-mark_before-in-Definition-clause-scope c =
    definition-scope c.args.scope.now c.args.findings.now.functions.before (external_tree c.args.tree.now) c.signature-in-Definition.new.scope c.all_statements.new.scope c.close-in-Definition.new.self (signature_tree c.in-Definition.declared)
    (statements_of c.in-Definition.body.items) (ap external_tree c.in-Definition.is) c.in_ok-signature-in-Definition.ensures.scope c.in_ok-all_statements-in-Definition.ensures.outer c.close-in-Definition.ensures

pub returns-in_ok-signature-in-Declaration-clause-found :
    goal.returns-in_ok-signature-in-Declaration-clause-found
returns-in_ok-signature-in-Declaration-clause-found c =
    declaration-found c.args.scope.now c.args.findings.now.functions.before (external_tree c.args.tree.now) c.args.findings.now c.signature.new.findings (signature_tree c.in-Declaration.declared)
    (ap external_tree c.in-Declaration.is) c.in_ok-signature-in-Declaration.ensures.found

pub returns-in_ok-mark_before-in-Definition-clause-found :
    goal.returns-in_ok-mark_before-in-Definition-clause-found
returns-in_ok-mark_before-in-Definition-clause-found c =
    let s = signature_tree c.in-Definition.declared in
    let before = c.args.findings.now.functions.before in
    let named : c.stands_before-again.result ≡ has_name before s.name.text =
    c.stands_before-again.ensures ∙ ap (λ (f : Found). has_name f.functions.before c.as_slice-name.result.now) c.in_ok-signature-in-Definition.ensures.found ∙ ap (has_name before) c.as_slice-name.ensures.value in
    definition-found c.args.scope.now before (external_tree c.args.tree.now) c.signature-in-Definition.new.scope
    c.args.findings.now c.signature-in-Definition.new.findings c.note_if.new.self c.all_statements.new.findings c.mark_before.new.self s (statements_of c.in-Definition.body.items) c.stands_before-again.result
    (ap external_tree c.in-Definition.is) c.in_ok-signature-in-Definition.ensures.scope named c.in_ok-signature-in-Definition.ensures.found c.note_if.ensures
    (c.in_ok-all_statements-in-Definition.ensures.found
    ∙ ap (λ l. after c.note_if.new.self (statements_errors (statements_of l) (record { result = s.result; in_loop = false }) c.signature-in-Definition.new.scope) (called_in_statements (statements_of l))) c.as_slice.ensures.value)
    (c.in_ok-mark_before-in-Definition.ensures ∙ ap (λ x. with_before c.all_statements.new.findings (x ∷ [])) c.as_slice-name.ensures.value)

pub returns-in_ok-objects-in-Objects-clause-scope :
    goal.returns-in_ok-objects-in-Objects-clause-scope
returns-in_ok-objects-in-Objects-clause-scope c =
    objects-scope c.args.scope.now c.args.findings.now.functions.before (external_tree c.args.tree.now) c.objects.new.scope c.in-Objects.scalar (object_trees c.in-Objects.declared.items) (ap external_tree c.in-Objects.is)
    (c.in_ok-objects-in-Objects.ensures.scope ∙ ap (λ l. file_level (with_objects c.in-Objects.scalar (object_trees l) (file_of c.args.scope.now)).bindings) c.as_slice-in-Objects.ensures.value)

pub returns-in_ok-objects-in-Objects-clause-found :
    goal.returns-in_ok-objects-in-Objects-clause-found
returns-in_ok-objects-in-Objects-clause-found c =
    objects-found c.args.scope.now c.args.findings.now.functions.before (external_tree c.args.tree.now) c.args.findings.now c.objects.new.findings c.in-Objects.scalar (object_trees c.in-Objects.declared.items) (ap external_tree c.in-Objects.is)
    (c.in_ok-objects-in-Objects.ensures.found
    ∙ ap (λ l. after c.args.findings.now (objects_errors c.in-Objects.scalar (object_trees l) (file_of c.args.scope.now)) (called_in_objects (object_trees l))) c.as_slice-in-Objects.ensures.value)
