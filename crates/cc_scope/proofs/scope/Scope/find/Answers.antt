-- The names in scope are those of the innermost scope and those around it.
use Rattle.std.proofs.Common.{ap, sym, ◌∙◌}
use Rattle.std.proofs.lemmas.List.{take-append-drop}
use Rattle.cc_types.specs.Scope.{Visible, found, in_scope}
use Rattle.cc_scope.proofs.scope.Scope.find.Goals as goal

pub returns-in-Some : goal.returns-in-Some
returns-in-Some c =
    let s = c.self.inside in
    let x = c.args.name.now in
    c.in-Some.ensures.entity ∙ sym (ap (λ bs. found bs x) (take-append-drop s.inner s.bindings)) ∙ ap (λ (v : Visible). found (in_scope v) x) c.self.view_is

pub returns-in-None : goal.returns-in-None
returns-in-None c =
    let s = c.self.inside in
    let x = c.args.name.now in
    c.in-None.ensures.entity ∙ sym (ap (λ bs. found bs x) (take-append-drop s.inner s.bindings)) ∙ ap (λ (v : Visible). found (in_scope v) x) c.self.view_is
