-- Only file scope is open, so a name is declared there exactly if a new binding of it hides another.
use Rattle.std.proofs.Common.{◌≡◌, [], take, drop, true, false, ap, sym, ◌∙◌}
use Rattle.cc_scope.specs.Bindings.{scope_of, file_level}
use Rattle.cc_scope.specs.Entities.{entity_of}
use Rattle.cc_types.specs.Scope.{Visible, is_declared, with_declared}
use Rattle.cc_scope.proofs.Numbers.{is_declared-hides, scope-stays, scope-grows}
use Rattle.cc_scope.proofs.scope.Scope.declare_in_file.Goals as goal

pub returns-then-is_some-clause-again : goal.returns-then-is_some-clause-again
returns-then-is_some-clause-again c =
    let s = c.self.inside in
    let x = c.args.name.now in
    let inner : take s.inner s.bindings ≡ [] = ap (λ (v : Visible). v.inner) c.self.view_is ∙ c.requires in
    sym c.if-is_some.true ∙ c.is_some.ensures ∙ is_declared-hides s.bindings x s.inner _ c.self.invariant inner c.in_ok-push.ensures.hides
    ∙ ap (λ (v : Visible). is_declared v.outer x) c.self.view_is

pub returns-clause-again : goal.returns-clause-again
returns-clause-again c =
    let s = c.self.inside in
    let x = c.args.name.now in
    let inner : take s.inner s.bindings ≡ [] = ap (λ (v : Visible). v.inner) c.self.view_is ∙ c.requires in
    sym c.if-is_some.false ∙ c.is_some.ensures ∙ is_declared-hides s.bindings x s.inner _ c.self.invariant inner c.in_ok-push.ensures.hides
    ∙ ap (λ (v : Visible). is_declared v.outer x) c.self.view_is

pub returns-then-is_some-clause-scope : goal.returns-then-is_some-clause-scope
returns-then-is_some-clause-scope c =
    let s = c.self.inside in
    let x = c.args.name.now in
    let entity = entity_of c.args.entity in
    let inner : take s.inner s.bindings ≡ [] = ap (λ (v : Visible). v.inner) c.self.view_is ∙ c.requires in
    let again : is_declared (drop s.inner s.bindings) x ≡ true =
    sym (is_declared-hides s.bindings x s.inner _ c.self.invariant inner c.in_ok-push.ensures.hides) ∙ sym c.is_some.ensures ∙ c.if-is_some.true in
    ap (λ bs. scope_of bs s.inner) (c.pop.ensures ∙ ap (drop 1) c.in_ok-push.ensures.ok) ∙ scope-stays s.bindings x entity s.inner c.self.invariant inner again
    ∙ ap (λ (v : Visible). file_level (with_declared x entity (record { bindings = v.outer; defined = [] })).bindings) c.self.view_is

pub returns-clause-scope : goal.returns-clause-scope
returns-clause-scope c =
    let s = c.self.inside in
    let x = c.args.name.now in
    let entity = entity_of c.args.entity in
    let inner : take s.inner s.bindings ≡ [] = ap (λ (v : Visible). v.inner) c.self.view_is ∙ c.requires in
    let again : is_declared (drop s.inner s.bindings) x ≡ false =
    sym (is_declared-hides s.bindings x s.inner _ c.self.invariant inner c.in_ok-push.ensures.hides) ∙ sym c.is_some.ensures ∙ c.if-is_some.false in
    ap (λ bs. scope_of bs s.inner) c.in_ok-push.ensures.ok ∙ scope-grows s.bindings x entity s.inner c.self.invariant inner again
    ∙ ap (λ (v : Visible). file_level (with_declared x entity (record { bindings = v.outer; defined = [] })).bindings) c.self.view_is
