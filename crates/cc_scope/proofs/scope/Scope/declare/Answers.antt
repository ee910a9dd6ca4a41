-- The innermost scope's names are those with the greatest numbers.
use Rattle.std.proofs.Common.{ap, sym, ◌∙◌, ◌-◌, length}
use Rattle.cc_scope.specs.Bindings.{number_of}
use Rattle.cc_scope.specs.internal.Scopes.{from}
use Rattle.cc_types.specs.Scope.{Visible, is_declared}
use Rattle.cc_scope.proofs.Numbers.{is_declared-take}
use Rattle.cc_scope.proofs.scope.Scope.declare.Goals as goal

pub returns-clause-again : goal.returns-clause-again
returns-clause-again c =
    let s = c.self.inside in
    let x = c.args.name.now in
    c.is_from.ensures ∙ ap (λ m. from (m - s.inner) (number_of c.in_ok-hidden.hidden)) c.len.ensures ∙ ap (from (length s.bindings - s.inner)) c.in_ok-hidden.ensures.hides
    ∙ sym (is_declared-take s.bindings x s.inner c.self.invariant) ∙ ap (λ (v : Visible). is_declared v.inner x) c.self.view_is
