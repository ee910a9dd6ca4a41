-- The parameters and locals are no longer in scope.
use Rattle.std.proofs.Common.{[], ◌∙◌, ap}
use Rattle.cc_scope.specs.Bindings.{closed}
use Rattle.cc_types.specs.Scope.{with_function}
use Rattle.cc_layout.specs.Environment.{Environment}
use Rattle.cc_resolve.proofs.Behind.{function-closed}
use Rattle.cc_resolve.proofs.units.leave_function.Goals as goal

pub returns : goal.returns
returns c layout s f e =
    c.forget_locals.ensures ∙ ap (λ (u : Environment). record u { locals = [] }) c.close.ensures
    ∙ ap (λ (u : Environment). record u { visible = closed 0 u.visible; locals = [] }) e
    ∙ ap (λ v. record { visible = v; locals = []; layout = layout }) (function-closed s.parameters (with_function s f).bindings)
