-- The ticket is for the unit, so the pieces are those of its functions.
use Rattle.std.proofs.Common.{ℕ, List, sym, subst}
use Rattle.std.specs.Arc.{arc_value}
use Rattle.cc_ast.specs.Source.{source}
use Rattle.cc_c_semantics.specs.declared.mode.Mode.{Mode}
use Rattle.cc_service.specs.Compiling.{Handed, IsCompileRefusal, IsProgram}
use Rattle.cc_service.proofs.compiling.Prepared.unit.Goals as goal

pub collected-requires-clause-program : goal.collected-requires-clause-program
collected-requires-clause-program g c = λ _ _.
    subst (λ (t : List ℕ). IsProgram t) (sym c.self.invariant.1) (record { tree = (source (arc_value c.self.inside.unit)).externals; is = c.self.invariant.0 })

pub returns-clause-refused : goal.returns-clause-refused
returns-clause-refused g c =
    subst (λ (h : Handed). IsCompileRefusal h.mode h.text c.in-Err.fault) c.self.view_is
    (subst (λ (m : Mode). IsCompileRefusal m (source (arc_value c.self.inside.unit)).text c.in-Err.fault) c.self.invariant.2
    (subst (λ (t : List ℕ). IsCompileRefusal c.self.inside.ticket.mode t c.in-Err.fault) c.self.invariant.1 c.in-Err.ensures.refused))
