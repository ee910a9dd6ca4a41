-- The table has the name's state at the name's number.
use Rattle.std.proofs.Common.{◌∙◌, ◌++◌, ◌∷◌, [], List, ℕ, true, ap, subst, sym, refl, nat_eq}
use Rattle.indexmap.specs.IndexMap.{get}
use Rattle.cc_typing.specs.declared.functions.State.{State}
use Rattle.cc_typing.specs.internal.Functions.{AreStates, newest_first, stands_before}
use Rattle.cc_scope.proofs.NameNumbers.{number-own}
use Rattle.cc_typing.proofs.States.{AreStates-numbered, AreStates-defined, newest_first-push}
use Rattle.cc_typing.proofs.functions.Functions.define.Goals as goal

pub invariant_of-self-in-Ok : goal.invariant_of-self-in-Ok
invariant_of-self-in-Ok c =
    let f = c.self.inside in
    let n = c.in_ok-number.number in
    let x = c.args.name.now in
    let s : State = record { defined = true; before = c.stands_before.result } in
    let are = AreStates-numbered f.names c.add.new.self x n (get nat_eq f.states) (newest_first f.defined.items) (newest_first f.before.items) c.self.invariant c.in_ok-number.ensures.ok in
    subst (λ (l : List (List ℕ)). AreStates c.add.new.self (get nat_eq c.insert.new.self) l (newest_first f.before.items)) (sym (ap newest_first (c.push_reserved.ensures.items ∙ ap (λ l. l ++ c.args.name ∷ []) c.in_ok-reserve.ensures.items) ∙ newest_first-push f.defined.items c.args.name))
    (AreStates-defined c.add.new.self x n (number-own f.names c.add.new.self x n c.in_ok-number.ensures.ok) (get nat_eq f.states) (get nat_eq c.insert.new.self) s c.in-Ok.ensures.updates.0
    (newest_first f.defined.items) (newest_first f.before.items) are refl (c.stands_before.ensures ∙ ap stands_before (c.copied.ensures ∙ c.get.ensures.value)))
