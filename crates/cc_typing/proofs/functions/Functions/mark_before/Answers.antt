-- The table has the name's state at the name's number.
use Rattle.std.proofs.Common.{◌∙◌, ◌++◌, ◌∷◌, [], List, ℕ, true, ap, subst, sym, refl, nat_eq}
use Rattle.indexmap.specs.IndexMap.{get}
use Rattle.cc_typing.specs.declared.functions.State.{State}
use Rattle.cc_typing.specs.internal.Functions.{AreStates, newest_first, is_defined}
use Rattle.cc_scope.proofs.NameNumbers.{number-own}
use Rattle.cc_typing.proofs.States.{AreStates-numbered, AreStates-before, newest_first-push}
use Rattle.cc_typing.proofs.functions.Functions.mark_before.Goals as goal

pub invariant_of-self-in-Ok : goal.invariant_of-self-in-Ok
invariant_of-self-in-Ok c =
    let f = c.self.inside in
    let n = c.in_ok-number.number in
    let x = c.args.name.now in
    let s : State = record { defined = c.is_defined.result; before = true } in
    let are = AreStates-numbered f.names c.add.new.self x n (get nat_eq f.states) (newest_first f.defined.items) (newest_first f.before.items) c.self.invariant c.in_ok-number.ensures.ok in
    subst (λ (l : List (List ℕ)). AreStates c.add.new.self (get nat_eq c.insert.new.self) (newest_first f.defined.items) l) (sym (ap newest_first (c.push_reserved.ensures.items ∙ ap (λ l. l ++ c.args.name ∷ []) c.in_ok-reserve.ensures.items) ∙ newest_first-push f.before.items c.args.name))
    (AreStates-before c.add.new.self x n (number-own f.names c.add.new.self x n c.in_ok-number.ensures.ok) (get nat_eq f.states) (get nat_eq c.insert.new.self) s c.in-Ok.ensures.updates.0
    (newest_first f.defined.items) (newest_first f.before.items) are refl (c.is_defined.ensures ∙ ap is_defined (c.copied.ensures ∙ c.get.ensures.value)))
