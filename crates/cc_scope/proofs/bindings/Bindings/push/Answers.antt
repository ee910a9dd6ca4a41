-- The name has its number, and the new binding hides the one that the table had at that number.
use Rattle.std.proofs.Common.{◌≡◌, ◌∙◌, ◌<◌, ◌++◌, ◌∷◌, [], sym, ap, subst, cond, List, Some, IfSome, length, get_or, nat_eq}
use Rattle.std.specs.Map.{lookup}
use Rattle.indexmap.specs.IndexMap.{get}
use Rattle.cc_types.specs.Scope.{found}
use Rattle.cc_scope.specs.Bindings.{IsTable, number_in}
use Rattle.cc_scope.specs.declared.bindings.Binding.{Binding}
use Rattle.cc_scope.proofs.NameNumbers.{number-own}
use Rattle.cc_scope.proofs.Tables.{IsTable-numbered, IsTable-pushed, hidden-within, hidden-is, entity_found-pushed}
use Rattle.cc_scope.proofs.bindings.Bindings.push.Goals as goal

pub invariant_of-self-in-Err : goal.invariant_of-self-in-Err
invariant_of-self-in-Err c =
    let b = c.self.inside in
    let table = IsTable-numbered b.list.items b.names c.add.new.self c.args.name.now c.in_ok-number.number (get nat_eq b.newest) c.self.invariant c.in_ok-number.ensures.ok in
    subst (λ l. IsTable l c.add.new.self (get nat_eq c.insert.new.self)) (sym c.in_ok-reserve.ensures.items)
    (subst (λ es. IsTable b.list.items c.add.new.self (λ n. lookup (nat_eq n) es)) (sym c.in-Err.ensures.err) table)

pub newest_at-requires : goal.newest_at-requires
newest_at-requires c =
    let more : Binding = record { name = c.args.name; number = c.in_ok-number.number; entity = c.args.entity; hidden = c.in-Ok.hidden } in
    let b = c.self.inside in
    let x = c.args.name.now in
    let hidden = hidden-is b.list.items b.names c.add.new.self x c.in_ok-number.number (get nat_eq b.newest) c.self.invariant c.in_ok-number.ensures.ok c.in-Ok.hidden c.in-Ok.ensures.old in
    subst (λ (l : List Binding). IfSome c.in-Ok.hidden (λ n. n < length l)) (sym (c.as_slice.ensures.value ∙ c.push_reserved.ensures.items ∙ ap (λ l. l ++ more ∷ []) c.in_ok-reserve.ensures.items))
    (hidden-within b.list.items more x c.in-Ok.hidden hidden)

pub invariant_of-self-in-Ok : goal.invariant_of-self-in-Ok
invariant_of-self-in-Ok c =
    let b = c.self.inside in
    let n = c.in_ok-number.number in
    let x = c.args.name.now in
    let more : Binding = record { name = c.args.name; number = n; entity = c.args.entity; hidden = c.in-Ok.hidden } in
    let table = IsTable-numbered b.list.items b.names c.add.new.self x n (get nat_eq b.newest) c.self.invariant c.in_ok-number.ensures.ok in
    let place : c.len-place.result ≡ length b.list.items = c.len-place.ensures ∙ c.reserve.new.self.ok.0 ∙ ap length c.in_ok-reserve.ensures.items in
    subst (λ l. IsTable l c.add.new.self (get nat_eq c.insert.new.self)) (sym (c.push_reserved.ensures.items ∙ ap (λ l. l ++ more ∷ []) c.in_ok-reserve.ensures.items))
    (IsTable-pushed b.list.items more c.add.new.self (get nat_eq b.newest) (get nat_eq c.insert.new.self) table (number-own b.names c.add.new.self x n c.in_ok-number.ensures.ok)
    c.in-Ok.ensures.old (λ m. c.in-Ok.ensures.updates.0 m ∙ ap (λ p. cond (nat_eq n m) (Some p) (get nat_eq b.newest m)) place))

pub returns-in-Ok-clause-hides : goal.returns-in-Ok-clause-hides
returns-in-Ok-clause-hides c =
    let b = c.self.inside in
    let x = c.args.name.now in
    let hidden = hidden-is b.list.items b.names c.add.new.self x c.in_ok-number.number (get nat_eq b.newest) c.self.invariant c.in_ok-number.ensures.ok c.in-Ok.hidden c.in-Ok.ensures.old in
    c.newest_at.ensures.number ∙ hidden ∙ ap (λ v. number_in v x) c.self.view_is

pub returns-in-Ok-clause-hidden : goal.returns-in-Ok-clause-hidden
returns-in-Ok-clause-hidden c =
    let more : Binding = record { name = c.args.name; number = c.in_ok-number.number; entity = c.args.entity; hidden = c.in-Ok.hidden } in
    let b = c.self.inside in
    let x = c.args.name.now in
    let hidden = hidden-is b.list.items b.names c.add.new.self x c.in_ok-number.number (get nat_eq b.newest) c.self.invariant c.in_ok-number.ensures.ok c.in-Ok.hidden c.in-Ok.ensures.old in
    entity_found-pushed b.list.items more x c.newest_at.result (c.newest_at.ensures.number ∙ hidden)
    (subst (λ (l : List Binding). IfSome c.newest_at.result (λ n. (d : Binding) → n.entity ≡ (get_or l n.number d).entity)) (c.as_slice.ensures.value ∙ c.push_reserved.ensures.items ∙ ap (λ l. l ++ more ∷ []) c.in_ok-reserve.ensures.items) c.newest_at.ensures.entity)
    ∙ ap (λ v. found v x) c.self.view_is
