-- The table has the newest binding at the name's number.
use Rattle.std.proofs.Common.{◌≡◌, ◌∙◌, ◌<◌, sym, ap, subst, None, IfSome, length, get_or, nat_eq, List}
use Rattle.indexmap.specs.IndexMap.{get}
use Rattle.cc_types.specs.Scope.{found}
use Rattle.cc_scope.specs.Numberings.{at_number}
use Rattle.cc_scope.specs.Bindings.{bindings_of, number_in, number_of, entity_found}
use Rattle.cc_scope.specs.declared.bindings.Binding.{Binding}
use Rattle.cc_scope.proofs.Tables.{entity_found-is, number_in-within, table-at}
use Rattle.cc_scope.proofs.bindings.Bindings.find.Goals as goal

pub returns-in_err-number-clause-number : goal.returns-in_err-number-clause-number
returns-in_err-number-clause-number c =
    let b = c.self.inside in
    let x = c.args.name.now in
    let none : None ≡ number_in (bindings_of b.list.items) x = ap (at_number (get nat_eq b.newest)) c.in_err-number.ensures ∙ c.self.invariant.found x in
    ap number_of c.from_residual.ensures ∙ none ∙ ap (λ v. number_in v x) c.self.view_is

pub returns-in_err-number-clause-entity : goal.returns-in_err-number-clause-entity
returns-in_err-number-clause-entity c =
    let b = c.self.inside in
    let x = c.args.name.now in
    let none : None ≡ number_in (bindings_of b.list.items) x = ap (at_number (get nat_eq b.newest)) c.in_err-number.ensures ∙ c.self.invariant.found x in
    ap entity_found c.from_residual.ensures ∙ entity_found-is b.list.items x None none tt ∙ ap (λ v. found v x) c.self.view_is

pub newest_at-requires : goal.newest_at-requires
newest_at-requires c =
    let b = c.self.inside in
    let x = c.args.name.now in
    let known : c.copied-place.result ≡ number_in (bindings_of b.list.items) x =
    c.copied-place.ensures ∙ c.get.ensures.value ∙ table-at b.list.items b.names (get nat_eq b.newest) c.self.invariant x c.in_ok-number.number (sym c.in_ok-number.ensures) in
    subst (λ (l : List Binding). IfSome c.copied-place.result (λ n. n < length l)) (sym c.as_slice.ensures.value) (number_in-within b.list.items x c.copied-place.result known)

pub returns-clause-number : goal.returns-clause-number
returns-clause-number c =
    let b = c.self.inside in
    let x = c.args.name.now in
    let known : c.copied-place.result ≡ number_in (bindings_of b.list.items) x =
    c.copied-place.ensures ∙ c.get.ensures.value ∙ table-at b.list.items b.names (get nat_eq b.newest) c.self.invariant x c.in_ok-number.number (sym c.in_ok-number.ensures) in
    c.newest_at.ensures.number ∙ known ∙ ap (λ v. number_in v x) c.self.view_is

pub returns-clause-entity : goal.returns-clause-entity
returns-clause-entity c =
    let b = c.self.inside in
    let x = c.args.name.now in
    let known : c.copied-place.result ≡ number_in (bindings_of b.list.items) x =
    c.copied-place.ensures ∙ c.get.ensures.value ∙ table-at b.list.items b.names (get nat_eq b.newest) c.self.invariant x c.in_ok-number.number (sym c.in_ok-number.ensures) in
    entity_found-is b.list.items x c.newest_at.result (c.newest_at.ensures.number ∙ known)
    (subst (λ (l : List Binding). IfSome c.newest_at.result (λ n. (d : Binding) → n.entity ≡ (get_or l n.number d).entity)) c.as_slice.ensures.value c.newest_at.ensures.entity)
    ∙ ap (λ v. found v x) c.self.view_is
