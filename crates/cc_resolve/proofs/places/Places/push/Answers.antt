-- The table has the name's first place at the name's number: the old place if there was one, else the next.
use Rattle.std.proofs.Common.{◌∙◌, ◌++◌, ◌∷◌, [], length, ap, subst, sym, nat_eq}
use Rattle.std.specs.Map.{lookup}
use Rattle.indexmap.specs.IndexMap.{get}
use Rattle.cc_scope.proofs.NameNumbers.{number-own}
use Rattle.cc_resolve.specs.Numberings.{ArePlaces}
use Rattle.cc_resolve.proofs.Numbers.{ArePlaces-numbered, ArePlaces-again, ArePlaces-new}
use Rattle.cc_resolve.proofs.places.Places.push.Goals as goal

pub invariant_of-self-in-Err : goal.invariant_of-self-in-Err
invariant_of-self-in-Err c =
    let p = c.self.inside in
    let table = ArePlaces-numbered p.list.items p.names c.add.new.self c.args.name.now c.in_ok-number.number (get nat_eq p.places) c.self.invariant c.in_ok-number.ensures.ok in
    subst (λ l. ArePlaces l c.add.new.self (get nat_eq c.insert.new.self)) (sym c.in_ok-reserve.ensures.items)
    (subst (λ es. ArePlaces p.list.items c.add.new.self (λ n. lookup (nat_eq n) es)) (sym c.in-Err.ensures.err) table)

pub invariant_of-self-in-Ok : goal.invariant_of-self-in-Ok
invariant_of-self-in-Ok c =
    let p = c.self.inside in
    let n = c.in_ok-number.number in
    let y = c.args.name in
    let table = ArePlaces-numbered p.list.items p.names c.add.new.self y.now n (get nat_eq p.places) c.self.invariant c.in_ok-number.ensures.ok in
    subst (λ l. ArePlaces l c.add.new.self (get nat_eq c.insert.new.self)) (sym (c.push_reserved-in-Ok.ensures.items ∙ ap (λ l. l ++ y ∷ []) c.in_ok-reserve.ensures.items))
    (ArePlaces-new p.list.items y c.add.new.self n (number-own p.names c.add.new.self y.now n c.in_ok-number.ensures.ok) (get nat_eq p.places) (get nat_eq c.insert.new.self) table c.copied-known.result
    (c.copied-known.ensures ∙ c.get.ensures.value) (sym c.is_some.ensures ∙ c.if-is_some.false) c.len-place.result (c.len-place.ensures ∙ c.reserve.new.self.ok.0 ∙ ap length c.in_ok-reserve.ensures.items) c.in-Ok.ensures.updates.0)

pub invariant_of-self-then-is_some : goal.invariant_of-self-then-is_some
invariant_of-self-then-is_some c =
    let p = c.self.inside in
    let n = c.in_ok-number.number in
    let y = c.args.name in
    let table = ArePlaces-numbered p.list.items p.names c.add.new.self y.now n (get nat_eq p.places) c.self.invariant c.in_ok-number.ensures.ok in
    subst (λ l. ArePlaces l c.add.new.self (get nat_eq p.places)) (sym (c.push_reserved.ensures.items ∙ ap (λ l. l ++ y ∷ []) c.in_ok-reserve.ensures.items))
    (ArePlaces-again p.list.items y c.add.new.self n (number-own p.names c.add.new.self y.now n c.in_ok-number.ensures.ok) (get nat_eq p.places) table c.copied-known.result
    (c.copied-known.ensures ∙ c.get.ensures.value) (sym c.is_some.ensures ∙ c.if-is_some.true))
