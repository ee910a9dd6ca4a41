-- The entries of the tree are the entries of the finite map, and each turn takes the next one.
use Rattle.std.proofs.Common.{◌≡◌, ℕ, ◌<◌, ◌^◌, length, arith, List, ap, sym, ◌∙◌, subst, append_assoc, ◌++◌, ◌∷◌, []}
use Rattle.std.specs.Cmp.Lexicographic.{nat_list_cmp_total}
use Rattle.std.specs.FinMap as map
use Rattle.cc_journal.specs.Format.{room_of}
use Rattle.cc_unit.specs.declared.unit.StoredUnit.{StoredUnit}
use Rattle.cc_library.specs.declared.command.Change.TheVariants.{Add}
use Rattle.cc_library.specs.Body.{Spells, body_of}
use Rattle.cc_library.specs.Compact.{adds, bodies_of, compacted}
use Rattle.cc_library.specs.Recovered.{AreSpelled}
use Rattle.cc_library.proofs.Tables.{entries-map}
use Rattle.cc_library.proofs.Commands.{spells_as_written}
use Rattle.cc_library.proofs.Compacting.{room_one, spelled_push}
use Rattle.cc_library.proofs.units.UnitMap.bodies.Goals as goal

pub loop-name-init : goal.loop-name-init
loop-name-init c = (
  [],
  c.into_iter-name-iterator.ensures.into_iter_gives ∙ c.iter-name-items.ensures.rest ∙ sym (entries-map nat_list_cmp_total c.self.inside.units.entries c.iter-name-items.ensures.ordered) ∙ ap map.entries c.self.view_is,
  subst (λ (l : List (List ℕ)). AreSpelled l []) (sym c.new-bodies.ensures.items) tt,
)

pub framed_body-requires-clause-short : goal.framed_body-requires-clause-short
framed_body-requires-clause-short c =
    let inv = c.loop-name.invariant in
    let e : List ℕ × StoredUnit = (c.in-Some.name.now, c.in-Some.unit.now) in
    let unit : c.deref.result.now ≡ c.in-Some.unit.now = c.deref.ensures ∙ c.stored.ensures in
    let all : inv.0 ++ e ∷ c.next.new.self ≡ map.entries c.args.self.now = ap (λ it. inv.0 ++ it) (sym c.in-Some.ensures.steps) ∙ inv.1 in
    let one : length (body_of (Add e.0 e.1)) < room_of (compacted c.args.self.now) =
    subst (λ (es : List (List ℕ × StoredUnit)). length (body_of (Add e.0 e.1)) < room_of (bodies_of (adds es))) all (room_one inv.0 c.next.new.self e) in
    subst (λ (u : StoredUnit). length (body_of (Add e.0 u)) < 2 ^ 32) (sym unit) (omega (arith, one, c.requires))

pub loop-name-preserved : goal.loop-name-preserved
loop-name-preserved c =
    let inv = c.loop-name.invariant in
    let e : List ℕ × StoredUnit = (c.in-Some.name.now, c.in-Some.unit.now) in
    let unit : c.deref.result.now ≡ c.in-Some.unit.now = c.deref.ensures ∙ c.stored.ensures in
    let one : Spells c.in_ok-body.body (Add c.in-Some.name.now c.in-Some.unit.now) =
    subst (λ (u : StoredUnit). Spells c.in_ok-body.body (Add c.in-Some.name.now u)) unit (spells_as_written c.in_ok-body.body (Add c.in-Some.name.now c.deref.result.now) c.in_ok-body.ensures.spelled (c.in_ok-body.ensures.name, c.in_ok-body.ensures.unit)) in (
      inv.0 ++ e ∷ [],
      append_assoc inv.0 (e ∷ []) c.next.new.self ∙ ap (λ it. inv.0 ++ it) (sym c.in-Some.ensures.steps) ∙ inv.1,
      subst (λ (l : List (List ℕ)). AreSpelled l (adds (inv.0 ++ e ∷ []))) (sym c.in_ok-push.ensures.items) (spelled_push c.loop-name.bodies.items inv.0 c.in_ok-body.body e inv.2 one),
    )
