-- The entries of the tree are the entries of the finite map, and each turn takes the next one.
use Rattle.std.proofs.Common.{◌≡◌, ℕ, ◌≤◌, length, arith, refl, List, ap, sym, ◌∙◌, subst, append_assoc, ◌++◌, ◌∷◌, [], Some}
use Rattle.std.specs.Cmp.Lexicographic.{nat_list_cmp_total}
use Rattle.std.specs.FinMap as map
use Rattle.cc_journal.specs.Format.{room_of}
use Rattle.cc_unit.specs.declared.unit.StoredUnit.{StoredUnit}
use Rattle.cc_library.specs.declared.command.Change.TheVariants.{Add}
use Rattle.cc_library.specs.declared.command.Kind.TheVariants as kind
use Rattle.cc_library.specs.Body.{body_of, unit_fields}
use Rattle.cc_library.specs.Compact.{adds, bodies_of, compacted}
use Rattle.cc_library.proofs.Sizes.{body_long}
use Rattle.cc_library.proofs.Tables.{entries-map}
use Rattle.cc_library.proofs.Compacting.{room_prefix, room_push}
use Rattle.cc_library.proofs.units.UnitMap.fits.Goals as goal

pub loop-name-init : goal.loop-name-init
loop-name-init c = (
  [],
  c.into_iter-name-iterator.ensures.into_iter_gives ∙ c.iter-name-items.ensures.rest ∙ sym (entries-map nat_list_cmp_total c.self.inside.units.entries c.iter-name-items.ensures.ordered) ∙ ap map.entries c.self.view_is,
  refl,
  c.requires.some,
)

pub loop-name-preserved : goal.loop-name-preserved
loop-name-preserved c =
    let inv = c.loop-name.invariant in
    let e : List ℕ × StoredUnit = (c.in-Some.name.now, c.in-Some.unit.now) in
    let unit : c.deref.result.now ≡ e.1 = c.deref.ensures ∙ c.stored.ensures in
    let long : c.length_with.result ≡ length (body_of (Add e.0 e.1)) = omega (
      arith,
      c.length_with.ensures.length,
      ap length c.bytes.ensures.bytes,
      ap (λ (u : StoredUnit). length (unit_fields u)) unit,
      body_long kind.Add e.0 (Some e.1),
    ) in (
      inv.0 ++ e ∷ [],
      append_assoc inv.0 (e ∷ []) c.next.new.self ∙ ap (λ it. inv.0 ++ it) (sym c.in-Some.ensures.steps) ∙ inv.1,
      omega (arith, inv.2, long, room_push inv.0 e),
      omega (arith, c.if-area-room.false),
    )

pub returns-then-area-room : goal.returns-then-area-room
returns-then-area-room c =
    let inv = c.loop-name.invariant in
    let e : List ℕ × StoredUnit = (c.in-Some.name.now, c.in-Some.unit.now) in
    let unit : c.deref.result.now ≡ e.1 = c.deref.ensures ∙ c.stored.ensures in
    let long : c.length_with.result ≡ length (body_of (Add e.0 e.1)) = omega (
      arith,
      c.length_with.ensures.length,
      ap length c.bytes.ensures.bytes,
      ap (λ (u : StoredUnit). length (unit_fields u)) unit,
      body_long kind.Add e.0 (Some e.1),
    ) in
    let all : (inv.0 ++ e ∷ []) ++ c.next.new.self ≡ map.entries c.args.self.now = append_assoc inv.0 (e ∷ []) c.next.new.self ∙ ap (λ it. inv.0 ++ it) (sym c.in-Some.ensures.steps) ∙ inv.1 in
    let more : room_of (bodies_of (adds (inv.0 ++ e ∷ []))) ≤ room_of (compacted c.args.self.now) =
    subst (λ (es : List (List ℕ × StoredUnit)). room_of (bodies_of (adds (inv.0 ++ e ∷ []))) ≤ room_of (bodies_of (adds es))) all (room_prefix (inv.0 ++ e ∷ []) c.next.new.self) in
    (λ yes. absurd (cc), λ le. absurd (omega (arith, le, more, long, inv.2, room_push inv.0 e, c.if-area-room.true)))
