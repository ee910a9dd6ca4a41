-- The entries of the tree are the entries of the finite map, and each turn takes the next one.
use Rattle.std.proofs.Common.{◌≡◌, ℕ, ◌+◌, ◌≤◌, length, length-append, arith, refl, List, ap, sym, ◌∙◌, subst, append_assoc, ◌++◌, ◌∷◌, [], Some}
use Rattle.std.proofs.lemmas.List.{append-nil}
use Rattle.std.specs.Cmp.Lexicographic.{nat_list_cmp_total}
use Rattle.std.specs.FinMap as map
use Rattle.cc_journal.specs.Format.{room_of}
use Rattle.cc_unit.specs.declared.unit.StoredUnit.{StoredUnit}
use Rattle.cc_library.specs.declared.command.Change.TheVariants.{Add}
use Rattle.cc_library.specs.declared.command.Kind.TheVariants as kind
use Rattle.cc_library.specs.Body.{body_of, unit_fields}
use Rattle.cc_library.specs.Compact.{adds, bodies_of, compacted}
use Rattle.cc_library.proofs.Sizes.{body_long}
use Rattle.cc_library.proofs.Tables.{entries-map}
use Rattle.cc_library.proofs.Compacting.{room_prefix, room_push}
use Rattle.cc_library.proofs.units.UnitMap.measure.Goals as goal

pub loop-name-init : goal.loop-name-init
loop-name-init c = (
  [],
  c.into_iter-name-iterator.ensures.into_iter_gives ∙ c.iter-name-items.ensures.rest ∙ sym (entries-map nat_list_cmp_total c.self.inside.units.entries c.iter-name-items.ensures.ordered) ∙ ap map.entries c.self.view_is,
  refl,
  omega arith,
  refl,
  omega arith,
)

pub loop-name-preserved : goal.loop-name-preserved
loop-name-preserved c =
    let inv = c.loop-name.invariant in
    let e : List ℕ × StoredUnit = (c.in-Some.name.now, c.in-Some.unit.now) in
    let unit : c.deref.result.now ≡ e.1 = c.deref.ensures ∙ c.stored.ensures in
    let long : c.length_with.result ≡ length (body_of (Add e.0 e.1)) = omega (
      arith,
      c.length_with.ensures.length,
      ap length c.bytes.ensures.bytes,
      ap (λ (u : StoredUnit). length (unit_fields u)) unit,
      body_long kind.Add e.0 (Some e.1),
    ) in
    let whole : (inv.0 ++ e ∷ []) ++ c.next.new.self ≡ map.entries c.args.self.now = append_assoc inv.0 (e ∷ []) c.next.new.self ∙ ap (λ it. inv.0 ++ it) (sym c.in-Some.ensures.steps) ∙ inv.1 in
    let more : room_of (bodies_of (adds (inv.0 ++ e ∷ []))) ≤ room_of (compacted c.args.self.now) =
    subst (λ (es : List (List ℕ × StoredUnit)). room_of (bodies_of (adds (inv.0 ++ e ∷ []))) ≤ room_of (bodies_of (adds es))) whole (room_prefix (inv.0 ++ e ∷ []) c.next.new.self) in
    let count : length (inv.0 ++ e ∷ []) ≡ length inv.0 + 1 = length-append inv.0 (e ∷ []) in (
      inv.0 ++ e ∷ [],
      whole,
      omega (arith, inv.2, long, room_push inv.0 e),
      omega (arith, inv.2, long, room_push inv.0 e, more, c.requires),
      omega (arith, inv.4, count),
      omega (arith, inv.5),
    )

pub returns-clause-bytes : goal.returns-clause-bytes
returns-clause-bytes c =
    let inv = c.loop-name.invariant in
    let all : inv.0 ≡ map.entries c.args.self.now = sym (append-nil inv.0) ∙ ap (λ it. inv.0 ++ it) (sym c.in-None.ensures.steps.0) ∙ inv.1 in
    omega (arith, inv.2, ap (λ (es : List (List ℕ × StoredUnit)). room_of (bodies_of (adds es))) all)

pub returns-clause-names : goal.returns-clause-names
returns-clause-names c =
    let inv = c.loop-name.invariant in
    let all : inv.0 ≡ map.entries c.args.self.now = sym (append-nil inv.0) ∙ ap (λ it. inv.0 ++ it) (sym c.in-None.ensures.steps.0) ∙ inv.1 in
    inv.4 ∙ ap length all ∙ sym (map.len-entries c.args.self.now)
