-- The keys of the entries are the keys of the finite map, and each turn takes the next one.
use Rattle.std.proofs.Common.{◌≡◌, ap, sym, ◌∙◌, append_assoc, ◌++◌, ◌∷◌, [], take}
use Rattle.std.proofs.lemmas.List.{append-nil}
use Rattle.std.specs.Cmp.Lexicographic.{nat_list_cmp_total}
use Rattle.std.specs.FinMap as map
use Rattle.cc_library.proofs.Tables.{keys-map}
use Rattle.cc_library.proofs.units.UnitMap.names.Goals as goal

pub loop-name-init : goal.loop-name-init
loop-name-init c =
    rw c.new-names.ensures.items (c.into_iter-name-iterator.ensures.into_iter_gives ∙ c.keys-name-items.ensures.rest
    ∙ sym (keys-map nat_list_cmp_total c.self.inside.units c.keys-name-items.ensures.ordered) ∙ ap map.keys c.self.view_is)

pub loop-name-preserved : goal.loop-name-preserved
loop-name-preserved c =
    let g = c.in_ok-clone.ensures.cases in
    let same : c.in_ok-clone.field-0 ≡ c.in-Some.name.now = sym g.3 ∙ ap (λ n. take n g.1.bytes) g.4.1.0 ∙ ap (λ b. take g.0.len b) g.4.0 ∙ g.2 in
    ap (λ names. names ++ c.next.new.self) c.in_ok-push.ensures.items ∙ append_assoc c.loop-name.names.items (c.in_ok-clone.field-0 ∷ []) c.next.new.self
    ∙ ap (λ name. c.loop-name.names.items ++ (name ∷ c.next.new.self)) same ∙ ap (λ it. c.loop-name.names.items ++ it) (sym c.in-Some.ensures.steps) ∙ c.loop-name.invariant

pub returns : goal.returns
returns c = sym (append-nil c.loop-name.names.items) ∙ ap (λ it. c.loop-name.names.items ++ it) (sym c.in-None.ensures.steps.0) ∙ c.loop-name.invariant
