-- As many labels were given as there are places.
use Rattle.std.proofs.Common.{◌∙◌, ap, sym, length, arith}
use Rattle.cc_rtl.specs.internal.Generate.{Places}
use Rattle.cc_rtl.proofs.Making.{length_places}
use Rattle.cc_rtl.proofs.generate.graph.Graph.add.Goals as goal

pub insert_before-requires-clause-room : goal.insert_before-requires-clause-room
insert_before-requires-clause-room c =
    let g = c.self.invariant.0 in
    let l = length_places c.self.inside.places.entries in
    let v = ap (λ (p : Places). length p) c.self.view_is in
    let r = c.requires in
    omega (arith, g, l, v, r)

pub returns-in_ok-insert_before-in-Some-clause-label : goal.returns-in_ok-insert_before-in-Some-clause-label
returns-in_ok-insert_before-in-Some-clause-label c =
    c.in_ok-insert_before-in-Some.ensures.added.0 ∙ c.self.invariant.0 ∙ sym (length_places c.self.inside.places.entries) ∙ ap (λ (p : Places). length p) c.self.view_is
