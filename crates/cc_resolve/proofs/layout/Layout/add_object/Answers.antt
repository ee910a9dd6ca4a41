-- One more object is added, with its name and the place of its words.
use Rattle.std.proofs.Common.{◌∙◌, [], ◌∷◌, ◌++◌, ap, sym}
use Rattle.cc_resolve.specs.Numberings.{laid_objects}
use Rattle.cc_layout.specs.Layout.{Layout}
use Rattle.cc_resolve.proofs.Numbers.{laid_objects-push, when_ok}
use Rattle.cc_resolve.proofs.layout.Layout.add_object.Goals as goal

pub returns : goal.returns
returns c =
    let p = c.self.inside in
    let e = c.args.extent in
    let x = c.args.name.now in
    let named = when_ok c.push-2.result c.push-2.ensures.ok (sym c.is_err.ensures.value ∙ c.if-is_err.false) in
    ap (λ os. record { objects = os; functions = p.functions })
    (ap (λ xs. laid_objects xs c.push.new.self.items) named ∙ ap (laid_objects (p.objects ++ x ∷ [])) c.in_ok-push.ensures.items ∙ laid_objects-push p.objects p.extents.items x e c.self.invariant)
    ∙ ap (λ (v : Layout). record v { objects = v.objects ++ record { name = x; extent = e } ∷ [] }) c.self.view_is
