-- The number of an object depends only on the names.
use Rattle.std.proofs.Common.{◌∙◌, ap}
use Rattle.cc_layout.specs.Layout.{Layout, object_number}
use Rattle.cc_resolve.proofs.Numbers.{object_number-is}
use Rattle.cc_resolve.proofs.layout.Layout.object_number.Goals as goal

pub returns : goal.returns
returns c =
    let p = c.self.inside in
    c.find.ensures ∙ object_number-is p.objects p.extents.items c.args.name.now c.self.invariant ∙ ap (λ (v : Layout). object_number v.objects c.args.name.now) c.self.view_is
