-- The extent is that of the first object with this name.
use Rattle.std.proofs.Common.{◌≡◌, ◌<◌, ◌∙◌, length, vec_len, Some, None, ap, arith}
use Rattle.std.proofs.lemmas.List.{get_or_default}
use Rattle.cc_layout.specs.Layout.{Layout, extent_of}
use Rattle.cc_resolve.proofs.Numbers.{extent_of-is, extent-inside}
use Rattle.cc_resolve.proofs.layout.Layout.extent.Goals as goal

pub index-requires : goal.index-requires
index-requires c =
    let p = c.self.inside in
    let counted : vec_len p.extents ≡ length p.extents.items = p.extents.ok.0 in
    let below : c.in-Some.number < length p.extents.items = extent-inside p.objects p.extents.items c.args.name.now c.in-Some.number c.self.invariant c.in-Some.ensures in
    omega (arith, counted, below)

pub returns-in-Some : goal.returns-in-Some
returns-in-Some c =
    let p = c.self.inside in
    let below = extent-inside p.objects p.extents.items c.args.name.now c.in-Some.number c.self.invariant c.in-Some.ensures in
    c.index.ensures ∙ get_or_default p.extents.items c.in-Some.number _ _ below ∙ extent_of-is p.objects p.extents.items c.args.name.now (Some c.in-Some.number) c.self.invariant c.in-Some.ensures
    ∙ ap (λ (v : Layout). extent_of v.objects c.args.name.now) c.self.view_is

pub returns-in-None : goal.returns-in-None
returns-in-None c =
    let p = c.self.inside in
    extent_of-is p.objects p.extents.items c.args.name.now None c.self.invariant c.in-None.ensures
    ∙ ap (λ (v : Layout). extent_of v.objects c.args.name.now) c.self.view_is
