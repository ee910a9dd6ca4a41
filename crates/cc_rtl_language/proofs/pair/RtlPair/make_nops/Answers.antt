-- A pair without its dead nodes is a pair.
use Rattle.std.proofs.Common.{◌∙◌, ap, sym, subst}
use Rattle.std.specs.Arc.{arc_value}
use Rattle.std.specs.Prelude.{IsSome, All}
use Rattle.cc_rtl_language.specs.Rtl.{Rtl, node_at}
use Rattle.cc_rtl_language.specs.Live.{without, MayGo}
use Rattle.cc_rtl_language.specs.Pair.{Pair, IsPair}
use Rattle.cc_rtl_language.proofs.Dropping.{pair_without}
use Rattle.cc_rtl_language.proofs.pair.RtlPair.make_nops.Goals as goal

pub make_nops-requires : goal.make_nops-requires
make_nops-requires c = subst (λ (p : Pair). All (λ l. IsSome (node_at p.rtl.nodes l)) c.args.labels.now) (sym c.self.view_is) c.requires.there

pub invariant_of-self : goal.invariant_of-self
invariant_of-self c =
    let old : Pair = record { mode = c.self.inside.mode; unit = arc_value c.self.inside.unit; function = c.self.inside.function; rtl = c.self.inside.code } in
    subst (λ (r : Rtl). IsPair (record { mode = c.self.inside.mode; unit = arc_value c.self.inside.unit; function = c.self.inside.function; rtl = r })) (sym c.make_nops.ensures)
    (pair_without old c.args.labels.now (subst (λ (p : Pair). MayGo c.args.labels.now p.rtl) (sym c.self.view_is) c.requires.dead) c.self.invariant)

pub returns : goal.returns
returns c =
    ap {B = Pair} (λ r. record { mode = c.self.inside.mode; unit = arc_value c.self.inside.unit; function = c.self.inside.function; rtl = r }) c.make_nops.ensures ∙ ap (λ (p : Pair). record p { rtl = without c.args.labels.now p.rtl }) c.self.view_is
