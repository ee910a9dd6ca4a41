-- A function with nops in it is a function.
use Rattle.std.proofs.Common.{◌∙◌, ap, sym, subst}
use Rattle.std.specs.Prelude.{IsSome, All}
use Rattle.cc_rtl_language.specs.Rtl.{Rtl, IsRtl, node_at}
use Rattle.cc_rtl_language.specs.Code.{labelled_of}
use Rattle.cc_rtl_language.specs.Live.{without}
use Rattle.cc_rtl_language.specs.Positions.{AreNumbered}
use Rattle.cc_rtl_language.proofs.Nops.{these, is_rtl, numbered_turned}
use Rattle.cc_rtl_language.proofs.rtl.Rtl.make_nops.Goals as goal

pub make_all_nops-requires-clause-there : goal.make_all_nops-requires-clause-there
make_all_nops-requires-clause-there c = subst (λ (r : Rtl). All (λ l. IsSome (node_at r.nodes l)) c.args.labels.now) (sym c.self.view_is) c.requires

pub invariant_of-self : goal.invariant_of-self
invariant_of-self c =
    let old : Rtl = record { parameters = c.self.inside.parameters; entry = c.self.inside.entry; nodes = labelled_of c.self.inside.nodes.entries } in
    subst (λ (ns : _). IsRtl (record { parameters = c.self.inside.parameters; entry = c.self.inside.entry; nodes = ns }) × AreNumbered 0 ns) (sym c.make_all_nops.ensures)
    (is_rtl (these c.args.labels.now) old c.self.invariant.0, numbered_turned (these c.args.labels.now) 0 old.nodes c.self.invariant.1)

pub returns : goal.returns
returns c =
    ap {B = Rtl} (λ ns. record { parameters = c.self.inside.parameters; entry = c.self.inside.entry; nodes = ns }) c.make_all_nops.ensures ∙ ap (without c.args.labels.now) c.self.view_is
