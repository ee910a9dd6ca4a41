-- There are as many nodes as the list has.
use Rattle.std.proofs.Common.{◌∙◌, ap, sym, length, arith}
use Rattle.cc_rtl_language.specs.Rtl.{Rtl}
use Rattle.cc_rtl_language.proofs.Places.{length_labelled}
use Rattle.cc_rtl_language.proofs.rtl.Rtl.len.Goals as goal

pub returns-clause-count : goal.returns-clause-count
returns-clause-count c = c.len.ensures ∙ sym (length_labelled c.self.inside.nodes.entries) ∙ ap (λ (r : Rtl). length r.nodes) c.self.view_is

pub returns-clause-few : goal.returns-clause-few
returns-clause-few c = let e = c.len.ensures in let l = length_labelled c.self.inside.nodes.entries in let f = c.self.invariant.0.few in omega (arith, e, l, f)
