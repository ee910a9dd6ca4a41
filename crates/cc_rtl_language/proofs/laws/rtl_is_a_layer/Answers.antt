-- The law is that of the lemma, for the graph of the nodes.
use Rattle.cc_rtl_language.specs.Rtl.{node_at}
use Rattle.cc_rtl_language.proofs.Layer.{rtl_layer}
use Rattle.cc_rtl_language.proofs.laws.rtl_is_a_layer.Goals as goal

pub returns : goal.returns
returns c rtl = rtl_layer (node_at rtl.nodes)
