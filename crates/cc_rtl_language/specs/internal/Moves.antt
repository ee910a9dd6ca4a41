-- A graph of nodes, in any representation, and its moves.
use Rattle.std.specs.Prelude.{ℕ, Option}
use Rattle.cc_simulation.specs.Run.{Move, tried}
use Rattle.cc_rtl_language.specs.Rtl as rtl

-- a graph, as the node of each label, and its moves
abbrev pub Graph : Type 0
Graph = ℕ → Option rtl.Node

abbrev pub graph_move : Graph → rtl.Configuration → Move rtl.Configuration
graph_move nodes c = tried (nodes c.label) (λ node. rtl.node_move node c.registers c.world)
