-- That each node leads to nodes, in terms of lists.
pub mod Leading
-- The nodes as moves.
pub mod Moves
