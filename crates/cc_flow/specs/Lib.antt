-- Facts ordered by how much they say, with joins.
pub mod Lattice
-- Facts at the nodes of a graph, carried backward.
pub mod Flow
-- Definitions for the solver's private parts.
pub mod internal
