-- How nodes may become nops. The run without the dead nodes and the run with them agree on each register that is live: a dead
-- node changes one that is not live, and what it reads need not be live for it (Nops). A load out of bounds goes wrong in the
-- source, so nothing is required if a dead load is removed.
-- RTL is a layer
pub mod Layer
-- nodes by their positions, and the rows of their graph
pub mod Places
-- nodes that became nops
pub mod Nops
-- a function without its dead nodes keeps up as before
pub mod Dropping
