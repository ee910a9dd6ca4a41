-- A part of a run is shallow if it does not go wrong because of depth. For expressions and statements this is shown by recursion
-- on the tree, given that each call they make is shallow. For calls this is shown by recursion on the steps; it holds because
-- the rank of the called function and the number of open calls together stay below 1,024.
--
-- runs that do not go wrong because of depth
pub mod Shallow
