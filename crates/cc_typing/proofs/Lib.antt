-- How it is proved that the check finds the first error. For each function there is one equation: what has been found after the
-- function is what was found before it, with the rules that its part of the tree breaks. The first error, by place and number,
-- is kept (Parts, Walks, First). The functions that a unit defines are collected before the walk, so that each call can be
-- judged when it is met.
-- the table of functions after a change
pub mod States
-- what is found in one part and then in the next
pub mod Parts
-- the walk over statements
pub mod Walks
-- the walk over file scope
pub mod FileScopes
-- the offset at which a limit is exceeded
pub mod Excesses
-- the recorded error is the first of all
pub mod First
-- what is found in a whole unit decides whether it is typed
pub mod Verdict
-- a unit has exactly one answer
pub mod Determined
