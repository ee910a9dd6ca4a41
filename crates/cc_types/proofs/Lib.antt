-- the item of a list at an index
pub mod Items
-- what follows when a call succeeds
pub mod Success
-- the trees of calls and blocks, whose parts the code keeps in rows
pub mod Trees
-- parameters leave the scope around them as it is
pub mod FileScopes
-- the count is the number of names
pub mod Counting
-- the functions that declarations define, one by one
pub mod Definitions
