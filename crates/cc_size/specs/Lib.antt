-- cycles of calls
pub mod Cycles
-- what the functions of a unit and its image need
pub mod Size
-- this much stack is enough
pub mod Sized
pub mod internal
