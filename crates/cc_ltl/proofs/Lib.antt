-- Testing a list from its start: if all tests so far held, the rest has the property exactly if the whole list has it.
pub mod Checking
-- Reading a number of values one after the other, as a loop does.
pub mod Times
-- What is read is what was written, and what was written is read again: for each kind of field.
pub mod Fields
-- What is read is what was written, and what was written is read again: for moves, operations, blocks and whole
-- functions.
pub mod Spelled
-- The moves of LTL are moves of a layer.
pub mod Layer
