-- the loop of `plain`
pub mod Written
-- tokens one after another
pub mod Folds
-- one more defined name
pub mod Meanings
-- a text is at most one program
pub mod Ones
-- refusals, passed on
pub mod Refusals
-- what is written only grows
pub mod Growth
-- the numbers of enumerators, one after another
pub mod Numbering
-- what the stages of reading answer
pub mod Answered
-- units without switches
pub mod Stays
-- the value of an enumerator
pub mod Values
