-- which words a range has, and what is known of an operator's value from the ranges of its operands
pub mod Range
-- what holds for these ranges
pub mod Laws
-- worked examples
pub mod rows
