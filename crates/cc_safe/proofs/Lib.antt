-- Functions that call only functions of lower ranks.
pub mod Falling
-- What holds for the numbers below a bound, one number after another.
pub mod Numbers
-- What follows from the laws about guards and about depth together.
pub mod Safe
-- The trees of expressions with two or three parts.
pub mod Trees
