-- ranges in lists, and the elements of objects
mod Lists
-- the ranges of expressions, and what conditions show
mod Expressions
-- what is known after one move
mod Moves
-- what follows for a unit
mod Staying
