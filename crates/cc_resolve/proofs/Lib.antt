-- the number of a name's first place, and of its newest local
pub mod Numbers
-- objects, parameters and declarations, one after another
pub mod Behind
-- the functions of a unit, up to the one with a given number
pub mod Entering
