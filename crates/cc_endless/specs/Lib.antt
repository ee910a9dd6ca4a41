-- when a run has not read past its input
pub mod Within
-- inputs that never end
pub mod Endless
-- when an image agrees with a text on such inputs
pub mod Agree
-- what holds for runs that have not read past their input, and on inputs that never end
pub mod Laws
-- a program that goes wrong on every list, and not on endless inputs
pub mod Divisions
