-- A program of wide C and the program to which it is lowered do the same, part by part. The lowered program's locals are those of the wide
-- one with the hidden locals between the parameters and the others.
--
-- locals with reserved names, between others
pub mod Locals
-- expressions read no hidden local
pub mod Expressions
-- what a part of a run leaves
pub mod Landing
-- actions and declarations
pub mod Statements
-- the choice of a section
pub mod Choosing
-- groups of sections
pub mod Groups
-- statements
pub mod Executing
-- functions, calls and programs
pub mod Programs
-- places and parentheses
pub mod Places
-- translations
pub mod Translations
-- a worked program
pub mod Rows
