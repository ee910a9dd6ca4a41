-- the syntax tree
pub mod WideTree
-- what a program does
pub mod WideMeaning
-- how a program becomes one of C
pub mod Lowering
-- a tree without places
pub mod Places
-- what holds for programs of wide C
pub mod Laws
