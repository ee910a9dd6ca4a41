-- the positions of objects, and the numbers of functions
pub mod Layout
-- which local a name refers to, and the environment of a statement
pub mod Environment
