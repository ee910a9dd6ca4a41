-- How the laws for the passes are proved. With a larger bound and more steps, a part of a run does the same (Lasting, Steps,
-- Exact: one predicate over each part of a run). So a call in the tree does what the call with its own steps does (Effects); and
-- since a call sees none of its caller's locals, the call has only the function's effect. A walk over the tree shows that the
-- objects keep their names and sizes (Kept). Another walk shows that names are resolved, from the rules that a typed unit keeps
-- and from its file scope at the end (Resolving, which uses Scopes, Arrays, Scoped and Bodies). The meaning by number is the
-- meaning by name with the unit's names restored by position (ByNumber).
--
-- a part of a run with more steps and a larger bound
pub mod Lasting
-- the facts of Lasting hold for each part of a program
pub mod Steps
-- a call that answers needs no more steps than it spends, and gives the same answer with any number more
pub mod Exact
-- a checked program compared with its source
pub mod Checked
-- what follows if a list of errors is empty
pub mod Errors
-- a call by a function's name is a call of that function
pub mod Named
-- locals as numbered variables, globals as one list of words
pub mod Held
-- what a name at file scope denotes does not change
pub mod Scopes
-- the name of an array is the name of an object
pub mod Arrays
-- what names in scope refer to
pub mod Scoped
-- the functions of a typed unit, and the scope of each body
pub mod Bodies
-- functions and objects are numbered as their names are
pub mod Numbers
-- a call in the tree is the effect of its function
pub mod Effects
-- objects keep their names and sizes
pub mod Kept
-- a program's run is the call of main
pub mod Mains
-- every name in a body refers to what the body needs
pub mod Resolving
-- the meaning by number is a meaning in the passes' sense
pub mod ByNumber
