-- How Cminor is shown to keep up with C. A function's locals are numbered by depth (how many are older), and values that wait are
-- in variables above the locals. The state of C and the variables of Cminor fit together if each local's word is in its variable
-- and the objects are the same by number (Fits of Variables). Each part of C becomes a path of Cminor's moves that ends with the
-- part's value (Paths, PutExpressions, LoweredStatements). A path makes at least one move for each of the source's steps, so the
-- rate is 1, and a loop that does nothing is still a loop that moves. A call must ask the same question, with its arguments in
-- order and in an equal world, and after every answer the two must fit together again, with the result in its variable (CallFacts
-- of Bodies, by the laws of the meaning).
--
-- The code writes exactly what the definition of the lowering says, in one walk (specs/internal/Lowering; Taking, Trees,
-- Closing). Pairs applies the laws of the meaning to its unit.
--
-- Twelve statements and expressions for each token: an expression's code has at most 12 for each token, less 3, and a statement's
-- code 12 for each token, less 1, so what joins them is covered (Counts); a tree needs at most as many tokens as those that spell
-- it (Tokens).
--
-- Numbers below their limits: a unit's text has at most 512 tokens in a full expression (Longest); by the limits a function has
-- at most 8 parameters and 256 locals, and a unit 64 functions and 65,536 words of objects (Limits). A value that waits is in a
-- variable above the locals in scope; fewer variables above them are used than the full expression has tokens (Fits).
-- a break is a cut at which the run goes wrong
pub mod Breaks
-- paths of a run, and what the code must do for a part of the source
pub mod Paths
-- what is known about the names of a body
pub mod Known
-- variables and objects by number; plain expressions
pub mod Variables
-- what a branch tests decides in the same way as its expression
pub mod Branches
-- code that puts the value of an expression into a variable
pub mod PutExpressions
-- assignments, increments and declarations
pub mod PerformedActions
-- the code of statements does what they do
pub mod LoweredStatements
-- the code of a function keeps up with its body
pub mod Bodies
-- each call has its function's number of arguments
pub mod LoweredCalls
-- the least number of tokens that spell a tree
pub mod Tokens
-- at most 12 statements and expressions for each token
pub mod Counts
-- a full expression has at most 512 tokens
pub mod Longest
-- a typed unit has few parameters, locals, functions and objects
pub mod Limits
-- the numbers in lowered code
pub mod Fits
-- numbers below a limit are below a larger one
pub mod Below
-- each exit leaves blocks that exist
pub mod Exits
-- at most one operation that can lack a value for each token
pub mod Operations
-- what a pair guarantees
pub mod Pairs
-- the end of a scope
pub mod Closing
-- the value of an expression from its parts
pub mod Taking
-- the last value of a list that grew
pub mod Lasts
-- the trees of calls and blocks
pub mod Trees
-- declarations and statements, one by one
pub mod Listing
