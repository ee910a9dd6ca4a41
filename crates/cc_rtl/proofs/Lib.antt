-- How RTL is shown to keep up with Cminor. A statement is between two labels, with a list of labels for its exits
-- (specs/internal/Translates). Variable x is register x, and temporaries are above all variables. A move of Cminor is matched by
-- the nodes that compute its operands and by its own. A move that only arranges what comes next (a sequence, a block, a skip, an
-- exit) is matched by none, and a measure decreases: what is left of the statement and its continuation gets smaller. A loop
-- passes a nop of its own on every turn, which is its entry and the target of its back edge. So RTL never waits while Cminor runs
-- for ever, and never runs for ever instead of ending. An exit without a block around it goes wrong in Cminor, so nothing is
-- required, and any label will do. A call must ask the same question, and after every answer the two runs must be related again.
-- The rate grows by the factor `coarser 1 (suc (size body))`; a pair only says that there is some rate.
--
-- How the code is shown to make such a graph. Nodes are made from the end to the beginning, so that the label to continue at is
-- known (specs/internal/Generate has this as a function on lists; the contract of each function of src/generate says that it
-- makes what that function gives). Then they get labels that ascend. Three walks over that function show that the graph is well
-- formed: where nodes lead (Inside), that no place is left open, and that calls have their arguments (Called); Labels leads back
-- from labels to places. 22 is decided by a count before any node is made (Sizes).
--
-- What the generator and RTL need from the list of instructions. `insert_before` (clause `added`), and `push_back` for the first
-- node: a new place comes before the others, and its number is how many were made before it, so labels count down along the
-- places (AreCountedDown, preserved by Graph). `replace` (`list`): a loop's head gets its node, a pure node becomes a nop, and
-- every other entry stays. `first`, and `unlink` (`item`, `list`): the first place is removed again and again, so each is visited
-- once. `push_back` (`added`), whose label is `given`: the function's labels are the numbers from 0 on (AreNumbered, preserved by
-- Rtl), so a label is a position. The code shows that the nodes are in a list rather than in a vector.
--
-- a simulation from what each move requires
pub mod Owing
-- the nodes of an expression compute its value
pub mod Expressions
-- the nodes of a statement do what it does
pub mod Statements
-- a run from a function's entry
pub mod Whole
-- a translation stays right when nodes are added
pub mod Growing
-- what the generator makes is the code of the body
pub mod Generated
-- where nodes lead, and that each place has a node
pub mod Inside
-- a translation stays right with other labels
pub mod Turning
-- places in reverse order
pub mod Labels
-- the whole function
pub mod Function
-- what the type of a function requires of the graph
pub mod Kept
-- each call has its arguments
pub mod Called
-- counts, compared with statements and expressions
pub mod Sizes
-- how many parameters a function has
pub mod Parameters
-- steps of the generator's code
pub mod Making
-- what is generated is a pair of RTL
pub mod Pairs
