-- How it is proved that the interpreter's results are the meaning of C. Writing: each contract says that the code that a
-- definition gives is written before the instructions that were there already (WritingExpressions to WritingUnits). Running: for
-- each part of the tree, wherever its code lies in the whole code, a run from the part's beginning reaches the part's end with
-- what the meaning says, or stops as the meaning does (Moves; Expressions, Actions, Blocks, Loops, Called). So the form of a
-- typed unit has the unit's behavior (Units). The interpreter represents a configuration of the form before and after each
-- instruction (Laying, Showing). Its loop ends because the steps left, or the rest of the code, decrease (Ending).
-- runs of a resolved form, and what the code has at a place
pub mod Moves
-- operators and their operations
pub mod Plain
-- when a configuration represents a state of the source
pub mod Fits
-- expressions, part by part
pub mod Expressions
-- every expression pushes its value
pub mod Evaluates
-- assignments, other actions and declarations, part by part
pub mod Actions
-- every action and declaration does what the source says
pub mod Performs
-- how a statement ends; scopes
pub mod Blocks
-- the turns of a loop
pub mod Loops
-- every statement does what the source says
pub mod Executes
-- a call does what the source's call does
pub mod Called
-- the form of a typed unit means the unit
pub mod Units
-- each loop leads back to its step
pub mod Looped
-- each move decreases `most_moves`
pub mod Ending
-- the stack and the frames after a push, a pop, a call, a return
pub mod Laying
-- what the interpreter represents after a change of its stack
pub mod Showing
-- how the interpreter makes a move
pub mod Moving
-- what exists if a move is not stuck
pub mod Taking
-- calls and returns
pub mod Calling
-- the next instruction is fetched
pub mod Fetching
-- a run of the interpreter follows the form's run
pub mod Running
-- several instructions that run as one
pub mod Fusing
-- a run only adds to its output
pub mod Adding
-- instructions kept with the last one first
pub mod Emitting
-- writing expressions
pub mod WritingExpressions
-- writing assignments
pub mod WritingActions
-- writing declarations, statements and loops
pub mod WritingStatements
-- writing functions and units
pub mod WritingUnits
