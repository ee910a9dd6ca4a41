-- How the machine is shown to follow the steps. Each step of the source is paid for by an instruction within a fixed rate, so an endless
-- loop cannot be dropped. A function without a frame can reach its first move without executing an instruction, so the jump that calls it
-- pays for the first step.
--
-- what emission requires of frames and items
pub mod Fine
-- reads after writes, and words
pub mod Basics
-- the machine's memory element by element
pub mod Bytes
-- sizes and places, and near branches
pub mod Places
-- what x3 and the scratch registers hold
pub mod Holding
-- where items are in the code
pub mod Standing
-- elements of objects
pub mod Elements
-- the machine within a function's body
pub mod Within
-- entry and return
pub mod Saving
-- operators
pub mod Recipes
-- branches
pub mod Branching
-- the items of each item of Linear
pub mod Cases
-- the items of the other steps
pub mod Steps
-- calls and returns
pub mod Returning
-- the simulation
pub mod Emitted
-- the frame that is chosen
pub mod Choosing
-- what comes before a frame
pub mod Heads
-- the steps before a frame, and what the rest saves
pub mod Headed
-- what comes before a frame, followed by the rest in the frame
pub mod Earlier
-- every item can be encoded as a word
pub mod Encoding
-- a pair's code is a piece
pub mod Pieces
-- the code finds which steps are in loops
pub mod Looping
-- the code finds what is known about addresses
pub mod Addressing
-- the code finds what comes before a frame
pub mod Ahead
-- the code finds which registers are saved
pub mod Kept
-- the code makes the table of labels
pub mod Tabling
-- the code counts places from the end, and they are the right places
pub mod Bridging
-- the code makes the table of the objects' addresses
pub mod Addresses
-- what the code hands out
pub mod Handing
