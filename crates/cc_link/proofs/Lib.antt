-- How an image is proved to agree with its text: a callee's instructions are counted by induction on the number of calls still
-- allowed (CallsMeet); each call pays with its own jump for the first step of the function that it calls.
-- counted steps make one run follow another
pub mod Counting
-- runs of the machine
pub mod Machine
-- the objects in memory, and what is loaded from the image for them
pub mod Laying
-- calls of pieces do what the source's calls do
pub mod CallsMeet
-- pieces at their places, as words, and the call of main
pub mod Placing
-- the image follows the source
pub mod Image
-- what agrees also agrees in words
pub mod InWords
-- the stack that an image takes is enough
pub mod Enough
-- the objects of a unit, and their elements
pub mod Sizes
-- the image agrees with the unit's text
pub mod Agreeing
-- what the answer of linking says about pieces
pub mod Linked
-- the code: items that are filled in
pub mod Filling
-- elements keep the range of their width
pub mod Constants
-- the code: how the answer of linking follows from what was found about pieces
pub mod Deciding
-- the names of functions
pub mod Names
-- if there is one piece of each function, linking can only refuse the size
pub mod Own
-- the code: finding the pieces one after the other
pub mod OneByOne
-- the code: testing one more piece
pub mod Ordering
-- the code: what linking answers
pub mod Answering
-- a unit defines few functions
pub mod Few
-- the length of a function's LTL fits in four bytes
pub mod Short
-- the certificate of a unit that was made
pub mod Certified
-- a unit that was made again is confirmed
pub mod Confirming
-- four bytes in a word
pub mod Packing
