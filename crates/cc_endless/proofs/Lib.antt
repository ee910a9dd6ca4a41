-- A run that has not read past its input is the run on every longer input. For programs this is shown by recursion on the tree and on
-- the bound (Feeding, Walking, Programs), for images instruction by instruction (Machines, Images). The same files show that within a
-- bound a run reads at most so many times. From these two facts it follows that what follows on each list follows on each endless input
-- (Following).
--
-- how many reads an output has
pub mod Marks
-- a part of a program's run with more input
pub mod Feeding
-- each part of a program with more input
pub mod Walking
-- a program's run with more input
pub mod Programs
-- a machine's run with more input
pub mod Machines
-- an image's run with more input, on the whole machine and on a board
pub mod Images
-- what follows on each list follows on each endless input
pub mod Following
-- what agrees on each list agrees on each endless input
pub mod Agreeing
-- a program that goes wrong on every list, and not on endless inputs
pub mod Dividing
