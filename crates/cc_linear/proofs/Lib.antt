-- How a list of items is shown to keep up with blocks. The list may lag: when the blocks have reached the next label, the list
-- may still have to execute the moves after an operation, and at most one jump. A block is passed over only if it is empty and
-- its successor is nearer to the end of its chain, so a cycle of empty blocks keeps one jump. So each move of the list pays for
-- at most one block more than the longest chain has (linear_tracks of Laid). Every order in which no label occurs twice and all
-- reached labels occur is right (laid_out of Ordering).
--
-- a list that lays blocks out does what they do
pub mod Laid
-- blocks in any order are laid out
pub mod Ordering
-- what a pair of Linear keeps
pub mod Pairs
-- one more end keeps the table of ends sound
pub mod Settling
-- one more label in the order
pub mod Arranging
-- one more label is marked as found
pub mod Finding
-- the items of blocks one after the other
pub mod Rows
-- from tables by places to what the layout requires of labels
pub mod ByPlace
-- labels to which nothing leads
pub mod WithoutLabels
-- from a function's blocks to its list
pub mod Whole
