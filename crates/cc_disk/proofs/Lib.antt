-- calls of the disk in memory, in terms of what a read gives and what a crash may leave
pub mod Images
-- the bytes of a file, and the file in memory
mod Files
-- bytes and marks as cells, after copying and filling ranges
mod Zipped
-- one more state in the history of a disk
mod Moments
-- the machine values of a history
mod Walk
-- disks may move to another thread
pub mod Crossing
