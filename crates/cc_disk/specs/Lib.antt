-- the number of the fault
pub mod Fault
-- what every honest disk promises about its calls: what a read gives, and what a crash at any moment may leave
pub mod Images
-- the cells of the disk in memory, what its calls do to them, and what a crash may leave of them
pub mod Model
-- what a crash since an earlier moment may have left of the disk or the file in memory
pub mod Past
-- what the calls of a file answer, its length when it is set, and time that passes
pub mod File
-- what a disk on a file makes of the file's answers
pub mod Over
-- the file in memory: what a crash may leave of it, and what its calls answer
pub mod FileModel
-- which calls of a fuse disk reach its disk, and which fail
pub mod Fuse
-- worked examples of `Model`, by computation
pub mod rows
-- definitions that only proofs use
pub mod internal
