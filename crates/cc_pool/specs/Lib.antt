-- jobs, as contracts see them
pub mod Job
-- what contracts say about passes
pub mod Shared
-- why a job has no pieces
pub mod Fault
-- a worker's refusal, as contracts see it
pub mod Answers
-- the name of a queue
pub mod Queue
-- the rule of the queue
pub mod Rule
-- for private contracts
pub mod internal
