pub mod Parting
pub mod Showing
-- What a task writes.
pub mod Working
-- What is written for a text whose run goes on while its input comes.
pub mod Living
