-- What is sent for a line.
pub mod Sent
-- What is done with a submission.
pub mod Finished
-- What is sent for a line with bytes after it.
pub mod Script
