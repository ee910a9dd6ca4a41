-- What holds for commands, stated for the disk that has their records (Past); what is put back (Moments); one more command in the
-- log (Logged).
pub mod Past
pub mod Moments
pub mod Logged
