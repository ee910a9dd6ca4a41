-- the clauses of the grammar, the rules, the limits and the objects as they were then, and that the present ones do the same
pub mod Texts
-- the clauses of a run as they were then
pub mod Meaning
-- an earlier text has the unit that it had, does what it did, and agrees with the images with which it agreed
pub mod Images
