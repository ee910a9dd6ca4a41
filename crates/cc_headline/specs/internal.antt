-- the law that the trait requires of a build
pub mod Law
-- the compiler's faults as the core's refusals
pub mod Refusals
