-- a word and its signed value; what comparisons mean; comparisons and the complement expressed by other
-- operations
pub mod Laws
-- sums, differences and products of words are also the sums, differences and products of their signed values
pub mod Sums
-- quotient and remainder as in C99 6.5.5, and the signed value of a right shift
pub mod Quotients
-- the words of an output, and those of a longer one
pub mod Observed
