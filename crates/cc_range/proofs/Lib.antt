-- what operators give is in the ranges that are computed
pub mod Sound
-- covered operators have values, and the operands of a comparison are in the ranges that it shows
pub mod Covered
