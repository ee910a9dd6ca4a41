-- when items can be filled in
pub mod Filling
-- pieces that are lent
pub mod Lent
-- the words of objects
pub mod Packing
