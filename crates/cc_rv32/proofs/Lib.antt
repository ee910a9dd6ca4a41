-- How the simulator is shown to be the machine. The code is decoded once into flat operations. Each operation does what its
-- instruction does (Flats, Simulates), a sequence of operations does what a run does (Running), and a service call ends such a
-- sequence (Serving, Advancing).
-- encoding and decoding undo each other
pub mod RoundTrip
-- what is true of every flat operation
pub mod Flats
-- globals and stack, read and written at a word
pub mod Memories
-- high words of products with negative factors
pub mod Products
-- the registers that a list represents, and a write to one
pub mod Registers
-- a flat operation does what its instruction does
pub mod Simulates
-- a run of flat operations is a run of the machine
pub mod Running
-- the services
pub mod Serving
-- one instruction that does not read, after a run of flat operations
pub mod Unread
-- the lists at the start represent the start
pub mod Starting
-- joining runs
pub mod Chains
-- flat operations, then a service or a trap
pub mod Advancing
-- a list of words followed by zeros
pub mod Padding
-- a run takes no word back
pub mod Growing
-- the run with more input
pub mod Feeding
-- runs that read no further than their input
pub mod Within
-- a machine some instructions after an image's start
pub mod After
-- a machine on a run whose input is fed
pub mod On
-- a machine that has stopped in place
pub mod InPlace
-- one instruction after a run of flat operations
pub mod Turning
-- the hexadecimal digits of a word
pub mod Digits
