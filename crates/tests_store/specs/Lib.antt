-- the builds of the tests of the protocol core
pub mod Builds
