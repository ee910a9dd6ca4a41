-- an image of a translation
pub mod Agreeing
