-- when an image agrees with a text of wide C
pub mod Agree
-- why a text of wide C has no image
pub mod Refused
