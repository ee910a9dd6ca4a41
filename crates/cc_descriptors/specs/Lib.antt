-- What the descriptors 0 to 2 are used for, how opening a stand-in changes that, and how taking all free ones does.
pub mod Uses
