-- Earlier texts have the trees, the rules, the limits and the meaning that they had.
mod Texts
-- A part of a run over objects of words does what it did before there were arrays of `unsigned char`.
mod Runs
-- An earlier text still has its unit, its program does what it did, and an image that agreed with it still
-- agrees.
mod Images
