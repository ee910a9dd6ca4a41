-- What `parse` and `check` answer is the plan, since a text has one verdict.
mod Plans
-- A run with compiled pieces is a run with pieces that keep what the build requires.
mod Runs
-- Compiled pieces in the order of definitions link to the same unit as in the order in which they came.
mod Sorting
