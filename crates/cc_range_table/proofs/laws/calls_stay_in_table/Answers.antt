use Rattle.cc_range_table.proofs.Staying.{calls_stay_in_table}
use Rattle.cc_range_table.proofs.laws.calls_stay_in_table.Goals as goal

pub returns : goal.returns
returns c = calls_stay_in_table (record {
  words = c.ranges_are_sound.ensures.words;
  within = c.ranges_are_sound.ensures.within;
  joined = c.ranges_are_sound.ensures.joined;
  met = c.ranges_are_sound.ensures.met;
  unary = c.operators_are_sound.ensures.unary;
  binary = c.operators_are_sound.ensures.binary;
  kept = c.operators_are_sound.ensures.kept;
  covered = c.covered_operators_have_values.ensures.values;
  indexes = c.covered_operators_have_values.ensures.indexes;
  learned = c.comparisons_are_learned.ensures;
})
