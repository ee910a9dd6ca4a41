use Rattle.cc_range_table.proofs.Staying.{only_depth_is_left}
use Rattle.cc_range_table.proofs.laws.only_depth_is_left_by_table.Goals as goal

pub returns : goal.returns
returns c = only_depth_is_left (record {
  words = c.ranges_are_sound.ensures.words;
  within = c.ranges_are_sound.ensures.within;
  joined = c.ranges_are_sound.ensures.joined;
  met = c.ranges_are_sound.ensures.met;
  unary = c.operators_are_sound.ensures.unary;
  binary = c.operators_are_sound.ensures.binary;
  kept = c.operators_are_sound.ensures.kept;
  covered = c.covered_operators_have_values.ensures.values;
  indexes = c.covered_operators_have_values.ensures.indexes;
  learned = c.comparisons_are_learned.ensures;
}) c.units_have_meanings.ensures.meaning c.programs_call_main.ensures.main c.units_have_meanings.ensures.programs c.calls_go_on.ensures.bodies
