-- The names that are judged are the map's keys.
use Rattle.std.proofs.Common.{◌∙◌}
use Rattle.cc_copy.proofs.Chosen.{key_there}
use Rattle.cc_copy.proofs.judging.confirm.Goals as goal

pub judge-requires : goal.judge-requires
judge-requires g c = λ k d within. key_there c.args.units.now c.as_slice.result.now k d (c.as_slice.ensures.value ∙ c.in_ok-names.ensures) within
