use Rattle.std.proofs.Common.{sym, ◌∙◌, rules}
use Rattle.cc_emit.proofs.Ahead.{ending_at}
use Rattle.cc_emit.proofs.early.ending.Goals as goal

pub returns-then-at-code : goal.returns-then-at-code
returns-then-at-code c = c.last_of.ensures ∙ sym (ending_at c.args.code.now c.place_of-at.result c.args.label (search rules) c.place_of-at.ensures.place)
