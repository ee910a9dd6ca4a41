use Rattle.std.proofs.Common.{rules}
use Rattle.cc_tokens.proofs.place.place_at.Goals as goal

pub returns : goal.returns
returns c = search rules
