-- The unit was made in this mode, so it was made in some mode.
use Rattle.cc_link.proofs.linking.link_in.Goals as goal

pub new-requires-clause-made : goal.new-requires-clause-made
new-requires-clause-made c = (c.args.mode, c.in-Ok.ensures.made)
