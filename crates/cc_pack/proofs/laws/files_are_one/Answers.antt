use Rattle.cc_pack.proofs.Files.{same_bodies, same_modes}
use Rattle.cc_pack.proofs.laws.files_are_one.Goals as goal

pub returns : goal.returns
returns c one other body rest same = (same_modes one other body rest same, same_bodies one other body rest same)
