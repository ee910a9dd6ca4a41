-- Nothing is required of pieces or units here: `IsSound`, which says what holds after any events, is used with a property that
-- every unit has.
use Rattle.cc_core.specs.Run.{IsAnyPiece}
use Rattle.cc_core.proofs.Sound.{sound_survives, recovery_is_possible, of_crash, commits_leave, rewrite_is_possible, rewrites_leave}
use Rattle.cc_core.proofs.Anyhow.{is_any_unit, any_lawful, sound_anyhow}
use Rattle.cc_core.proofs.laws.survival_law.Goals as goal

pub returns-clause-survives : goal.returns-clause-survives
returns-clause-survives g c = λ first new events started run.
    let rules = g.B.Build.rules in
    let any = IsAnyPiece {P = g.row.B-Piece.Denot} in
    let sound = sound_anyhow rules first events new started run in
    sound_survives rules any is_any_unit (any_lawful rules) new.core sound.core

pub returns-clause-replay : goal.returns-clause-replay
returns-clause-replay g c = λ first new events started run.
    let rules = g.B.Build.rules in
    let any = IsAnyPiece {P = g.row.B-Piece.Denot} in
    let sound = sound_anyhow rules first events new started run in
    sound.core.replay

pub returns-clause-recovers : goal.returns-clause-recovers
returns-clause-recovers g c = λ first new events started run crashed.
    let rules = g.B.Build.rules in
    let any = IsAnyPiece {P = g.row.B-Piece.Denot} in
    let sound = sound_anyhow rules first events new started run in
    recovery_is_possible rules any is_any_unit (any_lawful rules) new sound crashed

pub returns-clause-quiet : goal.returns-clause-quiet
returns-clause-quiet g c = λ first new after events event reply started run crashed step.
    let rules = g.B.Build.rules in
    let any = IsAnyPiece {P = g.row.B-Piece.Denot} in
    let sound = sound_anyhow rules first events new started run in
    of_crash rules any is_any_unit (any_lawful rules) new event reply after sound crashed step

pub returns-clause-leaves_record : goal.returns-clause-leaves_record
returns-clause-leaves_record g c = λ first new events client numbered after started run commits.
    let rules = g.B.Build.rules in
    let any = IsAnyPiece {P = g.row.B-Piece.Denot} in
    let sound = sound_anyhow rules first events new started run in
    commits_leave rules any is_any_unit (any_lawful rules) client numbered new.core after sound.core commits

pub returns-clause-rewrites : goal.returns-clause-rewrites
returns-clause-rewrites g c = λ first new events started run idle.
    let rules = g.B.Build.rules in
    let any = IsAnyPiece {P = g.row.B-Piece.Denot} in
    let sound = sound_anyhow rules first events new started run in
    rewrite_is_possible rules any is_any_unit (any_lawful rules) new sound idle

pub returns-clause-leaves_compacted : goal.returns-clause-leaves_compacted
returns-clause-leaves_compacted g c = λ first new events after started run rewrites.
    let rules = g.B.Build.rules in
    let any = IsAnyPiece {P = g.row.B-Piece.Denot} in
    let sound = sound_anyhow rules first events new started run in
    rewrites_leave rules any is_any_unit (any_lawful rules) new.core after sound.core rewrites
