-- What the type of a pair guarantees holds for the pair that was passed, and so for the pair with the guarded code.
use Rattle.std.proofs.Common.{refl}
use Rattle.std.specs.Arc.{arc_value}
use Rattle.cc_c_semantics.specs.declared.mode.Mode.TheVariants.{Checked}
use Rattle.cc_cminor_language.specs.Pair.{IsPair}
use Rattle.cc_guard.proofs.Lowered.{guarded_is_pair}
use Rattle.cc_guard.proofs.pass.guard.Goals as goal

pub new-requires : goal.new-requires
new-requires c =
    let p = c.args.pair in
    let k = c.code-kept.ensures in
    let is : IsPair p = record { typed = k.typed; function = c.function-function.ensures.of_unit; calls = k.calls; numbers = k.numbers; keeps_up = k.keeps_up } in
    guarded_is_pair c.calls_keep_objects.ensures.calls p (record { mode = Checked; unit = arc_value c.into_unit.result; function = c.function-function.result; statement = c.in-Ok.code.value }) is
    c.requires.exits c.requires.fails_alike c.in-Ok.ensures.few refl c.into_unit.ensures.answer c.function-function.ensures.answer c.in-Ok.ensures.code
