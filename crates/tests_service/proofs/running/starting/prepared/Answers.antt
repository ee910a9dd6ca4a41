-- The fuse's disk is the one whose map was found.
use Rattle.std.proofs.Common.{refl}
use Rattle.tests_service.proofs.running.starting.prepared.Goals as goal

pub invariant_of-result : goal.invariant_of-result
invariant_of-result c =
    record { base_is = λ units recovers. c.in_ok-disk.ensures refl units (rw c.new-device.ensures.disk at recovers) }
