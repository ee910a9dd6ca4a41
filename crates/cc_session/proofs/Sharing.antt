-- Threads may share a meter.
use denote.Param.Send.{IsSync, sendable}
use Rattle.std.proofs.Crossing.{crosses}
use Rattle.cc_session.specs.contracts.bounds.Meter as Meter

pub meter_sync : IsSync Meter.the_row
meter_sync = search (sendable, crosses) depth 40 fits 40000
