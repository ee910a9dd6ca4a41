-- The ledger and the queue with which a service begins, before a type names them.
use Rattle.std.specs.Prelude.{ℕ}
use Rattle.cc_pool.specs.Queue.{QueueName}

-- the names of a ledger and of a queue
pub record Names : Type 0 where
  pub ledger : ℕ
  pub queue : QueueName
