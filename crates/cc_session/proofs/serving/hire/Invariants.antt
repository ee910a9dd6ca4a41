-- The clients so far have made no call.
use Rattle.std.proofs.Common.{◌≡◌, [], vec_len}
use Rattle.std.specs.Prelude.{All}
use Rattle.std.specs.Vec.{vec_capacity}
use Rattle.cc_session.proofs.serving.hire.Given as goal

abbrev pub invariant-loop : goal.invariant-loop
invariant-loop g l = record {
  fresh : All (λ c. c.member.receipts ≡ []) l.clients.items;
  many : vec_len l.clients ≡ l.counter;
  room : vec_capacity l.clients ≡ vec_capacity l.initial.clients;
}
