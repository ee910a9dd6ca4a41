-- Each spool so far has a client, which has made no call, and a client is left for each of the others.
use Rattle.std.proofs.Common.{◌≡◌, ◌+◌, [], length, map, vec_len}
use Rattle.std.specs.Prelude.{All}
use Rattle.std.specs.Vec.{vec_capacity}
use Rattle.cc_session.proofs.serving.pair.Given as goal

abbrev pub invariant-loop-spool : goal.invariant-loop-spool
invariant-loop-spool g l = record {
  all : map (λ p. p.spool) l.posts.items ≡ l.yielded;
  fresh : All (λ p. p.client.member.receipts ≡ []) l.posts.items;
  rest : All (λ c. c.member.receipts ≡ []) l.clients.items;
  left : vec_len l.clients + length l.yielded ≡ length l.fn.spools.items;
  many : vec_len l.posts ≡ length l.yielded;
  room : vec_capacity l.posts ≡ vec_capacity l.initial.posts;
  kept : vec_capacity l.clients ≡ vec_capacity l.initial.clients;
}
