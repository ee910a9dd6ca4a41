-- The clients and the spools taken apart so far are those of the first posts.
use Rattle.std.proofs.Common.{◌≡◌, ◌≤◌, length, map, vec_len}
use Rattle.std.specs.Vec.{vec_capacity}
use Rattle.cc_session.proofs.serving.dismiss.Given as goal

abbrev pub invariant-loop-post : goal.invariant-loop-post
invariant-loop-post g l = record {
  clients : l.clients.items ≡ map (λ p. p.client) l.yielded;
  spools : l.spools.items ≡ map (λ p. p.spool) l.yielded;
  many : vec_len l.clients ≡ length l.yielded;
  room : length l.fn.posts.items ≤ vec_capacity l.clients;
  many_spools : vec_len l.spools ≡ length l.yielded;
  room_spools : length l.fn.posts.items ≤ vec_capacity l.spools;
}
