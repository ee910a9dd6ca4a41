use Rattle.std.proofs.Common.{◌≡◌, ◌++◌, drop}
use Rattle.std.specs.List.{flat_map}
use Rattle.cc_link.specs.Certificate.{certificate_of, ltl_field}
use Rattle.cc_link.specs.Linked.{all_ltl, lent_pieces}
use Rattle.cc_link.proofs.certificate.certificate.Given as goal

-- the bytes so far, followed by the fields of the pieces that are left, are the certificate
abbrev pub invariant-loop-piece : goal.invariant-loop-piece
invariant-loop-piece l = record {
  left : l.bytes.items ++ flat_map ltl_field (all_ltl (lent_pieces (drop l.piece-index l.pieces))) ≡ certificate_of (all_ltl (lent_pieces l.pieces));
}
