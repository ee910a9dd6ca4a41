use Rattle.std.proofs.Common.{◌≡◌, ◌++◌, drop}
use Rattle.cc_cminor_language.specs.Code.{in_sequence}
use Rattle.cc_cminor_language.specs.Statements.{statements_of}
use Rattle.cc_guard.specs.declared.guards.Seen.{Seen}
use Rattle.cc_guard.specs.Guard.{known_after}
use Rattle.cc_guard.specs.internal.Written.{SeesStatement, sizes_of}
use Rattle.cc_guard.proofs.Writing.{all_code}
use Rattle.cc_guard.proofs.statements.+statements.Given as goal

-- the code so far, followed by that of the rest, is the code of all; and what is seen of the rest completes what is seen of all
abbrev pub invariant-statements-loop-s : goal.invariant-statements-loop-s
invariant-statements-loop-s l = record {
  code : statements_of l.codes.items ++ all_code (sizes_of l.sizes) l.first l.blocks l.limits.items (statements_of (drop l.s-index l.all)) ≡ all_code (sizes_of l.sizes) l.first l.blocks l.known (statements_of l.all);
  known : known_after (sizes_of l.sizes) l.first l.limits.items (in_sequence (statements_of (drop l.s-index l.all))) ≡ known_after (sizes_of l.sizes) l.first l.known (in_sequence (statements_of l.all));
  seen : (last : Seen) → SeesStatement (sizes_of l.sizes) l.first l.limits.items (in_sequence (statements_of (drop l.s-index l.all))) l.seen last → SeesStatement (sizes_of l.sizes) l.first l.known (in_sequence (statements_of l.all)) l.fn.seen last;
}
