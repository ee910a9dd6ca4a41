use Rattle.std.proofs.Common.{◌≡◌, ◌-◌, ◌*◌, length, take, drop}
use Rattle.cc_library.specs.internal.Reading.{words_in}
use Rattle.cc_library.proofs.Words.{with_prefix}
use Rattle.cc_library.proofs.reading.fill_from.Given as goal

-- the words so far, followed by those that are left, are all the words
abbrev pub invariant-loop-i : goal.invariant-loop-i
invariant-loop-i l = with_prefix (take l.i l.words) (words_in (length l.initial.words - l.i) (drop (4 * l.i) l.bytes)) ≡ words_in (length l.initial.words) l.bytes
