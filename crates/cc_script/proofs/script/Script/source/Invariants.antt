-- Each turn reads one byte, and keeps it while there is room for it.
use Rattle.std.proofs.Common.{◌≡◌, ◌+◌, true, ℕ, List, length, take, min, vec_len}
use Rattle.std.specs.Io.KnownBytes.{Consumes}
use Rattle.cc_script.specs.Reading.{ahead_of}
use Rattle.cc_script.proofs.script.Script.source.Given as goal

abbrev pub invariant-loop : goal.invariant-loop
invariant-loop g l = record {
  left : l.self.left + l.counter ≡ l.initial.self.left;
  many : l.is_kept ≡ true → vec_len l.source ≡ min l.counter 65537;
  bytes : (bytes : List ℕ) × Consumes ((ahead_of l.initial.self (g.R.Read.remaining l.initial.reader)).rest)
      ((ahead_of l.self (g.R.Read.remaining l.reader)).rest) bytes
      × (length bytes ≡ l.counter) × (l.is_kept ≡ true → l.source.items ≡ take 65537 bytes);
}
