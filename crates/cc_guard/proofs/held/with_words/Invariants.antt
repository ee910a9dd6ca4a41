use Rattle.std.proofs.Common.{◌≡◌, ◌++◌, drop}
use Rattle.cc_cminor_language.specs.Statements.{statements_of}
use Rattle.cc_guard.proofs.HeldWriting.{puts_code}
use Rattle.cc_guard.proofs.held.with_words.Given as goal

-- the statements so far, followed by those for the rest of the words, are the statements for all words
abbrev pub invariant-loop-word : goal.invariant-loop-word
invariant-loop-word l = statements_of l.all.items ++ puts_code (drop l.word-index l.words) l.variable ≡ puts_code l.words l.first
