-- The words so far have been written.
use Rattle.std.proofs.Common.{take}
use Rattle.std.specs.Io.KnownBytes.{Appends}
use Rattle.cc_answers.specs.Text.{words_text}
use Rattle.cc_answers.proofs.run.write_words.Given as goal

abbrev pub invariant-loop-word : goal.invariant-loop-word
invariant-loop-word g l = Appends (g.W.Write.contents l.initial.writer) (g.W.Write.contents l.writer) (words_text (take l.word-index l.words))
