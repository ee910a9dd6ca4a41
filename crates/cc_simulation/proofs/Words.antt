-- What follows a behavior also follows it if only the words are seen.
use Rattle.std.proofs.Common.{sym, ap, ◌∙◌}
use Rattle.cc_words.specs.Observed.{written_words}
use Rattle.cc_words.proofs.Observed.{words_append}
use Rattle.cc_simulation.specs.Behavior.{Outcome, in_words, Follows}

-- what follows a behavior also follows it in words
pub follows_in_words : {B C R : Type 0} (a : B → Outcome R) (z : C → Outcome R) → Follows a z → Follows (λ n. in_words (a n)) (λ m. in_words (z m))
follows_in_words a z f = record {
  reaches = λ n ok. let m = f.reaches n ok in (m.0, (m.1.0, ap written_words m.1.1, m.1.2));
  never_wrong = λ ok m. f.never_wrong ok m;
  no_more = λ ok m.
      let n = f.no_more ok m in
      (n.0, (written_words n.1.0, sym (words_append (z m).output n.1.0) ∙ ap written_words n.1.1), n.2);
}
