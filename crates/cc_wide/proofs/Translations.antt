-- A translation does what the unit does.
use Rattle.std.proofs.Common.{ℕ, ◌∙◌, ap, subst}
use Rattle.cc_simulation.specs.Behavior as runs
use Rattle.cc_simulation.specs.Behavior.{Follows}
use Rattle.cc_c_semantics.specs.Outcome.{Outcome, in_words}
use Rattle.cc_c_semantics.specs.Checked.{shown}
use Rattle.cc_c_semantics.specs.Numbered.{without_cause}
use Rattle.cc_wide.specs.Lowering.{lowered_unit}
use Rattle.cc_wide.specs.Laws.{TranslationsDoTheSame, TranslationsWriteTheSame, FollowersFollow}
use Rattle.cc_wide.proofs.Programs.{switches_are_lowered}
use Rattle.cc_wide.proofs.Places.{places_mean_nothing}

pub translations_do_the_same : TranslationsDoTheSame
translations_do_the_same text unit tree h input n =
    places_mean_nothing text text tree (lowered_unit unit) h.alike input n ∙ switches_are_lowered text unit h.lowers input n

pub translations_write_the_same : TranslationsWriteTheSame
translations_write_the_same text unit tree h input n = ap (λ (o : Outcome ℕ). in_words o) (translations_do_the_same text unit tree h input n)

pub followers_follow : FollowersFollow
followers_follow mode text unit tree h input z f =
    subst (λ (a : ℕ → runs.Outcome ℕ). Follows a z) (λ i n. without_cause (shown mode (translations_do_the_same text unit tree h input n i))) f
