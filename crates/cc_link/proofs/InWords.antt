-- What agrees also agrees if only the written words are seen.
use Rattle.std.proofs.Math.Logic.{∥∥₁_map}
use Rattle.cc_simulation.proofs.Words.{follows_in_words}
use Rattle.cc_types.specs.Verdict.{source_with}
use Rattle.cc_link.specs.Agree.{image_behavior, program_behavior, behavior_in, Agreement, AgreementIn, WordsAgreement, WordsAgreementIn}
use Rattle.cc_link.specs.Laws as laws

pub agree_in_words : laws.AgreeInWords
agree_in_words text image h =
    ∥∥₁_map h (λ (a : Agreement text image). record { tree = a.tree; spelled = a.spelled; typed = a.typed; follows = λ input are. follows_in_words (program_behavior (source_with text a.tree) input) (image_behavior image input) (a.follows input are) })

pub agree_in_mode_in_words : laws.AgreeInModeInWords
agree_in_mode_in_words mode text image h =
    ∥∥₁_map h (λ (a : AgreementIn mode text image). record { tree = a.tree; spelled = a.spelled; typed = a.typed; follows = λ input are. follows_in_words (behavior_in mode (source_with text a.tree) input) (image_behavior image input) (a.follows input are) })
