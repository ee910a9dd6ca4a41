-- An earlier text still has its unit, its program does what it did, and an image that agreed with it still agrees. This follows from
-- what `Texts` shows about its tree, and `Runs` about its run.
use Rattle.std.proofs.Common.{◌≡◌, ℕ, List, sym, ap, ◌∙◌, subst}
use Rattle.std.proofs.Math.Logic.{∥∥₁_map}
use Rattle.cc_rv32.specs.declared.image.Image.{Image}
use Rattle.cc_tokens.specs.Tokens.{TokensAreOne}
use Rattle.cc_ast.specs.Tree.{External}
use Rattle.cc_types.specs.Verdict.{source_with}
use Rattle.cc_c_semantics.specs.Numbered.{without_cause}
use Rattle.cc_simulation.specs.Behavior.{Outcome, Follows}
use Rattle.cc_rv32.specs.Machine.{machine_behavior}
use Rattle.cc_c_semantics.specs.Outcome as outcome
use Rattle.cc_c_semantics.specs.Meaning.{source_behavior}
use Rattle.cc_link.specs.Agree.{shown, image_behavior, program_behavior, Agreement, WordsAgreement}
use Rattle.cc_earlier.specs.Meaning as earlier
use Rattle.cc_earlier.specs.Texts.{HasNoChar, ArePlain, EarlierText, EarlierTreesStay, NoTreeIsNew, EarlierRulesStay, EarlierMeaningStays}
use Rattle.cc_earlier.specs.Images.{earlier_program_behavior, EarlierAgreement, EarlierUnitsStay, EarlierProgramsStay, EarlierImagesAgree, NoAgreementIsNew, EarlierWordsAgreement, EarlierImagesAgreeInWords, NoWordsAgreementIsNew}
use Rattle.cc_earlier.proofs.Runs.{programs_stay}

module _ (tokens : TokensAreOne) (trees : EarlierTreesStay) (none_new : NoTreeIsNew) (rules : EarlierRulesStay) (meaning : EarlierMeaningStays) where
  plain_of : (text : List ℕ) (tree : List External) → EarlierText text tree → ArePlain tree
  plain_of text tree h = (trees text tree h).2

  pub units_stay : EarlierUnitsStay
  units_stay text tree h typed within =
      let same = rules tree (plain_of text tree h) in
      ((trees text tree h).0, record { typed = (same.0 ∙ typed.0, typed.1, typed.2); limits = same.1 ∙ within })

  pub earlier_programs_stay : EarlierProgramsStay
  earlier_programs_stay text tree h = programs_stay meaning (source_with text tree) (plain_of text tree h)

  -- a program shows on an input what it showed before
  same_shown : (text : List ℕ) (tree : List External) → EarlierText text tree → (input : List ℕ)
      → program_behavior (source_with text tree) input ≡ earlier_program_behavior (source_with text tree) input
  same_shown text tree h input = λ i. λ n. ap without_cause (earlier_programs_stay text tree h input n) i

  now_agrees : (text : List ℕ) (image : Image) → EarlierAgreement text image → Agreement text image
  now_agrees text image h = record {
    tree = h.tree;
    spelled = (trees text h.tree h.spelled).0;
    typed = ((rules h.tree (plain_of text h.tree h.spelled)).0 ∙ h.typed.0, h.typed.1, h.typed.2);
    follows = λ input are. subst (λ (a : ℕ → Outcome ℕ). Follows a (image_behavior image input)) (sym (same_shown text h.tree h.spelled input)) (h.follows input are);
  }

  before_agreed : (text : List ℕ) (image : Image) (h : Agreement text image) → HasNoChar h.spelled.tokens → EarlierAgreement text image
  before_agreed text image h none =
      let spelled = none_new text h.tree h.spelled none in record {
        tree = h.tree;
        spelled = spelled;
        typed = (sym (rules h.tree (plain_of text h.tree spelled)).0 ∙ h.typed.0, h.typed.1, h.typed.2);
        follows = λ input are. subst (λ (a : ℕ → Outcome ℕ). Follows a (image_behavior image input)) (same_shown text h.tree spelled input) (h.follows input are);
      }

  pub images_agree : EarlierImagesAgree
  images_agree text image h = ∥∥₁_map h (now_agrees text image)

  pub no_agreement_is_new : NoAgreementIsNew
  no_agreement_is_new text ts image are none h =
      ∥∥₁_map h (λ (a : Agreement text image). before_agreed text image a (subst HasNoChar (tokens text ts a.spelled.tokens are a.spelled.are) none))

  -- ---- in the words alone

  same_words : (text : List ℕ) (tree : List External) → EarlierText text tree → (input : List ℕ)
      → ◌≡◌ {A = ℕ → Outcome ℕ} (λ n. without_cause (source_behavior (source_with text tree) input n)) (λ n. without_cause (earlier.source_behavior (source_with text tree) input n))
  same_words text tree h input = λ i. λ n. ap (λ (o : outcome.Outcome ℕ). without_cause (outcome.in_words o)) (earlier_programs_stay text tree h input n) i

  now_agrees_in_words : (text : List ℕ) (image : Image) → EarlierWordsAgreement text image → WordsAgreement text image
  now_agrees_in_words text image h = record {
    tree = h.tree;
    spelled = (trees text h.tree h.spelled).0;
    typed = ((rules h.tree (plain_of text h.tree h.spelled)).0 ∙ h.typed.0, h.typed.1, h.typed.2);
    follows = λ input are. subst (λ (a : ℕ → Outcome ℕ). Follows a (λ m. shown (machine_behavior image input m))) (sym (same_words text h.tree h.spelled input)) (h.follows input are);
  }

  before_agreed_in_words : (text : List ℕ) (image : Image) (h : WordsAgreement text image) → HasNoChar h.spelled.tokens → EarlierWordsAgreement text image
  before_agreed_in_words text image h none =
      let spelled = none_new text h.tree h.spelled none in record {
        tree = h.tree;
        spelled = spelled;
        typed = (sym (rules h.tree (plain_of text h.tree spelled)).0 ∙ h.typed.0, h.typed.1, h.typed.2);
        follows = λ input are. subst (λ (a : ℕ → Outcome ℕ). Follows a (λ m. shown (machine_behavior image input m))) (same_words text h.tree spelled input) (h.follows input are);
      }

  pub images_agree_in_words : EarlierImagesAgreeInWords
  images_agree_in_words text image h = ∥∥₁_map h (now_agrees_in_words text image)

  pub no_words_agreement_is_new : NoWordsAgreementIsNew
  no_words_agreement_is_new text ts image are none h =
      ∥∥₁_map h (λ (a : WordsAgreement text image). before_agreed_in_words text image a (subst HasNoChar (tokens text ts a.spelled.tokens are a.spelled.are) none))
