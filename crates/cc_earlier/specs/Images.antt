-- A text that had a typed unit before there were arrays of `unsigned char` has the same unit and the same behavior, and an image that
-- agreed with it still agrees. The past is described by the clauses as they were then: the grammar, the rules and the limits by those of
-- `Texts`, a run by `Meaning`. A reader has to check one thing: that all other clauses that these use, the machine and `Follows` among
-- them, have the same text as then, but for the marks of reads, as those pages say.
use Rattle.std.specs.Prelude.{◌≡◌, ℕ, true, List, []}
use Rattle.cc_rv32.specs.declared.image.Image.{Image}
use Rattle.cc_tokens.specs.Token.{Lexeme}
use Rattle.cc_tokens.specs.Tokens.{IsTokens}
use Rattle.cc_ast.specs.Tree.{External, Source}
use Rattle.cc_ast.specs.Parse.{SpellsText}
use Rattle.cc_types.specs.Scope.{first_file_scope}
use Rattle.cc_types.specs.Rules.{defines_main, undefined_calls}
use Rattle.cc_types.specs.Checked.{IsChecked}
use Rattle.cc_types.specs.Verdict.{source_with}
use Rattle.cc_c_semantics.specs.Meaning.{observed_behavior}
use Rattle.cc_c_semantics.specs.Numbered.{without_cause}
use Rattle.cc_simulation.specs.Behavior.{AreWords, Outcome, Follows}
use Rattle.cc_rv32.specs.Machine.{machine_behavior}
use Rattle.cc_link.specs.Agree.{shown, image_behavior, Agree, WordsAgreement}
use Rattle.cc_earlier.specs.Texts.{HasNoChar, EarlierText, earlier_externals_errors, earlier_excesses}
use Rattle.cc_earlier.specs.Meaning as earlier

-- a tree broke no rule, defined main, and defined each function that it called
abbrev pub EarlierTyped : List External → Type 0
EarlierTyped tree = (earlier_externals_errors tree first_file_scope ≡ []) × (defines_main tree ≡ true) × (undefined_calls tree ≡ [])

-- what a program did on an input, within a number of steps
abbrev pub earlier_program_behavior : Source → (input : List ℕ) → ℕ → Outcome ℕ
earlier_program_behavior source input n = without_cause (earlier.observed_behavior source input n)

-- the text had a tree, and the image's run followed the run of that tree, with its reads
pub record EarlierAgreement (text : List ℕ) (image : Image) : Type 0 where
  pub tree : List External
  pub spelled : EarlierText text tree
  pub typed : EarlierTyped tree
  pub follows : (input : List ℕ) → AreWords input → Follows (earlier_program_behavior (source_with text tree) input) (image_behavior image input)

-- the same in the words alone: this is what was proved of images then
pub record EarlierWordsAgreement (text : List ℕ) (image : Image) : Type 0 where
  pub tree : List External
  pub spelled : EarlierText text tree
  pub typed : EarlierTyped tree
  pub follows : (input : List ℕ) → AreWords input
      → Follows (λ n. without_cause (earlier.source_behavior (source_with text tree) input n)) (λ m. shown (machine_behavior image input m))

-- they agreed
abbrev pub EarlierAgree : List ℕ → Image → Type 0
EarlierAgree text image = ∥ EarlierAgreement text image ∥₁

-- a text that had a typed unit within the limits still has it
abbrev pub EarlierUnitsStay : Type 0
EarlierUnitsStay =
    (text : List ℕ) (tree : List External) → EarlierText text tree → EarlierTyped tree → earlier_excesses tree ≡ []
    → SpellsText text tree × IsChecked (source_with text tree)

-- the program of a text that had a tree does what it did, on each input and within each number of steps
abbrev pub EarlierProgramsStay : Type 0
EarlierProgramsStay =
    (text : List ℕ) (tree : List External) → EarlierText text tree
    → (input : List ℕ) (n : ℕ) → observed_behavior (source_with text tree) input n ≡ earlier.observed_behavior (source_with text tree) input n

-- an image that agreed with a text still agrees with it
abbrev pub EarlierImagesAgree : Type 0
EarlierImagesAgree = (text : List ℕ) (image : Image) → EarlierAgree text image → Agree text image

-- if a text does not have the word `char`, no image agrees with it now that did not agree then
abbrev pub NoAgreementIsNew : Type 0
NoAgreementIsNew =
    (text : List ℕ) (tokens : List Lexeme) (image : Image) → IsTokens text tokens → HasNoChar tokens → Agree text image → EarlierAgree text image

-- the same in the words alone
abbrev pub EarlierImagesAgreeInWords : Type 0
EarlierImagesAgreeInWords = (text : List ℕ) (image : Image) → ∥ EarlierWordsAgreement text image ∥₁ → ∥ WordsAgreement text image ∥₁

abbrev pub NoWordsAgreementIsNew : Type 0
NoWordsAgreementIsNew =
    (text : List ℕ) (tokens : List Lexeme) (image : Image) → IsTokens text tokens → HasNoChar tokens → ∥ WordsAgreement text image ∥₁ → ∥ EarlierWordsAgreement text image ∥₁
