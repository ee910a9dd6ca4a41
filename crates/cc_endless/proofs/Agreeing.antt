-- What agrees on each list of words agrees on each endless input.
use Rattle.std.proofs.Common.{◌≡◌, ℕ, ◌+◌, ◌-◌, List, ◌++◌, refl, sym, ap, subst, arith}
use Rattle.std.proofs.Math.Logic.{∥∥₁_map}
use Rattle.cc_words.specs.Observed.{reads_in}
use Rattle.cc_ast.specs.Tree.{Source}
use Rattle.cc_types.specs.Verdict.{source_with}
use Rattle.cc_c_semantics.specs.Outcome as outcome
use Rattle.cc_c_semantics.specs.Meaning.{observed_behavior}
use Rattle.cc_c_semantics.specs.Checked as checked
use Rattle.cc_c_semantics.specs.Numbered.{without_cause}
use Rattle.cc_c_semantics.specs.declared.mode.Mode.{Mode}
use Rattle.cc_c_semantics.specs.declared.mode.Mode.TheVariants.{Plain, Checked}
use Rattle.cc_rv32.specs.declared.image.Image.{Image}
use Rattle.cc_rv32.specs.Machine.{start, stack_from, stack_to}
use Rattle.cc_simulation.specs.Behavior.{AreWords, Outcome, Follows}
use Rattle.cc_link.specs.Agree.{shown, image_behavior, program_behavior, behavior_in, Agreement, AgreementIn}
use Rattle.cc_link.specs.Stack.{backed_image_behavior, BackedAgreement}
use Rattle.cc_link.proofs.Counting.{GoesOn}
use Rattle.cc_link.proofs.Machine.{run_more}
use Rattle.cc_endless.specs.Endless.{AreAllWords, FollowsEndless}
use Rattle.cc_endless.specs.Laws.{ProgramsShowOneOutcome, ImagesShowOneOutcome, AgreeOnEndless, AgreeInOnEndless, BackedOnEndless}
use Rattle.cc_endless.proofs.Programs.{programs_ignore_more, programs_ignore_rest, programs_read_at_most}
use Rattle.cc_endless.proofs.Images.{does, ignores_more, ignores_rest, reads_at_most, on_whole}
use Rattle.cc_endless.proofs.Following.{Reader, one_outcome, follows_endless}

-- ---- programs

-- a mode changes how a run stops, and not what it shows
shown_output : (mode : Mode) (o : outcome.Outcome ℕ) → (checked.shown mode o).output ≡ o.output
shown_output Plain o = refl
shown_output Checked o = refl

program_reader : (source : Source) → Reader (program_behavior source)
program_reader source = record {
  ignores_more = λ input more n within. ap without_cause (programs_ignore_more source input more n within);
  ignores_rest = λ input rest n within. ap without_cause (programs_ignore_rest source input rest n within);
  reads_at_most = λ n. programs_read_at_most source n;
}

mode_reader : (mode : Mode) (source : Source) → Reader (behavior_in mode source)
mode_reader mode source = record {
  ignores_more = λ input more n within.
      let e = ap reads_in (shown_output mode (observed_behavior source input n)) in
      ap (λ o. without_cause (checked.shown mode o)) (programs_ignore_more source input more n (omega arith));
  ignores_rest = λ input rest n within.
      let e = ap reads_in (shown_output mode (observed_behavior source (input ++ rest) n)) in
      ap (λ o. without_cause (checked.shown mode o)) (programs_ignore_rest source input rest n (omega arith));
  reads_at_most = λ n.
      let most = programs_read_at_most source n in
      (most.0, λ input. let le = most.1 input in let e = ap reads_in (shown_output mode (observed_behavior source input n)) in omega arith);
}

-- ---- images

abbrev on_board : (floor : ℕ) → Image → List ℕ → ℕ → Outcome ℕ
on_board floor image input n = shown (does floor image n input)

board_reader : (floor : ℕ) (image : Image) → Reader (on_board floor image)
board_reader floor image = record {
  ignores_more = λ input more n within. ap shown (ignores_more floor image n input more within);
  ignores_rest = λ input rest n within. ap shown (ignores_rest floor image n input rest within);
  reads_at_most = λ n. (n, λ input. reads_at_most floor image n input);
}

board_goes_on : (floor : ℕ) (image : Image) (input : List ℕ) (m k : ℕ) → GoesOn (on_board floor image input m) (on_board floor image input (m + k))
board_goes_on floor image input m k = run_more floor image.code m k (start image input)

-- an image on the whole machine
whole_board : (image : Image) → on_board stack_from image ≡ image_behavior image
whole_board image = λ i input n. shown (on_whole image n input i)

-- ---- the laws

pub programs_show_one_outcome : ProgramsShowOneOutcome
programs_show_one_outcome source words = (
  one_outcome (program_behavior source) (program_reader source) words,
  λ mode. one_outcome (behavior_in mode source) (mode_reader mode source) words,
)

pub images_show_one_outcome : ImagesShowOneOutcome
images_show_one_outcome image words = (
  one_outcome (image_behavior image) (subst Reader (whole_board image) (board_reader stack_from image)) words,
  λ bytes. one_outcome (backed_image_behavior bytes image) (board_reader (stack_to - bytes) image) words,
)

on_endless : (a : List ℕ → ℕ → Outcome ℕ) → Reader a → (floor : ℕ) (image : Image) → ((input : List ℕ) → AreWords input → Follows (a input) (on_board floor image input))
    → (words : ℕ → ℕ) → AreAllWords words → FollowsEndless a (on_board floor image) words
on_endless a reader floor image follows words are =
    follows_endless a (on_board floor image) reader (board_reader floor image) (board_goes_on floor image) words are follows

whole_endless : (a : List ℕ → ℕ → Outcome ℕ) → Reader a → (image : Image) → ((input : List ℕ) → AreWords input → Follows (a input) (image_behavior image input))
    → (words : ℕ → ℕ) → AreAllWords words → FollowsEndless a (image_behavior image) words
whole_endless a reader image follows words are =
    subst (λ z. FollowsEndless a z words) (whole_board image)
    (on_endless a reader stack_from image (λ input ok. subst (λ z. Follows (a input) (z input)) (sym (whole_board image)) (follows input ok)) words are)

pub agree_on_endless : AgreeOnEndless
agree_on_endless text image h = ∥∥₁_map h (λ (g : Agreement text image). record {
  tree = g.tree;
  spelled = g.spelled;
  typed = g.typed;
  follows = whole_endless (program_behavior (source_with text g.tree)) (program_reader (source_with text g.tree)) image g.follows;
})

pub agree_in_on_endless : AgreeInOnEndless
agree_in_on_endless mode text image h = ∥∥₁_map h (λ (g : AgreementIn mode text image). record {
  tree = g.tree;
  spelled = g.spelled;
  typed = g.typed;
  follows = whole_endless (behavior_in mode (source_with text g.tree)) (mode_reader mode (source_with text g.tree)) image g.follows;
})

pub backed_on_endless : BackedOnEndless
backed_on_endless mode text least image backed bytes le fits = ∥∥₁_map (backed bytes le fits) (λ (g : BackedAgreement mode text bytes image). record {
  tree = g.tree;
  spelled = g.spelled;
  typed = g.typed;
  follows = on_endless (behavior_in mode (source_with text g.tree)) (mode_reader mode (source_with text g.tree)) (stack_to - bytes) image g.follows;
})
