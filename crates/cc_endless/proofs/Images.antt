-- An image's run with more input, on the whole machine and on a board, and how often it reads.
use Rattle.std.proofs.Common.{◌≡◌, ℕ, ◌≤◌, List, ◌++◌, sym, ap, ◌∙◌, subst, ◌⊎◌, inl, inr, arith}
use Rattle.cc_words.specs.Observed.{reads_in}
use Rattle.cc_rv32.specs.declared.image.Image.{Image}
use Rattle.cc_rv32.specs.declared.outcome.MachineOutcome.TheVariants.{Going}
use Rattle.cc_rv32.specs.Machine.{Run, Behavior, observed, observed_machine, start, start_state, stack_from}
use Rattle.cc_emit.specs.Board.{run_above}
use Rattle.cc_link.proofs.Machine.{whole}
use Rattle.cc_endless.specs.Within.{IsWithin}
use Rattle.cc_endless.specs.Laws.{ImagesIgnoreMore, ImagesIgnoreRest, ImagesReadAtMost}
use Rattle.cc_endless.proofs.Marks.{reads_few}
use Rattle.cc_endless.proofs.Machines.{limit, Alike, alike, adds}

module _ (floor : ℕ) (image : Image) (n : ℕ) where
  -- what the image does on a board
  abbrev pub does : List ℕ → Behavior
  does input = observed (run_above floor image.code n (start image input))

  same : (l : ℕ) (more : List ℕ) (r z : Run) → Alike floor image.code l more r z → (reads_in (observed r).output ≤ l) ⊎ (reads_in (observed z).output ≤ l) → observed z ≡ observed r
  same l more r z (inl e) within = ap observed e
  same l more r z (inr p) (inl le) = absurd (let q = p.0 in omega arith)
  same l more r z (inr p) (inr le) = absurd (let q = p.1 in omega arith)

  either_within : (input more : List ℕ) → IsWithin input (does input).output ⊎ IsWithin input (does (input ++ more)).output → does (input ++ more) ≡ does input
  either_within input more within =
      same (limit (start_state image.globals input)) more (run_above floor image.code n (start image input)) (run_above floor image.code n (start image (input ++ more)))
      (alike floor image.code n more Going (start_state image.globals input)) (elim within [ inl le ↦ inl (omega arith) | inr le ↦ inr (omega arith) ])

  pub ignores_more : (input more : List ℕ) → IsWithin input (does input).output → does (input ++ more) ≡ does input
  ignores_more input more within = either_within input more (inl within)

  pub ignores_rest : (input rest : List ℕ) → IsWithin input (does (input ++ rest)).output → does (input ++ rest) ≡ does input
  ignores_rest input rest within = either_within input rest (inr within)

  pub reads_at_most : (input : List ℕ) → reads_in (does input).output ≤ n
  reads_at_most input = let h = (adds floor image.code n Going (start_state image.globals input)).0 in let r = reads_few (does input).output in omega arith

-- the whole machine is the board with all of the stack
pub on_whole : (image : Image) (n : ℕ) (input : List ℕ) → does stack_from image n input ≡ observed_machine image input n
on_whole image n input = ap observed (whole image.code n (start image input))

pub images_ignore_more : ImagesIgnoreMore
images_ignore_more image input more n within =
    sym (on_whole image n (input ++ more))
    ∙ ignores_more stack_from image n input more (subst (λ (b : Behavior). IsWithin input b.output) (sym (on_whole image n input)) within) ∙ on_whole image n input

pub images_ignore_rest : ImagesIgnoreRest
images_ignore_rest image input rest n within =
    sym (on_whole image n (input ++ rest))
    ∙ ignores_rest stack_from image n input rest (subst (λ (b : Behavior). IsWithin input b.output) (sym (on_whole image n (input ++ rest))) within) ∙ on_whole image n input

pub images_read_at_most : ImagesReadAtMost
images_read_at_most image input n = subst (λ (b : Behavior). reads_in b.output ≤ n) (on_whole image n input) (reads_at_most stack_from image n input)
