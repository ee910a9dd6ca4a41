-- A program's run with more input, and how often it reads within a number of steps.
use Rattle.std.proofs.Common.{◌≡◌, ℕ, suc, ◌+◌, ◌≤◌, List, [], ◌++◌, length, codes, refl, ap, ◌∙◌, inl, inr, arith}
use Rattle.cc_ast.specs.Tree.{Source}
use Rattle.cc_words.specs.Observed.{reads_in}
use Rattle.cc_c_semantics.specs.Meaning.{State, Run, Gives, Going, Wrong, functions, calls, initial_globals, outcome_of, observed_behavior}
use Rattle.cc_c_semantics.proofs.Lasting.{written}
use Rattle.cc_endless.specs.Within.{IsWithin}
use Rattle.cc_endless.specs.Laws.{ProgramsIgnoreMore, ProgramsIgnoreRest, ProgramsReadAtMost}
use Rattle.cc_endless.proofs.Marks.{reads_few}
use Rattle.cc_endless.proofs.Feeding.{fed_run, limit, Alike, At}
use Rattle.cc_endless.proofs.Walking.{calls_few}

written_is : (r : Run ℕ) → written r ≡ (outcome_of r).output
written_is (Gives w s) = refl
written_is (Going output) = refl
written_is (Wrong cause output) = refl

fed_same : (more : List ℕ) (r : Run ℕ) → outcome_of (fed_run more r) ≡ outcome_of r
fed_same more (Gives w s) = refl
fed_same more (Going output) = refl
fed_same more (Wrong cause output) = refl

same_more : (l : ℕ) (more : List ℕ) (r z : Run ℕ) → Alike l more r z → reads_in (outcome_of r).output ≤ l → outcome_of z ≡ outcome_of r
same_more l more r z (inl e) le = ap outcome_of e ∙ fed_same more r
same_more l more r z (inr p) le = absurd (let q = p.0 in let e = ap reads_in (written_is r) in omega arith)

same_less : (l : ℕ) (more : List ℕ) (r z : Run ℕ) → Alike l more r z → reads_in (outcome_of z).output ≤ l → outcome_of z ≡ outcome_of r
same_less l more r z (inl e) le = ap outcome_of e ∙ fed_same more r
same_less l more r z (inr p) le = absurd (let q = p.1 in let e = ap reads_in (written_is z) in omega arith)

module _ (source : Source) (n : ℕ) where
  abbrev from : List ℕ → State
  from input = record { locals = []; globals = initial_globals source.externals; input = input; output = []; steps = n }

  abbrev part : State → Run ℕ
  part s = calls (suc n) (functions source.externals) 0 (codes "main") [] s

  few : (most : ℕ) × ((s : State) → At (most + 0) part s)
  few = let p = calls_few (functions source.externals) (suc n) in (p.0, λ s. p.1 0 (codes "main") [] s)

  pub ignores_more : (input more : List ℕ) → IsWithin input (observed_behavior source input n).output → observed_behavior source (input ++ more) n ≡ observed_behavior source input n
  ignores_more input more within =
      same_more (limit (from input)) more (part (from input)) (part (from (input ++ more))) ((few.1 (from input)).alike more) (omega arith)

  pub ignores_rest : (input rest : List ℕ) → IsWithin input (observed_behavior source (input ++ rest) n).output → observed_behavior source (input ++ rest) n ≡ observed_behavior source input n
  ignores_rest input more within =
      same_less (limit (from input)) more (part (from input)) (part (from (input ++ more))) ((few.1 (from input)).alike more) (omega arith)

  pub reads_at_most : (most : ℕ) × ((input : List ℕ) → reads_in (observed_behavior source input n).output ≤ most)
  reads_at_most = (few.0, λ input. let h = (few.1 (from input)).few in let e = ap length (written_is (part (from input))) in let r = reads_few (observed_behavior source input n).output in omega arith)

pub programs_ignore_more : ProgramsIgnoreMore
programs_ignore_more source input more n = ignores_more source n input more

pub programs_ignore_rest : ProgramsIgnoreRest
programs_ignore_rest source input rest n = ignores_rest source n input rest

pub programs_read_at_most : ProgramsReadAtMost
programs_read_at_most source n = reads_at_most source n
