-- If no operation is listed, all are covered.
use Rattle.std.proofs.Common.{◌∙◌, Result, Ok, Err, IfOk, sym, ap}
use Rattle.cc_c_semantics.specs.Numbered.{objects_in}
use Rattle.cc_cminor_language.specs.Pair.{tree_of, code_of}
use Rattle.cc_range_table.specs.Table.{row_of}
use Rattle.cc_range_table.specs.Inductive.{first_facts}
use Rattle.cc_range_check.specs.Checking.{is_empty}
use Rattle.cc_range_check.specs.Values.{table_of}
use Rattle.cc_range_check.proofs.Covering.{covered_at}
use Rattle.cc_range_check.proofs.checking.check_function.Goals as goal

both_ok : {T E : Type 0} (P Q R : T → Type 0) (r : Result T E) → ((x : T) → P x → Q x → R x) → IfOk r P → IfOk r Q → IfOk r R
both_ok P Q R (Ok x) f p q = f x p q
both_ok P Q R (Err e) f p q = p

pub returns-clause-covers : goal.returns-clause-covers
returns-clause-covers c =
    let p = c.args.pair.now in
    let t = table_of c.args.table.now in
    let row = row_of t p.function in
    both_ok _ _ _ c.check_pair.result (λ found u s inductive none fails wrong. record {
      inductive = s inductive fails;
      covered = covered_at (objects_in (tree_of p)) t row.notes 0 0 (first_facts t row) (code_of p) ∙ ap is_empty (sym u ∙ none);
      goes_wrong = wrong;
    }) c.check_pair.ensures.uncovered c.check_pair.ensures.shows
