use Rattle.std.proofs.Common.{◌≡◌, drop}
use Rattle.cc_cminor_language.specs.Code.{in_sequence}
use Rattle.cc_cminor_language.specs.Statements.{statements_of}
use Rattle.cc_range_table.specs.Inductive.{known_after}
use Rattle.cc_range_check.specs.declared.places.Found.{Found}
use Rattle.cc_range_check.specs.declared.walk.Walk.{Walk}
use Rattle.cc_range_check.specs.Sizes.{sizes_of}
use Rattle.cc_range_check.specs.Values.{facts_of, state_of, states_of, row_of_value, table_of}
use Rattle.cc_range_check.specs.internal.Walked.{FindsAt, FindsFrom, PassesAt, PassesFrom, known_from}
use Rattle.cc_range_check.proofs.statements.+statements.Given as goal

-- what is known after the rest is known after all; and what the walk passes and finds in the rest completes what it does in all
abbrev pub invariant-statements-loop-s : goal.invariant-statements-loop-s
invariant-statements-loop-s l =
    let sizes = sizes_of l.sizes in
    let table = table_of l.table in
    let row = row_of_value l.row in
    let rest = in_sequence (statements_of (drop l.s-index l.all)) in
    let all = in_sequence (statements_of l.all) in
    record {
      known : known_from sizes table row.notes l.walk.place (state_of l.state) rest ≡ known_after sizes table row.notes l.fn.walk.place (facts_of l.fn.facts) all;
      walk : (last : Walk) → PassesFrom sizes table row (state_of l.state) rest l.walk last → PassesAt sizes table row (facts_of l.fn.facts) all l.fn.walk last;
      found : (last : Found) → FindsFrom sizes table row.notes l.walk.place (state_of l.state) rest l.found last → FindsAt sizes table row.notes l.fn.walk.place (facts_of l.fn.facts) all l.fn.found last;
    }
