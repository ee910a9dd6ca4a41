use Rattle.std.proofs.Common.{◌≡◌, ◌++◌, drop}
use Rattle.cc_cminor_language.specs.Code.{expressions_of}
use Rattle.cc_cminor_language.specs.Statements.{statements_of}
use Rattle.cc_guard.specs.Guard.{guarded_all}
use Rattle.cc_guard.specs.internal.Written.{codes, sizes_of}
use Rattle.cc_guard.proofs.expressions.expressions.Given as goal

-- what was made so far, followed by what the rest gives, is what all expressions give
abbrev pub invariant-loop-e : goal.invariant-loop-e
invariant-loop-e l =
    let rest = guarded_all (sizes_of l.sizes) l.guards.known.items l.guards.next (expressions_of (drop l.e-index l.es)) in
    let whole = guarded_all (sizes_of l.sizes) l.fn.guards.known.items l.fn.guards.next (expressions_of l.es) in
    record {
      values : expressions_of l.all.items ++ rest.values ≡ whole.values;
      before : statements_of l.guards.before.items ++ codes l.blocks rest.before ≡ statements_of l.fn.guards.before.items ++ codes l.blocks whole.before;
      next : rest.next ≡ whole.next;
      known : rest.known ≡ whole.known;
    }
