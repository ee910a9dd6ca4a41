-- The declarations are examined one by one.
use Rattle.std.proofs.Common.{◌+◌, ap, sym, ◌∙◌, drop, [], ◌≡◌}
use Rattle.std.proofs.Math.ListN.{drop_of_length-le}
use Rattle.cc_ast.specs.Erase.{external_trees}
use Rattle.cc_typing.specs.internal.Counts.{all_defined}
use Rattle.cc_typing.specs.internal.Functions.{Functions}
use Rattle.cc_types.proofs.Items.{drop-item}
use Rattle.cc_typing.proofs.checking.define_all.Goals as goal

pub loop-external-preserved : goal.loop-external-preserved
loop-external-preserved c =
    let left = drop-item c.args.externals.now c.loop-external.external-index c.external-item.result c.loop-external-test.true c.external-item.is in
    let rest = external_trees (drop (c.loop-external.external-index + 1) c.args.externals.now) in
    record {
      defined =
          ap (λ (k : Functions). all_defined rest k.defined) c.in_ok-define.ensures
          ∙ sym (ap (λ l. all_defined (external_trees l) c.loop-external.functions.defined) left) ∙ c.loop-external.invariant.defined;
      before = ap (λ (k : Functions). k.before) c.in_ok-define.ensures ∙ c.loop-external.invariant.before;
    }

pub returns : goal.returns
returns c =
    let nothing : drop c.loop-external.external-index c.args.externals.now ≡ [] = drop_of_length-le c.args.externals.now c.loop-external-test.false in
    let defined : c.loop-external.functions.defined ≡ all_defined (external_trees c.args.externals.now) c.args.functions.now.defined =
    sym (ap (λ l. all_defined (external_trees l) c.loop-external.functions.defined) nothing) ∙ c.loop-external.invariant.defined in
    λ i. record { defined = defined i; before = c.loop-external.invariant.before i }
