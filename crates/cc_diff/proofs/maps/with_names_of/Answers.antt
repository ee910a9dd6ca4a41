-- Each name of the right map is one of its keys, and is added.
use Rattle.std.proofs.Common.{◌∙◌, arith}
use Rattle.cc_diff.proofs.Names.{all_named, is_key, named}
use Rattle.cc_diff.proofs.maps.with_names_of.Goals as goal

pub add_name-requires : goal.add_name-requires
add_name-requires c =
    is_key c.args.right.now c.deref-name-items.result.now c.loop-name.name-index c.name-item.result (c.deref-name-items.ensures.value ∙ c.in_ok-names.ensures) c.loop-name-test.true c.name-item.is

pub loop-name-preserved : goal.loop-name-preserved
loop-name-preserved c =
    named c.args.left.now c.loop-name.both c.add_name.new.both c.deref-name-items.result.now c.loop-name.name-index c.name-item.result c.loop-name-test.true c.name-item.is
    c.in_ok-add_name.ensures c.loop-name.invariant

pub returns : goal.returns
returns c =
    all_named c.args.left.now c.args.right.now c.loop-name.both c.deref-name-items.result.now c.loop-name.name-index (c.deref-name-items.ensures.value ∙ c.in_ok-names.ensures) (omega arith)
    c.loop-name.invariant
