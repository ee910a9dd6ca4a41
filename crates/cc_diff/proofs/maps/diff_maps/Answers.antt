-- The lines are those of the names of both maps.
use Rattle.std.proofs.Common.{List, ◌++◌, sym, ◌∙◌, arith}
use Rattle.std.specs.FinMap as map
use Rattle.cc_diff.specs.declared.difference.DiffLine.{DiffLine}
use Rattle.cc_diff.specs.Diff.{lines_of}
use Rattle.cc_diff.proofs.Lines.{all_lines, one_more}
use Rattle.cc_diff.proofs.Equal.{only_if_same, if_same}
use Rattle.cc_diff.proofs.maps.diff_maps.Goals as goal

pub loop-name-preserved : goal.loop-name-preserved
loop-name-preserved c =
    let left = c.args.left.now in
    let right = c.args.right.now in
    let name = c.name-item.result in
    let old : List DiffLine = c.loop-name.lines.items in
    one_more (λ name. lines_of name (map.get left name) (map.get right name)) c.deref-name-items.result.now c.loop-name.name-index name old c.push_lines.new.lines.items
    c.loop-name-test.true c.name-item.is c.loop-name.invariant
    (c.in_ok-push_lines.ensures ∙ (λ i. old ++ lines_of name (c.get.ensures i) (c.get-in-loop-name.ensures i)))

pub returns-clause-lines : goal.returns-clause-lines
returns-clause-lines c = record {
  both = c.in_ok-both.both;
  names = c.in_ok-both.ensures;
  lines_are = all_lines (λ name. lines_of name (map.get c.args.left.now name) (map.get c.args.right.now name)) c.deref-name-items.result.now (map.keys c.in_ok-both.both) c.loop-name.name-index
      c.loop-name.lines.items c.loop-name.invariant (omega arith) (c.deref-name-items.ensures.value ∙ c.in_ok-names.ensures);
}

pub returns-clause-equal : goal.returns-clause-equal
returns-clause-equal c =
    let left = c.args.left.now in
    let right = c.args.right.now in
    let lines = all_lines (λ name. lines_of name (map.get left name) (map.get right name)) c.deref-name-items.result.now (map.keys c.in_ok-both.both) c.loop-name.name-index
    c.loop-name.lines.items c.loop-name.invariant (omega arith) (c.deref-name-items.ensures.value ∙ c.in_ok-names.ensures) in
    (λ e. only_if_same left right c.in_ok-both.both c.in_ok-both.ensures (sym lines ∙ e), λ e. lines ∙ if_same left right (map.keys c.in_ok-both.both) e)
