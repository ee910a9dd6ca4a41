-- The rests are alike if and only if the lists are.
use Rattle.std.proofs.Common.{◌≡◌, ℕ, ◌+◌, ◌*◌, ◌^◌, ◌<◌, ◌≤◌, false, length, drop}
use Rattle.cc_ast.specs.Erase.{statements_of}
use Rattle.cc_ast.specs.Tree.{end}
use Rattle.cc_wide.specs.Places.{bare_statements}
use Rattle.cc_wide.specs.Lowering.{all_lowered}
use Rattle.cc_wide_check.specs.internal.Equal.{equal_statements}
use Rattle.cc_wide_check.specs.internal.Sections.{are_sections}
use Rattle.cc_wide_check.specs.internal.Views.{around_of, wide_of, left, sections_left}
use Rattle.cc_wide_check.proofs.statements.+statements.Given as goal

abbrev pub invariant-same_statements-loop-i : goal.invariant-same_statements-loop-i
invariant-same_statements-loop-i l =
    equal_statements (bare_statements (statements_of (drop l.i l.trees))) (bare_statements (all_lowered (around_of l.around) l.depth (wide_of (drop l.i l.wide))))
    ≡ equal_statements (bare_statements (statements_of l.trees)) (bare_statements (all_lowered (around_of l.around) l.depth (wide_of l.wide)))

abbrev pub invariant-same_sections-loop-s : goal.invariant-same_sections-loop-s
invariant-same_sections-loop-s l =
    record {
      same : are_sections (around_of l.around) l.depth l.reading.sections l.reading.label (wide_of (drop l.s-index l.all)) (left l.reading) (sections_left l.reading l.ifs)
          ≡ are_sections (around_of l.around) l.depth l.before false (wide_of l.all) end (bare_statements (statements_of l.ifs));
      within : l.reading.next ≤ length l.ifs;
      room : l.reading.sections + length l.ifs < 2 ^ 64 + l.reading.next;
    }

-- Each function goes down the marked tree, by its depth. The functions that go over the same statements of a block come in this order: those
-- of a switch, its groups by their levels, a list of sections, a statement.
abbrev down : (depth rank : ℕ) → ℕ
down depth rank = depth * 2 ^ 66 + rank

abbrev pub decreases-same_statement : goal.decreases-same_statement
decreases-same_statement l = down (goal.size-same_statement l) 0

abbrev pub decreases-same_while : goal.decreases-same_while
decreases-same_while l = down (goal.size-same_while l) 1

abbrev pub decreases-same_statements : goal.decreases-same_statements
decreases-same_statements l = down (goal.size-same_statements l) 1

abbrev pub decreases-after_statement : goal.decreases-after_statement
decreases-after_statement l = down (goal.size-after_statement l) 1

abbrev pub decreases-after : goal.decreases-after
decreases-after l = down (goal.size-after l) 2

abbrev pub decreases-same_sections : goal.decreases-same_sections
decreases-same_sections l = down (goal.size-same_sections l) 3

abbrev pub decreases-same_groups : goal.decreases-same_groups
decreases-same_groups l = down (goal.size-same_groups l) (2 * l.levels + 5)

abbrev pub decreases-same_halves : goal.decreases-same_halves
decreases-same_halves l = down (goal.size-same_halves l) (2 * l.levels + 6)

abbrev pub decreases-same_run : goal.decreases-same_run
decreases-same_run l = down (goal.size-same_run l) (2 ^ 65 + 6)

abbrev pub decreases-same_parts : goal.decreases-same_parts
decreases-same_parts l = down (goal.size-same_parts l) (2 ^ 65 + 7)

abbrev pub decreases-same_block : goal.decreases-same_block
decreases-same_block l = down (goal.size-same_block l) (2 ^ 65 + 8)

abbrev pub decreases-same_switch : goal.decreases-same_switch
decreases-same_switch l = down (goal.size-same_switch l) (2 ^ 65 + 9)
