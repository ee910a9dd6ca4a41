use Rattle.cc_wide_check.proofs.hidden.+are_marks.Given as goal

abbrev pub decreases-are_marks : goal.decreases-are_marks
decreases-are_marks l = l.number
