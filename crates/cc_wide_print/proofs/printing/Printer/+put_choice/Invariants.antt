use Rattle.cc_wide_print.proofs.printing.Printer.+put_choice.Given as goal

abbrev pub decreases-put_choice : goal.decreases-put_choice
decreases-put_choice l = l.levels
