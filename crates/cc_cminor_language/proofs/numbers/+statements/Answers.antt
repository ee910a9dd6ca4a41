-- The numbers in a sequence are those in the list of its statements.
use Rattle.std.proofs.Common.{rules}
use Rattle.cc_cminor_language.specs.declared.code.Statement as written
use Rattle.cc_cminor_language.proofs.Counting.{fits_list}
use Rattle.cc_cminor_language.proofs.numbers.+statements.Goals as goal

pub variables_above-all_above-requires : goal.variables_above-all_above-requires
variables_above-all_above-requires t c =
    (search (rules, written.the_lemmas), (fits_list c.args.s.now c.in-Sequence.all c.as_slice-in-Sequence.result.now c.in-Sequence.is c.as_slice-in-Sequence.ensures.value c.requires.numbers, c.requires.count))
