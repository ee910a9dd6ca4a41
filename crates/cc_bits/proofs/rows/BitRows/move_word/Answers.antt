-- The bits of the word are removed, and added to the other row.
use Rattle.std.proofs.Common.{◌∙◌, ◌<◌, ◌==◌, ◌/◌, if◌then◌else◌, ap, sym, subst}
use Rattle.cc_bits.specs.Rows.{has, Table, row_moved}
use Rattle.cc_bits.proofs.Words.{word_moved}
use Rattle.cc_bits.proofs.rows.BitRows.move_word.Goals as goal

pub returns-clause-moved : goal.returns-clause-moved
returns-clause-moved c r x =
    let within : c.args.k < c.self.inside.width = subst (λ (t : Table). c.args.k < t.width) (sym c.self.view_is) c.requires.word in
    word_moved c.self.inside.width c.args.from c.args.to c.args.k c.word-word.result c.self.inside.bits c.clear_word.new.self c.put_word.new.self within c.word-word.ensures
    c.clear_word.ensures.cleared c.in_ok-put_word.ensures.put r x
    ∙ ap (λ (t : Table). if c.args.k == x / 64 then row_moved c.args.from c.args.to (has t) r x else has t r x) c.self.view_is
