use Rattle.std.proofs.Common.{ℕ, List, sym, subst}
use Rattle.cc_translate.specs.Translates.{Translates}
use Rattle.cc_wide_link.proofs.Agreeing.{agrees}
use Rattle.cc_wide_link.proofs.compiling.compile_wide_in.Goals as goal

pub returns-in-Ok-compile_in-clause-agrees : goal.returns-in-Ok-compile_in-clause-agrees
returns-in-Ok-compile_in-clause-agrees c =
    let wide = c.args.wide.now in
    let t : Translates wide c.text.result.now = subst (λ (z : List ℕ). Translates wide z) (sym c.text.ensures) c.in-Ok.ensures.translates in
    agrees c.translated_texts_do_the_same.ensures.follow c.args.mode wide c.text.result.now c.in-Ok-compile_in.unit.image t c.in-Ok-compile_in.ensures.follows
