use Rattle.std.proofs.lemmas.Result.{IfOk-weaker}
use Rattle.cc_translate.specs.Translates.{Translates, DoTheSame}
use Rattle.cc_translate.specs.declared.translating.Translation.{Translation}
use Rattle.cc_translate.proofs.translating.translate_bare.Goals as goal

pub returns-clause-same : goal.returns-clause-same
returns-clause-same c =
    let wide = c.args.wide.now in
    IfOk-weaker c.translated.result (λ (t : Translation). Translates wide t.printed.text.items) (λ (t : Translation). DoTheSame wide t.printed.text.items)
    (λ t h. c.translated_texts_do_the_same.ensures.same wide t.printed.text.items h) c.translated.ensures.translates
