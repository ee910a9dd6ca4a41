-- First come the limits of each function, then the limit on functions, then the limit on words.
use Rattle.std.proofs.Common.{◌≡◌, ◌∙◌, ◌++◌, ap}
use Rattle.cc_ast.specs.Erase.{external_trees}
use Rattle.cc_typing.specs.internal.Counts.{excess_of}
use Rattle.cc_typing.specs.internal.Findings.{noted}
use Rattle.cc_types.specs.Limits.{most_functions, past, function_names, objects, word_excesses, externals_excesses}
use Rattle.cc_typing.proofs.Excesses.{excess-is, words-are}
use Rattle.cc_typing.proofs.Parts.{noted-append}
use Rattle.cc_typing.proofs.limits.with_excesses.Goals as goal

pub returns : goal.returns
returns c =
    let es = external_trees c.args.externals.now in
    let functions : excess_of c.past_functions.result ≡ past most_functions (function_names es) = ap excess_of c.past_functions.ensures ∙ excess-is most_functions (function_names es) in
    let words : excess_of c.past_words.result ≡ word_excesses 0 (objects es) = ap excess_of c.past_words.ensures ∙ words-are 0 (objects es) in
    c.with_excess.ensures ∙ ap (noted c.with_excess-first.result) words
    ∙ ap (λ f. noted f (word_excesses 0 (objects es))) (c.with_excess-first.ensures ∙ ap (noted c.with_externals-first.result) functions)
    ∙ noted-append c.with_externals-first.result (past most_functions (function_names es)) (word_excesses 0 (objects es))
    ∙ ap (λ f. noted f (past most_functions (function_names es) ++ word_excesses 0 (objects es))) c.with_externals-first.ensures
    ∙ noted-append c.args.first (externals_excesses es) (past most_functions (function_names es) ++ word_excesses 0 (objects es))
