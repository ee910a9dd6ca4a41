-- It is enough to search the keywords that begin with the first byte.
use Rattle.std.proofs.Common.{◌∙◌, ap}
use Rattle.std.specs.List.{find}
use Rattle.std.specs.Str.{bytes_eq}
use Rattle.cc_tokens.specs.Spelling.{keyword_bytes}
use Rattle.cc_tokens.specs.internal.Scan.{keywords_with}
use Rattle.cc_tokens.proofs.Few.{keyword_among_few}
use Rattle.cc_tokens.proofs.scan.keyword_named.Goals as goal

pub returns : goal.returns
returns c =
    c.keyword_in.ensures ∙ ap (find (λ k. bytes_eq (keyword_bytes k) c.args.word.now)) (c.keywords_with.ensures ∙ ap keywords_with c.byte_at.ensures.value)
    ∙ keyword_among_few c.args.word.now
