-- A typed unit's objects have at most 65,536 words in an image.
use Rattle.std.proofs.Common.{◌≡◌, ℕ, List, length, false, true, ap, ◌∙◌, arith}
use Rattle.cc_ast.specs.Source.{source}
use Rattle.cc_ast.specs.Tree as tree
use Rattle.cc_types.specs.Limits.{objects}
use Rattle.cc_link.specs.Packed.{image_words}
use Rattle.cc_link.proofs.Sizes.{few_globals}
use Rattle.cc_link.proofs.linking.image.Goals as goal

pub unreachable-requires : goal.unreachable-requires
unreachable-requires c =
    let few = few_globals c.unit_laws.ensures.sized (source c.args.unit.now).externals c.externals.ensures.typed c.externals.ensures.limits in
    let words = c.in_ok-words.ensures ∙ ap (λ (t : List tree.External). image_words (objects t)) c.externals-2.ensures.tree in
    let count : length c.in_ok-words.words.items ≡ length (image_words (objects (source c.args.unit.now).externals)) = ap (λ (ws : List ℕ). length ws) words in
    absurd (let d : false ≡ true = c.in-Err.ensures.fits.1 (omega (arith, count, few)) in cc)
