use Rattle.std.proofs.Common.{rules, arith, ◌≡◌, ◌<◌, ◌++◌, ◌∷◌, [], length, ap, ◌∙◌, sym, subst, append_assoc}
use Rattle.std.specs.Arc.{arc_value}
use Rattle.cc_ast.specs.Source.{source}
use Rattle.cc_ast.specs.declared.unit.Unit.{Unit}
use Rattle.cc_types.specs.Typed.{IsWithinLimits, defined_names}
use Rattle.cc_pool.specs.declared.item.Item.TheVariants.{Piece}
use Rattle.cc_pool.specs.Shared.{piece_of, pieces_of}
use Rattle.cc_link.proofs.Few.{few_functions}
use Rattle.cc_pool.proofs.Lists.{piece_next}
use Rattle.cc_pool.proofs.pool.Pool.send_all.Goals as goal

pub new-requires-clause-few : goal.new-requires-clause-few
new-requires-clause-few g c =
    let s = source (arc_value c.args.unit.now) in
    let limits : IsWithinLimits s.externals = subst (λ (u : Unit). IsWithinLimits (source u).externals) c.deref.ensures c.externals-kept.ensures.limits in
    let count : c.functions-function-end.result ≡ length (defined_names s) = c.functions-function-end.ensures ∙ ap (λ (u : Unit). length (defined_names (source u))) c.deref-2.ensures in
    let few = few_functions s limits in
    let below : c.loop-function.function < c.functions-function-end.result = search rules in
    omega (arith, count, few, below)

pub loop-function-preserved : goal.loop-function-preserved
loop-function-preserved g c =
    let n = c.loop-function.function in
    let item : Piece c.in-Ok.order ≡ piece_of c.args.job n = λ i. Piece (record { job = c.in-Ok.ensures.job i; function = c.in-Ok.ensures.function i }) in
    record {
      sent =
          c.in-Ok-send.ensures.ok
          ∙ (λ i. c.loop-function.invariant.sent i ++ item i ∷ [])
          ∙ append_assoc c.args.pass.now.sent (pieces_of c.args.job n) (piece_of c.args.job n ∷ [])
          ∙ ap (λ l. c.args.pass.now.sent ++ l) (sym (piece_next c.args.job n));
      taken = c.in-Ok-send.ensures.taken ∙ c.loop-function.invariant.taken;
    }
