-- The equation of one more argument is added.
use Rattle.std.proofs.Common.{◌≡◌, ◌∙◌, ◌+◌, ◌++◌, ◌∷◌, [], ℕ, List, take, get_or, length, refl, sym, ap, subst, arith}
use Rattle.std.proofs.lemmas.List.{take_more, take_all, length-take}
use Rattle.cc_ltl.specs.declared.location.Location.TheVariants.{Register}
use Rattle.cc_validate.specs.declared.equation.Equation.{Equation}
use Rattle.cc_validate.specs.Equations.{equation, in_order}
use Rattle.cc_validate.specs.internal.Carried.{AreWith}
use Rattle.cc_validate.proofs.Carried.{with_none, with_more, in_order_more}
use Rattle.cc_validate.proofs.operands.put_in_order.Goals as goal

pub loop-argument-init : goal.loop-argument-init
loop-argument-init c = record { place = refl; so_far = with_none c.args.before.now }

pub loop-argument-preserved : goal.loop-argument-preserved
loop-argument-preserved c =
    let args = c.args.arguments.now in
    let i = c.loop-argument.argument-index in
    let a = get_or args i 0 in
    let t = c.loop-argument-test.true in
    let long : length (take i args) ≡ i = (let l = length-take i args in omega (arith, l, t)) in
    let is : 10 + length (take i args) ≡ c.numbered.result = (let p = c.loop-argument.invariant.place in let n = c.numbered.ensures in omega (arith, long, p, n)) in
    let more : in_order 10 (take (i + 1) args) ≡ in_order 10 (take i args) ++ equation a (Register c.numbered.result) ∷ [] =
    ap (in_order 10) (take_more args i 0 t) ∙ (in_order_more 10 (take i args) a ∙ ap (λ n. in_order 10 (take i args) ++ equation a (Register n) ∷ []) is) in
    record {
      place = (let p = c.loop-argument.invariant.place in omega (arith, p));
      so_far = subst (λ (xs : List Equation). AreWith xs c.args.before.now c.put.new.before) (sym more)
          (with_more (in_order 10 (take i args)) c.args.before.now c.loop-argument.before c.put.new.before (equation a (Register c.numbered.result)) c.loop-argument.invariant.so_far c.in_ok-put.ensures);
    }

pub returns : goal.returns
returns c =
    subst (λ (xs : List ℕ). AreWith (in_order 10 xs) c.args.before.now c.loop-argument.before) (take_all c.loop-argument.argument-index c.args.arguments.now (let t = c.loop-argument-test.false in omega (arith, t)))
    c.loop-argument.invariant.so_far
