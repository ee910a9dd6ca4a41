-- Each turn adds one more register.
use Rattle.std.proofs.Common.{◌≡◌, ◌∙◌, ap, sym, refl, ◌||◌, ◌==◌, ◌+◌, ◌<◌, ℕ, List, length, take, get_or, Bool, true, false}
use Rattle.std.proofs.lemmas.List.{take_more, take_all}
use Rattle.cc_rtl_language.specs.Live.{among}
use Rattle.cc_bits.specs.Rows.{holds}
use Rattle.cc_live.specs.internal.Holding.{among-push}
use Rattle.cc_live.proofs.transfer.add_all.Goals as goal

or_assoc : (a b c : Bool) → (a || (b || c)) ≡ ((a || b) || c)
or_assoc true b c = refl
or_assoc false b c = refl

one_more : (before more start rs : List ℕ) (i : ℕ) → i < length rs → ((r : ℕ) → holds before r ≡ (among (take i rs) r || holds start r)) → ((r : ℕ) → holds more r ≡ (get_or rs i 0 == r || holds before r))
    → (r : ℕ) → holds more r ≡ (among (take (i + 1) rs) r || holds start r)
one_more before more start rs i lt so_far put r =
    let x = get_or rs i 0 in
    put r
    ∙ (ap (λ b. x == r || b) (so_far r)
    ∙ (or_assoc (x == r) (among (take i rs) r) (holds start r)
    ∙ (ap (λ b. b || holds start r) (sym (among-push (take i rs) x r)) ∙ ap (λ ls. among ls r || holds start r) (sym (take_more rs i 0 lt)))))

pub loop-register-preserved : goal.loop-register-preserved
loop-register-preserved c =
    one_more c.loop-register.before c.insert.new.self c.args.before.now c.args.registers.now c.loop-register.register-index c.loop-register-test.true c.loop-register.invariant c.in_ok-insert.ensures.added

pub returns : goal.returns
returns c r =
    c.loop-register.invariant r
    ∙ ap (λ ls. among ls r || holds c.args.before.now r) (take_all c.loop-register.register-index c.args.registers.now c.loop-register-test.false)
