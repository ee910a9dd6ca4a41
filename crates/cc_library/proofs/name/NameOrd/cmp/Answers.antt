use Rattle.std.proofs.Common.{◌≡◌, ℕ, List, sym, ◌∙◌, ap, arith}
use Rattle.std.specs.Ordering.{nat_cmp}
use Rattle.cc_library.specs.Body.{AreBelow}
use Rattle.cc_library.specs.internal.Prefix.{prefix_number}
use Rattle.cc_library.proofs.Prefix.{by_prefixes, name_below}
use Rattle.cc_library.proofs.name.NameOrd.cmp.Goals as goal

pub returns-then-self-other : goal.returns-then-self-other
returns-then-self-other c =
    let mine = c.args.self.now in
    let theirs = c.args.other.now in
    let a : c.self.inside.prefix ≡ prefix_number 0 8 mine = c.self.invariant.2 ∙ ap (λ (l : List ℕ). prefix_number 0 8 l) c.self.view_is in
    let b : c.other.inside.prefix ≡ prefix_number 0 8 theirs = c.other.invariant.2 ∙ ap (λ (l : List ℕ). prefix_number 0 8 l) c.other.view_is in
    let differ : prefix_number 0 8 mine ≡ prefix_number 0 8 theirs → ⊥ = λ e. omega (arith, a, b, e, c.if-self-other.true) in
    let small : AreBelow 256 mine = name_below mine c.bytes-mine.ensures.name in
    let small2 : AreBelow 256 theirs = name_below theirs c.bytes-theirs.ensures.name in
    c.cmp.ensures ∙ (λ i. nat_cmp (a i) (b i)) ∙ sym (by_prefixes mine theirs small small2 differ)
