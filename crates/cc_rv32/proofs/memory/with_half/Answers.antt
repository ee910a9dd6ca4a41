-- At each index of the part the shift is a constant, and the rest is linear arithmetic.
use Rattle.std.proofs.Common.{ℕ, ◌≡◌, ◌<◌, ◌≤◌, ◌⊎◌, inl, inr, ◌+◌, ◌-◌, ◌*◌, ◌/◌, ◌%◌, ◌^◌, subst, sym, arith, bit_and}
use Rattle.std.proofs.lemmas.Nat.{and_mask}
use Rattle.cc_rv32.specs.Machine.{with_part}
use Rattle.cc_rv32.proofs.memory.with_half.Goals as goal

-- `bit_and x 65535` is the low sixteen bits of x
low : (x : ℕ) → bit_and x 65535 ≡ x % 65536
low x = and_mask x 16

record Replaces (word v p : ℕ) : Type 0 where
  below : bit_and (word / 2 ^ (8 * p)) 65535 * 2 ^ (8 * p) % 4294967296 ≤ word
  fits : (word - bit_and (word / 2 ^ (8 * p)) 65535 * 2 ^ (8 * p) % 4294967296) + bit_and v 65535 * 2 ^ (8 * p) % 4294967296 < 2 ^ 32
  is : (word - bit_and (word / 2 ^ (8 * p)) 65535 * 2 ^ (8 * p) % 4294967296) + bit_and v 65535 * 2 ^ (8 * p) % 4294967296 ≡ with_part word (8 * p) 16 v

replaces_0 : (word v : ℕ) → word < 2 ^ 32 → Replaces word v 0
replaces_0 word v h = record { below = omega (arith, low (word / 2 ^ 0)); fits = omega (arith, low (word / 2 ^ 0), low v); is = omega (arith, low (word / 2 ^ 0), low v) }

replaces_2 : (word v : ℕ) → word < 2 ^ 32 → Replaces word v 2
replaces_2 word v h = record { below = omega (arith, low (word / 2 ^ 16)); fits = omega (arith, low (word / 2 ^ 16), low v); is = omega (arith, low (word / 2 ^ 16), low v) }

replaces : (word v p : ℕ) → word < 2 ^ 32 → (p ≡ 0) ⊎ (p ≡ 2) → Replaces word v p
replaces word v p h (inl e) = subst (Replaces word v) (sym e) (replaces_0 word v h)
replaces word v p h (inr e) = subst (Replaces word v) (sym e) (replaces_2 word v h)

whole : (c : goal.Start) → Replaces c.args.word c.args.half c.args.index
whole c = replaces c.args.word c.args.half c.args.index (omega arith) c.requires

pub overflow_sub-result : goal.overflow_sub-result
overflow_sub-result c = (whole c).below

pub overflow_add-result : goal.overflow_add-result
overflow_add-result c = let f = (whole c).fits in omega arith

pub returns : goal.returns
returns c = (whole c).is
