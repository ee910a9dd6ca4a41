-- At each index of the part the shift is a constant, and the rest is linear arithmetic.
use Rattle.std.proofs.Common.{ℕ, zero, suc, ◌≡◌, ◌<◌, ◌≤◌, ◌+◌, ◌-◌, ◌*◌, ◌/◌, ◌%◌, ◌^◌, arith, bit_and}
use Rattle.std.proofs.lemmas.Nat.{and_mask}
use Rattle.cc_rv32.specs.Machine.{with_part}
use Rattle.cc_rv32.proofs.memory.with_byte.Goals as goal

-- `bit_and x 255` is the low eight bits of x
low : (x : ℕ) → bit_and x 255 ≡ x % 256
low x = and_mask x 8

record Replaces (word v p : ℕ) : Type 0 where
  below : bit_and (word / 2 ^ (8 * p)) 255 * 2 ^ (8 * p) % 4294967296 ≤ word
  fits : (word - bit_and (word / 2 ^ (8 * p)) 255 * 2 ^ (8 * p) % 4294967296) + bit_and v 255 * 2 ^ (8 * p) % 4294967296 < 2 ^ 32
  is : (word - bit_and (word / 2 ^ (8 * p)) 255 * 2 ^ (8 * p) % 4294967296) + bit_and v 255 * 2 ^ (8 * p) % 4294967296 ≡ with_part word (8 * p) 8 v

replaces_0 : (word v : ℕ) → word < 2 ^ 32 → Replaces word v 0
replaces_0 word v h = record { below = omega (arith, low (word / 2 ^ 0)); fits = omega (arith, low (word / 2 ^ 0), low v); is = omega (arith, low (word / 2 ^ 0), low v) }

replaces_1 : (word v : ℕ) → word < 2 ^ 32 → Replaces word v 1
replaces_1 word v h = record { below = omega (arith, low (word / 2 ^ 8)); fits = omega (arith, low (word / 2 ^ 8), low v); is = omega (arith, low (word / 2 ^ 8), low v) }

replaces_2 : (word v : ℕ) → word < 2 ^ 32 → Replaces word v 2
replaces_2 word v h = record { below = omega (arith, low (word / 2 ^ 16)); fits = omega (arith, low (word / 2 ^ 16), low v); is = omega (arith, low (word / 2 ^ 16), low v) }

replaces_3 : (word v : ℕ) → word < 2 ^ 32 → Replaces word v 3
replaces_3 word v h = record { below = omega (arith, low (word / 2 ^ 24)); fits = omega (arith, low (word / 2 ^ 24), low v); is = omega (arith, low (word / 2 ^ 24), low v) }

replaces : (word v p : ℕ) → word < 2 ^ 32 → p < 4 → Replaces word v p
replaces word v zero h l = replaces_0 word v h
replaces word v (suc zero) h l = replaces_1 word v h
replaces word v (suc (suc zero)) h l = replaces_2 word v h
replaces word v (suc (suc (suc zero))) h l = replaces_3 word v h
replaces word v (suc (suc (suc (suc p)))) h l = absurd (omega arith)

whole : (c : goal.Start) → Replaces c.args.word c.args.byte c.args.index
whole c = replaces c.args.word c.args.byte c.args.index (omega arith) c.requires

pub overflow_sub-result : goal.overflow_sub-result
overflow_sub-result c = (whole c).below

pub overflow_add-result : goal.overflow_add-result
overflow_add-result c = let f = (whole c).fits in omega arith

pub returns : goal.returns
returns c = (whole c).is
