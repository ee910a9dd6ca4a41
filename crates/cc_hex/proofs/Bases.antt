-- The line that moves the base address is there exactly if a block of 65,536 addresses begins.
use Rattle.std.proofs.Common.{◌≡◌, ℕ, ◌/◌, ◌%◌, eqb, cond, true, false, [], ap, arith}
use Rattle.std.proofs.lemmas.Bool.Decides.{nat_tests}
use Rattle.std.specs.Int.{w16, to_be_bytes}
use Rattle.cc_hex.specs.Layout.{base_line, record_line}

begins : (a : ℕ) → a % 65536 ≡ 0 → eqb (a % 65536) 0 ≡ true
begins a e = grind (arith, nat_tests)

goes_on : (a : ℕ) → (a % 65536 ≡ 0 → ⊥) → eqb (a % 65536) 0 ≡ false
goes_on a ne = grind (arith, nat_tests)

pub base_line_is : (a : ℕ) → a % 65536 ≡ 0 → base_line a ≡ record_line 4 0 (to_be_bytes w16 (a / 65536))
unfolding base_line
base_line_is a e = ap (λ b. cond b (record_line 4 0 (to_be_bytes w16 (a / 65536))) []) (begins a e)

pub no_base_line : (a : ℕ) → (a % 65536 ≡ 0 → ⊥) → base_line a ≡ []
unfolding base_line
no_base_line a ne = ap (λ b. cond b (record_line 4 0 (to_be_bytes w16 (a / 65536))) []) (goes_on a ne)
