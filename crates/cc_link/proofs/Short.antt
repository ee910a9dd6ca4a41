-- The length of a function's LTL fits in four bytes: an LTL function has at most 4,096 blocks, each with at most 65,535 moves on
-- either side.
use Rattle.std.proofs.Common.{◌≡◌, ℕ, ◌*◌, ◌^◌, ◌<◌, ◌≤◌, List, [], ◌∷◌, ◌++◌, length, refl, arith, length-append}
use Rattle.std.specs.List.{AllByRecursion, flat_map}
use Rattle.cc_linear_language.specs.Pair.{most_blocks}
use Rattle.cc_ltl.specs.declared.operation.Move.{Move}
use Rattle.cc_ltl.specs.declared.operation.Move.TheVariants.{Between, Reload, Spill}
use Rattle.cc_ltl.specs.declared.operation.Operation.{Operation}
use Rattle.cc_ltl.specs.declared.operation.Operation.TheVariants.{Nop, Const, Unary, Binary, Load, Store, Call, Read, Write, Branch, Return}
use Rattle.cc_ltl.specs.declared.block.Block.{Block}
use Rattle.cc_ltl.specs.Ltl.{Ltl, AreMoves, IsBlock, IsLtl}
use Rattle.cc_ltl.specs.Bytes.{half_bytes, word_bytes, move_bytes, moves_bytes, operation_bytes, block_bytes, ltl_bytes}

four : (n : ℕ) → length (word_bytes n) ≡ 4
four n = refl

two : (n : ℕ) → length (half_bytes n) ≡ 2
two n = refl

move_short : (m : Move) → length (move_bytes m) ≤ 4
move_short (Between to from) = omega arith
move_short (Reload to slot) = omega arith
move_short (Spill slot from) = omega arith

all_short : (ms : List Move) → length (flat_map move_bytes ms) ≤ 4 * length ms
all_short [] = omega arith
all_short (m ∷ ms) = omega (arith, move_short m, all_short ms, length-append (move_bytes m) (flat_map move_bytes ms))

moves_short : (slots : ℕ) (ms : List Move) → AreMoves slots ms → length (moves_bytes ms) ≤ 262142
moves_short slots ms are = let few = are.0 in omega (arith, few, all_short ms, two (length ms), length-append (half_bytes (length ms)) (flat_map move_bytes ms))

operation_short : (o : Operation) → length (operation_bytes o) ≤ 12
operation_short (Nop next) = omega arith
operation_short (Const to word next) = omega arith
operation_short (Unary operator to from next) = omega arith
operation_short (Binary operator to left right next) = omega arith
operation_short (Load width object to index next) = omega arith
operation_short (Store width object index from next) = omega arith
operation_short (Call function next) = omega arith
operation_short (Read next) = omega arith
operation_short (Write next) = omega arith
operation_short (Branch from if_nonzero if_zero) = omega arith
operation_short Return = omega arith

block_short : (slots : ℕ) (b : Block) → IsBlock slots b → length (block_bytes b) ≤ 524300
block_short slots b is =
    let before = moves_short slots b.before is.before in
    let after = moves_short slots b.after is.after in
    omega (
      arith,
      four b.label,
      before,
      operation_short b.operation,
      after,
      length-append (word_bytes b.label) (moves_bytes b.before ++ (operation_bytes b.operation ++ moves_bytes b.after)),
      length-append (moves_bytes b.before) (operation_bytes b.operation ++ moves_bytes b.after),
      length-append (operation_bytes b.operation) (moves_bytes b.after),
    )

blocks_short : (slots : ℕ) (bs : List Block) → AllByRecursion (IsBlock slots) bs → length (flat_map block_bytes bs) ≤ 524300 * length bs
blocks_short slots [] are = omega arith
blocks_short slots (b ∷ bs) are = omega (arith, block_short slots b are.0, blocks_short slots bs are.1, length-append (block_bytes b) (flat_map block_bytes bs))

pub ltl_short : (l : Ltl) → IsLtl l → length l.blocks ≤ most_blocks → length (ltl_bytes l) < 2 ^ 32
ltl_short l is few =
    omega (
      arith,
      few,
      four l.slots,
      four l.entry,
      four (length l.blocks),
      blocks_short l.slots l.blocks is.blocks,
      length-append (word_bytes l.slots) (word_bytes l.entry ++ (word_bytes (length l.blocks) ++ flat_map block_bytes l.blocks)),
      length-append (word_bytes l.entry) (word_bytes (length l.blocks) ++ flat_map block_bytes l.blocks),
      length-append (word_bytes (length l.blocks)) (flat_map block_bytes l.blocks),
    )
