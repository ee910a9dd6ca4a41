-- Worked guards, computed, for two objects: three words, and four bytes. The code's own variables are those below 4.
use Rattle.std.specs.Prelude.{◌≡◌, refl, ◌-◌, ◌^◌, false, List, [], ◌∷◌, Some}
use Rattle.cc_words.specs.declared.operators.Width.TheVariants.{Byte, Word}
use Rattle.cc_words.specs.declared.operators.Unary.TheVariants.{IsZero}
use Rattle.cc_words.specs.declared.operators.Binary.TheVariants.{Add, DivS, DivU, RemU, Shl, And, Eq, LtS, LtU, LeS, LeU}
use Rattle.cc_simulation.specs.World.{Size}
use Rattle.cc_cminor_language.specs.Cminor.{Expression, Constant, Local, Unary, Binary, Load, Statement, Skip, Set, Store, Call, Sequence, If, Loop, Block, Exit, Return}
use Rattle.cc_guard.specs.Guard.{guarded_code, has_guards, guarded_function}

abbrev objects : List Size
objects = record { width = Word; elements = 3 } ∷ record { width = Byte; elements = 4 } ∷ []

-- the run stops if an index is not below a number
abbrev stop_from : Expression → Expression → Statement
stop_from n i = If (Binary LeU n i) (Exit 0) Skip

-- `a[i] += b[i]`: one test is enough for both elements, since b has at least as many as a
two_arrays : guarded_code objects 4 0 (Store Word 0 (Local 0) (Binary Add (Load Word 0 (Local 0)) (Load Byte 1 (Local 0))))
    ≡ Sequence (stop_from (Constant 3) (Local 0)) (Store Word 0 (Local 0) (Binary Add (Load Word 0 (Local 0)) (Load Byte 1 (Local 0))))
two_arrays = refl

-- `x = a[b[i + 1]]`: an index that is not a variable is put into one
nested : guarded_code objects 4 0 (Set 1 (Load Word 0 (Load Byte 1 (Binary Add (Local 0) (Constant 1)))))
    ≡ Sequence (Set 4 (Binary Add (Local 0) (Constant 1))) (Sequence (stop_from (Constant 4) (Local 4))
    (Sequence (Set 5 (Load Byte 1 (Local 4))) (Sequence (stop_from (Constant 3) (Local 5)) (Set 1 (Load Word 0 (Local 5))))))
nested = refl

-- operations that evidently have a value get no guard: `x = b[y & 3] << 31`, `x = a[y % 3] / 10`
evident : guarded_code objects 4 0 (Set 0 (Binary Shl (Load Byte 1 (Binary And (Local 1) (Constant 3))) (Constant 31))) ≡ Set 0 (Binary Shl (Load Byte 1 (Binary And (Local 1) (Constant 3))) (Constant 31))
evident = refl

no_guard : has_guards objects 4 (Set 0 (Binary Shl (Load Byte 1 (Binary And (Local 1) (Constant 3))) (Constant 31))) ≡ false
no_guard = refl

remainder : guarded_code objects 4 0 (Set 0 (Binary DivS (Load Word 0 (Binary RemU (Local 1) (Constant 3))) (Constant 10))) ≡ Set 0 (Binary DivS (Load Word 0 (Binary RemU (Local 1) (Constant 3))) (Constant 10))
remainder = refl

-- an index that is evidently outside its object, and an object of the other width: the run always stops
outside : guarded_code objects 4 0 (Set 0 (Load Word 0 (Constant 3))) ≡ Sequence (stop_from (Constant 3) (Constant 3)) (Set 0 (Load Word 0 (Constant 3)))
outside = refl

another_width : guarded_code objects 4 0 (Set 0 (Load Byte 0 (Local 1))) ≡ Sequence (stop_from (Constant 0) (Local 1)) (Set 0 (Load Byte 0 (Local 1)))
another_width = refl

-- a signed quotient of two variables, and an unsigned one whose operands are put into variables
quotient : guarded_code objects 4 0 (Set 0 (Binary DivS (Local 1) (Local 2)))
    ≡ Sequence (If (Unary IsZero (Local 2)) (Exit 0) Skip)
    (Sequence (If (Binary Eq (Local 2) (Constant (2 ^ 32 - 1))) (If (Binary Eq (Local 1) (Constant (2 ^ 31))) (Exit 0) Skip) Skip) (Set 0 (Binary DivS (Local 1) (Local 2))))
quotient = refl

waiting_operand : guarded_code objects 4 0 (Set 0 (Binary DivU (Binary Add (Local 1) (Local 1)) (Binary Add (Local 2) (Local 3))))
    ≡ Sequence (Set 4 (Binary Add (Local 2) (Local 3))) (Sequence (If (Unary IsZero (Local 4)) (Exit 0) Skip) (Set 0 (Binary DivU (Binary Add (Local 1) (Local 1)) (Local 4))))
waiting_operand = refl

-- a function with a guard in a block: the exit leaves that block too, and goes to the loop at the end
whole : guarded_function objects 4 (Block (Set 0 (Load Word 0 (Local 1))))
    ≡ Block (Sequence (Block (Sequence (Block (Sequence (If (Binary LeU (Constant 3) (Local 1)) (Exit 1) Skip) (Set 0 (Load Word 0 (Local 1))))) (Exit 1))) (Loop Skip))
whole = refl

-- a function without a guard stays as it was
as_it_was : guarded_function objects 4 (Block (Set 0 (Load Word 0 (Constant 2)))) ≡ Block (Set 0 (Load Word 0 (Constant 2)))
as_it_was = refl

-- bounds stay known: for a store whose index was masked into its variable, and for one whose index was tested before; after a
-- call nothing is known about its result
masked_store : guarded_code objects 4 0 (Sequence (Set 2 (Binary And (Local 1) (Constant 1))) (Store Word 0 (Local 2) (Local 0))) ≡ Sequence (Set 2 (Binary And (Local 1) (Constant 1))) (Store Word 0 (Local 2) (Local 0))
masked_store = refl

tested_before : guarded_code objects 4 0 (Sequence (Set 0 (Load Word 0 (Local 1))) (If (Local 0) (Set 0 (Load Word 0 (Local 1))) Skip))
    ≡ Sequence (Sequence (stop_from (Constant 3) (Local 1)) (Set 0 (Load Word 0 (Local 1)))) (If (Local 0) (Set 0 (Load Word 0 (Local 1))) Skip)
tested_before = refl

set_again : guarded_code objects 4 0 (Sequence (Set 1 (Constant 2)) (Sequence (Call (Some 1) 0 []) (Set 0 (Load Word 0 (Local 1)))))
    ≡ Sequence (Set 1 (Constant 2)) (Sequence (Call (Some 1) 0 []) (Sequence (stop_from (Constant 3) (Local 1)) (Set 0 (Load Word 0 (Local 1)))))
set_again = refl

-- in a loop, the bounds of variables that no turn sets are known
kept_in_loop : guarded_code objects 4 0 (Sequence (Set 1 (Constant 2)) (Sequence (Set 2 (Constant 2)) (Loop (Sequence (Set 0 (Load Word 0 (Local 1))) (Set 2 (Load Word 0 (Local 2)))))))
    ≡ Sequence (Set 1 (Constant 2)) (Sequence (Set 2 (Constant 2)) (Loop (Sequence (Set 0 (Load Word 0 (Local 1))) (Sequence (stop_from (Constant 3) (Local 2)) (Set 2 (Load Word 0 (Local 2)))))))
kept_in_loop = refl

-- a loop that counts to a limit: what its condition shows is known in each turn, and the counter at the head is at most that limit
counted : guarded_code objects 4 0
    (Sequence (Set 1 (Constant 0)) (Block (Loop (If (Binary LtS (Local 1) (Constant 3)) (Sequence (Set 0 (Load Word 0 (Local 1))) (Set 1 (Binary Add (Local 1) (Constant 1)))) (Exit 0)))))
    ≡ Sequence (Set 1 (Constant 0)) (Block (Loop (If (Binary LtS (Local 1) (Constant 3)) (Sequence (Set 0 (Load Word 0 (Local 1))) (Set 1 (Binary Add (Local 1) (Constant 1)))) (Exit 0))))
counted = refl

-- a loop that counts one too far; and a loop whose body is a block that an exit leaves: nothing is known about the counter after the block
too_far : guarded_code objects 4 0
    (Sequence (Set 1 (Constant 0)) (Block (Loop (If (Binary LeS (Local 1) (Constant 3)) (Sequence (Set 0 (Load Word 0 (Local 1))) (Set 1 (Binary Add (Local 1) (Constant 1)))) (Exit 0)))))
    ≡ Sequence (Set 1 (Constant 0)) (Block (Loop (If (Binary LeS (Local 1) (Constant 3))
    (Sequence (Sequence (If (Binary LeU (Constant 3) (Local 1)) (Exit 1) Skip) (Set 0 (Load Word 0 (Local 1)))) (Set 1 (Binary Add (Local 1) (Constant 1)))) (Exit 0))))
too_far = refl

-- one way returns, so the other way's bound is known afterwards: `if (x < 3) ; else return`; and one way corrects the value:
-- `if (2 < x) x = 2`
one_way : guarded_code objects 4 0 (Sequence (If (Binary LtU (Local 1) (Constant 3)) Skip (Return (Constant 0))) (Set 0 (Load Word 0 (Local 1))))
    ≡ Sequence (If (Binary LtU (Local 1) (Constant 3)) Skip (Return (Constant 0))) (Set 0 (Load Word 0 (Local 1)))
one_way = refl

both_ways : guarded_code objects 4 0 (Sequence (If (Binary LtU (Constant 2) (Local 1)) (Set 1 (Constant 2)) Skip) (Set 0 (Load Word 0 (Local 1))))
    ≡ Sequence (If (Binary LtU (Constant 2) (Local 1)) (Set 1 (Constant 2)) Skip) (Set 0 (Load Word 0 (Local 1)))
both_ways = refl
