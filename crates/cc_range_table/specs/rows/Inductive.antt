-- Worked tables, computed: a ring of eight words, a remainder by an argument, and what makes a table fail.
use Rattle.std.specs.Prelude.{◌≡◌, refl, true, false, List, [], ◌∷◌, Some, None, pos}
use Rattle.cc_words.specs.declared.operators.Width.TheVariants.{Word}
use Rattle.cc_words.specs.declared.operators.Binary.TheVariants.{Add, RemS, LtS}
use Rattle.cc_simulation.specs.World.{Size}
use Rattle.cc_cminor_language.specs.Cminor.{Expression, Constant, Local, Binary, Load, Statement, Skip, Set, Store, Call, Sequence, If, Loop, Block, Exit, Return}
use Rattle.cc_range.specs.declared.range.Range.{Range}
use Rattle.cc_range.specs.Range.{greatest, between, all_words, only}
use Rattle.cc_range_table.specs.Table.{State, Row, Table}
use Rattle.cc_range_table.specs.Inductive.{is_inductive, covers_code}

-- `int ring[8]; int end;`
abbrev sizes : List Size
sizes = record { width = Word; elements = 8 } ∷ record { width = Word; elements = 1 } ∷ []

abbrev end : Expression
end = Load Word 1 (Constant 0)

-- `void put(int v) { ring[end] = v; end = (end + 1) % 8; }`
abbrev put_code : Statement
put_code = Sequence (Store Word 0 end (Local 0)) (Store Word 1 (Constant 0) (Binary RemS (Binary Add end (Constant 1)) (Constant 8)))

abbrev put_row : Row
put_row = record { parameters = all_words ∷ []; locals = 0; is_called = true; result = only 0; writes = true ∷ true ∷ []; notes = [] }

-- the elements of the ring may be any words, and its end is an index
abbrev ring_table : Table
ring_table = record { rows = put_row ∷ []; objects = all_words ∷ between (pos 0) (pos 7) ∷ [] }

put_is_inductive : is_inductive sizes ring_table put_row put_code ≡ true
put_is_inductive = refl

put_is_covered : covers_code sizes ring_table put_row put_code ≡ true
put_is_covered = refl

-- without the remainder the end leaves its range: the table is not inductive
past_the_end : is_inductive sizes ring_table put_row (Store Word 1 (Constant 0) (Binary Add end (Constant 1))) ≡ false
past_the_end = refl

-- a row that does not say that the function writes its object
silent : is_inductive sizes ring_table (record put_row { writes = true ∷ false ∷ [] }) put_code ≡ false
silent = refl

-- `for (i = 0; i < 8; i = i + 1) ring[i] = 0;`, with what is known at the end of the block and at the head of the loop
abbrev clear_code : Statement
clear_code = Block (Loop (If (Binary LtS (Local 0) (Constant 8)) (Sequence (Store Word 0 (Local 0) (Constant 0)) (Set 0 (Binary Add (Local 0) (Constant 1)))) (Exit 0)))

abbrev with_index : Range → State
with_index r = Some (record { variables = r ∷ []; objects = ring_table.objects })

abbrev clear_row : State → State → Row
clear_row after head = record { parameters = []; locals = 1; is_called = true; result = only 0; writes = []; notes = after ∷ head ∷ [] }

clear_is_inductive : is_inductive sizes ring_table (clear_row (with_index all_words) (with_index (between (pos 0) (pos 8)))) clear_code ≡ true
clear_is_inductive = refl

clear_is_covered : covers_code sizes ring_table (clear_row (with_index all_words) (with_index (between (pos 0) (pos 8)))) clear_code ≡ true
clear_is_covered = refl

-- a head that the turn leaves: 8 comes back to it
left_by_the_turn : is_inductive sizes ring_table (clear_row (with_index all_words) (with_index (between (pos 0) (pos 7)))) clear_code ≡ false
left_by_the_turn = refl

-- a block's end at which the table has nothing, or only 7
left_by_the_exit : is_inductive sizes ring_table (clear_row None (with_index (between (pos 0) (pos 8)))) clear_code ≡ false
left_by_the_exit = refl

too_narrow : is_inductive sizes ring_table (clear_row (with_index (only 7)) (with_index (between (pos 0) (pos 8)))) clear_code ≡ false
too_narrow = refl

-- after a call of a function that writes the end, the end is in the table's range, and no longer 3
abbrev caller_row : Row
caller_row = record { parameters = []; locals = 0; is_called = true; result = between (pos 3) (pos 3); writes = []; notes = [] }

survives : is_inductive sizes ring_table caller_row (Sequence (Store Word 1 (Constant 0) (Constant 3)) (Sequence (Call None 0 (Constant 5 ∷ [])) (Return end))) ≡ false
survives = refl

-- before a call the end must be in its range; main, which nothing calls, may end as it likes
not_at_a_call : is_inductive sizes ring_table caller_row (Sequence (Store Word 1 (Constant 0) (Constant 9)) (Sequence (Call None 0 (Constant 5 ∷ [])) (Return (Constant 3)))) ≡ false
not_at_a_call = refl

main_may : is_inductive sizes ring_table (record caller_row { is_called = false }) (Sequence (Store Word 1 (Constant 0) (Constant 9)) (Return (Constant 4))) ≡ true
main_may = refl

-- `if (at + 2 < 8) return ring[at + 2];` for an `at` up to 1000. If `at` may be the greatest number, the sum may be below 0.
abbrev sum_code : Statement
sum_code = If (Binary LtS (Binary Add (Local 0) (Constant 2)) (Constant 8)) (Return (Load Word 0 (Binary Add (Local 0) (Constant 2)))) Skip

abbrev sum_row : Range → Row
sum_row at = record { parameters = at ∷ []; locals = 0; is_called = false; result = all_words; writes = []; notes = [] }

term_of_a_sum : covers_code sizes ring_table (sum_row (between (pos 0) (pos 1000))) sum_code ≡ true
term_of_a_sum = refl

sum_that_wraps : covers_code sizes ring_table (sum_row (between (pos 0) greatest)) sum_code ≡ false
sum_that_wraps = refl
