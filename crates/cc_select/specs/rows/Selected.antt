-- Worked examples of selection, by computation: which words operators can encode, constants that go into operations and accesses, constants
-- that stay, powers of two, what is forgotten, branches on constants, comparisons that are joined with their tests and others that are not,
-- a table, and what some steps do.
use Rattle.std.specs.Prelude.{◌-◌, ◌^◌, ◌≡◌, refl, true, false, Some, None, List, [], ◌∷◌}
use Rattle.std.specs.Int.Count.{count_trailing_zeros}
use Rattle.cc_words.specs.declared.operators.Width.TheVariants.{Byte, Word}
use Rattle.cc_words.specs.declared.operators.Unary.TheVariants.{IsZero}
use Rattle.cc_words.specs.declared.operators.Binary.TheVariants as operators
use Rattle.cc_simulation.specs.World.{World}
use Rattle.cc_simulation.specs.Run.{Goes}
use Rattle.cc_ltl.specs.declared.location.Location.TheVariants.{Register}
use Rattle.cc_ltl.specs.declared.operation.Move.TheVariants.{Between}
use Rattle.cc_ltl.specs.Ltl.{Locations, put}
use Rattle.cc_linear_language.specs.declared.item.LinearItem.{LinearItem}
use Rattle.cc_linear_language.specs.declared.item.LinearItem.TheVariants.{Label, Jump, IfNonzero, IfZero, Copy, Const, Unary, Binary, Load, Store, Call, Return}
use Rattle.cc_select.specs.declared.step.WordOperator.TheVariants as immediate
use Rattle.cc_select.specs.declared.step.Step.{Step}
use Rattle.cc_select.specs.declared.step.Step.TheVariants.{One, Immediate, LoadAt, StoreAt, LoadNear, StoreNear, Branch, BranchImmediate}
use Rattle.cc_select.specs.Immediates.{has_word, immediate_of, immediate_of_left, apply_immediate}
use Rattle.cc_select.specs.Selected.{at_steps, does}
use Rattle.cc_select.specs.Known.{unknown, chosen}
use Rattle.cc_select.specs.Table.{table}
use Rattle.cc_select.specs.Selection.{selected}

-- ---- words

-- -2048 to 2047
greatest : has_word immediate.Add 2047 ≡ true
greatest = refl

too_great : has_word immediate.Add 2048 ≡ false
too_great = refl

least : has_word immediate.Add (2 ^ 32 - 2048) ≡ true
least = refl

too_small : has_word immediate.Add (2 ^ 32 - 2049) ≡ false
too_small = refl

-- a word is subtracted by adding its negative, also in a comparison for equality
subtracted : has_word immediate.Sub 2048 ≡ true
subtracted = refl

too_great_to_subtract : has_word immediate.Eq 2049 ≡ false
too_great_to_subtract = refl

-- "at most a word" is "less than the next word"
at_most : has_word immediate.LeS 2046 ≡ true
at_most = refl

too_great_for_at_most : has_word immediate.LeS 2047 ≡ false
too_great_for_at_most = refl

all_are_at_most : has_word immediate.LeU (2 ^ 32 - 1) ≡ false
all_are_at_most = refl

-- "more than" can encode only 0
more_than_one : has_word immediate.GtU 1 ≡ false
more_than_one = refl

-- -1 is not more than 0, and is at least -3
not_more : apply_immediate immediate.GtS (2 ^ 32 - 1) 0 ≡ Some 0
not_more = refl

at_least : apply_immediate immediate.GeS (2 ^ 32 - 1) (2 ^ 32 - 3) ≡ Some 1
at_least = refl

-- ---- constants

-- an element's number in a load and in a store; the word that is stored stays in its register
index_of_load : selected (Const 7 3 ∷ Load Word 1 10 7 ∷ Return ∷ []) ≡ LoadAt Word 1 10 3 ∷ One Return ∷ []
unfolding table
index_of_load = refl

index_of_store : selected (Const 7 2 ∷ Const 11 5 ∷ Store Byte 0 7 11 ∷ Return ∷ []) ≡ One (Const 11 5) ∷ StoreAt Byte 0 2 11 ∷ One Return ∷ []
unfolding table
index_of_store = refl

-- ---- nearby elements: the number is computed from a register and a word, and nothing else reads it

next_element : selected (Const 7 1 ∷ Binary operators.Add 7 10 7 ∷ Load Word 0 10 7 ∷ Return ∷ []) ≡ LoadNear Word 0 10 10 1 ∷ One Return ∷ []
unfolding table count_trailing_zeros
next_element = refl

element_before : selected (Const 7 1 ∷ Binary operators.Sub 7 10 7 ∷ Store Byte 0 7 11 ∷ Return ∷ []) ≡ StoreNear Byte 0 10 0xffffffff 11 ∷ One Return ∷ []
unfolding table count_trailing_zeros
element_before = refl

-- the sum stays if its register is read again
read_once_more : selected (Const 7 1 ∷ Binary operators.Add 7 10 7 ∷ Load Word 0 11 7 ∷ Copy (Between 10 7) ∷ Return ∷ []) ≡ Immediate immediate.Add 7 10 1 ∷ LoadNear Word 0 11 10 1 ∷ One (Copy (Between 10 7)) ∷ One Return ∷ []
unfolding table count_trailing_zeros
read_once_more = refl

-- if the register to which a word was added has been written since, or is the sum's own, the number is the word of the sum's register
written_since : selected (Const 7 1 ∷ Binary operators.Add 7 10 7 ∷ Copy (Between 10 11) ∷ Load Word 0 10 7 ∷ Return ∷ []) ≡ Immediate immediate.Add 7 10 1 ∷ One (Copy (Between 10 11)) ∷ One (Load Word 0 10 7) ∷ One Return ∷ []
unfolding table count_trailing_zeros
written_since = refl

sum_in_itself : selected (Const 7 1 ∷ Binary operators.Add 10 10 7 ∷ Load Word 0 10 10 ∷ Return ∷ []) ≡ Immediate immediate.Add 10 10 1 ∷ One (Load Word 0 10 10) ∷ One Return ∷ []
unfolding table count_trailing_zeros
sum_in_itself = refl

-- a constant on the right goes into the operation
on_the_right : selected (Const 7 5 ∷ Binary operators.Sub 10 11 7 ∷ Return ∷ []) ≡ Immediate immediate.Sub 10 11 5 ∷ One Return ∷ []
unfolding table
on_the_right = refl

-- a constant on the left goes in if the order makes no difference, or if "less than" becomes "more than"; it does not in a difference
on_the_left : selected (Const 7 5 ∷ Binary operators.And 10 7 11 ∷ Return ∷ []) ≡ Immediate immediate.And 10 11 5 ∷ One Return ∷ []
unfolding table
on_the_left = refl

at_most_on_the_left : selected (Const 7 5 ∷ Binary operators.LeU 10 7 11 ∷ Return ∷ []) ≡ Immediate immediate.GeU 10 11 5 ∷ One Return ∷ []
unfolding table
at_most_on_the_left = refl

less_on_the_left : selected (Const 7 0 ∷ Binary operators.LtS 10 7 11 ∷ Return ∷ []) ≡ Immediate immediate.GtS 10 11 0 ∷ One Return ∷ []
unfolding table
less_on_the_left = refl

one_less_on_the_left : selected (Const 7 1 ∷ Binary operators.LtS 10 7 11 ∷ Return ∷ []) ≡ One (Const 7 1) ∷ One (Binary operators.LtS 10 7 11) ∷ One Return ∷ []
unfolding table
one_less_on_the_left = refl

difference_on_the_left : selected (Const 7 5 ∷ Binary operators.Sub 10 7 11 ∷ Return ∷ []) ≡ One (Const 7 5) ∷ One (Binary operators.Sub 10 7 11) ∷ One Return ∷ []
unfolding table
difference_on_the_left = refl

-- of two constants, the right one goes into the operation
on_both_sides : selected (Const 7 1 ∷ Const 8 2 ∷ Binary operators.Add 10 7 8 ∷ Return ∷ []) ≡ One (Const 7 1) ∷ Immediate immediate.Add 10 7 2 ∷ One Return ∷ []
unfolding table
on_both_sides = refl

-- a signed quotient cannot encode a word, so its constant is live, and stays
live_constant : selected (Const 7 5 ∷ Binary operators.Add 10 11 7 ∷ Binary operators.DivS 10 10 7 ∷ Return ∷ [])
    ≡ One (Const 7 5) ∷ Immediate immediate.Add 10 11 5 ∷ One (Binary operators.DivS 10 10 7) ∷ One Return ∷ []
unfolding table
live_constant = refl

-- ---- powers of two

-- 2^0 and 2^31 are the least and the greatest power; 0 and 3 are not powers of two
product_by_1 : immediate_of operators.Mul 1 ≡ Some (immediate.Shl, 0)
unfolding count_trailing_zeros
product_by_1 = refl

product_by_greatest : immediate_of operators.Mul (2 ^ 31) ≡ Some (immediate.Shl, 31)
unfolding count_trailing_zeros
product_by_greatest = refl

product_by_0 : immediate_of operators.Mul 0 ≡ None
unfolding count_trailing_zeros
product_by_0 = refl

product_by_3 : immediate_of operators.Mul 3 ≡ None
unfolding count_trailing_zeros
product_by_3 = refl

quotient_by_1 : immediate_of operators.DivU 1 ≡ Some (immediate.ShrU, 0)
unfolding count_trailing_zeros
quotient_by_1 = refl

quotient_by_greatest : immediate_of operators.DivU (2 ^ 31) ≡ Some (immediate.ShrU, 31)
unfolding count_trailing_zeros
quotient_by_greatest = refl

quotient_by_0 : immediate_of operators.DivU 0 ≡ None
unfolding count_trailing_zeros
quotient_by_0 = refl

quotient_by_3 : immediate_of operators.DivU 3 ≡ None
unfolding count_trailing_zeros
quotient_by_3 = refl

-- a remainder by 1 is 0
remainder_by_1 : immediate_of operators.RemU 1 ≡ Some (immediate.And, 0)
unfolding count_trailing_zeros
remainder_by_1 = refl

remainder_by_greatest : immediate_of operators.RemU (2 ^ 31) ≡ Some (immediate.And, 2 ^ 31 - 1)
unfolding count_trailing_zeros
remainder_by_greatest = refl

remainder_by_0 : immediate_of operators.RemU 0 ≡ None
unfolding count_trailing_zeros
remainder_by_0 = refl

remainder_by_3 : immediate_of operators.RemU 3 ≡ None
unfolding count_trailing_zeros
remainder_by_3 = refl

-- a signed quotient rounds toward 0, a shift rounds down; and a quotient with a power of two on its left has no form
signed_quotient : immediate_of operators.DivS 8 ≡ None
signed_quotient = refl

quotient_of_power : immediate_of_left operators.DivU 8 ≡ None
quotient_of_power = refl

-- a shift can have each exponent, on the right and on the left
shifted_by_31 : selected (Const 7 2147483648 ∷ Binary operators.Mul 10 11 7 ∷ Return ∷ []) ≡ Immediate immediate.Shl 10 11 31 ∷ One Return ∷ []
unfolding table count_trailing_zeros
shifted_by_31 = refl

factor_on_the_left : selected (Const 7 8 ∷ Binary operators.Mul 10 7 11 ∷ Return ∷ []) ≡ Immediate immediate.Shl 10 11 3 ∷ One Return ∷ []
unfolding table count_trailing_zeros
factor_on_the_left = refl

divided_by_10 : selected (Const 7 10 ∷ Binary operators.DivU 10 11 7 ∷ Return ∷ []) ≡ One (Const 7 10) ∷ One (Binary operators.DivU 10 11 7) ∷ One Return ∷ []
unfolding table count_trailing_zeros
divided_by_10 = refl

divided_by_1024 : selected (Const 7 1024 ∷ Binary operators.DivU 10 11 7 ∷ Return ∷ []) ≡ Immediate immediate.ShrU 10 11 10 ∷ One Return ∷ []
unfolding table count_trailing_zeros
divided_by_1024 = refl

-- a mask is a short word up to 2^11 - 1 = 2047
short_mask : selected (Const 7 2048 ∷ Binary operators.RemU 10 11 7 ∷ Return ∷ []) ≡ Immediate immediate.And 10 11 2047 ∷ One Return ∷ []
unfolding table count_trailing_zeros
short_mask = refl

long_mask : selected (Const 7 4096 ∷ Binary operators.RemU 10 11 7 ∷ Return ∷ []) ≡ One (Const 7 4096) ∷ One (Binary operators.RemU 10 11 7) ∷ One Return ∷ []
unfolding table count_trailing_zeros
long_mask = refl

-- ---- what is forgotten

-- words are forgotten at a label, since runs reach it from elsewhere
at_a_label : selected (Const 7 3 ∷ Label 1 ∷ Load Word 0 10 7 ∷ Return ∷ []) ≡ One (Const 7 3) ∷ One (Label 1) ∷ One (Load Word 0 10 7) ∷ One Return ∷ []
unfolding table
at_a_label = refl

-- a word in x7 is forgotten at a call, which destroys x7, so the constant is not read at all; x18 survives
at_a_call : selected (Const 7 3 ∷ Call 0 ∷ Load Word 0 10 7 ∷ Return ∷ []) ≡ One (Call 0) ∷ One (Load Word 0 10 7) ∷ One Return ∷ []
unfolding table
at_a_call = refl

past_a_call : selected (Const 18 3 ∷ Call 0 ∷ Load Word 0 10 18 ∷ Return ∷ []) ≡ One (Call 0) ∷ LoadAt Word 0 10 3 ∷ One Return ∷ []
unfolding table
past_a_call = refl

-- a word is forgotten when its register is written again
written_anew : selected (Const 7 3 ∷ Copy (Between 7 11) ∷ Load Word 0 10 7 ∷ Return ∷ []) ≡ One (Copy (Between 7 11)) ∷ One (Load Word 0 10 7) ∷ One Return ∷ []
unfolding table
written_anew = refl

-- an argument of a call is read
argument : selected (Const 10 3 ∷ Call 0 ∷ Return ∷ []) ≡ One (Const 10 3) ∷ One (Call 0) ∷ One Return ∷ []
unfolding table
argument = refl

-- ---- branches on constants

-- the code at the end: it returns 0 after the test, and 1 at the test's label
abbrev ends : List LinearItem
ends = Const 10 0 ∷ Return ∷ Label 1 ∷ Const 10 1 ∷ Return ∷ []

abbrev ends_selected : List Step
ends_selected = One (Const 10 0) ∷ One Return ∷ One (Label 1) ∷ One (Const 10 1) ∷ One Return ∷ []

-- a branch on a constant becomes a jump if it is certain to be taken, and nothing reads the constant
taken_at_1 : selected (Const 7 1 ∷ IfNonzero 7 1 ∷ ends) ≡ One (Jump 1) ∷ ends_selected
unfolding table
taken_at_1 = refl

taken_at_0 : selected (Const 7 0 ∷ IfZero 7 1 ∷ ends) ≡ One (Jump 1) ∷ ends_selected
unfolding table
taken_at_0 = refl

-- a branch that is certain not to be taken stays
not_taken_at_0 : selected (Const 7 0 ∷ IfNonzero 7 1 ∷ ends) ≡ One (Const 7 0) ∷ One (IfNonzero 7 1) ∷ ends_selected
unfolding table
not_taken_at_0 = refl

not_taken_at_1 : selected (Const 7 1 ∷ IfZero 7 1 ∷ ends) ≡ One (Const 7 1) ∷ One (IfZero 7 1) ∷ ends_selected
unfolding table
not_taken_at_1 = refl

-- nothing is known about x8
branch_on_another : selected (Const 7 1 ∷ IfNonzero 8 1 ∷ ends) ≡ One (IfNonzero 8 1) ∷ ends_selected
unfolding table
branch_on_another = refl

-- after a branch that is certain to be taken, words stay known, though no run gets there
behind_a_taken_one : selected (Const 7 3 ∷ IfNonzero 7 1 ∷ Load Word 0 10 7 ∷ Return ∷ Label 1 ∷ Return ∷ []) ≡ One (Jump 1) ∷ LoadAt Word 0 10 3 ∷ One Return ∷ One (Label 1) ∷ One Return ∷ []
unfolding table
behind_a_taken_one = refl

-- ---- comparisons and tests

joined_comparison : selected (Binary operators.LtS 7 10 11 ∷ IfNonzero 7 1 ∷ ends) ≡ Branch operators.LtS true 10 11 1 ∷ ends_selected
unfolding table
joined_comparison = refl

-- C's == and != arrive as xor
joined_xor : selected (Binary operators.Xor 7 10 11 ∷ IfZero 7 1 ∷ ends) ≡ Branch operators.Ne false 10 11 1 ∷ ends_selected
unfolding table
joined_xor = refl

joined_zero : selected (Unary IsZero 7 10 ∷ IfNonzero 7 1 ∷ ends) ≡ One (IfZero 10 1) ∷ ends_selected
unfolding table
joined_zero = refl

-- a comparison with a word is joined with its test if the branch gains by it
joined_word : selected (Const 8 0 ∷ Binary operators.LtS 7 10 8 ∷ IfNonzero 7 1 ∷ ends) ≡ BranchImmediate immediate.LtS true 10 0 1 ∷ ends_selected
unfolding table
joined_word = refl

joined_on_the_left : selected (Const 8 6 ∷ Binary operators.LeS 7 8 10 ∷ IfZero 7 1 ∷ ends) ≡ BranchImmediate immediate.GeS false 10 6 1 ∷ ends_selected
unfolding table
joined_on_the_left = refl

word_without_gain : selected (Const 8 100 ∷ Binary operators.LtS 7 10 8 ∷ IfNonzero 7 1 ∷ ends) ≡ Immediate immediate.LtS 7 10 100 ∷ One (IfNonzero 7 1) ∷ ends_selected
unfolding table
word_without_gain = refl

-- the value is read at the label or after the test, or the test is of another register: there are still two steps
read_at_the_label : selected (Binary operators.LtS 7 10 11 ∷ IfNonzero 7 1 ∷ Return ∷ Label 1 ∷ Copy (Between 10 7) ∷ Return ∷ [])
    ≡ One (Binary operators.LtS 7 10 11) ∷ One (IfNonzero 7 1) ∷ One Return ∷ One (Label 1) ∷ One (Copy (Between 10 7)) ∷ One Return ∷ []
unfolding table
read_at_the_label = refl

read_behind : selected (Binary operators.LtS 7 10 11 ∷ IfNonzero 7 1 ∷ Copy (Between 10 7) ∷ Return ∷ Label 1 ∷ Return ∷ [])
    ≡ One (Binary operators.LtS 7 10 11) ∷ One (IfNonzero 7 1) ∷ One (Copy (Between 10 7)) ∷ One Return ∷ One (Label 1) ∷ One Return ∷ []
unfolding table
read_behind = refl

another_register : selected (Binary operators.LtS 10 10 11 ∷ IfNonzero 12 1 ∷ Return ∷ Label 1 ∷ Return ∷ []) ≡ One (Binary operators.LtS 10 10 11) ∷ One (IfNonzero 12 1) ∷ One Return ∷ One (Label 1) ∷ One Return ∷ []
unfolding table
another_register = refl

-- ---- a loop: its jump back needs a second sweep; the constant in it is left out, those before it stay, and its test goes before its label
-- and into its jump back

abbrev loop : List LinearItem
loop = Const 18 10 ∷ Const 19 0 ∷ Label 7 ∷ IfZero 18 9 ∷ Binary operators.Add 19 19 18 ∷ Const 7 1 ∷ Binary operators.Sub 18 18 7 ∷ Jump 7 ∷ Label 9 ∷ Copy (Between 10 19) ∷ Return ∷ []

loop_selected : selected loop
    ≡ One (Const 18 10) ∷ One (Const 19 0) ∷ One (Jump 7) ∷ One (Label 7) ∷ One (Binary operators.Add 19 19 18) ∷ Immediate immediate.Sub 18 18 1 ∷ One (IfZero 18 9) ∷ One (Jump 7) ∷ One (Label 9) ∷ One (Copy (Between 10 19)) ∷ One Return ∷ []
unfolding table
loop_selected = refl

counter_at_its_head : table (chosen unknown loop) 7 18 ≡ true
unfolding table
counter_at_its_head = refl

counter_behind_it : table (chosen unknown loop) 9 18 ≡ false
unfolding table
counter_behind_it = refl

sum_at_its_head : table (chosen unknown loop) 7 19 ≡ true
unfolding table
sum_at_its_head = refl

constant_at_its_head : table (chosen unknown loop) 7 7 ≡ false
unfolding table
constant_at_its_head = refl

-- ---- what steps do, with x10 at -1 and x11 at 6

abbrev locations : Locations
locations = put (Register 10) (2 ^ 32 - 1) (put (Register 11) 6 (λ l. 0))

abbrev world : World
world = record { globals = []; input = []; output = [] }

abbrev code : List Step
code = BranchImmediate immediate.LtS true 10 0 1 ∷ One Return ∷ One (Label 1) ∷ Branch operators.LeU false 10 11 1 ∷ One Return ∷ []

-- -1 is less than 0: the run goes on at the label
less_leads : does (λ f. 0) code code locations world [] ≡ Goes (at_steps (One (Label 1) ∷ Branch operators.LeU false 10 11 1 ∷ One Return ∷ []) locations world [])
less_leads = refl

-- 2^32 - 1 is not at most 6: the run goes on at the label too
not_at_most_leads : does (λ f. 0) code (One (Label 1) ∷ Branch operators.LeU false 10 11 1 ∷ One Return ∷ []) locations world [] ≡ Goes (at_steps (One (Label 1) ∷ Branch operators.LeU false 10 11 1 ∷ One Return ∷ []) locations world [])
not_at_most_leads = refl

-- -1 + 5 is 4
sum : does (λ f. 0) code (Immediate immediate.Add 12 10 5 ∷ []) locations world [] ≡ Goes (at_steps [] (put (Register 12) 4 locations) world [])
sum = refl
