-- Worked examples of threading, by computation: a truth value that is tested where it is computed, tests that become jumps, and tests that
-- stay where they are.
use Rattle.std.specs.Prelude.{◌≡◌, refl, true, Some, None, List, [], ◌∷◌}
use Rattle.cc_words.specs.declared.operators.Binary.TheVariants as operators
use Rattle.cc_ltl.specs.declared.operation.Move.TheVariants.{Between}
use Rattle.cc_linear_language.specs.declared.item.LinearItem.{LinearItem}
use Rattle.cc_linear_language.specs.declared.item.LinearItem.TheVariants.{Label, Jump, IfNonzero, IfZero, Copy, Const, Binary, Write, Return}
use Rattle.cc_select.specs.declared.step.Step.TheVariants.{One, Branch}
use Rattle.cc_select.specs.Threading.{tests, threaded}
use Rattle.cc_select.specs.Table.{table}
use Rattle.cc_select.specs.Selection.{selected}

-- where two paths meet, x7 is tested: the run goes on at label 3 if it is not 0
abbrev meeting : List LinearItem
meeting = Label 2 ∷ IfNonzero 7 3 ∷ Return ∷ Label 3 ∷ Write ∷ Return ∷ []

-- ---- `a && b`: 0 if x10 is 0, else whether x11 is less than x12

abbrev conjunction : List LinearItem
conjunction = IfZero 10 1 ∷ Binary operators.LtS 7 11 12 ∷ Jump 2 ∷ Label 1 ∷ Const 7 0 ∷ meeting

goes_before : tests conjunction 2 ≡ Some (IfNonzero 7 3)
goes_before = refl

-- a branch leads to label 1, and there is no test after label 3
none_at_the_branched : tests conjunction 1 ≡ None
none_at_the_branched = refl

none_at_the_other : tests conjunction 3 ≡ None
none_at_the_other = refl

conjunction_threaded : threaded conjunction
    ≡ IfZero 10 1 ∷ Binary operators.LtS 7 11 12 ∷ IfNonzero 7 3 ∷ Jump 2 ∷ Label 1 ∷ Const 7 0 ∷ Jump 2 ∷ Label 2 ∷ Return ∷ Label 3 ∷ Write ∷ Return ∷ []
conjunction_threaded = refl

-- after threading nothing reads x7: the comparison becomes a branch, and the constant is left out
conjunction_selected : selected conjunction
    ≡ One (IfZero 10 1) ∷ Branch operators.LtS true 11 12 3 ∷ One (Jump 2) ∷ One (Label 1) ∷ One (Jump 2) ∷ One (Label 2) ∷ One Return ∷ One (Label 3) ∷ One Write ∷ One Return ∷ []
unfolding table
conjunction_selected = refl

-- ---- known words: the test becomes a jump to where it leads, past it, or to its label

jump_there : threaded (Const 7 5 ∷ Jump 2 ∷ meeting) ≡ Const 7 5 ∷ Jump 3 ∷ IfNonzero 7 3 ∷ Label 2 ∷ Return ∷ Label 3 ∷ Write ∷ Return ∷ []
jump_there = refl

jump_on : threaded (Const 7 0 ∷ Jump 2 ∷ meeting) ≡ Const 7 0 ∷ Jump 2 ∷ IfNonzero 7 3 ∷ Label 2 ∷ Return ∷ Label 3 ∷ Write ∷ Return ∷ []
jump_on = refl

fall_there : threaded (Const 7 5 ∷ meeting) ≡ Const 7 5 ∷ Jump 3 ∷ Label 2 ∷ Return ∷ Label 3 ∷ Write ∷ Return ∷ []
fall_there = refl

zero_there : threaded (Const 7 0 ∷ Jump 2 ∷ Label 2 ∷ IfZero 7 3 ∷ Return ∷ Label 3 ∷ Return ∷ []) ≡ Const 7 0 ∷ Jump 3 ∷ IfZero 7 3 ∷ Label 2 ∷ Return ∷ Label 3 ∷ Return ∷ []
zero_there = refl

zero_on : threaded (Const 7 5 ∷ Jump 2 ∷ Label 2 ∷ IfZero 7 3 ∷ Return ∷ Label 3 ∷ Return ∷ []) ≡ Const 7 5 ∷ Jump 2 ∷ IfZero 7 3 ∷ Label 2 ∷ Return ∷ Label 3 ∷ Return ∷ []
zero_on = refl

-- the word of another register says nothing about the tested one
another_register : threaded (Const 8 0 ∷ Jump 2 ∷ meeting) ≡ Const 8 0 ∷ IfNonzero 7 3 ∷ Jump 2 ∷ IfNonzero 7 3 ∷ Label 2 ∷ Return ∷ Label 3 ∷ Write ∷ Return ∷ []
another_register = refl

-- ---- what stays

-- a test stays if a branch leads to its label
branched : threaded (IfZero 10 2 ∷ Const 7 0 ∷ Jump 2 ∷ meeting) ≡ IfZero 10 2 ∷ Const 7 0 ∷ Jump 2 ∷ meeting
branched = refl

-- a test stays if another item is between it and the label
not_directly_behind : threaded (Jump 2 ∷ Label 2 ∷ Copy (Between 7 10) ∷ IfNonzero 7 3 ∷ Label 3 ∷ Return ∷ []) ≡ Jump 2 ∷ Label 2 ∷ Copy (Between 7 10) ∷ IfNonzero 7 3 ∷ Label 3 ∷ Return ∷ []
not_directly_behind = refl
