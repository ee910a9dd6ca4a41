-- The instructions of an assignment: those of the target's index, those of the right side, and the write,
-- which comes last.
use Rattle.std.proofs.Common.{◌≡◌, ℕ, ◌+◌, ◌-◌, List, [], ◌∷◌, ◌++◌, length, set, Option, Result, Ok, Err, OnOk, refl, sym, ap, ◌∙◌, append_assoc}
use Rattle.cc_ast.specs.Tree.{Target, AtVariable, AtElement}
use Rattle.cc_layout.specs.Environment.{Environment}
use Rattle.cc_meaning.specs.internal.Form.{assignment_code}
use Rattle.cc_meaning.specs.internal.Emitted.{index_code, write_of}
use Rattle.cc_resolve.specs.declared.operations.BinaryOperation.{BinaryOperation}
use Rattle.cc_meaning.specs.declared.form.Instruction.{Instruction}
use Rattle.cc_meaning.proofs.WritingExpressions.{behind, set_behind}

in-parts : (op : Option BinaryOperation) (v : Environment) (t : Target) (right : List Instruction) → (index_code v t ++ right) ++ write_of op v t ∷ [] ≡ assignment_code op v t right
in-parts op v (AtVariable x) right = refl
in-parts op v (AtElement x e) right = refl

pub assigned : {A E : Type 0} (r : Result A E) (op : Option BinaryOperation) (v : Environment) (t : Target) (right old second written new : List Instruction) (n : ℕ) (before w : Instruction)
    → n ≡ length old → second ≡ right ++ before ∷ old → w ≡ write_of op v t → written ≡ set second (length second - (n + 1)) w
    → OnOk r (new ≡ index_code v t ++ written) → OnOk r (new ≡ assignment_code op v t right ++ old)
assigned (Err x) op v t right old second written new n before w en e2 ew e3 e4 = tt
assigned (Ok a) op v t right old second written new n before w en e2 ew e3 e4 =
    let stands : written ≡ right ++ write_of op v t ∷ old = e3 ∙ ap (set second (length second - (n + 1))) ew ∙ set_behind right old second before (write_of op v t) n e2 en in
    behind (index_code v t) right (write_of op v t ∷ old) written new e4 stands
    ∙ sym (append_assoc (index_code v t ++ right) (write_of op v t ∷ []) old) ∙ ap (λ l. l ++ old) (in-parts op v t right)
