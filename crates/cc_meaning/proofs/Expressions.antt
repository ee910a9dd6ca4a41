-- The instructions of an expression push its value, by recursion on the tree. What a call does is a parameter.
use Rattle.std.proofs.Common.{◌≡◌, ℕ, zero, suc, ◌+◌, ◌<◌, ◌≤◌, true, not, if◌then◌else◌, ◌&&◌, List, [], ◌∷◌, ◌++◌, length, reverse, inl, inr, Option, Some, None, slice_get, refl, sym, ap, ◌∙◌, subst, arith, length-append}
use Rattle.std.proofs.lemmas.Bool.Decides.{leb_tells}
use Rattle.std.proofs.Math.Dec.{eqb-suc-zero}
use Rattle.cc_words.specs.Words.{truth_value}
use Rattle.cc_tokens.specs.declared.scalar.Scalar.{Scalar}
use Rattle.cc_ast.specs.declared.ast.UnaryOperator.{UnaryOperator}
use Rattle.cc_ast.specs.declared.ast.UnaryOperator.TheVariants as unary
use Rattle.cc_ast.specs.declared.ast.BinaryOperator.{BinaryOperator}
use Rattle.cc_ast.specs.declared.ast.BinaryOperator.TheVariants.{LogicalAnd, LogicalOr}
use Rattle.cc_types.specs.Operators.{unary_word, binary_word, decided, is_true}
use Rattle.cc_layout.specs.declared.layout.Extent.{Extent}
use Rattle.cc_resolve.specs.declared.operations.BinaryOperation.{BinaryOperation}
use Rattle.cc_meaning.specs.declared.form.Instruction.{Instruction}
use Rattle.cc_meaning.specs.declared.form.Instruction.TheVariants as instruction
use Rattle.cc_meaning.specs.internal.Form.{FormTree, unary_code, call_of, joined}
use Rattle.cc_layout.specs.Environment.{Environment}
use Rattle.cc_layout.specs.Layout.{Layout, extent_of}
use Rattle.cc_resolve.specs.Operations.{operation}
use Rattle.cc_c_semantics.specs.Outcome as outcome
use Rattle.cc_c_semantics.specs.declared.cause.Cause.TheVariants.{Index}
use Rattle.cc_c_semantics.specs.Meaning.{State, Run, Gives, Wrong, then_do, choose, Calls, global_words, read_element, cause_of, given, unless_decided}
use Rattle.cc_meaning.specs.internal.FormMeaning.{Activation, Configuration, Move, Goes, Stops, instruction_move, cause_of_operation, with_word}
use Rattle.cc_c_semantics.proofs.Named.{there}
use Rattle.cc_c_semantics.proofs.Held.{all_of, get_past}
use Rattle.cc_meaning.proofs.Moves.{Leads, leads_refl, leads_then, conf, Meets, meets_then, meets_after, meets_same, Stands, stands_end, stands_left, stands_right, instructed, instructed_last, may_jump, jumps}
use Rattle.cc_meaning.proofs.Plain.{IsPlain, Kind, IsAnd, IsOr, IsOther}
use Rattle.cc_meaning.proofs.Fits.{Fits, found_object}

-- after some instructions the form has a word above the operands that were there
pub record Value (form : FormTree) (cs : List Activation) (total : ℕ) (c : Configuration) (v : Environment) (most : ℕ) (vs : List ℕ) (q : ℕ) (ops : List ℕ) (w : ℕ) (t : State) : Type 0 where
  pub fits : Fits v total most vs t
  pub leads : Leads form c (conf q vs (w ∷ ops) cs t)

-- after some instructions the form has several words above the operands that were there, the last one newest
pub record Values (form : FormTree) (cs : List Activation) (total : ℕ) (c : Configuration) (v : Environment) (most : ℕ) (vs : List ℕ) (q count : ℕ) (ops : List ℕ) (ws : List ℕ) (t : State) : Type 0 where
  pub fits : Fits v total most vs t
  pub many : length ws ≡ count
  pub leads : Leads form c (conf q vs (reverse ws ++ ops) cs t)

-- each call with the right number of words does in the form what it does in the source, if fewer than n steps are left
abbrev pub CallsMeet : FormTree → Layout → (List ℕ → ℕ → Type 0) → List Activation → (total n : ℕ) → Calls → Type 0
CallsMeet form layout Takes cs total n call =
    (v : Environment) (f ws : List ℕ) (p : ℕ) (vs ops : List ℕ) (s : State) (most : ℕ)
    → v.layout ≡ layout → Takes f (length ws) → slice_get form.code p ≡ Some (call_of v f) → Fits v total most vs s → most < n
    → Meets form (conf p vs (reverse ws ++ ops) cs s) (Value form cs total (conf p vs (reverse ws ++ ops) cs s) v most vs (p + 1) ops) (call f ws s)

module _ (form : FormTree) (cs : List Activation) (total : ℕ) where
  -- the instructions do what the expression does, at any place in the code
  abbrev pub Part : Environment → (most : ℕ) (vs : List ℕ) → List Instruction → (State → Run ℕ) → Type 0
  Part v most vs code part =
      (p : ℕ) (ops : List ℕ) (s : State) → Stands form.code p code → Fits v total most vs s
      → Meets form (conf p vs ops cs s) (Value form cs total (conf p vs ops cs s) v most vs (p + length code) ops) (part s)

  -- a value that is reached from d is also reached from c, if c leads to d
  pub value_after : (v : Environment) (most : ℕ) (vs ops : List ℕ) (c d : Configuration) (q q' : ℕ) (r : Run ℕ) → Leads form c d → q ≡ q'
      → Meets form d (Value form cs total d v most vs q ops) r → Meets form c (Value form cs total c v most vs q' ops) r
  value_after v most vs ops c d q q' r p e h =
      meets_after form c d (Value form cs total d v most vs q ops) (Value form cs total c v most vs q' ops) r p
      (λ w t x. record { fits = x.fits; leads = leads_then form c d (conf q' vs (w ∷ ops) cs t) p (subst (λ k. Leads form d (conf k vs (w ∷ ops) cs t)) e x.leads) }) h

  -- an instruction whose move pushes a word leads to a configuration with that word
  pub pushes : (v : Environment) (most : ℕ) (vs before ops : List ℕ) (p q w : ℕ) (s : State) (i : Instruction) → slice_get form.code p ≡ Some i → Fits v total most vs s → q ≡ p + 1
      → instruction_move form i (conf (p + 1) vs before cs s) ≡ Goes (conf (p + 1) vs (w ∷ ops) cs s)
      → Value form cs total (conf p vs before cs s) v most vs q ops w s
  pushes v most vs before ops p q w s i e h at move = record {
    fits = h;
    leads = instructed form i p vs before cs s (conf q vs (w ∷ ops) cs s) e (move ∙ ap (λ k. Goes (conf k vs (w ∷ ops) cs s)) (sym at));
  }

  -- ---- elements

  element_by : (v : Environment) (most : ℕ) (vs ops : List ℕ) (p i : ℕ) (x : List ℕ) (s : State) (o : Option ℕ) → slice_get form.code p ≡ Some (instruction.Element (extent_of v.layout.objects x)) → Fits v total most vs s
      → slice_get (global_words s.globals x) i ≡ o
      → instruction_move form (instruction.Element (extent_of v.layout.objects x)) (conf (p + 1) vs (i ∷ ops) cs s)
      ≡ elim o [ None ↦ Stops (outcome.Wrong Index) | Some w ↦ Goes (conf (p + 1) vs (w ∷ ops) cs s) ]
      → Meets form (conf p vs (i ∷ ops) cs s) (Value form cs total (conf p vs (i ∷ ops) cs s) v most vs (p + 1) ops) (elim o [ None ↦ Wrong Index s.output | Some w ↦ Gives w s ])
  element_by v most vs ops p i x s None e h is move = instructed_last form (instruction.Element (extent_of v.layout.objects x)) p vs (i ∷ ops) cs s (outcome.Wrong Index) e move
  element_by v most vs ops p i x s (Some w) e h is move = pushes v most vs (i ∷ ops) ops p (p + 1) w s (instruction.Element (extent_of v.layout.objects x)) e h refl move

  -- the move of `Element`, depending on whether the array has the element
  element_move : (v : Environment) (most : ℕ) (vs ops : List ℕ) (p i : ℕ) (x : List ℕ) (s : State) → Fits v total most vs s
      → instruction_move form (instruction.Element (extent_of v.layout.objects x)) (conf p vs (i ∷ ops) cs s)
      ≡ elim (slice_get (global_words s.globals x) i) [ None ↦ Stops (outcome.Wrong Index) | Some w ↦ Goes (conf p vs (w ∷ ops) cs s) ]
  element_move v most vs ops p i x s h =
      let ext : Extent = extent_of v.layout.objects x in
      let f = found_object v total most vs s x h in
      let going : Move = with_word (slice_get (all_of s.globals) (ext.offset + i)) (λ w. Goes (conf p vs (w ∷ ops) cs s)) in
      elim (leb_tells (suc i) ext.length) [
        | inl t ↦
            (let lt : i < ext.length = t.1 in
            let got = there (global_words s.globals x) i (let k = f.size in omega arith) in
            ap (λ b. if b then going else Stops (outcome.Wrong Index)) t.0
            ∙ ap (λ (o : Option ℕ). with_word o (λ w. Goes (conf p vs (w ∷ ops) cs s))) (f.reads i lt ∙ got.1)
            ∙ ap (λ (o : Option ℕ). elim o [ None ↦ Stops (outcome.Wrong Index) | Some w ↦ Goes (conf p vs (w ∷ ops) cs s) ]) (sym got.1))
        | inr t ↦
            (let past : slice_get (global_words s.globals x) i ≡ None = get_past (global_words s.globals x) i (let k = f.size in let u = t.1 in omega arith) in
            ap (λ b. if b then going else Stops (outcome.Wrong Index)) t.0
            ∙ ap (λ (o : Option ℕ). elim o [ None ↦ Stops (outcome.Wrong Index) | Some w ↦ Goes (conf p vs (w ∷ ops) cs s) ]) (sym past))
      ]

  pub element_meets : (v : Environment) (most : ℕ) (vs ops : List ℕ) (p i : ℕ) (x : List ℕ) (s : State) → slice_get form.code p ≡ Some (instruction.Element (extent_of v.layout.objects x)) → Fits v total most vs s
      → Meets form (conf p vs (i ∷ ops) cs s) (Value form cs total (conf p vs (i ∷ ops) cs s) v most vs (p + 1) ops) (read_element x i s)
  element_meets v most vs ops p i x s e h = element_by v most vs ops p i x s (slice_get (global_words s.globals x) i) e h refl (element_move v most vs ops (p + 1) i x s h)

  -- ---- operators

  pub unary_leads : (v : Environment) (most : ℕ) (vs ops : List ℕ) (p a : ℕ) (op : UnaryOperator) (s : State) → Stands form.code p (unary_code op) → Fits v total most vs s
      → Value form cs total (conf p vs (a ∷ ops) cs s) v most vs (p + length (unary_code op)) ops (unary_word op a) s
  unary_leads v most vs ops p a unary.Plus s st h = record {
    fits = h;
    leads = subst (λ k. Leads form (conf p vs (a ∷ ops) cs s) (conf k vs (a ∷ ops) cs s)) (let z : p ≡ p + 0 = omega arith in z) (leads_refl form (conf p vs (a ∷ ops) cs s));
  }
  unary_leads v most vs ops p a unary.Minus s st h = pushes v most vs (a ∷ ops) ops p (p + 1) (unary_word unary.Minus a) s _ st.0 h refl refl
  unary_leads v most vs ops p a unary.Complement s st h = pushes v most vs (a ∷ ops) ops p (p + 1) (unary_word unary.Complement a) s _ st.0 h refl refl
  unary_leads v most vs ops p a unary.Not s st h = pushes v most vs (a ∷ ops) ops p (p + 1) (unary_word unary.Not a) s _ st.0 h refl refl

  -- the instruction of a plain operator on two words pushes its value, or goes wrong as the source does
  given_by : (v : Environment) (most : ℕ) (vs ops : List ℕ) (p a b : ℕ) (op : BinaryOperator) (t : Scalar) (s : State) (o : Option ℕ) → IsPlain op
      → slice_get form.code p ≡ Some (instruction.Binary (operation op t)) → Fits v total most vs s → binary_word op t a b ≡ o
      → Meets form (conf p vs (b ∷ a ∷ ops) cs s) (Value form cs total (conf p vs (b ∷ a ∷ ops) cs s) v most vs (p + 1) ops) (given op o s)
  given_by v most vs ops p a b op t s None plain e h is =
      instructed_last form (instruction.Binary (operation op t)) p vs (b ∷ a ∷ ops) cs s (outcome.Wrong (cause_of op)) e
      (ap (λ (o : Option ℕ). elim o [ None ↦ Stops (outcome.Wrong (cause_of_operation (operation op t))) | Some w ↦ Goes (conf (p + 1) vs (w ∷ ops) cs s) ]) (plain.works t a b ∙ is)
      ∙ ap (λ x. Stops (outcome.Wrong x)) (plain.fails t))
  given_by v most vs ops p a b op t s (Some w) plain e h is =
      pushes v most vs (b ∷ a ∷ ops) ops p (p + 1) w s (instruction.Binary (operation op t)) e h refl
      (ap (λ (o : Option ℕ). elim o [ None ↦ Stops (outcome.Wrong (cause_of_operation (operation op t))) | Some x ↦ Goes (conf (p + 1) vs (x ∷ ops) cs s) ]) (plain.works t a b ∙ is))

  -- what an operator does in the source: first the operands that it needs, then the operator
  abbrev pub both_operands : BinaryOperator → Scalar → (State → Run ℕ) → (State → Run ℕ) → State → Run ℕ
  both_operands op t first second s =
      then_do (first s) (λ a u. unless_decided (decided op a) (λ x. then_do (second x) (λ b y. given op (binary_word op t a b) y)) u)

  plain_meets : (v : Environment) (most : ℕ) (vs : List ℕ) (op : BinaryOperator) (t : Scalar) (left right : List Instruction) (first second : State → Run ℕ) → IsPlain op
      → Part v most vs left first → Part v most vs right second → Part v most vs (joined op (operation op t) left right) (both_operands op t first second)
  plain_meets v most vs op t left right first second plain f g p ops s st h =
      let code : List Instruction = (left ++ right) ++ instruction.Binary (operation op t) ∷ [] in
      let joins : joined op (operation op t) left right ≡ code = plain.joins (operation op t) left right in
      let st' : Stands form.code p code = subst (λ xs. Stands form.code p xs) joins st in
      let c = conf p vs ops cs s in
      let l = length left in
      let r = length right in
      let end : p + l + r + 1 ≡ p + length (joined op (operation op t) left right) =
      (let e = length-append (left ++ right) (instruction.Binary (operation op t) ∷ []) in let e' = length-append left right in let z : p + l + r + 1 ≡ p + length code = omega arith in z)
      ∙ ap (λ xs. p + length xs) (sym joins) in
      let in_left = stands_left form.code p left right (stands_left form.code p (left ++ right) (instruction.Binary (operation op t) ∷ []) st') in
      let in_right = stands_right form.code p (p + l) left right refl (stands_left form.code p (left ++ right) (instruction.Binary (operation op t) ∷ []) st') in
      let in_last = stands_right form.code p (p + l + r) (left ++ right) (instruction.Binary (operation op t) ∷ []) (let e' = length-append left right in omega arith) st' in
      meets_then form c (Value form cs total c v most vs (p + l) ops) (Value form cs total c v most vs (p + length (joined op (operation op t) left right)) ops) (first s)
      (λ a u. unless_decided (decided op a) (λ x. then_do (second x) (λ b y. given op (binary_word op t a b) y)) u) (f p ops s in_left h)
      (λ a u got.
      let d = conf (p + l) vs (a ∷ ops) cs u in
      meets_same form c (Value form cs total c v most vs (p + length (joined op (operation op t) left right)) ops)
      (unless_decided (decided op a) (λ x. then_do (second x) (λ b y. given op (binary_word op t a b) y)) u) (then_do (second u) (λ b y. given op (binary_word op t a b) y))
      (ap (λ o. unless_decided o (λ x. then_do (second x) (λ b y. given op (binary_word op t a b) y)) u) (plain.undecided a))
      (value_after v most vs ops c d (p + l + r + 1) (p + length (joined op (operation op t) left right)) (then_do (second u) (λ b y. given op (binary_word op t a b) y)) got.leads end
      (meets_then form d (Value form cs total d v most vs (p + l + r) (a ∷ ops)) (Value form cs total d v most vs (p + l + r + 1) ops) (second u) (λ b y. given op (binary_word op t a b) y)
      (g (p + l) (a ∷ ops) u in_right got.fits)
      (λ b y got'.
      value_after v most vs ops d (conf (p + l + r) vs (b ∷ a ∷ ops) cs y) (p + l + r + 1) (p + l + r + 1) (given op (binary_word op t a b) y) got'.leads refl
      (given_by v most vs ops (p + l + r) a b op t y (binary_word op t a b) plain in_last.0 got'.fits refl)))))

  -- ---- && and ||

  true_word : (a : ℕ) → is_true (suc a) ≡ true
  true_word a = ap not (eqb-suc-zero a)

  -- at the end of `&&` or `||`, the instructions push the right operand as 0 or 1
  truth_meets : (v : Environment) (most : ℕ) (vs ops : List ℕ) (p q : ℕ) (right : List Instruction) (second : State → Run ℕ) (op : BinaryOperator) (t : Scalar) (a : ℕ) (s : State)
      → ((b : ℕ) → binary_word op t a b ≡ Some (truth_value (is_true b))) → Part v most vs right second → Stands form.code p right → slice_get form.code (p + length right) ≡ Some instruction.Truth
      → q ≡ p + length right + 1 → Fits v total most vs s
      → Meets form (conf p vs ops cs s) (Value form cs total (conf p vs ops cs s) v most vs q ops) (then_do (second s) (λ b y. given op (binary_word op t a b) y))
  truth_meets v most vs ops p q right second op t a s is g st e at h =
      let c = conf p vs ops cs s in
      meets_then form c (Value form cs total c v most vs (p + length right) ops) (Value form cs total c v most vs q ops) (second s) (λ b y. given op (binary_word op t a b) y) (g p ops s st h)
      (λ b y got.
      let d = conf (p + length right) vs (b ∷ ops) cs y in
      let w = truth_value (is_true b) in
      value_after v most vs ops c d q q (given op (binary_word op t a b) y) got.leads refl
      (meets_same form d (Value form cs total d v most vs q ops) (given op (binary_word op t a b) y) (Gives w y) (ap (λ o. given op o y) (is b))
      (pushes v most vs (b ∷ ops) ops (p + length right) q w y instruction.Truth e got.fits at refl)))

  and_code : (n : ℕ) (left right : List Instruction) → length ((left ++ instruction.AndThen n ∷ right) ++ instruction.Truth ∷ []) ≡ length left + 1 + length right + 1
  and_code n left right = let e = length-append (left ++ instruction.AndThen n ∷ right) (instruction.Truth ∷ []) in let e' = length-append left (instruction.AndThen n ∷ right) in omega arith

  or_code : (n : ℕ) (left right : List Instruction) → length ((left ++ instruction.OrElse n ∷ right) ++ instruction.Truth ∷ []) ≡ length left + 1 + length right + 1
  or_code n left right = let e = length-append (left ++ instruction.OrElse n ∷ right) (instruction.Truth ∷ []) in let e' = length-append left (instruction.OrElse n ∷ right) in omega arith

  and_behind : (v : Environment) (most : ℕ) (vs ops : List ℕ) (p q a : ℕ) (t : Scalar) (right : List Instruction) (second : State → Run ℕ) (s : State) → Part v most vs right second
      → slice_get form.code p ≡ Some (instruction.AndThen (length right + 1)) → Stands form.code (p + 1) right → slice_get form.code (p + 1 + length right) ≡ Some instruction.Truth
      → q ≡ p + 1 + length right + 1 → q ≤ length form.code → Fits v total most vs s
      → Meets form (conf p vs (a ∷ ops) cs s) (Value form cs total (conf p vs (a ∷ ops) cs s) v most vs q ops)
      (unless_decided (decided LogicalAnd a) (λ x. then_do (second x) (λ b y. given LogicalAnd (binary_word LogicalAnd t a b) y)) s)
  and_behind v most vs ops p q zero t right second s g e st e' at le h = record {
    fits = h;
    leads = instructed form (instruction.AndThen (length right + 1)) p vs (zero ∷ ops) cs s (conf q vs (0 ∷ ops) cs s) e
        (may_jump form (p + 1 + (length right + 1)) (Goes (conf (p + 1 + (length right + 1)) vs (0 ∷ ops) cs s)) (omega arith)
        ∙ ap (λ k. Goes (conf k vs (0 ∷ ops) cs s)) (let z : p + 1 + (length right + 1) ≡ q = omega arith in z));
  }
  and_behind v most vs ops p q (suc a) t right second s g e st e' at le h =
      let c = conf p vs (suc a ∷ ops) cs s in
      let rest : State → Run ℕ = λ x. then_do (second x) (λ b y. given LogicalAnd (binary_word LogicalAnd t (suc a) b) y) in
      meets_same form c (Value form cs total c v most vs q ops) (unless_decided (decided LogicalAnd (suc a)) rest s) (rest s)
      (ap (λ b. unless_decided (if b then None else Some 0) rest s) (true_word a))
      (value_after v most vs ops c (conf (p + 1) vs ops cs s) q q (rest s)
      (instructed form (instruction.AndThen (length right + 1)) p vs (suc a ∷ ops) cs s (conf (p + 1) vs ops cs s) e refl) refl
      (truth_meets v most vs ops (p + 1) q right second LogicalAnd t (suc a) s (λ b. ap (λ x. Some (truth_value (x && is_true b))) (true_word a)) g st e' at h))

  or_behind : (v : Environment) (most : ℕ) (vs ops : List ℕ) (p q a : ℕ) (t : Scalar) (right : List Instruction) (second : State → Run ℕ) (s : State) → Part v most vs right second
      → slice_get form.code p ≡ Some (instruction.OrElse (length right + 1)) → Stands form.code (p + 1) right → slice_get form.code (p + 1 + length right) ≡ Some instruction.Truth
      → q ≡ p + 1 + length right + 1 → q ≤ length form.code → Fits v total most vs s
      → Meets form (conf p vs (a ∷ ops) cs s) (Value form cs total (conf p vs (a ∷ ops) cs s) v most vs q ops)
      (unless_decided (decided LogicalOr a) (λ x. then_do (second x) (λ b y. given LogicalOr (binary_word LogicalOr t a b) y)) s)
  or_behind v most vs ops p q zero t right second s g e st e' at le h =
      let c = conf p vs (zero ∷ ops) cs s in
      let rest : State → Run ℕ = λ x. then_do (second x) (λ b y. given LogicalOr (binary_word LogicalOr t zero b) y) in
      value_after v most vs ops c (conf (p + 1) vs ops cs s) q q (rest s)
      (instructed form (instruction.OrElse (length right + 1)) p vs (zero ∷ ops) cs s (conf (p + 1) vs ops cs s) e refl) refl
      (truth_meets v most vs ops (p + 1) q right second LogicalOr t zero s (λ b. refl) g st e' at h)
  or_behind v most vs ops p q (suc a) t right second s g e st e' at le h =
      let c = conf p vs (suc a ∷ ops) cs s in
      let rest : State → Run ℕ = λ x. then_do (second x) (λ b y. given LogicalOr (binary_word LogicalOr t (suc a) b) y) in
      meets_same form c (Value form cs total c v most vs q ops) (unless_decided (decided LogicalOr (suc a)) rest s) (Gives 1 s)
      (ap (λ b. unless_decided (if b then Some 1 else None) rest s) (true_word a))
      (record {
        fits = h;
        leads = instructed form (instruction.OrElse (length right + 1)) p vs (suc a ∷ ops) cs s (conf q vs (1 ∷ ops) cs s) e
            (may_jump form (p + 1 + (length right + 1)) (Goes (conf (p + 1 + (length right + 1)) vs (1 ∷ ops) cs s)) (omega arith)
            ∙ ap (λ k. Goes (conf k vs (1 ∷ ops) cs s)) (let z : p + 1 + (length right + 1) ≡ q = omega arith in z));
      })

  and_meets : (v : Environment) (most : ℕ) (vs : List ℕ) (o : BinaryOperation) (t : Scalar) (left right : List Instruction) (first second : State → Run ℕ)
      → Part v most vs left first → Part v most vs right second → Part v most vs (joined LogicalAnd o left right) (both_operands LogicalAnd t first second)
  and_meets v most vs o t left right first second f g p ops s st h =
      let n = length right + 1 in
      let prefix = left ++ instruction.AndThen n ∷ right in
      let code = prefix ++ instruction.Truth ∷ [] in
      let c = conf p vs ops cs s in
      let l = length left in
      let size = and_code n left right in
      let in_front = stands_left form.code p prefix (instruction.Truth ∷ []) st in
      let in_left = stands_left form.code p left (instruction.AndThen n ∷ right) in_front in
      let in_right = stands_right form.code p (p + l) left (instruction.AndThen n ∷ right) refl in_front in
      let in_last = stands_right form.code p (p + l + 1 + length right) prefix (instruction.Truth ∷ []) (let e = length-append left (instruction.AndThen n ∷ right) in omega arith) st in
      meets_then form c (Value form cs total c v most vs (p + l) ops) (Value form cs total c v most vs (p + length code) ops) (first s)
      (λ a u. unless_decided (decided LogicalAnd a) (λ x. then_do (second x) (λ b y. given LogicalAnd (binary_word LogicalAnd t a b) y)) u) (f p ops s in_left h)
      (λ a u got. value_after v most vs ops c (conf (p + l) vs (a ∷ ops) cs u) (p + length code) (p + length code)
      (unless_decided (decided LogicalAnd a) (λ x. then_do (second x) (λ b y. given LogicalAnd (binary_word LogicalAnd t a b) y)) u) got.leads refl
      (and_behind v most vs ops (p + l) (p + length code) a t right second u g in_right.0 in_right.1 in_last.0 (omega arith) (stands_end form.code p code st) got.fits))

  or_meets : (v : Environment) (most : ℕ) (vs : List ℕ) (o : BinaryOperation) (t : Scalar) (left right : List Instruction) (first second : State → Run ℕ)
      → Part v most vs left first → Part v most vs right second → Part v most vs (joined LogicalOr o left right) (both_operands LogicalOr t first second)
  or_meets v most vs o t left right first second f g p ops s st h =
      let n = length right + 1 in
      let prefix = left ++ instruction.OrElse n ∷ right in
      let code = prefix ++ instruction.Truth ∷ [] in
      let c = conf p vs ops cs s in
      let l = length left in
      let size = or_code n left right in
      let in_front = stands_left form.code p prefix (instruction.Truth ∷ []) st in
      let in_left = stands_left form.code p left (instruction.OrElse n ∷ right) in_front in
      let in_right = stands_right form.code p (p + l) left (instruction.OrElse n ∷ right) refl in_front in
      let in_last = stands_right form.code p (p + l + 1 + length right) prefix (instruction.Truth ∷ []) (let e = length-append left (instruction.OrElse n ∷ right) in omega arith) st in
      meets_then form c (Value form cs total c v most vs (p + l) ops) (Value form cs total c v most vs (p + length code) ops) (first s)
      (λ a u. unless_decided (decided LogicalOr a) (λ x. then_do (second x) (λ b y. given LogicalOr (binary_word LogicalOr t a b) y)) u) (f p ops s in_left h)
      (λ a u got. value_after v most vs ops c (conf (p + l) vs (a ∷ ops) cs u) (p + length code) (p + length code)
      (unless_decided (decided LogicalOr a) (λ x. then_do (second x) (λ b y. given LogicalOr (binary_word LogicalOr t a b) y)) u) got.leads refl
      (or_behind v most vs ops (p + l) (p + length code) a t right second u g in_right.0 in_right.1 in_last.0 (omega arith) (stands_end form.code p code st) got.fits))

  -- the instructions of any binary operator push its value
  pub binary_meets : (v : Environment) (most : ℕ) (vs : List ℕ) (op : BinaryOperator) (t : Scalar) (left right : List Instruction) (first second : State → Run ℕ) → Kind op
      → Part v most vs left first → Part v most vs right second → Part v most vs (joined op (operation op t) left right) (both_operands op t first second)
  binary_meets v most vs op t left right first second (IsAnd e) f g =
      subst (λ x. Part v most vs (joined x (operation x t) left right) (both_operands x t first second)) (sym e) (and_meets v most vs (operation LogicalAnd t) t left right first second f g)
  binary_meets v most vs op t left right first second (IsOr e) f g =
      subst (λ x. Part v most vs (joined x (operation x t) left right) (both_operands x t first second)) (sym e) (or_meets v most vs (operation LogicalOr t) t left right first second f g)
  binary_meets v most vs op t left right first second (IsOther plain) f g = plain_meets v most vs op t left right first second plain f g

  -- ---- a conditional

  -- `JumpIfZero` jumps if the word is 0
  pub branches : (n p q : ℕ) (vs ops : List ℕ) (s : State) → slice_get form.code p ≡ Some (instruction.JumpIfZero n) → q ≡ p + 1 + n → q ≤ length form.code
      → Leads form (conf p vs (zero ∷ ops) cs s) (conf q vs ops cs s)
  branches n p q vs ops s e at le =
      instructed form (instruction.JumpIfZero n) p vs (zero ∷ ops) cs s (conf q vs ops cs s) e
      (may_jump form (p + 1 + n) (Goes (conf (p + 1 + n) vs ops cs s)) (omega arith) ∙ ap (λ k. Goes (conf k vs ops cs s)) (sym at))

  pub passes : (n p w : ℕ) (vs ops : List ℕ) (s : State) → slice_get form.code p ≡ Some (instruction.JumpIfZero n) → Leads form (conf p vs (suc w ∷ ops) cs s) (conf (p + 1) vs ops cs s)
  passes n p w vs ops s e = instructed form (instruction.JumpIfZero n) p vs (suc w ∷ ops) cs s (conf (p + 1) vs ops cs s) e refl

  arms_meet : (v : Environment) (most : ℕ) (vs ops : List ℕ) (p w : ℕ) (left right : List Instruction) (first second : State → Run ℕ) (s : State)
      → Part v most vs left first → Part v most vs right second → slice_get form.code p ≡ Some (instruction.JumpIfZero (length left + 1)) → Stands form.code (p + 1) left
      → slice_get form.code (p + 1 + length left) ≡ Some (instruction.Jump (length right)) → Stands form.code (p + 1 + length left + 1) right → Fits v total most vs s
      → Meets form (conf p vs (w ∷ ops) cs s) (Value form cs total (conf p vs (w ∷ ops) cs s) v most vs (p + 1 + length left + 1 + length right) ops) (choose w first second s)
  arms_meet v most vs ops p zero left right first second s f g e st e' st' h =
      value_after v most vs ops (conf p vs (zero ∷ ops) cs s) (conf (p + 1 + length left + 1) vs ops cs s) _ _ (second s)
      (branches (length left + 1) p (p + 1 + length left + 1) vs ops s e (omega arith) (let z = stands_end form.code (p + 1 + length left + 1) right st' in omega arith)) refl
      (g (p + 1 + length left + 1) ops s st' h)
  arms_meet v most vs ops p (suc w) left right first second s f g e st e' st' h =
      let c = conf p vs (suc w ∷ ops) cs s in
      let d = conf (p + 1) vs ops cs s in
      let q = p + 1 + length left + 1 + length right in
      let to_d = passes (length left + 1) p w vs ops s e in
      meets_after form c d (Value form cs total d v most vs (p + 1 + length left) ops) (Value form cs total c v most vs q ops) (first s) to_d
      (λ x t got. record {
        fits = got.fits;
        leads = leads_then form c d (conf q vs (x ∷ ops) cs t) to_d (leads_then form d (conf (p + 1 + length left) vs (x ∷ ops) cs t) (conf q vs (x ∷ ops) cs t) got.leads
            (jumps form (length right) (p + 1 + length left) q vs (x ∷ ops) cs t e' (omega arith) (stands_end form.code (p + 1 + length left + 1) right st')));
      }) (f (p + 1) ops s st h)

  pub conditional_meets : (v : Environment) (most : ℕ) (vs : List ℕ) (test left right : List Instruction) (condition first second : State → Run ℕ)
      → Part v most vs test condition → Part v most vs left first → Part v most vs right second
      → Part v most vs (test ++ instruction.JumpIfZero (length left + 1) ∷ left ++ instruction.Jump (length right) ∷ right) (λ s. then_do (condition s) (λ w t. choose w first second t))
  conditional_meets v most vs test left right condition first second k f g p ops s st h =
      let prefix = test ++ instruction.JumpIfZero (length left + 1) ∷ left in
      let code = prefix ++ instruction.Jump (length right) ∷ right in
      let c = conf p vs ops cs s in
      let size = length-append prefix (instruction.Jump (length right) ∷ right) in
      let size' = length-append test (instruction.JumpIfZero (length left + 1) ∷ left) in
      let in_front = stands_left form.code p prefix (instruction.Jump (length right) ∷ right) st in
      let in_left = stands_right form.code p (p + length test) test (instruction.JumpIfZero (length left + 1) ∷ left) refl in_front in
      let in_right = stands_right form.code p (p + length test + 1 + length left) prefix (instruction.Jump (length right) ∷ right) (omega arith) st in
      meets_then form c (Value form cs total c v most vs (p + length test) ops) (Value form cs total c v most vs (p + length code) ops) (condition s) (λ w t. choose w first second t)
      (k p ops s (stands_left form.code p test (instruction.JumpIfZero (length left + 1) ∷ left) in_front) h)
      (λ w t got. value_after v most vs ops c (conf (p + length test) vs (w ∷ ops) cs t) (p + length test + 1 + length left + 1 + length right) (p + length code) (choose w first second t) got.leads (omega arith)
      (arms_meet v most vs ops (p + length test) w left right first second t f g in_left.0 in_left.1 in_right.0 in_right.1 got.fits))
