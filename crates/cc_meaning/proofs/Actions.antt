-- The instructions of assignments, of other actions and of declarations do what the source says.
use Rattle.std.proofs.Common.{◌≡◌, ℕ, suc, ◌+◌, ◌<◌, Bool, true, false, if◌then◌else◌, List, [], ◌∷◌, length, nat_lt, inl, inr, Option, Some, None, slice_get, slice_set, unwrap_or, refl, sym, ap, ◌∙◌, subst, arith}
use Rattle.std.proofs.lemmas.Bool.Decides.{leb_tells}
use Rattle.cc_words.specs.Widths.{kept}
use Rattle.cc_words.specs.declared.operators.Width.{Width}
use Rattle.cc_tokens.specs.declared.scalar.Scalar.{Scalar}
use Rattle.cc_ast.specs.declared.ast.BinaryOperator.{BinaryOperator}
use Rattle.cc_types.specs.Operators.{working_type, binary_word}
use Rattle.cc_layout.specs.declared.layout.Extent.{Extent}
use Rattle.cc_resolve.specs.declared.operations.BinaryOperation.{BinaryOperation}
use Rattle.cc_meaning.specs.declared.form.Instruction.TheVariants as instruction
use Rattle.cc_meaning.specs.declared.form.Slot.TheVariants as slot
use Rattle.cc_meaning.specs.internal.Form.{FormTree, store_of, store_element_of, applied}
use Rattle.cc_layout.specs.Environment.{Environment, number_in}
use Rattle.cc_layout.specs.Layout.{extent_of}
use Rattle.cc_resolve.specs.Operations.{operation}
use Rattle.cc_c_semantics.specs.Outcome as outcome
use Rattle.cc_c_semantics.specs.declared.cause.Cause.TheVariants.{Index}
use Rattle.cc_c_semantics.specs.Meaning as meaning
use Rattle.cc_c_semantics.specs.Meaning.{State, Run, Gives, Wrong, Flow, Falls, then_do, global_words, with_element, variable_word, stored, write_element, cause_of, given, ToVariable, ToElement, write, new_value}
use Rattle.cc_c_semantics.specs.Resolved.{IsOneWord}
use Rattle.cc_meaning.specs.internal.FormMeaning.{Activation, Configuration, Move, Goes, Stops, instruction_move, binary_result, cause_of_operation, only_if, with_word, operated}
use Rattle.cc_c_semantics.proofs.Named.{there}
use Rattle.cc_c_semantics.proofs.Held.{reads_local, no_local, all_of, get_past}
use Rattle.cc_meaning.proofs.Moves.{Leads, leads_then, conf, Meets, meets_after, meets_same, instructed, instructed_last}
use Rattle.cc_meaning.proofs.Plain.{IsPlain, IsPlainIfAny}
use Rattle.cc_meaning.proofs.Fits.{Fits, found_object, Sets, sets_local, Puts, puts_element, stored_object}
use Rattle.cc_c_semantics.proofs.Scoped.{Readable}

-- an action falls through, and leaves no operand
pub record Acted (form : FormTree) (cs : List Activation) (total : ℕ) (c : Configuration) (v : Environment) (most q : ℕ) (flow : Flow) (t : State) : Type 0 where
  pub falls : flow ≡ Falls
  pub variables : List ℕ
  pub fits : Fits v total most variables t
  pub leads : Leads form c (conf q variables [] cs t)

abbrev or_else : Option ℕ → Move → (ℕ → Move) → Move
or_else o z f = elim o [ None ↦ z | Some w ↦ f w ]

option_same : (o : Option ℕ) (z : Move) (f g : ℕ → Move) → ((w : ℕ) → f w ≡ g w) → or_else o z f ≡ or_else o z g
option_same None z f g h = refl
option_same (Some w) z f g h = h w

-- the move of an operation, depending on the operator's value
operated_is : (op : BinaryOperator) (t : Scalar) (a b : ℕ) (o : Option ℕ) (go : ℕ → Move) → IsPlain op → binary_word op t a b ≡ o
    → operated (operation op t) a b go ≡ elim o [ None ↦ Stops (outcome.Wrong (cause_of op)) | Some w ↦ go w ]
operated_is op t a b o go plain e =
    ap (λ (p : Option ℕ). elim p [ None ↦ Stops (outcome.Wrong (cause_of_operation (operation op t))) | Some w ↦ go w ]) (plain.works t a b ∙ e)
    ∙ ap (λ x. elim o [ None ↦ Stops (outcome.Wrong x) | Some w ↦ go w ]) (plain.fails t)

module _ (form : FormTree) (cs : List Activation) (total : ℕ) where
  pub acted_after : (v : Environment) (most : ℕ) (c d : Configuration) (q q' : ℕ) (r : Run Flow) → Leads form c d → q ≡ q' → Meets form d (Acted form cs total d v most q) r → Meets form c (Acted form cs total c v most q') r
  acted_after v most c d q q' r p e h =
      meets_after form c d (Acted form cs total d v most q) (Acted form cs total c v most q') r p
      (λ flow t x. record {
        falls = x.falls;
        variables = x.variables;
        fits = x.fits;
        leads = leads_then form c d (conf q' x.variables [] cs t) p (subst (λ k. Leads form d (conf k x.variables [] cs t)) e x.leads);
      }) h

  -- ---- variables

  -- the instructions of a plain assignment and of an update store in the variable what the source stores
  pub record Stores (v : Environment) (most : ℕ) (vs : List ℕ) (s : State) (x : List ℕ) : Type 0 where
    pub variables : ℕ → List ℕ
    pub fits : (w : ℕ) → Fits v total most (variables w) (stored x w s)
    pub sets : (p w : ℕ) → instruction_move form (store_of None v x) (conf p vs (w ∷ []) cs s) ≡ Goes (conf p (variables w) [] cs (stored x w s))
    pub updates : (p w : ℕ) (o : BinaryOperation)
        → instruction_move form (store_of (Some o) v x) (conf p vs (w ∷ []) cs s) ≡ operated o (variable_word x s) w (λ new. Goes (conf p (variables new) [] cs (stored x new s)))

  pub stores_local : (v : Environment) (most : ℕ) (vs : List ℕ) (s : State) (x : List ℕ) (i : ℕ) → Fits v total most vs s → number_in v.locals x ≡ Some i → Stores v most vs s x
  stores_local v most vs s x i h e =
      let q : (w : ℕ) → Sets v total most vs s x i w = λ w. sets_local v total most vs s x i w h e in
      let r = reads_local s.locals h.junk x i (ap (λ ns. number_in ns x) h.names ∙ e) in
      let here : slice_get vs i ≡ Some r.word = ap (λ (l : List ℕ). slice_get l i) h.holds ∙ r.by_number in
      let old : r.word ≡ variable_word x s = sym (ap (λ (o : Option ℕ). unwrap_or o (unwrap_or (slice_get (global_words s.globals x) 0) 0)) r.by_name) in
      let one : (p w : ℕ) → only_if (nat_lt i (length vs)) (Goes (conf p (slice_set vs i w) [] cs s)) ≡ Goes (conf p (slice_set vs i w) [] cs (stored x w s)) =
      λ p w. ap (λ b. only_if b (Goes (conf p (slice_set vs i w) [] cs s))) (q w).below ∙ ap Goes (sym ((q w).rest p cs)) in
      record {
        variables = λ w. slice_set vs i w;
        fits = λ w. (q w).fits;
        sets = λ p w.
            ap (λ (o : Option ℕ). instruction_move form (elim o [ None ↦ instruction.SetGlobal (extent_of v.layout.objects x).offset | Some k ↦ instruction.SetLocal k ]) (conf p vs (w ∷ []) cs s)) e ∙ one p w;
        updates = λ p w o.
            ap (λ (n : Option ℕ). instruction_move form (elim n [ None ↦ instruction.Update o (slot.Global (extent_of v.layout.objects x).offset) | Some k ↦ instruction.Update o (slot.Local k) ]) (conf p vs (w ∷ []) cs s)) e
            ∙ ap (λ (n : Option ℕ). with_word n (λ k. operated o k w (λ new. only_if (nat_lt i (length vs)) (Goes (conf p (slice_set vs i new) [] cs s))))) here
            ∙ option_same (binary_result o r.word w) (Stops (outcome.Wrong (cause_of_operation o))) _ (λ new. Goes (conf p (slice_set vs i new) [] cs (stored x new s))) (λ new. one p new)
            ∙ ap (λ k. operated o k w (λ new. Goes (conf p (slice_set vs i new) [] cs (stored x new s)))) old;
      }

  pub stores_global : (v : Environment) (most : ℕ) (vs : List ℕ) (s : State) (x : List ℕ) → Fits v total most vs s → number_in v.locals x ≡ None → IsOneWord (extent_of v.layout.objects x) → Stores v most vs s x
  stores_global v most vs s x h e one =
      let offset : ℕ = (extent_of v.layout.objects x).offset in
      let long : (extent_of v.layout.objects x).length ≡ 1 = one.0 in
      let f = found_object v total most vs s x h in
      let q : (w : ℕ) → Puts v total most vs s x 0 w = λ w. puts_element v total most vs s x 0 w h (omega arith) in
      let is : (w : ℕ) → stored x w s ≡ record s { globals = with_element x 0 w s.globals } = λ w. stored_object v total most vs s x w h e in
      let at : offset + 0 ≡ offset = omega arith in
      let set : (p w : ℕ) → only_if (nat_lt offset (length (all_of s.globals))) (Goes (record (conf p vs [] cs s) { globals = slice_set (all_of s.globals) offset w })) ≡ Goes (conf p vs [] cs (stored x w s)) =
      λ p w.
      ap (λ b. only_if b (Goes (record (conf p vs [] cs s) { globals = slice_set (all_of s.globals) offset w }))) (subst (λ k. nat_lt k (length (all_of s.globals)) ≡ true) at (q w).below)
      ∙ ap (λ gs. Goes (record (conf p vs [] cs s) { globals = gs })) (subst (λ k. slice_set (all_of s.globals) k w ≡ all_of (with_element x 0 w s.globals)) at (subst (λ (u : Width). slice_set (all_of s.globals) (offset + 0) (kept u w) ≡ all_of (with_element x 0 w s.globals)) one.1 (q w).words))
      ∙ ap (λ t. Goes (conf p vs [] cs t)) (sym (is w)) in
      let got = there (global_words s.globals x) 0 (let k = f.size in omega arith) in
      let here : slice_get (all_of s.globals) offset ≡ Some got.0 = ap (λ k. slice_get (all_of s.globals) k) (sym at) ∙ f.reads 0 (omega arith) ∙ got.1 in
      let none : meaning.local_word s.locals x ≡ None = no_local s.locals x (ap (λ ns. number_in ns x) h.names ∙ e) in
      let old : got.0 ≡ variable_word x s =
      sym (ap (λ (o : Option ℕ). unwrap_or o 0) got.1) ∙ sym (ap (λ (o : Option ℕ). unwrap_or o (unwrap_or (slice_get (global_words s.globals x) 0) 0)) none) in
      record {
        variables = λ w. vs;
        fits = λ w. subst (λ t. Fits v total most vs t) (sym (is w)) (q w).fits;
        sets = λ p w.
            ap (λ (o : Option ℕ). instruction_move form (elim o [ None ↦ instruction.SetGlobal offset | Some k ↦ instruction.SetLocal k ]) (conf p vs (w ∷ []) cs s)) e ∙ set p w;
        updates = λ p w o.
            ap (λ (n : Option ℕ). instruction_move form (elim n [ None ↦ instruction.Update o (slot.Global offset) | Some k ↦ instruction.Update o (slot.Local k) ]) (conf p vs (w ∷ []) cs s)) e
            ∙ ap (λ (n : Option ℕ). with_word n (λ k. operated o k w (λ new. only_if (nat_lt offset (length (all_of s.globals))) (Goes (record (conf p vs [] cs s) { globals = slice_set (all_of s.globals) offset new }))))) here
            ∙ option_same (binary_result o got.0 w) (Stops (outcome.Wrong (cause_of_operation o))) _ (λ new. Goes (conf p vs [] cs (stored x new s))) (λ new. set p new)
            ∙ ap (λ k. operated o k w (λ new. Goes (conf p vs [] cs (stored x new s)))) old;
      }

  pub stores : (v : Environment) (most : ℕ) (vs : List ℕ) (s : State) (x : List ℕ) → Fits v total most vs s → Readable v x → Stores v most vs s x
  stores v most vs s x h r = elim r [ inl q ↦ stores_local v most vs s x q.0 h q.1 | inr q ↦ stores_global v most vs s x h q.0 q.1 ]

  -- an update of a variable stores the operator's value in it
  update_by : (v : Environment) (most : ℕ) (vs : List ℕ) (op : BinaryOperator) (t : Scalar) (x : List ℕ) (p w : ℕ) (s : State) (o : Option ℕ) → IsPlain op → binary_word op t (variable_word x s) w ≡ o
      → (q : Stores v most vs s x) → slice_get form.code p ≡ Some (store_of (Some (operation op t)) v x)
      → Meets form (conf p vs (w ∷ []) cs s) (Acted form cs total (conf p vs (w ∷ []) cs s) v most (p + 1)) (then_do (given op o s) (λ new y. Gives Falls (stored x new y)))
  update_by v most vs op t x p w s None plain is q e =
      instructed_last form (store_of (Some (operation op t)) v x) p vs (w ∷ []) cs s (outcome.Wrong (cause_of op)) e
      (q.updates (p + 1) w (operation op t) ∙ operated_is op t (variable_word x s) w None (λ new. Goes (conf (p + 1) (q.variables new) [] cs (stored x new s))) plain is)
  update_by v most vs op t x p w s (Some new) plain is q e = record {
    falls = refl;
    variables = q.variables new;
    fits = q.fits new;
    leads = instructed form (store_of (Some (operation op t)) v x) p vs (w ∷ []) cs s (conf (p + 1) (q.variables new) [] cs (stored x new s)) e
        (q.updates (p + 1) w (operation op t) ∙ operated_is op t (variable_word x s) w (Some new) (λ k. Goes (conf (p + 1) (q.variables k) [] cs (stored x k s))) plain is);
  }

  pub store_meets : (v : Environment) (most : ℕ) (vs : List ℕ) (op : Option BinaryOperator) (t u : Scalar) (x : List ℕ) (p w : ℕ) (s : State) → IsPlainIfAny op → Readable v x → Fits v total most vs s
      → slice_get form.code p ≡ Some (store_of (applied op t u) v x)
      → Meets form (conf p vs (w ∷ []) cs s) (Acted form cs total (conf p vs (w ∷ []) cs s) v most (p + 1)) (then_do (new_value op t u (ToVariable x) w s) (λ new y. write (ToVariable x) new y))
  store_meets v most vs None t u x p w s plain r h e =
      let q = stores v most vs s x h r in
      record { falls = refl; variables = q.variables w; fits = q.fits w; leads = instructed form (store_of None v x) p vs (w ∷ []) cs s (conf (p + 1) (q.variables w) [] cs (stored x w s)) e (q.sets (p + 1) w) }
  store_meets v most vs (Some op) t u x p w s plain r h e =
      update_by v most vs op (working_type op t u) x p w s (binary_word op (working_type op t u) (variable_word x s) w) plain refl (stores v most vs s x h r) e

  -- ---- elements

  -- a write to an element does what the source does, whether or not the index is in the array
  element_set_by : (v : Environment) (most : ℕ) (vs : List ℕ) (x : List ℕ) (i p w : ℕ) (s : State) (b : Bool) → nat_lt i (extent_of v.layout.objects x).length ≡ b → Fits v total most vs s
      → slice_get form.code p ≡ Some (instruction.SetElement (extent_of v.layout.objects x)) → (b ≡ true → Puts v total most vs s x i w)
      → Meets form (conf p vs (w ∷ i ∷ []) cs s) (Acted form cs total (conf p vs (w ∷ i ∷ []) cs s) v most (p + 1)) (if b then Gives Falls (record s { globals = with_element x i w s.globals }) else Wrong Index s.output)
  element_set_by v most vs x i p w s true is h e q =
      let ext : Extent = extent_of v.layout.objects x in
      let t : State = record s { globals = with_element x i w s.globals } in
      let move : Move = only_if (nat_lt (ext.offset + i) (length (all_of s.globals))) (Goes (record (conf (p + 1) vs [] cs s) { globals = slice_set (all_of s.globals) (ext.offset + i) (kept ext.width w) })) in
      record {
        falls = refl;
        variables = vs;
        fits = (q refl).fits;
        leads = instructed form (instruction.SetElement ext) p vs (w ∷ i ∷ []) cs s (conf (p + 1) vs [] cs t) e
            (ap (λ b. if b then move else Stops (outcome.Wrong Index)) is
            ∙ ap (λ b. only_if b (Goes (record (conf (p + 1) vs [] cs s) { globals = slice_set (all_of s.globals) (ext.offset + i) (kept ext.width w) }))) (q refl).below
            ∙ ap (λ gs. Goes (record (conf (p + 1) vs [] cs s) { globals = gs })) (q refl).words);
      }
  element_set_by v most vs x i p w s false is h e q =
      let ext : Extent = extent_of v.layout.objects x in
      let move : Move = only_if (nat_lt (ext.offset + i) (length (all_of s.globals))) (Goes (record (conf (p + 1) vs [] cs s) { globals = slice_set (all_of s.globals) (ext.offset + i) (kept ext.width w) })) in
      instructed_last form (instruction.SetElement ext) p vs (w ∷ i ∷ []) cs s (outcome.Wrong Index) e (ap (λ b. if b then move else Stops (outcome.Wrong Index)) is)

  -- the source and the form agree on whether the index is in the array
  size_is : (v : Environment) (most : ℕ) (vs : List ℕ) (x : List ℕ) (i : ℕ) (s : State) → Fits v total most vs s → nat_lt i (length (global_words s.globals x)) ≡ nat_lt i (extent_of v.layout.objects x).length
  size_is v most vs x i s h = ap (nat_lt i) (sym (found_object v total most vs s x h).size)

  in_array : (v : Environment) (i : ℕ) (x : List ℕ) → nat_lt i (extent_of v.layout.objects x).length ≡ true → i < (extent_of v.layout.objects x).length
  in_array v i x e = elim (leb_tells (suc i) (extent_of v.layout.objects x).length) [ inl t ↦ t.1 | inr t ↦ absurd (let f : true ≡ false = sym e ∙ t.0 in cc) ]

  -- an update of an element reads the element and computes the operator's value
  element_move : (v : Environment) (most : ℕ) (vs : List ℕ) (op : BinaryOperator) (t : Scalar) (x : List ℕ) (i p w old : ℕ) (s : State) (o : Option ℕ) → IsPlain op → binary_word op t old w ≡ o
      → nat_lt i (extent_of v.layout.objects x).length ≡ true → slice_get (all_of s.globals) ((extent_of v.layout.objects x).offset + i) ≡ Some old
      → instruction_move form (instruction.Update (operation op t) (slot.Element (extent_of v.layout.objects x))) (conf p vs (w ∷ i ∷ []) cs s)
      ≡ elim o [
        | None ↦ Stops (outcome.Wrong (cause_of op))
        | Some new ↦ only_if (nat_lt ((extent_of v.layout.objects x).offset + i) (length (all_of s.globals)))
            (Goes (record (conf p vs [] cs s) { globals = slice_set (all_of s.globals) ((extent_of v.layout.objects x).offset + i) (kept (extent_of v.layout.objects x).width new) }))
      ]
  element_move v most vs op t x i p w old s o plain is lt here =
      let ext : Extent = extent_of v.layout.objects x in
      let go : ℕ → Move = λ new. only_if (nat_lt (ext.offset + i) (length (all_of s.globals))) (Goes (record (conf p vs [] cs s) { globals = slice_set (all_of s.globals) (ext.offset + i) (kept ext.width new) })) in
      ap (λ b. if b then with_word (slice_get (all_of s.globals) (ext.offset + i)) (λ k. operated (operation op t) k w go) else Stops (outcome.Wrong Index)) lt
      ∙ ap (λ (n : Option ℕ). with_word n (λ k. operated (operation op t) k w go)) here
      ∙ operated_is op t old w o go plain is

  element_update_by : (v : Environment) (most : ℕ) (vs : List ℕ) (op : BinaryOperator) (t : Scalar) (x : List ℕ) (i p w old : ℕ) (s : State) (o : Option ℕ) → IsPlain op → binary_word op t old w ≡ o
      → nat_lt i (extent_of v.layout.objects x).length ≡ true → Fits v total most vs s → slice_get (all_of s.globals) ((extent_of v.layout.objects x).offset + i) ≡ Some old
      → slice_get form.code p ≡ Some (instruction.Update (operation op t) (slot.Element (extent_of v.layout.objects x)))
      → Meets form (conf p vs (w ∷ i ∷ []) cs s) (Acted form cs total (conf p vs (w ∷ i ∷ []) cs s) v most (p + 1)) (then_do (given op o s) (λ new y. write_element x i new y))
  element_update_by v most vs op t x i p w old s None plain is lt h here e =
      instructed_last form (instruction.Update (operation op t) (slot.Element (extent_of v.layout.objects x))) p vs (w ∷ i ∷ []) cs s (outcome.Wrong (cause_of op)) e
      (element_move v most vs op t x i (p + 1) w old s None plain is lt here)
  element_update_by v most vs op t x i p w old s (Some new) plain is lt h here e =
      let ext : Extent = extent_of v.layout.objects x in
      let q = puts_element v total most vs s x i new h (in_array v i x lt) in
      let u : State = record s { globals = with_element x i new s.globals } in
      let c = conf p vs (w ∷ i ∷ []) cs s in
      meets_same form c (Acted form cs total c v most (p + 1)) (write_element x i new s) (Gives Falls u)
      (ap (λ b. if b then Gives Falls u else Wrong Index s.output) (size_is v most vs x i s h ∙ lt))
      (record {
        falls = refl;
        variables = vs;
        fits = q.fits;
        leads = instructed form (instruction.Update (operation op t) (slot.Element ext)) p vs (w ∷ i ∷ []) cs s (conf (p + 1) vs [] cs u) e
            (element_move v most vs op t x i (p + 1) w old s (Some new) plain is lt here
            ∙ ap (λ b. only_if b (Goes (record (conf (p + 1) vs [] cs s) { globals = slice_set (all_of s.globals) (ext.offset + i) (kept ext.width new) }))) q.below
            ∙ ap (λ gs. Goes (record (conf (p + 1) vs [] cs s) { globals = gs })) q.words);
      })

  pub element_store_meets : (v : Environment) (most : ℕ) (vs : List ℕ) (op : Option BinaryOperator) (t u : Scalar) (x : List ℕ) (i p w : ℕ) (s : State) → IsPlainIfAny op → Fits v total most vs s
      → slice_get form.code p ≡ Some (store_element_of (applied op t u) v x)
      → Meets form (conf p vs (w ∷ i ∷ []) cs s) (Acted form cs total (conf p vs (w ∷ i ∷ []) cs s) v most (p + 1)) (then_do (new_value op t u (ToElement x i) w s) (λ new y. write (ToElement x i) new y))
  element_store_meets v most vs None t u x i p w s plain h e =
      let c = conf p vs (w ∷ i ∷ []) cs s in
      let b = nat_lt i (extent_of v.layout.objects x).length in
      meets_same form c (Acted form cs total c v most (p + 1)) (write_element x i w s) (if b then Gives Falls (record s { globals = with_element x i w s.globals }) else Wrong Index s.output)
      (ap (λ k. if k then Gives Falls (record s { globals = with_element x i w s.globals }) else Wrong Index s.output) (size_is v most vs x i s h))
      (element_set_by v most vs x i p w s b refl h e (λ lt. puts_element v total most vs s x i w h (in_array v i x lt)))
  element_store_meets v most vs (Some op) t u x i p w s plain h e =
      let c = conf p vs (w ∷ i ∷ []) cs s in
      let ext : Extent = extent_of v.layout.objects x in
      let f = found_object v total most vs s x h in
      let rest : ℕ → State → Run Flow = λ old y. then_do (given op (binary_word op (working_type op t u) old w) y) (λ new z. write_element x i new z) in
      let whole : Option ℕ → Run Flow = λ o. then_do (then_do (elim o [ None ↦ Wrong Index s.output | Some k ↦ Gives k s ]) (λ old y. given op (binary_word op (working_type op t u) old w) y)) (λ new z. write_element x i new z) in
      elim (leb_tells (suc i) ext.length) [
        | inl lt ↦
            (let got = there (global_words s.globals x) i (let k = f.size in let z = lt.1 in omega arith) in
            meets_same form c (Acted form cs total c v most (p + 1)) (whole (slice_get (global_words s.globals x) i)) (rest got.0 s) (ap whole got.1)
            (element_update_by v most vs op (working_type op t u) x i p w got.0 s (binary_word op (working_type op t u) got.0 w) plain refl lt.0 h (f.reads i lt.1 ∙ got.1) e))
        | inr ge ↦
            (let past : slice_get (global_words s.globals x) i ≡ None = get_past (global_words s.globals x) i (let k = f.size in let z = ge.1 in omega arith) in
            meets_same form c (Acted form cs total c v most (p + 1)) (whole (slice_get (global_words s.globals x) i)) (Wrong Index s.output) (ap whole past)
            (instructed_last form (instruction.Update (operation op (working_type op t u)) (slot.Element ext)) p vs (w ∷ i ∷ []) cs s (outcome.Wrong Index) e
            (ap (λ b. if b then with_word (slice_get (all_of s.globals) (ext.offset + i)) (λ k. operated (operation op (working_type op t u)) k w (λ new. only_if (nat_lt (ext.offset + i) (length (all_of s.globals)))
            (Goes (record (conf (p + 1) vs [] cs s) { globals = slice_set (all_of s.globals) (ext.offset + i) (kept ext.width new) })))) else Stops (outcome.Wrong Index)) ge.0)))
      ]
