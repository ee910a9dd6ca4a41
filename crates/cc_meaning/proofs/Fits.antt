-- When a configuration of the form represents a state of the source, and how variables and elements are read and written in it.
use Rattle.std.proofs.Common.{◌≡◌, ℕ, ◌+◌, ◌<◌, ◌≤◌, true, if◌then◌else◌, List, [], ◌∷◌, ◌++◌, length, reverse, nat_lt, inl, inr, Option, Some, None, is_some, slice_get, slice_set, unwrap_or, refl, sym, ap, ◌∙◌, subst, arith}
use Rattle.std.proofs.lemmas.Bool.{lt-ltb}
use Rattle.cc_words.specs.Widths.{kept}
use Rattle.cc_meaning.specs.declared.form.Instruction.TheVariants as instruction
use Rattle.cc_meaning.specs.internal.Form.{FormTree, load}
use Rattle.cc_layout.specs.Environment.{Environment, number_in}
use Rattle.cc_layout.specs.Layout.{extent_of}
use Rattle.cc_c_semantics.specs.Meaning.{State, local_word, global_words, with_local_word, with_element, variable_word, stored}
use Rattle.cc_meaning.specs.internal.FormMeaning.{Activation, Goes, instruction_move, with_word}
use Rattle.cc_c_semantics.proofs.Named.{there}
use Rattle.cc_c_semantics.proofs.Held.{names_of, words_in, reads_local, no_local, writes_local, all_of, layout_from, Finds, finds, layout_keep, length_slice_set, get_below}
use Rattle.cc_meaning.proofs.Moves.{conf}
use Rattle.cc_c_semantics.proofs.Scoped.{Readable}

-- the variables are the words of the locals, oldest first, followed by words that no name refers to; the objects are at their
-- places; at most this many steps are left
pub record Fits (v : Environment) (total most : ℕ) (vs : List ℕ) (s : State) : Type 0 where
  pub names : names_of s.locals ≡ v.locals
  pub laid : layout_from 0 s.globals ≡ v.layout.objects
  pub junk : List ℕ
  pub holds : vs ≡ reverse (words_in s.locals) ++ junk
  pub room : length vs ≡ total
  pub steps : s.steps ≤ most

-- ---- objects

pub found_object : (v : Environment) (total most : ℕ) (vs : List ℕ) (s : State) (x : List ℕ) → Fits v total most vs s → Finds [] s.globals x (extent_of v.layout.objects x)
found_object v total most vs s x h = subst (λ ps. Finds [] s.globals x (extent_of ps x)) h.laid (finds [] s.globals x 0 refl)

-- ---- reading a variable

load_local : (form : FormTree) (v : Environment) (total most p : ℕ) (vs ops : List ℕ) (cs : List Activation) (s : State) (x : List ℕ) (i : ℕ) → Fits v total most vs s → number_in v.locals x ≡ Some i
    → instruction_move form (load v x) (conf p vs ops cs s) ≡ Goes (conf p vs (variable_word x s ∷ ops) cs s)
load_local form v total most p vs ops cs s x i h e =
    let r = reads_local s.locals h.junk x i (ap (λ ns. number_in ns x) h.names ∙ e) in
    let here : slice_get vs i ≡ Some r.word = ap (λ (l : List ℕ). slice_get l i) h.holds ∙ r.by_number in
    ap (λ (o : Option ℕ). instruction_move form (elim o [ None ↦ instruction.Global (extent_of v.layout.objects x).offset | Some k ↦ instruction.Local k ]) (conf p vs ops cs s)) e
    ∙ ap (λ (o : Option ℕ). with_word o (λ w. Goes (conf p vs (w ∷ ops) cs s))) here
    ∙ ap (λ (o : Option ℕ). Goes (conf p vs (unwrap_or o (unwrap_or (slice_get (global_words s.globals x) 0) 0) ∷ ops) cs s)) (sym r.by_name)

load_global : (form : FormTree) (v : Environment) (total most p : ℕ) (vs ops : List ℕ) (cs : List Activation) (s : State) (x : List ℕ) → Fits v total most vs s → number_in v.locals x ≡ None
    → (extent_of v.layout.objects x).length ≡ 1 → instruction_move form (load v x) (conf p vs ops cs s) ≡ Goes (conf p vs (variable_word x s ∷ ops) cs s)
load_global form v total most p vs ops cs s x h e one =
    let offset : ℕ = (extent_of v.layout.objects x).offset in
    let f = found_object v total most vs s x h in
    let got = there (global_words s.globals x) 0 (let k = f.size in omega arith) in
    let here : slice_get (all_of s.globals) offset ≡ Some got.0 =
    ap (λ k. slice_get (all_of s.globals) k) (let z : offset ≡ offset + 0 = omega arith in z) ∙ f.reads 0 (omega arith) ∙ got.1 in
    let none : local_word s.locals x ≡ None = no_local s.locals x (ap (λ ns. number_in ns x) h.names ∙ e) in
    ap (λ (o : Option ℕ). instruction_move form (elim o [ None ↦ instruction.Global (extent_of v.layout.objects x).offset | Some k ↦ instruction.Local k ]) (conf p vs ops cs s)) e
    ∙ ap (λ (o : Option ℕ). with_word o (λ w. Goes (conf p vs (w ∷ ops) cs s))) here
    ∙ ap (λ (o : Option ℕ). Goes (conf p vs (unwrap_or o 0 ∷ ops) cs s)) (sym got.1)
    ∙ ap (λ (o : Option ℕ). Goes (conf p vs (unwrap_or o (unwrap_or (slice_get (global_words s.globals x) 0) 0) ∷ ops) cs s)) (sym none)

pub load_move : (form : FormTree) (v : Environment) (total most p : ℕ) (vs ops : List ℕ) (cs : List Activation) (s : State) (x : List ℕ) → Fits v total most vs s → Readable v x
    → instruction_move form (load v x) (conf p vs ops cs s) ≡ Goes (conf p vs (variable_word x s ∷ ops) cs s)
load_move form v total most p vs ops cs s x h r =
    elim r [ inl q ↦ load_local form v total most p vs ops cs s x q.0 h q.1 | inr q ↦ load_global form v total most p vs ops cs s x h q.0 q.1.0 ]

-- ---- writing a variable

stored_local : (x : List ℕ) (w k : ℕ) (s : State) → local_word s.locals x ≡ Some k → stored x w s ≡ record s { locals = with_local_word x w s.locals }
stored_local x w k s e =
    ap (λ o. if is_some o then record s { locals = with_local_word x w s.locals } else record s { globals = with_element x 0 w s.globals }) e

stored_global : (x : List ℕ) (w : ℕ) (s : State) → local_word s.locals x ≡ None → stored x w s ≡ record s { globals = with_element x 0 w s.globals }
stored_global x w s e =
    ap (λ o. if is_some o then record s { locals = with_local_word x w s.locals } else record s { globals = with_element x 0 w s.globals }) e

-- after a write to a local, the variables fit the new state
pub record Sets (v : Environment) (total most : ℕ) (vs : List ℕ) (s : State) (x : List ℕ) (i w : ℕ) : Type 0 where
  pub below : nat_lt i (length vs) ≡ true
  pub fits : Fits v total most (slice_set vs i w) (stored x w s)
  pub globals : (stored x w s).globals ≡ s.globals
  pub rest : (p : ℕ) (cs : List Activation) → conf p (slice_set vs i w) [] cs (stored x w s) ≡ conf p (slice_set vs i w) [] cs s

pub sets_local : (v : Environment) (total most : ℕ) (vs : List ℕ) (s : State) (x : List ℕ) (i w : ℕ) → Fits v total most vs s → number_in v.locals x ≡ Some i → Sets v total most vs s x i w
sets_local v total most vs s x i w h e =
    let number : number_in (names_of s.locals) x ≡ Some i = ap (λ ns. number_in ns x) h.names ∙ e in
    let r = reads_local s.locals h.junk x i number in
    let q = writes_local s.locals h.junk x i w number in
    let is = stored_local x w r.word s r.by_name in
    let here : slice_get vs i ≡ Some r.word = ap (λ (l : List ℕ). slice_get l i) h.holds ∙ r.by_number in
    record {
      below = lt-ltb i (length vs) (get_below vs i r.word here);
      fits = subst (λ t. Fits v total most (slice_set vs i w) t) (sym is) (record {
        names = q.names ∙ h.names;
        laid = h.laid;
        junk = h.junk;
        holds = ap (λ (l : List ℕ). slice_set l i w) h.holds ∙ q.words;
        room = length_slice_set vs i w ∙ h.room;
        steps = h.steps;
      });
      globals = ap (λ (t : State). t.globals) is;
      rest = λ p cs. ap (conf p (slice_set vs i w) [] cs) is;
    }

-- after a write to an object's element, the words of objects fit the new state
pub record Puts (v : Environment) (total most : ℕ) (vs : List ℕ) (s : State) (x : List ℕ) (i w : ℕ) : Type 0 where
  pub below : nat_lt ((extent_of v.layout.objects x).offset + i) (length (all_of s.globals)) ≡ true
  pub words : slice_set (all_of s.globals) ((extent_of v.layout.objects x).offset + i) (kept (extent_of v.layout.objects x).width w) ≡ all_of (with_element x i w s.globals)
  pub fits : Fits v total most vs (record s { globals = with_element x i w s.globals })

pub puts_element : (v : Environment) (total most : ℕ) (vs : List ℕ) (s : State) (x : List ℕ) (i w : ℕ) → Fits v total most vs s → i < (extent_of v.layout.objects x).length → Puts v total most vs s x i w
puts_element v total most vs s x i w h lt =
    let f = found_object v total most vs s x h in
    record {
      below = lt-ltb ((extent_of v.layout.objects x).offset + i) (length (all_of s.globals)) (f.within i lt);
      words = f.writes i w lt;
      fits = record {
        names = h.names;
        laid = layout_keep x i w 0 s.globals ∙ h.laid;
        junk = h.junk;
        holds = h.holds;
        room = h.room;
        steps = h.steps;
      };
    }

pub stored_object : (v : Environment) (total most : ℕ) (vs : List ℕ) (s : State) (x : List ℕ) (w : ℕ) → Fits v total most vs s → number_in v.locals x ≡ None
    → stored x w s ≡ record s { globals = with_element x 0 w s.globals }
stored_object v total most vs s x w h e = stored_global x w s (no_local s.locals x (ap (λ ns. number_in ns x) h.names ∙ e))
