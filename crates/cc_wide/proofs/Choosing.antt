-- The choice of a switch writes the number of the section with which the switch goes on, wherever its ranges are halved.
use Rattle.std.proofs.Common.{◌≡◌, ℕ, zero, suc, ◌<◌, Bool, true, false, true≢false, ◌==◌, if◌then◌else◌, List, [], ◌∷◌, ◌++◌, length, nat_le, nat_lt, Option, Some, None, refl, sym, ap, ◌∙◌, ne_eqb}
use Rattle.std.proofs.lemmas.Bool.{and_parts, and_from, ltb-false, le-leb}
use Rattle.cc_words.specs.Words.{truth_value}
use Rattle.cc_ast.specs.scalar.Scalar.TheVariants.{Unsigned}
use Rattle.cc_ast.specs.Tree as tree
use Rattle.cc_ast.specs.Tree.{Expr, Number, Conditional, AtVariable, Stmt}
use Rattle.cc_types.specs.Types.{value_type, target_type}
use Rattle.cc_types.specs.Scope.{Binding, Visible, in_scope, opened, scope_behind}
use Rattle.cc_c_semantics.specs.Meaning as plain
use Rattle.cc_c_semantics.specs.Meaning.{Local, State, Run, Gives, Flow, Falls, then_do, choose, Calls, local_word, with_local_word, variable_word, stored, evaluate, ToVariable, new_value, write, left_scope, in_block}
use Rattle.cc_wide.specs.WideTree.{Label, Case, Default, Sections, last, section}
use Rattle.cc_wide.specs.WideMeaning.{label_word, has_case, section_with}
use Rattle.cc_wide.specs.Lowering.{hidden, hidden_name, sets, equals, less_than, Entry, cases_of_labels, cases_of, words_of, is_below, in_range, count_in, middle, chain, few_cases, choice}
use Rattle.cc_wide.proofs.Expressions.{at}
use Rattle.cc_wide.proofs.Landing.{Shape, Fits}
use Rattle.cc_wide.proofs.Statements.{put_hidden, word_hidden, test_less, put_block}

-- ---- the first case with a word

abbrev look : (w default : ℕ) → List Entry → ℕ
look w n [] = n
look w n (c ∷ cs) = if w == c.word then c.number else look w n cs

look_by : (w n i : ℕ) (b : Bool) (ls : List Label) (rest : List Entry) → look w n (cases_of_labels i ls rest) ≡ (if has_case w ls then i else look w n rest)
    → (if b then i else look w n (cases_of_labels i ls rest)) ≡ (if (if b then true else has_case w ls) then i else look w n rest)
look_by w n i true ls rest e = refl
look_by w n i false ls rest e = e

look_labels : (w n i : ℕ) (ls : List Label) (rest : List Entry) → look w n (cases_of_labels i ls rest) ≡ (if has_case w ls then i else look w n rest)
look_labels w n i [] rest = refl
look_labels w n i (Case c ∷ ls) rest = look_by w n i (w == label_word c) ls rest (look_labels w n i ls rest)
look_labels w n i (Default ∷ ls) rest = look_labels w n i ls rest

pub look_cases : (w n i : ℕ) (all : Sections) → look w n (cases_of i all) ≡ section_with (has_case w) i all n
look_cases w n i last = refl
look_cases w n i (section ls body rest) =
    look_labels w n i ls (cases_of (suc i) rest) ∙ ap (λ (x : ℕ). if has_case w ls then i else x) (look_cases w n (suc i) rest)

-- ---- the chain of a range

module _ (bs : List Binding) (call : Calls) (s : State) (d w : ℕ) (is : variable_word (hidden_name d) s ≡ w) (n low : ℕ) (high : Option ℕ) (within : in_range low high w ≡ true) where
  found_by : (b : Bool) (i : ℕ) (e : Expr) (cs : List Entry) → evaluate e bs call s ≡ Gives (look w n cs) s
      → choose (truth_value b) (λ t. Gives i t) (evaluate e bs call) s ≡ Gives (if b then i else look w n cs) s
  found_by true i e cs h = refl
  found_by false i e cs h = h

  chain_by : (c : Entry) (cs : List Entry) → evaluate (chain d n low high cs) bs call s ≡ Gives (look w n cs) s → (b : Bool) → in_range low high c.word ≡ b
      → evaluate (if b then Conditional (equals d c.word) (Number Unsigned c.number) (chain d n low high cs) else chain d n low high cs) bs call s ≡ Gives (if w == c.word then c.number else look w n cs) s
  chain_by c cs h true e =
      ap (λ (x : ℕ). choose (truth_value (x == c.word)) (λ t. Gives c.number t) (evaluate (chain d n low high cs) bs call) s) is
      ∙ found_by (w == c.word) c.number (chain d n low high cs) cs h
  chain_by c cs h false e =
      let other : (w == c.word) ≡ false = ne_eqb w c.word (λ (p : w ≡ c.word). true≢false (sym within ∙ ap (in_range low high) p ∙ e)) in
      h ∙ sym (ap (λ (b : Bool). Gives (if b then c.number else look w n cs) s) other)

  pub chain_value : (cs : List Entry) → evaluate (chain d n low high cs) bs call s ≡ Gives (look w n cs) s
  chain_value [] = refl
  chain_value (c ∷ cs) = chain_by c cs (chain_value cs) (in_range low high c.word) refl

-- ---- the choice

-- a choice declares nothing
scope_by : (b : Bool) (x y : Stmt) (v : Visible) → scope_behind x v ≡ v → scope_behind y v ≡ v → scope_behind (if b then x else y) v ≡ v
scope_by true x y v p q = p
scope_by false x y v p q = q

pub scope_choice : (levels d n low : ℕ) (high : Option ℕ) (cs : List Entry) (v : Visible) → scope_behind (choice levels d n low high cs) v ≡ v
scope_choice zero d n low high cs v = refl
scope_choice (suc levels) d n low high cs v = scope_by (nat_le (count_in low high (words_of cs)) few_cases) _ _ v refl refl

module _ (z : Shape) (d : ℕ) (W : ℕ → Option ℕ) (call : Calls) (k w n : ℕ) (cs : List Entry) (f H b : List Local) (s : State) (below : d < z.names) (fits : Fits z d W f H b) (is : local_word H (hidden_name d) ≡ Some w) where
  abbrev before : State
  before = at s (f ++ (H ++ b))

  abbrev chosen : State
  chosen = at s (f ++ (with_local_word (hidden_name d) (look w n cs) H ++ b))

  holds : variable_word (hidden_name d) before ≡ w
  holds = word_hidden z d W f H b s d w below fits is

  chained : (v : Visible) (low : ℕ) (high : Option ℕ) → in_range low high w ≡ true → plain.execute (sets d (chain d n low high cs)) k call v before ≡ Gives Falls chosen
  chained v low high within =
      let e = chain d n low high cs in
      ap (λ (r : Run ℕ). then_do r (λ y u. then_do (new_value None (target_type (in_scope v) (AtVariable (hidden d))) (value_type (in_scope v) e) (ToVariable (hidden_name d)) y u) (λ new o. write (ToVariable (hidden_name d)) new o)))
      (chain_value (in_scope v) call before d w holds n low high within cs)
      ∙ ap (λ (t : State). Gives Falls t) (put_hidden z d W f H b s d (look w n cs) below fits)

  -- a half of a range, in a scope of its own
  half : (e : Stmt) (v : Visible) → plain.execute e k call (opened v) before ≡ Gives Falls chosen → in_block (plain.execute e k call (opened v)) before ≡ Gives Falls chosen
  half e v h =
      ap (λ (r : Run Flow). then_do r (λ flow t. Gives flow (left_scope (length (f ++ (H ++ b))) t))) h
      ∙ ap (λ (t : State). Gives Falls t) (put_block f H b d (look w n cs) s)

  abbrev Chooses : ℕ → Type 0
  Chooses levels = (v : Visible) (low : ℕ) (high : Option ℕ) → in_range low high w ≡ true → plain.execute (choice levels d n low high cs) k call v before ≡ Gives Falls chosen

  halves : (levels : ℕ) → Chooses levels → (v : Visible) (low : ℕ) (high : Option ℕ) → in_range low high w ≡ true → (m : ℕ) (less : Bool) → nat_lt w m ≡ less
      → choose (truth_value less) (in_block (plain.execute (choice levels d n low (Some m) cs) k call (opened v))) (in_block (plain.execute (choice levels d n m high cs) k call (opened v))) before ≡ Gives Falls chosen
  halves levels run v low high within m true e =
      half (choice levels d n low (Some m) cs) v
      (run (opened v) low (Some m) (and_from (nat_le low w) (nat_lt w m) ((and_parts (nat_le low w) (is_below high w) within).0) e))
  halves levels run v low high within m false e =
      half (choice levels d n m high cs) v
      (run (opened v) m high (and_from (nat_le m w) (is_below high w) (le-leb m w (ltb-false w m e)) ((and_parts (nat_le low w) (is_below high w) within).1)))

  choice_by : (levels : ℕ) → Chooses levels → (v : Visible) (low : ℕ) (high : Option ℕ) → in_range low high w ≡ true → (few : Bool) (m : ℕ)
      → plain.execute (if few then sets d (chain d n low high cs) else tree.IfElse (less_than d m) (choice levels d n low (Some m) cs) (choice levels d n m high cs)) k call v before ≡ Gives Falls chosen
  choice_by levels run v low high within true m = chained v low high within
  choice_by levels run v low high within false m =
      ap (λ (r : Run ℕ). then_do r (λ y t. choose y (in_block (plain.execute (choice levels d n low (Some m) cs) k call (opened v))) (in_block (plain.execute (choice levels d n m high cs) k call (opened v))) t))
      (test_less (in_scope v) call before d m w holds)
      ∙ halves levels run v low high within m (nat_lt w m) refl

  pub choice_run : (levels : ℕ) → Chooses levels
  choice_run zero v low high within = chained v low high within
  choice_run (suc levels) v low high within =
      choice_by levels (choice_run levels) v low high within (nat_le (count_in low high (words_of cs)) few_cases) (middle low high (words_of cs))
