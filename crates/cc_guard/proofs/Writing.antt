-- The guards that the code writes are those of the definition: new guards follow the ones written before.
use Rattle.std.proofs.Common.{◌≡◌, ℕ, ◌≤◌, Bool, true, false, List, [], ◌∷◌, ◌++◌, refl, sym, ap, ◌∙◌, subst, append-nil, append_assoc, arith, rules, Result, Ok, Err, OnOk}
use Rattle.std.specs.Prelude.{◌||◌, max}
use Rattle.std.proofs.Math.Bool.{or_assoc}
use Rattle.std.proofs.Math.Nat.{max-zero, max-le, le-max_left, le-max_right}
use Rattle.cc_simulation.specs.World.{Size}
use Rattle.cc_cminor_language.specs.Cminor.{Expression, Constant, Local, Unary, Binary, Load, Statement, Sequence, If}
use Rattle.cc_cminor_language.specs.Code.{expression_of, statement_of, in_sequence}
use Rattle.cc_cminor_language.proofs.Codes.{sequence_is}
use Rattle.cc_words.specs.declared.operators.Width.{Width}
use Rattle.cc_cminor_language.specs.Statements.{statements_of}
use Rattle.cc_cminor_language.specs.declared.code.Statement as code
use Rattle.cc_guard.specs.declared.known.Limit.{Limit}
use Rattle.cc_guard.specs.declared.guards.Guards.{Guards}
use Rattle.cc_guard.specs.declared.guards.Seen.{Seen}
use Rattle.cc_guard.specs.Guard.{Guard, Guarded, guard_code, waits_as, waiting, waiting_if, indexed, first_index, stored_word, guards_then, guarded, guarded_all, falls, known_after, code_after, some_guard, guards_after, variables_after}
use Rattle.cc_guard.specs.internal.Written.{codes, Adds, AddsAll, here, some_of, Sees, SeesStatement}

-- ---- guards that are written

pub codes_then : (b : ℕ) (gs is : List Guard) → codes b (gs ++ is) ≡ codes b gs ++ codes b is
codes_then b [] is = refl
codes_then b (g ∷ gs) is = ap (λ ss. guard_code b g ∷ ss) (codes_then b gs is)

pub adds_none : (b : ℕ) (old : Guards) → Adds b [] old.next old.known.items old old
adds_none b old = record { before = sym (append-nil (statements_of old.before.items)); next = refl; known = refl }

pub adds_then : (b : ℕ) (gs is : List Guard) (n m : ℕ) (ks ls : List Limit) (old mid new : Guards) → Adds b gs n ks old mid → Adds b is m ls mid new → Adds b (gs ++ is) m ls old new
adds_then b gs is n m ks ls old mid new p q = record {
  before = q.before ∙ ap (λ ss. ss ++ codes b is) p.before ∙ append_assoc (statements_of old.before.items) (codes b gs) (codes b is)
      ∙ ap (λ ss. statements_of old.before.items ++ ss) (sym (codes_then b gs is));
  next = q.next;
  known = q.known;
}

-- an expression's guarded form without the guards before it
abbrev pub bare : Guarded → Guarded
bare g = record { before = []; value = g.value; next = g.next; known = g.known }

-- f is h with these guards put before its own
pub record IsAfter (gs : List Guard) (h f : Guarded) : Type 0 where
  pub before : f.before ≡ gs ++ h.before
  pub value : f.value ≡ h.value
  pub next : f.next ≡ h.next
  pub known : f.known ≡ h.known

pub adds_after : (b : ℕ) (g h f : Guarded) (old mid new : Guards) → IsAfter g.before h f → AddsAll b g old mid → AddsAll b h mid new → AddsAll b f old new
adds_after b g h f old mid new x p q =
    let r = adds_then b g.before h.before g.next h.next g.known h.known old mid new p q in
    record {
      before = r.before ∙ ap (λ gs. statements_of old.before.items ++ codes b gs) (sym x.before);
      next = r.next ∙ sym x.next;
      known = r.known ∙ sym x.known;
    }

-- the value that was written, once the guards are written, is the guarded value without its guards
pub here_is : (b : ℕ) (g : Guarded) (old mid : Guards) (e : Expression) → AddsAll b g old mid → e ≡ g.value → here mid e ≡ bare g
here_is b g old mid e p v = λ i. record { before = []; value = v i; next = p.next i; known = p.known i }

-- ---- values that wait

waits_after : (e : Expression) (g : Guarded) → IsAfter g.before (waits_as e (bare g)) (waits_as e g)
waits_after (Constant w) g = record { before = sym (append-nil g.before); value = refl; next = refl; known = refl }
waits_after (Local x) g = record { before = sym (append-nil g.before); value = refl; next = refl; known = refl }
waits_after (Unary op e) g = record { before = refl; value = refl; next = refl; known = refl }
waits_after (Binary op a b) g = record { before = refl; value = refl; next = refl; known = refl }
waits_after (Load w o i) g = record { before = refl; value = refl; next = refl; known = refl }

pub waiting_after : (g : Guarded) → IsAfter g.before (waiting (bare g)) (waiting g)
waiting_after g = waits_after g.value g

pub if_after : (r : Bool) (g : Guarded) → IsAfter g.before (waiting_if r (bare g)) (waiting_if r g)
if_after true g = waiting_after g
if_after false g = record { before = sym (append-nil g.before); value = refl; next = refl; known = refl }

-- ---- a statement

-- these guards were written for a statement, and no others
pub record Wrote (b : ℕ) (gs : List Guard) (upto : ℕ) (new : Guards) : Type 0 where
  pub before : statements_of new.before.items ≡ codes b gs
  pub next : new.next ≡ upto

pub wrote : (b n m : ℕ) (gs : List Guard) (ks : List Limit) (old new : Guards) → old.before.items ≡ [] → Adds b gs m ks old new → Wrote b gs m new
wrote b n m gs ks old new e p = record { before = p.before ∙ ap (λ (ss : List code.Statement). statements_of ss ++ codes b gs) e; next = p.next }

-- the guards of an expression, given what is known, are written first; variable n is the first that they may set
pub wrote_first : (b n : ℕ) (ks : List Limit) (F : List Limit → ℕ → Guarded) (old new : Guards) → old.before.items ≡ [] → old.next ≡ n → old.known.items ≡ ks → AddsAll b (F old.known.items old.next) old new → Wrote b (F ks n).before (F ks n).next new
wrote_first b n ks F old new e f k p =
    let same : F old.known.items old.next ≡ F ks n = λ i. F (k i) (f i) in
    let x = wrote b n (F old.known.items old.next).next (F old.known.items old.next).before (F old.known.items old.next).known old new e p in
    record { before = x.before ∙ ap (λ (g : Guarded). codes b g.before) same; next = x.next ∙ ap (λ (g : Guarded). g.next) same }

then_code : (b : ℕ) (gs : List Guard) (s : Statement) → in_sequence (codes b gs ++ s ∷ []) ≡ guards_then b gs s
then_code b [] s = refl
then_code b (g ∷ []) s = refl
then_code b (g ∷ h ∷ gs) s = ap (λ x. Sequence (guard_code b g) x) (then_code b (h ∷ gs) s)

pub written_then : (b m : ℕ) (gs : List Guard) (new : Guards) (s : Statement) → Wrote b gs m new → in_sequence (statements_of new.before.items ++ s ∷ []) ≡ guards_then b gs s
written_then b m gs new s w = ap (λ ss. in_sequence (ss ++ s ∷ [])) w.before ∙ then_code b gs s

some_codes : (b : ℕ) (gs : List Guard) (ss : List code.Statement) → statements_of ss ≡ codes b gs → some_of ss ≡ some_guard gs
some_codes b [] [] e = refl
some_codes b [] (s ∷ ss) e = absurd (let f : ◌≡◌ {A = List Statement} (statement_of s ∷ statements_of ss) [] = e in cc)
some_codes b (g ∷ gs) [] e = absurd (let f : ◌≡◌ {A = List Statement} [] (guard_code b g ∷ codes b gs) = e in cc)
some_codes b (g ∷ gs) (s ∷ ss) e = refl

pub sees_wrote : (b m : ℕ) (gs : List Guard) (new : Guards) (old seen : Seen) → Wrote b gs m new → Sees (some_of new.before.items) new.next old seen → Sees (some_guard gs) m old seen
sees_wrote b m gs new old seen w s = record { guards = s.guards ∙ ap (λ x. old.guards || x) (some_codes b gs new.before.items w.before); variables = s.variables ∙ ap (λ x. max old.variables x) w.next }

-- the guards of a statement with one expression, or with a list of expressions, were written
pub first_wrote : (objects : List Size) (b n : ℕ) (ks : List Limit) (e : Expression) (old new : Guards) → old.before.items ≡ [] → old.next ≡ n → old.known.items ≡ ks → AddsAll b (guarded objects old.known.items old.next e) old new
    → Wrote b (guarded objects ks n e).before (guarded objects ks n e).next new
first_wrote objects b n ks e old new p q r a = wrote_first b n ks (λ hs k. guarded objects hs k e) old new p q r a

pub first_value : (objects : List Size) (n : ℕ) (ks : List Limit) (e : Expression) (old : Guards) (x : Expression) → old.next ≡ n → old.known.items ≡ ks → x ≡ (guarded objects old.known.items old.next e).value → x ≡ (guarded objects ks n e).value
first_value objects n ks e old x q r v = v ∙ (λ i. (guarded objects (r i) (q i) e).value)

pub first_known : (objects : List Size) (n : ℕ) (ks : List Limit) (e : Expression) (old new : Guards) → old.next ≡ n → old.known.items ≡ ks → new.known.items ≡ (guarded objects old.known.items old.next e).known → new.known.items ≡ (guarded objects ks n e).known
first_known objects n ks e old new q r v = v ∙ (λ i. (guarded objects (r i) (q i) e).known)

pub all_wrote : (objects : List Size) (b n : ℕ) (ks : List Limit) (es : List Expression) (old new : Guards) → old.before.items ≡ [] → old.next ≡ n → old.known.items ≡ ks
    → Adds b (guarded_all objects old.known.items old.next es).before (guarded_all objects old.known.items old.next es).next (guarded_all objects old.known.items old.next es).known old new
    → Wrote b (guarded_all objects ks n es).before (guarded_all objects ks n es).next new
all_wrote objects b n ks es old new p q r a =
    let g = guarded_all objects old.known.items old.next es in
    let x = wrote b n g.next g.before g.known old new p a in
    record { before = x.before ∙ (λ i. codes b (guarded_all objects (r i) (q i) es).before); next = x.next ∙ (λ i. (guarded_all objects (r i) (q i) es).next) }

pub all_known : (objects : List Size) (n : ℕ) (ks : List Limit) (es : List Expression) (old new : Guards) → old.next ≡ n → old.known.items ≡ ks → new.known.items ≡ (guarded_all objects old.known.items old.next es).known → new.known.items ≡ (guarded_all objects ks n es).known
all_known objects n ks es old new q r v = v ∙ (λ i. (guarded_all objects (r i) (q i) es).known)

-- the guards of a store were written
module _ (objects : List Size) (b n : ℕ) (ks : List Limit) (w : Width) (o : ℕ) (i e : Expression) (old mid new : Guards) (p : old.before.items ≡ []) (q : old.next ≡ n) (r : old.known.items ≡ ks)
    (a : AddsAll b (indexed objects old.known.items w o i (guarded objects old.known.items old.next i)) old mid) (c : AddsAll b (guarded objects mid.known.items mid.next e) mid new) where
  same_index : indexed objects old.known.items w o i (guarded objects old.known.items old.next i) ≡ first_index objects ks n w o i
  same_index = λ j. indexed objects (r j) w o i (guarded objects (r j) (q j) i)

  index_adds : AddsAll b (first_index objects ks n w o i) old mid
  index_adds = subst (λ (g : Guarded). AddsAll b g old mid) same_index a

  same_word : guarded objects mid.known.items mid.next e ≡ stored_word objects (first_index objects ks n w o i) e
  same_word = λ j. guarded objects (index_adds.known j) (index_adds.next j) e

  pub store_wrote : Wrote b ((first_index objects ks n w o i).before ++ (stored_word objects (first_index objects ks n w o i) e).before) (stored_word objects (first_index objects ks n w o i) e).next new
  store_wrote =
      let gi = first_index objects ks n w o i in
      let ge = stored_word objects gi e in
      wrote b n ge.next (gi.before ++ ge.before) ge.known old new p (adds_then b gi.before ge.before gi.next ge.next gi.known ge.known old mid new index_adds (subst (λ (g : Guarded). AddsAll b g mid new) same_word c))

  pub store_index : (x : Expression) → x ≡ (indexed objects old.known.items w o i (guarded objects old.known.items old.next i)).value → x ≡ (first_index objects ks n w o i).value
  store_index x v = v ∙ ap (λ (g : Guarded). g.value) same_index

  pub store_word : (x : Expression) → x ≡ (guarded objects mid.known.items mid.next e).value → x ≡ (stored_word objects (first_index objects ks n w o i) e).value
  store_word x v = v ∙ ap (λ (g : Guarded). g.value) same_word

  pub store_known : new.known.items ≡ (stored_word objects (first_index objects ks n w o i) e).known
  store_known = c.known ∙ ap (λ (g : Guarded). g.known) same_word

-- ---- syntax

pub on_ok_all : {T E A : Type 0} (r : Result T E) → A → OnOk r A
on_ok_all (Ok x) a = a
on_ok_all (Err e) a = tt

pub if_is : (x : _) (a : _) (b : _) → statement_of (code.If x a b) ≡ If (expression_of x.value) (statement_of a.value) (statement_of b.value)
if_is x a b = search (rules, code.the_lemmas)

pub same_sequence : (s : code.Statement) (all : _) (l : List code.Statement) → s ≡ code.Sequence all → l ≡ all.items → in_sequence (statements_of l) ≡ statement_of s
same_sequence s all l is same = sym (ap statement_of is ∙ sequence_is all ∙ ap (λ k. in_sequence (statements_of k)) (sym same))

-- whether control can reach the end of the last of these statements; b if there are no statements
abbrev pub last_falls : Bool → List Statement → Bool
last_falls b [] = b
last_falls b (s ∷ ss) = last_falls (falls s) ss

falls_first : (s : Statement) (ss : List Statement) → last_falls (falls s) ss ≡ falls (in_sequence (s ∷ ss))
falls_first s [] = refl
falls_first s (t ∷ ss) = falls_first t ss

pub last_is : (ss : List Statement) → last_falls true ss ≡ falls (in_sequence ss)
last_is [] = refl
last_is (s ∷ ss) = falls_first s ss

-- ---- what was seen

or_false : (a : Bool) → a ≡ (a || false)
or_false true = refl
or_false false = refl

max_grouped : (a b c : ℕ) → max (max a b) c ≡ max a (max b c)
max_grouped a b c =
    let u = le-max_left a (max b c) in
    let v = le-max_right a (max b c) in
    let w = le-max_left b c in
    let x = le-max_right b c in
    let y = le-max_left (max a b) c in
    let z = le-max_right (max a b) c in
    let r = le-max_left a b in
    let s = le-max_right a b in
    let p : max (max a b) c ≤ max a (max b c) = max-le (max-le (omega arith) (omega arith)) (omega arith) in
    let q : max a (max b c) ≤ max (max a b) c = max-le (omega arith) (max-le (omega arith) (omega arith)) in
    omega arith

pub sees_none : (old : Seen) → Sees false 0 old old
sees_none old = record { guards = or_false old.guards; variables = sym (max-zero old.variables) }

pub sees_then : (a c : Bool) (x y : ℕ) (old mid new : Seen) → Sees a x old mid → Sees c y mid new → Sees (a || c) (max x y) old new
sees_then a c x y old mid new p q = record {
  guards = q.guards ∙ ap (λ z. z || c) p.guards ∙ or_assoc old.guards a c;
  variables = q.variables ∙ ap (λ z. max z y) p.variables ∙ max_grouped old.variables x y;
}

-- ---- some statements

module _ (objects : List Size) (n b : ℕ) where
  abbrev pub all_code : List Limit → List Statement → List Statement
  all_code ks [] = []
  all_code ks (s ∷ ss) = code_after objects n ks b s ∷ all_code (known_after objects n ks s) ss

  pub sequence_code : (ks : List Limit) (ss : List Statement) → code_after objects n ks b (in_sequence ss) ≡ in_sequence (all_code ks ss)
  sequence_code ks [] = refl
  sequence_code ks (s ∷ []) = refl
  sequence_code ks (s ∷ t ∷ ss) = ap (λ x. Sequence (code_after objects n ks b s) x) (sequence_code (known_after objects n ks s) (t ∷ ss))

  pub known_first : (ks : List Limit) (s : Statement) (ss : List Statement) → known_after objects n ks (in_sequence (s ∷ ss)) ≡ known_after objects n (known_after objects n ks s) (in_sequence ss)
  known_first ks s [] = refl
  known_first ks s (t ∷ ss) = refl

  guards_first : (ks : List Limit) (s : Statement) (ss : List Statement) → guards_after objects n ks (in_sequence (s ∷ ss)) ≡ (guards_after objects n ks s || guards_after objects n (known_after objects n ks s) (in_sequence ss))
  guards_first ks s [] = or_false (guards_after objects n ks s)
  guards_first ks s (t ∷ ss) = refl

  variables_first : (ks : List Limit) (s : Statement) (ss : List Statement) → variables_after objects n ks (in_sequence (s ∷ ss)) ≡ max (variables_after objects n ks s) (variables_after objects n (known_after objects n ks s) (in_sequence ss))
  variables_first ks s [] = sym (max-zero (variables_after objects n ks s))
  variables_first ks s (t ∷ ss) = refl

  -- what was seen of the first statement, with what will be seen of the rest, is what is seen of all of them
  pub sees_first : (ks : List Limit) (s : Statement) (ss : List Statement) (old mid : Seen) → SeesStatement objects n ks s old mid
      → ((seen : Seen) → SeesStatement objects n (known_after objects n ks s) (in_sequence ss) mid seen → SeesStatement objects n ks (in_sequence (s ∷ ss)) old seen)
  sees_first ks s ss old mid p seen q =
      let K = known_after objects n ks s in
      let r = sees_then (guards_after objects n ks s) (guards_after objects n K (in_sequence ss)) (variables_after objects n ks s) (variables_after objects n K (in_sequence ss)) old mid seen p q in
      record { guards = r.guards ∙ ap (λ x. old.guards || x) (sym (guards_first ks s ss)); variables = r.variables ∙ ap (λ x. max old.variables x) (sym (variables_first ks s ss)) }
