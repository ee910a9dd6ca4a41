-- What becomes of a set of equations: step by step, and in terms of the bits of its table.
use Rattle.std.proofs.Common.{◌≡◌, ℕ, suc, ◌+◌, ◌^◌, ◌<◌, List, [], ◌∷◌, ◌++◌, length, refl, sym, ap, ◌∙◌, subst, Bool, true, false, ◌==◌, ◌&&◌, ◌||◌, not, if◌then◌else◌, ◌⊎◌, inl, inr, arith, Contains}
use Rattle.std.specs.Prelude.{Option, Some, None}
use Rattle.std.proofs.lemmas.Bool.{or_cases, or_left, or_right, and_parts, and_from, cases_eq, eq-eqb, ne_eqb, eqb-true, not-true}
use Rattle.std.proofs.lemmas.List.Elements.{Contains-append_left, Contains-push, Contains-push_cases}
use Rattle.cc_flow.specs.Lattice.{Equivalent}
use Rattle.cc_rtl_language.specs.Rtl as rtl
use Rattle.cc_rtl_language.specs.Code.{node_of}
use Rattle.cc_rtl_language.specs.declared.node.Node.{Node}
use Rattle.cc_rtl_language.specs.declared.node.Node.TheVariants as code
use Rattle.cc_ltl.specs.Ltl.{same_location, target, source}
use Rattle.cc_ltl.specs.declared.location.Location.{Location}
use Rattle.cc_ltl.specs.declared.location.Location.TheVariants.{Register, Slot}
use Rattle.cc_ltl.specs.declared.operation.Move.{Move}
use Rattle.cc_ltl.specs.declared.operation.Operation.{Operation}
use Rattle.cc_ltl.specs.declared.operation.Operation.TheVariants.{Nop, Const, Unary, Binary, Load, Store, Call, Read, Write, Branch, Return}
use Rattle.cc_ltl.specs.declared.block.Block.{Block}
use Rattle.cc_bits.specs.Rows.{Table, has, column_moved, row_moved}
use Rattle.cc_validate.specs.declared.equation.Equation.{Equation}
use Rattle.cc_validate.specs.declared.fate.Fate.{Fate}
use Rattle.cc_validate.specs.declared.fate.Fate.TheVariants.{Becomes, Dropped, Contradicted}
use Rattle.cc_validate.specs.Equations.{equation, before_move, before_moves, in_order, fate, operands, judged, is_register, is_location, overwrites, result_of, result_place}
use Rattle.cc_validate.specs.Solution.{Lies}
use Rattle.cc_validate.specs.internal.Facts.{Facts, Below, carried}
use Rattle.cc_validate.specs.internal.Laws.{carried_lies, carried_needs, carried_below}
use Rattle.cc_validate.specs.internal.Sets.{none_in, first_in, cases_in}
use Rattle.cc_validate.specs.internal.Room.{IsPlace, most_places}
use Rattle.cc_validate.specs.internal.Table.{number, listed, AreEquations}
use Rattle.cc_validate.specs.internal.Carried.{AreCarried, AreBefore, IsBefore, IsContradicted, AreWith, AreLeft}
use Rattle.cc_validate.proofs.Members.{same_place_is, same_place_refl}
use Rattle.cc_validate.proofs.Listed.{listed_has, listed_fits, has_listed}

-- ---- step by step

pub carried_twice : (f g : Equation → Equation) (es fs gs : List Equation) → AreCarried f es fs → AreCarried g fs gs → AreCarried (λ e. g (f e)) es gs
carried_twice f g es fs gs h i = record {
  there = λ e k. i.there (f e) (h.there e k);
  only = λ x k. (let b = i.only x k in let a = h.only b.0 b.1 in (a.0, a.1, ap g a.2 ∙ b.2));
}

pub with_more : (more es fs gs : List Equation) (e : Equation) → AreWith more es fs → AreWith (e ∷ []) fs gs → AreWith (more ++ e ∷ []) es gs
with_more more es fs gs e h i = record {
  more_in = λ x k. elim (Contains-push_cases more e x k) [ inl early ↦ i.kept x (h.more_in x early) | inr same ↦ i.more_in x (subst (Contains (e ∷ [])) same (first_in e [])) ];
  kept = λ x k. i.kept x (h.kept x k);
  only = λ x k. elim (i.only x k) [
    | inl one ↦ elim (cases_in e [] x one) [ inl same ↦ inl (subst (Contains (more ++ e ∷ [])) same (Contains-push more e)) | inr none ↦ absurd (none_in x none) ]
    | inr early ↦ elim (h.only x early) [ inl j ↦ inl (Contains-append_left more (e ∷ []) x j) | inr j ↦ inr j ]
  ];
}

pub with_none : (es : List Equation) → AreWith [] es es
with_none es = record { more_in = λ x k. absurd (none_in x k); kept = λ x k. k; only = λ x k. inr k }

-- the equations of arguments with one more at the end are those of the arguments, followed by the one of the
-- last
pub in_order_more : (place : ℕ) (arguments : List ℕ) (a : ℕ) → in_order place (arguments ++ a ∷ []) ≡ in_order place arguments ++ equation a (Register (place + length arguments)) ∷ []
in_order_more place [] a = ap (λ n. equation a (Register n) ∷ []) (let e : place ≡ place + 0 = omega arith in e)
in_order_more place (x ∷ rest) a =
    ap (λ es. equation x (Register place) ∷ es)
    (in_order_more (suc place) rest a ∙ ap (λ n. in_order (suc place) rest ++ equation a (Register n) ∷ []) (let e : suc place + length rest ≡ place + suc (length rest) = omega arith in e))

-- ---- a whole block

module _ (node : rtl.Node) (block : Block) (es s1 s2 s3 s4 : List Equation) (after : AreCarried (before_moves block.after) es s1) (through : AreBefore (fate node block.operation) s1 s2)
    (more : AreWith (operands node block.operation) s2 s3) (before : AreCarried (before_moves block.before) s3 s4) where
  lies : (e : Equation) → Contains es e → Lies (fate node block.operation (before_moves block.after e)) block.before s4
  lies e i = go (fate node block.operation (before_moves block.after e)) (through.there (before_moves block.after e) (after.there e i))
    where
      go : (f : Fate) → Lies f [] s2 → Lies f block.before s4
      go (Becomes x) k = before.there x (more.kept x k)
      go Dropped k = tt
      go Contradicted k = absurd k

  within : (own : List Equation) → carried node block es ≡ Some own → (x : Equation) → Contains s4 x → Contains own x
  within own is x i =
      let below : Below (carried node block es) (Some own) = subst (λ f. Below f (Some own)) (sym is) (λ e k. k) in
      let c = before.only x i in
      subst (Contains own) c.2 (elim (more.only c.0 c.1) [
        | inl operand ↦ carried_needs node block own es below c.0 operand
        | inr behind ↦
            (let b = through.only c.0 behind in
            let a = after.only b.0 b.1 in
            subst (λ f. Lies f block.before own) (ap (fate node block.operation) a.2 ∙ b.2) (carried_lies node block own es below a.0 a.1))
      ])

  pub before_is : Equivalent Below (Some s4) (carried node block es)
  before_is = (go (carried node block es) refl, carried_below node block s4 es lies (λ e i. before.there e (more.more_in e i)))
    where
      go : (f : Facts) → carried node block es ≡ f → Below (Some s4) f
      go None is = tt
      go (Some own) is = within own is

pub contradicted_is : (node : rtl.Node) (block : Block) (es s1 : List Equation) → AreCarried (before_moves block.after) es s1 → IsContradicted (fate node block.operation) s1 → Equivalent Below None (carried node block es)
contradicted_is node block es s1 after (e, i, is) = (go (carried node block es) refl, tt)
  where
    go : (f : Facts) → carried node block es ≡ f → Below None f
    go None same = tt
    go (Some own) same =
        let below : Below (carried node block es) (Some own) = subst (λ f. Below f (Some own)) (sym same) (λ x k. k) in
        let a = after.only e i in
        let l : Lies Contradicted block.before own = subst (λ f. Lies f block.before own) (ap (fate node block.operation) a.2 ∙ is) (carried_lies node block own es below a.0 a.1) in
        l

-- ---- one move, by the bits

pub same_number : (a b : Location) → IsPlace a → IsPlace b → number a ≡ number b → a ≡ b
same_number (Register a) (Register b) h k e = ap {B = Location} Register e
same_number (Slot a) (Slot b) h k e = ap {B = Location} Slot (let i : 32 + a ≡ 32 + b = e in omega arith)
same_number (Register a) (Slot b) h k e = absurd (let i : a ≡ 32 + b = e in omega arith)
same_number (Slot a) (Register b) h k e = absurd (let i : 32 + a ≡ b = e in omega arith)

other_place : (a b : Location) → (a ≡ b → ⊥) → same_location a b ≡ false
other_place a b d = go (same_location a b) refl
  where
    go : (t : Bool) → same_location a b ≡ t → same_location a b ≡ false
    go true e = absurd (d (same_place_is a b e))
    go false e = e

pub same_test : (a b : Location) → a ≡ b → same_location a b ≡ true
same_test a b e = subst (λ x. same_location a x ≡ true) e (same_place_refl a)

module _ (old new : Table) (m : Move) (from : IsPlace (target m)) (to : IsPlace (source m)) (h : (r c : ℕ) → has new r c ≡ column_moved (number (target m)) (number (source m)) (has old) r c) where
  becomes : (e : Equation) → (same_location (target m) e.location ≡ true) → before_move m e ≡ equation e.register (source m)
  becomes e t = ap (λ b. equation e.register (if b then source m else e.location)) t

  stays : (e : Equation) → (same_location (target m) e.location ≡ false) → before_move m e ≡ e
  stays e t = ap (λ b. equation e.register (if b then source m else e.location)) t

  there : (e : Equation) → Contains (listed old) e → Contains (listed new) (before_move m e)
  there e i = go (same_location (target m) e.location) refl
    where
      fits : (e.register < 2 ^ 32) × IsPlace e.location
      fits = listed_fits old e i

      go : (b : Bool) → same_location (target m) e.location ≡ b → Contains (listed new) (before_move m e)
      go true t =
          let r = e.register in
          let n = number (source m) in
          let f = number (target m) in
          let bit : has old r f ≡ true = ap (λ l. has old r (number l)) (same_place_is (target m) e.location t) ∙ listed_has old e i in
          subst (Contains (listed new)) (sym (becomes e t))
          (has_listed new (equation r (source m)) fits.0 to (h r n ∙ (ap (λ b. if b then has old r n || has old r f else has old r n && not (f == n)) (eq-eqb n n refl) ∙ or_right (has old r n) (has old r f) bit)))
      go false t =
          let r = e.register in
          let c = number e.location in
          let n = number (source m) in
          let f = number (target m) in
          let bit : has old r c ≡ true = listed_has old e i in
          let apart : (f == c) ≡ false = ne_eqb f c (λ k. absurd (let s = same_test (target m) e.location (same_number (target m) e.location from fits.1 k) in cc)) in
          subst (Contains (listed new)) (sym (stays e t)) (has_listed new e fits.0 fits.1 (h r c ∙ kept (n == c) refl bit apart))
        where
          kept : (b : Bool) → (number (source m) == number e.location) ≡ b → has old e.register (number e.location) ≡ true → (number (target m) == number e.location) ≡ false
              → (if b then has old e.register (number (source m)) || has old e.register (number (target m)) else has old e.register (number e.location) && not (number (target m) == number e.location)) ≡ true
          kept true s bit apart = or_left (has old e.register (number (source m))) (has old e.register (number (target m))) (ap (has old e.register) (eqb-true (number (source m)) (number e.location) s) ∙ bit)
          kept false s bit apart = and_from (has old e.register (number e.location)) (not (number (target m) == number e.location)) bit (ap not apart)

  only : (x : Equation) → Contains (listed new) x → (e : Equation) × Contains (listed old) e × (before_move m e ≡ x)
  only x i = go (number (source m) == number x.location) refl
    where
      r : ℕ
      r = x.register

      fits : (x.register < 2 ^ 32) × IsPlace x.location
      fits = listed_fits new x i

      bit : (if number (source m) == number x.location then has old x.register (number (source m)) || has old x.register (number (target m)) else has old x.register (number x.location) && not (number (target m) == number x.location)) ≡ true
      bit = sym (h x.register (number x.location)) ∙ listed_has new x i

      itself : has old x.register (number x.location) ≡ true → before_move m x ≡ x → (e : Equation) × Contains (listed old) e × (before_move m e ≡ x)
      itself k is = (x, has_listed old x fits.0 fits.1 k, is)

      go : (b : Bool) → (number (source m) == number x.location) ≡ b → (e : Equation) × Contains (listed old) e × (before_move m e ≡ x)
      go true s =
          let place : source m ≡ x.location = same_number (source m) x.location to fits.1 (eqb-true (number (source m)) (number x.location) s) in
          let both : (has old x.register (number (source m)) || has old x.register (number (target m))) ≡ true =
          sym (ap (λ b. if b then has old x.register (number (source m)) || has old x.register (number (target m)) else has old x.register (number x.location) && not (number (target m) == number x.location)) s) ∙ bit in
          elim (or_cases (has old x.register (number (source m))) (has old x.register (number (target m))) both) [
            | inl k ↦ itself (ap (λ l. has old x.register (number l)) (sym place) ∙ k) (at_source (same_location (target m) x.location) refl place)
            | inr k ↦
                (let e = equation x.register (target m) in
                (e, has_listed old e fits.0 from k, becomes e (same_place_refl (target m)) ∙ ap (equation x.register) place))
          ]
        where
          at_source : (b : Bool) → same_location (target m) x.location ≡ b → source m ≡ x.location → before_move m x ≡ x
          at_source true t place = becomes x t ∙ ap (equation x.register) place
          at_source false t place = stays x t
      go false s =
          let both : (has old x.register (number x.location) && not (number (target m) == number x.location)) ≡ true =
          sym (ap (λ b. if b then has old x.register (number (source m)) || has old x.register (number (target m)) else has old x.register (number x.location) && not (number (target m) == number x.location)) s) ∙ bit in
          let parts = and_parts (has old x.register (number x.location)) (not (number (target m) == number x.location)) both in
          itself parts.0 (stays x (other_place (target m) x.location (λ k. absurd (let t = eq-eqb (number (target m)) (number x.location) (ap number k) in let p = parts.1 in cc))))

  pub move_carried : AreCarried (before_move m) (listed old) (listed new)
  move_carried = record { there = there; only = only }

-- ---- the operation

pub before_same : (f g : Equation → Fate) (es : List Equation) (made : Option (List Equation)) → ((e : Equation) → g e ≡ f e) → IsBefore f es made → IsBefore g es made
before_same f g es None same (e, i, is) = (e, i, same e ∙ is)
before_same f g es (Some fs) same h = record {
  there = λ e i. subst (λ x. Lies x [] fs) (sym (same e)) (h.there e i);
  only = λ x i. (let b = h.only x i in (b.0, b.1, same b.0 ∙ b.2));
}

pub renamed_before : (f : Equation → Equation) (g : Equation → Fate) (es fs : List Equation) → ((e : Equation) → g e ≡ Becomes (f e)) → AreCarried f es fs → AreBefore g es fs
renamed_before f g es fs same h = record {
  there = λ e i. subst (λ x. Lies x [] fs) (sym (same e)) (h.there e i);
  only = λ x i. (let b = h.only x i in (b.0, b.1, same b.0 ∙ ap Becomes b.2));
}

module _ (own : Option ℕ) (place : Option Location) (overwritten : Location → Bool) (es fs : List Equation)
    (left : AreLeft (λ e. is_register own e.register && is_location place e.location) es fs) where
  judged_by : (e : Equation) (p q r : Bool) → is_register own e.register ≡ p → is_location place e.location ≡ q → overwritten e.location ≡ r
      → judged own place overwritten e ≡ (if p && q then Dropped else (if p || r then Contradicted else Becomes e))
  judged_by e p q r h i j = rw (h, i, j) refl

  pub judge_clean : ((e : Equation) → Contains fs e → is_register own e.register ≡ false) → ((e : Equation) → Contains fs e → overwritten e.location ≡ false) → AreBefore (judged own place overwritten) es fs
  judge_clean no_result no_place = record { there = there'; only = only' }
    where
      stays : (e : Equation) → Contains fs e → judged own place overwritten e ≡ Becomes e
      stays e i = judged_by e false (is_location place e.location) false (no_result e i) refl (no_place e i)

      there' : (e : Equation) → Contains es e → Lies (judged own place overwritten e) [] fs
      there' e i = elim (left.kept e i) [
        | inl mine ↦ (let m = and_parts (is_register own e.register) (is_location place e.location) mine in subst (λ x. Lies x [] fs) (sym (judged_by e true true (overwritten e.location) m.0 m.1 refl)) tt)
        | inr kept ↦ subst (λ x. Lies x [] fs) (sym (stays e kept)) kept
      ]

      only' : (x : Equation) → Contains fs x → (e : Equation) × Contains es e × (judged own place overwritten e ≡ Becomes x)
      only' x i = (x, (left.only x i).0, stays x i)

  not_mine : (e : Equation) → Contains fs e → (p q : Bool) → is_register own e.register ≡ p → is_location place e.location ≡ q → (p && q) ≡ false
  not_mine e i p q h k = sym (ap (λ b. b && q) h) ∙ (sym (ap (λ b. is_register own e.register && b) k) ∙ (left.only e i).1)

  pub judge_result : (e : Equation) → Contains fs e → is_register own e.register ≡ true → IsContradicted (judged own place overwritten) es
  judge_result e i h = (e, (left.only e i).0, judged_by e true false (overwritten e.location) h (not_mine e i true (is_location place e.location) h refl) refl)

  pub judge_place : (e : Equation) → Contains fs e → overwritten e.location ≡ true → IsContradicted (judged own place overwritten) es
  judge_place e i h = (e, (left.only e i).0, go (is_register own e.register) (is_location place e.location) refl refl)
    where
      go : (p q : Bool) → is_register own e.register ≡ p → is_location place e.location ≡ q → judged own place overwritten e ≡ Contradicted
      go true true j k = absurd (let n = not_mine e i true true j k in cc)
      go true false j k = judged_by e true false true j k h
      go false q j k = judged_by e false q true j k h

pub slot_kept : (o : Operation) (i : ℕ) → overwrites o (Slot i) ≡ false
slot_kept (Nop next) i = refl
slot_kept (Const to word next) i = refl
slot_kept (Unary operator to from next) i = refl
slot_kept (Binary operator to left right next) i = refl
slot_kept (Load width object to index next) i = refl
slot_kept (Store width object index from next) i = refl
slot_kept (Call function next) i = refl
slot_kept (Read next) i = refl
slot_kept (Write next) i = refl
slot_kept (Branch from _ _) i = refl
slot_kept Return i = refl

-- ---- equations put in and taken out, by the bits

same_bits : (a b : Location) → IsPlace a → IsPlace b → (number a == number b) ≡ same_location a b
same_bits a b h k = elim (cases_eq (number a) (number b)) [
  | inl same ↦ eq-eqb (number a) (number b) same ∙ sym (same_test a b (same_number a b h k same))
  | inr other ↦ ne_eqb (number a) (number b) other ∙ sym (other_place a b (λ e. other (ap number e)))
]

pub added_with : (old new : Table) (e : Equation) → e.register < 2 ^ 32 → IsPlace e.location → ((i j : ℕ) → has new i j ≡ ((e.register == i && number e.location == j) || has old i j)) → AreWith (e ∷ []) (listed old) (listed new)
added_with old new e register place h = record {
  more_in = λ x i. elim (cases_in e [] x i) [
    | inl same ↦ subst (Contains (listed new)) same (has_listed new e register place (h e.register (number e.location)
        ∙ or_left (e.register == e.register && number e.location == number e.location) (has old e.register (number e.location)) (and_from (e.register == e.register) (number e.location == number e.location) (eq-eqb e.register e.register refl) (eq-eqb (number e.location) (number e.location) refl))))
    | inr none ↦ absurd (none_in x none)
  ];
  kept = λ x i. (let f = listed_fits old x i in has_listed new x f.0 f.1 (h x.register (number x.location) ∙ or_right (e.register == x.register && number e.location == number x.location) (has old x.register (number x.location)) (listed_has old x i)));
  only = λ x i.
      (let f = listed_fits new x i in
      elim (or_cases (e.register == x.register && number e.location == number x.location) (has old x.register (number x.location)) (sym (h x.register (number x.location)) ∙ listed_has new x i)) [
        | inl is ↦
            (let p = and_parts (e.register == x.register) (number e.location == number x.location) is in
            let r = eqb-true e.register x.register p.0 in
            let l = same_number e.location x.location place f.1 (eqb-true (number e.location) (number x.location) p.1) in
            inl (subst (Contains (e ∷ [])) (ap {B = Equation} (λ n. equation n e.location) r ∙ ap {B = Equation} (λ y. equation x.register y) l) (first_in e [])))
        | inr k ↦ inr (has_listed old x f.0 f.1 k)
      ]);
}

pub removed_left : (old new : Table) (e : Equation) → IsPlace e.location → ((i j : ℕ) → has new i j ≡ (has old i j && not (e.register == i && number e.location == j))) → AreLeft (λ x. e.register == x.register && same_location e.location x.location) (listed old) (listed new)
removed_left old new e place h = record {
  kept = λ x i. (let f = listed_fits old x i in go x i f.0 f.1 (e.register == x.register && same_location e.location x.location) refl);
  only = λ x i.
      (let f = listed_fits new x i in
      let p = and_parts (has old x.register (number x.location)) (not (e.register == x.register && number e.location == number x.location)) (sym (h x.register (number x.location)) ∙ listed_has new x i) in
      (has_listed old x f.0 f.1 p.0, ap (λ b. e.register == x.register && b) (sym (same_bits e.location x.location place f.1)) ∙ not-true (e.register == x.register && number e.location == number x.location) p.1));
}
  where
    go : (x : Equation) → Contains (listed old) x → x.register < 2 ^ 32 → IsPlace x.location → (b : Bool) → (e.register == x.register && same_location e.location x.location) ≡ b
        → ((e.register == x.register && same_location e.location x.location) ≡ true) ⊎ Contains (listed new) x
    go x i f k true t = inl t
    go x i f k false t = inr (has_listed new x f k (h x.register (number x.location)
        ∙ and_from (has old x.register (number x.location)) (not (e.register == x.register && number e.location == number x.location)) (listed_has old x i)
        (ap not (ap (λ b. e.register == x.register && b) (same_bits e.location x.location place k) ∙ t))))

-- ---- one register replaced by another, by the bits

module _ (old new : Table) (to from : ℕ) (source_fits : to < 2 ^ 32) (fits : from < 2 ^ 32) (h : (r c : ℕ) → has new r c ≡ row_moved to from (has old) r c) where
  abbrev pub renamed : Equation → Equation
  renamed e = equation (if to == e.register then from else e.register) e.location

  -- the register that replaces the other one has the bits of both; then, any other register keeps its bits
  -- unless it is the replaced one
  gets : (r c : ℕ) → from ≡ r → has new r c ≡ (has old from c || has old to c)
  gets r c same = h r c ∙ ap (λ b. if b then has old from c || has old to c else has old r c && not (to == r)) (eq-eqb from r same)

  keeps : (r c : ℕ) → (from ≡ r → ⊥) → has new r c ≡ (has old r c && not (to == r))
  keeps r c other = h r c ∙ ap (λ b. if b then has old from c || has old to c else has old r c && not (to == r)) (ne_eqb from r other)

  row_there : (e : Equation) → Contains (listed old) e → Contains (listed new) (renamed e)
  row_there e i = go (to == e.register) refl (cases_eq from e.register)
    where
      f : (e.register < 2 ^ 32) × IsPlace e.location
      f = listed_fits old e i

      bit : has old e.register (number e.location) ≡ true
      bit = listed_has old e i

      go : (b : Bool) → (to == e.register) ≡ b → (from ≡ e.register) ⊎ (from ≡ e.register → ⊥) → Contains (listed new) (equation (if to == e.register then from else e.register) e.location)
      go true t w =
          subst (λ b. Contains (listed new) (equation (if b then from else e.register) e.location)) (sym t)
          (has_listed new (equation from e.location) fits f.1 (gets from (number e.location) refl
          ∙ or_right (has old from (number e.location)) (has old to (number e.location)) (ap (λ r. has old r (number e.location)) (eqb-true to e.register t) ∙ bit)))
      go false t (inl same) =
          subst (λ b. Contains (listed new) (equation (if b then from else e.register) e.location)) (sym t)
          (has_listed new e f.0 f.1 (gets e.register (number e.location) same
          ∙ or_left (has old from (number e.location)) (has old to (number e.location)) (ap (λ r. has old r (number e.location)) same ∙ bit)))
      go false t (inr other) =
          subst (λ b. Contains (listed new) (equation (if b then from else e.register) e.location)) (sym t)
          (has_listed new e f.0 f.1 (keeps e.register (number e.location) other ∙ and_from (has old e.register (number e.location)) (not (to == e.register)) bit (ap not t)))

  row_only : (x : Equation) → Contains (listed new) x → (e : Equation) × Contains (listed old) e × (renamed e ≡ x)
  row_only x i = elim (cases_eq from x.register) [
    | inl same ↦ elim (or_cases (has old from c) (has old to c) (sym (gets x.register c same) ∙ bit)) [
      | inl k ↦ (x, has_listed old x f.0 f.1 (ap (λ r. has old r c) (sym same) ∙ k), itself (to == x.register) same)
      | inr k ↦ (let e = equation to x.location in (e, has_listed old e source_fits f.1 k, ap (λ b. equation (if b then from else to) x.location) (eq-eqb to to refl) ∙ ap (λ r. equation r x.location) same))
    ]
    | inr apart ↦
        (let p = and_parts (has old x.register c) (not (to == x.register)) (sym (keeps x.register c apart) ∙ bit) in
        (x, has_listed old x f.0 f.1 p.0, ap (λ b. equation (if b then from else x.register) x.location) (not-true (to == x.register) p.1)))
  ]
    where
      c : ℕ
      c = number x.location

      f : (x.register < 2 ^ 32) × IsPlace x.location
      f = listed_fits new x i

      bit : has new x.register (number x.location) ≡ true
      bit = listed_has new x i

      itself : (b : Bool) → from ≡ x.register → equation (if b then from else x.register) x.location ≡ x
      itself true same = ap (λ r. equation r x.location) same
      itself false same = refl

  pub row_carried : AreCarried renamed (listed old) (listed new)
  row_carried = record { there = row_there; only = row_only }

-- ---- only bits of equations are set

pub number_below : (l : Location) → IsPlace l → number l < most_places
number_below (Register r) h = omega arith
number_below (Slot i) h = omega arith

pub column_equations : (old new : Table) (from to : ℕ) → AreEquations old → to < most_places → ((r c : ℕ) → has new r c ≡ column_moved from to (has old) r c) → AreEquations new
column_equations old new from to are below h = record {
  registers = λ r p i. register r p (to == p) refl (part r p (to == p) refl (sym (h r p) ∙ i));
  places = λ r p i. place r p (to == p) refl (part r p (to == p) refl (sym (h r p) ∙ i));
}
  where
    part : (r p : ℕ) (b : Bool) → (to == p) ≡ b → (if to == p then has old r to || has old r from else has old r p && not (from == p)) ≡ true → (if b then has old r to || has old r from else has old r p && not (from == p)) ≡ true
    part r p b q k = sym (ap (λ b. if b then has old r to || has old r from else has old r p && not (from == p)) q) ∙ k

    register : (r p : ℕ) (b : Bool) → (to == p) ≡ b → (if b then has old r to || has old r from else has old r p && not (from == p)) ≡ true → r < 2 ^ 32
    register r p true q k = elim (or_cases (has old r to) (has old r from) k) [ inl x ↦ are.registers r to x | inr x ↦ are.registers r from x ]
    register r p false q k = are.registers r p (and_parts (has old r p) (not (from == p)) k).0

    place : (r p : ℕ) (b : Bool) → (to == p) ≡ b → (if b then has old r to || has old r from else has old r p && not (from == p)) ≡ true → p < most_places
    place r p true q k = subst (λ x. x < most_places) (eqb-true to p q) below
    place r p false q k = are.places r p (and_parts (has old r p) (not (from == p)) k).0

pub row_equations : (old new : Table) (to from : ℕ) → AreEquations old → from < 2 ^ 32 → ((r c : ℕ) → has new r c ≡ row_moved to from (has old) r c) → AreEquations new
row_equations old new to from are fits h = record {
  registers = λ r p i. register r p (from == r) refl (sym (h r p) ∙ i);
  places = λ r p i. place r p (from == r) refl (sym (h r p) ∙ i);
}
  where
    part : (r p : ℕ) (b : Bool) → (from == r) ≡ b → (if from == r then has old from p || has old to p else has old r p && not (to == r)) ≡ true → (if b then has old from p || has old to p else has old r p && not (to == r)) ≡ true
    part r p b q k = sym (ap (λ b. if b then has old from p || has old to p else has old r p && not (to == r)) q) ∙ k

    register : (r p : ℕ) (b : Bool) → (from == r) ≡ b → (if from == r then has old from p || has old to p else has old r p && not (to == r)) ≡ true → r < 2 ^ 32
    register r p true q k = subst (λ x. x < 2 ^ 32) (eqb-true from r q) fits
    register r p false q k = are.registers r p (and_parts (has old r p) (not (to == r)) (part r p false q k)).0

    place : (r p : ℕ) (b : Bool) → (from == r) ≡ b → (if from == r then has old from p || has old to p else has old r p && not (to == r)) ≡ true → p < most_places
    place r p true q k = elim (or_cases (has old from p) (has old to p) (part r p true q k)) [ inl x ↦ are.places from p x | inr x ↦ are.places to p x ]
    place r p false q k = are.places r p (and_parts (has old r p) (not (to == r)) (part r p false q k)).0

-- ---- whether a register is overwritten

pub all_kept : (o : Operation) (es : List Equation) → ((e : Equation) → Contains es e → (e.register < 2 ^ 32) × IsPlace e.location)
    → ((k : ℕ) → k < 32 → overwrites o (Register k) ≡ true → (e : Equation) → Contains es e → e.location ≡ Register k → ⊥) → (e : Equation) → Contains es e → overwrites o e.location ≡ false
all_kept o es fits none e i = go e.location refl (fits e i).1
  where
    go : (l : Location) → e.location ≡ l → IsPlace l → overwrites o l ≡ false
    go (Slot s) same f = slot_kept o s
    go (Register k) same f = test (overwrites o (Register k)) refl
      where
        test : (b : Bool) → overwrites o (Register k) ≡ b → overwrites o (Register k) ≡ false
        test true t = absurd (none k f t e i same)
        test false t = t

-- ---- a node that is not a move

pub fate_judged : (n : Node) (o : Operation) → ((to from next : ℕ) → n ≡ code.Move to from next → ⊥) → (e : Equation) → fate (node_of n) o e ≡ judged (result_of (node_of n)) (result_place o) (overwrites o) e
fate_judged (code.Move to from next) o h e = absurd (h to from next refl)
fate_judged (code.Nop next) o h e = refl
fate_judged (code.Const to word next) o h e = refl
fate_judged (code.Unary operator to from next) o h e = refl
fate_judged (code.Binary operator to left right next) o h e = refl
fate_judged (code.Load width object to index next) o h e = refl
fate_judged (code.Store width object index from next) o h e = refl
fate_judged (code.Call function arguments to next) o h e = refl
fate_judged (code.Read to next) o h e = refl
fate_judged (code.Write from next) o h e = refl
fate_judged (code.Branch from if_nonzero if_zero) o h e = refl
fate_judged (code.Return from) o h e = refl
