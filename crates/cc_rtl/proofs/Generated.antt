-- What the generator makes is the code of the body, and has the counted number of nodes.
use Rattle.std.proofs.Common.{◌≡◌, ℕ, zero, suc, ◌+◌, ◌<◌, ◌≤◌, List, [], ◌∷◌, ◌++◌, length, get_or, set, refl, sym, ap, ◌∙◌, subst, inl, inr, arith, append_assoc, length-append, Option, Some, None}
use Rattle.std.proofs.Math.Seq.{get_or-append_seam}
use Rattle.cc_cminor_language.specs.Cminor.{Expression, Constant, Local, Unary, Binary, Load, Statement, Skip, Set, Store, Call, Read, Write, Sequence, If, Loop, Block, Exit, Return}
use Rattle.cc_rtl_language.specs.Rtl as rtl
use Rattle.cc_rtl_language.specs.internal.Moves.{Graph}
use Rattle.cc_rtl.specs.internal.Translates.{Held, Into, Operand, Operands, Leads, Takes, Translates, IsCodeOf}
use Rattle.cc_rtl.specs.internal.Generate.{Places, place_at, Made, pushed, held_in, taken_by, operand_by, register, taken, made_into, operand, registers, operands, closed, made, made_function, Uses, AllUse, IsFormed}
use Rattle.cc_rtl.specs.Size.{variable_of, kept_by, into_nodes, operand_nodes, operands_nodes, statement_nodes, function_nodes}
use Rattle.cc_rtl.proofs.Growing.{Extends, held_grows, into_grows, operands_grow, translates_grows, finishes_grows}

pub node_kept : (g rest : Places) → Extends (place_at g) (place_at (g ++ rest))
node_kept [] rest l n e = absurd (let z : None ≡ Some n = e in cc)
node_kept (x ∷ g) rest zero n e = e
node_kept (x ∷ g) rest (suc l) n e = node_kept g rest l n e

pub node_here : (g : Places) (x : Option rtl.Node) (rest : Places) → place_at (g ++ (x ∷ rest)) (length g) ≡ x
node_here g x rest = get_or-append_seam g x rest None

set_seam : (g rest : Places) (x y : Option rtl.Node) → set (g ++ (x ∷ rest)) (length g) y ≡ g ++ (y ∷ rest)
set_seam [] rest x y = refl
set_seam (z ∷ g) rest x y = ap (λ r. z ∷ r) (set_seam g rest x y)

fills : (g rest : Places) (x : Option rtl.Node) → Extends (place_at (g ++ (None ∷ rest))) (place_at (g ++ (x ∷ rest)))
fills [] rest x zero n e = absurd (let z : None ≡ Some n = e in cc)
fills [] rest x (suc l) n e = e
fills (z ∷ g) rest x zero n e = e
fills (z ∷ g) rest x (suc l) n e = fills g rest x l n e

append_none : (g : Places) → g ≡ g ++ []
append_none [] = refl
append_none (x ∷ g) = ap (λ r. x ∷ r) (append_none g)

leads : (exits : List ℕ) (k d : ℕ) → Leads exits k (get_or exits k d)
leads [] k d = tt
leads (x ∷ exits) zero d = refl
leads (x ∷ exits) (suc k) d = leads exits k d

-- what was there is still there, at most `most` nodes are new, and the claim holds of the nodes and the entry
pub record Right (g : Places) (m : Made) (most : ℕ) (Claim : Graph → ℕ → Type 0) : Type 0 where
  pub rest : Places
  pub prefix : m.places ≡ g ++ rest
  pub few : length m.places ≡ length g + most
  pub claim : Claim (place_at m.places) m.entry

pub pushed_right : (n : rtl.Node) (g : Places) → Right g (pushed n g) 1 (λ f l. f l ≡ Some n)
pushed_right n g = record { rest = Some n ∷ []; prefix = refl; few = let e = length-append g (Some n ∷ []) in omega arith; claim = node_here g (Some n) [] }

pub right_then : (g : Places) (m m' : Made) (c d most : ℕ) (P Q R : Graph → ℕ → Type 0) → Right g m c P → Right m.places m' d Q → c + d ≡ most
    → (Extends (place_at m.places) (place_at m'.places) → P (place_at m.places) m.entry → Q (place_at m'.places) m'.entry → R (place_at m'.places) m'.entry) → Right g m' most R
right_then g m m' c d most P Q R x y le f = record {
  rest = x.rest ++ y.rest;
  prefix = y.prefix ∙ ap (λ z. z ++ y.rest) x.prefix ∙ append_assoc g x.rest y.rest;
  few = let a = x.few in let b = y.few in omega arith;
  claim = f (subst (λ z. Extends (place_at m.places) (place_at z)) (sym y.prefix) (node_kept m.places y.rest)) x.claim y.claim;
}

is_variable : (e : Expression) (x : ℕ) → variable_of e ≡ Some x → e ≡ Local x
is_variable (Constant w) x e = absurd (let z : None ≡ Some x = e in cc)
is_variable (Local y) x e = let z : Some y ≡ Some x = e in let w : y ≡ x = cc in ap Local w
is_variable (Unary op a) x e = absurd (let z : None ≡ Some x = e in cc)
is_variable (Binary op a b) x e = absurd (let z : None ≡ Some x = e in cc)
is_variable (Load width o a) x e = absurd (let z : None ≡ Some x = e in cc)

module _ (count : ℕ) where
  abbrev Makes : Expression → Type 0
  Makes e = (free to exit : ℕ) (g : Places) → Uses count e → count ≤ free → Right g (made_into e free to exit g) (into_nodes e) (λ f entry. Into f count e free to entry exit)

  operand_by_right : (e : Expression) → Makes e → (v : Option ℕ) → variable_of e ≡ v → (free : ℕ) (next : Made) → Uses count e → count ≤ free
      → Right next.places (operand_by v (made_into e) free next) (kept_by v (into_nodes e)) (λ f entry. Held f count e (Into f count e) free (held_in v free) (taken_by v free) entry next.entry)
  operand_by_right e makes None is free next uses above =
      let x = makes (suc free) free next.entry next.places uses (omega arith) in
      record { rest = x.rest; prefix = x.prefix; few = x.few; claim = (omega arith, omega arith, inr (omega arith, x.claim)) }
  operand_by_right e makes (Some x) is free next uses above =
      let same = is_variable e x is in
      let low : x < count = subst (Uses count) same uses in
      record { rest = []; prefix = append_none next.places; few = omega arith; claim = (omega arith, omega arith, inl (same, low, refl)) }

  above_taken : (e : Expression) (free : ℕ) (v : Option ℕ) → count ≤ free → count ≤ taken_by v free
  above_taken e free None above = omega arith
  above_taken e free (Some x) above = above

  abbrev OneHeld : Expression → (free register : ℕ) → rtl.Node → Graph → ℕ → Type 0
  OneHeld a free register n f entry = (free' : ℕ) × (m : ℕ) × Held f count a (Into f count a) free register free' entry m × (f m ≡ Some n)

  one_held : (a : Expression) → Makes a → (free : ℕ) (n : rtl.Node) (next : Made) (g : Places) (c most : ℕ) → Right g next c (λ f l. f l ≡ Some n) → c + operand_nodes a ≡ most → Uses count a → count ≤ free
      → Right g (operand_by (variable_of a) (made_into a) free next) most (OneHeld a free (register a free) n)
  one_held a makes free n next g c most p le uses above =
      let o = operand_by_right a makes (variable_of a) refl free next uses above in
      right_then g next _ c (operand_nodes a) most (λ f l. f l ≡ Some n) (λ f entry. Held f count a (Into f count a) free (register a free) (taken a free) entry next.entry) (OneHeld a free (register a free) n) p o le
      (λ more stands held. (taken a free, next.entry, held, more _ _ stands))

  abbrev TwoHeld : Expression → Expression → (free left right : ℕ) → rtl.Node → Graph → ℕ → Type 0
  TwoHeld a b free left right n f entry = (free' : ℕ) × (m : ℕ) × (free'' : ℕ) × (k : ℕ) × Held f count a (Into f count a) free left free' entry m × Held f count b (Into f count b) free' right free'' m k × (f k ≡ Some n)

  two_held : (a b : Expression) → Makes a → Makes b → (free : ℕ) (n : rtl.Node) (g : Places) → Uses count a → Uses count b → count ≤ free
      → Right g (operand_by (variable_of a) (made_into a) free (operand_by (variable_of b) (made_into b) (taken a free) (pushed n g))) (suc (operand_nodes a + operand_nodes b)) (TwoHeld a b free (register a free) (register b (taken a free)) n)
  two_held a b makes_a makes_b free n g uses_a uses_b above =
      let y = one_held b makes_b (taken a free) n (pushed n g) g 1 (suc (operand_nodes b)) (pushed_right n g) (omega arith) uses_b (above_taken a free (variable_of a) above) in
      let next = operand_by (variable_of b) (made_into b) (taken a free) (pushed n g) in
      let o = operand_by_right a makes_a (variable_of a) refl free next uses_a above in
      right_then g next _ (suc (operand_nodes b)) (operand_nodes a) (suc (operand_nodes a + operand_nodes b)) (OneHeld b (taken a free) (register b (taken a free)) n) (λ f entry. Held f count a (Into f count a) free (register a free) (taken a free) entry next.entry)
      (TwoHeld a b free (register a free) (register b (taken a free)) n) y o (omega arith)
      (λ more (free'', k, held_b, stands) held_a. (taken a free, next.entry, free'', k, held_a, held_grows _ _ more count b _ _ (into_grows _ _ more count b) (taken a free) (register b (taken a free)) free'' next.entry k held_b, more _ _ stands))

  -- `Right` also holds of a claim that follows, with an equal limit
  weaker : (g : Places) (m : Made) (c most : ℕ) (P Q : Graph → ℕ → Type 0) → Right g m c P → c ≡ most → (P (place_at m.places) m.entry → Q (place_at m.places) m.entry) → Right g m most Q
  weaker g m c most P Q x le f = record { rest = x.rest; prefix = x.prefix; few = let a = x.few in omega arith; claim = f x.claim }

  pub makes : (e : Expression) → Makes e
  makes (Constant w) free to exit g uses above = pushed_right (rtl.Const to w exit) g
  makes (Local x) free to exit g uses above = weaker g _ 1 1 (λ f l. f l ≡ Some (rtl.Move to x exit)) (λ f entry. Into f count (Local x) free to entry exit) (pushed_right (rtl.Move to x exit) g) (omega arith) (λ stands. (uses, stands))
  makes (Unary op a) free to exit g uses above =
      let n = rtl.Unary op to (register a free) exit in
      weaker g _ (suc (operand_nodes a)) (suc (operand_nodes a)) (OneHeld a free (register a free) n) (λ f entry. Into f count (Unary op a) free to entry exit)
      (one_held a (makes a) free n (pushed n g) g 1 (suc (operand_nodes a)) (pushed_right n g) (omega arith) uses above) (omega arith)
      (λ (free', m, held, stands). (register a free, free', m, held, stands))
  makes (Binary op a b) free to exit g (uses_a, uses_b) above =
      let n = rtl.Binary op to (register a free) (register b (taken a free)) exit in
      weaker g _ (suc (operand_nodes a + operand_nodes b)) (suc (operand_nodes a + operand_nodes b)) (TwoHeld a b free (register a free) (register b (taken a free)) n) (λ f entry. Into f count (Binary op a b) free to entry exit)
      (two_held a b (makes a) (makes b) free n g uses_a uses_b above) (omega arith)
      (λ (free', m, free'', k, held_a, held_b, stands). (register a free, free', m, register b (taken a free), free'', k, held_a, held_b, stands))
  makes (Load width o a) free to exit g uses above =
      let n = rtl.Load width o to (register a free) exit in
      weaker g _ (suc (operand_nodes a)) (suc (operand_nodes a)) (OneHeld a free (register a free) n) (λ f entry. Into f count (Load width o a) free to entry exit)
      (one_held a (makes a) free n (pushed n g) g 1 (suc (operand_nodes a)) (pushed_right n g) (omega arith) uses above) (omega arith)
      (λ (free', m, held, stands). (register a free, free', m, held, stands))

  pub operand_right : (e : Expression) (free : ℕ) (next : Made) → Uses count e → count ≤ free → Right next.places (operand e free next) (operand_nodes e) (λ f entry. Operand f count e free (register e free) (taken e free) entry next.entry)
  operand_right e free next uses above = operand_by_right e (makes e) (variable_of e) refl free next uses above

  pub operands_right : (es : List Expression) (free : ℕ) (next : Made) → AllUse count es → count ≤ free → Right next.places (operands es free next) (operands_nodes es) (λ f entry. Operands f count es (registers es free) free entry next.entry)
  operands_right [] free next uses above = record { rest = []; prefix = append_none next.places; few = omega arith; claim = refl }
  operands_right (e ∷ es) free next (uses, all) above =
      let above' = above_taken e free (variable_of e) above in
      let x = operands_right es (taken e free) next all above' in
      let behind = operands es (taken e free) next in
      let y = operand_right e free behind uses above in
      right_then next.places behind _ (operands_nodes es) (operand_nodes e) _ (λ f entry. Operands f count es (registers es (taken e free)) (taken e free) entry next.entry) (λ f entry. Operand f count e free (register e free) (taken e free) entry behind.entry)
      (λ f entry. Operands f count (e ∷ es) (registers (e ∷ es) free) free entry next.entry) x y (omega arith)
      (λ more rest one. (taken e free, behind.entry, one, operands_grow _ _ more count es (registers es (taken e free)) (taken e free) behind.entry next.entry rest))

  -- a node with one operand, after the nodes of the operand, is right
  one_operand : (e : Expression) (n : rtl.Node) (g : Places) → Uses count e → Right g (operand e count (pushed n g)) (suc (operand_nodes e)) (OneHeld e count (register e count) n)
  one_operand e n g uses = one_held e (makes e) count n (pushed n g) g 1 (suc (operand_nodes e)) (pushed_right n g) (omega arith) uses (omega arith)

  abbrev Here : Statement → (exit : ℕ) → List ℕ → Graph → ℕ → Type 0
  Here s exit exits f entry = Translates f count s entry exit exits

  taken_there : (f : Graph) (to : Option ℕ) → Takes f count to (held_in to count)
  taken_there f None = omega arith
  taken_there f (Some x) = refl

  -- the code of a loop is right once the loop's head gets its node
  closed_right : (a : Statement) (exit : ℕ) (exits : List ℕ) (g : Places) (body : Made) (most : ℕ) → Right (g ++ (None ∷ [])) body most (Here a (length g) exits) → Right g (closed (length g) body) (suc most) (Here (Loop a) exit exits)
  closed_right a exit exits g body most x =
      let n = Some (rtl.Nop body.entry) in
      let was : body.places ≡ g ++ (None ∷ x.rest) = x.prefix ∙ append_assoc g (None ∷ []) x.rest in
      let is : set body.places (length g) n ≡ g ++ (n ∷ x.rest) = ap (λ z. set z (length g) n) was ∙ set_seam g x.rest None n in
      let more : Extends (place_at body.places) (place_at (set body.places (length g) n)) =
      subst (λ z. Extends (place_at z) (place_at (set body.places (length g) n))) (sym was) (subst (λ z. Extends (place_at (g ++ (None ∷ x.rest))) (place_at z)) (sym is) (fills g x.rest n)) in
      record {
        rest = n ∷ x.rest;
        prefix = is;
        few =
            (let e1 = ap length was in
            let e2 = ap length is in
            let e3 = length-append g (None ∷ x.rest) in
            let e4 = length-append g (n ∷ x.rest) in
            let e5 = length-append g (None ∷ []) in
            let f = x.few in
            omega arith);
        claim = (body.entry, ap (λ z. place_at z (length g)) is ∙ node_here g n x.rest, translates_grows _ _ more count a body.entry (length g) exits x.claim);
      }

  pub made_right : (s : Statement) (exit : ℕ) (exits : List ℕ) (g : Places) → IsFormed count s → Right g (made count s exit exits g) (statement_nodes s) (Here s exit exits)
  made_right Skip exit exits g formed = record { rest = []; prefix = append_none g; few = omega arith; claim = refl }
  made_right (Set x e) exit exits g (low, uses) =
      weaker g _ (into_nodes e) _ (λ f entry. Into f count e count x entry exit) (Here (Set x e) exit exits) (makes e count x exit g uses (omega arith)) (omega arith) (λ into. (low, into))
  made_right (Store width o i e) exit exits g (uses_i, uses_e) =
      let n = rtl.Store width o (register i count) (register e (taken i count)) exit in
      weaker g _ (suc (operand_nodes i + operand_nodes e)) _ (TwoHeld i e count (register i count) (register e (taken i count)) n) (Here (Store width o i e) exit exits)
      (two_held i e (makes i) (makes e) count n g uses_i uses_e (omega arith)) (omega arith)
      (λ (free', m, free'', k, held_i, held_e, stands). (register i count, free', m, register e (taken i count), free'', k, held_i, held_e, stands))
  made_right (Call to q es) exit exits g uses =
      let n = rtl.Call q (registers es count) to exit in
      let next = pushed n g in
      right_then g next _ 1 (operands_nodes es) _ (λ f l. f l ≡ Some n) (λ f entry. Operands f count es (registers es count) count entry next.entry) (Here (Call to q es) exit exits)
      (pushed_right n g) (operands_right es count next uses (omega arith)) (omega arith)
      (λ more stands held. (registers es count, next.entry, held, more _ _ stands))
  made_right (Read to) exit exits g formed =
      let n = rtl.Read (held_in to count) exit in
      weaker g _ 1 1 (λ f l. f l ≡ Some n) (Here (Read to) exit exits) (pushed_right n g) refl (λ stands. (held_in to count, taken_there (place_at (pushed n g).places) to, stands))
  made_right (Write e) exit exits g uses =
      let n = rtl.Write (register e count) exit in
      weaker g _ (suc (operand_nodes e)) _ (OneHeld e count (register e count) n) (Here (Write e) exit exits) (one_operand e n g uses) (omega arith)
      (λ (free', m, held, stands). (register e count, free', m, held, stands))
  made_right (Sequence a b) exit exits g (formed_a, formed_b) =
      let n = made count b exit exits g in
      right_then g n _ (statement_nodes b) (statement_nodes a) _ (Here b exit exits) (Here a n.entry exits) (Here (Sequence a b) exit exits) (made_right b exit exits g formed_b) (made_right a n.entry exits n.places formed_a) (omega arith)
      (λ more code_b code_a. (n.entry, code_a, translates_grows _ _ more count b n.entry exit exits code_b))
  made_right (If e a b) exit exits g (uses, formed_a, formed_b) =
      let n = made count b exit exits g in
      let m = made count a exit exits n.places in
      let node = rtl.Branch (register e count) m.entry n.entry in
      let two = right_then g n m (statement_nodes b) (statement_nodes a) (statement_nodes b + statement_nodes a) (Here b exit exits) (Here a exit exits) (λ f entry. Here b exit exits f n.entry × Here a exit exits f entry) (made_right b exit exits g formed_b) (made_right a exit exits n.places formed_a) (omega arith)
      (λ more code_b code_a. (translates_grows _ _ more count b n.entry exit exits code_b, code_a)) in
      right_then g m _ (statement_nodes b + statement_nodes a) (suc (operand_nodes e)) _ (λ f entry. Here b exit exits f n.entry × Here a exit exits f entry) (OneHeld e count (register e count) node) (Here (If e a b) exit exits) two (one_operand e node m.places uses) (omega arith)
      (λ more (code_b, code_a) (free', k, held, stands). (register e count, free', k, m.entry, n.entry, held, stands, translates_grows _ _ more count a m.entry exit exits code_a, translates_grows _ _ more count b n.entry exit exits code_b))
  made_right (Loop a) exit exits g formed = closed_right a exit exits g (made count a (length g) exits (g ++ (None ∷ []))) (statement_nodes a) (made_right a (length g) exits (g ++ (None ∷ [])) formed)
  made_right (Block a) exit exits g formed = weaker g _ (statement_nodes a) _ (Here a exit (exit ∷ exits)) (Here (Block a) exit exits) (made_right a exit (exit ∷ exits) g formed) (omega arith) (λ code. code)
  made_right (Exit k) exit exits g formed = record { rest = []; prefix = append_none g; few = omega arith; claim = leads exits k exit }
  made_right (Return e) exit exits g uses =
      let n = rtl.Return (register e count) in
      weaker g _ (suc (operand_nodes e)) _ (OneHeld e count (register e count) n) (Here (Return e) exit exits) (one_operand e n g uses) (omega arith)
      (λ (free', m, held, stands). (register e count, free', m, held, stands))

  -- the whole function: its code, with the counted number of nodes
  pub function_right : (body : Statement) → IsFormed count body → IsCodeOf (place_at (made_function count body).places) count body (made_function count body).entry × (length (made_function count body).places ≡ function_nodes body)
  function_right body formed =
      let ends : Places = Some (rtl.Return count) ∷ Some (rtl.Const count 0 0) ∷ [] in
      let b = made count body 1 [] ends in
      let x = made_right body 1 [] ends formed in
      let p = pushed_right (rtl.Nop b.entry) b.places in
      let more : Extends (place_at ends) (place_at b.places) = subst (λ z. Extends (place_at ends) (place_at z)) (sym x.prefix) (node_kept ends x.rest) in
      let more' : Extends (place_at b.places) (place_at (pushed (rtl.Nop b.entry) b.places).places) = subst (λ z. Extends (place_at b.places) (place_at z)) (sym p.prefix) (node_kept b.places p.rest) in (
        record {
          first = b.entry;
          exit = 1;
          nop = p.claim;
          translates = translates_grows _ _ more' count body b.entry 1 [] x.claim;
          finishes = finishes_grows _ _ more' count 1 (finishes_grows _ _ more count 1 (count, 0, refl, refl));
        },
        (let f = x.few in let h = p.few in omega arith),
      )
