-- Each generated call has as many arguments as its function has parameters, because each call in the body has.
use Rattle.std.proofs.Common.{◌≡◌, ℕ, zero, suc, List, [], ◌∷◌, ◌++◌, length, set, refl, sym, ap, ◌∙◌, subst, Option, Some, None}
use Rattle.cc_ast.specs.Tree.{External}
use Rattle.cc_cminor_language.specs.Cminor.{Expression, Constant, Local, Unary, Binary, Load, Statement, Skip, Set, Store, Call, Read, Write, Sequence, If, Loop, Block, Exit, Return}
use Rattle.cc_cminor_language.specs.Pair as cminor
use Rattle.cc_rtl_language.specs.Rtl as rtl
use Rattle.cc_rtl_language.specs.Pair.{IsCallOf, AreCalls}
use Rattle.cc_rtl.specs.Size.{variable_of}
use Rattle.cc_rtl.specs.internal.Generate.{Places, place_at, Made, pushed, held_in, operand_by, register, taken, made_into, operand, registers, operands, made, IsFormed, renamed, generated_rtl}
use Rattle.cc_rtl.proofs.Function.{places, last, filled}
use Rattle.cc_rtl.proofs.Labels.{placed}

registers_many : (es : List Expression) (free : ℕ) → length (registers es free) ≡ length es
registers_many [] free = refl
registers_many (e ∷ es) free = ap suc (registers_many es (taken e free))

module _ (unit : List External) where
  abbrev AllCalls : Places → Type 0
  AllCalls [] = Unit {0}
  AllCalls (None ∷ g) = AllCalls g
  AllCalls (Some n ∷ g) = IsCallOf unit n × AllCalls g

  one_more : (g : Places) (n : rtl.Node) → AllCalls g → IsCallOf unit n → AllCalls (pushed n g).places
  one_more [] n all one = (one, tt)
  one_more (None ∷ g) n all one = one_more g n all one
  one_more (Some x ∷ g) n (here, all) one = (here, one_more g n all one)

  opened : (g : Places) → AllCalls g → AllCalls (g ++ (None ∷ []))
  opened [] all = tt
  opened (None ∷ g) all = opened g all
  opened (Some x ∷ g) (here, all) = (here, opened g all)

  put_in : (g : Places) (i : ℕ) (n : rtl.Node) → AllCalls g → IsCallOf unit n → AllCalls (set g i (Some n))
  put_in [] i n all one = tt
  put_in (None ∷ g) zero n all one = (one, all)
  put_in (None ∷ g) (suc i) n all one = put_in g i n all one
  put_in (Some x ∷ g) zero n (here, all) one = (one, all)
  put_in (Some x ∷ g) (suc i) n (here, all) one = (here, put_in g i n all one)

  stands_there : (g : Places) (l : ℕ) (n : rtl.Node) → AllCalls g → place_at g l ≡ Some n → IsCallOf unit n
  stands_there [] l n all e = absurd (let z : None ≡ Some n = e in cc)
  stands_there (None ∷ g) zero n all e = absurd (let z : None ≡ Some n = e in cc)
  stands_there (None ∷ g) (suc l) n all e = stands_there g l n all e
  stands_there (Some x ∷ g) zero n (here, all) e = let z : Some x ≡ Some n = e in let w : x ≡ n = cc in subst (IsCallOf unit) w here
  stands_there (Some x ∷ g) (suc l) n (here, all) e = stands_there g l n all e

  abbrev IntoCalls : Expression → Type 0
  IntoCalls e = (free to exit : ℕ) (g : Places) → AllCalls g → AllCalls (made_into e free to exit g).places

  operand_by_calls : (e : Expression) → IntoCalls e → (v : Option ℕ) (free : ℕ) (next : Made) → AllCalls next.places → AllCalls (operand_by v (made_into e) free next).places
  operand_by_calls e ih None free next all = ih (suc free) free next.entry next.places all
  operand_by_calls e ih (Some x) free next all = all

  into_calls : (e : Expression) → IntoCalls e
  into_calls (Constant w) free to exit g all = one_more g (rtl.Const to w exit) all tt
  into_calls (Local x) free to exit g all = one_more g (rtl.Move to x exit) all tt
  into_calls (Unary op a) free to exit g all = operand_by_calls a (into_calls a) (variable_of a) free _ (one_more g (rtl.Unary op to (register a free) exit) all tt)
  into_calls (Binary op a b) free to exit g all =
      operand_by_calls a (into_calls a) (variable_of a) free _
      (operand_by_calls b (into_calls b) (variable_of b) (taken a free) _ (one_more g (rtl.Binary op to (register a free) (register b (taken a free)) exit) all tt))
  into_calls (Load width o a) free to exit g all = operand_by_calls a (into_calls a) (variable_of a) free _ (one_more g (rtl.Load width o to (register a free) exit) all tt)

  operand_calls : (e : Expression) (free : ℕ) (next : Made) → AllCalls next.places → AllCalls (operand e free next).places
  operand_calls e free next all = operand_by_calls e (into_calls e) (variable_of e) free next all

  operands_calls : (es : List Expression) (free : ℕ) (next : Made) → AllCalls next.places → AllCalls (operands es free next).places
  operands_calls [] free next all = all
  operands_calls (e ∷ es) free next all = operand_calls e free (operands es (taken e free) next) (operands_calls es (taken e free) next all)

  made_calls : (count : ℕ) (s : Statement) (exit : ℕ) (exits : List ℕ) (g : Places) → cminor.AreCalls unit s → AllCalls g → AllCalls (made count s exit exits g).places
  made_calls count Skip exit exits g calls all = all
  made_calls count (Set x e) exit exits g calls all = into_calls e count x exit g all
  made_calls count (Store width o i e) exit exits g calls all =
      let n = rtl.Store width o (register i count) (register e (taken i count)) exit in
      operand_calls i count (operand e (taken i count) (pushed n g)) (operand_calls e (taken i count) (pushed n g) (one_more g n all tt))
  made_calls count (Call to f es) exit exits g calls all =
      operands_calls es count (pushed (rtl.Call f (registers es count) to exit) g) (one_more g (rtl.Call f (registers es count) to exit) all (calls ∙ ap (λ n. Some n) (sym (registers_many es count))))
  made_calls count (Read to) exit exits g calls all = one_more g (rtl.Read (held_in to count) exit) all tt
  made_calls count (Write e) exit exits g calls all = operand_calls e count (pushed (rtl.Write (register e count) exit) g) (one_more g (rtl.Write (register e count) exit) all tt)
  made_calls count (Sequence a b) exit exits g (calls_a, calls_b) all =
      let n = made count b exit exits g in
      made_calls count a n.entry exits n.places calls_a (made_calls count b exit exits g calls_b all)
  made_calls count (If e a b) exit exits g (calls_a, calls_b) all =
      let n = made count b exit exits g in
      let m = made count a exit exits n.places in
      let branch = rtl.Branch (register e count) m.entry n.entry in
      operand_calls e count (pushed branch m.places) (one_more m.places branch (made_calls count a exit exits n.places calls_a (made_calls count b exit exits g calls_b all)) tt)
  made_calls count (Loop a) exit exits g calls all =
      let body = made count a (length g) exits (g ++ (None ∷ [])) in
      put_in body.places (length g) (rtl.Nop body.entry) (made_calls count a (length g) exits (g ++ (None ∷ [])) calls (opened g all)) tt
  made_calls count (Block a) exit exits g calls all = made_calls count a exit (exit ∷ exits) g calls all
  made_calls count (Exit k) exit exits g calls all = all
  made_calls count (Return e) exit exits g calls all = operand_calls e count (pushed (rtl.Return (register e count)) g) (one_more g (rtl.Return (register e count)) all tt)

  call_renamed : (t : ℕ → ℕ) (n : rtl.Node) → IsCallOf unit n → IsCallOf unit (renamed t n)
  call_renamed t (rtl.Nop n) is = tt
  call_renamed t (rtl.Const to w n) is = tt
  call_renamed t (rtl.Move to r n) is = tt
  call_renamed t (rtl.Unary op to r n) is = tt
  call_renamed t (rtl.Binary op to r s n) is = tt
  call_renamed t (rtl.Load width o to r n) is = tt
  call_renamed t (rtl.Store width o r s n) is = tt
  call_renamed t (rtl.Call f rs to n) is = is
  call_renamed t (rtl.Read to n) is = tt
  call_renamed t (rtl.Write r n) is = tt
  call_renamed t (rtl.Branch r n m) is = tt
  call_renamed t (rtl.Return r) is = tt

  pub generated_calls : (parameters count : ℕ) (body : Statement) → IsFormed count body → cminor.AreCalls unit body → AreCalls unit (generated_rtl parameters count body)
  generated_calls parameters count body formed calls label node e =
      let p = placed (places parameters count body formed) (last parameters count body formed) (filled parameters count body formed) label node e in
      let b = made count body 1 [] (Some (rtl.Return count) ∷ Some (rtl.Const count 0 0) ∷ []) in
      let all = one_more b.places (rtl.Nop b.entry) (made_calls count body 1 [] (Some (rtl.Return count) ∷ Some (rtl.Const count 0 0) ∷ []) calls (tt, (tt, tt))) tt in
      subst (IsCallOf unit) (sym p.is) (call_renamed _ p.node (stands_there (places parameters count body formed) p.place p.node all p.stands))
