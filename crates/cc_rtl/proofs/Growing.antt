-- A translation stays right when nodes are added.
use Rattle.std.proofs.Common.{◌≡◌, ℕ, suc, List, [], ◌∷◌, inl, inr, Option, Some, None}
use Rattle.cc_cminor_language.specs.Cminor.{Expression, Constant, Local, Unary, Binary, Load, Statement, Skip, Set, Store, Call, Read, Write, Sequence, If, Loop, Block, Exit, Return}
use Rattle.cc_rtl_language.specs.Rtl as rtl
use Rattle.cc_rtl_language.specs.internal.Moves.{Graph}
use Rattle.cc_rtl.specs.internal.Translates.{Held, Into, Operand, Operands, Takes, Translates, Finishes}

abbrev pub Extends : (Graph) → (Graph) → Type 0
Extends f g = (l : ℕ) (n : rtl.Node) → f l ≡ Some n → g l ≡ Some n

module _ (f g : Graph) (more : Extends f g) (count : ℕ) where
  pub held_grows : (e : Expression) (into into' : ℕ → ℕ → ℕ → ℕ → Type 0) → ((free to entry exit : ℕ) → into free to entry exit → into' free to entry exit) → (free register free' entry exit : ℕ) → Held f count e into free register free' entry exit → Held g count e into' free register free' entry exit
  held_grows e into into' grows free register free' entry exit (le, lt, inl x) = (le, lt, inl x)
  held_grows e into into' grows free register free' entry exit (le, lt, inr (fresh, x)) = (le, lt, inr (fresh, grows (suc register) register entry exit x))

  pub into_grows : (e : Expression) (free to entry exit : ℕ) → Into f count e free to entry exit → Into g count e free to entry exit
  into_grows (Constant w) free to entry exit x = more _ _ x
  into_grows (Local v) free to entry exit (lt, x) = (lt, more _ _ x)
  into_grows (Unary op a) free to entry exit (r, free', m, x, y) = (r, free', m, held_grows a (Into f count a) (Into g count a) (into_grows a) free r free' entry m x, more _ _ y)
  into_grows (Binary op a b) free to entry exit (r, free', m, s, free'', n, x, y, z) =
      (r, free', m, s, free'', n, held_grows a (Into f count a) (Into g count a) (into_grows a) free r free' entry m x, held_grows b (Into f count b) (Into g count b) (into_grows b) free' s free'' m n y, more _ _ z)
  into_grows (Load width o a) free to entry exit (r, free', m, x, y) = (r, free', m, held_grows a (Into f count a) (Into g count a) (into_grows a) free r free' entry m x, more _ _ y)

  pub operand_grows : (e : Expression) (free register free' entry exit : ℕ) → Operand f count e free register free' entry exit → Operand g count e free register free' entry exit
  operand_grows e free register free' entry exit x = held_grows e (Into f count e) (Into g count e) (into_grows e) free register free' entry exit x

  pub operands_grow : (es : List Expression) (rs : List ℕ) (free entry exit : ℕ) → Operands f count es rs free entry exit → Operands g count es rs free entry exit
  operands_grow [] [] free entry exit x = x
  operands_grow [] (r ∷ rs) free entry exit x = x
  operands_grow (e ∷ es) [] free entry exit x = x
  operands_grow (e ∷ es) (r ∷ rs) free entry exit (free', m, x, y) = (free', m, operand_grows e free r free' entry m x, operands_grow es rs free' m exit y)

  takes_same : (to : Option ℕ) (r : ℕ) → Takes f count to r → Takes g count to r
  takes_same None r h = h
  takes_same (Some x) r h = h

  pub translates_grows : (s : Statement) (entry exit : ℕ) (exits : List ℕ) → Translates f count s entry exit exits → Translates g count s entry exit exits
  translates_grows Skip entry exit exits x = x
  translates_grows (Set v e) entry exit exits (lt, x) = (lt, into_grows e count v entry exit x)
  translates_grows (Store width o i e) entry exit exits (r, free, m, s, free', n, x, y, z) = (r, free, m, s, free', n, operand_grows i count r free entry m x, operand_grows e free s free' m n y, more _ _ z)
  translates_grows (Call to q es) entry exit exits (rs, m, x, y) = (rs, m, operands_grow es rs count entry m x, more _ _ y)
  translates_grows (Read to) entry exit exits (r, takes, x) = (r, takes_same to r takes, more _ _ x)
  translates_grows (Write e) entry exit exits (r, free, m, x, y) = (r, free, m, operand_grows e count r free entry m x, more _ _ y)
  translates_grows (Sequence a b) entry exit exits (m, x, y) = (m, translates_grows a entry m exits x, translates_grows b m exit exits y)
  translates_grows (If e a b) entry exit exits (r, free, m, t, o, x, y, z, w) = (r, free, m, t, o, operand_grows e count r free entry m x, more _ _ y, translates_grows a t exit exits z, translates_grows b o exit exits w)
  translates_grows (Loop a) entry exit exits (n, x, y) = (n, more _ _ x, translates_grows a n entry exits y)
  translates_grows (Block a) entry exit exits x = translates_grows a entry exit (exit ∷ exits) x
  translates_grows (Exit k) entry exit exits x = x
  translates_grows (Return e) entry exit exits (r, free, m, x, y) = (r, free, m, operand_grows e count r free entry m x, more _ _ y)

  pub finishes_grows : (exit : ℕ) → Finishes f count exit → Finishes g count exit
  finishes_grows exit (r, n, x, y) = (r, n, more _ _ x, more _ _ y)
