-- A translation stays right when its labels are exchanged for others.
use Rattle.std.proofs.Common.{◌≡◌, ℕ, zero, suc, List, [], ◌∷◌, map, ap, inl, inr, Option, Some, None}
use Rattle.cc_cminor_language.specs.Cminor.{Expression, Constant, Local, Unary, Binary, Load, Statement, Skip, Set, Store, Call, Read, Write, Sequence, If, Loop, Block, Exit, Return}
use Rattle.cc_rtl_language.specs.Rtl as rtl
use Rattle.cc_rtl_language.specs.internal.Moves.{Graph}
use Rattle.cc_rtl.specs.internal.Translates.{Held, Into, Operand, Operands, Leads, Takes, Translates, Finishes, IsCodeOf}
use Rattle.cc_rtl.specs.internal.Generate.{renamed}

leads_turns : (t : ℕ → ℕ) (xs : List ℕ) (k l : ℕ) → Leads xs k l → Leads (map t xs) k (t l)
leads_turns t [] k l h = h
leads_turns t (x ∷ xs) zero l h = ap t h
leads_turns t (x ∷ xs) (suc k) l h = leads_turns t xs k l h

module _ (t : ℕ → ℕ) (f g : Graph) (more : (l : ℕ) (n : rtl.Node) → f l ≡ Some n → g (t l) ≡ Some (renamed t n)) (count : ℕ) where
  pub held_turns : (e : Expression) (into into' : ℕ → ℕ → ℕ → ℕ → Type 0) → ((free to entry exit : ℕ) → into free to entry exit → into' free to (t entry) (t exit)) → (free register free' entry exit : ℕ) → Held f count e into free register free' entry exit
      → Held g count e into' free register free' (t entry) (t exit)
  held_turns e into into' turns free register free' entry exit (le, lt, inl (is, low, same)) = (le, lt, inl (is, low, ap t same))
  held_turns e into into' turns free register free' entry exit (le, lt, inr (fresh, x)) = (le, lt, inr (fresh, turns (suc register) register entry exit x))

  pub into_turns : (e : Expression) (free to entry exit : ℕ) → Into f count e free to entry exit → Into g count e free to (t entry) (t exit)
  into_turns (Constant w) free to entry exit x = more _ _ x
  into_turns (Local v) free to entry exit (lt, x) = (lt, more _ _ x)
  into_turns (Unary op a) free to entry exit (r, free', m, x, y) = (r, free', t m, held_turns a (Into f count a) (Into g count a) (into_turns a) free r free' entry m x, more _ _ y)
  into_turns (Binary op a b) free to entry exit (r, free', m, s, free'', n, x, y, z) =
      (r, free', t m, s, free'', t n, held_turns a (Into f count a) (Into g count a) (into_turns a) free r free' entry m x, held_turns b (Into f count b) (Into g count b) (into_turns b) free' s free'' m n y, more _ _ z)
  into_turns (Load width o a) free to entry exit (r, free', m, x, y) = (r, free', t m, held_turns a (Into f count a) (Into g count a) (into_turns a) free r free' entry m x, more _ _ y)

  pub operand_turns : (e : Expression) (free register free' entry exit : ℕ) → Operand f count e free register free' entry exit → Operand g count e free register free' (t entry) (t exit)
  operand_turns e free register free' entry exit x = held_turns e (Into f count e) (Into g count e) (into_turns e) free register free' entry exit x

  pub operands_turn : (es : List Expression) (rs : List ℕ) (free entry exit : ℕ) → Operands f count es rs free entry exit → Operands g count es rs free (t entry) (t exit)
  operands_turn [] [] free entry exit x = ap t x
  operands_turn [] (r ∷ rs) free entry exit x = x
  operands_turn (e ∷ es) [] free entry exit x = x
  operands_turn (e ∷ es) (r ∷ rs) free entry exit (free', m, x, y) = (free', t m, operand_turns e free r free' entry m x, operands_turn es rs free' m exit y)

  takes_same : (to : Option ℕ) (r : ℕ) → Takes f count to r → Takes g count to r
  takes_same None r h = h
  takes_same (Some x) r h = h

  pub translates_turns : (s : Statement) (entry exit : ℕ) (exits : List ℕ) → Translates f count s entry exit exits → Translates g count s (t entry) (t exit) (map t exits)
  translates_turns Skip entry exit exits x = ap t x
  translates_turns (Set v e) entry exit exits (lt, x) = (lt, into_turns e count v entry exit x)
  translates_turns (Store width o i e) entry exit exits (r, free, m, s, free', n, x, y, z) = (r, free, t m, s, free', t n, operand_turns i count r free entry m x, operand_turns e free s free' m n y, more _ _ z)
  translates_turns (Call to q es) entry exit exits (rs, m, x, y) = (rs, t m, operands_turn es rs count entry m x, more _ _ y)
  translates_turns (Read to) entry exit exits (r, takes, x) = (r, takes_same to r takes, more _ _ x)
  translates_turns (Write e) entry exit exits (r, free, m, x, y) = (r, free, t m, operand_turns e count r free entry m x, more _ _ y)
  translates_turns (Sequence a b) entry exit exits (m, x, y) = (t m, translates_turns a entry m exits x, translates_turns b m exit exits y)
  translates_turns (If e a b) entry exit exits (r, free, m, first, second, x, y, z, w) = (r, free, t m, t first, t second, operand_turns e count r free entry m x, more _ _ y, translates_turns a first exit exits z, translates_turns b second exit exits w)
  translates_turns (Loop a) entry exit exits (n, x, y) = (t n, more _ _ x, translates_turns a n entry exits y)
  translates_turns (Block a) entry exit exits x = translates_turns a entry exit (exit ∷ exits) x
  translates_turns (Exit k) entry exit exits x = leads_turns t exits k entry x
  translates_turns (Return e) entry exit exits (r, free, m, x, y) = (r, free, t m, operand_turns e count r free entry m x, more _ _ y)

  pub finishes_turns : (exit : ℕ) → Finishes f count exit → Finishes g count (t exit)
  finishes_turns exit (r, n, x, y) = (r, t n, more _ _ x, more _ _ y)

  -- with other labels, the graph is still the code of the body
  pub code_turns : (body : Statement) (entry : ℕ) → IsCodeOf f count body entry → IsCodeOf g count body (t entry)
  code_turns body entry is = record {
    first = t is.first;
    exit = t is.exit;
    nop = more _ _ is.nop;
    translates = translates_turns body is.first is.exit [] is.translates;
    finishes = finishes_turns is.exit is.finishes;
  }
