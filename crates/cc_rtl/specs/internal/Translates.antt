-- Which nodes an expression or a statement may become: what a generator of RTL may make.
use Rattle.std.specs.Prelude.{◌≡◌, ℕ, zero, suc, ◌<◌, ◌≤◌, ◌⊎◌, List, [], ◌∷◌, Option, Some, None}
use Rattle.cc_cminor_language.specs.Cminor.{Expression, Constant, Local, Unary, Binary, Load, Statement, Skip, Set, Store, Call, Read, Write, Sequence, If, Loop, Block, Exit, Return}
use Rattle.cc_rtl_language.specs.Rtl as rtl
use Rattle.cc_rtl_language.specs.internal.Moves.{Graph}

-- The label after the block that `Exit k` leaves. Without such a block the run goes wrong, so any label will do.
abbrev pub Leads : List ℕ → (k label : ℕ) → Type 0
Leads [] k label = Unit {0}
Leads (x ∷ xs) zero label = x ≡ label
Leads (x ∷ xs) (suc k) label = Leads xs k label

-- variable x is register x, and the registers from `count` on are temporaries
module _ (nodes : Graph) (count : ℕ) where
  abbrev pub Stands : (label : ℕ) → rtl.Node → Type 0
  Stands label n = nodes label ≡ Some n

  -- The register that holds an operand's value at `exit`: a variable's own, or a temporary that the expression is put into.
  -- `into` puts it there. The registers below `free` are in use before, those below `free'` afterwards.
  abbrev pub Held : Expression → (into : ℕ → ℕ → ℕ → ℕ → Type 0) → (free register free' entry exit : ℕ) → Type 0
  Held e into free register free' entry exit = (free ≤ free') × (register < free') × (((e ≡ Local register) × (register < count) × (entry ≡ exit)) ⊎ ((free ≤ register) × into (suc register) register entry exit))

  -- from entry to exit the value of an expression is put into `to`, and no other register below `free` is written
  abbrev pub Into : Expression → (free to entry exit : ℕ) → Type 0
  Into (Constant w) free to entry exit = Stands entry (rtl.Const to w exit)
  Into (Local x) free to entry exit = (x < count) × Stands entry (rtl.Move to x exit)
  Into (Unary op a) free to entry exit = (r : ℕ) × (free' : ℕ) × (m : ℕ) × Held a (Into a) free r free' entry m × Stands m (rtl.Unary op to r exit)
  Into (Binary op a b) free to entry exit =
      (r : ℕ) × (free' : ℕ) × (m : ℕ) × (s : ℕ) × (free'' : ℕ) × (n : ℕ) × Held a (Into a) free r free' entry m × Held b (Into b) free' s free'' m n × Stands n (rtl.Binary op to r s exit)
  Into (Load width o a) free to entry exit = (r : ℕ) × (free' : ℕ) × (m : ℕ) × Held a (Into a) free r free' entry m × Stands m (rtl.Load width o to r exit)

  abbrev pub Operand : Expression → (free register free' entry exit : ℕ) → Type 0
  Operand e = Held e (Into e)

  -- the operands are put into these registers, in order
  abbrev pub Operands : List Expression → List ℕ → (free entry exit : ℕ) → Type 0
  Operands [] [] free entry exit = entry ≡ exit
  Operands [] (r ∷ rs) free entry exit = ⊥
  Operands (e ∷ es) [] free entry exit = ⊥
  Operands (e ∷ es) (r ∷ rs) free entry exit = (free' : ℕ) × (m : ℕ) × Operand e free r free' entry m × Operands es rs free' m exit

  -- the register that the next word of the input goes into: a variable's, or one above the variables if the word is dropped
  abbrev pub Takes : Option ℕ → (register : ℕ) → Type 0
  Takes None register = count ≤ register
  Takes (Some x) register = register ≡ x

  -- the statement begins at entry, continues at exit, and leaves blocks to `exits`, innermost first
  abbrev pub Translates : Statement → (entry exit : ℕ) → List ℕ → Type 0
  Translates Skip entry exit exits = entry ≡ exit
  Translates (Set x e) entry exit exits = (x < count) × Into e count x entry exit
  Translates (Store width o i e) entry exit exits =
      (r : ℕ) × (free : ℕ) × (m : ℕ) × (s : ℕ) × (free' : ℕ) × (n : ℕ) × Operand i count r free entry m × Operand e free s free' m n × Stands n (rtl.Store width o r s exit)
  Translates (Call to f es) entry exit exits = (rs : List ℕ) × (m : ℕ) × Operands es rs count entry m × Stands m (rtl.Call f rs to exit)
  Translates (Read to) entry exit exits = (r : ℕ) × Takes to r × Stands entry (rtl.Read r exit)
  Translates (Write e) entry exit exits = (r : ℕ) × (free : ℕ) × (m : ℕ) × Operand e count r free entry m × Stands m (rtl.Write r exit)
  Translates (Sequence a b) entry exit exits = (m : ℕ) × Translates a entry m exits × Translates b m exit exits
  Translates (If e a b) entry exit exits =
      (r : ℕ) × (free : ℕ) × (m : ℕ) × (first : ℕ) × (second : ℕ) × Operand e count r free entry m × Stands m (rtl.Branch r first second) × Translates a first exit exits × Translates b second exit exits
  -- the back edge is a node, so that an empty loop runs for ever
  Translates (Loop a) entry exit exits = (n : ℕ) × Stands entry (rtl.Nop n) × Translates a n entry exits
  Translates (Block a) entry exit exits = Translates a entry exit (exit ∷ exits)
  Translates (Exit k) entry exit exits = Leads exits k entry
  Translates (Return e) entry exit exits = (r : ℕ) × (free : ℕ) × (m : ℕ) × Operand e count r free entry m × Stands m (rtl.Return r)

  -- a function that falls off its end returns 0
  abbrev pub Finishes : (exit : ℕ) → Type 0
  Finishes exit = (r : ℕ) × (n : ℕ) × Stands exit (rtl.Const r 0 n) × Stands n (rtl.Return r)

  -- the entry is a nop before the body
  pub record IsCodeOf (body : Statement) (entry : ℕ) : Type 0 where
    pub first : ℕ
    pub exit : ℕ
    pub nop : Stands entry (rtl.Nop first)
    pub translates : Translates body first exit []
    pub finishes : Finishes exit
