-- The generator as a function. Nodes are made from the end of the code to its beginning, so that the label to continue at is known. A
-- node's place in the list is its label until the order is reversed (`labelled_from`); then labels ascend in the code's order.
use Rattle.std.specs.Prelude.{ℕ, suc, ◌-◌, ◌<◌, List, [], ◌∷◌, ◌++◌, length, get_or, set, Option, Some, None}
use Rattle.cc_cminor_language.specs.Cminor.{Expression, Constant, Local, Unary, Binary, Load, Statement, Skip, Set, Store, Call, Read, Write, Sequence, If, Loop, Block, Exit, Return}
use Rattle.cc_rtl_language.specs.Rtl as rtl
use Rattle.cc_rtl.specs.Size.{variable_of}

-- the nodes by their places; a place reserved for a loop's head has no node yet
abbrev pub Places : Type 0
Places = List (Option rtl.Node)

abbrev pub place_at : Places → ℕ → Option rtl.Node
place_at g l = get_or g l None

-- where the code begins, and all nodes so far
pub record Made : Type 0 where
  pub entry : ℕ
  pub places : Places

abbrev pub pushed : rtl.Node → Places → Made
pushed n g = record { entry = length g; places = g ++ (Some n ∷ []) }

abbrev pub held_in : Option ℕ → (free : ℕ) → ℕ
held_in None free = free
held_in (Some x) free = x

abbrev pub taken_by : Option ℕ → (free : ℕ) → ℕ
taken_by None free = suc free
taken_by (Some x) free = free

abbrev pub operand_by : Option ℕ → (ℕ → ℕ → ℕ → Places → Made) → (free : ℕ) → Made → Made
operand_by None make free next = make (suc free) free next.entry next.places
operand_by (Some x) make free next = next

abbrev pub register : Expression → ℕ → ℕ
register e free = held_in (variable_of e) free

abbrev pub taken : Expression → ℕ → ℕ
taken e free = taken_by (variable_of e) free

-- the nodes that put a value into `to` and continue at exit
abbrev pub made_into : Expression → (free to exit : ℕ) → Places → Made
made_into (Constant w) free to exit g = pushed (rtl.Const to w exit) g
made_into (Local x) free to exit g = pushed (rtl.Move to x exit) g
made_into (Unary op a) free to exit g = operand_by (variable_of a) (made_into a) free (pushed (rtl.Unary op to (register a free) exit) g)
made_into (Binary op a b) free to exit g =
    operand_by (variable_of a) (made_into a) free (operand_by (variable_of b) (made_into b) (taken a free) (pushed (rtl.Binary op to (register a free) (register b (taken a free)) exit) g))
made_into (Load width o a) free to exit g = operand_by (variable_of a) (made_into a) free (pushed (rtl.Load width o to (register a free) exit) g)

abbrev pub operand : Expression → ℕ → Made → Made
operand e free next = operand_by (variable_of e) (made_into e) free next

abbrev pub registers : List Expression → ℕ → List ℕ
registers [] free = []
registers (e ∷ es) free = register e free ∷ registers es (taken e free)

abbrev pub operands : List Expression → ℕ → Made → Made
operands [] free next = next
operands (e ∷ es) free next = operand e free (operands es (taken e free) next)

-- a loop's head gets its node when the body has been made
abbrev pub closed : (head : ℕ) → Made → Made
closed head body = record { entry = head; places = set body.places head (Some (rtl.Nop body.entry)) }

abbrev pub made : (count : ℕ) → Statement → (exit : ℕ) → List ℕ → Places → Made
made count Skip exit exits g = record { entry = exit; places = g }
made count (Set x e) exit exits g = made_into e count x exit g
made count (Store width o i e) exit exits g = operand i count (operand e (taken i count) (pushed (rtl.Store width o (register i count) (register e (taken i count)) exit) g))
made count (Call to f es) exit exits g = operands es count (pushed (rtl.Call f (registers es count) to exit) g)
made count (Read to) exit exits g = pushed (rtl.Read (held_in to count) exit) g
made count (Write e) exit exits g = operand e count (pushed (rtl.Write (register e count) exit) g)
made count (Sequence a b) exit exits g = let n = made count b exit exits g in made count a n.entry exits n.places
made count (If e a b) exit exits g =
    let n = made count b exit exits g in
    let m = made count a exit exits n.places in
    operand e count (pushed (rtl.Branch (register e count) m.entry n.entry) m.places)
made count (Loop a) exit exits g = closed (length g) (made count a (length g) exits (g ++ (None ∷ [])))
made count (Block a) exit exits g = made count a exit (exit ∷ exits) g
made count (Exit k) exit exits g = record { entry = get_or exits k exit; places = g }
made count (Return e) exit exits g = operand e count (pushed (rtl.Return (register e count)) g)

-- the whole function, made from its end: the return, the constant 0 before it, the body, and the entry
abbrev pub made_function : (count : ℕ) → Statement → Made
made_function count body =
    let b = made count body 1 [] (Some (rtl.Return count) ∷ Some (rtl.Const count 0 0) ∷ []) in
    pushed (rtl.Nop b.entry) b.places

-- the variables of the code are below the count
abbrev pub Uses : (count : ℕ) → Expression → Type 0
Uses count (Constant w) = Unit {0}
Uses count (Local x) = x < count
Uses count (Unary op a) = Uses count a
Uses count (Binary op a b) = Uses count a × Uses count b
Uses count (Load width o a) = Uses count a

abbrev pub AllUse : (count : ℕ) → List Expression → Type 0
AllUse count [] = Unit {0}
AllUse count (e ∷ es) = Uses count e × AllUse count es

abbrev pub IsFormed : (count : ℕ) → Statement → Type 0
IsFormed count Skip = Unit {0}
IsFormed count (Set x e) = (x < count) × Uses count e
IsFormed count (Store width o i e) = Uses count i × Uses count e
IsFormed count (Call to f es) = AllUse count es
IsFormed count (Read to) = Unit {0}
IsFormed count (Write e) = Uses count e
IsFormed count (Sequence a b) = IsFormed count a × IsFormed count b
IsFormed count (If e a b) = Uses count e × IsFormed count a × IsFormed count b
IsFormed count (Loop a) = IsFormed count a
IsFormed count (Block a) = IsFormed count a
IsFormed count (Exit k) = Unit {0}
IsFormed count (Return e) = Uses count e

-- ---- labels in the code's order

-- a node with other labels for its successors
abbrev pub renamed : (t : ℕ → ℕ) → rtl.Node → rtl.Node
renamed t (rtl.Nop n) = rtl.Nop (t n)
renamed t (rtl.Const to w n) = rtl.Const to w (t n)
renamed t (rtl.Move to r n) = rtl.Move to r (t n)
renamed t (rtl.Unary op to r n) = rtl.Unary op to r (t n)
renamed t (rtl.Binary op to r s n) = rtl.Binary op to r s (t n)
renamed t (rtl.Load width o to r n) = rtl.Load width o to r (t n)
renamed t (rtl.Store width o r s n) = rtl.Store width o r s (t n)
renamed t (rtl.Call f rs to n) = rtl.Call f rs to (t n)
renamed t (rtl.Read to n) = rtl.Read to (t n)
renamed t (rtl.Write r n) = rtl.Write r (t n)
renamed t (rtl.Branch r n m) = rtl.Branch r (t n) (t m)
renamed t (rtl.Return r) = rtl.Return r

-- the places in reverse order: the last one has label 0
abbrev pub labelled_from : (last label : ℕ) → List rtl.Node → List rtl.Labelled
labelled_from last label [] = []
labelled_from last label (n ∷ ns) = record { label = label; node = renamed (λ l. last - l) n } ∷ labelled_from last (suc label) ns

-- the nodes at places, the last one first
abbrev pub nodes_back : Places → List rtl.Node
nodes_back [] = []
nodes_back (None ∷ g) = nodes_back g
nodes_back (Some n ∷ g) = nodes_back g ++ n ∷ []

-- the RTL of the whole function
abbrev pub generated_rtl : (parameters count : ℕ) → Statement → rtl.Rtl
generated_rtl parameters count body =
    let m = made_function count body in
    record { parameters = parameters; entry = 0; nodes = labelled_from m.entry 0 (nodes_back m.places) }
