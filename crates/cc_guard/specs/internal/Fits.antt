-- Code into which guards can be put: it reads, and sets by `Set`, only variables below a number, and each exit leaves blocks that
-- exist. The variables that get the results of calls and reads are not limited, since nothing is known about those results.
use Rattle.std.specs.Prelude.{◌≡◌, ℕ, suc, ◌<◌, List, [], ◌∷◌, map}
use Rattle.cc_simulation.specs.World.{World, Answer, Gives, size_of}
use Rattle.cc_simulation.specs.Meaning.{Meaning}
use Rattle.cc_cminor_language.specs.Cminor.{Expression, Constant, Local, Unary, Binary, Load, Statement, Skip, Set, Store, Call, Read, Write, Sequence, If, Loop, Block, Exit, Return}

-- an expression reads only variables below n
abbrev pub Under : ℕ → Expression → Type 0
Under n (Constant w) = Unit {0}
Under n (Local x) = x < n
Under n (Unary op e) = Under n e
Under n (Binary op a b) = Under n a × Under n b
Under n (Load width o e) = Under n e

abbrev pub AllUnder : ℕ → List Expression → Type 0
AllUnder n [] = Unit {0}
AllUnder n (e ∷ es) = Under n e × AllUnder n es

-- a statement in b blocks fits: guards that set variables from n on can be put into it
abbrev pub Fits : (n blocks : ℕ) → Statement → Type 0
Fits n b Skip = Unit {0}
Fits n b (Set x e) = (x < n) × Under n e
Fits n b (Store width o i e) = Under n i × Under n e
Fits n b (Call to f es) = AllUnder n es
Fits n b (Read to) = Unit {0}
Fits n b (Write e) = Under n e
Fits n b (Sequence s t) = Fits n b s × Fits n b t
Fits n b (If e s t) = Under n e × Fits n b s × Fits n b t
Fits n b (Loop s) = Fits n b s
Fits n b (Block s) = Fits n (suc b) s
Fits n b (Exit k) = k < b
Fits n b (Return e) = Under n e

-- a call that answers keeps the size of each object
abbrev pub KeepsSizes : Meaning → Type 0
KeepsSizes meaning =
    (n opened f : ℕ) (ws : List ℕ) (h : World) (a : Answer) (left : ℕ) → meaning.call n opened f ws h ≡ Gives a left
    → map size_of h.globals ≡ meaning.objects → map size_of a.world.globals ≡ meaning.objects
