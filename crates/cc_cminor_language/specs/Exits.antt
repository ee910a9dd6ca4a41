-- Each exit leaves blocks that exist.
use Rattle.std.specs.Prelude.{ℕ, suc, ◌<◌}
use Rattle.cc_cminor_language.specs.Cminor.{Statement, Skip, Set, Store, Call, Read, Write, Sequence, If, Loop, Block, Exit, Return}

-- each exit leaves blocks that exist, in a statement inside this many blocks
abbrev pub ExitsFit : (blocks : ℕ) → Statement → Type 0
ExitsFit b Skip = Unit {0}
ExitsFit b (Set x e) = Unit {0}
ExitsFit b (Store width o i e) = Unit {0}
ExitsFit b (Call to f es) = Unit {0}
ExitsFit b (Read to) = Unit {0}
ExitsFit b (Write e) = Unit {0}
ExitsFit b (Sequence s t) = ExitsFit b s × ExitsFit b t
ExitsFit b (If e s t) = ExitsFit b s × ExitsFit b t
ExitsFit b (Loop s) = ExitsFit b s
ExitsFit b (Block s) = ExitsFit (suc b) s
ExitsFit b (Exit k) = k < b
ExitsFit b (Return e) = Unit {0}
