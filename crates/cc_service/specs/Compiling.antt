-- Why the workers did not compile a text.
use Rattle.std.specs.Prelude.{◌≡◌, ◌⊎◌, ◌++◌, ℕ, List, length}
use Rattle.cc_ast.specs.Tree.{External}
use Rattle.cc_link.specs.Meaning.{functions}
use Rattle.cc_c_semantics.specs.declared.mode.Mode.{Mode}
use Rattle.cc_link.specs.Compile.{IsTooLargeIn}
use Rattle.cc_link.specs.Text.{IsProgramText, IsTextRefusal}
use Rattle.cc_pool.specs.Fault.{IsJobRefusal}
use Rattle.cc_pool.specs.Shared.{HasSentSome, pieces_of}
use Rattle.cc_pool.specs.declared.item.Item.{Item}
use Rattle.cc_pool.specs.declared.fault.PoolFault.TheVariants as pool
use Rattle.cc_service.specs.declared.fault.ServiceFault.{ServiceFault}
use Rattle.cc_service.specs.declared.fault.ServiceFault.TheVariants.{Opening, TooManyClients, BadName, Text, Piece, WorkersGone, ImageTooLarge, Book, OutOfMemory, Changed}

-- a text that was handed in for code in a mode
pub record Handed : Type 0 where
  pub mode : Mode
  pub text : List ℕ

-- the text spells a tree that breaks no rule and exceeds no limit
pub record IsProgram (text : List ℕ) : Type 0 where
  pub tree : List External
  pub is : IsProgramText text tree

-- What a pass has sent after a text was compiled or refused: what it had sent before; and, if the text is a program, the first functions of
-- one job for it, in the order of their definitions and each once.
abbrev pub HasSentFor : (text : List ℕ) → (before after : List Item) → Type 0
HasSentFor text before after = (after ≡ before) ⊎ ((tree : List External) × IsProgramText text tree × HasSentSome before after (length (functions tree)))

-- The text is a program, and all functions of one job for it were handed in, in the order of their definitions, once each, and no others.
pub record HasHandedIn (text : List ℕ) (before after : List Item) : Type 0 where
  pub tree : List External
  pub program : IsProgramText text tree
  pub job : ℕ
  pub sent : after ≡ before ++ pieces_of job (length (functions tree))

-- Why a text is not handed in: it is not a program; or, if it is one, 41; or 40.
abbrev pub IsNotPrepared : List ℕ → ServiceFault → Type 0
IsNotPrepared text (Text f) = IsTextRefusal text f
IsNotPrepared text WorkersGone = IsProgram text
IsNotPrepared text OutOfMemory = Unit {0}
IsNotPrepared text (Opening f) = ⊥
IsNotPrepared text TooManyClients = ⊥
IsNotPrepared text BadName = ⊥
IsNotPrepared text (Piece function f) = ⊥
IsNotPrepared text ImageTooLarge = ⊥
IsNotPrepared text (Book f) = ⊥
IsNotPrepared text (Changed receipt) = ⊥

-- Why a text is not compiled: it is not a program; or, if it is one, 22 or 24 for the first function that has no piece in the mode, 41, or
-- 25, if linking refuses with 25, given pieces of all functions; or, whatever the text, 40.
abbrev pub IsCompileRefusal : Mode → List ℕ → ServiceFault → Type 0
IsCompileRefusal mode text (Text f) = IsTextRefusal text f
IsCompileRefusal mode text (Piece function f) = IsProgram text × IsJobRefusal mode text (pool.Piece function f)
IsCompileRefusal mode text WorkersGone = IsProgram text
IsCompileRefusal mode text ImageTooLarge = IsTooLargeIn mode text
IsCompileRefusal mode text OutOfMemory = Unit {0}
IsCompileRefusal mode text (Opening f) = ⊥
IsCompileRefusal mode text TooManyClients = ⊥
IsCompileRefusal mode text BadName = ⊥
IsCompileRefusal mode text (Book f) = ⊥
IsCompileRefusal mode text (Changed receipt) = ⊥

-- the fault is not a refusal of the text
abbrev pub IsPastText : ServiceFault → Type 0
IsPastText (Text f) = ⊥
IsPastText (Opening f) = ⊥
IsPastText TooManyClients = ⊥
IsPastText BadName = Unit {0}
IsPastText (Piece function f) = Unit {0}
IsPastText WorkersGone = Unit {0}
IsPastText ImageTooLarge = Unit {0}
IsPastText (Book f) = Unit {0}
IsPastText OutOfMemory = Unit {0}
IsPastText (Changed receipt) = Unit {0}
