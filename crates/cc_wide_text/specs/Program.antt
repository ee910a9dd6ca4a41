-- Which program a text of wide C is, and why a text is refused.
use Rattle.std.specs.Prelude.{◌≡◌, ℕ, ◌<◌, ◌≤◌, ◌⊎◌, List, [], ◌∷◌, length}
use Rattle.cc_tokens.specs.declared.fault.SyntaxFault.{SyntaxFault}
use Rattle.cc_tokens.specs.declared.fault.SyntaxFault.TheVariants as fault
use Rattle.cc_tokens.specs.Token.{Lexeme}
use Rattle.cc_tokens.specs.Tokens.{IsTokens, most_bytes}
use Rattle.cc_ast.specs.Tree.{External}
use Rattle.cc_ast.specs.Parse.{SpellsText}
use Rattle.cc_wide.specs.WideTree.{WideExternal, Declaration, Definition, Objects}
use Rattle.cc_wide.specs.Lowering.{UnitLowers, nesting_of_all, lowered_unit}
use Rattle.cc_wide_text.specs.Plain.{plain}
use Rattle.cc_wide_text.specs.Macros.{expanded}
use Rattle.cc_wide_text.specs.Names.{named, HaveNumbers}
use Rattle.cc_wide_text.specs.Numbers.{Number}
use Rattle.cc_wide_text.specs.Marks.{marked}
use Rattle.cc_wide_text.specs.Forms.{wide_unit}
use Rattle.cc_wide_text.specs.Rules.{UnitKeepsLabels}

-- ---- trees

-- the tree of tokens in which the names of types are replaced, given the numbers of enumerators: they spell it with marks
pub record IsNumberedTree (numbers : List Number) (known : List Lexeme) (tree : List External) : Type 0 where
  pub fits : length (marked numbers known) ≤ most_bytes
  pub spelled : SpellsText (marked numbers known) tree

-- the tree of tokens: with the names of types replaced they are `known`
pub record IsKnownTree (replaced : List Lexeme) (tree : List External) : Type 0 where
  pub fits : length (named replaced) ≤ most_bytes
  pub known : List Lexeme
  pub become : IsTokens (named replaced) known
  pub numbers : List Number
  pub have : HaveNumbers replaced numbers
  pub read : IsNumberedTree numbers known tree

-- the tree of tokens with `#define`: with the names that it defines replaced they are `replaced`
pub record IsReplacedTree (words : List Lexeme) (tree : List External) : Type 0 where
  pub fits : length (expanded words) ≤ most_bytes
  pub replaced : List Lexeme
  pub become : IsTokens (expanded words) replaced
  pub read : IsKnownTree replaced tree

-- the marked tree of the text: that of its tokens without character constants and `#define`
pub record IsMarkedTree (text : List ℕ) (tree : List External) : Type 0 where
  pub fits : length text ≤ most_bytes
  pub words : List Lexeme
  pub are : IsTokens (plain text) words
  pub read : IsReplacedTree words tree

-- ---- programs

-- the text is this program: no name in its functions is reserved, each `continue` is in a loop, and each switch keeps the rules
pub record IsWideProgram (text : List ℕ) (unit : List WideExternal) : Type 0 where
  pub tree : List External
  pub of : IsMarkedTree text tree
  pub is : unit ≡ wide_unit tree
  pub own : UnitLowers unit
  pub labels : UnitKeepsLabels unit

-- a text has at most one marked tree
abbrev pub MarkedTreesAreOne : Type 0
MarkedTreesAreOne = (text : List ℕ) (a b : List External) → IsMarkedTree text a → IsMarkedTree text b → a ≡ b

-- a text is at most one program
abbrev pub WideTreesAreOne : Type 0
WideTreesAreOne = (text : List ℕ) (a b : List WideExternal) → IsWideProgram text a → IsWideProgram text b → a ≡ b

-- no function has a switch
abbrev pub HaveNoSwitch : List WideExternal → Type 0
HaveNoSwitch [] = Unit {0}
HaveNoSwitch (Declaration s ∷ rest) = HaveNoSwitch rest
HaveNoSwitch (Definition s body ∷ rest) = (nesting_of_all body ≡ 0) × HaveNoSwitch rest
HaveNoSwitch (Objects t os ∷ rest) = HaveNoSwitch rest

-- a unit without switches is lowered to itself: there, wide C is C
abbrev pub ProfileUnitsStay : Type 0
ProfileUnitsStay = (tree : List External) → HaveNoSwitch (wide_unit tree) → lowered_unit (wide_unit tree) ≡ tree

-- ---- refusals

-- tokens in which the names of types are replaced become too long with marks
abbrev pub GrowNumbered : List Number → List Lexeme → Type 0
GrowNumbered numbers known = most_bytes < length (marked numbers known)

-- tokens without `#define` become too long: with the names of types replaced, or then with marks
abbrev pub GrowKnown : List Lexeme → Type 0
GrowKnown replaced =
    (most_bytes < length (named replaced))
    ⊎ ((known : List Lexeme) × IsTokens (named replaced) known × ((numbers : List Number) × HaveNumbers replaced numbers × GrowNumbered numbers known))

-- tokens become too long: with defined names replaced, or then as above
abbrev pub GrowWords : List Lexeme → Type 0
GrowWords words = (most_bytes < length (expanded words)) ⊎ ((replaced : List Lexeme) × IsTokens (expanded words) replaced × GrowKnown replaced)

-- the text is too long, or becomes so
abbrev pub IsTooLong : List ℕ → Type 0
IsTooLong text = (most_bytes < length text) ⊎ ((words : List Lexeme) × IsTokens (plain text) words × GrowWords words)

-- a refusal: 7 if something is too long, 40 if memory runs out; with any other fault it is not too long, and there is no tree
abbrev pub Refuses : (Long : Type 0) → (Reads : List External → Type 0) → SyntaxFault → Type 0
Refuses Long Reads fault.SourceTooLarge = Long
Refuses Long Reads fault.OutOfMemory = Unit {0}
Refuses Long Reads f = (Long → ⊥) × ((tree : List External) → Reads tree → ⊥)

-- why a text has no marked tree: 7 if it is too long or becomes so, or 40; with any other fault it is not, and has none
abbrev pub IsReadRefusal : List ℕ → SyntaxFault → Type 0
IsReadRefusal text f = Refuses (IsTooLong text) (λ tree. IsMarkedTree text tree) f
