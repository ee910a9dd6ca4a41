-- What the private functions answer.
use Rattle.std.specs.Prelude.{◌≡◌, ℕ, ◌<◌, ◌≤◌, List, [], length, map, Option, Some, None, Result, Ok, Err}
use Rattle.cc_tokens.specs.declared.fault.SyntaxFault.{SyntaxFault}
use Rattle.cc_tokens.specs.declared.fault.SyntaxFault.TheVariants.{SourceTooLarge, OutOfMemory}
use Rattle.cc_tokens.specs.Token.{Lexeme}
use Rattle.cc_tokens.specs.Tokens.{most_bytes}
use Rattle.cc_ast.specs.Source.{source}
use Rattle.cc_wide_text.specs.declared.word.Stage.{Stage}
use Rattle.cc_wide_text.specs.declared.names.NamedText.{NamedText}
use Rattle.cc_wide_text.specs.declared.numbers.Counted.{Counted}
use Rattle.cc_wide_text.specs.declared.numbers.Counted.TheVariants.{All, Wrong}
use Rattle.cc_wide_text.specs.declared.reading.WideText.{WideText}
use Rattle.cc_wide_text.specs.Names.{named, enumerators}
use Rattle.cc_wide_text.specs.Numbers.{Enumerator, Number, HasNumber, AreNumbers}
use Rattle.cc_wide_text.specs.Program.{Refuses, IsNumberedTree, IsKnownTree, IsReplacedTree, GrowNumbered, GrowKnown, GrowWords}
use Rattle.cc_wide_text.specs.internal.Views.{enumerator, number}

-- the fault is neither 7 nor 40
abbrev pub IsWrong : SyntaxFault → Type 0
IsWrong SourceTooLarge = ⊥
IsWrong OutOfMemory = ⊥
IsWrong f = Unit {0}

-- a fault that has been given another place: 40 stays, and any other is neither 7 nor 40
abbrev pub IsPlaced : (before after : SyntaxFault) → Type 0
IsPlaced OutOfMemory f = f ≡ OutOfMemory
IsPlaced g f = IsWrong f

-- the fault is 7, if the bytes are too many, or 40
abbrev pub IsLong : List ℕ → SyntaxFault → Type 0
IsLong bytes SourceTooLarge = most_bytes < length bytes
IsLong bytes OutOfMemory = Unit {0}
IsLong bytes f = ⊥

-- a stage with this text, or 7 exactly if that is too long
abbrev pub IsStage : List ℕ → Result Stage SyntaxFault → Type 0
IsStage bytes (Ok stage) = (stage.text.items ≡ bytes) × (length bytes ≤ most_bytes)
IsStage bytes (Err f) = IsLong bytes f

abbrev pub IsNamed : List Lexeme → Result NamedText SyntaxFault → Type 0
IsNamed ts (Ok n) = (n.stage.text.items ≡ named ts) × (length (named ts) ≤ most_bytes) × (map enumerator n.enumerators.items ≡ enumerators ts)
IsNamed ts (Err f) = IsLong (named ts) f

-- ---- numbers

-- no number, after a fault other than 40
abbrev pub HasNoNumber : SyntaxFault → Option ℕ → Type 0
HasNoNumber OutOfMemory word = ⊥
HasNoNumber f word = word ≡ None

abbrev pub IsNumberAnswer : List Number → Enumerator → Option ℕ → Type 0
IsNumberAnswer ns e (Some w) = HasNumber ns e w
IsNumberAnswer ns e None = (w : ℕ) → HasNumber ns e w → ⊥

abbrev pub AreNumbersAnswer : List Enumerator → Counted → Type 0
AreNumbersAnswer es (All ns) = AreNumbers [] es (map number ns.items)
AreNumbersAnswer es (Wrong token) = (all : List Number) → AreNumbers [] es all → ⊥

-- ---- trees

abbrev pub IsNumberedAnswer : List Number → List Lexeme → Result WideText SyntaxFault → Type 0
IsNumberedAnswer ns ts (Ok w) = IsNumberedTree ns ts (source w.unit).externals
IsNumberedAnswer ns ts (Err f) = Refuses (GrowNumbered ns ts) (λ tree. IsNumberedTree ns ts tree) f

abbrev pub IsKnownAnswer : List Lexeme → Result WideText SyntaxFault → Type 0
IsKnownAnswer ts (Ok w) = IsKnownTree ts (source w.unit).externals
IsKnownAnswer ts (Err f) = Refuses (GrowKnown ts) (λ tree. IsKnownTree ts tree) f

abbrev pub IsReplacedAnswer : List Lexeme → Result WideText SyntaxFault → Type 0
IsReplacedAnswer ts (Ok w) = IsReplacedTree ts (source w.unit).externals
IsReplacedAnswer ts (Err f) = Refuses (GrowWords ts) (λ tree. IsReplacedTree ts tree) f
