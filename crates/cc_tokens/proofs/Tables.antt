-- Facts about every keyword and every punctuator, each by going through all of them: the tables contain them all, no two are
-- spelled alike, and a punctuator can begin only with certain bytes.
use Rattle.std.proofs.Common.{◌≡◌, ℕ, Bool, true, List, length, refl, Some}
use Rattle.std.specs.Prelude.{slice_index, not, ◌&&◌, nat_lt}
use Rattle.std.specs.List.{AllByRecursion}
use Rattle.std.specs.Char.{is_ascii_digit}
use Rattle.cc_tokens.specs.declared.token.Keyword.{Keyword}
use Rattle.cc_tokens.specs.declared.token.Keyword.TheVariants as keyword
use Rattle.cc_tokens.specs.declared.token.Punctuator.{Punctuator}
use Rattle.cc_tokens.specs.declared.token.Punctuator.TheVariants as punctuator
use Rattle.cc_tokens.specs.declared.token.TheConstants.{KEYWORDS, PUNCTUATORS}
use Rattle.cc_tokens.specs.Spelling.{keyword_bytes, punctuator_bytes}
use Rattle.cc_tokens.specs.Tokens.{is_blank, is_nondigit, IsIdentifierText}
use Rattle.cc_tokens.specs.internal.Scan.{keyword_named, punctuator_at}

-- what holds of each keyword in the table holds of every keyword
pub of_each_keyword : (P : Keyword → Type 0) → AllByRecursion P KEYWORDS → (k : Keyword) → P k
of_each_keyword P all keyword.Auto = all.0
of_each_keyword P all keyword.Break = all.1.0
of_each_keyword P all keyword.Case = all.1.1.0
of_each_keyword P all keyword.Char = all.1.1.1.0
of_each_keyword P all keyword.Const = all.1.1.1.1.0
of_each_keyword P all keyword.Continue = all.1.1.1.1.1.0
of_each_keyword P all keyword.Default = all.1.1.1.1.1.1.0
of_each_keyword P all keyword.Do = all.1.1.1.1.1.1.1.0
of_each_keyword P all keyword.Double = all.1.1.1.1.1.1.1.1.0
of_each_keyword P all keyword.Else = all.1.1.1.1.1.1.1.1.1.0
of_each_keyword P all keyword.Enum = all.1.1.1.1.1.1.1.1.1.1.0
of_each_keyword P all keyword.Extern = all.1.1.1.1.1.1.1.1.1.1.1.0
of_each_keyword P all keyword.Float = all.1.1.1.1.1.1.1.1.1.1.1.1.0
of_each_keyword P all keyword.For = all.1.1.1.1.1.1.1.1.1.1.1.1.1.0
of_each_keyword P all keyword.Goto = all.1.1.1.1.1.1.1.1.1.1.1.1.1.1.0
of_each_keyword P all keyword.If = all.1.1.1.1.1.1.1.1.1.1.1.1.1.1.1.0
of_each_keyword P all keyword.Inline = all.1.1.1.1.1.1.1.1.1.1.1.1.1.1.1.1.0
of_each_keyword P all keyword.Int = all.1.1.1.1.1.1.1.1.1.1.1.1.1.1.1.1.1.0
of_each_keyword P all keyword.Long = all.1.1.1.1.1.1.1.1.1.1.1.1.1.1.1.1.1.1.0
of_each_keyword P all keyword.Register = all.1.1.1.1.1.1.1.1.1.1.1.1.1.1.1.1.1.1.1.0
of_each_keyword P all keyword.Restrict = all.1.1.1.1.1.1.1.1.1.1.1.1.1.1.1.1.1.1.1.1.0
of_each_keyword P all keyword.Return = all.1.1.1.1.1.1.1.1.1.1.1.1.1.1.1.1.1.1.1.1.1.0
of_each_keyword P all keyword.Short = all.1.1.1.1.1.1.1.1.1.1.1.1.1.1.1.1.1.1.1.1.1.1.0
of_each_keyword P all keyword.Signed = all.1.1.1.1.1.1.1.1.1.1.1.1.1.1.1.1.1.1.1.1.1.1.1.0
of_each_keyword P all keyword.Sizeof = all.1.1.1.1.1.1.1.1.1.1.1.1.1.1.1.1.1.1.1.1.1.1.1.1.0
of_each_keyword P all keyword.Static = all.1.1.1.1.1.1.1.1.1.1.1.1.1.1.1.1.1.1.1.1.1.1.1.1.1.0
of_each_keyword P all keyword.Struct = all.1.1.1.1.1.1.1.1.1.1.1.1.1.1.1.1.1.1.1.1.1.1.1.1.1.1.0
of_each_keyword P all keyword.Switch = all.1.1.1.1.1.1.1.1.1.1.1.1.1.1.1.1.1.1.1.1.1.1.1.1.1.1.1.0
of_each_keyword P all keyword.Typedef = all.1.1.1.1.1.1.1.1.1.1.1.1.1.1.1.1.1.1.1.1.1.1.1.1.1.1.1.1.0
of_each_keyword P all keyword.Union = all.1.1.1.1.1.1.1.1.1.1.1.1.1.1.1.1.1.1.1.1.1.1.1.1.1.1.1.1.1.0
of_each_keyword P all keyword.Unsigned = all.1.1.1.1.1.1.1.1.1.1.1.1.1.1.1.1.1.1.1.1.1.1.1.1.1.1.1.1.1.1.0
of_each_keyword P all keyword.Void = all.1.1.1.1.1.1.1.1.1.1.1.1.1.1.1.1.1.1.1.1.1.1.1.1.1.1.1.1.1.1.1.0
of_each_keyword P all keyword.Volatile = all.1.1.1.1.1.1.1.1.1.1.1.1.1.1.1.1.1.1.1.1.1.1.1.1.1.1.1.1.1.1.1.1.0
of_each_keyword P all keyword.While = all.1.1.1.1.1.1.1.1.1.1.1.1.1.1.1.1.1.1.1.1.1.1.1.1.1.1.1.1.1.1.1.1.1.0
of_each_keyword P all keyword.Bool = all.1.1.1.1.1.1.1.1.1.1.1.1.1.1.1.1.1.1.1.1.1.1.1.1.1.1.1.1.1.1.1.1.1.1.0
of_each_keyword P all keyword.Complex = all.1.1.1.1.1.1.1.1.1.1.1.1.1.1.1.1.1.1.1.1.1.1.1.1.1.1.1.1.1.1.1.1.1.1.1.0
of_each_keyword P all keyword.Imaginary = all.1.1.1.1.1.1.1.1.1.1.1.1.1.1.1.1.1.1.1.1.1.1.1.1.1.1.1.1.1.1.1.1.1.1.1.1.0

-- the bytes of a keyword spell that keyword
pub keyword_named-bytes : (k : Keyword) → keyword_named (keyword_bytes k) ≡ Some k
unfolding keyword_named
keyword_named-bytes keyword.Auto = refl
keyword_named-bytes keyword.Break = refl
keyword_named-bytes keyword.Case = refl
keyword_named-bytes keyword.Char = refl
keyword_named-bytes keyword.Const = refl
keyword_named-bytes keyword.Continue = refl
keyword_named-bytes keyword.Default = refl
keyword_named-bytes keyword.Do = refl
keyword_named-bytes keyword.Double = refl
keyword_named-bytes keyword.Else = refl
keyword_named-bytes keyword.Enum = refl
keyword_named-bytes keyword.Extern = refl
keyword_named-bytes keyword.Float = refl
keyword_named-bytes keyword.For = refl
keyword_named-bytes keyword.Goto = refl
keyword_named-bytes keyword.If = refl
keyword_named-bytes keyword.Inline = refl
keyword_named-bytes keyword.Int = refl
keyword_named-bytes keyword.Long = refl
keyword_named-bytes keyword.Register = refl
keyword_named-bytes keyword.Restrict = refl
keyword_named-bytes keyword.Return = refl
keyword_named-bytes keyword.Short = refl
keyword_named-bytes keyword.Signed = refl
keyword_named-bytes keyword.Sizeof = refl
keyword_named-bytes keyword.Static = refl
keyword_named-bytes keyword.Struct = refl
keyword_named-bytes keyword.Switch = refl
keyword_named-bytes keyword.Typedef = refl
keyword_named-bytes keyword.Union = refl
keyword_named-bytes keyword.Unsigned = refl
keyword_named-bytes keyword.Void = refl
keyword_named-bytes keyword.Volatile = refl
keyword_named-bytes keyword.While = refl
keyword_named-bytes keyword.Bool = refl
keyword_named-bytes keyword.Complex = refl
keyword_named-bytes keyword.Imaginary = refl

-- a keyword begins with a letter or `_`, and each further byte continues a word
pub keyword_is_word : (k : Keyword) → IsIdentifierText (keyword_bytes k)
keyword_is_word keyword.Auto = (refl, (refl, (refl, (refl, tt))))
keyword_is_word keyword.Break = (refl, (refl, (refl, (refl, (refl, tt)))))
keyword_is_word keyword.Case = (refl, (refl, (refl, (refl, tt))))
keyword_is_word keyword.Char = (refl, (refl, (refl, (refl, tt))))
keyword_is_word keyword.Const = (refl, (refl, (refl, (refl, (refl, tt)))))
keyword_is_word keyword.Continue = (refl, (refl, (refl, (refl, (refl, (refl, (refl, (refl, tt))))))))
keyword_is_word keyword.Default = (refl, (refl, (refl, (refl, (refl, (refl, (refl, tt)))))))
keyword_is_word keyword.Do = (refl, (refl, tt))
keyword_is_word keyword.Double = (refl, (refl, (refl, (refl, (refl, (refl, tt))))))
keyword_is_word keyword.Else = (refl, (refl, (refl, (refl, tt))))
keyword_is_word keyword.Enum = (refl, (refl, (refl, (refl, tt))))
keyword_is_word keyword.Extern = (refl, (refl, (refl, (refl, (refl, (refl, tt))))))
keyword_is_word keyword.Float = (refl, (refl, (refl, (refl, (refl, tt)))))
keyword_is_word keyword.For = (refl, (refl, (refl, tt)))
keyword_is_word keyword.Goto = (refl, (refl, (refl, (refl, tt))))
keyword_is_word keyword.If = (refl, (refl, tt))
keyword_is_word keyword.Inline = (refl, (refl, (refl, (refl, (refl, (refl, tt))))))
keyword_is_word keyword.Int = (refl, (refl, (refl, tt)))
keyword_is_word keyword.Long = (refl, (refl, (refl, (refl, tt))))
keyword_is_word keyword.Register = (refl, (refl, (refl, (refl, (refl, (refl, (refl, (refl, tt))))))))
keyword_is_word keyword.Restrict = (refl, (refl, (refl, (refl, (refl, (refl, (refl, (refl, tt))))))))
keyword_is_word keyword.Return = (refl, (refl, (refl, (refl, (refl, (refl, tt))))))
keyword_is_word keyword.Short = (refl, (refl, (refl, (refl, (refl, tt)))))
keyword_is_word keyword.Signed = (refl, (refl, (refl, (refl, (refl, (refl, tt))))))
keyword_is_word keyword.Sizeof = (refl, (refl, (refl, (refl, (refl, (refl, tt))))))
keyword_is_word keyword.Static = (refl, (refl, (refl, (refl, (refl, (refl, tt))))))
keyword_is_word keyword.Struct = (refl, (refl, (refl, (refl, (refl, (refl, tt))))))
keyword_is_word keyword.Switch = (refl, (refl, (refl, (refl, (refl, (refl, tt))))))
keyword_is_word keyword.Typedef = (refl, (refl, (refl, (refl, (refl, (refl, (refl, tt)))))))
keyword_is_word keyword.Union = (refl, (refl, (refl, (refl, (refl, tt)))))
keyword_is_word keyword.Unsigned = (refl, (refl, (refl, (refl, (refl, (refl, (refl, (refl, tt))))))))
keyword_is_word keyword.Void = (refl, (refl, (refl, (refl, tt))))
keyword_is_word keyword.Volatile = (refl, (refl, (refl, (refl, (refl, (refl, (refl, (refl, tt))))))))
keyword_is_word keyword.While = (refl, (refl, (refl, (refl, (refl, tt)))))
keyword_is_word keyword.Bool = (refl, (refl, (refl, (refl, (refl, tt)))))
keyword_is_word keyword.Complex = (refl, (refl, (refl, (refl, (refl, (refl, (refl, (refl, tt))))))))
keyword_is_word keyword.Imaginary = (refl, (refl, (refl, (refl, (refl, (refl, (refl, (refl, (refl, (refl, tt))))))))))

-- what holds of each punctuator in the table holds of every punctuator
pub of_each_punctuator : (P : Punctuator → Type 0) → AllByRecursion P PUNCTUATORS → (p : Punctuator) → P p
of_each_punctuator P all punctuator.OpenParenthesis = all.1.1.1.1.1.1.1.1.1.1.1.1.1.1.1.1.1.1.1.1.0
of_each_punctuator P all punctuator.CloseParenthesis = all.1.1.1.1.1.1.1.1.1.1.1.1.1.1.1.1.1.1.1.1.1.0
of_each_punctuator P all punctuator.OpenBracket = all.1.1.1.1.1.1.1.1.1.1.1.1.1.1.1.1.1.1.1.1.1.1.0
of_each_punctuator P all punctuator.CloseBracket = all.1.1.1.1.1.1.1.1.1.1.1.1.1.1.1.1.1.1.1.1.1.1.1.0
of_each_punctuator P all punctuator.OpenBrace = all.1.1.1.1.1.1.1.1.1.1.1.1.1.1.1.1.1.1.1.1.1.1.1.1.0
of_each_punctuator P all punctuator.CloseBrace = all.1.1.1.1.1.1.1.1.1.1.1.1.1.1.1.1.1.1.1.1.1.1.1.1.1.0
of_each_punctuator P all punctuator.Semicolon = all.1.1.1.1.1.1.1.1.1.1.1.1.1.1.1.1.1.1.1.1.1.1.1.1.1.1.0
of_each_punctuator P all punctuator.Comma = all.1.1.1.1.1.1.1.1.1.1.1.1.1.1.1.1.1.1.1.1.1.1.1.1.1.1.1.0
of_each_punctuator P all punctuator.Question = all.1.1.1.1.1.1.1.1.1.1.1.1.1.1.1.1.1.1.1.1.1.1.1.1.1.1.1.1.0
of_each_punctuator P all punctuator.Colon = all.1.1.1.1.1.1.1.1.1.1.1.1.1.1.1.1.1.1.1.1.1.1.1.1.1.1.1.1.1.0
of_each_punctuator P all punctuator.Plus = all.1.1.1.1.1.1.1.1.1.1.1.1.1.1.1.1.1.1.1.1.1.1.1.1.1.1.1.1.1.1.0
of_each_punctuator P all punctuator.Minus = all.1.1.1.1.1.1.1.1.1.1.1.1.1.1.1.1.1.1.1.1.1.1.1.1.1.1.1.1.1.1.1.0
of_each_punctuator P all punctuator.Star = all.1.1.1.1.1.1.1.1.1.1.1.1.1.1.1.1.1.1.1.1.1.1.1.1.1.1.1.1.1.1.1.1.0
of_each_punctuator P all punctuator.Slash = all.1.1.1.1.1.1.1.1.1.1.1.1.1.1.1.1.1.1.1.1.1.1.1.1.1.1.1.1.1.1.1.1.1.0
of_each_punctuator P all punctuator.Percent = all.1.1.1.1.1.1.1.1.1.1.1.1.1.1.1.1.1.1.1.1.1.1.1.1.1.1.1.1.1.1.1.1.1.1.0
of_each_punctuator P all punctuator.ShiftLeft = all.1.1.0
of_each_punctuator P all punctuator.ShiftRight = all.1.1.1.0
of_each_punctuator P all punctuator.Less = all.1.1.1.1.1.1.1.1.1.1.1.1.1.1.1.1.1.1.1.1.1.1.1.1.1.1.1.1.1.1.1.1.1.1.1.0
of_each_punctuator P all punctuator.Greater = all.1.1.1.1.1.1.1.1.1.1.1.1.1.1.1.1.1.1.1.1.1.1.1.1.1.1.1.1.1.1.1.1.1.1.1.1.0
of_each_punctuator P all punctuator.LessOrEqual = all.1.1.1.1.0
of_each_punctuator P all punctuator.GreaterOrEqual = all.1.1.1.1.1.0
of_each_punctuator P all punctuator.Equal = all.1.1.1.1.1.1.0
of_each_punctuator P all punctuator.NotEqual = all.1.1.1.1.1.1.1.0
of_each_punctuator P all punctuator.Ampersand = all.1.1.1.1.1.1.1.1.1.1.1.1.1.1.1.1.1.1.1.1.1.1.1.1.1.1.1.1.1.1.1.1.1.1.1.1.1.0
of_each_punctuator P all punctuator.Bar = all.1.1.1.1.1.1.1.1.1.1.1.1.1.1.1.1.1.1.1.1.1.1.1.1.1.1.1.1.1.1.1.1.1.1.1.1.1.1.0
of_each_punctuator P all punctuator.Caret = all.1.1.1.1.1.1.1.1.1.1.1.1.1.1.1.1.1.1.1.1.1.1.1.1.1.1.1.1.1.1.1.1.1.1.1.1.1.1.1.0
of_each_punctuator P all punctuator.Tilde = all.1.1.1.1.1.1.1.1.1.1.1.1.1.1.1.1.1.1.1.1.1.1.1.1.1.1.1.1.1.1.1.1.1.1.1.1.1.1.1.1.0
of_each_punctuator P all punctuator.Exclamation = all.1.1.1.1.1.1.1.1.1.1.1.1.1.1.1.1.1.1.1.1.1.1.1.1.1.1.1.1.1.1.1.1.1.1.1.1.1.1.1.1.1.0
of_each_punctuator P all punctuator.AndAnd = all.1.1.1.1.1.1.1.1.0
of_each_punctuator P all punctuator.OrOr = all.1.1.1.1.1.1.1.1.1.0
of_each_punctuator P all punctuator.Assign = all.1.1.1.1.1.1.1.1.1.1.1.1.1.1.1.1.1.1.1.1.1.1.1.1.1.1.1.1.1.1.1.1.1.1.1.1.1.1.1.1.1.1.0
of_each_punctuator P all punctuator.PlusAssign = all.1.1.1.1.1.1.1.1.1.1.0
of_each_punctuator P all punctuator.MinusAssign = all.1.1.1.1.1.1.1.1.1.1.1.0
of_each_punctuator P all punctuator.StarAssign = all.1.1.1.1.1.1.1.1.1.1.1.1.0
of_each_punctuator P all punctuator.SlashAssign = all.1.1.1.1.1.1.1.1.1.1.1.1.1.0
of_each_punctuator P all punctuator.PercentAssign = all.1.1.1.1.1.1.1.1.1.1.1.1.1.1.0
of_each_punctuator P all punctuator.ShiftLeftAssign = all.0
of_each_punctuator P all punctuator.ShiftRightAssign = all.1.0
of_each_punctuator P all punctuator.AmpersandAssign = all.1.1.1.1.1.1.1.1.1.1.1.1.1.1.1.0
of_each_punctuator P all punctuator.BarAssign = all.1.1.1.1.1.1.1.1.1.1.1.1.1.1.1.1.0
of_each_punctuator P all punctuator.CaretAssign = all.1.1.1.1.1.1.1.1.1.1.1.1.1.1.1.1.1.0
of_each_punctuator P all punctuator.PlusPlus = all.1.1.1.1.1.1.1.1.1.1.1.1.1.1.1.1.1.1.0
of_each_punctuator P all punctuator.MinusMinus = all.1.1.1.1.1.1.1.1.1.1.1.1.1.1.1.1.1.1.1.0

-- the bytes of a punctuator spell that punctuator
pub punctuator_at-bytes : (p : Punctuator) → punctuator_at (punctuator_bytes p) ≡ Some p
unfolding punctuator_at
punctuator_at-bytes punctuator.OpenParenthesis = refl
punctuator_at-bytes punctuator.CloseParenthesis = refl
punctuator_at-bytes punctuator.OpenBracket = refl
punctuator_at-bytes punctuator.CloseBracket = refl
punctuator_at-bytes punctuator.OpenBrace = refl
punctuator_at-bytes punctuator.CloseBrace = refl
punctuator_at-bytes punctuator.Semicolon = refl
punctuator_at-bytes punctuator.Comma = refl
punctuator_at-bytes punctuator.Question = refl
punctuator_at-bytes punctuator.Colon = refl
punctuator_at-bytes punctuator.Plus = refl
punctuator_at-bytes punctuator.Minus = refl
punctuator_at-bytes punctuator.Star = refl
punctuator_at-bytes punctuator.Slash = refl
punctuator_at-bytes punctuator.Percent = refl
punctuator_at-bytes punctuator.ShiftLeft = refl
punctuator_at-bytes punctuator.ShiftRight = refl
punctuator_at-bytes punctuator.Less = refl
punctuator_at-bytes punctuator.Greater = refl
punctuator_at-bytes punctuator.LessOrEqual = refl
punctuator_at-bytes punctuator.GreaterOrEqual = refl
punctuator_at-bytes punctuator.Equal = refl
punctuator_at-bytes punctuator.NotEqual = refl
punctuator_at-bytes punctuator.Ampersand = refl
punctuator_at-bytes punctuator.Bar = refl
punctuator_at-bytes punctuator.Caret = refl
punctuator_at-bytes punctuator.Tilde = refl
punctuator_at-bytes punctuator.Exclamation = refl
punctuator_at-bytes punctuator.AndAnd = refl
punctuator_at-bytes punctuator.OrOr = refl
punctuator_at-bytes punctuator.Assign = refl
punctuator_at-bytes punctuator.PlusAssign = refl
punctuator_at-bytes punctuator.MinusAssign = refl
punctuator_at-bytes punctuator.StarAssign = refl
punctuator_at-bytes punctuator.SlashAssign = refl
punctuator_at-bytes punctuator.PercentAssign = refl
punctuator_at-bytes punctuator.ShiftLeftAssign = refl
punctuator_at-bytes punctuator.ShiftRightAssign = refl
punctuator_at-bytes punctuator.AmpersandAssign = refl
punctuator_at-bytes punctuator.BarAssign = refl
punctuator_at-bytes punctuator.CaretAssign = refl
punctuator_at-bytes punctuator.PlusPlus = refl
punctuator_at-bytes punctuator.MinusMinus = refl

-- a punctuator has a first byte, which is neither white space nor a letter, `_` or digit
abbrev pub begins_as_punctuator : List ℕ → Bool
begins_as_punctuator bytes = (nat_lt 0 (length bytes) && not (is_blank (slice_index bytes 0))) && (not (is_nondigit (slice_index bytes 0)) && not (is_ascii_digit (slice_index bytes 0)))

pub punctuator_begins : (p : Punctuator) → begins_as_punctuator (punctuator_bytes p) ≡ true
punctuator_begins punctuator.OpenParenthesis = refl
punctuator_begins punctuator.CloseParenthesis = refl
punctuator_begins punctuator.OpenBracket = refl
punctuator_begins punctuator.CloseBracket = refl
punctuator_begins punctuator.OpenBrace = refl
punctuator_begins punctuator.CloseBrace = refl
punctuator_begins punctuator.Semicolon = refl
punctuator_begins punctuator.Comma = refl
punctuator_begins punctuator.Question = refl
punctuator_begins punctuator.Colon = refl
punctuator_begins punctuator.Plus = refl
punctuator_begins punctuator.Minus = refl
punctuator_begins punctuator.Star = refl
punctuator_begins punctuator.Slash = refl
punctuator_begins punctuator.Percent = refl
punctuator_begins punctuator.ShiftLeft = refl
punctuator_begins punctuator.ShiftRight = refl
punctuator_begins punctuator.Less = refl
punctuator_begins punctuator.Greater = refl
punctuator_begins punctuator.LessOrEqual = refl
punctuator_begins punctuator.GreaterOrEqual = refl
punctuator_begins punctuator.Equal = refl
punctuator_begins punctuator.NotEqual = refl
punctuator_begins punctuator.Ampersand = refl
punctuator_begins punctuator.Bar = refl
punctuator_begins punctuator.Caret = refl
punctuator_begins punctuator.Tilde = refl
punctuator_begins punctuator.Exclamation = refl
punctuator_begins punctuator.AndAnd = refl
punctuator_begins punctuator.OrOr = refl
punctuator_begins punctuator.Assign = refl
punctuator_begins punctuator.PlusAssign = refl
punctuator_begins punctuator.MinusAssign = refl
punctuator_begins punctuator.StarAssign = refl
punctuator_begins punctuator.SlashAssign = refl
punctuator_begins punctuator.PercentAssign = refl
punctuator_begins punctuator.ShiftLeftAssign = refl
punctuator_begins punctuator.ShiftRightAssign = refl
punctuator_begins punctuator.AmpersandAssign = refl
punctuator_begins punctuator.BarAssign = refl
punctuator_begins punctuator.CaretAssign = refl
punctuator_begins punctuator.PlusPlus = refl
punctuator_begins punctuator.MinusMinus = refl
