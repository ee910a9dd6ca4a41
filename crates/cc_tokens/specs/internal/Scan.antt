-- What the private functions of the scanner return, as functions on lists. The definition of a text's tokens does not depend on
-- these functions; the proofs show that the functions agree with it.
use Rattle.std.specs.Prelude.{ℕ, zero, suc, ◌+◌, Bool, true, false, not, ◌||◌, ◌&&◌, ◌==◌, nat_lt, if◌then◌else◌, slice_index, List, [], ◌∷◌, length, take, drop, Option, Some, None, Result, Ok, Err}
use Rattle.std.specs.List.{find, prefix_len, starts_with}
use Rattle.std.specs.Str.{bytes_eq}
use Rattle.std.specs.Char.{is_ascii_digit}
use Rattle.cc_tokens.specs.declared.lexical_error.LexicalError.{LexicalError}
use Rattle.cc_tokens.specs.declared.lexical_error.LexicalError.TheVariants.{BadByte, UnclosedComment, BadConstant, ConstantTooLarge}
use Rattle.cc_tokens.specs.declared.scan.Mark.{Mark}
use Rattle.cc_tokens.specs.declared.scan.Mark.TheVariants.{CommentEnd, LineEnd, Splice}
use Rattle.cc_tokens.specs.declared.scan.Run.{Run}
use Rattle.cc_tokens.specs.declared.scan.Run.TheVariants as run
use Rattle.cc_tokens.specs.declared.scan.Head.{Head}
use Rattle.cc_tokens.specs.declared.scan.Head.TheVariants as head
use Rattle.cc_tokens.specs.declared.scalar.Scalar.{Scalar}
use Rattle.cc_tokens.specs.declared.token.Keyword.{Keyword}
use Rattle.cc_tokens.specs.declared.token.Keyword.TheVariants as keyword
use Rattle.cc_tokens.specs.declared.token.Punctuator.{Punctuator}
use Rattle.cc_tokens.specs.declared.token.Punctuator.TheVariants as punctuator
use Rattle.cc_tokens.specs.declared.token.TokenKind.{TokenKind}
use Rattle.cc_tokens.specs.declared.token.TokenKind.TheVariants as kind
use Rattle.cc_tokens.specs.declared.token.TheConstants.{KEYWORDS, PUNCTUATORS}
use Rattle.cc_tokens.specs.Spelling.{keyword_bytes, punctuator_bytes}
use Rattle.cc_tokens.specs.Constant.{Constant, is_digit_of, digits_value, constant_type}
use Rattle.cc_tokens.specs.Tokens.{is_blank, is_nondigit, continues_word, continues_number, begins_comment, begins_close, begins_line_end, begins_splice}

-- the test of a mark
abbrev pub begins : Mark → List ℕ → Bool
begins CommentEnd = begins_close
begins LineEnd = begins_line_end
begins Splice = begins_splice

-- the first of n offsets at which the test holds, or n
unfoldable pub offset_within : (List ℕ → Bool) → ℕ → List ℕ → ℕ
offset_within test zero bytes = 0
offset_within test (suc n) [] = suc n
offset_within test (suc n) (b ∷ bs) = if test (b ∷ bs) then 0 else suc (offset_within test n bs)

-- which bytes continue a run
abbrev pub goes_on : Run → ℕ → ℕ → Bool
goes_on run.Word = continues_word
goes_on run.Number = continues_number

-- how many bytes continue the run, each after the one before it
unfoldable pub run_length : (ℕ → ℕ → Bool) → ℕ → List ℕ → ℕ
run_length may before [] = 0
run_length may before (b ∷ bs) = if may before b then suc (run_length may b bs) else 0

-- the keywords that begin with this byte
-- ORDER Keyword
abbrev pub keywords_with : ℕ → List Keyword
keywords_with b =
    if b == 95 then keyword.Bool ∷ keyword.Complex ∷ keyword.Imaginary ∷ []
    else (if b == 97 then keyword.Auto ∷ []
    else (if b == 98 then keyword.Break ∷ []
    else (if b == 99 then keyword.Case ∷ keyword.Char ∷ keyword.Const ∷ keyword.Continue ∷ []
    else (if b == 100 then keyword.Default ∷ keyword.Do ∷ keyword.Double ∷ []
    else (if b == 101 then keyword.Else ∷ keyword.Enum ∷ keyword.Extern ∷ []
    else (if b == 102 then keyword.Float ∷ keyword.For ∷ []
    else (if b == 103 then keyword.Goto ∷ []
    else (if b == 105 then keyword.If ∷ keyword.Inline ∷ keyword.Int ∷ []
    else (if b == 108 then keyword.Long ∷ []
    else (if b == 114 then keyword.Register ∷ keyword.Restrict ∷ keyword.Return ∷ []
    else (if b == 115 then keyword.Short ∷ keyword.Signed ∷ keyword.Sizeof ∷ keyword.Static ∷ keyword.Struct ∷ keyword.Switch ∷ []
    else (if b == 116 then keyword.Typedef ∷ []
    else (if b == 117 then keyword.Union ∷ keyword.Unsigned ∷ []
    else (if b == 118 then keyword.Void ∷ keyword.Volatile ∷ []
    else (if b == 119 then keyword.While ∷ []
    else [])))))))))))))))

-- the punctuators that begin with this byte, the longest first
-- ORDER Punctuator
abbrev pub punctuators_with : ℕ → List Punctuator
punctuators_with b =
    if b == 60 then punctuator.ShiftLeftAssign ∷ punctuator.ShiftLeft ∷ punctuator.LessOrEqual ∷ punctuator.Less ∷ []
    else (if b == 62 then punctuator.ShiftRightAssign ∷ punctuator.ShiftRight ∷ punctuator.GreaterOrEqual ∷ punctuator.Greater ∷ []
    else (if b == 61 then punctuator.Equal ∷ punctuator.Assign ∷ []
    else (if b == 33 then punctuator.NotEqual ∷ punctuator.Exclamation ∷ []
    else (if b == 38 then punctuator.AndAnd ∷ punctuator.AmpersandAssign ∷ punctuator.Ampersand ∷ []
    else (if b == 124 then punctuator.OrOr ∷ punctuator.BarAssign ∷ punctuator.Bar ∷ []
    else (if b == 43 then punctuator.PlusAssign ∷ punctuator.PlusPlus ∷ punctuator.Plus ∷ []
    else (if b == 45 then punctuator.MinusAssign ∷ punctuator.MinusMinus ∷ punctuator.Minus ∷ []
    else (if b == 42 then punctuator.StarAssign ∷ punctuator.Star ∷ []
    else (if b == 47 then punctuator.SlashAssign ∷ punctuator.Slash ∷ []
    else (if b == 37 then punctuator.PercentAssign ∷ punctuator.Percent ∷ []
    else (if b == 94 then punctuator.CaretAssign ∷ punctuator.Caret ∷ []
    else (if b == 40 then punctuator.OpenParenthesis ∷ []
    else (if b == 41 then punctuator.CloseParenthesis ∷ []
    else (if b == 91 then punctuator.OpenBracket ∷ []
    else (if b == 93 then punctuator.CloseBracket ∷ []
    else (if b == 123 then punctuator.OpenBrace ∷ []
    else (if b == 125 then punctuator.CloseBrace ∷ []
    else (if b == 59 then punctuator.Semicolon ∷ []
    else (if b == 44 then punctuator.Comma ∷ []
    else (if b == 63 then punctuator.Question ∷ []
    else (if b == 58 then punctuator.Colon ∷ []
    else (if b == 126 then punctuator.Tilde ∷ []
    else []))))))))))))))))))))))

-- the keyword that these bytes spell
unfoldable pub keyword_named : List ℕ → Option Keyword
keyword_named word = find (λ k. bytes_eq (keyword_bytes k) word) KEYWORDS

-- the longest punctuator that the bytes begin with
unfoldable pub punctuator_at : List ℕ → Option Punctuator
punctuator_at bytes = find (λ p. starts_with (λ a b. a == b) bytes (punctuator_bytes p)) PUNCTUATORS

-- the kind of a word
abbrev pub word_kind : Option Keyword → TokenKind
word_kind None = kind.Identifier
word_kind (Some k) = kind.Keyword k

-- the base of a number, and how many bytes of prefix it has
unfoldable pub base_of : List ℕ → ℕ
base_of bytes = if slice_index bytes 0 == 48 then (if slice_index bytes 1 == 120 || slice_index bytes 1 == 88 then 16 else 8) else 10

abbrev pub prefix_of_base : ℕ → ℕ
prefix_of_base base = if base == 10 then 0 else (if base == 8 then 1 else 2)

-- Some true if these bytes are the suffix `u` or `U`, Some false if there are no bytes, and None for anything else
unfoldable pub suffix_of : List ℕ → Option Bool
suffix_of bytes =
    if length bytes == 0 then Some false
    else (if length bytes == 1 && (slice_index bytes 0 == 117 || slice_index bytes 0 == 85) then Some true
    else None)

-- the constant in this base with these digits, if a suffix (which may be empty) follows them
abbrev pub with_suffix : ℕ → List ℕ → Option Bool → Option Constant
with_suffix base digits None = None
with_suffix base digits (Some suffixed) = Some (record { base = base; digits = digits; suffixed = suffixed })

abbrev pub constant_behind : ℕ → ℕ → List ℕ → Option Constant
constant_behind base n bytes =
    if n == 0 && not (base == 8) then None
    else with_suffix base (take n bytes) (suffix_of (drop n bytes))

-- the constant that the bytes of a number spell
unfoldable pub constant_spelled : List ℕ → Option Constant
constant_spelled bytes =
    let base = base_of bytes in
    let behind = drop (prefix_of_base base) bytes in
    constant_behind base (prefix_len (is_digit_of base) behind) behind

-- the kind of a constant
abbrev pub typed : Option Scalar → ℕ → Result TokenKind LexicalError
typed None value = Err ConstantTooLarge
typed (Some type) value = Ok (kind.Number type value)

abbrev pub constant_kind : Option Constant → Result TokenKind LexicalError
constant_kind None = Err BadConstant
constant_kind (Some c) = typed (constant_type c) (digits_value c)

-- a token of n bytes, or an error
abbrev pub number_head : ℕ → Result TokenKind LexicalError → Head
number_head n (Ok k) = head.Token k n
number_head n (Err error) = head.Error error 0

abbrev pub punctuator_head : Option Punctuator → Head
punctuator_head None = head.Error BadByte 0
punctuator_head (Some p) = head.Token (kind.Punctuator p) (length (punctuator_bytes p))

-- a comment of n bytes, or an error if there is a line splice in the comment
abbrev pub spliced : ℕ → ℕ → Head
spliced n place = if nat_lt place n then head.Error BadByte place else head.Comment n

abbrev pub comment_of : ℕ → List ℕ → Head
comment_of n bytes = spliced n (offset_within begins_splice n bytes)

abbrev pub block_comment : ℕ → List ℕ → Head
block_comment n bytes = if nat_lt n (length (drop 2 bytes)) then comment_of (n + 4) bytes else head.Error UnclosedComment 0

abbrev pub comment_head : List ℕ → Head
comment_head bytes =
    let body = drop 2 bytes in
    if slice_index bytes 1 == 42 then block_comment (offset_within begins_close (length body) body) bytes
    else comment_of (offset_within begins_line_end (length body) body + 2) bytes

-- how many bytes the run at the beginning has; the first byte belongs to it
abbrev pub run_of : (ℕ → ℕ → Bool) → List ℕ → ℕ
run_of may bytes = suc (run_length may (slice_index bytes 0) (drop 1 bytes))

-- what the bytes begin with
unfoldable pub head_of : List ℕ → Head
head_of bytes =
    let first = slice_index bytes 0 in
    if is_blank first then head.Blank
    else (if begins_comment bytes then comment_head bytes
    else (if is_nondigit first then head.Token (word_kind (keyword_named (take (run_of continues_word bytes) bytes))) (run_of continues_word bytes)
    else (if is_ascii_digit first then number_head (run_of continues_number bytes) (constant_kind (constant_spelled (take (run_of continues_number bytes) bytes)))
    else punctuator_head (punctuator_at bytes))))
