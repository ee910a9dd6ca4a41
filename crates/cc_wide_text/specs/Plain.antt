-- A text of wide C without character constants (C99 6.4.4.4) and `#define` (6.10.3): byte by byte, so that each token keeps its offset.
-- A character constant is written as its number, with blanks after it. `#define` is written as the word `__macro`, and the end of its line
-- as a semicolon. What no text may have is written as `#`, which begins no token: a semicolon in such a line, and a word that begins with
-- two underscores (7.1.3). So do other errors stay bytes that begin no token.
use Rattle.std.specs.Prelude.{ℕ, ◌+◌, ◌-◌, ◌*◌, ◌/◌, ◌%◌, Bool, true, false, not, ◌||◌, ◌&&◌, ◌==◌, nat_le, nat_lt, if◌then◌else◌, slice_index, List, [], ◌∷◌, codes}
use Rattle.std.specs.List.{starts_with}
use Rattle.std.specs.Char.{is_ascii_digit, digit_value}
use Rattle.cc_tokens.specs.Constant.{is_digit_of}
use Rattle.cc_tokens.specs.Tokens.{is_blank, is_nondigit}
use Rattle.cc_wide_text.specs.declared.plain.Region.{Region}
use Rattle.cc_wide_text.specs.declared.plain.Region.TheVariants.{Code, Line, Block}
use Rattle.cc_wide_text.specs.declared.plain.Pending.{Pending}
use Rattle.cc_wide_text.specs.declared.plain.Pending.TheVariants.{Nothing, Same, Value, Define}
use Rattle.cc_wide_text.specs.declared.plain.State.{State}
use Rattle.cc_wide_text.specs.declared.plain.Step.{Step}
use Rattle.cc_wide_text.specs.declared.plain.Character.{Character}

-- ---- character constants

-- a byte of a word or a number
abbrev pub continues : ℕ → Bool
continues b = is_nondigit b || is_ascii_digit b

abbrev pub is_octal : ℕ → Bool
is_octal b = nat_le 48 b && nat_le b 55

-- the value of \' \" \? \\ \a \b \f \n \r \t \v, by the byte after the backslash; 128 for any other
abbrev pub escape_value : ℕ → ℕ
escape_value b =
    if b == 34 then 34
    else (if b == 39 then 39
    else (if b == 63 then 63
    else (if b == 92 then 92
    else (if b == 97 then 7
    else (if b == 98 then 8
    else (if b == 102 then 12
    else (if b == 110 then 10
    else (if b == 114 then 13
    else (if b == 116 then 9
    else (if b == 118 then 11
    else 128))))))))))

abbrev pub found : (value len : ℕ) → Character
found value len = record { value = value; len = len }

abbrev pub no_character : Character
no_character = found 0 0

-- one, two or three octal digits, up to \177
abbrev pub octal_character : List ℕ → Character
octal_character bytes =
    let a = slice_index bytes 2 in
    let b = slice_index bytes 3 in
    let c = slice_index bytes 4 in
    if b == 39 then found (a - 48) 4
    else (if is_octal b && c == 39 then found ((a - 48) * 8 + (b - 48)) 5
    else (if (nat_le a 49 && is_octal b) && (is_octal c && slice_index bytes 5 == 39) then found ((a - 48) * 64 + (b - 48) * 8 + (c - 48)) 6
    else no_character))

-- one or two hexadecimal digits, up to \x7f
abbrev pub hexadecimal_character : List ℕ → Character
hexadecimal_character bytes =
    let a = slice_index bytes 3 in
    let b = slice_index bytes 4 in
    if is_digit_of 16 a && b == 39 then found (digit_value a) 5
    else (if (is_octal a && is_digit_of 16 b) && slice_index bytes 5 == 39 then found (digit_value a * 16 + digit_value b) 6
    else no_character)

abbrev pub escaped_character : List ℕ → Character
escaped_character bytes =
    let e = slice_index bytes 2 in
    if e == 120 then hexadecimal_character bytes
    else (if is_octal e then octal_character bytes
    else (if nat_lt (escape_value e) 128 && slice_index bytes 3 == 39 then found (escape_value e) 4
    else no_character))

-- the character constant, with a value up to 127, that the bytes begin with; they begin with '
abbrev pub character_of : List ℕ → Character
character_of bytes =
    let b = slice_index bytes 1 in
    if b == 92 then escaped_character bytes
    else (if (nat_le 32 b && nat_le b 126) && (not (b == 39) && slice_index bytes 2 == 39) then found b 3
    else no_character)

-- ---- what is written

-- byte number k of a value below 200 in decimal, with blanks after it
abbrev pub digit_byte : (value k : ℕ) → ℕ
digit_byte value k =
    if nat_lt value 10 then (if k == 0 then 48 + value else 32)
    else (if nat_lt value 100 then (if k == 0 then 48 + value / 10 else (if k == 1 then 48 + value % 10 else 32))
    else (if k == 0 then 49 else (if k == 1 then 48 + (value - 100) / 10 else (if k == 2 then 48 + value % 10 else 32))))

-- the word for `#define`
abbrev pub macro_word : List ℕ
macro_word = codes "__macro"

-- the bytes are `#define` and white space within the line
abbrev pub begins_define : List ℕ → Bool
begins_define bytes = starts_with (λ a b. a == b) bytes (codes "#define") && (is_blank (slice_index bytes 7) && not (slice_index bytes 7 == 10))

abbrev pub start : State
start = record { region = Code; pending = Nothing; word = false; fresh = true; define = false }

abbrev pub step : ℕ → State → Step
step b s = record { byte = b; state = s }

-- after a byte that is not white space, in code
abbrev pub after_byte : State → Bool → State
after_byte s word = record s { word = word; fresh = false }

abbrev pub with_pending : State → Pending → State
with_pending s p = record s { pending = p }

-- the end of a line
abbrev pub line_end : State → Step
line_end s = step (if s.define then 59 else 10) (record s { region = Code; word = false; fresh = true; define = false })

-- a character constant, if it has one to six bytes and neither follows nor precedes a word or a number
abbrev pub character_step : State → List ℕ → Character → Step
character_step s bytes c =
    if (not s.word && nat_lt 0 c.len) && not (continues (slice_index bytes c.len))
    then step (digit_byte c.value 0) (with_pending (after_byte s true) (Value c.value 1 c.len))
    else step 39 (after_byte s false)

abbrev pub define_step : State → List ℕ → Step
define_step s bytes =
    if s.fresh && begins_define bytes then step 95 (with_pending (record (after_byte s true) { define = true }) (Define 1))
    else step 35 (after_byte s false)

abbrev pub comment_step : State → ℕ → Step
comment_step s next =
    if next == 47 then step (if s.define then 32 else 47) (record (after_byte s false) { region = Line })
    else step 47 (with_pending (record (after_byte s false) { region = Block }) Same)

-- a byte of a word, of punctuation, or of no token
abbrev pub other_step : State → (b next : ℕ) → Step
other_step s b next =
    if b == 59 && s.define then step 35 (after_byte s false)
    else (if (b == 95 && next == 95) && not s.word then step 35 (after_byte s true)
    else step b (after_byte s (continues b)))

abbrev pub code_step : State → List ℕ → Step
code_step s bytes =
    let b = slice_index bytes 0 in
    let next = slice_index bytes 1 in
    if b == 10 then line_end s
    else (if is_blank b then step b (record s { word = false })
    else (if b == 47 && (next == 47 || next == 42) then comment_step s next
    else (if b == 39 then character_step s bytes (character_of bytes)
    else (if b == 35 then define_step s bytes
    else other_step s b next))))

-- in a comment up to the end of the line; after `#define` it is written as blanks, so that the semicolon is outside
abbrev pub line_step : State → ℕ → Step
line_step s b = if b == 10 then line_end s else step (if s.define && not (b == 92) then 32 else b) s

abbrev pub block_step : State → (b next : ℕ) → Step
block_step s b next = if b == 42 && next == 47 then step b (with_pending (record s { region = Code }) Same) else step b s

abbrev pub region_step : Region → State → List ℕ → Step
region_step Code s bytes = code_step s bytes
region_step Line s bytes = line_step s (slice_index bytes 0)
region_step Block s bytes = block_step s (slice_index bytes 0) (slice_index bytes 1)

abbrev pub pending_step : Pending → State → List ℕ → Step
pending_step Nothing s bytes = region_step s.region s bytes
pending_step Same s bytes = step (slice_index bytes 0) (with_pending s Nothing)
pending_step (Value v k n) s bytes = step (digit_byte v k) (with_pending s (if nat_lt k 7 && nat_lt (k + 1) n then Value v (k + 1) n else Nothing))
pending_step (Define k) s bytes = step (slice_index macro_word k) (with_pending s (if nat_lt k 6 then Define (k + 1) else Nothing))

-- the byte that is written for the first of these, and the state after it
abbrev pub step_of : State → List ℕ → Step
step_of s bytes = pending_step s.pending s bytes

-- what is written for the bytes that follow
abbrev pub plain_from : State → List ℕ → List ℕ
plain_from s [] = []
plain_from s (b ∷ bs) = let next = step_of s (b ∷ bs) in next.byte ∷ plain_from next.state bs

-- the text without character constants and `#define`
abbrev pub plain : List ℕ → List ℕ
plain text = plain_from start text
