-- What a line of a script says.
use Rattle.std.specs.Prelude.{ℕ, ◌+◌, ◌-◌, ◌*◌, Bool, ◌&&◌, ◌==◌, nat_le, nat_lt, if◌then◌else◌, List, [], ◌∷◌, length, Option, Some, None, codes}
use Rattle.std.specs.List.{slice_split}
use Rattle.std.specs.Char.{is_ascii_digit}
use Rattle.std.specs.Str.{bytes_eq}
use Rattle.cc_script.specs.declared.command.ScriptCommand.{ScriptCommand}
use Rattle.cc_script.specs.declared.command.ScriptCommand.TheVariants as command
use Rattle.cc_script.specs.declared.command.Dialect.{Dialect}
use Rattle.cc_script.specs.declared.command.Dialect.TheVariants.{Plain, Served}

-- what a line of a script asks for: a change, with a number of bytes of source after its line, with two such numbers, or without
-- source; or a look; or a run, with a number of bytes of input after its line or without input
-- ORDER ScriptCommand
pub data ScriptRequest : Type 0 where
  Add : (name : List ℕ) → (length : ℕ) → ScriptRequest
  Replace : (name : List ℕ) → (length : ℕ) → ScriptRequest
  Withdraw : (name : List ℕ) → ScriptRequest
  Names : ScriptRequest
  Run : (name : List ℕ) → (steps : ℕ) → ScriptRequest
  Compact : ScriptRequest
  Audit : ScriptRequest
  Image : (name : List ℕ) → ScriptRequest
  Source : (name : List ℕ) → ScriptRequest
  AuditOne : (name : List ℕ) → ScriptRequest
  Update : (name : List ℕ) → (expected length : ℕ) → ScriptRequest
  Call : (name : List ℕ) → (steps length : ℕ) → ScriptRequest
  Space : ScriptRequest

-- what a command of the code asks for
abbrev pub asked_by : ScriptCommand → ScriptRequest
asked_by (command.Add name length) = Add name.now length
asked_by (command.Replace name length) = Replace name.now length
asked_by (command.Withdraw name) = Withdraw name.now
asked_by command.List = Names
asked_by (command.Run name steps) = Run name.now steps
asked_by command.Compact = Compact
asked_by command.Audit = Audit
asked_by (command.Image name) = Image name.now
asked_by (command.Source name) = Source name.now
asked_by (command.AuditOne name) = AuditOne name.now
asked_by (command.Update name expected length) = Update name.now expected length
asked_by (command.Call name steps length) = Call name.now steps length
asked_by command.Space = Space

-- ---- numbers

-- the number whose digits are those of n and then these; `None` if a byte is not a digit
abbrev pub number_from : ℕ → List ℕ → Option ℕ
number_from n [] = Some n
number_from n (byte ∷ bytes) = if is_ascii_digit byte then number_from (10 * n + (byte - 48)) bytes else None

-- the number, if it is not above the limit
abbrev pub at_most : (limit : ℕ) → Option ℕ → Option ℕ
at_most limit (Some n) = if nat_le n limit then Some n else None
at_most limit None = None

-- the number that these bytes spell, if they are 1 to `digits` digits and the number is not above the limit
abbrev pub number_in : (digits limit : ℕ) → List ℕ → Option ℕ
number_in digits limit bytes = if nat_lt 0 (length bytes) && nat_le (length bytes) digits then at_most limit (number_from 0 bytes) else None

-- how many bytes a source has: 1 to 6 digits
abbrev pub length_in : List ℕ → Option ℕ
length_in bytes = number_in 6 999999 bytes

-- how many instructions a run may take: 1 to 10 digits
abbrev pub steps_in : List ℕ → Option ℕ
steps_in bytes = number_in 10 1000000000 bytes

-- ---- lines

-- the words of a line, which are separated by single spaces
abbrev pub words : List ℕ → List (List ℕ)
words line = slice_split (λ b. b == 32) line

-- whether bytes can be a word of a line: they can if there is at least one, so there is no word between two spaces
abbrev pub is_word : List ℕ → Bool
is_word bytes = nat_lt 0 (length bytes)

abbrev pub one_plain_word : (verb : List ℕ) → Option ScriptRequest
one_plain_word verb =
    if bytes_eq verb (codes "list") then Some Names
    else if bytes_eq verb (codes "compact") then Some Compact
    else if bytes_eq verb (codes "audit") then Some Audit
    else None

-- in a script that is left for a server, there is one more command of one word
abbrev pub one_served_word : (verb : List ℕ) → Option ScriptRequest
one_served_word verb = if bytes_eq verb (codes "space") then Some Space else one_plain_word verb

abbrev pub one_word : Dialect → (verb : List ℕ) → Option ScriptRequest
one_word Plain verb = one_plain_word verb
one_word Served verb = one_served_word verb

abbrev pub two_plain_words : (verb name : List ℕ) → Option ScriptRequest
two_plain_words verb name = if bytes_eq verb (codes "withdraw") && is_word name then Some (Withdraw name) else None

-- in a script that is left for a server, there are three more commands of two words
abbrev pub two_served_words : (verb name : List ℕ) → Option ScriptRequest
two_served_words verb name =
    if bytes_eq verb (codes "image") && is_word name then Some (Image name)
    else if bytes_eq verb (codes "source") && is_word name then Some (Source name)
    else if bytes_eq verb (codes "audit") && is_word name then Some (AuditOne name)
    else two_plain_words verb name

abbrev pub two_words : Dialect → (verb name : List ℕ) → Option ScriptRequest
two_words Plain verb name = two_plain_words verb name
two_words Served verb name = two_served_words verb name

-- what is asked for with a number, if there is one
abbrev pub with_number : (ℕ → ScriptRequest) → Option ℕ → Option ScriptRequest
with_number make (Some n) = Some (make n)
with_number make None = None

abbrev pub three_words : (verb name digits : List ℕ) → Option ScriptRequest
three_words verb name digits =
    if is_word name then
    (if bytes_eq verb (codes "add") then with_number (Add name) (length_in digits)
    else if bytes_eq verb (codes "replace") then with_number (Replace name) (length_in digits)
    else if bytes_eq verb (codes "run") then with_number (Run name) (steps_in digits)
    else None)
    else None

-- what is asked for with two numbers, if both are there
abbrev pub with_numbers : (ℕ → ℕ → ScriptRequest) → Option ℕ → Option ℕ → Option ScriptRequest
with_numbers make (Some n) second = with_number (make n) second
with_numbers make None second = None

-- in a script that is left for a server, there are two commands of four words
abbrev pub four_served_words : (verb name first second : List ℕ) → Option ScriptRequest
four_served_words verb name first second =
    if is_word name then
    (if bytes_eq verb (codes "update") then with_numbers (Update name) (length_in first) (length_in second)
    else if bytes_eq verb (codes "call") then with_numbers (Call name) (steps_in first) (length_in second)
    else None)
    else None

abbrev pub four_words : Dialect → (verb name first second : List ℕ) → Option ScriptRequest
four_words Plain verb name first second = None
four_words Served verb name first second = four_served_words verb name first second

abbrev pub asked_in : Dialect → (words : List (List ℕ)) → Option ScriptRequest
asked_in dialect (verb ∷ []) = one_word dialect verb
asked_in dialect (verb ∷ name ∷ []) = two_words dialect verb name
asked_in dialect (verb ∷ name ∷ digits ∷ []) = three_words verb name digits
asked_in dialect (verb ∷ name ∷ first ∷ second ∷ []) = four_words dialect verb name first second
asked_in dialect words = None

-- what a line of a script asks for, if anything
abbrev pub asked_of : Dialect → (line : List ℕ) → Option ScriptRequest
asked_of dialect line = asked_in dialect (words line)
