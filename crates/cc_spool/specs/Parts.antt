-- What an answer consists of (lines, and sources, each after a line that says how many bytes it has), and whether it reports a fault.
use Rattle.std.specs.Prelude.{◌≡◌, ◌≢◌, ◌⊎◌, ◌<◌, ℕ, min, All, List, [], ◌∷◌, ◌++◌, length, Option, Some, None, codes}
use Rattle.std.specs.Str.Parse.{AllDigits, digits_value}

-- the line says that a source of this many bytes comes after it: `source` and a number, which counts as at most 4294967295
pub record IsHeader (line : List ℕ) (count : ℕ) : Type 0 where
  pub digits : List ℕ
  pub some : 0 < length digits
  pub are_digits : AllDigits 10 digits
  pub line_is : line ≡ codes "source " ++ digits
  pub count_is : count ≡ min (digits_value 10 digits) 4294967295

-- a part of an answer: a line, and the source that comes after it if the line announces one
pub record Part : Type 0 where
  pub line : List ℕ
  pub source : Option (List ℕ)

abbrev pub IsSource : (line : List ℕ) → Option (List ℕ) → Type 0
IsSource line None = (count : ℕ) → ¬ IsHeader line count
IsSource line (Some source) = IsHeader line (length source)

pub record IsPart (part : Part) : Type 0 where
  pub plain : All (λ byte. byte ≢ 10) part.line
  pub follows : IsSource part.line part.source

abbrev pub AreParts : List Part → Type 0
AreParts [] = Unit {0}
AreParts (part ∷ parts) = IsPart part × AreParts parts

-- the source, which may have any bytes, and a newline after it; nothing if there is no source
abbrev pub source_text : Option (List ℕ) → List ℕ
source_text None = []
source_text (Some source) = source ++ 10 ∷ []

abbrev pub part_text : Part → List ℕ
part_text part = part.line ++ 10 ∷ source_text part.source

abbrev pub parts_text : List Part → List ℕ
parts_text [] = []
parts_text (part ∷ parts) = part_text part ++ parts_text parts

-- ---- what an answer reports

-- a line that is not within a source begins with `fault `
pub record HasFaultLine (answer : List ℕ) : Type 0 where
  pub parts : List Part
  pub are_parts : AreParts parts
  pub rest : List ℕ
  pub answer_is : answer ≡ parts_text parts ++ (codes "fault " ++ rest)

-- The answer ends within a source, or has a byte other than a newline after one.
pub record EndsInSource (answer : List ℕ) : Type 0 where
  pub parts : List Part
  pub are_parts : AreParts parts
  pub line : List ℕ
  pub count : ℕ
  pub is_header : IsHeader line count
  pub rest : List ℕ
  pub answer_is : answer ≡ parts_text parts ++ (line ++ 10 ∷ rest)
  pub unended : (source after : List ℕ) → length source ≡ count → rest ≢ source ++ 10 ∷ after

-- a fault is reported: by a line, or because the answer ends within a source
abbrev pub TellsFault : (answer : List ℕ) → Type 0
TellsFault answer = HasFaultLine answer ⊎ EndsInSource answer

-- the option says whether the answer reports a fault
abbrev pub Tells : {N : Type 0} → (answer : List ℕ) → (told : Option N) → Type 0
Tells answer None = ¬ TellsFault answer
Tells answer (Some number) = TellsFault answer
