-- How an answer is read: lines, and the sources between them.
use Rattle.std.specs.Prelude.{ℕ, ◌+◌, ◌-◌, ◌*◌, ◌&&◌, ◌==◌, min, nat_lt, if◌then◌else◌, List, [], ◌∷◌, ◌++◌, length, slice_index, Option, Some, codes}
use Rattle.std.specs.Char.{is_ascii_digit}
use Rattle.std.specs.Fmt.{decimal}
use Rattle.cc_spool.specs.declared.lines.Place.{Place}
use Rattle.cc_spool.specs.declared.lines.Place.TheVariants.{Fault, Number, Source, Length, Line, Within, Behind, Broken}
use Rattle.cc_spool.specs.declared.lines.Lines.{Lines}

-- a source as it is written in an answer: the line `source LEN`, its LEN bytes, and a newline
abbrev pub framed : List ℕ → List ℕ
framed source = codes "source " ++ decimal (length source) ++ 10 ∷ source ++ 10 ∷ []

-- ---- byte by byte

-- the number with one more digit appended, or 4294967295 if that is less
abbrev pub with_digit : (number byte : ℕ) → ℕ
with_digit number byte = min (10 * number + (byte - 48)) 4294967295

-- the place after this byte, when the line so far has this many bytes of `fault `
abbrev pub in_fault : (count byte : ℕ) → Place
in_fault count byte =
    if (count == 0) && (byte == 115) then Source 1
    else if nat_lt count 6 && (slice_index (codes "fault ") count == byte) then (if count == 5 then Number 0 else Fault (count + 1))
    else Line

-- the place after this byte, when the line so far has this many bytes of `source `
abbrev pub in_source : (count byte : ℕ) → Place
in_source count byte =
    if nat_lt count 7 then (if slice_index (codes "source ") count == byte then Source (count + 1) else Line)
    else (if is_ascii_digit byte then Length (byte - 48) else Line)

-- the place of the next byte, after this one
abbrev pub place_behind : Place → (byte : ℕ) → Place
place_behind (Within left) byte = if left == 1 then Behind else Within (left - 1)
place_behind Behind byte = if byte == 10 then Fault 0 else Broken
place_behind Broken byte = Broken
place_behind (Length number) byte =
    if byte == 10 then (if number == 0 then Behind else Within number)
    else (if is_ascii_digit byte then Length (with_digit number byte) else Line)
place_behind (Fault count) byte = if byte == 10 then Fault 0 else in_fault count byte
place_behind (Number number) byte = if byte == 10 then Fault 0 else (if is_ascii_digit byte then Number (with_digit number byte) else Line)
place_behind (Source count) byte = if byte == 10 then Fault 0 else in_source count byte
place_behind Line byte = if byte == 10 then Fault 0 else Line

-- the fault that was reported last: that of the line being read, if it reports one
abbrev pub told_at : Place → (last : Option ℕ) → Option ℕ
told_at (Number number) last = Some number
told_at place last = last

-- the state after one more byte
abbrev pub read_byte : Lines → (byte : ℕ) → Lines
read_byte lines byte = let place = place_behind lines.place byte in record { place = place; last = told_at place lines.last }

abbrev pub read_bytes : Lines → List ℕ → Lines
read_bytes lines [] = lines
read_bytes lines (byte ∷ bytes) = read_bytes (read_byte lines byte) bytes

-- ---- what an answer reports

-- nothing was read, or only whole lines and sources; this fault was reported last
abbrev pub between : (last : Option ℕ) → Lines
between last = record { place = Fault 0; last = last }
