-- The meaning of the code's vectors and bits.
use Rattle.std.specs.Prelude.{◌≡◌, ℕ, ◌+◌, ◌<◌, List, length, get_or, drop, Bool, not, ◌&&◌, ◌||◌, ◌==◌, nat_lt, if◌then◌else◌, Some, None}
use Rattle.std.specs.Int.{bit_at}
use Rattle.cc_simulation.specs.Unknown.{survives}
use Rattle.cc_select.specs.declared.step.Step.{Step}
use Rattle.cc_select.specs.declared.registers.Registers as bits
use Rattle.cc_select.specs.declared.live.LiveTable as rows
use Rattle.cc_select.specs.declared.known.Known as found
use Rattle.cc_select.specs.declared.threading.Tests as gone
use Rattle.cc_select.specs.Live.{Registers, is_argument, live}
use Rattle.cc_select.specs.Known.{Known}
use Rattle.cc_select.specs.Threading.{Tests}
use Rattle.cc_select.specs.Table.{Table, all_below}

-- ---- sets

-- bit r says whether register r is in the set
abbrev pub holds : bits.Registers → Registers
holds s r = bit_at s.bits r == 1

abbrev pub every : Registers
every r = nat_lt r 32

abbrev pub alone : (register : ℕ) → Registers
alone register r = register == r

abbrev pub surviving : Registers → Registers
surviving s r = survives r && s r

abbrev pub before_call : Registers → Registers
before_call s r = is_argument r || (survives r && s r)

-- whether one set has each register of another
abbrev pub within : (some all : Registers) → Bool
within some all = all_below 32 (λ r. not (some r) || all r)

-- A set of bits has the same 32 registers as a set that steps read. What it says about numbers from 32 on does not matter, since each
-- register of a step is below 32.
abbrev pub Same : (s t : Registers) → Type 0
Same s t = (r : ℕ) → r < 32 → s r ≡ t r

-- ---- what is known

abbrev pub known_in : found.Known → Known
known_in k r = if holds k.some r then Some (get_or k.words r 0) else None

-- what is still known after a call
abbrev pub kept_by_call : Known → Known
kept_by_call k r = if survives r then k r else None

-- ---- tables

-- the row of a label; all labels past the end have the same row
abbrev pub row_of : rows.LiveTable → (label : ℕ) → bits.Registers
row_of t label = get_or t.rows.items label t.rest

abbrev pub table_of : rows.LiveTable → Table
table_of t label = holds (row_of t label)

abbrev pub SameTable : (s t : Table) → Type 0
SameTable s t = (label : ℕ) → Same (s label) (t label)

-- a set for each step: what is live after it
abbrev pub AreBehind : Table → List Step → List bits.Registers → Type 0
AreBehind t steps sets = (j : ℕ) (d : bits.Registers) → j < length steps → Same (holds (get_or sets j d)) (live t (drop (j + 1) steps))

-- the test that goes before a label
abbrev pub tests_in : gone.Tests → Tests
tests_in t label = get_or t.rows.items label None
