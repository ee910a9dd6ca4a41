-- What is written as an answer and for a fault, byte for byte.
use Rattle.std.specs.Prelude.{ℕ, ◌==◌, if◌then◌else◌, List, [], ◌∷◌, ◌++◌, take, drop, Option, Some, None, codes}
use Rattle.std.specs.List.{flat_map}
use Rattle.std.specs.Fmt.{decimal}
use Rattle.cc_tokens.specs.declared.place.Place.{Place}
use Rattle.cc_rv32.specs.Listing.{signed_text}
use Rattle.cc_rv32.specs.declared.outcome.MachineOutcome.{MachineOutcome}
use Rattle.cc_rv32.specs.declared.outcome.MachineOutcome.TheVariants.{Going, Exited, Trapped}
use Rattle.cc_link.specs.declared.piece_fault.PieceFault.{PieceFault}
use Rattle.cc_link.specs.declared.piece_fault.PieceFault.TheVariants as piece
use Rattle.cc_link.specs.Text.{text_fault_place}
use Rattle.cc_answers.specs.declared.run.ImageRun.{ImageRun}
use Rattle.cc_answers.specs.declared.stands.Stands.{Stands}
use Rattle.cc_answers.specs.declared.stands.Stands.TheVariants.{Text, Function, Nowhere}

-- a line with this text
abbrev pub line : List ℕ → List ℕ
line text = text ++ codes "\n"

-- ---- the run of an image

-- the line of a word: a signed number in base 10
abbrev pub word_line : ℕ → List ℕ
word_line w = line (signed_text w)

-- words, each on a line of its own
abbrev pub words_text : List ℕ → List ℕ
words_text words = flat_map word_line words

-- how a run ended
abbrev pub machine_outcome_text : MachineOutcome → List ℕ
machine_outcome_text Going = line (codes "going")
machine_outcome_text (Exited w) = line (codes "exited " ++ signed_text w)
machine_outcome_text Trapped = line (codes "trapped")

-- the words that an image has written, and how its run ended
abbrev pub run_text : ImageRun → List ℕ
run_text run = words_text run.output.items ++ machine_outcome_text run.outcome

-- ---- faults

-- the number of each fault and its name
abbrev pub fault_names : List (ℕ × List ℕ)
fault_names =
    (1, codes "BadByte") ∷ (2, codes "UnclosedComment") ∷ (3, codes "BadConstant") ∷ (4, codes "ConstantTooLarge")
    ∷ (5, codes "Unexpected") ∷ (6, codes "TooDeep") ∷ (7, codes "SourceTooLarge")
    ∷ (11, codes "Unknown") ∷ (12, codes "Redeclared") ∷ (13, codes "WrongKind") ∷ (14, codes "WrongCount")
    ∷ (15, codes "VoidValue") ∷ (16, codes "BadReturn") ∷ (17, codes "BadAssign") ∷ (18, codes "BadBreak")
    ∷ (19, codes "NoMain") ∷ (20, codes "Undefined") ∷ (21, codes "TooMany")
    ∷ (22, codes "FunctionTooLarge") ∷ (24, codes "Unvalidated") ∷ (25, codes "ImageTooLarge")
    ∷ (26, codes "Missing") ∷ (27, codes "Doubled") ∷ (28, codes "Stranger")
    ∷ (30, codes "TooManyClients") ∷ (31, codes "Exists") ∷ (32, codes "Absent") ∷ (33, codes "BadName")
    ∷ (34, codes "Full") ∷ (35, codes "DiskFault") ∷ (36, codes "Closed") ∷ (37, codes "Damaged")
    ∷ (38, codes "NotALibrary") ∷ (39, codes "Estranged") ∷ (40, codes "OutOfMemory") ∷ (41, codes "WorkersGone")
    ∷ (50, codes "BadLine") ∷ (51, codes "EndOfScript") ∷ (52, codes "ScriptTooLong") ∷ (53, codes "ReadFault")
    ∷ (54, codes "WriteFault") ∷ (55, codes "Interrupted") ∷ (56, codes "FolderFault") ∷ (57, codes "FolderInUse")
    ∷ (58, codes "NotTaken") ∷ (59, codes "UnknownFunction") ∷ (60, codes "Changed") ∷ (61, codes "Stopped") ∷ []

-- the name of the fault with this number; nothing if no fault has the number
abbrev pub name_in : List (ℕ × List ℕ) → ℕ → List ℕ
name_in [] n = []
name_in (entry ∷ entries) n = if n == entry.0 then entry.1 else name_in entries n

abbrev pub fault_name : ℕ → List ℕ
fault_name n = name_in fault_names n

-- the line and column of a fault that has a place in the text
abbrev pub place_text : Option Place → List ℕ
place_text None = []
place_text (Some p) = codes " at " ++ decimal p.line ++ codes ":" ++ decimal p.column

-- the name that begins at this offset of the text and has this many bytes
abbrev pub name_at : (text : List ℕ) (at count : ℕ) → List ℕ
name_at text at count = take count (drop at text)

-- the name of the function that a fault is in
abbrev pub in_text : (text : List ℕ) (at count : ℕ) → List ℕ
in_text text at count = codes " in " ++ name_at text at count

-- the function that was not compiled, and the label at which the proof failed, if there is one
abbrev pub function_text : (text : List ℕ) → PieceFault → List ℕ
function_text text (piece.FunctionTooLarge at count) = in_text text at count
function_text text (piece.Unvalidated at count label) = in_text text at count ++ (codes " at label " ++ decimal label)
function_text text piece.OutOfMemory = []

-- the place or the function of a fault, if it has one
abbrev pub position_text : (text : List ℕ) → Stands → List ℕ
position_text text (Text f) = place_text (text_fault_place f.now)
position_text text (Function f) = function_text text f
position_text text Nowhere = []

-- the number of a fault, and its name
abbrev pub fault_head : ℕ → List ℕ
fault_head number = codes "fault " ++ decimal number ++ codes " " ++ fault_name number

-- the line of a fault: its number, its name and its position
abbrev pub fault_line : (number : ℕ) (position : List ℕ) → List ℕ
fault_line number position = line (fault_head number ++ position)
