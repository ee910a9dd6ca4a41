-- What is written about what was found in a program.
use Rattle.std.specs.Prelude.{ℕ, List, [], ◌∷◌, ◌++◌, Option, Some, None, codes}
use Rattle.std.specs.Fmt.{decimal}
use Rattle.std.specs.List.{flat_map}
use Rattle.cc_tokens.specs.declared.place.Place.{Place}
use Rattle.cc_c_semantics.specs.declared.cause.Cause.{Cause}
use Rattle.cc_c_semantics.specs.declared.cause.Cause.TheVariants.{Division, Shift, Index, Depth}
use Rattle.cc_rv32.specs.Listing.{hexadecimal}
use Rattle.cc_answers.specs.Text.{line}
use Rattle.cc_size.specs.declared.size.UnitSize.{UnitSize}
use Rattle.cc_findings.specs.declared.judging.Unsure.{Unsure}
use Rattle.cc_findings.specs.declared.sizing.CyclicCall.{CyclicCall}
use Rattle.cc_findings.specs.declared.sizing.Measure.{Measure}
use Rattle.cc_findings.specs.declared.sizing.SizedFunction.{SizedFunction}

-- why a program goes wrong
abbrev pub cause_name : Cause → List ℕ
cause_name Division = codes "Division"
cause_name Shift = codes "Shift"
cause_name Index = codes "Index"
cause_name Depth = codes "Depth"

-- a function of an image: its name and its place; its words; its frame and the longest chain of calls from it
abbrev pub name_text : List ℕ → List ℕ
name_text name = name ++ codes " "

abbrev pub place_of_text : (name : List ℕ) (address : ℕ) → List ℕ
place_of_text name address = name_text name ++ hexadecimal 8 address

abbrev pub words_of_text : ℕ → List ℕ
words_of_text words = codes " " ++ decimal words ++ codes " words "

abbrev pub frame_text : (frame calls : ℕ) → List ℕ
frame_text frame calls = line (codes "frame " ++ decimal frame ++ codes " calls " ++ decimal calls)

abbrev pub function_size_text : SizedFunction → List ℕ
function_size_text it = place_of_text it.name.items it.address ++ words_of_text it.size.words ++ frame_text it.size.frame it.size.calls

-- what the whole image needs
abbrev pub whole_size_text : UnitSize → List ℕ
whole_size_text size = codes "code " ++ decimal size.code ++ codes "\nglobals " ++ decimal size.globals ++ codes "\nopen " ++ decimal size.calls ++ codes "\nstack " ++ decimal size.stack ++ codes "\n"

-- a call that is part of a cycle
abbrev pub cycle_text : CyclicCall → List ℕ
cycle_text it = codes "recursion " ++ name_text it.caller.items ++ line it.called.items

-- each function, then the whole, then the calls that are part of a cycle
abbrev pub measure_text : Measure → List ℕ
measure_text it = flat_map function_size_text it.functions.items ++ whole_size_text it.sized.size ++ flat_map cycle_text it.cycles.items

-- what may go wrong: why, and the place in the text or the function
abbrev pub in_function_text : (name : List ℕ) → List ℕ
in_function_text name = codes " in " ++ name ++ codes "\n"

abbrev pub place_or_function : Option Place → (name : List ℕ) → List ℕ
place_or_function (Some p) name = line (codes " at " ++ decimal p.line ++ codes ":" ++ decimal p.column)
place_or_function None name = in_function_text name

abbrev pub where_unsure_text : Unsure → List ℕ
where_unsure_text it = place_or_function it.place it.function.items

abbrev pub unsure_text : Unsure → List ℕ
unsure_text it = codes "unsure " ++ cause_name it.cause ++ where_unsure_text it

abbrev pub judged_text : List Unsure → List ℕ
judged_text [] = codes "safe\n"
judged_text (it ∷ rest) = flat_map unsure_text (it ∷ rest)
