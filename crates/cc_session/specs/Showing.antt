-- What is written for a unit that was found.
use Rattle.std.specs.Prelude.{◌≡◌, ℕ, List}
use Rattle.cc_hex.specs.Contents.{Holds, Says}
use Rattle.cc_hex.specs.Layout.{image_text}
use Rattle.cc_history.specs.declared.reply.Reply.{Reply}
use Rattle.cc_history.specs.declared.reply.Reply.TheVariants.{Done, Exists, Absent, Unit, Names}
use Rattle.cc_spool.specs.Answer.{framed}
use Rattle.cc_task.specs.declared.part.Part.{Part}
use Rattle.cc_task.specs.declared.part.Part.TheVariants.{Image, Source}

-- the text shows the unit of a reply: its image, as a text that has exactly the image's bytes at their addresses; or its source, framed
abbrev pub IsShownOf : Part → Reply → (text : List ℕ) → Type 0
IsShownOf Image (Unit unit) text = Holds text unit.image × Says text unit.image × (text ≡ image_text unit.image)
IsShownOf Source (Unit unit) text = text ≡ framed unit.source
IsShownOf part Done text = ⊥
IsShownOf part Exists text = ⊥
IsShownOf part Absent text = ⊥
IsShownOf part (Names names) text = ⊥
