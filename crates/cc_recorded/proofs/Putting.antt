-- Pieces give the unit of a command: what the type of a compiled unit keeps, in the form that the core's run asks for.
use Rattle.cc_core.specs.Rules.{HasBuilt}
use Rattle.cc_headline.specs.Built.{MadeUnitsAreBuilt}
use Rattle.cc_headline.specs.Compiling.{compiling, Keeps}
use Rattle.cc_library.specs.declared.command.Change.TheVariants.{Add, Replace, Withdraw}
use Rattle.cc_history.specs.Calls.{Command, HasMade, HasSource}

pub built_of : MadeUnitsAreBuilt → (command : Command) → HasSource command → HasMade command → HasBuilt compiling Keeps command
built_of builds (Add name unit) few made = builds unit few made
built_of builds (Replace name unit) few made = builds unit few made
built_of builds (Withdraw name) few made = tt
