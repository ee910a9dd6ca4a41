-- The descriptors 0 to 2: which are in use, which one a file gets, and what they are used for after the free ones were taken.
use Rattle.std.specs.Prelude.{◌≡◌, Bool, true, false, not, if◌then◌else◌}
use Rattle.cc_descriptors.specs.declared.descriptors.Access.{Access}
use Rattle.cc_descriptors.specs.declared.descriptors.Access.TheVariants.{Reading, Writing}
use Rattle.cc_descriptors.specs.declared.descriptors.Standard.{Standard}
use Rattle.cc_descriptors.specs.declared.descriptors.Standard.TheVariants.{Input, Output, Error}
use Rattle.cc_descriptors.specs.declared.descriptors.Use.{Use}
use Rattle.cc_descriptors.specs.declared.descriptors.Use.TheVariants.{Free, Given, StandIn}
use Rattle.cc_descriptors.specs.declared.descriptors.Uses.{Uses}

abbrev pub is_used : Use → Bool
is_used Free = false
is_used Given = true
is_used (StandIn access) = true

abbrev pub use_of : Standard → Uses → Use
use_of Input all = all.input
use_of Output all = all.output
use_of Error all = all.error

-- what the descriptors are used for after a stand-in was opened: the lowest of the three that was free has it, if any was
abbrev pub opened : Access → Uses → Uses
opened access all =
    if is_used all.input then
    (if is_used all.output then
    (if is_used all.error then all else record { input = all.input; output = all.output; error = StandIn access })
    else record { input = all.input; output = StandIn access; error = all.error })
    else record { input = StandIn access; output = all.output; error = all.error }

-- a stand-in if nothing else uses the descriptor
abbrev pub stood_in : Access → Use → Use
stood_in access Free = StandIn access
stood_in access Given = Given
stood_in access (StandIn other) = StandIn other

-- all three are in use: the stand-in for standard input can only be written, the other two can only be read
abbrev pub taken : Uses → Uses
taken all = record { input = stood_in Writing all.input; output = stood_in Reading all.output; error = stood_in Reading all.error }

-- stand-ins are held for exactly those that were free
abbrev pub AreHeld : (input output error : Bool) → Uses → Type 0
AreHeld input output error all = (input ≡ not (is_used all.input)) × (output ≡ not (is_used all.output)) × (error ≡ not (is_used all.error))
