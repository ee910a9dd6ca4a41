-- What is sent for a line.
use Rattle.std.specs.Prelude.{Bool, true, false}
use Rattle.cc_submit.specs.declared.submitting.Sent.{Sent}
use Rattle.cc_submit.specs.declared.submitting.Sent.TheVariants.{Fetch}

-- what is sent is a line whose answer is a source
abbrev pub is_fetch : Sent → Bool
is_fetch (Fetch bytes) = true
is_fetch sent = false
