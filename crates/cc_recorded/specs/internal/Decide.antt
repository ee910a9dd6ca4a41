-- The reply for an answer to a change.
use Rattle.cc_history.specs.declared.reply.Reply.{Reply}
use Rattle.cc_history.specs.declared.reply.Reply.TheVariants as reply
use Rattle.cc_recorded.specs.declared.recorded.Answer.{Answer}
use Rattle.cc_recorded.specs.declared.recorded.Answer.TheVariants.{Done, Exists, Absent}

abbrev pub answer_reply : Answer → Reply
answer_reply Done = reply.Done
answer_reply Exists = reply.Exists
answer_reply Absent = reply.Absent
