-- A spool in memory may go to another thread if its scripts and the writers of its answers may; a spool in a folder may do so
-- if its handle for files may.
use denote.RattleType.{RattleType}
use denote.Param.Send.{IsSend, sendable, recorded_send, struct_send}
use denote.Builtin.{u32}
use denote.Struct.Declared.{shape}
use denote.Struct.Tuple.{Tuple}
use Rattle.std.proofs.Common.{[], ◌∷◌}
use Rattle.std.proofs.Crossing.{crosses}
use Rattle.std.specs.contracts.option.Option as Option
use Rattle.cc_disk.proofs.Crossing.{history_send}
use Rattle.cc_spool.specs.contracts.folder.FolderSpool as FolderSpool
use Rattle.cc_spool.specs.contracts.claims.Ending as Ending
use Rattle.cc_spool.specs.contracts.folder.Queue as Queue
use Rattle.cc_spool.specs.contracts.folder.Unanswered as Unanswered
use Rattle.cc_spool.specs.contracts.found.Found as Found
use Rattle.cc_spool.specs.contracts.layout.FolderLayout as FolderLayout
use Rattle.cc_spool.specs.contracts.memory.Answered as Answered
use Rattle.cc_spool.specs.contracts.memory.MemorySpool as MemorySpool

answered_send : (W : RattleType) → IsSend W → IsSend (Answered.the_row W)
answered_send W t = search (sendable, crosses) depth 20

end_send : IsSend (Option.the_row u32)
end_send = search (sendable, crosses) depth 20

-- a script and the writer of its answer may go to another thread if each of them may
job_send : (R W : RattleType) → IsSend R → IsSend W → IsSend (Tuple (R ∷ W ∷ []))
job_send R W s t = search (sendable, crosses) depth 20

pub spool_send : (R W : RattleType) → IsSend R → IsSend W → IsSend (MemorySpool.the_row R W)
spool_send R W s t =
    recorded_send _ _ _ (MemorySpool.the_type R W).to_one (struct_send (shape (MemorySpool.the_type R W))
    (search (sendable, crosses) depth 20, (let a = answered_send W t in search (sendable, crosses) depth 20, (history_send (Tuple (R ∷ W ∷ [])) (job_send R W s t), (history_send (Answered.the_row W) (answered_send W t), (search (sendable, crosses) depth 20, (search (sendable, crosses) depth 20, (search (sendable, crosses) depth 20, tt))))))))

found_send : IsSend Found.the_row
found_send = search (sendable, crosses) depth 20

layout_send : IsSend FolderLayout.the_field.row
layout_send = let f = found_send in search (sendable, crosses) depth 40 fits 40000

ending_send : IsSend Ending.the_row
ending_send = search (sendable, crosses) depth 20

unanswered_send : IsSend Unanswered.the_row
unanswered_send = let e = ending_send in search (sendable, crosses) depth 20

queue_send : IsSend Queue.the_field.row
queue_send = struct_send (shape Queue.the_type) (let l = layout_send in search (sendable, crosses) depth 20, (search (sendable, crosses) depth 20, (search (sendable, crosses) depth 20, (search (sendable, crosses) depth 20, (search (sendable, crosses) depth 20, (search (sendable, crosses) depth 20, (search (sendable, crosses) depth 20, (search (sendable, crosses) depth 20, (search (sendable, crosses) depth 20, (search (sendable, crosses) depth 20, ((let u = unanswered_send in search (sendable, crosses) depth 20), (search (sendable, crosses) depth 20, (search (sendable, crosses) depth 20, (search (sendable, crosses) depth 20, tt))))))))))))))

pub folder_send : IsSend FolderSpool.the_row
folder_send =
    recorded_send _ _ _ FolderSpool.the_type.to_one (struct_send (shape FolderSpool.the_type)
    (queue_send, (search (sendable, crosses) depth 20, (history_send (Option.the_row u32) end_send, (search (sendable, crosses) depth 20, (search (sendable, crosses) depth 20, tt))))))
