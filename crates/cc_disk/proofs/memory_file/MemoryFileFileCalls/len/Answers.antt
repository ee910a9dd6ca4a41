use Rattle.cc_disk.proofs.Files.{file_elapses}
use Rattle.cc_disk.proofs.memory_file.MemoryFileFileCalls.len.Goals as goal

pub returns-then-not-is_done-clause-time : goal.returns-then-not-is_done-clause-time
returns-then-not-is_done-clause-time c = λ _. file_elapses c.args.self.now.past.items c.is_done.new.self.past.items c.args.self.now.state _ c.is_done.ensures.past

pub returns-clause-time : goal.returns-clause-time
returns-clause-time c = λ _. file_elapses c.args.self.now.past.items c.is_done.new.self.past.items c.args.self.now.state _ c.is_done.ensures.past
