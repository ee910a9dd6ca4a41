use Rattle.cc_disk.proofs.Files.{file_elapses}
use Rattle.cc_disk.proofs.memory_file.MemoryFileFileCalls.read_some.Goals as goal

pub returns-in_default-clause-time : goal.returns-in_default-clause-time
returns-in_default-clause-time c = λ _. file_elapses c.args.self.now.past.items c.counted.new.self.past.items c.args.self.now.state _ c.counted.ensures.past

pub returns-then-offset-len-clause-time : goal.returns-then-offset-len-clause-time
returns-then-offset-len-clause-time c = λ _. file_elapses c.args.self.now.past.items c.counted.new.self.past.items c.args.self.now.state _ c.counted.ensures.past

pub returns-clause-time : goal.returns-clause-time
returns-clause-time c = λ _. file_elapses c.args.self.now.past.items c.counted.new.self.past.items c.args.self.now.state _ c.counted.ensures.past
