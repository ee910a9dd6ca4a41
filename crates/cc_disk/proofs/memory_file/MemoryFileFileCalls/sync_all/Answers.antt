use Rattle.cc_disk.proofs.Files.{file_elapses, file_bytes, whole_settles, whole_adds_none}
use Rattle.cc_disk.proofs.memory_file.MemoryFileFileCalls.sync_all.Goals as goal

pub returns-then-not-is_done-clause-time : goal.returns-then-not-is_done-clause-time
returns-then-not-is_done-clause-time c = λ _. file_elapses c.args.self.now.past.items c.is_done.new.self.past.items c.args.self.now.state _ c.is_done.ensures.past

pub returns-clause-settled : goal.returns-clause-settled
returns-clause-settled c = λ _. whole_settles c.args.self.now.state c.is_done.new.self.state c.settle.new.self c.is_done.ensures.state c.settle.ensures.cells

pub returns-clause-bytes : goal.returns-clause-bytes
returns-clause-bytes c = λ _. file_bytes c.args.self.now.state c.is_done.new.self.state c.settle.new.self c.is_done.ensures.state c.settle.ensures.cells

pub returns-clause-images : goal.returns-clause-images
returns-clause-images c = λ _. whole_adds_none c.args.self.now.state c.is_done.new.self.state c.settle.new.self c.is_done.ensures.state c.settle.ensures.cells

pub returns-clause-time : goal.returns-clause-time
returns-clause-time c = λ _. file_elapses c.args.self.now.past.items c.is_done.new.self.past.items c.args.self.now.state _ c.is_done.ensures.past
