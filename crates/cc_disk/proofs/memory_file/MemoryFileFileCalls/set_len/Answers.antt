use Rattle.std.proofs.Common.{arith}
use Rattle.std.proofs.lemmas.Grind.{common_steps}
use Rattle.cc_disk.specs.Model.{bytes_of}
use Rattle.cc_disk.specs.File.{resized}
use Rattle.cc_disk.proofs.Images.{bytes_of-unsettled}
use Rattle.cc_disk.proofs.Files.{file_elapses}
use Rattle.cc_disk.proofs.memory_file.MemoryFileFileCalls.set_len.Goals as goal

pub returns-then-not-is_done-clause-time : goal.returns-then-not-is_done-clause-time
returns-then-not-is_done-clause-time c = λ _. file_elapses c.args.self.now.past.items c.is_done.new.self.past.items c.args.self.now.state _ c.is_done.ensures.past

pub returns-clause-sized : goal.returns-clause-sized
returns-clause-sized c = grind (arith, common_steps, bytes_of-unsettled (resized (bytes_of c.args.self.now.state.cells) c.args.size))

pub returns-clause-time : goal.returns-clause-time
returns-clause-time c = λ _. file_elapses c.args.self.now.past.items c.is_done.new.self.past.items c.args.self.now.state _ c.is_done.ensures.past
