use Rattle.std.proofs.Common.{◌≡◌, ◌≤◌, ◌∙◌, ap, arith, length, take}
use Rattle.std.proofs.lemmas.List.{length-map, length-take}
use Rattle.cc_disk.specs.Model.{Cell, bytes_of, written}
use Rattle.cc_disk.specs.declared.memory_file.FileState.{FileState}
use Rattle.cc_disk.proofs.Files.{file_elapses, file_unsettles}
use Rattle.cc_disk.proofs.memory_file.MemoryFileFileCalls.write_some.Goals as goal

pub returns-in_default-clause-time : goal.returns-in_default-clause-time
returns-in_default-clause-time c = λ _. file_elapses c.args.self.now.past.items c.counted.new.self.past.items c.args.self.now.state _ c.counted.ensures.past

pub returns-in_err-put-clause-time : goal.returns-in_err-put-clause-time
returns-in_err-put-clause-time c = λ _. file_elapses c.args.self.now.past.items c.counted.new.self.past.items c.args.self.now.state _ c.counted.ensures.past

pub returns-clause-time : goal.returns-clause-time
returns-clause-time c = λ _. file_elapses c.args.self.now.past.items c.counted.new.self.past.items c.args.self.now.state _ c.counted.ensures.past

pub returns-clause-images : goal.returns-clause-images
returns-clause-images c = λ _ fits.
    let cells = c.args.self.now.state.cells in
    let part = take c.in-Some.count c.args.bytes.now in
    let long : length (bytes_of cells) ≡ length cells = length-map cells (λ (l : Cell). l.byte) in
    let short : length part ≤ length c.args.bytes.now = omega (arith, length-take c.in-Some.count c.args.bytes.now) in
    let inside = c.put.ensures.inside (omega (arith, fits, long, short, ap (λ (s : FileState). length s.cells) c.counted.ensures.state)) in
    file_unsettles c.args.self.now.state c.put.new.self c.args.offset part (length c.args.bytes.now) (omega (arith, fits, long, short)) short
    (inside.1 ∙ ap (λ (s : FileState). written s.cells c.args.offset part) c.counted.ensures.state)
    (inside.2 ∙ ap (λ (s : FileState). s.settled_length) c.counted.ensures.state)
