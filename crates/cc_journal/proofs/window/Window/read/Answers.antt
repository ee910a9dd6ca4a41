use Rattle.std.proofs.Common.{◌≡◌, ◌+◌, ◌-◌, ◌≤◌, List, ℕ, ◌++◌, length, take, drop, ◌∙◌, ap, arith}
use Rattle.std.proofs.lemmas.List.{length-drop, length-take, length-take-le, take_all, take_at}
use Rattle.std.proofs.lemmas.Grind.{common_steps}
use Rattle.cc_journal.proofs.Ahead.{filled, read_as, shown_and_read}
use Rattle.cc_journal.proofs.window.Window.read.Goals as goal

-- the bytes are those of the window, followed by those that were read
pub returns-clause-read : goal.returns-clause-read
returns-clause-read g c = λ h.
    let S = g.D.Disk.seen c.args.disk.now in
    let first = c.part-first.result.now in
    let done = length first in
    let most : done ≤ c.args.count = c.part-first.ensures.most in
    let before = c.extend_from_slice.new.self.items in
    let started : before ≡ first = c.in_ok-extend_from_slice.ensures.items ∙ ap (λ (l : List ℕ). l ++ first) c.in_ok-bytes.ensures.items in
    let room = c.deref_mut.result.now in
    let all : take c.args.count before ≡ first = take_all c.args.count before (omega (arith, ap length started)) ∙ started in
    let whole = c.deref_mut.ensures.value ∙ c.in_ok-resize.ensures.items in
    let kept : take done room ≡ first = ap (λ (l : List ℕ). take done l) whole ∙ take_at (take c.args.count before) _ done (ap length all) ∙ all in
    let long : length room ≡ c.args.count = c.deref_mut.ensures.len ∙ c.in_ok-resize.ensures.len in
    let read : c.read_at.new.buffer ≡ take (c.args.count - done) (drop (c.args.offset + done) S) =
    read_as _ _ _ (c.args.count - done) (c.in_ok-read_at.ensures.read h) (first_of (omega (arith, long, length-take {A = ℕ}, length-drop {A = ℕ}), grind (arith, common_steps, long))) in
    let size : length c.read_at.new.buffer ≡ c.args.count - done =
    ap length read ∙ length-take-le (c.args.count - done) (drop (c.args.offset + done) S) (omega (arith, most, length-drop (c.args.offset + done) S, g.met.D.Disk.has_size c.args.disk.now h, c.requires.on_disk)) in
    filled done c.resize.new.self.len room c.read_at.new.buffer _ _ (omega (arith, long, most)) (omega (arith, size, most, c.in_ok-resize.ensures.len))
    ∙ ap (λ (l : List ℕ). l ++ c.read_at.new.buffer) kept
    ∙ shown_and_read c.args.offset done c.args.count first c.read_at.new.buffer S (c.part-first.ensures.shows S (c.requires.shown h)) (λ i. done) most read
