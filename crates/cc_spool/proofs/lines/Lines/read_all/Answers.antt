-- In each turn one more byte is read.
use Rattle.std.proofs.Common.{◌≡◌, ◌∙◌, ◌+◌, ◌<◌, ℕ, List, [], ◌∷◌, add-one, ap, get_or, length, sym, take, take_all}
use Rattle.std.proofs.Math.Seq.{take-suc}
use Rattle.cc_spool.specs.Answer.{read_byte, read_bytes}
use Rattle.cc_spool.specs.declared.lines.Lines.{Lines}
use Rattle.cc_spool.proofs.Skipping.{read_on}
use Rattle.cc_spool.proofs.lines.Lines.read_all.Goals as goal

read_more : (lines : Lines) (bytes : List ℕ) (i : ℕ) → i < length bytes → read_byte (read_bytes lines (take i bytes)) (get_or bytes i 0) ≡ read_bytes lines (take (i + 1) bytes)
read_more lines bytes i within =
    sym (read_on lines (take i bytes) (get_or bytes i 0 ∷ []))
    ∙ ap (λ (l : List ℕ). read_bytes lines l) (sym (take-suc bytes i 0 within) ∙ ap (λ (n : ℕ). take n bytes) (sym (add-one i)))

pub loop-byte-preserved : goal.loop-byte-preserved
loop-byte-preserved c =
    let bytes = c.args.bytes.now in
    let i = c.loop-byte.byte-index in
    c.read.ensures ∙ (ap (λ (l : Lines). read_byte l (get_or bytes i 0)) c.loop-byte.invariant ∙ read_more c.args.self.now bytes i c.loop-byte-test.true)

pub returns : goal.returns
returns c = c.loop-byte.invariant ∙ ap (λ (l : List ℕ). read_bytes c.args.self.now l) (take_all c.loop-byte.byte-index c.args.bytes.now c.loop-byte-test.false)
