-- A file's head has the length that its modes determine; the bytes are a file exactly if they begin with the head of the rest.
use Rattle.std.proofs.Common.{◌≡◌, ◌++◌, length, sym, ap, ◌∙◌, arith}
use Rattle.std.proofs.lemmas.Bool.{false≢true}
use Rattle.std.proofs.lemmas.List.{take-append-drop}
use Rattle.cc_pack.specs.File.{mode_word}
use Rattle.cc_pack.proofs.Files.{head_length, is_file, is_no_file, is_too_short}
use Rattle.cc_pack.proofs.file.body_in.Goals as goal

pub returns-then-file-length : goal.returns-then-file-length
returns-then-file-length c =
    let word : length c.word_of.result.now ≡ length (mode_word c.args.confirmed) = ap length c.word_of.ensures in
    is_too_short c.args.confirmed c.args.file.now (omega (arith, word, c.if-file-length.true))

pub returns-then-are_same : goal.returns-then-are_same
returns-then-are_same c =
    let parts : c.split_at.result.0.now ++ c.split_at.result.1.now ≡ c.args.file.now =
    rw (c.split_at.ensures.front, c.split_at.ensures.back) (take-append-drop _ _) in
    is_file c.args.confirmed c.args.file.now c.split_at.result.0.now c.split_at.result.1.now (sym parts)
    (c.are_same.ensures.0 c.if-are_same.true ∙ c.as_slice.ensures.value ∙ c.in_ok-wanted.ensures)

pub returns : goal.returns
returns c =
    let word : length c.word_of.result.now ≡ length (mode_word c.args.confirmed) = ap length c.word_of.ensures in
    let long : length c.split_at.result.0.now ≡ head_length c.args.confirmed = omega (arith, word, c.split_at.ensures.front_len) in
    let parts : c.split_at.result.0.now ++ c.split_at.result.1.now ≡ c.args.file.now =
    rw (c.split_at.ensures.front, c.split_at.ensures.back) (take-append-drop _ _) in
    is_no_file c.args.confirmed c.args.file.now c.split_at.result.0.now c.split_at.result.1.now long (sym parts)
    (λ same. false≢true (sym c.if-are_same.false ∙ c.are_same.ensures.1 (same ∙ sym (c.as_slice.ensures.value ∙ c.in_ok-wanted.ensures))))
