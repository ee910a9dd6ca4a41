-- Reading the text of an image.
use Rattle.std.proofs.Common.{◌≡◌, ℕ, ◌+◌, ◌*◌, ◌/◌, ◌%◌, ◌≤◌, List, [], ◌∷◌, ◌++◌, length, Some, refl, ap, subst, ◌∙◌, arith, append_assoc, length-append, inl}
use Rattle.std.specs.Int.{w32, to_le_bytes}
use Rattle.std.proofs.lemmas.List.{append-nil}
use Rattle.cc_hex.specs.internal.Reading.{◌>>=◌}
use Rattle.cc_hex.specs.Format.{EndOfFile, AddressedByte, records_of, cells_from, contents_of, read}
use Rattle.cc_hex.specs.Contents.{bytes_of_words}
use Rattle.cc_hex.specs.Layout.{record_line, block}
use Rattle.cc_hex.proofs.Digits.{AreBytes, more_bytes, no_bytes, appended_bytes}
use Rattle.cc_hex.proofs.Lines.{AreRecords, record_first, no_records}
use Rattle.cc_hex.proofs.Rows.{Tells, rows_first}

word_bytes : (w : ℕ) → AreBytes (to_le_bytes w32 w)
word_bytes w =
    more_bytes (w % 256) (w / 256 % 256 ∷ w / 65536 % 256 ∷ w / 16777216 % 256 ∷ []) (omega arith)
    (more_bytes (w / 256 % 256) (w / 65536 % 256 ∷ w / 16777216 % 256 ∷ []) (omega arith)
    (more_bytes (w / 65536 % 256) (w / 16777216 % 256 ∷ []) (omega arith)
    (more_bytes (w / 16777216 % 256) [] (omega arith) no_bytes)))

words_bytes : (words : List ℕ) → AreBytes (bytes_of_words words)
words_bytes [] = no_bytes
words_bytes (w ∷ ws) = appended_bytes (to_le_bytes w32 w) (bytes_of_words ws) (word_bytes w) (words_bytes ws)

pub long : (words : List ℕ) → length (bytes_of_words words) ≡ 4 * length words
long [] = refl
long (w ∷ ws) = omega (arith, length-append (to_le_bytes w32 w) (bytes_of_words ws), long ws)

end_tells : (base : ℕ) → Tells base (record_line 1 0 []) []
end_tells base = record {
  records = EndOfFile ∷ [];
  are = subst (λ (t : List ℕ). AreRecords t (EndOfFile ∷ [])) (append-nil (record_line 1 0 [])) (record_first 1 0 [] [] EndOfFile [] no_bytes (omega arith) (omega arith) (omega arith) refl no_records);
  contents = refl;
}

block_first : (base a : ℕ) (words text : List ℕ) (cells : List AddressedByte) → length words ≤ 131072 → a ≤ 0x00200000 → a % 65536 ≡ 0 →
    ((b : ℕ) → Tells b text cells) → Tells base (block a (bytes_of_words words) ++ text) (cells_from a (bytes_of_words words) ++ cells)
block_first base a words text cells few low begins others =
    let bytes : List ℕ = bytes_of_words words in
    let count : length bytes ≡ 4 * length words = long words in
    rows_first ((length bytes + 15) / 16) base a bytes text cells (words_bytes words) (omega arith) (omega arith) (omega arith) (inl begins) others

-- what a text says from the base address 0 on is what `read` gives
told : (text : List ℕ) (cells : List AddressedByte) → Tells 0 text cells → read text ≡ Some cells
unfolding read
told text cells h =
    ap (λ found. found >>= λ lines. records_of lines >>= λ records. contents_of 0 records) h.are.split
    ∙ ap (λ found. found >>= λ records. contents_of 0 records) h.are.read
    ∙ h.contents

pub said : (code globals text : List ℕ) → length code ≤ 131072 → length globals ≤ 131072 →
    text ≡ (block 65536 (bytes_of_words code) ++ block 2097152 (bytes_of_words globals)) ++ record_line 1 0 [] →
    read text ≡ Some (cells_from 65536 (bytes_of_words code) ++ cells_from 2097152 (bytes_of_words globals))
said code globals text few_code few_globals e =
    let code_text : List ℕ = block 65536 (bytes_of_words code) in
    let globals_text : List ℕ = block 2097152 (bytes_of_words globals) in
    let globals_cells : List AddressedByte = cells_from 2097152 (bytes_of_words globals) in
    let all : Tells 0 (code_text ++ (globals_text ++ record_line 1 0 [])) (cells_from 65536 (bytes_of_words code) ++ (globals_cells ++ [])) =
    block_first 0 65536 code (globals_text ++ record_line 1 0 []) (globals_cells ++ []) few_code (omega arith) refl
    (λ b. block_first b 2097152 globals (record_line 1 0 []) [] few_globals (omega arith) refl end_tells) in
    let grouped : text ≡ code_text ++ (globals_text ++ record_line 1 0 []) = e ∙ append_assoc code_text globals_text (record_line 1 0 []) in
    ap read grouped ∙ told (code_text ++ (globals_text ++ record_line 1 0 [])) (cells_from 65536 (bytes_of_words code) ++ (globals_cells ++ [])) all
    ∙ ap (λ cs. Some (cells_from 65536 (bytes_of_words code) ++ cs)) (append-nil globals_cells)
