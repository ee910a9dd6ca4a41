-- The parts of a line, written one after another, are the line.
use Rattle.std.proofs.Common.{◌≡◌, List, ◌++◌, ℕ, ◌∙◌, append_assoc, Result, Ok, Err, is_ok, OnOk, if◌then◌else◌, string_bytes, codes}
use Rattle.cc_rv32.specs.Table.{instruction_of}
use Rattle.cc_rv32.specs.Listing.{line, hexadecimal, word_text}
use Rattle.cc_rv32.proofs.listing.push_line.Goals as goal

-- six parts, written one after another, are one text
gathered : (t a b c d e f t1 t2 t3 t4 t5 : List ℕ) →
    t1 ≡ t ++ a → t2 ≡ t1 ++ b → t3 ≡ t2 ++ c → t4 ≡ t3 ++ d → t5 ≡ t4 ++ e → t5 ++ f ≡ t ++ (a ++ b ++ c ++ d ++ e ++ f)
gathered t a b c d e f t1 t2 t3 t4 t5 e1 e2 e3 e4 e5 =
    let all : t5 ++ f ≡ t ++ a ++ b ++ c ++ d ++ e ++ f = cc in
    let grouped : t ++ a ++ b ++ c ++ d ++ e ++ f ≡ t ++ (a ++ b ++ c ++ d ++ e ++ f) = simp append_assoc in
    all ∙ grouped

-- if the last write succeeded, the text is complete
ended : {T E : Type 0} (r : Result T E) (old tail new all : List ℕ) → new ≡ (if is_ok r then old ++ tail else old) → old ++ tail ≡ all → OnOk r (new ≡ all)
ended (Ok x) old tail new all e f = e ∙ f
ended (Err x) old tail new all e f = tt

pub returns : goal.returns
unfolding line
returns c =
    let before : List ℕ = string_bytes c.args.text.now in
    let address : List ℕ = hexadecimal 8 c.args.address in
    let word : List ℕ = hexadecimal 8 c.args.word in
    let instruction : List ℕ = word_text (instruction_of c.args.word) in
    ended c.push_str-3.result (string_bytes c.push_instruction.new.text) (codes "\n") (string_bytes c.push_str-3.new.self) (before ++ line c.args.address c.args.word) c.push_str-3.ensures.bytes
    (gathered before address (codes " ") word (codes " ") instruction (codes "\n")
    (string_bytes c.push_hexadecimal.new.text) (string_bytes c.push_str.new.self) (string_bytes c.push_hexadecimal-2.new.text) (string_bytes c.push_str-2.new.self) (string_bytes c.push_instruction.new.text)
    c.in_ok-push_hexadecimal.ensures c.in_ok-push_str.ensures.bytes c.in_ok-push_hexadecimal-2.ensures c.in_ok-push_str-2.ensures.bytes c.in_ok-push_instruction.ensures)
