-- The text has the image's layout, and a text with this layout gives the image's bytes in order, and so at
-- each address.
use Rattle.std.proofs.Common.{◌≡◌, ℕ, List, [], ◌++◌, ◌≤◌, length, Some, ◌∙◌, ap, arith}
use Rattle.cc_hex.specs.Format.{read, cells_from}
use Rattle.cc_hex.specs.Contents.{bytes_of_words}
use Rattle.cc_hex.specs.Layout.{block, record_line}
use Rattle.cc_hex.proofs.Whole.{said}
use Rattle.cc_hex.proofs.Addresses.{held}
use Rattle.cc_hex.proofs.image.write.Goals as goal

-- the parts of the text, written one after another, give the image's bytes in order
parts_said : (code globals code_words globals_words t0 t1 t2 t3 : List ℕ) → code_words ≡ code → globals_words ≡ globals → length code ≤ 131072 → length globals ≤ 65536 →
    t0 ≡ [] → t1 ≡ t0 ++ block 65536 (bytes_of_words code_words) → t2 ≡ t1 ++ block 2097152 (bytes_of_words globals_words) → t3 ≡ t2 ++ record_line 1 0 [] →
    read t3 ≡ Some (cells_from 65536 (bytes_of_words code) ++ cells_from 2097152 (bytes_of_words globals))
parts_said code globals code_words globals_words t0 t1 t2 t3 e_code e_globals few_code few_globals e0 e1 e2 e3 =
    let first : t1 ≡ block 65536 (bytes_of_words code) = e1 ∙ ap (λ t. t ++ block 65536 (bytes_of_words code_words)) e0 ∙ ap (λ ws. block 65536 (bytes_of_words ws)) e_code in
    let second : t2 ≡ block 65536 (bytes_of_words code) ++ block 2097152 (bytes_of_words globals) =
    e2 ∙ ap (λ t. t ++ block 2097152 (bytes_of_words globals_words)) first ∙ ap (λ ws. block 65536 (bytes_of_words code) ++ block 2097152 (bytes_of_words ws)) e_globals in
    said code globals t3 few_code (omega arith) (e3 ∙ ap (λ t. t ++ record_line 1 0 []) second)

pub returns-clause-says : goal.returns-clause-says
returns-clause-says c =
    parts_said c.args.image.now.code c.args.image.now.globals c.words.result.now c.words-2.result.now c.new-text.result.items c.push_words.new.text.items c.push_words-2.new.text.items c.push_record.new.text.items
    c.words.ensures.words c.words-2.ensures.words c.words.ensures.few c.words-2.ensures.few c.new-text.ensures.items c.in_ok-push_words.ensures c.in_ok-push_words-2.ensures c.in_ok-push_record.ensures

pub returns-clause-holds : goal.returns-clause-holds
returns-clause-holds c =
    held c.args.image.now.code c.args.image.now.globals c.push_record.new.text.items c.words.ensures.few (omega arith)
    (parts_said c.args.image.now.code c.args.image.now.globals c.words.result.now c.words-2.result.now c.new-text.result.items c.push_words.new.text.items c.push_words-2.new.text.items c.push_record.new.text.items
    c.words.ensures.words c.words-2.ensures.words c.words.ensures.few c.words-2.ensures.few c.new-text.ensures.items c.in_ok-push_words.ensures c.in_ok-push_words-2.ensures c.in_ok-push_record.ensures)
