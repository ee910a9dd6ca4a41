-- The base line and the record of data are the row.
use Rattle.std.proofs.Common.{◌≡◌, ℕ, List, ◌++◌, ◌%◌, Result, Ok, Err, OnOk, ap, ◌∙◌, append_assoc}
use Rattle.cc_hex.specs.Layout.{base_line, record_line, row}
use Rattle.cc_hex.proofs.image.push_row.Goals as goal

-- if one text is written and then another, both are written, in this order
behind : {T E : Type 0} (r : Result T E) (old middle new first second : List ℕ) → middle ≡ old ++ first → OnOk r (new ≡ middle ++ second) → OnOk r (new ≡ old ++ (first ++ second))
behind (Ok x) old middle new first second e h = h ∙ ap (λ t. t ++ second) e ∙ append_assoc old first second
behind (Err x) old middle new first second e h = tt

pub returns : goal.returns
unfolding row
returns c = behind c.push_record.result c.args.text.now.items c.push_base.new.text.items c.push_record.new.text.items (base_line c.args.address) (record_line 0 (c.args.address % 65536) c.args.bytes.now) c.in_ok-push_base.ensures c.push_record.ensures
