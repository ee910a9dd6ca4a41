-- The parts of a record, written one after another, are its line.
use Rattle.std.proofs.Common.{[], ◌∷◌, ◌++◌, get_or, ap, refl, ◌<◌, ◌%◌, ◌+◌, arith}
use Rattle.cc_hex.specs.Layout.{record_line}
use Rattle.cc_hex.specs.internal.Types.{type_number}
use Rattle.cc_hex.proofs.Written.{ended, record_written}
use Rattle.cc_hex.proofs.record.push_record.Goals as goal

pub returns : goal.returns
returns c =
    let fits : c.wrapping_neg.result < 256 = omega arith in
    ended c.extend_from_slice-2.result c.push_bytes-3.new.text.items (10 ∷ []) c.extend_from_slice-2.new.self.items (c.args.text.now.items ++ record_line (type_number c.args.record_type) c.args.offset c.args.data_bytes.now) c.extend_from_slice-2.ensures.items
    (record_written c.args.text.now.items c.extend_from_slice.new.self.items c.push_bytes.new.text.items c.push_bytes-2.new.text.items c.push_bytes-3.new.text.items c.args.data_bytes.now
    (type_number c.args.record_type) c.args.offset (get_or c.to_be_bytes.result 0 0) (get_or c.to_be_bytes.result 1 0) c.number.result c.sum_of.result c.sum_of-2.result ((c.sum_of.result + c.sum_of-2.result) % 256) c.wrapping_neg.result
    (ap (λ bs. get_or bs 0 0) c.to_be_bytes.ensures) (ap (λ bs. get_or bs 1 0) c.to_be_bytes.ensures) c.number.ensures c.sum_of.ensures c.sum_of-2.ensures refl c.wrapping_neg.ensures fits
    c.in_ok-extend_from_slice.ensures.items c.in_ok-push_bytes.ensures c.in_ok-push_bytes-2.ensures c.in_ok-push_bytes-3.ensures)
