-- In each arm the word is the table's, and decoding it yields the instruction.
use Rattle.std.proofs.Common.{Some, sym, ap, ◌∙◌}
use Rattle.cc_rv32.specs.Table.{instruction_of, encoding_of}
use Rattle.cc_rv32.proofs.RoundTrip.{decoded}
use Rattle.cc_rv32.proofs.encode.encode.Goals as goal

pub returns-in-Op-clause-decoded : goal.returns-in-Op-clause-decoded
returns-in-Op-clause-decoded c = ap instruction_of c.operation_word.ensures.table ∙ decoded _ c.operation_word.ensures.encodable ∙ ap Some (sym c.in-Op.is)

pub returns-in-OpImm-clause-decoded : goal.returns-in-OpImm-clause-decoded
returns-in-OpImm-clause-decoded c = ap instruction_of c.immediate_operation_word.ensures.table ∙ decoded _ c.immediate_operation_word.ensures.encodable ∙ ap Some (sym c.in-OpImm.is)

pub returns-in-Shift-clause-decoded : goal.returns-in-Shift-clause-decoded
returns-in-Shift-clause-decoded c = ap instruction_of c.shift_word.ensures.table ∙ decoded _ c.shift_word.ensures.encodable ∙ ap Some (sym c.in-Shift.is)

pub returns-in-Load-clause-decoded : goal.returns-in-Load-clause-decoded
returns-in-Load-clause-decoded c = ap instruction_of c.load_word.ensures.table ∙ decoded _ c.load_word.ensures.encodable ∙ ap Some (sym c.in-Load.is)

pub returns-in-Store-clause-decoded : goal.returns-in-Store-clause-decoded
returns-in-Store-clause-decoded c = ap instruction_of c.store_word.ensures.table ∙ decoded _ c.store_word.ensures.encodable ∙ ap Some (sym c.in-Store.is)

pub returns-in-Branch-clause-decoded : goal.returns-in-Branch-clause-decoded
returns-in-Branch-clause-decoded c = ap instruction_of c.branch_word.ensures.table ∙ decoded _ c.branch_word.ensures.encodable ∙ ap Some (sym c.in-Branch.is)

pub returns-in-Lui-clause-decoded : goal.returns-in-Lui-clause-decoded
returns-in-Lui-clause-decoded c = ap instruction_of c.lui_word.ensures.table ∙ decoded _ c.lui_word.ensures.encodable ∙ ap Some (sym c.in-Lui.is)

pub returns-in-Auipc-clause-decoded : goal.returns-in-Auipc-clause-decoded
returns-in-Auipc-clause-decoded c = ap instruction_of c.auipc_word.ensures.table ∙ decoded _ c.auipc_word.ensures.encodable ∙ ap Some (sym c.in-Auipc.is)

pub returns-in-Jal-clause-decoded : goal.returns-in-Jal-clause-decoded
returns-in-Jal-clause-decoded c = ap instruction_of c.jal_word.ensures.table ∙ decoded _ c.jal_word.ensures.encodable ∙ ap Some (sym c.in-Jal.is)

pub returns-in-Jalr-clause-decoded : goal.returns-in-Jalr-clause-decoded
returns-in-Jalr-clause-decoded c = ap instruction_of c.jalr_word.ensures.table ∙ decoded _ c.jalr_word.ensures.encodable ∙ ap Some (sym c.in-Jalr.is)

pub returns-in-Ecall-clause-table : goal.returns-in-Ecall-clause-table
unfolding encoding_of
returns-in-Ecall-clause-table c = ap encoding_of (sym c.in-Ecall.is)

pub returns-in-Ecall-clause-decoded : goal.returns-in-Ecall-clause-decoded
unfolding encoding_of
returns-in-Ecall-clause-decoded c = decoded _ tt ∙ ap Some (sym c.in-Ecall.is)
