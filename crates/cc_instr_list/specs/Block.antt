-- Items in their blocks, and the entries of a list.
use Rattle.std.specs.Prelude.{ℕ}
use denote.RawPtr.{Ptr}
use Rattle.cc_instr_list.specs.declared.chain.ChainNode.{ChainNode}
use Rattle.cc_instr_list.specs.List.{Entry, entry}

-- a block: its label, its address, and the value in it
pub record Block (V : Type 0) : Type 0 where
  pub label : ℕ
  pub address : Ptr
  pub value : V

module _ {V : Type 0} where
  abbrev pub block : ℕ → Ptr → V → Block V
  block label address value = record { label = label; address = address; value = value }

  -- a node's block, with only the item
  abbrev pub item_block : Block (ChainNode V) → Block V
  item_block b = block b.label b.address b.value.item

  -- the entry of a block
  abbrev pub entry_of : Block V → Entry V
  entry_of b = entry b.label b.value
