-- The operands of an instruction as the listing shows them.
use Rattle.std.specs.Prelude.{ℕ, List, [], ◌++◌, codes}
use Rattle.std.specs.Fmt.{decimal}
use Rattle.cc_rv32.specs.declared.operands.Last.{Last}
use Rattle.cc_rv32.specs.declared.operands.Last.TheVariants.{Register, Signed, Number, Address}
use Rattle.cc_rv32.specs.declared.operands.Operands.{Operands}
use Rattle.cc_rv32.specs.declared.operands.Operands.TheVariants.{None, Two, Three}
use Rattle.cc_rv32.specs.Listing.{register_text, signed_text, address_text}

-- the last operand
abbrev pub last_text : Last → List ℕ
last_text (Register r) = register_text r
last_text (Signed w) = signed_text w
last_text (Number n) = decimal n
last_text (Address i s1) = address_text i s1

-- what follows the name
abbrev pub operands_text : Operands → List ℕ
operands_text None = []
operands_text (Two a l) = codes " " ++ register_text a ++ codes ", " ++ last_text l
operands_text (Three a b l) = codes " " ++ register_text a ++ codes ", " ++ register_text b ++ codes ", " ++ last_text l
