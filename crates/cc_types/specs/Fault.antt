-- The faults: their numbers and places, and the rule that each is for.
use Rattle.std.specs.Prelude.{ℕ, Option, Some, None}
use Rattle.cc_ast.specs.place_type.Place.{Place}
use Rattle.cc_types.specs.declared.rule.Rule.{Rule}
use Rattle.cc_types.specs.declared.rule.Rule.TheVariants as rule
use Rattle.cc_types.specs.declared.fault.TypeFault.{TypeFault}
use Rattle.cc_types.specs.declared.fault.TypeFault.TheVariants.{Unknown, Redeclared, WrongKind, WrongCount, VoidValue, BadReturn, BadAssign, BadBreak, NoMain, Undefined, TooMany, OutOfMemory}

-- the number of a fault
abbrev pub fault_number : TypeFault → ℕ
fault_number (Unknown p) = 11
fault_number (Redeclared p) = 12
fault_number (WrongKind p) = 13
fault_number (WrongCount p) = 14
fault_number (VoidValue p) = 15
fault_number (BadReturn p) = 16
fault_number (BadAssign p) = 17
fault_number (BadBreak p) = 18
fault_number (NoMain p) = 19
fault_number (Undefined p) = 20
fault_number (TooMany p) = 21
fault_number OutOfMemory = 40

-- the place of a fault
abbrev pub fault_place : TypeFault → Option Place
fault_place (Unknown p) = Some p
fault_place (Redeclared p) = Some p
fault_place (WrongKind p) = Some p
fault_place (WrongCount p) = Some p
fault_place (VoidValue p) = Some p
fault_place (BadReturn p) = Some p
fault_place (BadAssign p) = Some p
fault_place (BadBreak p) = Some p
fault_place (NoMain p) = Some p
fault_place (Undefined p) = Some p
fault_place (TooMany p) = Some p
fault_place OutOfMemory = None

-- the fault for a broken rule
abbrev pub fault_of : Rule → Place → TypeFault
fault_of rule.Unknown p = Unknown p
fault_of rule.Redeclared p = Redeclared p
fault_of rule.WrongKind p = WrongKind p
fault_of rule.WrongCount p = WrongCount p
fault_of rule.VoidValue p = VoidValue p
fault_of rule.BadReturn p = BadReturn p
fault_of rule.BadAssign p = BadAssign p
fault_of rule.BadBreak p = BadBreak p
fault_of rule.Undefined p = Undefined p
fault_of rule.TooMany p = TooMany p

-- the number of a rule
abbrev pub rule_number : Rule → ℕ
rule_number rule.Unknown = 11
rule_number rule.Redeclared = 12
rule_number rule.WrongKind = 13
rule_number rule.WrongCount = 14
rule_number rule.VoidValue = 15
rule_number rule.BadReturn = 16
rule_number rule.BadAssign = 17
rule_number rule.BadBreak = 18
rule_number rule.Undefined = 20
rule_number rule.TooMany = 21
