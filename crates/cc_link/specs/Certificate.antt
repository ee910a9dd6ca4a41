-- The certificate of a unit: how many functions it has, and then the LTL of each, after its length, in the order of definitions.
-- Numbers are four bytes, the lowest first.
use Rattle.std.specs.Prelude.{ℕ, ◌≡◌, ◌<◌, ◌^◌, List, ◌++◌, length, slice_get, Some}
use Rattle.std.specs.List.{AllByRecursion, flat_map}
use Rattle.cc_ltl.specs.Ltl.{Ltl, IsLtl}
use Rattle.cc_ltl.specs.Bytes.{word_bytes, ltl_bytes}
use Rattle.cc_ast.specs.Tree.{External}
use Rattle.cc_linear_language.specs.Pair.{LtlKeepsUp}
use Rattle.cc_c_semantics.specs.declared.mode.Mode.{Mode}

-- how many bytes the LTL of a function has, and then these bytes
abbrev pub ltl_field : Ltl → List ℕ
ltl_field ltl = word_bytes (length (ltl_bytes ltl)) ++ ltl_bytes ltl

-- the number of functions, and then the field of each function
abbrev pub certificate_of : List Ltl → List ℕ
certificate_of ltls = word_bytes (length ltls) ++ flat_map ltl_field ltls

-- an LTL function whose length fits in four bytes
abbrev pub IsToldLtl : Ltl → Type 0
IsToldLtl ltl = IsLtl ltl × (length (ltl_bytes ltl) < 2 ^ 32)

-- the bytes spell the LTL of this many functions, and nothing else
pub record SpellsAll (bytes : List ℕ) (functions : ℕ) : Type 0 where
  pub ltls : List Ltl
  pub count : length ltls ≡ functions
  pub few : functions < 2 ^ 32
  pub told : AllByRecursion IsToldLtl ltls
  pub spelled : bytes ≡ certificate_of ltls

-- the run of each of these LTL functions keeps up with the unit's function of the same number
abbrev pub EachKeepsUpIn : Mode → List External → List Ltl → Type 0
EachKeepsUpIn mode unit ltls = (f : ℕ) (ltl : Ltl) → slice_get ltls f ≡ Some ltl → LtlKeepsUp mode unit f ltl
