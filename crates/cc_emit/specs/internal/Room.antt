-- What a recipe's instruction has to hold in addition to registers.
use Rattle.std.specs.Prelude.{◌<◌}
use Rattle.cc_rv32.specs.Fields.{IsImmediate}
use Rattle.cc_emit.specs.declared.recipe.WordRecipe.{WordRecipe}
use Rattle.cc_emit.specs.declared.recipe.WordRecipe.TheVariants.{WithImmediate, ShiftBy, OnZero, ZeroOfImmediate, NonzeroOfImmediate}

-- the instruction has room for the recipe's word, if the recipe has one
abbrev pub HasRoom : WordRecipe → Type 0
HasRoom (WithImmediate i n) = IsImmediate n
HasRoom (ShiftBy i n) = n < 32
HasRoom (OnZero i) = Unit {0}
HasRoom (ZeroOfImmediate i n) = IsImmediate n
HasRoom (NonzeroOfImmediate i n) = IsImmediate n
