-- How the code counts what has a limit.
use Rattle.std.specs.Prelude.{ℕ, ◌+◌, List, [], ◌∷◌, ◌++◌, Option, Some, None, if◌then◌else◌, nat_lt, is_some}
use Rattle.cc_ast.specs.Tree.{Object, External}
use Rattle.cc_types.specs.Limits.{most_words, object_name}
use Rattle.cc_types.specs.Types.{object_words}
use Rattle.cc_types.specs.declared.rule.RuleError.{RuleError}
use Rattle.cc_types.specs.declared.rule.Rule.TheVariants.{TooMany}
use Rattle.cc_types.specs.internal.Externals.{defined_in}
use Rattle.cc_typing.specs.declared.limits.Words.{Words}

-- the error for a limit that is exceeded at this offset, if there is such an offset
abbrev pub excess_of : Option ℕ → List RuleError
excess_of None = []
excess_of (Some at) = record { rule = TooMany; at = at } ∷ []

-- how many words the objects so far have, and the offset of the object that exceeded the limit on words
pub record WordCount : Type 0 where
  pub taken : ℕ
  pub past : Option ℕ

abbrev pub word_count : Words → WordCount
word_count w = record { taken = w.taken; past = w.past }

-- the count after one more object; nothing is counted once the limit is exceeded
abbrev pub with_words : WordCount → Object → WordCount
with_words w o =
    if is_some w.past then w
    else (if nat_lt most_words (w.taken + object_words o) then record w { past = Some (object_name o).at } else record w { taken = w.taken + object_words o })

abbrev pub words_after : WordCount → List Object → WordCount
words_after w [] = w
words_after w (o ∷ rest) = words_after (with_words w o) rest

-- the functions that these external declarations define, the last one first, and then the earlier functions `d`
abbrev pub all_defined : List External → List (List ℕ) → List (List ℕ)
all_defined [] d = d
all_defined (e ∷ rest) d = all_defined rest (defined_in e ++ d)
