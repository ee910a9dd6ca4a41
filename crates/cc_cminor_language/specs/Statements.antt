-- The code of a list of statements.
use Rattle.std.specs.Prelude.{List, [], ◌∷◌}
use Rattle.cc_cminor_language.specs.Cminor as cminor
use Rattle.cc_cminor_language.specs.Code.{statement_of}
use Rattle.cc_cminor_language.specs.declared.code.Statement.{Statement}

-- the statements that a list of the code's values represents
abbrev pub statements_of : List Statement → List cminor.Statement
statements_of [] = []
statements_of (s ∷ rest) = statement_of s ∷ statements_of rest
