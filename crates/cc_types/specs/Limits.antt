-- The limits that a unit may exceed, each reported at the name that exceeds it.
use Rattle.std.specs.Prelude.{ℕ, ◌+◌, List, [], ◌∷◌, ◌++◌, length, take, drop, map, if◌then◌else◌, nat_lt}
use Rattle.cc_ast.specs.Tree.{Name, Declarator, Beginning, Declares, Performs, Stmt, Stmts, end, next, Block, Local, Perform, Return, Break, Continue, If, IfElse, While, DoWhile, For, Signature, Object, Single, Array, Bytes, External, Declaration, Definition, Objects}
use Rattle.cc_types.specs.Types.{object_words}
use Rattle.cc_types.specs.declared.rule.RuleError.{RuleError}
use Rattle.cc_types.specs.declared.rule.Rule.TheVariants.{TooMany}

-- the largest allowed numbers: of parameters of a function; of locals of a function, in all its blocks together and without its
-- parameters; of defined functions; of words of all objects at file scope together
abbrev pub most_parameters : ℕ
most_parameters = 8

abbrev pub most_locals : ℕ
most_locals = 256

abbrev pub most_functions : ℕ
most_functions = 64

abbrev pub most_words : ℕ
most_words = 65536

-- a limit is exceeded at this name
abbrev pub too_many : Name → RuleError
too_many x = record { rule = TooMany; at = x.at }

-- the limit is exceeded at the first name after `most` names, if there is one
abbrev pub past : ℕ → List Name → List RuleError
past most names = map too_many (take 1 (drop most names))

-- ---- parameters

abbrev pub parameter_excesses : Signature → List RuleError
parameter_excesses s = if nat_lt most_parameters (length s.parameters) then too_many s.name ∷ [] else []

-- ---- locals

abbrev pub declared_names : List Declarator → List Name
declared_names ds = map (λ (d : Declarator). d.name) ds

abbrev pub beginning_names : Beginning → List Name
beginning_names (Declares t ds) = declared_names ds
beginning_names (Performs a) = []

-- the locals that a statement or a list of statements declares, in the order of the text
abbrev mutual
  pub locals_of : Stmt → List Name
  locals_of (Block all) = locals all
  locals_of (Local t ds) = declared_names ds
  locals_of (Perform a) = []
  locals_of (Return at e) = []
  locals_of (Break at) = []
  locals_of (Continue at) = []
  locals_of (If c s) = locals_of s
  locals_of (IfElse c s r) = locals_of s ++ locals_of r
  locals_of (While c s) = locals_of s
  locals_of (DoWhile s c) = locals_of s
  locals_of (For start c behind s) = beginning_names start ++ locals_of s

  pub locals : Stmts → List Name
  locals end = []
  locals (next first rest) = locals_of first ++ locals rest

-- ---- functions and words

-- the names of the defined functions, in the order of their definitions
abbrev pub function_names : List External → List Name
function_names [] = []
function_names (Declaration s ∷ rest) = function_names rest
function_names (Definition s body ∷ rest) = s.name ∷ function_names rest
function_names (Objects t os ∷ rest) = function_names rest

-- the objects at file scope, in the order of their declarations
abbrev pub objects : List External → List Object
objects [] = []
objects (Declaration s ∷ rest) = objects rest
objects (Definition s body ∷ rest) = objects rest
objects (Objects t os ∷ rest) = os ++ objects rest

abbrev pub object_name : Object → Name
object_name (Single x initial) = x
object_name (Array x n values) = x
object_name (Bytes x n values) = x

-- the first object that exceeds the limit on words, if `taken` words come before these objects
abbrev pub word_excesses : ℕ → List Object → List RuleError
word_excesses taken [] = []
word_excesses taken (o ∷ rest) = if nat_lt most_words (taken + object_words o) then too_many (object_name o) ∷ [] else word_excesses (taken + object_words o) rest

-- ---- a unit

abbrev pub external_excesses : External → List RuleError
external_excesses (Declaration s) = parameter_excesses s
external_excesses (Definition s body) = parameter_excesses s ++ past most_locals (locals body)
external_excesses (Objects t os) = []

abbrev pub externals_excesses : List External → List RuleError
externals_excesses [] = []
externals_excesses (e ∷ rest) = external_excesses e ++ externals_excesses rest

-- every limit that a unit exceeds
abbrev pub excesses : List External → List RuleError
excesses externals = externals_excesses externals ++ (past most_functions (function_names externals) ++ word_excesses 0 (objects externals))
