-- What names denote, and which names are in scope (C99 6.2.1).
use Rattle.std.specs.Prelude.{ℕ, Bool, true, false, ◌&&◌, ◌||◌, List, [], ◌∷◌, ◌++◌, map, Option, Some, None, if◌then◌else◌, is_some, codes}
use Rattle.cc_ast.specs.scalar.Scalar.{Scalar}
use Rattle.cc_ast.specs.scalar.Scalar.TheVariants.{Int, Unsigned}
use Rattle.cc_ast.specs.Tree.{Name, Declarator, Beginning, Declares, Performs, Stmt, Local, Parameter, Signature, Object, Single, Array, Bytes, External, Declaration, Definition, Objects}
use Rattle.cc_types.specs.Names.{same_name}

-- what a name denotes: an object with one value (a variable, a parameter, a local); an array, with the type of its elements; or a
-- function, with the types of its result (None for void) and of its parameters
pub data Entity : Type 0 where
  Variable : Scalar → Entity
  Elements : Scalar → Entity
  Function : Option Scalar → List Scalar → Entity

-- a declared name
pub record Binding : Type 0 where
  pub name : List ℕ
  pub entity : Entity

-- what a name denotes by its newest declaration, if there is one
abbrev pub found : List Binding → List ℕ → Option Entity
found [] x = None
found (b ∷ behind) x = if same_name b.name x then Some b.entity else found behind x

-- a name is declared
abbrev pub is_declared : List Binding → List ℕ → Bool
is_declared bs x = is_some (found bs x)

-- what is in scope, newest first: what the innermost scope has declared so far, and what surrounds it
pub record Visible : Type 0 where
  pub inner : List Binding
  pub outer : List Binding

-- all names in scope; inner declarations hide outer ones
abbrev pub in_scope : Visible → List Binding
in_scope v = v.inner ++ v.outer

-- the scope when an inner one is opened
abbrev pub opened : Visible → Visible
opened v = record { inner = []; outer = in_scope v }

-- the scope after a declarator
abbrev pub declared : List ℕ → Entity → Visible → Visible
declared x entity v = record v { inner = record { name = x; entity = entity } ∷ v.inner }

-- the scope after the declaration of some locals
abbrev pub all_declared : Scalar → List Declarator → Visible → Visible
all_declared t [] v = v
all_declared t (d ∷ rest) v = all_declared t rest (declared d.name.text (Variable t) v)

-- the scope after a statement: a declaration adds its names; any other statement leaves the scope as it is
abbrev pub scope_behind : Stmt → Visible → Visible
scope_behind (Local t ds) v = all_declared t ds v
scope_behind s v = v

-- the scope after the first part of a `for` header
abbrev pub scope_behind_beginning : Beginning → Visible → Visible
scope_behind_beginning (Declares t ds) v = all_declared t ds v
scope_behind_beginning (Performs a) v = v

-- the scope after a parameter, which may have no name
abbrev pub parameter_declared : Scalar → Option Name → Visible → Visible
parameter_declared t None v = v
parameter_declared t (Some x) v = declared x.text (Variable t) v

-- the scope after some parameters
abbrev pub parameters_declared : List Parameter → Visible → Visible
parameters_declared [] v = v
parameters_declared (p ∷ rest) v = parameters_declared rest (parameter_declared p.scalar p.name v)

-- ---- file scope

-- what file scope has declared so far, and the names of the defined functions; the builtins are among both
pub record FileScope : Type 0 where
  pub bindings : List Binding
  pub defined : List (List ℕ)

-- a name is among these names
abbrev pub has_name : List (List ℕ) → List ℕ → Bool
has_name [] x = false
has_name (y ∷ rest) x = same_name y x || has_name rest x

-- file scope at the start of a text: void write_word(int) and int read_word(void)
abbrev pub first_file_scope : FileScope
first_file_scope = record {
  bindings = record { name = codes "write_word"; entity = Function None (Int ∷ []) } ∷ record { name = codes "read_word"; entity = Function (Some Int) [] } ∷ [];
  defined = codes "write_word" ∷ codes "read_word" ∷ [];
}

-- file scope after a declaration of a name
abbrev pub with_declared : List ℕ → Entity → FileScope → FileScope
with_declared x entity f = record f { bindings = if is_declared f.bindings x then f.bindings else record { name = x; entity = entity } ∷ f.bindings }

-- what a function's head declares its name to denote
abbrev pub function_entity : Signature → Entity
function_entity s = Function s.result (map (λ (p : Parameter). p.scalar) s.parameters)

abbrev pub with_function : Signature → FileScope → FileScope
with_function s f = with_declared s.name.text (function_entity s) f

-- file scope after one name in a declaration of objects
abbrev pub with_object : Scalar → Object → FileScope → FileScope
with_object t (Single x initial) f = with_declared x.text (Variable t) f
with_object t (Array x n values) f = with_declared x.text (Elements t) f
-- an element of `unsigned char` that is read is an `int` (6.3.1.1)
with_object t (Bytes x n values) f = with_declared x.text (Elements Int) f

abbrev pub with_objects : Scalar → List Object → FileScope → FileScope
with_objects t [] f = f
with_objects t (o ∷ rest) f = with_objects t rest (with_object t o f)

-- file scope after an external declaration
abbrev pub file_scope_behind : External → FileScope → FileScope
file_scope_behind (Declaration s) f = with_function s f
file_scope_behind (Definition s body) f = record (with_function s f) { defined = s.name.text ∷ f.defined }
file_scope_behind (Objects t os) f = with_objects t os f

-- file scope after some external declarations
abbrev pub file_scope_behind_all : List External → FileScope → FileScope
file_scope_behind_all [] f = f
file_scope_behind_all (e ∷ rest) f = file_scope_behind_all rest (file_scope_behind e f)

-- the scope of a body before its first statement, given file scope: the parameters and the body's outermost block are one scope
abbrev pub body_scope : Signature → FileScope → Visible
body_scope s f = parameters_declared s.parameters (record { inner = []; outer = (with_function s f).bindings })

-- ---- equal types

abbrev pub same_scalar : Scalar → Scalar → Bool
same_scalar Int Int = true
same_scalar Unsigned Unsigned = true
same_scalar t u = false

abbrev pub same_scalars : List Scalar → List Scalar → Bool
same_scalars [] [] = true
same_scalars (t ∷ ts) (u ∷ us) = same_scalar t u && same_scalars ts us
same_scalars ts us = false

abbrev pub same_result : Option Scalar → Option Scalar → Bool
same_result None None = true
same_result (Some t) (Some u) = same_scalar t u
same_result r q = false

-- both are functions, and they have the same types
abbrev pub same_entity : Entity → Entity → Bool
same_entity (Function r ts) (Function q us) = same_result r q && same_scalars ts us
same_entity e f = false
