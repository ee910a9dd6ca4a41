-- What the limits of a typed unit say: it has few parameters, locals, functions and objects.
use Rattle.std.proofs.Common.{◌≡◌, ℕ, zero, suc, ◌+◌, ◌/◌, ◌<◌, ◌≤◌, Bool, true, false, if◌then◌else◌, nat_lt, List, [], ◌∷◌, ◌++◌, length, map, take, drop, Option, Some, None, is_some, not, option_map, unwrap_or, slice_get, refl, sym, ap, ◌∙◌, arith}
use Rattle.std.proofs.lemmas.Bool.{ltb-false}
use Rattle.cc_tokens.specs.declared.scalar.Scalar.{Scalar}
use Rattle.cc_tokens.specs.declared.scalar.Scalar.TheVariants.{Int}
use Rattle.cc_ast.specs.Tree.{Name, Stmts, Signature, ConstantExpr, Object, Single, Array, Bytes, External, Declaration, Definition, Objects}
use Rattle.cc_types.specs.Scope.{Elements, FileScope, with_declared, with_object, file_scope_behind, first_file_scope}
use Rattle.cc_types.specs.Types.{array_length, array_elements, object_elements, object_words, constant_word, elements_of_word, value_type}
use Rattle.cc_types.specs.Rules.{broken, broken_if, value_errors, constant_errors, optional_constant_errors, constants_errors, length_errors, named_array_errors, object_errors, objects_errors, external_errors, externals_errors, errors}
use Rattle.cc_types.specs.Limits.{most_words, too_many, past, parameter_excesses, locals, function_names, objects, object_name, word_excesses, external_excesses, externals_excesses, excesses}
use Rattle.cc_types.specs.Typed.{IsTyped, IsWithinLimits, definitions}
use Rattle.cc_types.specs.declared.rule.RuleError.{RuleError}
use Rattle.cc_types.specs.declared.rule.Rule.TheVariants.{WrongKind, WrongCount}
use Rattle.cc_layout.specs.Layout.{laid_from}

-- ---- empty lists

left_empty : {A : Type 0} (xs ys : List A) → xs ++ ys ≡ [] → xs ≡ []
left_empty [] ys e = refl
left_empty (x ∷ xs) ys e = absurd (let l = ap length e in let f : suc (length (xs ++ ys)) ≡ 0 = l in omega arith)

right_empty : {A : Type 0} (xs ys : List A) → xs ++ ys ≡ [] → ys ≡ []
right_empty [] ys e = e
right_empty (x ∷ xs) ys e = absurd (let l = ap length e in let f : suc (length (xs ++ ys)) ≡ 0 = l in omega arith)

none_past : (n : ℕ) (names : List Name) → past n names ≡ [] → length names ≤ n
none_past zero [] e = omega arith
none_past zero (x ∷ names) e = absurd (let l = ap length e in let f : 1 ≡ 0 = l in omega arith)
none_past (suc n) [] e = omega arith
none_past (suc n) (x ∷ names) e = let h = none_past n names e in omega arith

-- ---- one definition

few_parameters : (s : Signature) → parameter_excesses s ≡ [] → length s.parameters ≤ 8
few_parameters s e = by (nat_lt 8 (length s.parameters)) refl e
  where
    by : (b : Bool) → nat_lt 8 (length s.parameters) ≡ b → (if b then too_many s.name ∷ [] else []) ≡ [] → length s.parameters ≤ 8
    by true is e = absurd (let l = ap length e in let f : 1 ≡ 0 = l in omega arith)
    by false is e = ltb-false 8 (length s.parameters) is

kept_within : (unit : List External) (f : ℕ) (s : Signature) (body : Stmts) → externals_excesses unit ≡ [] → slice_get (definitions unit) f ≡ Some (Definition s body) → external_excesses (Definition s body) ≡ []
kept_within [] f s body h e = absurd (let d : ◌≡◌ {A = Option External} None (Some (Definition s body)) = e in cc)
kept_within (Declaration g ∷ rest) f s body h e = kept_within rest f s body (right_empty (external_excesses (Declaration g)) (externals_excesses rest) h) e
kept_within (Objects t os ∷ rest) f s body h e = kept_within rest f s body (right_empty (external_excesses (Objects t os)) (externals_excesses rest) h) e
kept_within (Definition g b ∷ rest) zero s body h e =
    let is : ◌≡◌ {A = External} (Definition g b) (Definition s body) = let d : ◌≡◌ {A = Option External} (Some (Definition g b)) (Some (Definition s body)) = e in cc in
    sym (ap external_excesses is) ∙ left_empty (external_excesses (Definition g b)) (externals_excesses rest) h
kept_within (Definition g b ∷ rest) (suc f) s body h e = kept_within rest f s body (right_empty (external_excesses (Definition g b)) (externals_excesses rest) h) e

-- a defined function has at most 8 parameters and 256 locals
pub few_names : (unit : List External) → IsWithinLimits unit → (f : ℕ) (s : Signature) (body : Stmts) → slice_get (definitions unit) f ≡ Some (Definition s body) → (length s.parameters ≤ 8) × (length (locals body) ≤ 256)
few_names unit h f s body e =
    let one = kept_within unit f s body (left_empty (externals_excesses unit) (past 64 (function_names unit) ++ word_excesses 0 (objects unit)) h) e in
    (few_parameters s (left_empty (parameter_excesses s) (past 256 (locals body)) one), none_past 256 (locals body) (right_empty (parameter_excesses s) (past 256 (locals body)) one))

pub few_functions : (unit : List External) → IsWithinLimits unit → length (function_names unit) ≤ 64
few_functions unit h =
    none_past 64 (function_names unit)
    (left_empty (past 64 (function_names unit)) (word_excesses 0 (objects unit)) (right_empty (externals_excesses unit) (past 64 (function_names unit) ++ word_excesses 0 (objects unit)) h))

-- ---- objects

-- each object has at least one word
abbrev HaveWords : List Object → Type 0
HaveWords [] = Unit {0}
HaveWords (o ∷ rest) = (1 ≤ object_words o) × HaveWords rest

words_append : (os ps : List Object) → HaveWords os → HaveWords ps → HaveWords (os ++ ps)
words_append [] ps h i = i
words_append (o ∷ os) ps h i = (h.0, words_append os ps h.1 i)

some_length : (n : Option ℕ) (given at : ℕ) → is_some n ≡ true → length_errors n given at ≡ [] → 1 ≤ unwrap_or n 0
some_length None given at i e = absurd (let d : ◌≡◌ {A = Bool} false true = i in cc)
some_length (Some zero) given at i e = absurd (let l = ap length e in let f : 1 ≡ 0 = l in omega arith)
some_length (Some (suc n)) given at i e = omega arith

known_length : (o : Option ℕ) (f : ℕ → ℕ) → is_some o ≡ true → is_some (option_map f o) ≡ true
known_length None f e = e
known_length (Some w) f e = refl

constant_known : (o : Option ℕ) (os : List RuleError) (at : ℕ) → os ++ broken_if (not (is_some o)) WrongKind at ≡ [] → is_some o ≡ true
constant_known None os at e = absurd (let l = ap length (right_empty os (broken WrongKind at) e) in let f : 1 ≡ 0 = l in omega arith)
constant_known (Some w) os at e = refl

length_known : (f : FileScope) (n : Option ConstantExpr) (values : List ConstantExpr) → optional_constant_errors f.bindings n ≡ [] → is_some (array_length n values) ≡ true
length_known f None values e = refl
length_known f (Some c) values e = known_length (constant_word c) (elements_of_word (value_type [] c.expr)) (constant_known (constant_word c) (value_errors f.bindings c.expr) c.at e)

array_has_elements : (t : Scalar) (x : Name) (n : Option ConstantExpr) (values : List ConstantExpr) (f : FileScope) → named_array_errors t x n values f ≡ [] → 1 ≤ array_elements n values
array_has_elements t x n values f e =
    let list = constants_errors (with_declared x.text (Elements t) f).bindings values in
    let behind = length_errors (array_length n values) (length values) x.at ++ list in
    let parts = right_empty _ (optional_constant_errors f.bindings n ++ behind) e in
    some_length (array_length n values) (length values) x.at (length_known f n values (left_empty (optional_constant_errors f.bindings n) behind parts))
    (left_empty (length_errors (array_length n values) (length values) x.at) list (right_empty (optional_constant_errors f.bindings n) behind parts))

object_has_words : (t : Scalar) (o : Object) (f : FileScope) → object_errors t o f ≡ [] → 1 ≤ object_words o
object_has_words t (Single x initial) f e = omega arith
object_has_words t (Array x n values) f e = array_has_elements t x n values f e
object_has_words t (Bytes x n values) f e = filled (array_elements n values) (array_has_elements Int x n values f e)
  where
    filled : (n : ℕ) → 1 ≤ n → 1 ≤ (n + 3) / 4
    filled n h = omega arith

objects_have_words : (t : Scalar) (os : List Object) (f : FileScope) → objects_errors t os f ≡ [] → HaveWords os
objects_have_words t [] f e = tt
objects_have_words t (o ∷ rest) f e = (
  object_has_words t o f (left_empty (object_errors t o f) (objects_errors t rest (with_object t o f)) e),
  objects_have_words t rest (with_object t o f) (right_empty (object_errors t o f) (objects_errors t rest (with_object t o f)) e),
)

unit_has_words : (unit : List External) (f : FileScope) → externals_errors unit f ≡ [] → HaveWords (objects unit)
unit_has_words [] f e = tt
unit_has_words (Declaration s ∷ rest) f e = unit_has_words rest (file_scope_behind (Declaration s) f) (right_empty (external_errors (Declaration s) f) (externals_errors rest (file_scope_behind (Declaration s) f)) e)
unit_has_words (Definition s b ∷ rest) f e = unit_has_words rest (file_scope_behind (Definition s b) f) (right_empty (external_errors (Definition s b) f) (externals_errors rest (file_scope_behind (Definition s b) f)) e)
unit_has_words (Objects t os ∷ rest) f e =
    words_append os (objects rest) (objects_have_words t os f (left_empty (objects_errors t os f) (externals_errors rest (file_scope_behind (Objects t os) f)) e))
    (unit_has_words rest (file_scope_behind (Objects t os) f) (right_empty (objects_errors t os f) (externals_errors rest (file_scope_behind (Objects t os) f)) e))

words_fit : (os : List Object) (taken : ℕ) → HaveWords os → taken ≤ 65536 → word_excesses taken os ≡ [] → taken + length os ≤ 65536
words_fit [] taken h le e = omega arith
words_fit (o ∷ rest) taken h le e = by (nat_lt most_words (taken + object_words o)) (λ low f. words_fit rest (taken + object_words o) h.1 low f) refl e
  where
    by : (b : Bool) → ((taken + object_words o ≤ 65536) → word_excesses (taken + object_words o) rest ≡ [] → taken + object_words o + length rest ≤ 65536)
        → nat_lt most_words (taken + object_words o) ≡ b → (if b then too_many (object_name o) ∷ [] else word_excesses (taken + object_words o) rest) ≡ [] → taken + length (o ∷ rest) ≤ 65536
    by true again is e = absurd (let l = ap length e in let f : 1 ≡ 0 = l in omega arith)
    by false again is e = let one = h.0 in let r = again (ltb-false 65536 (taken + object_words o) is) e in omega arith

laid_many : (at : ℕ) (os : List Object) → length (laid_from at os) ≡ length os
laid_many at [] = refl
laid_many at (o ∷ rest) = ap suc (laid_many (at + object_elements o) rest)

pub few_objects : (unit : List External) → IsTyped unit → IsWithinLimits unit → length (laid_from 0 (objects unit)) ≤ 65536
few_objects unit typed h =
    let fit = words_fit (objects unit) 0 (unit_has_words unit first_file_scope typed.0) (omega arith)
    (right_empty (past 64 (function_names unit)) (word_excesses 0 (objects unit)) (right_empty (externals_excesses unit) (past 64 (function_names unit) ++ word_excesses 0 (objects unit)) h)) in
    let many = laid_many 0 (objects unit) in omega arith
