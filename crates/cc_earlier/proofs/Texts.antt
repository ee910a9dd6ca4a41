-- Earlier texts have the trees, the rules, the limits and the meaning that they had.
use Rattle.std.proofs.Common.{◌≡◌, ℕ, ◌+◌, Bool, true, false, List, [], ◌∷◌, ◌++◌, map, nat_lt, if◌then◌else◌, Option, Some, None, unwrap_or, slice_set, refl, sym, ap, ◌∙◌, subst, inl, inr}
use Rattle.std.specs.List.{AllByRecursion}
use Rattle.cc_words.specs.Widths.{kept}
use Rattle.cc_words.specs.declared.operators.Width.{Width}
use Rattle.cc_words.specs.declared.operators.Width.TheVariants.{Word}
use Rattle.cc_tokens.specs.declared.scalar.Scalar.{Scalar}
use Rattle.cc_tokens.specs.Token.{Lexeme}
use Rattle.cc_tokens.specs.Tokens.{TokensAreOne}
use Rattle.cc_ast.specs.Tree.{Object, Single, Array, Bytes, External, Declaration, Definition, Objects}
use Rattle.cc_ast.specs.Grammar.{Measured, outside, SpellsRow, SpellsObject, SpellsExternal, SpellsExternals, SpellsUnit, plain_tokens, Spells}
use Rattle.cc_ast.specs.Limits.{TreesAreOne}
use Rattle.cc_types.specs.Names.{same_name}
use Rattle.cc_types.specs.Scope.{FileScope, first_file_scope, with_object, file_scope_behind}
use Rattle.cc_types.specs.Types.{array_length, object_width, object_words, initial_words}
use Rattle.cc_types.specs.Rules.{object_errors, objects_errors, external_errors, externals_errors}
use Rattle.cc_types.specs.Limits.{most_words, most_functions, too_many, past, function_names, objects, object_name, word_excesses, externals_excesses}
use Rattle.cc_types.specs.declared.rule.RuleError.{RuleError}
use Rattle.cc_c_semantics.specs.Meaning.{Global, global_words, with_element, initial_global}
use Rattle.cc_c_semantics.specs.Function.{Shared, Effect, Answer, Answers, Unfinished, Failed, call_function, body_of_function}
use Rattle.cc_c_semantics.specs.Calls.{NamedSize, sizes, KeepsObjects}
use Rattle.cc_c_semantics.proofs.Kept.{calls_keep_objects, bodies_keep_objects}
use Rattle.cc_earlier.specs.Texts.{HasNoChar, IsNoByteArray, IsPlain, ArePlain, EarlierObject, EarlierExternal, EarlierExternals, EarlierUnit, EarlierTreesStay, NoTreeIsNew, earlier_object_errors, earlier_objects_errors, earlier_external_errors, earlier_externals_errors, earlier_object_words, earlier_word_excesses, EarlierRulesStay, EarlierGlobal, earlier_words_of, earlier_with_element, earlier_initial_words, earlier_global, AreOfWords, StayOfWords, EarlierMeaningStays}

-- ---- the grammar

now_spelled : (o : Object) (ts : List Measured) → EarlierObject ts o → SpellsObject ts o
now_spelled (Single n None) ts h = h
now_spelled (Single n (Some c)) ts h = h
now_spelled (Array n size values) ts h = h
now_spelled (Bytes n size values) ts h = h

before_spelled : (o : Object) (ts : List Measured) → SpellsObject ts o → EarlierObject ts o
before_spelled (Single n None) ts h = h
before_spelled (Single n (Some c)) ts h = h
before_spelled (Array n size values) ts h = h
before_spelled (Bytes n size values) ts h = h

plain_object : (o : Object) (ts : List Measured) → EarlierObject ts o → IsNoByteArray o
plain_object (Single n e) ts h = tt
plain_object (Array n size values) ts h = tt
plain_object (Bytes n size values) ts h = h

row_by : (P Q : List Measured → Object → Type 0) → ((o : Object) (ts : List Measured) → P ts o → Q ts o) → (os : List Object) (ts : List Measured) → SpellsRow P ts os → SpellsRow Q ts os
row_by P Q f [] ts h = h
row_by P Q f (o ∷ []) ts h = f o ts h
row_by P Q f (o ∷ p ∷ rest) ts h = (h.0, h.1, h.2, h.3, f o h.1 h.4, row_by P Q f (p ∷ rest) h.2 h.5, h.6)

plain_row : (os : List Object) (ts : List Measured) → SpellsRow EarlierObject ts os → AllByRecursion IsNoByteArray os
plain_row [] ts h = tt
plain_row (o ∷ []) ts h = (plain_object o ts h, tt)
plain_row (o ∷ p ∷ rest) ts h = (plain_object o h.1 h.4, plain_row (p ∷ rest) h.2 h.5)

now_external : (e : External) (ts : List Measured) → EarlierExternal ts e → SpellsExternal ts e
now_external (Declaration f) ts h = h
now_external (Definition f body) ts h = h
now_external (Objects t os) ts h = inl (h.0, h.1, h.2, h.3, row_by EarlierObject SpellsObject now_spelled os h.1 h.4, h.5, h.6)

plain_external : (e : External) (ts : List Measured) → EarlierExternal ts e → IsPlain e
plain_external (Declaration f) ts h = tt
plain_external (Definition f body) ts h = tt
plain_external (Objects t os) ts h = plain_row os h.1 h.4

now_externals : (es : List External) (ts : List Measured) → EarlierExternals ts es → SpellsExternals ts es
now_externals [] ts h = h
now_externals (e ∷ es) ts h = (h.0, h.1, now_external e h.0 h.2, now_externals es h.1 h.3, h.4)

plain_externals : (es : List External) (ts : List Measured) → EarlierExternals ts es → ArePlain es
plain_externals [] ts h = tt
plain_externals (e ∷ es) ts h = (plain_external e h.0 h.2, plain_externals es h.1 h.3)

now_unit : (tree : List External) (ts : List Measured) → EarlierUnit ts tree → SpellsUnit ts tree
now_unit [] ts h = h
now_unit (e ∷ es) ts h = now_externals (e ∷ es) ts h

plain_unit : (tree : List External) (ts : List Measured) → EarlierUnit ts tree → ArePlain tree
plain_unit [] ts h = tt
plain_unit (e ∷ es) ts h = plain_externals (e ∷ es) ts h

pub earlier_trees_stay : TokensAreOne → TreesAreOne → EarlierTreesStay
earlier_trees_stay tokens trees text tree h =
    let s = h.spelled in
    let now : SpellsUnit s.0 tree = now_unit tree s.0 s.1 in (
      record { tokens = h.tokens; are = h.are; spelled = (s.0, now, s.2, s.3) },
      λ other o.
          let q = o.spelled in
          trees h.tokens other tree (subst (λ (z : List Lexeme). Spells z other) (tokens text o.tokens h.tokens o.are h.are) (q.0, q.1, q.3)) (s.0, now, s.3),
      plain_unit tree s.0 s.1,
    )

-- if two lists of tokens together have no token `char`, neither has one
no_char_apart : (xs ys : List Measured) → HasNoChar (plain_tokens (xs ++ ys)) → HasNoChar (plain_tokens xs) × HasNoChar (plain_tokens ys)
no_char_apart [] ys h = (tt, h)
no_char_apart (x ∷ xs) ys h = let q = no_char_apart xs ys h.1 in ((h.0, q.0), q.1)

before_external : (e : External) (ts : List Measured) → HasNoChar (plain_tokens ts) → SpellsExternal ts e → EarlierExternal ts e
before_external (Declaration f) ts none h = h
before_external (Definition f body) ts none h = h
before_external (Objects t os) ts none (inl h) = (h.0, h.1, h.2, h.3, row_by SpellsObject EarlierObject before_spelled os h.1 h.4, h.5, h.6)
before_external (Objects t os) ts none (inr (e, h)) =
    let w = h.3 in
    let rest = h.1 ++ outside h.2 ∷ [] in
    let tokens : ts ≡ map outside (w.0 ∷ w.1 ∷ []) ++ rest = h.6 ∙ ap (λ (z : List Lexeme). map outside z ++ rest) w.4 in
    absurd ((subst (λ (z : List Measured). HasNoChar (plain_tokens z)) tokens none).1.0 w.3)

before_externals : (es : List External) (ts : List Measured) → HasNoChar (plain_tokens ts) → SpellsExternals ts es → EarlierExternals ts es
before_externals [] ts none h = h
before_externals (e ∷ es) ts none h =
    let both = no_char_apart h.0 h.1 (subst (λ (z : List Measured). HasNoChar (plain_tokens z)) h.4 none) in
    (h.0, h.1, before_external e h.0 both.0 h.2, before_externals es h.1 both.1 h.3, h.4)

before_unit : (tree : List External) (ts : List Measured) → HasNoChar (plain_tokens ts) → SpellsUnit ts tree → EarlierUnit ts tree
before_unit [] ts none h = h
before_unit (e ∷ es) ts none h = before_externals (e ∷ es) ts none h

pub no_tree_is_new : NoTreeIsNew
no_tree_is_new text tree now none =
    let s = now.spelled in
    record { tokens = now.tokens; are = now.are; spelled = (s.0, before_unit tree s.0 (subst HasNoChar (sym s.3) none) s.1, s.2, s.3) }

-- ---- the rules

same_object : (t : Scalar) (o : Object) (f : FileScope) → IsNoByteArray o → object_errors t o f ≡ earlier_object_errors t o f
same_object t (Single x initial) f h = refl
same_object t (Array x n values) f h = refl
same_object t (Bytes x n values) f h = absurd h

same_objects : (t : Scalar) (os : List Object) (f : FileScope) → AllByRecursion IsNoByteArray os → objects_errors t os f ≡ earlier_objects_errors t os f
same_objects t [] f h = refl
same_objects t (o ∷ rest) f h =
    ap (λ (l : List RuleError). l ++ objects_errors t rest (with_object t o f)) (same_object t o f h.0)
    ∙ ap (λ (l : List RuleError). earlier_object_errors t o f ++ l) (same_objects t rest (with_object t o f) h.1)

same_external : (e : External) (f : FileScope) → IsPlain e → external_errors e f ≡ earlier_external_errors e f
same_external (Declaration s) f h = refl
same_external (Definition s body) f h = refl
same_external (Objects t os) f h = same_objects t os f h

same_externals : (es : List External) (f : FileScope) → ArePlain es → externals_errors es f ≡ earlier_externals_errors es f
same_externals [] f h = refl
same_externals (e ∷ rest) f h =
    ap (λ (l : List RuleError). l ++ externals_errors rest (file_scope_behind e f)) (same_external e f h.0)
    ∙ ap (λ (l : List RuleError). earlier_external_errors e f ++ l) (same_externals rest (file_scope_behind e f) h.1)

-- ---- the limit on words

same_words : (o : Object) → IsNoByteArray o → object_words o ≡ earlier_object_words o
same_words (Single x initial) h = refl
same_words (Array x n values) h = by (array_length n values)
  where
    by : (o : Option ℕ) → unwrap_or o 0 ≡ elim o [ None ↦ 0 | Some k ↦ k ]
    by None = refl
    by (Some k) = refl
same_words (Bytes x n values) h = absurd h

same_excesses : (taken : ℕ) (os : List Object) → AllByRecursion IsNoByteArray os → word_excesses taken os ≡ earlier_word_excesses taken os
same_excesses taken [] h = refl
same_excesses taken (o ∷ rest) h =
    ap (λ k. if nat_lt most_words (taken + k) then too_many (object_name o) ∷ [] else word_excesses (taken + k) rest) (same_words o h.0)
    ∙ ap (λ (l : List RuleError). if nat_lt most_words (taken + earlier_object_words o) then too_many (object_name o) ∷ [] else l) (same_excesses (taken + earlier_object_words o) rest h.1)

all_apart : (os more : List Object) → AllByRecursion IsNoByteArray os → AllByRecursion IsNoByteArray more → AllByRecursion IsNoByteArray (os ++ more)
all_apart [] more h g = g
all_apart (o ∷ rest) more h g = (h.0, all_apart rest more h.1 g)

plain_objects : (tree : List External) → ArePlain tree → AllByRecursion IsNoByteArray (objects tree)
plain_objects [] h = tt
plain_objects (Declaration s ∷ rest) h = plain_objects rest h.1
plain_objects (Definition s body ∷ rest) h = plain_objects rest h.1
plain_objects (Objects t os ∷ rest) h = all_apart os (objects rest) h.0 (plain_objects rest h.1)

pub earlier_rules_stay : EarlierRulesStay
earlier_rules_stay tree h = (
  same_externals tree first_file_scope h,
  ap (λ (l : List RuleError). externals_excesses tree ++ (past most_functions (function_names tree) ++ l)) (same_excesses 0 (objects tree) (plain_objects tree h)),
)

-- ---- the meaning

same_begin : (o : Object) → IsNoByteArray o → (object_width o ≡ Word) × (initial_words o ≡ earlier_initial_words o)
same_begin (Single x e) h = (refl, refl)
same_begin (Array x n values) h = (refl, refl)
same_begin (Bytes x n values) h = absurd h

begin_of_words : (os : List Object) → AllByRecursion IsNoByteArray os → AreOfWords (map initial_global os)
begin_of_words [] h = tt
begin_of_words (o ∷ rest) h = ((same_begin o h.0).0, begin_of_words rest h.1)

begin_same : (os : List Object) → AllByRecursion IsNoByteArray os
    → map earlier_global (map initial_global os) ≡ map (λ (o : Object). record { name = (object_name o).text; words = earlier_initial_words o }) os
begin_same [] h = refl
begin_same (o ∷ rest) h =
    ap (λ ws. record { name = (object_name o).text; words = ws } ∷ map earlier_global (map initial_global rest)) (same_begin o h.0).1
    ∙ ap (λ (l : List EarlierGlobal). record { name = (object_name o).text; words = earlier_initial_words o } ∷ l) (begin_same rest h.1)

read_same : (gs : List Global) (x : List ℕ) → global_words gs x ≡ earlier_words_of (map earlier_global gs) x
read_same [] x = refl
read_same (g ∷ rest) x = ap (λ (ws : List ℕ). if same_name g.name x then g.words else ws) (read_same rest x)

-- objects whose elements are words still have words as elements after a write, whether or not the first
-- object is the one written
written_words : (x : List ℕ) (i w : ℕ) (g : Global) (rest : List Global) (b : Bool) → AreOfWords (g ∷ rest) → AreOfWords (with_element x i w rest)
    → AreOfWords (if b then record g { words = slice_set g.words i (kept g.width w) } ∷ rest else g ∷ with_element x i w rest)
written_words x i w g rest true h ih = (h.0, h.1)
written_words x i w g rest false h ih = (h.0, ih)

written_same : (x : List ℕ) (i w : ℕ) (g : Global) (rest : List Global) (b : Bool) → g.width ≡ Word
    → map earlier_global (with_element x i w rest) ≡ earlier_with_element x i w (map earlier_global rest)
    → map earlier_global (if b then record g { words = slice_set g.words i (kept g.width w) } ∷ rest else g ∷ with_element x i w rest)
    ≡ (if b then record { name = g.name; words = slice_set g.words i w } ∷ map earlier_global rest else earlier_global g ∷ earlier_with_element x i w (map earlier_global rest))
written_same x i w g rest true e ih = ap (λ (u : Width). record { name = g.name; words = slice_set g.words i (kept u w) } ∷ map earlier_global rest) e
written_same x i w g rest false e ih = ap (λ (l : List EarlierGlobal). earlier_global g ∷ l) ih

write_of_words : (x : List ℕ) (i w : ℕ) (gs : List Global) → AreOfWords gs → AreOfWords (with_element x i w gs)
write_of_words x i w [] h = tt
write_of_words x i w (g ∷ rest) h = written_words x i w g rest (same_name g.name x) h (write_of_words x i w rest h.1)

write_same : (x : List ℕ) (i w : ℕ) (gs : List Global) → AreOfWords gs → map earlier_global (with_element x i w gs) ≡ earlier_with_element x i w (map earlier_global gs)
write_same x i w [] h = refl
write_same x i w (g ∷ rest) h = written_same x i w g rest (same_name g.name x) h.0 (write_same x i w rest h.1)

-- these parts of a list of sizes show that objects of the same sizes as objects of words are of words too
abbrev first_width : List NamedSize → Width
first_width [] = Word
first_width (z ∷ zs) = z.width

abbrev other_sizes : List NamedSize → List NamedSize
other_sizes [] = []
other_sizes (z ∷ zs) = zs

abbrev is_empty : List NamedSize → Bool
is_empty [] = true
is_empty (z ∷ zs) = false

words_by_size : (gs hs : List Global) → sizes gs ≡ sizes hs → AreOfWords hs → AreOfWords gs
words_by_size [] hs e h = tt
words_by_size (g ∷ gs) [] e h = absurd (let z : false ≡ true = ap is_empty e in cc)
words_by_size (g ∷ gs) (k ∷ hs) e h = (ap first_width e ∙ h.0, words_by_size gs hs (ap other_sizes e) h.1)

stay_by : (h : Shared) (e : Effect Answer) → KeepsObjects h e → AreOfWords h.globals → StayOfWords e
stay_by h (Answers a left) same words = words_by_size a.shared.globals h.globals same words
stay_by h (Unfinished output) same words = tt
stay_by h (Failed cause output) same words = tt

pub earlier_meaning_stays : EarlierMeaningStays
earlier_meaning_stays = record {
  begins = λ tree h. let os = plain_objects tree h in (begin_of_words (objects tree) os, begin_same (objects tree) os);
  reads = read_same;
  writes = λ x i w gs h. (write_of_words x i w gs h, write_same x i w gs h);
  calls = λ unit n opened f ws h words. stay_by h (call_function unit n opened f ws h) (calls_keep_objects unit n opened f ws h) words;
  bodies = λ unit n opened f ws h words. stay_by h (body_of_function unit n opened f ws h) (bodies_keep_objects unit n opened f ws h) words;
}
