-- Variables and objects by number, and expressions that become one expression of Cminor.
use Rattle.std.proofs.Common.{◌≡◌, ℕ, suc, ◌<◌, ◌≤◌, ◌==◌, ◌&&◌, ◌||◌, not, Bool, true, false, if◌then◌else◌, List, [], ◌∷◌, length, map, Option, Some, None, option_map, unwrap_or, get_or, set, slice_get, slice_set, int_lt, int_le, nat_lt, nat_le, refl, sym, ap, ◌∙◌, subst, arith}
use Rattle.std.proofs.lemmas.Bool.{eq-eqb, ne_eqb, lt-ltb}
use Rattle.std.proofs.lemmas.Option.{slice_get-get_or}
use Rattle.std.proofs.lemmas.Cmp.{nat_list_eq_equiv}
use Rattle.cc_tokens.specs.declared.scalar.Scalar.{Scalar}
use Rattle.cc_tokens.specs.declared.scalar.Scalar.TheVariants.{Int, Unsigned}
use Rattle.cc_ast.specs.declared.ast.BinaryOperator.{BinaryOperator}
use Rattle.cc_ast.specs.declared.ast.BinaryOperator.TheVariants as source
use Rattle.cc_ast.specs.declared.ast.UnaryOperator.{UnaryOperator}
use Rattle.cc_ast.specs.declared.ast.UnaryOperator.TheVariants as prefix
use Rattle.cc_c_semantics.specs.declared.cause.Cause.TheVariants.{Index}
use Rattle.cc_types.specs.Names.{same_name}
use Rattle.cc_types.specs.Operators.{unary_word, binary_word, decided, is_true, working_type}
use Rattle.cc_types.specs.Types.{value_type}
use Rattle.cc_words.specs.Words.{signed_value, truth_value, is_zero}
use Rattle.cc_words.specs.Operators.{apply_unary, apply_binary}
use Rattle.cc_words.specs.declared.operators.Unary as unary
use Rattle.cc_words.specs.declared.operators.Unary.TheVariants as one
use Rattle.cc_words.specs.declared.operators.Binary as binary
use Rattle.cc_words.specs.declared.operators.Binary.TheVariants as two
use Rattle.cc_ast.specs.Tree as tree
use Rattle.cc_ast.specs.Tree.{Name, Expr, Exprs, none, more, Number, Variable, Element, Parenthesised, Cast, Conditional}
use Rattle.cc_c_semantics.specs.Meaning as meaning
use Rattle.cc_c_semantics.specs.Meaning.{Global, State, Run, Gives, then_do, given, unless_decided, read_element, Calls, evaluate, evaluate_all, local_word, with_local_word, variable_word, global_words, with_element}
use Rattle.cc_c_semantics.specs.Calls.{NamedSize, sizes, laid_sizes}
use Rattle.cc_c_semantics.specs.Numbered.{objects_of}
use Rattle.cc_simulation.specs.World.{Object, World, element, object_with, stored}
use Rattle.cc_layout.specs.Layout.{LaidObject, Layout, object_number, extent_of}
use Rattle.cc_layout.specs.Environment.{Environment, types_in, number_in}
use Rattle.cc_resolve.specs.Operations.{operation}
use Rattle.cc_words.specs.declared.operators.Width.{Width}
use Rattle.cc_words.specs.declared.operators.Width.TheVariants.{Byte, Word}
use Rattle.cc_words.specs.Widths.{same_width, kept}
use Rattle.cc_cminor_language.specs.Cminor.{Expression, Constant, Local, Unary, Binary, Load, then_value, value, values, put}
use Rattle.cc_cminor.specs.internal.Lowering.{object_of, width_of, read_of, variable_of, unary_of, binary_of, is_zero_test, is_comparison, is_truth, truth_of, Kind, Strict, Conjunction, Disjunction, kind, is_strict, is_plain, are_plain, plain, all_plain}
use Rattle.cc_cminor.proofs.Known.{IsObject, IsPlaced, IsVariable, Known, AllKnown}
use Rattle.cc_cminor.proofs.Paths.{world_at}
use Rattle.cc_cminor.proofs.Branches.{truth_holds}

pub name_is_itself : (x : List ℕ) → same_name x x ≡ true
name_is_itself x = nat_list_eq_equiv.refl x

-- ---- variables

abbrev pub names_of : List meaning.Local → List (List ℕ)
names_of ls = map (λ (l : meaning.Local). l.name) ls

pub length_names : (ls : List meaning.Local) → length (names_of ls) ≡ length ls
length_names [] = refl
length_names (z ∷ rest) = ap suc (length_names rest)

-- each local's word is in the variable with its number
abbrev pub Holds : List meaning.Local → (ℕ → ℕ) → Type 0
Holds [] l = Unit {0}
Holds (x ∷ older) l = (l (length older) ≡ x.word) × Holds older l

pub put_here : (l : ℕ → ℕ) (t w : ℕ) → put l t w t ≡ w
put_here l t w = ap (λ b. if b then w else l t) (eq-eqb t t refl)

pub put_below : (l : ℕ → ℕ) (t w i : ℕ) → i < t → put l t w i ≡ l i
put_below l t w i lt = ap (λ b. if b then w else l i) (ne_eqb t i (λ e. let f : t ≡ i = e in omega arith))

pub put_above : (l : ℕ → ℕ) (t w i : ℕ) → t < i → put l t w i ≡ l i
put_above l t w i lt = ap (λ b. if b then w else l i) (ne_eqb t i (λ e. let f : t ≡ i = e in omega arith))

pub holds_same : (ls : List meaning.Local) (l k : ℕ → ℕ) (t : ℕ) → length ls ≤ t → ((i : ℕ) → i < t → k i ≡ l i) → Holds ls l → Holds ls k
holds_same [] l k t le same h = tt
holds_same (x ∷ older) l k t le same h = (same (length older) (omega arith) ∙ h.0, holds_same older l k t (omega arith) same h.1)

reads_by : (x : meaning.Local) (older : List meaning.Local) (l : ℕ → ℕ) (y : List ℕ) (b : Bool) → l (length older) ≡ x.word
    → local_word older y ≡ option_map l (number_in (names_of older) y)
    → (if b then Some x.word else local_word older y) ≡ option_map l (if b then Some (length (names_of older)) else number_in (names_of older) y)
reads_by x older l y true e ih = ap Some (sym e ∙ ap l (sym (length_names older)))
reads_by x older l y false e ih = ih

-- a local is read by its number
pub reads : (ls : List meaning.Local) (l : ℕ → ℕ) (y : List ℕ) → Holds ls l → local_word ls y ≡ option_map l (number_in (names_of ls) y)
reads [] l y h = refl
reads (x ∷ older) l y h = reads_by x older l y (same_name x.name y) h.0 (reads older l y h.1)

number_by : (b : Bool) (m : ℕ) (o : Option ℕ) (i : ℕ) → ((i : ℕ) → o ≡ Some i → i < m) → (if b then Some m else o) ≡ Some i → i < suc m
number_by true m o i f e = let g : m ≡ i = cc in omega arith
number_by false m o i f e = let g = f i e in omega arith

pub number_below : (ns : List (List ℕ)) (y : List ℕ) (i : ℕ) → number_in ns y ≡ Some i → i < length ns
number_below [] y i e = absurd (cc)
number_below (n ∷ older) y i e = number_by (same_name n y) (length older) (number_in older y) i (λ j f. number_below older y j f) e

-- a local is written by its number
writes_by : (b : Bool) (x : meaning.Local) (older : List meaning.Local) (y : List ℕ) (w i : ℕ) (l : ℕ → ℕ)
    → (if b then Some (length (names_of older)) else number_in (names_of older) y) ≡ Some i → l (length older) ≡ x.word → Holds older l
    → (number_in (names_of older) y ≡ Some i → Holds (with_local_word y w older) (put l i w))
    → length (with_local_word y w older) ≡ length older
    → Holds (if b then record x { word = w } ∷ older else x ∷ with_local_word y w older) (put l i w)
writes_by true x older y w i l e h hs ih same =
    let g : length (names_of older) ≡ i = cc in
    let n = length_names older in
    let k : i ≡ length older = sym g ∙ n in
    (ap (put l i w) (sym k) ∙ put_here l i w, holds_same older l (put l i w) i (omega arith) (λ j lt. put_below l i w j lt) hs)
writes_by false x older y w i l e h hs ih same =
    let lt = number_below (names_of older) y i e in
    let n = length_names older in
    (ap (put l i w) same ∙ put_above l i w (length older) (omega arith) ∙ h, ih e)

length_by : (b : Bool) (x : meaning.Local) (w : ℕ) (older other : List meaning.Local) → length other ≡ length older → length (if b then record x { word = w } ∷ older else x ∷ other) ≡ suc (length older)
length_by true x w older other e = refl
length_by false x w older other e = ap suc e

written_length : (y : List ℕ) (w : ℕ) (ls : List meaning.Local) → length (with_local_word y w ls) ≡ length ls
written_length y w [] = refl
written_length y w (x ∷ older) = length_by (same_name x.name y) x w older (with_local_word y w older) (written_length y w older)

pub writes : (ls : List meaning.Local) (l : ℕ → ℕ) (y : List ℕ) (w i : ℕ) → number_in (names_of ls) y ≡ Some i → Holds ls l → Holds (with_local_word y w ls) (put l i w)
writes [] l y w i e h = tt
writes (x ∷ older) l y w i e h = writes_by (same_name x.name y) x older y w i l e h.0 h.1 (λ f. writes older l y w i f h.1) (written_length y w older)

names_by : (b : Bool) (x : meaning.Local) (w : ℕ) (older other : List meaning.Local) → names_of other ≡ names_of older → names_of (if b then record x { word = w } ∷ older else x ∷ other) ≡ names_of (x ∷ older)
names_by true x w older other e = refl
names_by false x w older other e = ap (λ (xs : List (List ℕ)). x.name ∷ xs) e

pub written_names : (y : List ℕ) (w : ℕ) (ls : List meaning.Local) → names_of (with_local_word y w ls) ≡ names_of ls
written_names y w [] = refl
written_names y w (x ∷ older) = names_by (same_name x.name y) x w older (with_local_word y w older) (written_names y w older)

-- ---- objects

abbrev first_size : List NamedSize → NamedSize
first_size [] = record { name = []; width = Word; elements = 0 }
first_size (z ∷ zs) = z

abbrev other_sizes : List NamedSize → List NamedSize
other_sizes [] = []
other_sizes (z ∷ zs) = zs

-- an object with elements of this width
abbrev object : Width → List ℕ → Object
object u ws = record { width = u; words = ws }

abbrev no_object : Object
no_object = object Word []

-- how wide the elements of a name's object are
abbrev width_by_name : List Global → List ℕ → Width
width_by_name [] x = Word
width_by_name (g ∷ gs) x = if same_name g.name x then g.width else width_by_name gs x

found_by : (b : Bool) (k u : Width) (ws vs : List ℕ) (rest : List Object) (o : Option ℕ) (n : ℕ) → (if b then Some 0 else option_map suc o) ≡ Some n → ((m : ℕ) → o ≡ Some m → get_or rest m no_object ≡ object u vs)
    → get_or (object k ws ∷ rest) n no_object ≡ object (if b then k else u) (if b then ws else vs)
found_by true k u ws vs rest o n e f = let z : 0 ≡ n = cc in ap (λ i. get_or (object k ws ∷ rest) i no_object) (sym z)
found_by false k u ws vs rest None n e f = absurd (cc)
found_by false k u ws vs rest (Some m) n e f = let z : suc m ≡ n = cc in ap (λ i. get_or (object k ws ∷ rest) i no_object) (sym z) ∙ f m refl

-- an object is found by its number
found_object : (gs : List Global) (ps : List LaidObject) (x : List ℕ) (n : ℕ) → sizes gs ≡ laid_sizes ps → object_number ps x ≡ Some n → get_or (objects_of gs) n no_object ≡ object (width_by_name gs x) (global_words gs x)
found_object gs [] x n e f = absurd (cc)
found_object [] (p ∷ ps) x n e f = absurd (let q : ◌≡◌ {A = List NamedSize} [] (laid_sizes (p ∷ ps)) = e in cc)
found_object (g ∷ gs) (p ∷ ps) x n e f =
    let name : g.name ≡ p.name = ap (λ (z : NamedSize). z.name) (ap first_size e) in
    found_by (same_name g.name x) g.width (width_by_name gs x) g.words (global_words gs x) (objects_of gs) (object_number ps x) n
    (ap (λ y. if same_name y x then Some 0 else option_map suc (object_number ps x)) name ∙ f)
    (λ m k. found_object gs ps x m (ap other_sizes e) k)

changed_by : (b : Bool) (g : Global) (gs other : List Global) (i w : ℕ) (u : Width) (vs : List ℕ) (o : Option ℕ) (n : ℕ) → (if b then Some 0 else option_map suc o) ≡ Some n
    → ((m : ℕ) → o ≡ Some m → set (objects_of gs) m (object u (set vs i (kept u w))) ≡ objects_of other)
    → set (object g.width g.words ∷ objects_of gs) n (object (if b then g.width else u) (set (if b then g.words else vs) i (kept (if b then g.width else u) w)))
    ≡ objects_of (if b then record g { words = slice_set g.words i (kept g.width w) } ∷ gs else g ∷ other)
changed_by true g gs other i w u vs o n e f = let z : 0 ≡ n = cc in ap (λ k. set (object g.width g.words ∷ objects_of gs) k (object g.width (set g.words i (kept g.width w)))) (sym z)
changed_by false g gs other i w u vs None n e f = absurd (cc)
changed_by false g gs other i w u vs (Some m) n e f =
    let z : suc m ≡ n = cc in
    ap (λ k. set (object g.width g.words ∷ objects_of gs) k (object u (set vs i (kept u w)))) (sym z) ∙ ap (λ rest. object g.width g.words ∷ rest) (f m refl)

changed_object : (gs : List Global) (ps : List LaidObject) (x : List ℕ) (n i w : ℕ) → sizes gs ≡ laid_sizes ps → object_number ps x ≡ Some n
    → set (objects_of gs) n (object (width_by_name gs x) (set (global_words gs x) i (kept (width_by_name gs x) w))) ≡ objects_of (with_element x i w gs)
changed_object gs [] x n i w e f = absurd (cc)
changed_object [] (p ∷ ps) x n i w e f = absurd (let q : ◌≡◌ {A = List NamedSize} [] (laid_sizes (p ∷ ps)) = e in cc)
changed_object (g ∷ gs) (p ∷ ps) x n i w e f =
    let name : g.name ≡ p.name = ap (λ (z : NamedSize). z.name) (ap first_size e) in
    changed_by (same_name g.name x) g gs (with_element x i w gs) i w (width_by_name gs x) (global_words gs x) (object_number ps x) n
    (ap (λ y. if same_name y x then Some 0 else option_map suc (object_number ps x)) name ∙ f)
    (λ m k. changed_object gs ps x m i w (ap other_sizes e) k)

size_by : (b : Bool) (ws vs : List ℕ) (m n : ℕ) → length ws ≡ m → length vs ≡ n → length (if b then ws else vs) ≡ (if b then m else n)
size_by true ws vs m n e f = e
size_by false ws vs m n e f = f

extent_by : (b : Bool) (p : LaidObject) (ps : List LaidObject) (x : List ℕ) → (if b then p.extent else extent_of ps x).length ≡ (if b then p.extent.length else (extent_of ps x).length)
extent_by true p ps x = refl
extent_by false p ps x = refl

-- an object has as many elements as the layout says
pub size_object : (gs : List Global) (ps : List LaidObject) (x : List ℕ) → sizes gs ≡ laid_sizes ps → length (global_words gs x) ≡ (extent_of ps x).length
size_object [] [] x e = refl
size_object [] (p ∷ ps) x e = absurd (let q : ◌≡◌ {A = List NamedSize} [] (laid_sizes (p ∷ ps)) = e in cc)
size_object (g ∷ gs) [] x e = absurd (let q : ◌≡◌ {A = List NamedSize} (sizes (g ∷ gs)) [] = e in cc)
size_object (g ∷ gs) (p ∷ ps) x e =
    let name : g.name ≡ p.name = ap (λ (z : NamedSize). z.name) (ap first_size e) in
    size_by (same_name g.name x) g.words (global_words gs x) p.extent.length (extent_of ps x).length (ap (λ (z : NamedSize). z.elements) (ap first_size e)) (size_object gs ps x (ap other_sizes e))
    ∙ ap (λ y. if same_name y x then p.extent.length else (extent_of ps x).length) name ∙ sym (extent_by (same_name p.name x) p ps x)

width_by : (b : Bool) (k u : Width) (p : LaidObject) (ps : List LaidObject) (x : List ℕ) → k ≡ p.extent.width → u ≡ (extent_of ps x).width → (if b then k else u) ≡ (if b then p.extent else extent_of ps x).width
width_by true k u p ps x e f = e
width_by false k u p ps x e f = f

-- an object's elements are as wide as the layout says
width_object : (gs : List Global) (ps : List LaidObject) (x : List ℕ) → sizes gs ≡ laid_sizes ps → width_by_name gs x ≡ (extent_of ps x).width
width_object [] [] x e = refl
width_object [] (p ∷ ps) x e = absurd (let q : ◌≡◌ {A = List NamedSize} [] (laid_sizes (p ∷ ps)) = e in cc)
width_object (g ∷ gs) [] x e = absurd (let q : ◌≡◌ {A = List NamedSize} (sizes (g ∷ gs)) [] = e in cc)
width_object (g ∷ gs) (p ∷ ps) x e =
    let name : g.name ≡ p.name = ap (λ (z : NamedSize). z.name) (ap first_size e) in
    width_by (same_name g.name x) g.width (width_by_name gs x) p ps x (ap (λ (z : NamedSize). z.width) (ap first_size e)) (width_object gs ps x (ap other_sizes e))
    ∙ ap (λ y. (if same_name y x then p.extent else extent_of ps x).width) name

same_itself : (u : Width) → same_width u u ≡ true
same_itself Byte = refl
same_itself Word = refl

-- an element is found by its object's number
pub element_object : (gs : List Global) (ps : List LaidObject) (x : List ℕ) (n i : ℕ) (input output : List ℕ) → sizes gs ≡ laid_sizes ps → object_number ps x ≡ Some n
    → element (record { globals = objects_of gs; input = input; output = output }) (extent_of ps x).width n i ≡ slice_get (global_words gs x) i
element_object gs ps x n i input output e f =
    let k = width_by_name gs x in
    subst (λ (u : Width). element (record { globals = objects_of gs; input = input; output = output }) u n i ≡ slice_get (global_words gs x) i) (width_object gs ps x e)
    (ap (λ (o : Object). if same_width o.width k then slice_get o.words i else None) (found_object gs ps x n e f)
    ∙ ap (λ b. if b then slice_get (global_words gs x) i else None) (same_itself k))

pub stored_object : (gs : List Global) (ps : List LaidObject) (x : List ℕ) (n i w : ℕ) (input output : List ℕ) → sizes gs ≡ laid_sizes ps → object_number ps x ≡ Some n → i < length (global_words gs x)
    → stored (record { globals = objects_of gs; input = input; output = output }) (extent_of ps x).width n i w ≡ Some (record { globals = objects_of (with_element x i w gs); input = input; output = output })
stored_object gs ps x n i w input output e f lt =
    let k = width_by_name gs x in
    let vs = global_words gs x in
    subst (λ (u : Width). stored (record { globals = objects_of gs; input = input; output = output }) u n i w ≡ Some (record { globals = objects_of (with_element x i w gs); input = input; output = output })) (width_object gs ps x e)
    (ap (λ (o : Object). option_map (λ old. record { globals = set (objects_of gs) n (object_with o i (kept k w)); input = input; output = output }) (if same_width o.width k then slice_get o.words i else None)) (found_object gs ps x n e f)
    ∙ ap (λ b. option_map (λ old. record { globals = set (objects_of gs) n (object k (set vs i (kept k w))); input = input; output = output }) (if b then slice_get vs i else None)) (same_itself k)
    ∙ ap (λ o. option_map (λ old. record { globals = set (objects_of gs) n (object k (set vs i (kept k w))); input = input; output = output }) o) (slice_get-get_or vs i 0 lt)
    ∙ ap (λ gs. Some (record { globals = gs; input = input; output = output })) (changed_object gs ps x n i w e f))

-- ---- operators

pub unary_value : (op : UnaryOperator) (e : Expression) (l : ℕ → ℕ) (h : World) → value (unary_of op e) l h ≡ then_value (value e l h) (λ a. Some (unary_word op a))
unary_value prefix.Plus e l h = same (value e l h)
  where
    same : (o : Option ℕ) → o ≡ then_value o (λ a. Some a)
    same None = refl
    same (Some a) = refl
unary_value prefix.Minus e l h = refl
unary_value prefix.Complement e l h = refl
unary_value prefix.Not e l h = refl

bind_swap : (x y : Option ℕ) (f : ℕ → ℕ → Option ℕ) → then_value y (λ b. then_value x (λ a. f a b)) ≡ then_value x (λ a. then_value y (λ b. f a b))
bind_swap None None f = refl
bind_swap None (Some b) f = refl
bind_swap (Some a) None f = refl
bind_swap (Some a) (Some b) f = refl

truth_by : (b : Bool) → truth_value (truth_value b == 0) ≡ truth_value (not b)
truth_by true = refl
truth_by false = refl

truth_twice : (a : ℕ) → is_zero (is_zero a) ≡ truth_value (is_true a)
truth_twice a = truth_by (a == 0)

-- the truth of a word that is 0 or 1 is that word
kept_truth : (b : Bool) (w : ℕ) → Some (truth_value b) ≡ Some w → Some w ≡ Some (truth_value (is_true w))
kept_truth b w is = let e : truth_value b ≡ w = cc in subst (λ x. Some x ≡ Some (truth_value (is_true x))) e (ap (λ c. Some (truth_value c)) (sym (truth_holds b)))

test_kept : (op : unary.Unary) (o : Option ℕ) (w : ℕ) → is_zero_test op ≡ true → then_value o (λ a. Some (apply_unary op a)) ≡ Some w → Some w ≡ Some (truth_value (is_true w))
test_kept one.IsZero None w t is = absurd (cc)
test_kept one.IsZero (Some a) w t is = kept_truth (a == 0) w is
test_kept op o w t is = absurd (cc)

comparison_kept : (op : binary.Binary) (a b w : ℕ) → is_comparison op ≡ true → apply_binary op a b ≡ Some w → Some w ≡ Some (truth_value (is_true w))
comparison_kept two.Eq a b w t is = kept_truth (a == b) w is
comparison_kept two.Ne a b w t is = kept_truth (not (a == b)) w is
comparison_kept two.LtS a b w t is = kept_truth (int_lt (signed_value a) (signed_value b)) w is
comparison_kept two.LtU a b w t is = kept_truth (nat_lt a b) w is
comparison_kept two.LeS a b w t is = kept_truth (int_le (signed_value a) (signed_value b)) w is
comparison_kept two.LeU a b w t is = kept_truth (nat_le a b) w is
comparison_kept op a b w t is = absurd (cc)

operands_kept : (op : binary.Binary) (o p : Option ℕ) (w : ℕ) → is_comparison op ≡ true → then_value o (λ a. then_value p (λ b. apply_binary op a b)) ≡ Some w → Some w ≡ Some (truth_value (is_true w))
operands_kept op None p w t is = absurd (cc)
operands_kept op (Some a) None w t is = absurd (cc)
operands_kept op (Some a) (Some b) w t is = comparison_kept op a b w t is

truth_kept : (e : Expression) (l : ℕ → ℕ) (h : World) (w : ℕ) → is_truth e ≡ true → value e l h ≡ Some w → Some w ≡ Some (truth_value (is_true w))
truth_kept (Unary op e) l h w t is = test_kept op (value e l h) w t is
truth_kept (Binary op a b) l h w t is = operands_kept op (value a l h) (value b l h) w t is
truth_kept (Constant n) l h w t is = absurd (cc)
truth_kept (Local x) l h w t is = absurd (cc)
truth_kept (Load width o e) l h w t is = absurd (cc)

pub truth_is : (e : Expression) (l : ℕ → ℕ) (h : World) (w : ℕ) → value e l h ≡ Some w → value (truth_of e) l h ≡ Some (truth_value (is_true w))
truth_is e l h w is = by (is_truth e) refl
  where
    by : (b : Bool) → is_truth e ≡ b → value (if b then e else Unary one.IsZero (Unary one.IsZero e)) l h ≡ Some (truth_value (is_true w))
    by true t = is ∙ truth_kept e l h w t is
    by false t = ap (λ o. then_value (then_value o (λ a. Some (is_zero a))) (λ a. Some (is_zero a))) is ∙ ap (λ x. Some x) (truth_twice w)

pub binary_value : (op : BinaryOperator) (t : Scalar) (a b : Expression) (l : ℕ → ℕ) (h : World) → kind op ≡ Strict
    → value (binary_of op t a b) l h ≡ then_value (value a l h) (λ x. then_value (value b l h) (λ y. binary_word op t x y))
binary_value source.Multiply t a b l h s = refl
binary_value source.Divide Int a b l h s = refl
binary_value source.Divide Unsigned a b l h s = refl
binary_value source.Remainder Int a b l h s = refl
binary_value source.Remainder Unsigned a b l h s = refl
binary_value source.Add t a b l h s = refl
binary_value source.Subtract t a b l h s = refl
binary_value source.ShiftLeft t a b l h s = refl
binary_value source.ShiftRight Int a b l h s = refl
binary_value source.ShiftRight Unsigned a b l h s = refl
binary_value source.Less Int a b l h s = refl
binary_value source.Less Unsigned a b l h s = refl
binary_value source.Greater Int a b l h s = bind_swap (value a l h) (value b l h) (λ x y. binary_word source.Greater Int x y)
binary_value source.Greater Unsigned a b l h s = bind_swap (value a l h) (value b l h) (λ x y. binary_word source.Greater Unsigned x y)
binary_value source.LessOrEqual Int a b l h s = refl
binary_value source.LessOrEqual Unsigned a b l h s = refl
binary_value source.GreaterOrEqual Int a b l h s = bind_swap (value a l h) (value b l h) (λ x y. binary_word source.GreaterOrEqual Int x y)
binary_value source.GreaterOrEqual Unsigned a b l h s = bind_swap (value a l h) (value b l h) (λ x y. binary_word source.GreaterOrEqual Unsigned x y)
binary_value source.Equal t a b l h s = refl
binary_value source.NotEqual t a b l h s = refl
binary_value source.And t a b l h s = refl
binary_value source.Xor t a b l h s = refl
binary_value source.Or t a b l h s = refl
binary_value source.LogicalAnd t a b l h s = absurd (cc)
binary_value source.LogicalOr t a b l h s = absurd (cc)

-- ---- operations without a value if an operand has none

right_none : (o p : Option ℕ) (f : ℕ → ℕ → Option ℕ) → p ≡ None → then_value o (λ a. then_value p (λ b. f a b)) ≡ None
right_none None p f e = refl
right_none (Some a) p f e = ap (λ q. then_value q (λ b. f a b)) e

pub unary_none : (op : UnaryOperator) (e : Expression) (l : ℕ → ℕ) (h : World) → value e l h ≡ None → value (unary_of op e) l h ≡ None
unary_none op e l h is = unary_value op e l h ∙ ap (λ o. then_value o (λ a. Some (unary_word op a))) is

pub binary_none : (op : BinaryOperator) (t : Scalar) (a b : Expression) (l : ℕ → ℕ) (h : World) → kind op ≡ Strict → value b l h ≡ None → value (binary_of op t a b) l h ≡ None
binary_none op t a b l h s is = binary_value op t a b l h s ∙ right_none (value a l h) (value b l h) (λ x y. binary_word op t x y) is

pub truth_none : (e : Expression) (l : ℕ → ℕ) (h : World) → value e l h ≡ None → value (truth_of e) l h ≡ None
truth_none e l h is = by (is_truth e)
  where
    by : (b : Bool) → value (if b then e else Unary one.IsZero (Unary one.IsZero e)) l h ≡ None
    by true = is
    by false = ap (λ o. then_value (then_value o (λ a. Some (is_zero a))) (λ a. Some (is_zero a))) is

pub strict_undecided : (op : BinaryOperator) (a : ℕ) → kind op ≡ Strict → decided op a ≡ None
strict_undecided source.LogicalAnd a e = absurd (cc)
strict_undecided source.LogicalOr a e = absurd (cc)
strict_undecided op a e = refl

pub is_conjunction : (op : BinaryOperator) → kind op ≡ Conjunction → op ≡ source.LogicalAnd
is_conjunction source.LogicalAnd e = refl
is_conjunction op e = absurd (cc)

pub is_disjunction : (op : BinaryOperator) → kind op ≡ Disjunction → op ≡ source.LogicalOr
is_disjunction source.LogicalOr e = refl
is_disjunction op e = absurd (cc)

pub strict_of : (k : Kind) → is_strict k ≡ true → k ≡ Strict
strict_of Conjunction e = absurd (cc)
strict_of Disjunction e = absurd (cc)
strict_of Strict e = refl

pub and_left : (a b : Bool) → a && b ≡ true → a ≡ true
and_left true b e = refl
and_left false b e = absurd (cc)

pub and_right : (a b : Bool) → a && b ≡ true → b ≡ true
and_right true b e = e
and_right false b e = absurd (cc)

-- ---- plain expressions

-- a part of a run leaves the state as it is, and gives a word or goes wrong, as the option says
abbrev pub PlainIs : {A : Type 0} → Run A → State → Option A → Type 0
PlainIs (Gives x u) s o = (u ≡ s) × (o ≡ Some x)
PlainIs (meaning.Going output) s o = ⊥
PlainIs (meaning.Wrong cause output) s o = (o ≡ None) × (output ≡ s.output)

pub plain_then : {A B : Type 0} (r : Run A) (o : Option A) (s : State) (go : A → State → Run B) (f : A → Option B) → PlainIs r s o → ((x : A) → PlainIs (go x s) s (f x)) → PlainIs (then_do r go) s (then_value o f)
plain_then (Gives x u) o s go f h k = subst (λ p. PlainIs (go x u) s (then_value p f)) (sym h.1) (subst (λ t. PlainIs (go x t) s (f x)) (sym h.0) (k x))
plain_then (meaning.Going output) o s go f h k = absurd h
plain_then (meaning.Wrong cause output) o s go f h k = (ap (λ p. then_value p f) h.0, h.1)

pub plain_given : (op : BinaryOperator) (o : Option ℕ) (s : State) → PlainIs (given op o s) s o
plain_given op None s = (refl, refl)
plain_given op (Some w) s = (refl, refl)

plain_read_by : (o : Option ℕ) (s : State) → PlainIs {A = ℕ} (elim o [ None ↦ meaning.Wrong Index s.output | Some w ↦ Gives w s ]) s o
plain_read_by None s = (refl, refl)
plain_read_by (Some w) s = (refl, refl)

pub plain_read : (x : List ℕ) (i : ℕ) (s : State) → PlainIs (read_element x i s) s (slice_get (global_words s.globals x) i)
plain_read x i s = plain_read_by (slice_get (global_words s.globals x) i) s

module _ (g : Layout) where
  -- the variables represent a state with locals of these names
  pub record Fits (ns : List (List ℕ)) (s : State) (l : ℕ → ℕ) : Type 0 where
    pub names : names_of s.locals ≡ ns
    pub holds : Holds s.locals l
    pub sized : sizes s.globals ≡ laid_sizes g.objects

  pub fits_length : (ns : List (List ℕ)) (s : State) (l : ℕ → ℕ) → Fits ns s l → length s.locals ≡ length ns
  fits_length ns s l h = sym (length_names s.locals) ∙ ap (λ (xs : List (List ℕ)). length xs) h.names

  pub fits_same : (ns : List (List ℕ)) (s : State) (l m : ℕ → ℕ) → ((i : ℕ) → i < length ns → m i ≡ l i) → Fits ns s l → Fits ns s m
  fits_same ns s l m same h =
      let e = fits_length ns s l h in
      record { names = h.names; holds = holds_same s.locals l m (length s.locals) (omega arith) (λ i lt. same i (omega arith)) h.holds; sized = h.sized }

  pub fits_put : (ns : List (List ℕ)) (s : State) (l : ℕ → ℕ) (k w : ℕ) → length ns ≤ k → Fits ns s l → Fits ns s (put l k w)
  fits_put ns s l k w le h = fits_same ns s l (put l k w) (λ i lt. put_below l k w i (omega arith)) h

  pub object_is : (s : State) (x : List ℕ) (i : ℕ) → IsObject g x → sizes s.globals ≡ laid_sizes g.objects → element (world_at s) (width_of g x) (object_of g x) i ≡ slice_get (global_words s.globals x) i
  object_is s x i known e =
      ap (λ o. element (world_at s) (width_of g x) (unwrap_or o 0) i) known.1 ∙ element_object s.globals g.objects x known.0 i s.input s.output e known.1

  variable_by : (o : Option ℕ) (x : List ℕ) (s : State) (l : ℕ → ℕ) → sizes s.globals ≡ laid_sizes g.objects → local_word s.locals x ≡ option_map l o → IsPlaced g o x
      → value (read_of o (object_of g x)) l (world_at s) ≡ Some (variable_word x s)
  variable_by None x s l e f h =
      let size : length (global_words s.globals x) ≡ 1 = size_object s.globals g.objects x e ∙ h.1.0 in
      let found : slice_get (global_words s.globals x) 0 ≡ Some (unwrap_or (slice_get (global_words s.globals x) 0) 0) =
      is_some_word (slice_get (global_words s.globals x) 0) _ (slice_get-get_or (global_words s.globals x) 0 0 (omega arith)) in
      ap (λ (u : Width). element (world_at s) u (object_of g x) 0) (sym h.1.1) ∙ object_is s x 0 h.0 e ∙ found ∙ ap (λ (o : Option ℕ). Some (unwrap_or o (unwrap_or (slice_get (global_words s.globals x) 0) 0))) (sym f)
    where
      is_some_word : (o : Option ℕ) (w : ℕ) → o ≡ Some w → o ≡ Some (unwrap_or o 0)
      is_some_word None w e = absurd (cc)
      is_some_word (Some v) w e = refl
  variable_by (Some i) x s l e f h = ap (λ (o : Option ℕ). Some (unwrap_or o (unwrap_or (slice_get (global_words s.globals x) 0) 0))) (sym f)

  pub variable_value : (v : Environment) (x : List ℕ) (s : State) (l : ℕ → ℕ) → IsVariable g v x → Fits v.locals s l → value (variable_of g v x) l (world_at s) ≡ Some (variable_word x s)
  variable_value v x s l known h =
      variable_by (number_in v.locals x) x s l h.sized (reads s.locals l x h.holds ∙ ap (λ ns. option_map l (number_in ns x)) h.names) known

  pub element_value : (x : List ℕ) (e : Expression) (i : ℕ) (l : ℕ → ℕ) (s : State) → IsObject g x → sizes s.globals ≡ laid_sizes g.objects → value e l (world_at s) ≡ Some i
      → value (Load (width_of g x) (object_of g x) e) l (world_at s) ≡ slice_get (global_words s.globals x) i
  element_value x e i l s known sized is = ap (λ o. then_value o (λ j. element (world_at s) (width_of g x) (object_of g x) j)) is ∙ object_is s x i known sized

  pub plain_is : (call : Calls) (e : Expr) (v : Environment) (l : ℕ → ℕ) (s : State) → is_plain e ≡ true → Known g v e → Fits v.locals s l → PlainIs (evaluate e (types_in v) call s) s (value (plain g v e) l (world_at s))
  plain_is call (Number t n) v l s p known h = (refl, refl)
  plain_is call (Variable x) v l s p known h = (refl, variable_value v x.text s l known h)
  plain_is call (Element x e) v l s p known h =
      plain_then (evaluate e (types_in v) call s) (value (plain g v e) l (world_at s)) s (λ i t. read_element x.text i t) (λ i. element (world_at s) (width_of g x.text) (object_of g x.text) i)
      (plain_is call e v l s p known.1 h) (λ i. subst (λ o. PlainIs (read_element x.text i s) s o) (sym (object_is s x.text i known.0 h.sized)) (plain_read x.text i s))
  plain_is call (tree.Call f es) v l s p known h = absurd (let q : false ≡ true = p in cc)
  plain_is call (Parenthesised e) v l s p known h = plain_is call e v l s p known h
  plain_is call (tree.Unary op e) v l s p known h =
      subst (λ o. PlainIs (evaluate (tree.Unary op e) (types_in v) call s) s o) (sym (unary_value op (plain g v e) l (world_at s)))
      (plain_then (evaluate e (types_in v) call s) (value (plain g v e) l (world_at s)) s (λ a t. Gives (unary_word op a) t) (λ a. Some (unary_word op a)) (plain_is call e v l s p known h) (λ a. (refl, refl)))
  plain_is call (Cast t e) v l s p known h = plain_is call e v l s p known h
  plain_is call (tree.Binary op a b) v l s p known h =
      let strict : kind op ≡ Strict = strict_of (kind op) (and_left (is_strict (kind op)) (is_plain a && is_plain b) p) in
      let both : is_plain a && is_plain b ≡ true = and_right (is_strict (kind op)) (is_plain a && is_plain b) p in
      let u : Scalar = working_type op (value_type (types_in v) a) (value_type (types_in v) b) in
      subst (λ o. PlainIs (evaluate (tree.Binary op a b) (types_in v) call s) s o) (sym (binary_value op u (plain g v a) (plain g v b) l (world_at s) strict))
      (plain_then (evaluate a (types_in v) call s) (value (plain g v a) l (world_at s)) s
      (λ x t. unless_decided (decided op x) (λ z. then_do (evaluate b (types_in v) call z) (λ y w. given op (binary_word op u x y) w)) t)
      (λ x. then_value (value (plain g v b) l (world_at s)) (λ y. binary_word op u x y))
      (plain_is call a v l s (and_left (is_plain a) (is_plain b) both) known.0 h)
      (λ x. subst (λ d. PlainIs (unless_decided d (λ z. then_do (evaluate b (types_in v) call z) (λ y w. given op (binary_word op u x y) w)) s) s (then_value (value (plain g v b) l (world_at s)) (λ y. binary_word op u x y)))
      (sym (strict_undecided op x strict))
      (plain_then (evaluate b (types_in v) call s) (value (plain g v b) l (world_at s)) s (λ y w. given op (binary_word op u x y) w) (λ y. binary_word op u x y)
      (plain_is call b v l s (and_right (is_plain a) (is_plain b) both) known.1 h) (λ y. plain_given op (binary_word op u x y) s))))
  plain_is call (Conditional c a b) v l s p known h = absurd (let q : false ≡ true = p in cc)

  pub all_plain_is : (call : Calls) (es : Exprs) (v : Environment) (l : ℕ → ℕ) (s : State) → are_plain es ≡ true → AllKnown g v es → Fits v.locals s l
      → PlainIs (evaluate_all es (types_in v) call s) s (values (all_plain g v es) l (world_at s))
  all_plain_is call none v l s p known h = (refl, refl)
  all_plain_is call (more e rest) v l s p known h =
      plain_then (evaluate e (types_in v) call s) (value (plain g v e) l (world_at s)) s (λ w t. then_do (evaluate_all rest (types_in v) call t) (λ ws u. Gives (w ∷ ws) u))
      (λ w. then_value (values (all_plain g v rest) l (world_at s)) (λ ws. Some (w ∷ ws))) (plain_is call e v l s (and_left (is_plain e) (are_plain rest) p) known.0 h)
      (λ w. plain_then (evaluate_all rest (types_in v) call s) (values (all_plain g v rest) l (world_at s)) s (λ ws u. Gives (w ∷ ws) u) (λ ws. Some (w ∷ ws))
      (all_plain_is call rest v l s (and_right (is_plain e) (are_plain rest) p) known.1 h) (λ ws. (refl, refl)))
