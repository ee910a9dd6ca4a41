-- Steps of the generator's code: arguments one by one, statements from last to first, places in reverse order.
use Rattle.std.proofs.Common.{◌≡◌, ℕ, suc, ◌+◌, ◌-◌, ◌<◌, ◌≤◌, List, [], ◌∷◌, ◌++◌, length, length-append, reverse, refl, sym, ap, ◌∙◌, subst, append_assoc, arith, rules, drop, get_or, set, zero, drop-cons, Option, Some, None, option_map, true, false, ◌==◌, if◌then◌else◌}
use Rattle.std.specs.Prelude.{IsSome}
use Rattle.std.proofs.lemmas.Option.{same_Some}
use Rattle.std.proofs.lemmas.Bool.Decides.{Decides-eqb}
use Rattle.std.proofs.lemmas.List.{length-reverse, get_or-reverse}
use denote.Param.Weighed.{most, at_most}
use Rattle.std.proofs.lemmas.Grind.{reverse_onto}
use Rattle.cc_cminor_language.specs.Code.{expression_of, expressions_of, statement_of, statements_in, in_sequence}
use Rattle.cc_cminor_language.specs.Statements.{statements_of}
use Rattle.cc_cminor_language.specs.Numbers.{most_variables, ExpressionBelow, ExpressionsBelow, StatementFits}
use Rattle.cc_cminor_language.specs.declared.code.Expression.{Expression}
use Rattle.cc_cminor_language.specs.declared.code.Statement as written
use Rattle.cc_cminor_language.specs.declared.code.Statement.{Statement, Row_of-Statement, end_of-Statement, more_of-Statement, items-the_row-Statement}
use Rattle.cc_rtl_language.specs.Rtl as rtl
use Rattle.cc_rtl_language.specs.Rtl.{most_nodes}
use Rattle.cc_rtl_language.specs.Code.{node_of, labelled_of}
use Rattle.cc_rtl.specs.Size.{operand_nodes, operands_nodes, statement_nodes}
use Rattle.cc_rtl_language.specs.declared.node.Node.{Node}
use Rattle.cc_rtl.specs.internal.Generate.{Places, Made, made, renamed, labelled_from, nodes_back}
use Rattle.cc_rtl_language.specs.Positions.{AreNumbered}
use Rattle.cc_rtl.specs.internal.Generating.{places_of, made_at, AreCountedDown}
use Rattle.cc_instr_list.specs.List.{Entry, Listed, entry, listed, item_at, first_label, with_before, with_item, without}
use Rattle.cc_rtl_language.proofs.Places.{same_test}

-- ---- arguments

pub first_fits : (es : List Expression) (e : Expression) (rest : List Expression) → es ≡ e ∷ rest → ExpressionsBelow most_variables (expressions_of es) → ExpressionBelow most_variables (expression_of e) × ExpressionsBelow most_variables (expressions_of rest)
first_fits es e rest is fits = subst (λ l. ExpressionsBelow most_variables (expressions_of l)) is fits

pub first_nodes : (es : List Expression) (e : Expression) (rest : List Expression) → es ≡ e ∷ rest → operands_nodes (expressions_of es) ≡ operand_nodes (expression_of e) + operands_nodes (expressions_of rest)
first_nodes es e rest is = ap (λ l. operands_nodes (expressions_of l)) is

-- ---- statements, one after another

statements_in-row : (n : _) (row : Row_of-Statement n) → statements_in row ≡ statements_of (items-the_row-Statement n row)
statements_in-row n end_of-Statement = refl
statements_in-row n (more_of-Statement s rest) = ap (λ l. statement_of s ∷ l) (statements_in-row _ rest)

pub statement_of-sequence : (all : _) → statement_of (written.Sequence all) ≡ in_sequence (statements_of all.items)
statement_of-sequence all = search (rules, written.the_lemmas, statements_in-row)

-- statements before some code, the last one first
abbrev pub made_back : (count : ℕ) (exits : List ℕ) → List Statement → Made → Made
made_back count exits [] m = m
made_back count exits (s ∷ before) m = made_back count exits before (made count (statement_of s) m.entry exits m.places)

made_back-append : (count : ℕ) (exits : List ℕ) (xs ys : List Statement) (m : Made) → made_back count exits (xs ++ ys) m ≡ made_back count exits ys (made_back count exits xs m)
made_back-append count exits [] ys m = refl
made_back-append count exits (x ∷ xs) ys m = made_back-append count exits xs ys _

pub made_back-is : (count : ℕ) (exits : List ℕ) (all : List Statement) (m : Made) → made_back count exits (reverse all) m ≡ made count (in_sequence (statements_of all)) m.entry exits m.places
made_back-is count exits [] m = refl
made_back-is count exits (a ∷ []) m = refl
made_back-is count exits (a ∷ b ∷ rest) m =
    ap (λ l. made_back count exits l m) (reverse_onto (b ∷ rest) a []) ∙ made_back-append count exits (reverse (b ∷ rest)) (a ∷ []) m
    ∙ ap (λ (n : Made). made count (statement_of a) n.entry exits n.places) (made_back-is count exits (b ∷ rest) m)

abbrev pub nodes_in : List Statement → ℕ
nodes_in [] = 0
nodes_in (s ∷ rest) = statement_nodes (statement_of s) + nodes_in rest

nodes_in-append : (xs ys : List Statement) → nodes_in (xs ++ ys) ≡ nodes_in xs + nodes_in ys
nodes_in-append [] ys = let e : nodes_in ys ≡ 0 + nodes_in ys = omega arith in e
nodes_in-append (x ∷ xs) ys = let r = nodes_in-append xs ys in omega arith

pub nodes_in-is : (all : List Statement) → nodes_in (reverse all) ≡ statement_nodes (in_sequence (statements_of all))
nodes_in-is [] = refl
nodes_in-is (a ∷ []) = omega arith
nodes_in-is (a ∷ b ∷ rest) =
    let turned = ap nodes_in (reverse_onto (b ∷ rest) a []) in
    let parts = nodes_in-append (reverse (b ∷ rest)) (a ∷ []) in
    let r = nodes_in-is (b ∷ rest) in
    omega arith

abbrev pub AllFitIn : List Statement → Type 0
AllFitIn [] = Unit {0}
AllFitIn (s ∷ rest) = StatementFits (statement_of s) × AllFitIn rest

all_fit-append : (xs ys : List Statement) → AllFitIn xs → AllFitIn ys → AllFitIn (xs ++ ys)
all_fit-append [] ys f g = g
all_fit-append (x ∷ xs) ys (one, f) g = (one, all_fit-append xs ys f g)

pub all_fit-back : (all : List Statement) → StatementFits (in_sequence (statements_of all)) → AllFitIn (reverse all)
all_fit-back [] f = tt
all_fit-back (a ∷ []) f = (f, tt)
all_fit-back (a ∷ b ∷ rest) (one, f) = subst AllFitIn (sym (reverse_onto (b ∷ rest) a [])) (all_fit-append (reverse (b ∷ rest)) (a ∷ []) (all_fit-back (b ∷ rest) f) (one, tt))

-- the code so far, with the remaining statements put before it, the last one first, makes the whole
pub record Goes_back (count : ℕ) (exits : List ℕ) (all : List Statement) (first : Made) (entry : ℕ) (places : Places) (left : List Statement) : Type 0 where
  pub code : made_back count (reverse exits) left (made_at entry places) ≡ made_back count (reverse exits) all first
  pub room : length places + nodes_in left ≡ length first.places + nodes_in all
  pub fits : AllFitIn left

pub goes_back-next : (count : ℕ) (exits exits' : List ℕ) (all : List Statement) (first : Made) (entry entry' : ℕ) (places places' : Places) (s : Statement) (left : List Statement) → Goes_back count exits all first entry places (s ∷ left) → exits' ≡ exits
    → made_at entry' places' ≡ made count (statement_of s) entry (reverse exits') places → length places' ≡ length places + statement_nodes (statement_of s) → Goes_back count exits all first entry' places' left
goes_back-next count exits exits' all first entry entry' places places' s left before same is longer = record {
  code = ap (made_back count (reverse exits) left) (is ∙ ap (λ (x : List ℕ). made count (statement_of s) entry (reverse x) places) same) ∙ before.code;
  room = let r = before.room in omega arith;
  fits = before.fits.1;
}

pub goes_back-start : (count : ℕ) (exits : List ℕ) (all : List Statement) (exit : ℕ) (places : Places) → StatementFits (in_sequence (statements_of all)) → Goes_back count exits (reverse all) (made_at exit places) exit places (reverse all)
goes_back-start count exits all exit places fits = record { code = refl; room = refl; fits = all_fit-back all fits }

pub goes_back-room : (count : ℕ) (exits : List ℕ) (all : List Statement) (exit : ℕ) (g : Places) (entry : ℕ) (places : Places) (s : Statement) (left : List Statement)
    → Goes_back count exits (reverse all) (made_at exit g) entry places (s ∷ left) → length g + statement_nodes (in_sequence (statements_of all)) ≤ most_nodes → length places + statement_nodes (statement_of s) ≤ most_nodes
goes_back-room count exits all exit g entry places s left before le =
    let r = before.room in
    let n = nodes_in-is all in
    omega arith

pub goes_back-made : (count : ℕ) (exits : List ℕ) (all : List Statement) (exit : ℕ) (g : Places) (entry : ℕ) (places : Places) (left : List Statement)
    → Goes_back count exits (reverse all) (made_at exit g) entry places left → left ≡ [] → made_at entry places ≡ made count (in_sequence (statements_of all)) exit (reverse exits) g
goes_back-made count exits all exit g entry places left before none =
    sym (ap (λ l. made_back count (reverse exits) l (made_at entry places)) none) ∙ before.code ∙ made_back-is count (reverse exits) all (made_at exit g)

pub goes_back-longer : (count : ℕ) (exits : List ℕ) (all : List Statement) (exit : ℕ) (g : Places) (entry : ℕ) (places : Places) (left : List Statement)
    → Goes_back count exits (reverse all) (made_at exit g) entry places left → left ≡ [] → length places ≡ length g + statement_nodes (in_sequence (statements_of all))
goes_back-longer count exits all exit g entry places left before none =
    let r = before.room in
    let n = nodes_in-is all in
    let z : nodes_in left ≡ 0 = ap nodes_in none in
    omega arith

-- the measure of one of several things is at most the largest
pub no_deeper : {X : Type 0} (measure : X → ℕ) (xs : List X) (i : ℕ) (x : X) → i < length (reverse xs) → x ≡ get_or (reverse xs) i x → measure x ≤ most measure xs
no_deeper measure xs i x lt is =
    let same : length (reverse xs) ≡ length xs = length-reverse xs in
    let at_place : x ≡ get_or xs (length xs - 1 - i) x = is ∙ get_or-reverse xs i x (omega arith) in
    subst (λ y. measure y ≤ most measure xs) (sym at_place) (at_most measure xs (length xs - 1 - i) x (omega arith))

-- the statements that are left begin with the one that an iterator gives next
pub next_left : (all : List Statement) (i : ℕ) (s : Statement) → i < length all → s ≡ get_or all i s → drop i all ≡ s ∷ drop (i + 1) all
next_left all i s lt is = drop-cons all i s lt ∙ ap (λ y. y ∷ drop (suc i) all) (sym is) ∙ ap (λ k. s ∷ drop k all) (let k : suc i ≡ i + 1 = omega arith in k)

-- ---- places in reverse order

nodes_back-append : (g : Places) (n : rtl.Node) → nodes_back (g ++ (Some n ∷ [])) ≡ n ∷ nodes_back g
nodes_back-append [] n = refl
nodes_back-append (None ∷ g) n = nodes_back-append g n
nodes_back-append (Some x ∷ g) n = ap (λ l. l ++ x ∷ []) (nodes_back-append g n)

nodes_back-none : (g : Places) → nodes_back (g ++ (None ∷ [])) ≡ nodes_back g
nodes_back-none [] = refl
nodes_back-none (None ∷ g) = nodes_back-none g
nodes_back-none (Some x ∷ g) = ap (λ l. l ++ x ∷ []) (nodes_back-none g)

labelled_of-append : (xs ys : List (Entry Node)) → labelled_of (xs ++ ys) ≡ labelled_of xs ++ labelled_of ys
labelled_of-append [] ys = refl
labelled_of-append (x ∷ xs) ys = ap (λ l. record { label = x.label; node = node_of x.item } ∷ l) (labelled_of-append xs ys)

append_nothing : {A : Type 0} (xs : List A) → xs ++ [] ≡ xs
append_nothing [] = refl
append_nothing (x ∷ xs) = ap (λ l. x ∷ l) (append_nothing xs)

pub no_node : (place : Option Node) → ((n : Node) → place ≡ Some n → ⊥) → place ≡ None
no_node None not = refl
no_node (Some n) not = absurd (not n refl)

pub length_places : (es : List (Entry (Option Node))) → length (places_of es) ≡ length es
length_places [] = refl
length_places (e ∷ es) = length-append (places_of es) _ ∙ (let r = length_places es in let n : length (places_of es) + 1 ≡ suc (length es) = omega arith in n)

-- the nodes that have labels, followed by the places that are left, make the whole
pub record Turns (last : ℕ) (all : Places) (nodes : Listed Node) (places : List (Entry (Option Node))) : Type 0 where
  pub code : labelled_of nodes.entries ++ labelled_from last nodes.given (nodes_back (places_of places)) ≡ labelled_from last 0 (nodes_back all)
  pub few : nodes.given + length places ≤ most_nodes

pub turns-start : (last : ℕ) (all : Places) (nodes : Listed Node) (places : List (Entry (Option Node))) → nodes ≡ listed 0 [] → places_of places ≡ all → length all ≤ most_nodes → Turns last all nodes places
turns-start last all nodes places none is few =
    let a : length (places_of places) ≡ length places = length_places places in
    let b : length (places_of places) ≡ length all = ap length is in
    let short : 0 + length places ≤ most_nodes = omega arith in
    subst (λ l. Turns last all l places) (sym none) (record { code = ap (λ g. labelled_from last 0 (nodes_back g)) is; few = short })

pub turns-some : (last : ℕ) (all : Places) (nodes nodes' : Listed Node) (places places' : List (Entry (Option Node))) (label : ℕ) (node node' : Node) → Turns last all nodes places → places ≡ entry label (Some node) ∷ places'
    → node_of node' ≡ renamed (λ l. last - l) (node_of node) → nodes' ≡ listed (nodes.given + 1) (nodes.entries ++ entry nodes.given node' ∷ []) → Turns last all nodes' places'
turns-some last all nodes nodes' places places' label node node' before popped turned pushed =
    let on : nodes.given + 1 ≡ suc nodes.given = omega arith in
    let back : nodes_back (places_of places) ≡ node_of node ∷ nodes_back (places_of places') = ap (λ l. nodes_back (places_of l)) popped ∙ nodes_back-append (places_of places') (node_of node) in
    subst (λ l. Turns last all l places') (sym pushed) (record {
      code =
          ap (λ k. labelled_of (nodes.entries ++ entry nodes.given node' ∷ []) ++ labelled_from last k (nodes_back (places_of places'))) on
          ∙ ap (λ l. l ++ labelled_from last (suc nodes.given) (nodes_back (places_of places'))) (labelled_of-append nodes.entries _)
          ∙ append_assoc (labelled_of nodes.entries) _ (labelled_from last (suc nodes.given) (nodes_back (places_of places')))
          ∙ ap (λ n. labelled_of nodes.entries ++ (record { label = nodes.given; node = n } ∷ labelled_from last (suc nodes.given) (nodes_back (places_of places')))) turned
          ∙ ap (λ l. labelled_of nodes.entries ++ labelled_from last nodes.given l) (sym back) ∙ before.code;
      few = let a = before.few in let b = ap length popped in omega arith;
    })

pub turns-none : (last : ℕ) (all : Places) (nodes : Listed Node) (places places' : List (Entry (Option Node))) (label : ℕ) → Turns last all nodes places → places ≡ entry label None ∷ places' → Turns last all nodes places'
turns-none last all nodes places places' label before popped =
    let back : nodes_back (places_of places) ≡ nodes_back (places_of places') = ap (λ l. nodes_back (places_of l)) popped ∙ nodes_back-none (places_of places') in
    record {
      code = ap (λ l. labelled_of nodes.entries ++ labelled_from last nodes.given l) (sym back) ∙ before.code;
      few = let a = before.few in let b = ap length popped in omega arith;
    }

pub turns-end : (last : ℕ) (all : Places) (nodes : Listed Node) (places : List (Entry (Option Node))) → Turns last all nodes places → places ≡ [] → labelled_of nodes.entries ≡ labelled_from last 0 (nodes_back all)
turns-end last all nodes places before none = sym (append_nothing (labelled_of nodes.entries)) ∙ ap (λ l. labelled_of nodes.entries ++ labelled_from last nodes.given (nodes_back (places_of l))) (sym none) ∙ before.code

-- labels made in turn are consecutive numbers
pub numbered_from : (last from : ℕ) (ns : List rtl.Node) → AreNumbered from (labelled_from last from ns)
numbered_from last from [] = tt
numbered_from last from (n ∷ ns) = (refl, numbered_from last (suc from) ns)

-- ---- places that are added and closed

set_end : {A : Type 0} (xs : List A) (x y : A) (i : ℕ) → i ≡ length xs → set (xs ++ x ∷ []) i y ≡ xs ++ y ∷ []
set_end [] x y zero e = refl
set_end [] x y (suc i) e = absurd (omega arith)
set_end (z ∷ xs) x y zero e = absurd (omega arith)
set_end (z ∷ xs) x y (suc i) e = ap (λ l. z ∷ l) (set_end xs x y i (omega arith))

set_before : {A : Type 0} (xs : List A) (x y : A) (i : ℕ) → i < length xs → set (xs ++ x ∷ []) i y ≡ set xs i y ++ x ∷ []
set_before [] x y i lt = absurd (omega arith)
set_before (z ∷ xs) x y zero lt = refl
set_before (z ∷ xs) x y (suc i) lt = ap (λ l. z ∷ l) (set_before xs x y i (omega arith))

pub length_with_item : {T : Type 0} (es : List (Entry T)) (l : ℕ) (x : T) → length (with_item l x es) ≡ length es
length_with_item [] l x = refl
length_with_item (e ∷ es) l x = elim (e.label == l) as (λ t. length (if t then entry e.label x ∷ es else e ∷ with_item l x es) ≡ suc (length es)) [ true ↦ refl | false ↦ ap suc (length_with_item es l x) ]

pub counted_with_item : (es : List (Entry (Option Node))) (l : ℕ) (x : Option Node) → AreCountedDown es → AreCountedDown (with_item l x es)
counted_with_item [] l x a = tt
counted_with_item (e ∷ es) l x a =
    elim (e.label == l) as (λ t. AreCountedDown (if t then entry e.label x ∷ es else e ∷ with_item l x es)) [ true ↦ a | false ↦ (a.0 ∙ sym (length_with_item es l x), counted_with_item es l x a.1) ]

pub place_there : (es : List (Entry (Option Node))) (l : ℕ) → AreCountedDown es → l < length es → IsSome (item_at l es)
place_there [] l a lt = absurd (omega arith)
place_there (e ∷ es) l a lt =
    elim (e.label == l) as (λ t. (e.label == l) ≡ t → IsSome (if t then Some e.item else item_at l es)) [
      | true ↦ λ q. refl
      | false ↦ λ q. place_there es l a.1 (let o = other e.label l q in let c = a.0 in grind arith)
    ] refl
  where
    other : (m k : ℕ) → (m == k) ≡ false → m ≡ k → ⊥
    other m k q same = let v = same_test m k same in absurd cc

pub place_set : (es : List (Entry (Option Node))) (l : ℕ) (x : Option Node) → AreCountedDown es → l < length es → places_of (with_item l x es) ≡ set (places_of es) l (option_map node_of x)
place_set [] l x a lt = absurd (omega arith)
place_set (e ∷ es) l x a lt =
    let n = length_places es in
    elim (e.label == l) as (λ t. (e.label == l) ≡ t → places_of (if t then entry e.label x ∷ es else e ∷ with_item l x es) ≡ set (places_of es ++ option_map node_of e.item ∷ []) l (option_map node_of x)) [
      | true ↦ λ q. let same = (Decides-eqb e.label l).0 q in let c = a.0 in sym (set_end (places_of es) (option_map node_of e.item) (option_map node_of x) l (omega arith))
      | false ↦ λ q.
          let below : l < length es = let o = other e.label l q in let c = a.0 in grind arith in
          ap (λ g. g ++ option_map node_of e.item ∷ []) (place_set es l x a.1 below) ∙ sym (set_before (places_of es) (option_map node_of e.item) (option_map node_of x) l (omega arith))
    ] refl
  where
    other : (m k : ℕ) → (m == k) ≡ false → m ≡ k → ⊥
    other m k q same = let v = same_test m k same in absurd cc

-- ---- the first of a list

module _ {T : Type 0} where
  pub none_first : (es : List (Entry T)) → first_label es ≡ None → es ≡ []
  none_first [] h = refl
  none_first (e ∷ es) h = absurd (let z : Some e.label ≡ None = h in cc)

  first_is : (e : Entry T) (es : List (Entry T)) (l : ℕ) → first_label (e ∷ es) ≡ Some l → (e.label == l) ≡ true
  first_is e es l h = same_test e.label l (same_Some e.label l h)

  pub first_there : (es : List (Entry T)) (l : ℕ) → first_label es ≡ Some l → IsSome (item_at l es)
  first_there [] l h = absurd (let z : None ≡ Some l = h in cc)
  first_there (e ∷ es) l h = subst (λ t. IsSome (if t then Some e.item else item_at l es)) (sym (first_is e es l h)) refl

  pub put_prefix : (es : List (Entry T)) (l : ℕ) (new : Entry T) → first_label es ≡ Some l → with_before l new es ≡ new ∷ es
  put_prefix [] l new h = absurd (let z : None ≡ Some l = h in cc)
  put_prefix (e ∷ es) l new h = ap (λ t. if t then new ∷ e ∷ es else e ∷ with_before l new es) (first_is e es l h)

  pub first_out : (es : List (Entry T)) (l : ℕ) (x : T) → first_label es ≡ Some l → item_at l es ≡ Some x → es ≡ entry l x ∷ without l es
  first_out [] l x h i = absurd (let z : None ≡ Some l = h in cc)
  first_out (e ∷ es) l x h i =
      let t = first_is e es l h in
      let label : e.label ≡ l = same_Some e.label l h in
      let item : e.item ≡ x = same_Some e.item x (sym (ap (λ b. if b then Some e.item else item_at l es) t) ∙ i) in
      ap (λ k. entry k e.item ∷ es) label ∙ ap (λ y. entry l y ∷ es) item ∙ ap (λ rest. entry l x ∷ rest) (sym (ap (λ b. if b then es else e ∷ without l es) t))
