-- From what the code has found about pieces to linking's answer.
use Rattle.std.proofs.Common.{◌≡◌, ℕ, suc, ◌+◌, ◌*◌, ◌<◌, ◌≤◌, List, [], ◌∷◌, length, map, get_or, Option, Some, None, Ok, Err, if◌then◌else◌, refl, sym, ap, ◌∙◌, subst, arith, length-append}
use Rattle.std.proofs.Math.Bridge.{le_prop}
use Rattle.std.proofs.Math.Logic.{∥∥₁_elim}
use Rattle.std.proofs.lemmas.List.{length-map}
use Rattle.std.proofs.lemmas.Bool.{lt-ltb, le-ltb}
use Rattle.std.specs.Prelude.{All}
use Rattle.std.specs.Option.{option_or}
use Rattle.cc_tokens.specs.Tokens.{TokensAreOne}
use Rattle.cc_ast.specs.Tree.{Name, External, Source, Declaration, Definition, Objects}
use Rattle.cc_ast.specs.Limits.{TreesAreOne}
use Rattle.cc_ast.specs.Parse.{SpellsText}
use Rattle.cc_types.specs.Scope.{FileScope, first_file_scope, file_scope_behind}
use Rattle.cc_types.specs.Limits.{function_names}
use Rattle.cc_types.specs.Typed.{IsTyped, IsWithinLimits, defined_names}
use Rattle.cc_c_semantics.specs.declared.mode.Mode.{Mode}
use Rattle.cc_c_semantics.specs.Meaning.{functions, functions_from}
use Rattle.cc_c_semantics.specs.Calls.{ObjectsAreSized}
use Rattle.cc_c_semantics.specs.Numbered.{TypedUnitsHaveMeanings}
use Rattle.cc_simulation.specs.World.{Size}
use Rattle.cc_emit.specs.declared.item.PieceItem.{PieceItem}
use Rattle.cc_emit.specs.declared.item.PieceItem.TheVariants.{Plain, Call, Go}
use Rattle.cc_emit.specs.Contract.{AreFit}
use Rattle.cc_emit.specs.Piece.{Piece, IsPieceOfUnit}
use Rattle.cc_link.specs.declared.fault.LinkFault.{LinkFault}
use Rattle.cc_link.specs.declared.fault.LinkFault.TheVariants.{ImageTooLarge}
use Rattle.cc_rv32.specs.Table.{encoding_of}
use Rattle.cc_link.specs.Link.{fill, fill_all, size_of, head, place_of, linked_code, encoded, code_words, most_code}
use Rattle.cc_link.specs.Linked.{stranger, doubled, missing, bodies, unit_of, unless_refused, linked_in}
use Rattle.cc_link.specs.internal.Filling.{StaysIn, StayIn, AllStayIn}
use Rattle.cc_link.proofs.Laying.{total, laid_out, laid_in_order}
use Rattle.cc_link.proofs.Placing.{length_fill}
use Rattle.cc_link.proofs.Sizes.{few_words}
use Rattle.cc_link.proofs.Linked.{AreOfTree, one_text, one_tree, bodies_long, bodies_are}

-- ---- how many functions

names_long : (es : List External) (f : FileScope) → length (map (λ (x : Name). x.text) (function_names es)) ≡ length (functions_from es f)
names_long [] f = refl
names_long (Declaration s ∷ es) f = names_long es (file_scope_behind (Declaration s) f)
names_long (Definition s b ∷ es) f = ap suc (names_long es (file_scope_behind (Definition s b) f))
names_long (Objects t os ∷ es) f = names_long es (file_scope_behind (Objects t os) f)

pub defined_long : (s : Source) → length (defined_names s) ≡ length (functions s.externals)
defined_long s = names_long s.externals first_file_scope

-- ---- items stay in their functions

stays_prop : (functions long : ℕ) (i : PieceItem) → IsProp (StaysIn functions long i)
stays_prop functions long (Plain i) = hlevel
stays_prop functions long (Call f) = le_prop
stays_prop functions long (Go n) = le_prop

stay_prop : (functions long : ℕ) (items : List PieceItem) → IsProp (StayIn functions long items)
stay_prop functions long [] = hlevel
stay_prop functions long (i ∷ is) = hlevel (stays_prop functions long i, stay_prop functions long is)

all_stay_prop : (functions : ℕ) (fs : List (List PieceItem)) → IsProp (AllStayIn functions fs)
all_stay_prop functions [] = hlevel
all_stay_prop functions (f ∷ fs) = hlevel (stay_prop functions (length f) f, all_stay_prop functions fs)

stay_of : (functions long : ℕ) (items : List PieceItem) → AreFit functions long items → StayIn functions long items
stay_of functions long [] h = tt
stay_of functions long (Plain i ∷ is) h = (tt, stay_of functions long is h.1)
stay_of functions long (Call f ∷ is) h = (h.0, stay_of functions long is h.1)
stay_of functions long (Go n ∷ is) h = (h.0, stay_of functions long is h.1)

all_stay : (functions : ℕ) (fs : List (List PieceItem)) → ((f : ℕ) → f < length fs → StayIn functions (length (get_or fs f [])) (get_or fs f [])) → AllStayIn functions fs
all_stay functions [] h = tt
all_stay functions (f ∷ fs) h = (h 0 (omega arith), all_stay functions fs (λ g lt. h (suc g) (omega arith)))

module _ (tokens : TokensAreOne) (trees : TreesAreOne) (meanings : TypedUnitsHaveMeanings) (sized : ObjectsAreSized) where
  stay_by : (mode : Mode) (tree : List External) (ps : List Piece) → IsTyped tree → IsWithinLimits tree → AreOfTree mode tree ps → All IsPieceOfUnit ps → missing ps 0 (length (functions tree)) ≡ None → AllStayIn (length (functions tree)) (bodies tree ps)
  stay_by mode tree ps typed limits t k e =
      let made = meanings mode tree typed in
      let few : total made.0.objects ≤ 65536 = subst (λ (os : List Size). total os ≤ 65536) (sym made.1.objects) (few_words sized tree typed limits) in
      all_stay (length (functions tree)) (bodies tree ps) (λ f lt.
      let piece = bodies_are mode tree ps t k e f (subst (λ n. f < n) (bodies_long tree ps e) lt) made.0 made.1 (laid_out made.0.objects few) (laid_in_order made.0.objects few) in
      stay_of (length (functions tree)) (length (get_or (bodies tree ps) f [])) (get_or (bodies tree ps) f []) (subst (λ n. AreFit n (length (get_or (bodies tree ps) f [])) (get_or (bodies tree ps) f [])) made.1.functions piece.fit))

  pub bodies_stay : (mode : Mode) (s : Source) (ps : List Piece) → ∥ SpellsText s.text s.externals ∥₁ → IsTyped s.externals → IsWithinLimits s.externals → stranger mode s.text 0 ps ≡ None → All IsPieceOfUnit ps → missing ps 0 (length (functions s.externals)) ≡ None
      → AllStayIn (length (functions s.externals)) (bodies s.externals ps)
  bodies_stay mode s ps spelled typed limits a k e =
      ∥∥₁_elim spelled (all_stay_prop _ _) (λ (h : SpellsText s.text s.externals).
      ∥∥₁_elim (one_tree tokens trees mode s.text s.externals h ps (one_text mode s.text 0 ps a)) (all_stay_prop _ _) (λ (t : AreOfTree mode s.externals ps). stay_by mode s.externals ps typed limits t k e))

-- ---- linking's answer

or_none : (a b : Option LinkFault) → a ≡ None → option_or a b ≡ b
or_none a b e = ap (λ o. option_or o b) e

or_some : (a b : Option LinkFault) (f : LinkFault) → a ≡ Some f → option_or a b ≡ Some f
or_some a b f e = ap (λ o. option_or o b) e

pub stranger_refused : (mode : Mode) (s : Source) (ps : List Piece) (f : LinkFault) → stranger mode s.text 0 ps ≡ Some f → linked_in mode s ps ≡ Err f
stranger_refused mode s ps f e = ap (λ o. unless_refused o (unit_of s ps)) (or_some (stranger mode s.text 0 ps) _ f e)

pub doubled_refused : (mode : Mode) (s : Source) (ps : List Piece) (f : LinkFault) → stranger mode s.text 0 ps ≡ None → doubled [] 0 ps ≡ Some f → linked_in mode s ps ≡ Err f
doubled_refused mode s ps f a e = ap (λ o. unless_refused o (unit_of s ps)) (or_none (stranger mode s.text 0 ps) _ a ∙ or_some (doubled [] 0 ps) _ f e)

pub missing_refused : (mode : Mode) (s : Source) (ps : List Piece) (f : LinkFault) → stranger mode s.text 0 ps ≡ None → doubled [] 0 ps ≡ None → missing ps 0 (length (functions s.externals)) ≡ Some f → linked_in mode s ps ≡ Err f
missing_refused mode s ps f a b e = ap (λ o. unless_refused o (unit_of s ps)) (or_none (stranger mode s.text 0 ps) _ a ∙ or_none (doubled [] 0 ps) _ b ∙ or_some (missing ps 0 (length (functions s.externals))) _ f e)

pub large_refused : (mode : Mode) (s : Source) (ps : List Piece) → stranger mode s.text 0 ps ≡ None → doubled [] 0 ps ≡ None → missing ps 0 (length (functions s.externals)) ≡ None → most_code < code_words (bodies s.externals ps) → linked_in mode s ps ≡ Err ImageTooLarge
large_refused mode s ps a b c large =
    ap (λ o. unless_refused o (unit_of s ps)) (or_none (stranger mode s.text 0 ps) _ a ∙ or_none (doubled [] 0 ps) _ b ∙ or_none (missing ps 0 (length (functions s.externals))) _ c
    ∙ ap (λ t. if t then Some ImageTooLarge else None) (lt-ltb most_code (code_words (bodies s.externals ps)) large))

pub linked_ok : (mode : Mode) (s : Source) (ps : List Piece) → stranger mode s.text 0 ps ≡ None → doubled [] 0 ps ≡ None → missing ps 0 (length (functions s.externals)) ≡ None → code_words (bodies s.externals ps) ≤ most_code → linked_in mode s ps ≡ Ok (unit_of s ps)
linked_ok mode s ps a b c small =
    ap (λ o. unless_refused o (unit_of s ps)) (or_none (stranger mode s.text 0 ps) _ a ∙ or_none (doubled [] 0 ps) _ b ∙ or_none (missing ps 0 (length (functions s.externals))) _ c
    ∙ ap (λ t. if t then Some ImageTooLarge else None) (le-ltb most_code (code_words (bodies s.externals ps)) small))

-- ---- how long the code is

all_long : (p : ℕ → ℕ) (a : ℕ) (fs : List (List PieceItem)) → length (fill_all p a fs) ≡ size_of fs
all_long p a [] = refl
all_long p a (f ∷ fs) = length-append (fill p a a f) (fill_all p (a + 4 * length f) fs) ∙ ap (λ n. n + length (fill_all p (a + 4 * length f) fs)) (length_fill p a a f) ∙ ap (λ n. length f + n) (all_long p (a + 4 * length f) fs)

pub code_long : (main : ℕ) (fs : List (List PieceItem)) → length (encoded (linked_code main fs)) ≡ code_words fs
code_long main fs = length-map (linked_code main fs) encoding_of ∙ length-append (fill (place_of fs) 0x10000 0x10000 (head main)) (fill_all (place_of fs) 0x1000c fs) ∙ ap (λ n. 3 + n) (all_long (place_of fs) 0x1000c fs)
