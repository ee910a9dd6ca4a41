-- What the answer of linking says about pieces, and why the unit that they make agrees with its text.
use Rattle.std.proofs.Common.{◌≡◌, ℕ, zero, suc, ◌+◌, ◌<◌, ◌≤◌, ◌==◌, Bool, true, false, if◌then◌else◌, nat_lt, List, [], ◌∷◌, length, get_or, map, Option, Some, None, is_some, Result, Ok, Err, refl, sym, ap, ◌∙◌, subst, arith}
use Rattle.std.proofs.Math.Logic.{∥∥₁_elim, ∥∥₁_map, ∥∥₁_map₂, ∥∥₁_prop}
use Rattle.std.proofs.lemmas.Bool.{ltb-false, eqb-true}
use Rattle.std.proofs.lemmas.List.{length-map}
use Rattle.std.proofs.lemmas.List.Elements.{All-head, All-tail}
use Rattle.std.specs.Prelude.{All}
use Rattle.std.specs.List.{AllByRecursion}
use Rattle.std.specs.Option.{option_or}
use Rattle.std.specs.Cmp.Lexicographic.{same_text}
use Rattle.cc_tokens.specs.Tokens.{TokensAreOne}
use Rattle.cc_ast.specs.Tree.{External}
use Rattle.cc_ast.specs.Source.{source}
use Rattle.cc_ast.specs.Limits.{TreesAreOne}
use Rattle.cc_ast.specs.Parse.{SpellsText}
use Rattle.cc_types.specs.Limits.{objects}
use Rattle.cc_link.proofs.Sizes.{AllKept}
use Rattle.cc_c_semantics.specs.declared.mode.Mode.{Mode}
use Rattle.cc_c_semantics.specs.declared.mode.Mode.TheVariants.{Plain, Checked}
use Rattle.cc_c_semantics.specs.Meaning.{functions}
use Rattle.cc_c_semantics.specs.Calls.{TypedUnitsHaveMain, ObjectsAreSized}
use Rattle.cc_c_semantics.specs.Numbered.{TypedUnitsHaveMeanings, ProgramsAreNumbered, CheckedFollows}
use Rattle.cc_unit.specs.declared.unit.StoredUnit.{StoredUnit}
use Rattle.cc_emit.specs.declared.item.PieceItem.{PieceItem}
use Rattle.cc_emit.specs.Piece.{Piece, tree_of, AreOf, IsPieceOfUnit}
use Rattle.cc_link.specs.declared.fault.LinkFault.{LinkFault}
use Rattle.cc_link.specs.declared.fault.LinkFault.TheVariants.{ImageTooLarge, Missing, Stranger}
use Rattle.cc_link.specs.Agree.{AgreeIn, AgreementIn, Agreement, image_behavior}
use Rattle.cc_rv32.specs.declared.image.Image.{Image}
use Rattle.cc_types.specs.Verdict.{source_with}
use Rattle.cc_link.specs.Link.{code_words, most_code}
use Rattle.cc_link.specs.Linked.{same_bytes, same_mode, stranger, doubled, piece_of, missing, put_first, in_order, ordered, all_items, bodies, too_large, link_refusal, unit_of, unless_refused}
use Rattle.cc_link.specs.Laws.{LinkedUnitsAgree, LinkedUnitsFollow, AgreeInAgree}
use Rattle.cc_link.specs.Stack.{frames, BackedAgreement, LinkedUnitsAreBacked}
use Rattle.cc_link.proofs.Agreeing.{unit_follows, unit_backed}

-- ---- refusals

abbrev pub IsNone : Option LinkFault → Type 0
IsNone None = Unit {0}
IsNone (Some f) = ⊥

pub none_or : (a b : Option LinkFault) → option_or a b ≡ None → (a ≡ None) × (b ≡ None)
none_or None b e = (refl, e)
none_or (Some f) b e = absurd (subst IsNone (sym e) tt)

pub not_refused : (o : Option LinkFault) (made u : StoredUnit) → unless_refused o made ≡ Ok u → (o ≡ None) × (made ≡ u)
not_refused None made u e = (refl, let h : ◌≡◌ {A = Result StoredUnit LinkFault} (Ok made) (Ok u) = e in cc)
not_refused (Some f) made u e = absurd (let h : ◌≡◌ {A = Result StoredUnit LinkFault} (Err f) (Ok u) = e in cc)

-- ---- one text, so one tree

abbrev pub AreOfText : Mode → List ℕ → List Piece → Type 0
AreOfText mode text [] = Unit {0}
AreOfText mode text (p ∷ ps) = ((p.mode ≡ mode) × ((source p.unit).text ≡ text)) × AreOfText mode text ps

abbrev pub AreOfTree : Mode → List External → List Piece → Type 0
AreOfTree mode tree [] = Unit {0}
AreOfTree mode tree (p ∷ ps) = ((p.mode ≡ mode) × (tree_of p ≡ tree)) × AreOfTree mode tree ps

same_modes : (a b : Mode) → same_mode a b ≡ true → a ≡ b
same_modes Plain Plain e = refl
same_modes Checked Checked e = refl
same_modes Plain Checked e = absurd (let h : false ≡ true = e in cc)
same_modes Checked Plain e = absurd (let h : false ≡ true = e in cc)

pub one_text : (mode : Mode) (text : List ℕ) (at : ℕ) (ps : List Piece) → stranger mode text at ps ≡ None → AreOfText mode text ps
one_text mode text at [] e = tt
one_text mode text at (p ∷ ps) e = by (same_mode p.mode mode) (same_bytes (source p.unit).text text) (λ f. one_text mode text (suc at) ps f) refl refl e
  where
    by : (m b : Bool) → (stranger mode text (suc at) ps ≡ None → AreOfText mode text ps) → same_mode p.mode mode ≡ m → same_bytes (source p.unit).text text ≡ b
        → (if (if m then b else false) then stranger mode text (suc at) ps else Some (Stranger p.function at)) ≡ None → AreOfText mode text (p ∷ ps)
    by true true again one is e = ((same_modes p.mode mode one, same_text (source p.unit).text text (sym is)), again e)
    by true false again one is e = absurd (subst IsNone (sym e) tt)
    by false b again one is e = absurd (subst IsNone (sym e) tt)

module _ (tokens : TokensAreOne) (trees : TreesAreOne) where
  spelled_alike : (text : List ℕ) (a b : List External) → SpellsText text a → SpellsText text b → a ≡ b
  spelled_alike text a b h k = trees h.tokens a b (h.spelled.0, h.spelled.1, h.spelled.3) (k.spelled.0, k.spelled.1, k.spelled.3 ∙ tokens text k.tokens h.tokens k.are h.are)

  pub one_tree : (mode : Mode) (text : List ℕ) (tree : List External) → SpellsText text tree → (ps : List Piece) → AreOfText mode text ps → ∥ AreOfTree mode tree ps ∥₁
  one_tree mode text tree spelled [] h = ∣ tt ∣₁
  one_tree mode text tree spelled (p ∷ ps) h =
      ∥∥₁_map₂ p.unit.spelled (one_tree mode text tree spelled ps h.1) (λ s rest. ((h.0.0, spelled_alike text (tree_of p) tree (subst (λ t. SpellsText t (tree_of p)) h.0.1 s) spelled), rest))

-- ---- each function has its piece

-- if a piece is found for function f, it is a piece of f, and `Is` is true of it if `Is` is true of all the
-- pieces
pub found : (Is : Piece → Type 0) (ps : List Piece) (f : ℕ) (p : Piece) → AllByRecursion Is ps → piece_of ps f ≡ Some p → (p.function ≡ f) × Is p
found Is [] f p all e = absurd (let h : ◌≡◌ {A = Option Piece} None (Some p) = e in cc)
found Is (q ∷ ps) f p all e = by (q.function == f) (λ d. found Is ps f p all.1 d) refl e
  where
    by : (b : Bool) → (piece_of ps f ≡ Some p → (p.function ≡ f) × Is p) → (q.function == f) ≡ b → (if b then Some q else piece_of ps f) ≡ Some p → (p.function ≡ f) × Is p
    by true again is e =
        let same : q ≡ p = let h : ◌≡◌ {A = Option Piece} (Some q) (Some p) = e in cc in
        subst (λ (r : Piece). (r.function ≡ f) × Is r) same (eqb-true q.function f is, all.0)
    by false again is e = again e

-- these are pieces of the functions from `from` on, one for each, in order
abbrev pub EachFrom : (Is : Piece → Type 0) (from : ℕ) → List Piece → Type 0
EachFrom Is from [] = Unit {0}
EachFrom Is from (p ∷ ps) = (p.function ≡ from) × Is p × EachFrom Is (suc from) ps

pub ordered_each : (Is : Piece → Type 0) (ps : List Piece) → AllByRecursion Is ps → (from count : ℕ) → missing ps from count ≡ None → EachFrom Is from (in_order ps from count)
ordered_each Is ps all from zero e = tt
ordered_each Is ps all from (suc count) e = by (piece_of ps from) (λ d. ordered_each Is ps all (suc from) count d) refl e
  where
    by : (o : Option Piece) → (missing ps (suc from) count ≡ None → EachFrom Is (suc from) (in_order ps (suc from) count)) → piece_of ps from ≡ o → (if is_some o then missing ps (suc from) count else Some (Missing from)) ≡ None
        → EachFrom Is from (put_first o (in_order ps (suc from) count))
    by None again is h = absurd (subst IsNone (sym h) tt)
    by (Some p) again is h = let one = found Is ps from p all is in (one.0, one.1, again h)

pub order_long : (ps : List Piece) (from count : ℕ) → missing ps from count ≡ None → length (in_order ps from count) ≡ count
order_long ps from zero e = refl
order_long ps from (suc count) e = by (piece_of ps from) (λ d. order_long ps (suc from) count d) e
  where
    by : (o : Option Piece) → (missing ps (suc from) count ≡ None → length (in_order ps (suc from) count) ≡ count) → (if is_some o then missing ps (suc from) count else Some (Missing from)) ≡ None
        → length (put_first o (in_order ps (suc from) count)) ≡ suc count
    by None again h = absurd (subst IsNone (sym h) tt)
    by (Some p) again h = ap suc (again h)

pub bodies_long : (tree : List External) (ps : List Piece) → missing ps 0 (length (functions tree)) ≡ None → length (bodies tree ps) ≡ length (functions tree)
bodies_long tree ps e = length-map (ordered tree ps) (λ (p : Piece). p.items) ∙ order_long ps 0 (length (functions tree)) e

-- the piece is in this mode, of a unit with this tree, and has what its type keeps
abbrev IsOfTree : Mode → List External → Piece → Type 0
IsOfTree mode tree p = ((p.mode ≡ mode) × (tree_of p ≡ tree)) × IsPieceOfUnit p

each_of : (mode : Mode) (tree : List External) (ps : List Piece) → AreOfTree mode tree ps → All IsPieceOfUnit ps → AllByRecursion (IsOfTree mode tree) ps
each_of mode tree [] t k = tt
each_of mode tree (p ∷ ps) t k = ((t.0, All-head IsPieceOfUnit p ps k), each_of mode tree ps t.1 (All-tail IsPieceOfUnit p ps k))

abbrev all_frames : List Piece → List ℕ
all_frames ps = map (λ (p : Piece). p.frame) ps

does_at : (mode : Mode) (tree : List External) (from f : ℕ) (ps : List Piece) → EachFrom (IsOfTree mode tree) from ps → f < length ps → AreOf mode tree (from + f) (get_or (all_frames ps) f 0) (get_or (all_items ps) f [])
does_at mode tree from f [] h lt = absurd (omega arith)
does_at mode tree from zero (p ∷ ps) h lt =
    let here : p.function ≡ from + 0 = h.0 ∙ omega arith in
    let own : AreOf mode (tree_of p) p.function p.frame p.items = subst (λ (m : Mode). AreOf m (tree_of p) p.function p.frame p.items) h.1.0.0 h.1.1.items in
    subst (λ g. AreOf mode tree g p.frame p.items) here (subst (λ (u : List External). AreOf mode u p.function p.frame p.items) h.1.0.1 own)
does_at mode tree from (suc f) (p ∷ ps) h lt =
    let here : suc from + f ≡ from + suc f = omega arith in
    subst (λ g. AreOf mode tree g (get_or (all_frames ps) f 0) (get_or (all_items ps) f [])) here (does_at mode tree (suc from) f ps h.2 (omega arith))

pub bodies_are : (mode : Mode) (tree : List External) (ps : List Piece) → AreOfTree mode tree ps → All IsPieceOfUnit ps → missing ps 0 (length (functions tree)) ≡ None → (f : ℕ) → f < length (functions tree)
    → AreOf mode tree f (get_or (frames tree ps) f 0) (get_or (bodies tree ps) f [])
bodies_are mode tree ps t k e f lt =
    let here : 0 + f ≡ f = omega arith in
    let long = order_long ps 0 (length (functions tree)) e in
    subst (λ g. AreOf mode tree g (get_or (frames tree ps) f 0) (get_or (bodies tree ps) f [])) here (does_at mode tree 0 f (ordered tree ps) (ordered_each (IsOfTree mode tree) ps (each_of mode tree ps t k) 0 (length (functions tree)) e) (omega (arith, long, lt)))

pub small : (fs : List (List PieceItem)) → too_large fs ≡ None → code_words fs ≤ most_code
small fs e = by (nat_lt most_code (code_words fs)) refl e
  where
    by : (b : Bool) → nat_lt most_code (code_words fs) ≡ b → (if b then Some ImageTooLarge else None) ≡ None → code_words fs ≤ most_code
    by true is e = absurd (subst IsNone (sym e) tt)
    by false is e = ltb-false 131072 (code_words fs) is

-- ---- the law

-- if an image agrees with a text in some mode, it agrees with the text
agreement_of : CheckedFollows → (mode : Mode) (text : List ℕ) (image : Image) → AgreementIn mode text image → Agreement text image
agreement_of law Plain text image a = record { tree = a.tree; spelled = a.spelled; typed = a.typed; follows = λ input are. a.follows input are }
agreement_of law Checked text image a = record {
  tree = a.tree;
  spelled = a.spelled;
  typed = a.typed;
  follows = λ input are. law (source_with text a.tree) input (image_behavior image input) (a.follows input are);
}

pub agree_in_agree : CheckedFollows → AgreeInAgree
agree_in_agree law mode text image a = ∥∥₁_map a (agreement_of law mode text image)

module _ (tokens : TokensAreOne) (trees : TreesAreOne) (meanings : TypedUnitsHaveMeanings) (mains : TypedUnitsHaveMain) (programs : ProgramsAreNumbered) (sized : ObjectsAreSized)
    (constants : (text : List ℕ) (tree : List External) → SpellsText text tree → AllKept (objects tree)) where
  pub units_follow : LinkedUnitsFollow
  units_follow mode s pieces u spelled checked all e =
      let n = not_refused (link_refusal mode s pieces) (unit_of s pieces) u e in
      let a = none_or (stranger mode s.text 0 pieces) _ n.0 in
      let b = none_or (doubled [] 0 pieces) _ a.1 in
      let c = none_or (missing pieces 0 (length (functions s.externals))) _ b.1 in (
        ap (λ (v : StoredUnit). v.source) (sym n.1),
        subst (λ (v : StoredUnit). AgreeIn mode s.text v.image) n.1
            (∥∥₁_elim spelled ∥∥₁_prop (λ (h : SpellsText s.text s.externals). ∥∥₁_map (one_tree tokens trees mode s.text s.externals h pieces (one_text mode s.text 0 pieces a.0)) (λ (t : AreOfTree mode s.externals pieces). record {
              tree = s.externals;
              spelled = h;
              typed = checked.typed;
              follows = unit_follows meanings mains programs sized mode s.text s.externals checked.typed checked.limits (constants s.text s.externals h) (frames s.externals pieces) (bodies s.externals pieces) (bodies_long s.externals pieces c.0)
                  (small (bodies s.externals pieces) c.1) (bodies_are mode s.externals pieces t all c.0);
            }))),
      )

  pub units_agree : CheckedFollows → LinkedUnitsAgree
  units_agree law s pieces u spelled checked all e = let h = units_follow Plain s pieces u spelled checked all e in (h.0, agree_in_agree law Plain s.text u.image h.1)

  -- the image that pieces make follows its program on a board that backs only the stack that the image takes
  pub units_are_backed : LinkedUnitsAreBacked
  units_are_backed mode s pieces u spelled checked all e bytes enough few =
      let n = not_refused (link_refusal mode s pieces) (unit_of s pieces) u e in
      let a = none_or (stranger mode s.text 0 pieces) _ n.0 in
      let b = none_or (doubled [] 0 pieces) _ a.1 in
      let c = none_or (missing pieces 0 (length (functions s.externals))) _ b.1 in
      subst (λ (v : StoredUnit). ∥ BackedAgreement mode s.text bytes v.image ∥₁) n.1
      (∥∥₁_elim spelled ∥∥₁_prop (λ (h : SpellsText s.text s.externals). ∥∥₁_map (one_tree tokens trees mode s.text s.externals h pieces (one_text mode s.text 0 pieces a.0)) (λ (t : AreOfTree mode s.externals pieces). record {
        tree = s.externals;
        spelled = h;
        typed = checked.typed;
        follows = λ input are. unit_backed meanings mains programs sized mode s.text s.externals checked.typed checked.limits (constants s.text s.externals h) (frames s.externals pieces) (bodies s.externals pieces) (bodies_long s.externals pieces c.0)
            (small (bodies s.externals pieces) c.1) (bodies_are mode s.externals pieces t all c.0) bytes enough few input are;
      })))
