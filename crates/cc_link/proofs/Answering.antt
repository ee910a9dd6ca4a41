-- What `made_in` answers, given the results of its steps. The parameters say: a, that no piece is a stranger; b, that none is
-- doubled; m, that none is missing; n, how many functions there are; o, which their pieces are; i, which their items are.
use Rattle.std.proofs.Common.{◌≡◌, ℕ, ◌<◌, ◌≤◌, ◌^◌, ◌⊎◌, inl, inr, List, [], length, Some, None, Ok, Err, sym, ap, ◌∙◌, subst, arith}
use Rattle.std.proofs.lemmas.List.{length-map}
use Rattle.std.specs.Borrow.{Bor}
use Rattle.std.specs.Prelude.{All}
use Rattle.cc_tokens.specs.Tokens.{TokensAreOne}
use Rattle.cc_ast.specs.Tree.{Source}
use Rattle.cc_ast.specs.Limits.{TreesAreOne}
use Rattle.cc_ast.specs.Parse.{SpellsText}
use Rattle.cc_types.specs.Typed.{IsTyped, IsWithinLimits, defined_names}
use Rattle.cc_types.specs.Checked.{IsChecked}
use Rattle.cc_c_semantics.specs.declared.mode.Mode.{Mode}
use Rattle.cc_c_semantics.specs.Meaning.{functions}
use Rattle.cc_c_semantics.specs.Calls.{ObjectsAreSized}
use Rattle.cc_c_semantics.specs.Numbered.{TypedUnitsHaveMeanings}
use Rattle.cc_unit.specs.declared.unit.StoredUnit.{StoredUnit}
use Rattle.cc_emit.specs.declared.item.PieceItem.{PieceItem}
use Rattle.cc_emit.specs.Piece.{Piece, IsPieceOfUnit}
use Rattle.cc_link.specs.declared.fault.LinkFault.{LinkFault}
use Rattle.cc_link.specs.declared.fault.LinkFault.TheVariants.{ImageTooLarge, OutOfMemory}
use Rattle.cc_link.specs.Agree.{AgreeIn}
use Rattle.cc_link.specs.Link.{code_words, most_code}
use Rattle.cc_link.specs.Certificate.{certificate_of}
use Rattle.cc_link.specs.Linked.{stranger, doubled, missing, in_order, ordered, all_items, all_ltl, bodies, image_of, lent_pieces, linked_in, unit_of}
use Rattle.cc_link.specs.Laws.{LinkedUnitsFollow}
use Rattle.cc_link.specs.Stack.{IsBackedFrom, LinkedUnitsAreBacked, stack_of}
use Rattle.cc_link.specs.internal.Filling.{lent, AllStayIn}
use Rattle.cc_link.proofs.Few.{few_functions}
use Rattle.cc_link.proofs.Linked.{order_long, bodies_long}
use Rattle.cc_link.proofs.Deciding.{defined_long, bodies_stay, missing_refused, large_refused, linked_ok}

module _ (mode : Mode) (s : Source) (ps : List Piece) (count : ℕ) (a : stranger mode s.text 0 ps ≡ None) (b : doubled [] 0 ps ≡ None) (n : count ≡ length (defined_names s)) where
  number : count ≡ length (functions s.externals)
  number = n ∙ defined_long s

  -- if the pieces are refused because one is missing, linking is refused with the same fault
  pub order_refused : (fault : LinkFault) → (fault ≡ OutOfMemory) ⊎ (missing ps 0 count ≡ Some fault) → (fault ≡ OutOfMemory) ⊎ (linked_in mode s ps ≡ Err fault)
  order_refused fault (inl e) = inl e
  order_refused fault (inr e) = inr (missing_refused mode s ps fault a b (ap (λ k. missing ps 0 k) (sym number) ∙ e))

  module _ (os : List (Bor Piece)) (fs : List (Bor (List PieceItem))) (m : missing ps 0 count ≡ None) (o : lent_pieces os ≡ in_order ps 0 count) (i : lent fs ≡ all_items (lent_pieces os)) where
    none : missing ps 0 (length (functions s.externals)) ≡ None
    none = ap (λ k. missing ps 0 k) (sym number) ∙ m

    are_ordered : lent_pieces os ≡ ordered s.externals ps
    are_ordered = o ∙ ap (λ k. in_order ps 0 k) number

    pub are_bodies : lent fs ≡ bodies s.externals ps
    are_bodies = i ∙ ap (λ (l : List Piece). all_items l) are_ordered

    -- if the code has too many words, linking is refused with ImageTooLarge
    pub size_refused : most_code < code_words (lent fs) → linked_in mode s ps ≡ Err ImageTooLarge
    size_refused large = large_refused mode s ps a b none (subst (λ (l : List (List PieceItem)). most_code < code_words l) are_bodies large)

    -- there are as many lists of items as functions
    pub count_is : length fs ≡ length (functions s.externals)
    count_is = sym (length-map fs (λ (c : Bor (List PieceItem)). c.now)) ∙ ap (λ (l : List (List PieceItem)). length l) are_bodies ∙ bodies_long s.externals ps none

    -- the number of pieces fits in four bytes
    pub few_is : IsWithinLimits s.externals → length os < 2 ^ 32
    few_is limits =
        let long : length os ≡ length (functions s.externals) = sym (length-map os (λ (c : Bor Piece). c.now)) ∙ ap (λ (l : List Piece). length l) are_ordered ∙ order_long ps 0 (length (functions s.externals)) none in
        let few = few_functions s limits in
        omega (arith, long, few, defined_long s)

    -- all items stay in their functions
    pub stay_is : TokensAreOne → TreesAreOne → TypedUnitsHaveMeanings → ObjectsAreSized → ∥ SpellsText s.text s.externals ∥₁ → IsTyped s.externals → IsWithinLimits s.externals → All IsPieceOfUnit ps → AllStayIn (length fs) (lent fs)
    stay_is tokens trees meanings sized spelled typed limits all =
        subst (λ k. AllStayIn k (lent fs)) (sym count_is) (subst (λ (l : List (List PieceItem)). AllStayIn (length (functions s.externals)) l) (sym are_bodies) (bodies_stay tokens trees meanings sized mode s ps spelled typed limits a all none))

    -- if the code fits, linking answers the unit that was made
    pub answer_is : (u : StoredUnit) → code_words (lent fs) ≤ most_code → u ≡ record { source = s.text; image = image_of s.externals (lent fs); certificate = Some (certificate_of (all_ltl (lent_pieces os))) } → linked_in mode s ps ≡ Ok u
    answer_is u few e =
        let same : record { source = s.text; image = image_of s.externals (lent fs); certificate = Some (certificate_of (all_ltl (lent_pieces os))) } ≡ unit_of s ps =
        λ j. record { source = s.text; image = image_of s.externals (are_bodies j); certificate = Some (certificate_of (all_ltl (are_ordered j))) } in
        linked_ok mode s ps a b none (subst (λ (l : List (List PieceItem)). code_words l ≤ most_code) are_bodies few) ∙ ap Ok (sym (e ∙ same))

    -- new-requires
    pub agree_is : LinkedUnitsFollow → ∥ SpellsText s.text s.externals ∥₁ → IsChecked s → All IsPieceOfUnit ps → (u : StoredUnit) → code_words (lent fs) ≤ most_code
        → u ≡ record { source = s.text; image = image_of s.externals (lent fs); certificate = Some (certificate_of (all_ltl (lent_pieces os))) } → AgreeIn mode u.source u.image
    agree_is law spelled checked all u few e =
        let h = law mode s ps u spelled checked all (answer_is u few e) in subst (λ t. AgreeIn mode t u.image) (sym h.0) h.1

    -- the unit's image follows its program on each board with at least the stack that the pieces take
    pub backed_is : LinkedUnitsFollow → LinkedUnitsAreBacked → ∥ SpellsText s.text s.externals ∥₁ → IsChecked s → All IsPieceOfUnit ps → (u : StoredUnit) → code_words (lent fs) ≤ most_code
        → u ≡ record { source = s.text; image = image_of s.externals (lent fs); certificate = Some (certificate_of (all_ltl (lent_pieces os))) } → IsBackedFrom mode u.source (stack_of s.externals ps) u.image
    backed_is follow law spelled checked all u few e =
        let is = answer_is u few e in
        let h = follow mode s ps u spelled checked all is in subst (λ t. IsBackedFrom mode t (stack_of s.externals ps) u.image) (sym h.0) (law mode s ps u spelled checked all is)
