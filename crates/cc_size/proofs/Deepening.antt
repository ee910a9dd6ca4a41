-- The table of the stack that functions need.
use Rattle.std.proofs.Common.{◌≡◌, ℕ, zero, suc, ◌+◌, ◌*◌, ◌<◌, ◌≤◌, List, [], ◌∷◌, ◌++◌, length, get_or, drop, refl, sym, ap, ◌∙◌, arith, append_assoc}
use Rattle.std.proofs.lemmas.Bool.Decides.{nat_tests}
use Rattle.std.proofs.lemmas.List.{drop_more}
use Rattle.std.specs.Borrow.{Bor}
use Rattle.cc_emit.specs.declared.item.PieceItem.{PieceItem}
use Rattle.cc_emit.specs.declared.item.PieceItem.TheVariants.{Plain, Call, Go}
use Rattle.cc_emit.specs.Piece.{Piece}
use Rattle.cc_link.specs.Linked.{all_items, lent_pieces}
use Rattle.cc_link.specs.Stack.{larger, most_called, need}
use Rattle.cc_size.specs.internal.Deeper.{AreFew, deeper}

-- ---- the most

larger_low : (a b m : ℕ) → a ≤ m → b ≤ m → larger a b ≤ m
larger_low a b m le le' = grind (arith, nat_tests)

pub most_low : (n : ℕ → ℕ) (m : ℕ) (items : List PieceItem) → ((g : ℕ) → n g ≤ m) → most_called n items ≤ m
most_low n m [] h = omega arith
most_low n m (Plain i ∷ items) h = most_low n m items h
most_low n m (Call g ∷ items) h = larger_low (n g) (most_called n items) m (h g) (most_low n m items h)
most_low n m (Go k ∷ items) h = most_low n m items h

-- it does not matter whether the next item is compared with those before it or with those after it
larger_twice : (a b c : ℕ) → larger (larger a b) c ≡ larger a (larger b c)
larger_twice a b c = grind (arith, nat_tests)

larger_none : (a : ℕ) → larger a 0 ≡ a
larger_none a = grind (arith, nat_tests)

pub most_next : (n : ℕ → ℕ) (most : ℕ) (item : PieceItem) (items : List PieceItem) → larger (larger most (most_called n (item ∷ []))) (most_called n items) ≡ larger most (most_called n (item ∷ items))
most_next n most (Plain i) items = ap (λ m. larger m (most_called n items)) (larger_none most)
most_next n most (Call g) items = larger_twice most (larger (n g) 0) (most_called n items) ∙ ap (λ m. larger most (larger m (most_called n items))) (larger_none (n g))
most_next n most (Go k) items = ap (λ m. larger m (most_called n items)) (larger_none most)

-- ---- one call more

pub need_none : (own : List ℕ) (bodies : List (List PieceItem)) (f : ℕ) → need own bodies 0 f ≡ 0
unfolding need
need_none own bodies f = refl

pub need_low : (own : List ℕ) (bodies : List (List PieceItem)) → AreFew 2032 own → (calls f : ℕ) → need own bodies calls f ≤ 2032 * calls
unfolding need
need_low own bodies few zero f = omega arith
need_low own bodies few (suc calls) f =
    let a = few f in
    let b = most_low (need own bodies calls) (2032 * calls) (get_or bodies f []) (need_low own bodies few calls) in
    omega arith

deeper_at : (n : ℕ → ℕ) (ws : List ℕ) (bs : List (List PieceItem)) → length bs ≡ length ws → (f : ℕ) → get_or (deeper n ws bs) f 0 ≡ get_or ws f 0 + most_called n (get_or bs f [])
deeper_at n [] [] e f = refl
deeper_at n [] (b ∷ bs) e f = absurd (omega (arith, e))
deeper_at n (w ∷ ws) [] e f = absurd (omega (arith, e))
deeper_at n (w ∷ ws) (b ∷ bs) e zero = refl
deeper_at n (w ∷ ws) (b ∷ bs) e (suc f) = deeper_at n ws bs (omega (arith, e)) f

pub need_next : (own : List ℕ) (bodies : List (List PieceItem)) (table more : List ℕ) (calls : ℕ) → length bodies ≡ length own → ((g : ℕ) → get_or table g 0 ≡ need own bodies calls g) → more ≡ deeper (λ g. get_or table g 0) own bodies
    → (f : ℕ) → get_or more f 0 ≡ need own bodies (calls + 1) f
unfolding need
need_next own bodies table more calls count same made f =
    let one : suc calls ≡ calls + 1 = omega arith in
    ap (λ (l : List ℕ). get_or l f 0) made ∙ deeper_at (λ g. get_or table g 0) own bodies count f
    ∙ ap (λ (n : ℕ → ℕ). get_or own f 0 + most_called n (get_or bodies f [])) (λ i. λ g. same g i) ∙ ap (λ (k : ℕ). need own bodies k f) one

-- once the entry of one more function is added, the entries so far and the rest still make up the table
pub deeper_next : (n : ℕ → ℕ) (own : List ℕ) (ps : List (Bor Piece)) (at : ℕ) (d : Bor Piece) (before new all : List ℕ) (word : ℕ) → at < length own → length ps ≡ length own → d ≡ get_or ps at d → word ≡ get_or own at 0 + most_called n d.now.items → new ≡ before ++ word ∷ []
    → before ++ deeper n (drop at own) (all_items (lent_pieces (drop at ps))) ≡ all → new ++ deeper n (drop (at + 1) own) (all_items (lent_pieces (drop (at + 1) ps))) ≡ all
deeper_next n own ps at d before new all word lt count is whose pushed h =
    let rest : List ℕ = deeper n (drop (at + 1) own) (all_items (lent_pieces (drop (at + 1) ps))) in
    let left : drop at own ≡ get_or own at 0 ∷ drop (at + 1) own = drop_more own at 0 lt in
    let split : drop at ps ≡ d ∷ drop (at + 1) ps = drop_more ps at d (omega (arith, lt, count)) ∙ ap (λ (b : Bor Piece). b ∷ drop (at + 1) ps) (sym is) in
    let first : deeper n (drop at own) (all_items (lent_pieces (drop at ps))) ≡ word ∷ rest =
    ap (λ (ws : List ℕ). deeper n ws (all_items (lent_pieces (drop at ps)))) left ∙ ap (λ (l : List (Bor Piece)). deeper n (get_or own at 0 ∷ drop (at + 1) own) (all_items (lent_pieces l))) split ∙ ap (λ (w : ℕ). w ∷ rest) (sym whose) in
    ap (λ (l : List ℕ). l ++ rest) pushed ∙ append_assoc before (word ∷ []) rest ∙ ap (λ (l : List ℕ). before ++ l) (sym first) ∙ h

-- there are as many bodies as pieces
pub bodies_long : (ps : List (Bor Piece)) → length (all_items (lent_pieces ps)) ≡ length ps
bodies_long [] = refl
bodies_long (p ∷ ps) = ap suc (bodies_long ps)
