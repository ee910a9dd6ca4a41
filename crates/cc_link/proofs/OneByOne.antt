-- Finding the pieces of the functions one after the other.
use Rattle.std.proofs.Common.{◌≡◌, ℕ, suc, ◌+◌, ◌-◌, ◌<◌, List, [], ◌∷◌, ◌++◌, length, get_or, drop, is_some, Option, Some, None, if◌then◌else◌, sym, ap, ◌∙◌, arith, append_assoc}
use Rattle.std.proofs.lemmas.List.{drop_more, map-append}
use Rattle.std.specs.Borrow.{Bor}
use Rattle.cc_emit.specs.declared.item.PieceItem.{PieceItem}
use Rattle.cc_emit.specs.Piece.{Piece}
use Rattle.cc_link.specs.declared.fault.LinkFault.TheVariants.{Missing}
use Rattle.cc_link.specs.Linked.{piece_of, missing, put_first, in_order, all_items, lent_pieces}
use Rattle.cc_link.specs.internal.Filling.{lent}

-- if function f has no piece, it is the first one without a piece from f on
pub missing_here : (ps : List Piece) (f n : ℕ) → f < n → piece_of ps f ≡ None → missing ps f (n - f) ≡ Some (Missing f)
missing_here ps f n lt e =
    let more : n - f ≡ suc (n - (f + 1)) = omega (arith, lt) in
    ap (λ k. missing ps f k) more ∙ ap (λ (o : Option Piece). if is_some o then missing ps (suc f) (n - (f + 1)) else Some (Missing f)) e

-- if function f has a piece, the search for the first function without a piece goes on at the next function
pub missing_next : (ps : List Piece) (f n : ℕ) (p : Piece) → f < n → piece_of ps f ≡ Some p → missing ps f (n - f) ≡ missing ps (f + 1) (n - (f + 1))
missing_next ps f n p lt e =
    let more : n - f ≡ suc (n - (f + 1)) = omega (arith, lt) in
    let next : suc f ≡ f + 1 = omega arith in
    ap (λ k. missing ps f k) more ∙ ap (λ (o : Option Piece). if is_some o then missing ps (suc f) (n - (f + 1)) else Some (Missing f)) e ∙ ap (λ g. missing ps g (n - (f + 1))) next

-- once the piece of function f is added, the pieces so far and those left make up the same list
pub pieces_next : (ps : List Piece) (f n : ℕ) (p : Bor Piece) (before new : List (Bor Piece)) (all : List Piece) → f < n → piece_of ps f ≡ Some p.now → new ≡ before ++ (p ∷ [])
    → lent_pieces before ++ in_order ps f (n - f) ≡ all → lent_pieces new ++ in_order ps (f + 1) (n - (f + 1)) ≡ all
pieces_next ps f n p before new all lt e is h =
    let k : ℕ = n - (f + 1) in
    let more : n - f ≡ suc k = omega (arith, lt) in
    let next : suc f ≡ f + 1 = omega arith in
    let rest : List Piece = in_order ps (f + 1) k in
    let first : in_order ps f (n - f) ≡ p.now ∷ rest =
    ap (λ m. in_order ps f m) more ∙ ap (λ (o : Option Piece). put_first o (in_order ps (suc f) k)) e ∙ ap (λ g. p.now ∷ in_order ps g k) next in
    ap (λ l. lent_pieces l ++ rest) is ∙ ap (λ l. l ++ rest) (map-append (λ (x : Bor Piece). x.now) before (p ∷ [])) ∙ append_assoc (lent_pieces before) (p.now ∷ []) rest ∙ ap (λ l. lent_pieces before ++ l) (sym first) ∙ h

-- once the items of one more piece are added, those so far and those left make up the same list
pub items_next : (ps : List (Bor Piece)) (i : ℕ) (d : Bor Piece) (b : Bor (List PieceItem)) (before new : List (Bor (List PieceItem))) (all : List (List PieceItem)) → i < length ps → d ≡ get_or ps i d → b.now ≡ d.now.items → new ≡ before ++ (b ∷ [])
    → lent before ++ all_items (lent_pieces (drop i ps)) ≡ all → lent new ++ all_items (lent_pieces (drop (i + 1) ps)) ≡ all
items_next ps i d b before new all lt is own pushed h =
    let rest : List (List PieceItem) = all_items (lent_pieces (drop (i + 1) ps)) in
    let split : drop i ps ≡ d ∷ drop (i + 1) ps = drop_more ps i d lt ∙ ap (λ (x : Bor Piece). x ∷ drop (i + 1) ps) (sym is) in
    let first : all_items (lent_pieces (drop i ps)) ≡ b.now ∷ rest = ap (λ (l : List (Bor Piece)). all_items (lent_pieces l)) split ∙ ap (λ (x : List PieceItem). x ∷ rest) (sym own) in
    ap (λ l. lent l ++ rest) pushed ∙ ap (λ l. l ++ rest) (map-append (λ (x : Bor (List PieceItem)). x.now) before (b ∷ [])) ∙ append_assoc (lent before) (b.now ∷ []) rest ∙ ap (λ l. lent before ++ l) (sym first) ∙ h
