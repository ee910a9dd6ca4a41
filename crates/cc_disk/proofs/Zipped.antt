-- The cells that a list of bytes and a list of marks represent, after ranges of the lists are copied and
-- filled.
use Rattle.std.proofs.Common.{◌≡◌, ℕ, zero, suc, Bool, true, false, ◌+◌, ◌<◌, ◌≤◌, List, [], ◌∷◌, ◌++◌, map, length, replicate, get_or, take, drop, refl, sym, ◌∙◌, ap, arith, append_assoc}
use Rattle.std.proofs.lemmas.List.{length-take-le, length-map, length-replicate, map-append}
use Rattle.std.proofs.Math.Seq.{drop-nil}
use Rattle.cc_disk.specs.Model.{Cell, left, crashed, settled, unsettled, bytes_of, new_cells, written, synced}
use Rattle.cc_disk.specs.internal.Cells.{cells_of}

pub length-cells : (bytes : List ℕ) (marks : List Bool) → length bytes ≡ length marks → length (cells_of bytes marks) ≡ length bytes
length-cells [] marks same = refl
length-cells (b ∷ bytes) [] same = absurd (omega (arith, same))
length-cells (b ∷ bytes) (m ∷ marks) same = ap suc (length-cells bytes marks (omega (arith, same)))

pub bytes_of-cells : (bytes : List ℕ) (marks : List Bool) → length bytes ≡ length marks → bytes_of (cells_of bytes marks) ≡ bytes
bytes_of-cells [] marks same = refl
bytes_of-cells (b ∷ bytes) [] same = absurd (omega (arith, same))
bytes_of-cells (b ∷ bytes) (m ∷ marks) same = ap (λ (l : List ℕ). b ∷ l) (bytes_of-cells bytes marks (omega (arith, same)))

pub cells-append : (xs : List ℕ) (ms : List Bool) (ys : List ℕ) (ns : List Bool) → length xs ≡ length ms → cells_of (xs ++ ys) (ms ++ ns) ≡ cells_of xs ms ++ cells_of ys ns
cells-append [] [] ys ns same = refl
cells-append [] (m ∷ ms) ys ns same = absurd (omega (arith, same))
cells-append (x ∷ xs) [] ys ns same = absurd (omega (arith, same))
cells-append (x ∷ xs) (m ∷ ms) ys ns same = ap (λ (l : List Cell). record { byte = x; settled = m } ∷ l) (cells-append xs ms ys ns (omega (arith, same)))

pub cells-take : (k : ℕ) (bytes : List ℕ) (marks : List Bool) → cells_of (take k bytes) (take k marks) ≡ take k (cells_of bytes marks)
cells-take zero bytes marks = refl
cells-take (suc k) [] marks = refl
cells-take (suc k) (b ∷ bytes) [] = refl
cells-take (suc k) (b ∷ bytes) (m ∷ marks) = ap (λ (l : List Cell). record { byte = b; settled = m } ∷ l) (cells-take k bytes marks)

pub cells-drop : (k : ℕ) (bytes : List ℕ) (marks : List Bool) → cells_of (drop k bytes) (drop k marks) ≡ drop k (cells_of bytes marks)
cells-drop zero bytes marks = refl
cells-drop (suc k) [] marks = refl
cells-drop (suc k) (b ∷ bytes) [] = none (drop k bytes)
  where
    none : (l : List ℕ) → cells_of l [] ≡ []
    none [] = refl
    none (x ∷ l) = refl
cells-drop (suc k) (b ∷ bytes) (m ∷ marks) = cells-drop k bytes marks

-- if all marks are alike, each byte becomes a cell with this mark
pub cells-alike : (bytes : List ℕ) (mark : Bool) → cells_of bytes (replicate (length bytes) mark) ≡ map (λ byte. record { byte = byte; settled = mark }) bytes
cells-alike [] mark = refl
cells-alike (b ∷ bytes) mark = ap (λ (l : List Cell). record { byte = b; settled = mark } ∷ l) (cells-alike bytes mark)

pub cells-new : (n : ℕ) → cells_of (replicate n 0) (replicate n true) ≡ new_cells n
cells-new zero = refl
cells-new (suc n) = ap (λ (l : List Cell). settled 0 ∷ l) (cells-new n)

-- setting all marks is a sync of the cells
pub cells-synced : (bytes : List ℕ) (marks : List Bool) → length bytes ≡ length marks → cells_of bytes (replicate (length marks) true) ≡ synced (cells_of bytes marks)
cells-synced [] marks same = refl
cells-synced (b ∷ bytes) [] same = absurd (omega (arith, same))
cells-synced (b ∷ bytes) (m ∷ marks) same = ap (λ (l : List Cell). settled b ∷ l) (cells-synced bytes marks (omega (arith, same)))

-- copying bytes and clearing their marks is a write to the cells
pub cells-written : (bytes : List ℕ) (marks : List Bool) (offset : ℕ) (new : List ℕ) → length bytes ≡ length marks → offset + length new ≤ length bytes
    → cells_of (take offset bytes ++ (new ++ drop (offset + length new) bytes)) (take offset marks ++ (replicate (length new) false ++ drop (offset + length new) marks))
    ≡ written (cells_of bytes marks) offset new
cells-written bytes marks offset new same fits =
    let n = length new in
    cells-append (take offset bytes) (take offset marks) (new ++ drop (offset + n) bytes) (replicate n false ++ drop (offset + n) marks)
    (length-take-le offset bytes (omega arith) ∙ sym (length-take-le offset marks (omega (arith, same))))
    ∙ ap (λ (l : List Cell). l ++ cells_of (new ++ drop (offset + n) bytes) (replicate n false ++ drop (offset + n) marks)) (cells-take offset bytes marks)
    ∙ ap (λ (l : List Cell). take offset (cells_of bytes marks) ++ l)
    (cells-append new (replicate n false) (drop (offset + n) bytes) (drop (offset + n) marks) (sym (length-replicate n false))
    ∙ ap (λ (l : List Cell). l ++ cells_of (drop (offset + n) bytes) (drop (offset + n) marks)) (cells-alike new false)
    ∙ ap (λ (l : List Cell). map unsettled new ++ l) (cells-drop (offset + n) bytes marks))

-- the cells from index i on are the cell at i and those after it
pub cells-from : (i : ℕ) (bytes : List ℕ) (marks : List Bool) → i < length bytes → length bytes ≡ length marks → (d : ℕ) (e : Bool)
    → drop i (cells_of bytes marks) ≡ record { byte = get_or bytes i d; settled = get_or marks i e } ∷ drop (suc i) (cells_of bytes marks)
cells-from i [] marks within same d e = absurd (omega (arith, within))
cells-from i (b ∷ bytes) [] within same d e = absurd (omega (arith, same))
cells-from zero (b ∷ bytes) (m ∷ marks) within same d e = refl
cells-from (suc i) (b ∷ bytes) (m ∷ marks) within same d e = cells-from i bytes marks (omega (arith, within)) (omega (arith, same)) d e

-- if a crash leaves one more cell with its chosen byte, the cells so far and the crash of the rest still make
-- up the whole crash
crash-more : (cells : List Cell) (i : ℕ) (cell : Cell) (after choice : List ℕ) (byte x : ℕ) (rest : List ℕ) → drop i cells ≡ cell ∷ drop (suc i) cells
    → settled byte ≡ left cell x → map settled after ++ crashed (drop i cells) (x ∷ rest) ≡ crashed cells choice
    → map settled (after ++ byte ∷ []) ++ crashed (drop (suc i) cells) rest ≡ crashed cells choice
crash-more cells i cell after choice byte x rest here is so_far =
    ap (λ (l : List Cell). l ++ crashed (drop (suc i) cells) rest) (map-append settled after (byte ∷ []))
    ∙ append_assoc (map settled after) (settled byte ∷ []) (crashed (drop (suc i) cells) rest)
    ∙ ap (λ (c : Cell). map settled after ++ (c ∷ crashed (drop (suc i) cells) rest)) is
    ∙ ap (λ (l : List Cell). map settled after ++ crashed l (x ∷ rest)) (sym here)
    ∙ so_far

-- the same step, with 0 as the chosen byte if the choice is used up
pub crash-step : (cells : List Cell) (i : ℕ) (cell : Cell) (after choice : List ℕ) (byte : ℕ) (rest : List ℕ) → drop i cells ≡ cell ∷ drop (suc i) cells
    → settled byte ≡ left cell (get_or rest 0 0) → map settled after ++ crashed (drop i cells) rest ≡ crashed cells choice
    → map settled (after ++ byte ∷ []) ++ crashed (drop (suc i) cells) (drop 1 rest) ≡ crashed cells choice
crash-step cells i cell after choice byte (x ∷ rest) here is so_far = crash-more cells i cell after choice byte x rest here is so_far
crash-step cells i cell after choice byte [] here is so_far =
    ap (λ (l : List Cell). l ++ crashed (drop (suc i) cells) []) (map-append settled after (byte ∷ []))
    ∙ append_assoc (map settled after) (settled byte ∷ []) (crashed (drop (suc i) cells) [])
    ∙ ap (λ (c : Cell). map settled after ++ (c ∷ crashed (drop (suc i) cells) [])) is
    ∙ ap (λ (l : List Cell). map settled after ++ crashed l []) (sym here)
    ∙ so_far

pub length-crashed : (cells : List Cell) (choice : List ℕ) → length (crashed cells choice) ≡ length cells
length-crashed [] choice = refl
length-crashed (c ∷ cells) [] = ap suc (length-crashed cells [])
length-crashed (c ∷ cells) (x ∷ choice) = ap suc (length-crashed cells choice)

-- a crash leaves as many bytes as the disk had
pub length-left : (bytes : List ℕ) (marks : List Bool) (choice after : List ℕ) → length bytes ≡ length marks
    → map settled after ≡ crashed (cells_of bytes marks) choice → length after ≡ length bytes
length-left bytes marks choice after same is =
    sym (length-map after settled) ∙ ap length is ∙ length-crashed (cells_of bytes marks) choice ∙ length-cells bytes marks same

pub drop-cells : (bytes : List ℕ) (marks : List Bool) (i : ℕ) → length bytes ≡ length marks → length bytes ≤ i → drop i (cells_of bytes marks) ≡ []
drop-cells [] marks i same all = drop-nil i
drop-cells (b ∷ bytes) [] i same all = drop-nil i
drop-cells (b ∷ bytes) (m ∷ marks) zero same all = absurd (omega (arith, all))
drop-cells (b ∷ bytes) (m ∷ marks) (suc i) same all = drop-cells bytes marks i (omega (arith, same)) (omega (arith, all))
