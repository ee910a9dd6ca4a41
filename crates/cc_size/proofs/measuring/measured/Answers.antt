-- The pieces are put in the order of definitions, and the tables over them have the figures for main.
use Rattle.std.proofs.Common.{◌≡◌, ℕ, List, length, get_or, ◌*◌, ap, ◌∙◌, subst}
use Rattle.std.specs.Borrow.{Bor}
use Rattle.cc_ast.specs.Source.{source}
use Rattle.cc_ast.specs.Tree.{External}
use Rattle.cc_c_semantics.specs.Calls.{main_of}
use Rattle.cc_emit.specs.Piece.{Piece}
use Rattle.cc_link.specs.Linked.{all_items, lent_pieces, in_order, ordered}
use Rattle.cc_link.specs.Stack.{need}
use Rattle.cc_link.proofs.Deciding.{defined_long}
use Rattle.cc_size.specs.Cycles.{AreCyclic}
use Rattle.cc_size.specs.Size.{frames_of, ones_of, sizes_of, calls_at}
use Rattle.cc_size.proofs.measuring.measured.Goals as goal

pub returns : goal.returns
returns c =
    let s = source c.args.unit.now in
    let tree : List External = s.externals in
    let ps : List Piece = lent_pieces c.args.pieces.now in
    let all : lent_pieces c.in-Ok.ordered.items ≡ ordered tree ps = c.in-Ok.ensures.ordered ∙ ap (λ (k : ℕ). in_order ps 0 k) (c.functions.ensures ∙ defined_long s) in
    let at : (l : List (Bor Piece)) → l ≡ c.in-Ok.ordered.items → lent_pieces l ≡ ordered tree ps = λ l e. ap (λ (k : List (Bor Piece)). lent_pieces k) e ∙ all in
    let frames : c.as_slice-3.result.now ≡ frames_of (ordered tree ps) = c.as_slice-3.ensures.value ∙ c.in_ok-frames.ensures.answer ∙ ap (λ (l : List Piece). frames_of l) (at c.as_slice.result.now c.as_slice.ensures.value) in
    let ones : c.as_slice-5.result.now ≡ ones_of (ordered tree ps) = c.as_slice-5.ensures.value ∙ c.in_ok-ones.ensures.answer ∙ ap (λ (l : List Piece). ones_of l) (at c.as_slice-2.result.now c.as_slice-2.ensures.value) in
    let main = c.in_ok-main.main in
    let is : main ≡ main_of tree = c.in_ok-main.ensures in
    record {
      functions = c.in_ok-functions.ensures ∙ ap (λ (l : List Piece). sizes_of l) (at c.as_slice-7.result.now c.as_slice-7.ensures.value);
      code = ap (λ (l : List ℕ). length l) c.words.ensures.words;
      globals = ap (λ (l : List ℕ). 4 * length l) c.words-2.ensures.words;
      recursions = subst (λ (l : List Piece). AreCyclic (all_items l) c.in_ok-recursions.recursions.items) (at c.as_slice-10.result.now c.as_slice-10.ensures.value) c.in_ok-recursions.ensures;
      calls =
          c.entry.ensures ∙ ap (λ (l : List ℕ). get_or l main 0) c.as_slice-11.ensures.value ∙ c.in_ok-calls.ensures main
          ∙ ap (λ (w : List ℕ). need w (all_items (lent_pieces c.as_slice-6.result.now)) 1024 main) ones
          ∙ ap (λ (l : List Piece). need (ones_of (ordered tree ps)) (all_items l) 1024 main) (at c.as_slice-6.result.now c.as_slice-6.ensures.value)
          ∙ ap (λ (m : ℕ). calls_at (ordered tree ps) m) is;
      stack =
          c.entry-2.ensures ∙ ap (λ (l : List ℕ). get_or l main 0) c.as_slice-12.ensures.value ∙ c.in_ok-stacks.ensures main
          ∙ ap (λ (w : List ℕ). need w (all_items (lent_pieces c.as_slice-4.result.now)) 1024 main) frames
          ∙ ap (λ (l : List Piece). need (frames_of (ordered tree ps)) (all_items l) 1024 main) (at c.as_slice-4.result.now c.as_slice-4.ensures.value)
          ∙ ap (λ (m : ℕ). need (frames_of (ordered tree ps)) (all_items (ordered tree ps)) 1024 m) is;
    }
