-- Lists of items with one more item.
use Rattle.std.proofs.Common.{◌≡◌, ℕ, zero, suc, ◌+◌, List, [], ◌∷◌, ◌++◌, sym, refl, ap, ◌∙◌, arith, append_assoc, append-nil}
use Rattle.cc_pool.specs.declared.item.Item.TheVariants.{Stop}
use Rattle.cc_pool.specs.Shared.{Lists, piece_of, pieces_from, pieces_of, stops, sent_by}

-- one more stop item may as well be added at the end
stop_more : (n : ℕ) → stops (suc n) ≡ stops n ++ Stop ∷ []
stop_more zero = refl
stop_more (suc n) = ap (λ l. Stop ∷ l) (stop_more n)

pub stop_next : (n : ℕ) → stops (n + 1) ≡ stops n ++ Stop ∷ []
stop_next n = let m : n + 1 ≡ suc n = omega arith in ap stops m ∙ stop_more n

-- if one more pass is added at the end, so is what it has sent
pub sent_more : (ps : List Lists) (p : Lists) → sent_by (ps ++ p ∷ []) ≡ sent_by ps ++ p.sent
sent_more [] p = append-nil p.sent
sent_more (q ∷ ps) p = ap (λ l. q.sent ++ l) (sent_more ps p) ∙ sym (append_assoc q.sent (sent_by ps) p.sent)

-- if one more function is counted, its item is added at the end
piece_more : (job from count : ℕ) → pieces_from job from (suc count) ≡ pieces_from job from count ++ piece_of job (from + count) ∷ []
piece_more job from zero = ap (λ f. piece_of job f ∷ []) (omega arith)
piece_more job from (suc count) =
    ap (λ l. piece_of job from ∷ l) (piece_more job (suc from) count ∙ ap (λ f. pieces_from job (suc from) count ++ piece_of job f ∷ []) (omega arith))

pub piece_next : (job count : ℕ) → pieces_of job (count + 1) ≡ pieces_of job count ++ piece_of job count ∷ []
piece_next job count = let n : count + 1 ≡ suc count = omega arith in ap (pieces_of job) n ∙ piece_more job 0 count ∙ ap (λ f. pieces_of job count ++ piece_of job f ∷ []) (omega arith)
