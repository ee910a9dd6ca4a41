-- The loop of `plain`: one more byte is written.
use Rattle.std.proofs.Common.{◌≡◌, ℕ, suc, ◌+◌, ◌<◌, List, [], ◌∷◌, ◌++◌, length, get_or, drop, refl, sym, ap, ◌∙◌, append_assoc}
use Rattle.std.proofs.lemmas.List.{drop_more}
use Rattle.cc_wide_text.specs.declared.plain.State.{State}
use Rattle.cc_wide_text.specs.declared.plain.Step.{Step}
use Rattle.cc_wide_text.specs.Plain.{start, step_of, plain_from, plain}

one_more : (s : State) (bytes : List ℕ) (b : ℕ) (rest : List ℕ) (r : Step) → bytes ≡ b ∷ rest → r ≡ step_of s bytes → plain_from s bytes ≡ r.byte ∷ plain_from r.state rest
one_more s bytes b rest r d e =
    ap (λ (bs : List ℕ). plain_from s bs) d
    ∙ ap (λ (q : Step). q.byte ∷ plain_from q.state rest) (sym (e ∙ ap (λ (bs : List ℕ). step_of s bs) d))

pub plain_more : (text out written : List ℕ) (s : State) (i : ℕ) (r : Step) → i < length text → r ≡ step_of s (drop i text) → written ≡ out ++ r.byte ∷ [] → out ++ plain_from s (drop i text) ≡ plain text
    → written ++ plain_from r.state (drop (i + 1) text) ≡ plain text
plain_more text out written s i r lt e w h =
    ap (λ (bs : List ℕ). bs ++ plain_from r.state (drop (i + 1) text)) w
    ∙ append_assoc out (r.byte ∷ []) (plain_from r.state (drop (i + 1) text))
    ∙ ap (λ (bs : List ℕ). out ++ bs) (sym (one_more s (drop i text) (get_or text i 0) (drop (i + 1) text) r (drop_more text i 0 lt) e))
    ∙ h

-- as many bytes are written as there are
plain_from_length : (s : State) (bytes : List ℕ) → length (plain_from s bytes) ≡ length bytes
plain_from_length s [] = refl
plain_from_length s (b ∷ bs) = ap suc (plain_from_length (step_of s (b ∷ bs)).state bs)

pub plain_length : (text : List ℕ) → length (plain text) ≡ length text
plain_length text = plain_from_length start text
