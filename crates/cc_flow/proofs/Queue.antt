-- The queue and its flags agree.
use Rattle.std.proofs.Common.{◌≡◌, ℕ, zero, suc, ◌+◌, ◌<◌, ◌≤◌, List, [], ◌∷◌, refl, sym, ap, ◌∙◌, subst, ◌⊎◌, inl, inr, ◌≢◌, length, set, replicate, Bool, true, false, cond, ◌==◌, arith}
use Rattle.std.specs.List.Sorted.{IsPermutation}
use Rattle.std.proofs.lemmas.Bool.{cases_eq, cases_lt}
use Rattle.std.proofs.lemmas.Bool.Decides.{Decides-eqb, nat_tests}
use Rattle.std.proofs.lemmas.List.{get_or-set_same, get_or-set_other, get_or_past, get_or-replicate, length-replicate}
use Rattle.std.proofs.lemmas.List.Sorted.{sum_by_pushed, sum_by_popped}
use Rattle.cc_flow.specs.internal.Waiting.{waits, times, IsQueued, how_many}

-- 1 for the node itself, 0 for another
abbrev one_at : (node x : ℕ) → ℕ
one_at node x = cond (x == node) 1 0

one_here : (node : ℕ) → one_at node node ≡ 1
one_here node = grind (arith, nat_tests)

none_there : (node x : ℕ) → x ≢ node → one_at node x ≡ 0
none_there node x h = go (x == node) refl
  where
    go : (b : Bool) → (x == node) ≡ b → one_at node x ≡ 0
    go true e = absurd (h ((Decides-eqb x node).0 e))
    go false e = ap (λ (b : Bool). let r : ℕ = cond b 1 0 in r) e

pub in_flags : (flags : List Bool) (node : ℕ) → waits flags node ≡ true → node < length flags
in_flags [] node h = absurd (cc)
in_flags (b ∷ flags) zero h = omega arith
in_flags (b ∷ flags) (suc node) h = let l = in_flags flags node h in omega arith

pub queued_more : (nodes nodes' : List ℕ) (flags : List Bool) (node : ℕ) → node < length flags → waits flags node ≡ false → IsPermutation (node ∷ nodes) nodes' → IsQueued nodes flags → IsQueued nodes' (set flags node true)
queued_more nodes nodes' flags node within out perm q k = go (cases_eq k node)
  where
    grown : times k nodes' ≡ one_at k node + times k nodes
    grown = sum_by_pushed (one_at k) node nodes nodes' perm

    go : (k ≡ node) ⊎ (k ≢ node) → times k nodes' ≡ cond (waits (set flags node true) k) 1 0
    go (inl e) =
        let now : waits (set flags node true) k ≡ true = ap (waits (set flags node true)) e ∙ get_or-set_same flags node true false within in
        let before : times k nodes ≡ 0 = q k ∙ ap (λ b. cond b 1 0) (ap (waits flags) e ∙ out) in
        let one : one_at k node ≡ 1 = ap (λ x. one_at x node) e ∙ one_here node in
        let g = grown in
        let sum : times k nodes' ≡ 1 = omega arith in
        sum ∙ sym (ap (λ b. cond b 1 0) now)
    go (inr n) =
        let now : waits (set flags node true) k ≡ waits flags k = get_or-set_other flags node k true false n in
        let zero_one : one_at k node ≡ 0 = none_there k node (λ e. n (sym e)) in
        let g = grown in
        let sum : times k nodes' ≡ times k nodes = omega arith in
        sum ∙ q k ∙ sym (ap (λ b. cond b 1 0) now)

-- a node that is popped was waiting
pub popped_waits : (nodes nodes' : List ℕ) (flags : List Bool) (node : ℕ) → IsPermutation nodes (node ∷ nodes') → IsQueued nodes flags → waits flags node ≡ true
popped_waits nodes nodes' flags node perm q = go (waits flags node) refl
  where
    go : (b : Bool) → waits flags node ≡ b → b ≡ true
    go true e = refl
    go false e =
        let shrunk : times node nodes' + one_at node node ≡ times node nodes = sum_by_popped (one_at node) node nodes nodes' perm in
        let one = one_here node in
        let before : times node nodes ≡ 0 = q node ∙ ap (λ b. cond b 1 0) e in
        absurd (omega arith)

pub queued_less : (nodes nodes' : List ℕ) (flags : List Bool) (node : ℕ) → IsPermutation nodes (node ∷ nodes') → IsQueued nodes flags → IsQueued nodes' (set flags node false)
queued_less nodes nodes' flags node perm q k = go (cases_eq k node)
  where
    waited : waits flags node ≡ true
    waited = popped_waits nodes nodes' flags node perm q

    shrunk : times k nodes' + one_at k node ≡ times k nodes
    shrunk = sum_by_popped (one_at k) node nodes nodes' perm

    go : (k ≡ node) ⊎ (k ≢ node) → times k nodes' ≡ cond (waits (set flags node false) k) 1 0
    go (inl e) =
        let now : waits (set flags node false) k ≡ false = ap (waits (set flags node false)) e ∙ get_or-set_same flags node false false (in_flags flags node waited) in
        let before : times k nodes ≡ 1 = q k ∙ ap (λ b. cond b 1 0) (ap (waits flags) e ∙ waited) in
        let one : one_at k node ≡ 1 = ap (λ x. one_at x node) e ∙ one_here node in
        let g = shrunk in
        let sum : times k nodes' ≡ 0 = omega arith in
        sum ∙ sym (ap (λ b. cond b 1 0) now)
    go (inr n) =
        let now : waits (set flags node false) k ≡ waits flags k = get_or-set_other flags node k false false n in
        let zero_one : one_at k node ≡ 0 = none_there k node (λ e. n (sym e)) in
        let g = shrunk in
        let sum : times k nodes' ≡ times k nodes = omega arith in
        sum ∙ q k ∙ sym (ap (λ b. cond b 1 0) now)

-- if the queue is empty, no node waits
pub nothing_queued : (nodes : List ℕ) (flags : List Bool) → length nodes ≡ 0 → IsQueued nodes flags → (node : ℕ) → waits flags node ≡ false
nothing_queued (x ∷ nodes) flags h q node = absurd (omega arith)
nothing_queued [] flags h q node = go (waits flags node) refl
  where
    go : (b : Bool) → waits flags node ≡ b → b ≡ false
    go false e = refl
    go true e =
        let now : times node [] ≡ 1 = q node ∙ ap (λ b. cond b 1 0) e in
        let none : times node [] ≡ 0 = refl in
        absurd (omega arith)

pub none_wait : (n : ℕ) → IsQueued [] (replicate n false)
none_wait n node = sym (ap (λ b. cond b 1 0) (flag node))
  where
    flag : (k : ℕ) → waits (replicate n false) k ≡ false
    flag k = elim (cases_lt k n) [ inl h ↦ get_or-replicate n k false false h | inr h ↦ get_or_past (replicate n false) k false (let e : length (replicate n false) ≡ n = length-replicate n false in omega arith) ]

-- ---- how many wait

pub few_wait : (flags : List Bool) → how_many flags ≤ length flags
few_wait [] = omega arith
few_wait (true ∷ flags) = let l = few_wait flags in let e : how_many (true ∷ flags) ≡ 1 + how_many flags = refl in omega arith
few_wait (false ∷ flags) = let l = few_wait flags in let e : how_many (false ∷ flags) ≡ 0 + how_many flags = refl in omega arith

pub one_less : (flags : List Bool) (node : ℕ) → waits flags node ≡ true → suc (how_many (set flags node false)) ≡ how_many flags
one_less [] node h = absurd (cc)
one_less (true ∷ flags) zero h =
    let e : how_many (set (true ∷ flags) 0 false) ≡ 0 + how_many flags = refl in
    let f : how_many (true ∷ flags) ≡ 1 + how_many flags = refl in
    omega arith
one_less (false ∷ flags) zero h = absurd (cc)
one_less (b ∷ flags) (suc node) h =
    let l = one_less flags node h in
    let e : how_many (set (b ∷ flags) (suc node) false) ≡ cond b 1 0 + how_many (set flags node false) = refl in
    let f : how_many (b ∷ flags) ≡ cond b 1 0 + how_many flags = refl in
    omega arith

-- ---- a flag set or cleared

pub still_waits : (flags : List Bool) (node k : ℕ) → waits flags k ≡ true → waits (set flags node true) k ≡ true
still_waits flags node k h = elim (cases_eq k node) [ inl e ↦ ap (waits (set flags node true)) e ∙ get_or-set_same flags node true false (subst (λ i. i < length flags) e (in_flags flags k h)) | inr n ↦ get_or-set_other flags node k true false n ∙ h ]

pub now_waits : (flags : List Bool) (node : ℕ) → node < length flags → waits (set flags node true) node ≡ true
now_waits flags node h = get_or-set_same flags node true false h

pub others_wait : (flags : List Bool) (node k : ℕ) → k ≢ node → waits (set flags node false) k ≡ waits flags k
others_wait flags node k n = get_or-set_other flags node k false false n
