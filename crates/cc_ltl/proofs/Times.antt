-- Reading a number of values one after the other, as a loop does: the values read so far come before those that are still to be
-- read.
use Rattle.std.proofs.Common.{◌≡◌, ℕ, suc, ◌-◌, ◌+◌, ◌≤◌, ◌<◌, List, [], ◌∷◌, ◌++◌, Option, Some, None, refl, sym, ap, ◌∙◌, append_assoc, arith}
use Rattle.std.proofs.lemmas.List.{append-nil}
use Rattle.cc_ltl.specs.declared.fault.LtlFault.{LtlFault}
use Rattle.cc_ltl.specs.declared.fault.LtlFault.TheVariants.{Damaged, OutOfMemory}
use Rattle.cc_ltl.specs.internal.Reading.{◌>>=◌, Reader, times}

-- what an error says about what the definition reads
abbrev pub IsFault : {Y : Type 0} → LtlFault → Option Y → Type 0
IsFault Damaged read = read ≡ None
IsFault OutOfMemory read = Unit {0}

abbrev pub with_prefix : {A : Type 0} → List A → Option (List A × List ℕ) → Option (List A × List ℕ)
with_prefix prefix read = read >>= λ x. Some (prefix ++ x.0, x.1)

regroup : {A : Type 0} (prefix : List A) (a : A) (read : Option (List A × List ℕ)) → with_prefix prefix (read >>= λ x. Some (a ∷ x.0, x.1)) ≡ with_prefix (prefix ++ a ∷ []) read
regroup {A} prefix a (Some x) = ap (λ (xs : List A). Some (xs, x.1)) (simp append_assoc)
regroup prefix a None = refl

pub goes_on : {A : Type 0} (f : Reader A) (prefix : List A) (count i : ℕ) (bytes : List ℕ) (a : A) (after : List ℕ) (total : Option (List A × List ℕ)) → i < count → f bytes ≡ Some (a, after)
    → with_prefix prefix (times f (count - i) bytes) ≡ total → with_prefix (prefix ++ a ∷ []) (times f (count - (i + 1)) after) ≡ total
unfolding times
goes_on f prefix count i bytes a after total lt h so_far =
    let k : count - i ≡ suc (count - (i + 1)) = omega arith in
    let one : with_prefix prefix (times f (count - i) bytes) ≡ with_prefix (prefix ++ a ∷ []) (times f (count - (i + 1)) after) = rw (k, h) (regroup prefix a (times f (count - (i + 1)) after)) in
    sym one ∙ so_far

pub ends : {A : Type 0} (e : LtlFault) (f : Reader A) (prefix : List A) (count i : ℕ) (bytes : List ℕ) (total : Option (List A × List ℕ)) → i < count
    → IsFault e (f bytes) → with_prefix prefix (times f (count - i) bytes) ≡ total → IsFault e total
unfolding times
ends OutOfMemory f prefix count i bytes total lt h so_far = tt
ends Damaged f prefix count i bytes total lt h so_far =
    let k : count - i ≡ suc (count - (i + 1)) = omega arith in
    let one : with_prefix prefix (times f (count - i) bytes) ≡ None = rw (k, h) refl in
    sym so_far ∙ one

pub is_done : {A : Type 0} (f : Reader A) (prefix : List A) (count i : ℕ) (bytes : List ℕ) (total : Option (List A × List ℕ)) → count ≤ i → with_prefix prefix (times f (count - i) bytes) ≡ total → total ≡ Some (prefix, bytes)
unfolding times
is_done {A} f prefix count i bytes total le so_far =
    let k : count - i ≡ 0 = omega arith in
    let one : with_prefix prefix (times f (count - i) bytes) ≡ Some (prefix, bytes) = rw k (ap (λ (xs : List A). Some (xs, bytes)) (append-nil prefix)) in
    sym so_far ∙ one
