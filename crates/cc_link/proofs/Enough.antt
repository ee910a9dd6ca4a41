-- The stack that an image takes is enough.
use Rattle.std.proofs.Common.{◌≡◌, ℕ, suc, ◌+◌, ◌-◌, ◌<◌, ◌≤◌, List, [], ◌∷◌, get_or, ap, arith}
use Rattle.std.proofs.lemmas.Bool.Decides.{nat_tests}
use Rattle.cc_rv32.specs.Machine.{stack_from, stack_to}
use Rattle.cc_emit.specs.declared.item.PieceItem.{PieceItem}
use Rattle.cc_emit.specs.declared.item.PieceItem.TheVariants.{Plain, Call, Go}
use Rattle.cc_emit.specs.Contract.{EachCalled, IsEnough}
use Rattle.cc_link.specs.Stack.{larger, most_called, need}
use Rattle.cc_link.proofs.Machine.{Stack}

left_larger : (a b : ℕ) → a ≤ larger a b
left_larger a b = grind (arith, nat_tests)

right_larger : (a b : ℕ) → b ≤ larger a b
right_larger a b = grind (arith, nat_tests)

each_most : (n : ℕ → ℕ) (frame own : ℕ) (items : List PieceItem) → frame + most_called n items ≤ own → EachCalled (λ g. frame + n g ≤ own) items
each_most n frame own [] le = tt
each_most n frame own (Plain i ∷ items) le = each_most n frame own items le
each_most n frame own (Call g ∷ items) le =
    let a = left_larger (n g) (most_called n items) in
    let b = right_larger (n g) (most_called n items) in
    (omega arith, each_most n frame own items (omega arith))
each_most n frame own (Go k ∷ items) le = each_most n frame own items le

-- how much stack a call of f takes, given how many calls are open
abbrev pub need_opened : (frames : List ℕ) (bodies : List (List PieceItem)) → (f opened : ℕ) → ℕ
need_opened frames bodies f opened = need frames bodies (1024 - opened) f

one_less_left : (d : ℕ) → d < 1024 → 1024 - d ≡ suc (1024 - suc d)
one_less_left d below = omega arith

pub need_enough : (frames : List ℕ) (bodies : List (List PieceItem)) (f : ℕ) → IsEnough (need_opened frames bodies) f (get_or frames f 0) (get_or bodies f [])
unfolding need
need_enough frames bodies f = record {
  own = λ d below. (let e : need frames bodies (1024 - d) f ≡ get_or frames f 0 + most_called (need frames bodies (1024 - suc d)) (get_or bodies f []) = ap (λ k. need frames bodies k f) (one_less_left d below) in omega arith);
  calls = λ d below.
      (let e : need frames bodies (1024 - d) f ≡ get_or frames f 0 + most_called (need frames bodies (1024 - suc d)) (get_or bodies f []) = ap (λ k. need frames bodies k f) (one_less_left d below) in
      each_most (need frames bodies (1024 - suc d)) (get_or frames f 0) (need frames bodies (1024 - d) f) (get_or bodies f []) (omega arith));
}

-- the stack of a board that backs this many bytes
abbrev pub stack_with : (bytes : ℕ) → bytes ≤ stack_to - stack_from → (frames : List ℕ) (bodies : List (List PieceItem)) → Stack
stack_with bytes few frames bodies = record { floor = stack_to - bytes; low = omega arith; need = need_opened frames bodies }
