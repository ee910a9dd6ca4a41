-- Refusals: of a stage, of what is wrong, and passed on.
use Rattle.std.proofs.Common.{◌≡◌, ℕ, ◌<◌, List, length, sym, subst}
use Rattle.cc_tokens.specs.declared.fault.SyntaxFault.{SyntaxFault}
use Rattle.cc_tokens.specs.declared.fault.SyntaxFault.TheVariants as fault
use Rattle.cc_tokens.specs.Tokens.{most_bytes}
use Rattle.cc_ast.specs.Tree.{External}
use Rattle.cc_wide_text.specs.Program.{Refuses}
use Rattle.cc_wide_text.specs.internal.Answers.{IsWrong, IsPlaced, IsLong}

pub refuses : (Long : Type 0) (Reads : List External → Type 0) (f : SyntaxFault) → IsWrong f → (Long → ⊥) → ((tree : List External) → Reads tree → ⊥) → Refuses Long Reads f
refuses Long Reads fault.SourceTooLarge h l n = absurd h
refuses Long Reads fault.OutOfMemory h l n = tt
refuses Long Reads (fault.BadByte p) h l n = (l, n)
refuses Long Reads (fault.UnclosedComment p) h l n = (l, n)
refuses Long Reads (fault.BadConstant p) h l n = (l, n)
refuses Long Reads (fault.ConstantTooLarge p) h l n = (l, n)
refuses Long Reads (fault.Unexpected p) h l n = (l, n)
refuses Long Reads (fault.TooDeep p) h l n = (l, n)

pub too_long : (Long : Type 0) (Reads : List External → Type 0) (bytes : List ℕ) (f : SyntaxFault) → (most_bytes < length bytes → Long) → IsLong bytes f → Refuses Long Reads f
too_long Long Reads bytes fault.SourceTooLarge l h = l h
too_long Long Reads bytes fault.OutOfMemory l h = tt
too_long Long Reads bytes (fault.BadByte p) l h = absurd h
too_long Long Reads bytes (fault.UnclosedComment p) l h = absurd h
too_long Long Reads bytes (fault.BadConstant p) l h = absurd h
too_long Long Reads bytes (fault.ConstantTooLarge p) l h = absurd h
too_long Long Reads bytes (fault.Unexpected p) l h = absurd h
too_long Long Reads bytes (fault.TooDeep p) l h = absurd h

pub passes : (Long More : Type 0) (Reads Other : List External → Type 0) (f : SyntaxFault) → (Long → More) → (More → Long) → ((tree : List External) → Other tree → Reads tree) → Refuses Long Reads f
    → Refuses More Other f
passes Long More Reads Other fault.SourceTooLarge to from reads h = to h
passes Long More Reads Other fault.OutOfMemory to from reads h = tt
passes Long More Reads Other (fault.BadByte p) to from reads h = (λ m. h.0 (from m), λ t o. h.1 t (reads t o))
passes Long More Reads Other (fault.UnclosedComment p) to from reads h = (λ m. h.0 (from m), λ t o. h.1 t (reads t o))
passes Long More Reads Other (fault.BadConstant p) to from reads h = (λ m. h.0 (from m), λ t o. h.1 t (reads t o))
passes Long More Reads Other (fault.ConstantTooLarge p) to from reads h = (λ m. h.0 (from m), λ t o. h.1 t (reads t o))
passes Long More Reads Other (fault.Unexpected p) to from reads h = (λ m. h.0 (from m), λ t o. h.1 t (reads t o))
passes Long More Reads Other (fault.TooDeep p) to from reads h = (λ m. h.0 (from m), λ t o. h.1 t (reads t o))

-- a fault of the last part at another place, if this part refuses a tree whenever memory suffices
pub placed : (Long : Type 0) (Reads : List External → Type 0) (before after : SyntaxFault) → IsPlaced before after → ((before ≡ fault.OutOfMemory → ⊥) → Long → ⊥)
    → ((before ≡ fault.OutOfMemory → ⊥) → (tree : List External) → Reads tree → ⊥) → Refuses Long Reads after
placed Long Reads fault.OutOfMemory after h l n = subst (λ (f : SyntaxFault). Refuses Long Reads f) (sym h) tt
placed Long Reads fault.SourceTooLarge after h l n = refuses Long Reads after h (l (λ e. cc)) (n (λ e. cc))
placed Long Reads (fault.BadByte p) after h l n = refuses Long Reads after h (l (λ e. cc)) (n (λ e. cc))
placed Long Reads (fault.UnclosedComment p) after h l n = refuses Long Reads after h (l (λ e. cc)) (n (λ e. cc))
placed Long Reads (fault.BadConstant p) after h l n = refuses Long Reads after h (l (λ e. cc)) (n (λ e. cc))
placed Long Reads (fault.ConstantTooLarge p) after h l n = refuses Long Reads after h (l (λ e. cc)) (n (λ e. cc))
placed Long Reads (fault.Unexpected p) after h l n = refuses Long Reads after h (l (λ e. cc)) (n (λ e. cc))
placed Long Reads (fault.TooDeep p) after h l n = refuses Long Reads after h (l (λ e. cc)) (n (λ e. cc))
