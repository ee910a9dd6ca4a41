-- What `parse` and `check` answer is the plan, since a text has one verdict.
use Rattle.std.proofs.Common.{◌≡◌, ◌≤◌, ◌⊎◌, inl, inr, ℕ, zero, suc, List, [], ◌∷◌, ◌++◌, length, Result, Ok, Err, refl, sym, ap, subst, ◌∙◌, arith}
use Rattle.std.proofs.Math.Logic.{∥∥₁_elim, ∥∥₁_map₂}
use Rattle.std.proofs.Math.Nat.{ℕ_set}
use Rattle.std.proofs.lemmas.List.{length-map}
use Rattle.cc_tokens.specs.declared.fault.SyntaxFault.{SyntaxFault}
use Rattle.cc_tokens.specs.declared.fault.SyntaxFault.TheVariants as syntax
use Rattle.cc_tokens.specs.Fault.{fault_number as syntax_number}
use Rattle.cc_ast.specs.Tree.{Name, Source}
use Rattle.cc_ast.specs.Parse.{IsParseRefusal}
use Rattle.cc_syntax.proofs.Determined.{answers_are_one}
use Rattle.cc_types.specs.declared.fault.TypeFault.{TypeFault}
use Rattle.cc_types.specs.declared.fault.TypeFault.TheVariants as typing
use Rattle.cc_types.specs.Fault.{fault_number as type_number}
use Rattle.cc_types.specs.Limits.{past, function_names, externals_excesses, word_excesses, objects}
use Rattle.cc_types.specs.Typed.{IsWithinLimits, defined_names}
use Rattle.cc_types.specs.Verdict.{Verdict, NoTree, NotTyped, Program, IsVerdict}
use Rattle.cc_typing.proofs.Determined.{verdicts_are_one}
use Rattle.cc_typing.proofs.Verdict.{both_empty}
use Rattle.cc_link.specs.Text.{IsProgramText, IsRefusedTree, IsTextRefusal, text_fault_number}
use Rattle.cc_link.specs.declared.text.TextFault.{TextFault}
use Rattle.cc_link.specs.declared.text.TextFault.TheVariants as link
use Rattle.cc_core.specs.Fault.{RefusesPlan}
use Rattle.cc_headline.specs.Plan.{pieces_of, IsPlan, IsPlanBy}
use Rattle.cc_headline.specs.internal.Refusals.{refused_by}

-- a text's verdict gives its plan, and no other
planned : (text : List ℕ) (v : Verdict) → IsVerdict text v → IsPlan text (pieces_of v)
planned text v is = ∣ record { verdict = v; is = is; plan_is = refl } ∣₁

nothing_prop : IsProp ⊥
nothing_prop = hlevel

-- two plans are equal if an equation between them is known to exist
known : (a b : Result ℕ ℕ) → ∥ a ≡ b ∥₁ → a ≡ b
known (Ok m) (Ok n) e = ap Ok (∥∥₁_elim e (ℕ_set m n) (λ (h : ◌≡◌ {A = Result ℕ ℕ} (Ok m) (Ok n)). cc))
known (Err m) (Err n) e = ap Err (∥∥₁_elim e (ℕ_set m n) (λ (h : ◌≡◌ {A = Result ℕ ℕ} (Err m) (Err n)). cc))
known (Ok m) (Err n) e = let never : ⊥ = ∥∥₁_elim e nothing_prop (λ (h : ◌≡◌ {A = Result ℕ ℕ} (Ok m) (Err n)). cc) in absurd never
known (Err m) (Ok n) e = let never : ⊥ = ∥∥₁_elim e nothing_prop (λ (h : ◌≡◌ {A = Result ℕ ℕ} (Err m) (Ok n)). cc) in absurd never

pub one_plan : (text : List ℕ) (a b : Result ℕ ℕ) → IsPlan text a → IsPlan text b → a ≡ b
one_plan text a b p q =
    known a b (∥∥₁_map₂ p q (λ (f : IsPlanBy text a) (g : IsPlanBy text b).
    f.plan_is ∙ ap pieces_of (verdicts_are_one answers_are_one text f.verdict g.verdict f.is g.is) ∙ sym g.plan_is))

text_refused : (text : List ℕ) (fault : SyntaxFault) → IsParseRefusal text fault → RefusesPlan (refused_by (syntax_number fault)) (IsPlan text)
text_refused text (syntax.BadByte p) h = planned text (NoTree (syntax.BadByte p)) h
text_refused text (syntax.UnclosedComment p) h = planned text (NoTree (syntax.UnclosedComment p)) h
text_refused text (syntax.BadConstant p) h = planned text (NoTree (syntax.BadConstant p)) h
text_refused text (syntax.ConstantTooLarge p) h = planned text (NoTree (syntax.ConstantTooLarge p)) h
text_refused text (syntax.Unexpected p) h = planned text (NoTree (syntax.Unexpected p)) h
text_refused text (syntax.TooDeep p) h = planned text (NoTree (syntax.TooDeep p)) h
text_refused text syntax.SourceTooLarge h = planned text (NoTree syntax.SourceTooLarge) h
text_refused text syntax.OutOfMemory h = tt

not_typed : (text : List ℕ) (fault : TypeFault) → IsRefusedTree text fault → IsPlan text (pieces_of (NotTyped fault))
not_typed text fault h = planned text (NotTyped fault) (h.tree, (h.fits, h.spelled), h.refused)

type_refused : (text : List ℕ) (fault : TypeFault) → (fault ≡ typing.OutOfMemory) ⊎ IsRefusedTree text fault → RefusesPlan (refused_by (type_number fault)) (IsPlan text)
type_refused text typing.OutOfMemory h = tt
type_refused text (typing.Unknown p) (inl e) = absurd (cc)
type_refused text (typing.Unknown p) (inr h) = not_typed text (typing.Unknown p) h
type_refused text (typing.Redeclared p) (inl e) = absurd (cc)
type_refused text (typing.Redeclared p) (inr h) = not_typed text (typing.Redeclared p) h
type_refused text (typing.WrongKind p) (inl e) = absurd (cc)
type_refused text (typing.WrongKind p) (inr h) = not_typed text (typing.WrongKind p) h
type_refused text (typing.WrongCount p) (inl e) = absurd (cc)
type_refused text (typing.WrongCount p) (inr h) = not_typed text (typing.WrongCount p) h
type_refused text (typing.VoidValue p) (inl e) = absurd (cc)
type_refused text (typing.VoidValue p) (inr h) = not_typed text (typing.VoidValue p) h
type_refused text (typing.BadReturn p) (inl e) = absurd (cc)
type_refused text (typing.BadReturn p) (inr h) = not_typed text (typing.BadReturn p) h
type_refused text (typing.BadAssign p) (inl e) = absurd (cc)
type_refused text (typing.BadAssign p) (inr h) = not_typed text (typing.BadAssign p) h
type_refused text (typing.BadBreak p) (inl e) = absurd (cc)
type_refused text (typing.BadBreak p) (inr h) = not_typed text (typing.BadBreak p) h
type_refused text (typing.NoMain p) (inl e) = absurd (cc)
type_refused text (typing.NoMain p) (inr h) = not_typed text (typing.NoMain p) h
type_refused text (typing.Undefined p) (inl e) = absurd (cc)
type_refused text (typing.Undefined p) (inr h) = not_typed text (typing.Undefined p) h
type_refused text (typing.TooMany p) (inl e) = absurd (cc)
type_refused text (typing.TooMany p) (inr h) = not_typed text (typing.TooMany p) h

-- if a text is refused with a fault, its plan is the number of that fault; for 40 nothing is claimed
pub refused : (text : List ℕ) (fault : TextFault) → IsTextRefusal text fault → RefusesPlan (refused_by (text_fault_number fault)) (IsPlan text)
refused text (link.Syntax fault) h = text_refused text fault h
refused text (link.Typing fault) h = type_refused text fault h

pub program_planned : (text : List ℕ) (s : Source) → length text ≤ 65536 → IsProgramText text s.externals → IsPlan text (Ok (length (defined_names s)))
program_planned text s fits is =
    subst (λ (n : ℕ). IsPlan text (Ok n)) (sym (length-map (function_names s.externals) (λ (x : Name). x.text))) (planned text (Program s.externals) ((fits, is.spelled), (is.typed, is.limits)))

none_past : (n : ℕ) (names : List Name) → past n names ≡ [] → length names ≤ n
none_past zero [] e = omega arith
none_past zero (x ∷ names) e = absurd (let l = ap length e in let f : 1 ≡ 0 = l in omega arith)
none_past (suc n) [] e = omega arith
none_past (suc n) (x ∷ names) e = let h = none_past n names e in omega arith

-- a unit within the limits has at most 64 functions
pub few_functions : (s : Source) → IsWithinLimits s.externals → length (defined_names s) ≤ 64
few_functions s limits =
    let rest = (both_empty (externals_excesses s.externals) (past 64 (function_names s.externals) ++ word_excesses 0 (objects s.externals)) limits).1 in
    let few = none_past 64 (function_names s.externals) (both_empty (past 64 (function_names s.externals)) (word_excesses 0 (objects s.externals)) rest).0 in
    let same = length-map (function_names s.externals) (λ (x : Name). x.text) in
    omega arith
