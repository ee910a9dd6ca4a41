-- A unit has exactly one answer, because the first of its errors is unique. A text has exactly one answer too, because it has
-- one tree or one fault.
use Rattle.std.proofs.Common.{◌≡◌, ◌<◌, ◌≤◌, ◌⊎◌, inl, inr, ℕ, zero, suc, Bool, true, false, ◌==◌, if◌then◌else◌, List, [], ◌∷◌, ◌++◌, length, get_or, Option, Some, None, Result, Ok, Err, refl, sym, ap, subst, ◌∙◌, arith}
use Rattle.std.specs.List.{AllByRecursion}
use Rattle.std.proofs.lemmas.Bool.{false≢true}
use Rattle.cc_ast.specs.Tree.{External, Source}
use Rattle.cc_ast.specs.fault.SyntaxFault.{SyntaxFault}
use Rattle.cc_tokens.specs.Place.{place_of}
use Rattle.cc_ast.specs.Parse.{IsParseAnswer, ParseAnswersAreOne, TextsHaveAnswers}
use Rattle.cc_types.specs.Fault.{fault_of, rule_number}
use Rattle.cc_types.specs.Limits.{excesses}
use Rattle.cc_types.specs.Rules.{errors, defines_main, undefined_calls}
use Rattle.cc_types.specs.Typed.{NotAfter, IsFirst, IsFaultOfFirst, all_errors, IsTypeAnswer, TypeAnswersAreOne, UnitsHaveTypeAnswers}
use Rattle.cc_types.specs.Verdict.{Verdict, NoTree, NotTyped, Program, source_with, IsVerdict, VerdictsAreOne, TextsHaveVerdicts}
use Rattle.cc_typing.specs.internal.Findings.{noted}
use Rattle.cc_types.specs.declared.fault.TypeFault.{TypeFault}
use Rattle.cc_types.specs.declared.fault.TypeFault.TheVariants.{NoMain}
use Rattle.cc_types.specs.declared.rule.RuleError.{RuleError}
use Rattle.cc_types.specs.declared.rule.Rule.{Rule}
use Rattle.cc_types.specs.declared.rule.Rule.TheVariants.{Unknown, Redeclared, WrongKind, WrongCount, VoidValue, BadReturn, BadAssign, BadBreak, Undefined, TooMany}
use Rattle.cc_typing.proofs.First.{IsFirst-noted, noted-none}
use Rattle.cc_typing.proofs.Verdict.{both_empty}

-- ---- the first error

-- the rule with this number
abbrev rule_with : ℕ → Rule
rule_with n =
    if n == 11 then Unknown else (if n == 12 then Redeclared else (if n == 13 then WrongKind else (if n == 14 then WrongCount else (if n == 15 then VoidValue
    else (if n == 16 then BadReturn else (if n == 17 then BadAssign else (if n == 18 then BadBreak else (if n == 20 then Undefined else TooMany))))))))

rule_back : (r : Rule) → rule_with (rule_number r) ≡ r
rule_back Unknown = refl
rule_back Redeclared = refl
rule_back WrongKind = refl
rule_back WrongCount = refl
rule_back VoidValue = refl
rule_back BadReturn = refl
rule_back BadAssign = refl
rule_back BadBreak = refl
rule_back Undefined = refl
rule_back TooMany = refl

same_rule : (r q : Rule) → rule_number r ≡ rule_number q → r ≡ q
same_rule r q e = sym (rule_back r) ∙ ap (λ n. rule_with n) e ∙ rule_back q

-- if neither of two errors comes after the other, they have the same token and the same number
neither_at : (a b m n : ℕ) → (a < b) ⊎ ((a ≡ b) × (m ≤ n)) → (b < a) ⊎ ((b ≡ a) × (n ≤ m)) → (a ≡ b) × (m ≡ n)
neither_at a b m n (inl h) (inl k) = absurd (omega arith)
neither_at a b m n (inl h) (inr k) = let same = k.0 in absurd (omega arith)
neither_at a b m n (inr h) (inl k) = let same = h.0 in absurd (omega arith)
neither_at a b m n (inr h) (inr k) = let low = h.1 in let high = k.1 in (h.0, omega arith)

holds_at : (P : RuleError → Type 0) (all : List RuleError) (o d : RuleError) (k : ℕ) → AllByRecursion P all → k < length all → get_or all k d ≡ o → P o
holds_at P [] o d k h i e = absurd (omega arith)
holds_at P (x ∷ xs) o d zero h i e = subst P e h.0
holds_at P (x ∷ xs) o d (suc k) h i e = holds_at P xs o d k h.1 (omega arith) e

not_after : (all : List RuleError) (o p : RuleError) → IsFirst o all → IsFirst p all → NotAfter o p
not_after all o p first other = holds_at (NotAfter o) all p p other.0.0 first.1 other.0.1 other.0.2

-- the fault of the first error is unique
first_fault_one : (text : List ℕ) (all : List RuleError) (f g : TypeFault) → IsFaultOfFirst text all f → IsFaultOfFirst text all g → f ≡ g
first_fault_one text all f g h k =
    let o = h.0 in
    let p = k.0 in
    let same = neither_at o.at p.at (rule_number o.rule) (rule_number p.rule) (not_after all o p h.1 k.1) (not_after all p o k.1 h.1) in
    h.2 ∙ ap (λ n. fault_of o.rule (place_of text n)) same.0 ∙ ap (λ r. fault_of r (place_of text p.at)) (same_rule o.rule p.rule same.1) ∙ sym k.2

none_first : (text : List ℕ) (all : List RuleError) (f : TypeFault) → all ≡ [] → IsFaultOfFirst text all f → ⊥
none_first text [] f e h = let inside = h.1.0.1 in omega arith
none_first text (x ∷ xs) f e h = cc

-- ---- a unit

not_main : (s : Source) → defines_main s.externals ≡ false → defines_main s.externals ≡ true → ⊥
not_main s e i = false≢true (sym e ∙ i)

all_empty : (s : Source) → IsTypeAnswer s None → all_errors s.externals ≡ []
all_empty s h = ap (λ l. l ++ excesses s.externals) h.0.0 ∙ h.1

not_refused : (s : Source) (f : TypeFault) → IsTypeAnswer s None → IsTypeAnswer s (Some f) → ⊥
not_refused s f h (inl first) = none_first s.text (all_errors s.externals) f (all_empty s h) first
not_refused s f h (inr (inl main)) = not_main s main.1 h.0.1
not_refused s f h (inr (inr call)) = none_first s.text (undefined_calls s.externals) f h.0.2 call.2

refusals_one : (s : Source) (f g : TypeFault) → IsTypeAnswer s (Some f) → IsTypeAnswer s (Some g) → f ≡ g
refusals_one s f g (inl h) (inl k) = first_fault_one s.text (all_errors s.externals) f g h k
refusals_one s f g (inl h) (inr (inl k)) = absurd (none_first s.text (all_errors s.externals) f k.0 h)
refusals_one s f g (inl h) (inr (inr k)) = absurd (none_first s.text (all_errors s.externals) f k.0 h)
refusals_one s f g (inr (inl h)) (inl k) = absurd (none_first s.text (all_errors s.externals) g h.0 k)
refusals_one s f g (inr (inl h)) (inr (inl k)) = h.2 ∙ sym k.2
refusals_one s f g (inr (inl h)) (inr (inr k)) = absurd (not_main s h.1 k.1)
refusals_one s f g (inr (inr h)) (inl k) = absurd (none_first s.text (all_errors s.externals) g h.0 k)
refusals_one s f g (inr (inr h)) (inr (inl k)) = absurd (not_main s k.1 h.1)
refusals_one s f g (inr (inr h)) (inr (inr k)) = first_fault_one s.text (undefined_calls s.externals) f g h.2 k.2

pub type_answers_are_one : TypeAnswersAreOne
type_answers_are_one s None None h k = refl
type_answers_are_one s None (Some g) h k = absurd (not_refused s g h k)
type_answers_are_one s (Some f) None h k = absurd (not_refused s f k h)
type_answers_are_one s (Some f) (Some g) h k = ap Some (refusals_one s f g h k)

TypeAnswers : Source → Type 0
TypeAnswers s = (a : Option TypeFault) × IsTypeAnswer s a

module _ (s : Source) where
  by_call : all_errors s.externals ≡ [] → defines_main s.externals ≡ true → (o : Option RuleError) → noted None (undefined_calls s.externals) ≡ o → TypeAnswers s
  unfolding TypeAnswers
  by_call none main None e =
      let empty = both_empty (errors s.externals) (excesses s.externals) none in
      (None, ((empty.0, main, noted-none (undefined_calls s.externals) e), empty.1))
  by_call none main (Some o) e =
      (Some (fault_of o.rule (place_of s.text o.at)), inr (inr (none, main, (o, IsFirst-noted (undefined_calls s.externals) o e, refl))))

  by_main : all_errors s.externals ≡ [] → (b : Bool) → defines_main s.externals ≡ b → TypeAnswers s
  unfolding TypeAnswers
  by_main none false e = (Some (NoMain (place_of s.text (length s.text))), inr (inl (none, e, refl)))
  by_main none true e = by_call none e (noted None (undefined_calls s.externals)) refl

  by_first : (o : Option RuleError) → noted None (all_errors s.externals) ≡ o → TypeAnswers s
  unfolding TypeAnswers
  by_first (Some o) e = (Some (fault_of o.rule (place_of s.text o.at)), inl (o, IsFirst-noted (all_errors s.externals) o e, refl))
  by_first None e = by_main (noted-none (all_errors s.externals) e) (defines_main s.externals) refl

pub units_have_type_answers : UnitsHaveTypeAnswers
unfolding TypeAnswers
units_have_type_answers s = by_first s (noted None (all_errors s.externals)) refl

-- ---- a text

ok_or_err : (tree : List External) (f : SyntaxFault) → let r : Result (List External) SyntaxFault = Ok tree in r ≡ Err f → ⊥
ok_or_err tree f e = cc

none_or_some : (f : TypeFault) → let o : Option TypeFault = None in o ≡ Some f → ⊥
none_or_some f e = cc

-- ---- if `parse` has at most one answer for each text
module _ (answers_are_one : ParseAnswersAreOne) where
  -- two trees of a text are the same, so the answers for their units are the same
  same_unit : (text : List ℕ) (t u : List External) (a b : Option TypeFault) → IsParseAnswer text (Ok t) → IsTypeAnswer (source_with text t) a → IsParseAnswer text (Ok u) → IsTypeAnswer (source_with text u) b → (t ≡ u) × (a ≡ b)
  same_unit text t u a b h k i j =
      let e = answers_are_one text (Ok t) (Ok u) h i in
      let same : t ≡ u = cc in
      (same, type_answers_are_one (source_with text u) a b (subst (λ z. IsTypeAnswer (source_with text z) a) same k) j)

  pub verdicts_are_one : VerdictsAreOne
  verdicts_are_one text (NoTree f) (NoTree g) h k = let e = answers_are_one text (Err f) (Err g) h k in ap NoTree (let same : f ≡ g = cc in same)
  verdicts_are_one text (NoTree f) (NotTyped g) h k = absurd (ok_or_err k.0 f (answers_are_one text (Ok k.0) (Err f) k.1 h))
  verdicts_are_one text (NoTree f) (Program u) h k = absurd (ok_or_err u f (answers_are_one text (Ok u) (Err f) k.0 h))
  verdicts_are_one text (NotTyped f) (NoTree g) h k = absurd (ok_or_err h.0 g (answers_are_one text (Ok h.0) (Err g) h.1 k))
  verdicts_are_one text (NotTyped f) (NotTyped g) h k =
      let e = (same_unit text h.0 k.0 (Some f) (Some g) h.1 h.2 k.1 k.2).1 in ap NotTyped (let same : f ≡ g = cc in same)
  verdicts_are_one text (NotTyped f) (Program u) h k = absurd (none_or_some f (sym (same_unit text h.0 u (Some f) None h.1 h.2 k.0 k.1).1))
  verdicts_are_one text (Program t) (NoTree g) h k = absurd (ok_or_err t g (answers_are_one text (Ok t) (Err g) h.0 k))
  verdicts_are_one text (Program t) (NotTyped g) h k = absurd (none_or_some g (same_unit text t k.0 None (Some g) h.0 h.1 k.1 k.2).1)
  verdicts_are_one text (Program t) (Program u) h k = ap Program (same_unit text t u None None h.0 h.1 k.0 k.1).0

Verdicts : List ℕ → Type 0
Verdicts text = (v : Verdict) × IsVerdict text v

by_types : (text : List ℕ) (tree : List External) → IsParseAnswer text (Ok tree) → (a : Option TypeFault) × IsTypeAnswer (source_with text tree) a → Verdicts text
unfolding Verdicts
by_types text tree h (None, k) = (Program tree, (h, k))
by_types text tree h (Some f, k) = (NotTyped f, (tree, h, k))

by_tree : (text : List ℕ) → (a : Result (List External) SyntaxFault) × IsParseAnswer text a → Verdicts text
unfolding Verdicts
by_tree text (Err f, h) = (NoTree f, h)
by_tree text (Ok tree, h) = by_types text tree h (units_have_type_answers (source_with text tree))

-- if `parse` has an answer for every text, every text has a verdict
pub texts_have_verdicts : TextsHaveAnswers → TextsHaveVerdicts
unfolding Verdicts
texts_have_verdicts texts_have_answers text = by_tree text (texts_have_answers text)
