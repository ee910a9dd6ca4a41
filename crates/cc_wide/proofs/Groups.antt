-- The first sections of a switch, and those after them.
use Rattle.std.proofs.Common.{◌≡◌, ℕ, zero, suc, ◌+◌, ◌≤◌, Bool, if◌then◌else◌, nat_le, refl, sym, ap, ◌∙◌, arith}
use Rattle.std.proofs.lemmas.Bool.{lt-leb}
use Rattle.cc_ast.specs.Tree as tree
use Rattle.cc_ast.specs.Tree.{Stmts}
use Rattle.cc_types.specs.Scope.{Visible, opened}
use Rattle.cc_c_semantics.specs.Meaning.{State, Run, Gives, Going, Wrong, Flow, Falls, Breaks, Continues, Returns, then_do, Calls, behind_flow, in_block}
use Rattle.cc_wide.specs.WideTree.{Sections, last, section}
use Rattle.cc_wide.specs.WideMeaning.{execute_all, execute_from}
use Rattle.cc_wide.specs.Lowering.{Around, at_most, all_lowered, sections_lowered, first_of, after_first}

abbrev pub first_sections : (h : ℕ) → Sections → Sections
first_sections zero all = last
first_sections (suc h) last = last
first_sections (suc h) (section ls body rest) = section ls body (first_sections h rest)

abbrev pub after_sections : (h : ℕ) → Sections → Sections
after_sections zero all = all
after_sections (suc h) last = last
after_sections (suc h) (section ls body rest) = after_sections h rest

-- ---- lowered

pub first_lowered : (h : ℕ) (all : Sections) (a : Around) (d i : ℕ) → first_of h (sections_lowered a d i all) ≡ sections_lowered a d i (first_sections h all)
first_lowered zero all a d i = refl
first_lowered (suc h) last a d i = refl
first_lowered (suc h) (section ls body rest) a d i = ap (tree.next (tree.If (at_most d i) (tree.Block (all_lowered a (suc d) body)))) (first_lowered h rest a d (suc i))

pub after_lowered : (h : ℕ) (all : Sections) (a : Around) (d i : ℕ) → after_first h (sections_lowered a d (suc i) all) ≡ sections_lowered a d (suc (i + h)) (after_sections h all)
after_lowered zero all a d i = ap (λ k. sections_lowered a d k all) (let same : suc i ≡ suc (i + 0) = omega arith in same)
after_lowered (suc h) last a d i = refl
after_lowered (suc h) (section ls body rest) a d i =
    after_lowered h rest a d (suc i) ∙ ap (λ k. sections_lowered a d k (after_sections h rest)) (let same : suc (suc i + h) ≡ suc (i + suc h) = omega arith in same)

-- ---- executed

next_next : (r : Run Flow) (go after : State → Run Flow)
    → then_do (then_do r (λ flow t. behind_flow flow go t)) (λ flow t. behind_flow flow after t) ≡ then_do r (λ flow t. behind_flow flow (λ u. then_do (go u) (λ flow o. behind_flow flow after o)) t)
next_next (Gives Falls t) go after = refl
next_next (Gives Breaks t) go after = refl
next_next (Gives Continues t) go after = refl
next_next (Gives (Returns w) t) go after = refl
next_next (Going output) go after = refl
next_next (Wrong cause output) go after = refl

pub from_split : (h : ℕ) (all : Sections) (i key n : ℕ) (call : Calls) (w : Visible) (s : State)
    → execute_from all (suc i) key n call w s ≡ then_do (execute_from (first_sections h all) (suc i) key n call w s) (λ flow t. behind_flow flow (execute_from (after_sections h all) (suc (i + h)) key n call w) t)
from_split zero all i key n call w s = ap (λ k. execute_from all k key n call w s) (let same : suc i ≡ suc (i + 0) = omega arith in same)
from_split (suc h) last i key n call w s = refl
from_split (suc h) (section ls body rest) i key n call w s =
    let first : Run Flow = (if nat_le key (suc i) then in_block (execute_all body n call (opened w)) else (λ t. Gives Falls t)) s in
    ap (λ (go : State → Run Flow). then_do first (λ flow t. behind_flow flow go t)) (λ j u. from_split h rest (suc i) key n call w u j)
    ∙ ap (λ k. then_do first (λ flow t. behind_flow flow (λ u. then_do (execute_from (first_sections h rest) (suc (suc i)) key n call w u) (λ flow o. behind_flow flow (execute_from (after_sections h rest) k key n call w) o)) t))
    (let same : suc (suc i + h) ≡ suc (i + suc h) = omega arith in same)
    ∙ sym (next_next first (execute_from (first_sections h rest) (suc (suc i)) key n call w) (execute_from (after_sections h rest) (suc (i + suc h)) key n call w))

-- sections before the one with which the switch goes on do nothing
pub from_none : (h : ℕ) (all : Sections) (i key n : ℕ) (call : Calls) (w : Visible) (s : State) → i + h ≤ key → execute_from (first_sections h all) i key n call w s ≡ Gives Falls s
from_none zero all i key n call w s le = refl
from_none (suc h) last i key n call w s le = refl
from_none (suc h) (section ls body rest) i key n call w s le =
    ap (λ (c : Bool). then_do ((if c then in_block (execute_all body n call (opened w)) else (λ t. Gives Falls t)) s) (λ flow t. behind_flow flow (execute_from (first_sections h rest) (suc i) key n call w) t)) (lt-leb key i (omega (arith, le)))
    ∙ from_none h rest (suc i) key n call w s (omega (arith, le))
