-- What `parse` returns for a text, given what the parser does with the text's tokens.
use Rattle.std.proofs.Common.{◌≡◌, ◌≤◌, ℕ, List, length, Result, Ok, Err, refl, subst, arith}
use Rattle.cc_tokens.specs.declared.place.Place.{Place}
use Rattle.cc_tokens.specs.declared.fault.SyntaxFault.{SyntaxFault}
use Rattle.cc_tokens.specs.declared.fault.SyntaxFault.TheVariants as fault
use Rattle.cc_ast.specs.declared.unit.Unit as unit
use Rattle.cc_tokens.specs.Token.{Lexeme}
use Rattle.cc_ast.specs.Tree.{External}
use Rattle.cc_tokens.specs.Tokens.{IsLexicalFault}
use Rattle.cc_ast.specs.Limits.{SpellsWithin, UnexpectedAt, TooDeepAt}
use Rattle.cc_ast.specs.Parse.{SpellsText, BreaksAt, IsParseRefusal}
use Rattle.cc_ast.specs.Source.{source, AnswersTree}
use Rattle.cc_syntax.specs.internal.Answer.{IsParse}
use Rattle.cc_tokens.proofs.Cuts.{tokens_are_one, tokens_have_no_error}
use Rattle.cc_syntax.proofs.Verdict.{trees_are_one, spelled_have_no_fault}

no_error : (text : List ℕ) (e : SyntaxFault) (tree : List External) → IsLexicalFault text e → SpellsText text tree → ⊥
no_error text e tree h s = tokens_have_no_error text s.tokens h.error h.at s.are h.first

no_break : (Breaks : List Lexeme → ℕ → Type 0) (text : List ℕ) (p : Place) (tree : List External) → BreaksAt Breaks text p → SpellsText text tree → ((ts : List Lexeme) (k : ℕ) → SpellsWithin ts tree → Breaks ts k → ⊥) → ⊥
no_break Breaks text p tree h s none =
    none h.tokens h.number (subst (λ (ts : List Lexeme). SpellsWithin ts tree) (tokens_are_one text s.tokens h.tokens s.are h.are) s.spelled) h.here

-- a text that spells a tree is refused only because memory ran out
spelled_refused : (text : List ℕ) (e : SyntaxFault) (tree : List External) → IsParseRefusal text e → length text ≤ 65536 → SpellsText text tree → e ≡ fault.OutOfMemory
spelled_refused text (fault.BadByte p) tree h fits s = absurd (no_error text _ tree h s)
spelled_refused text (fault.UnclosedComment p) tree h fits s = absurd (no_error text _ tree h s)
spelled_refused text (fault.BadConstant p) tree h fits s = absurd (no_error text _ tree h s)
spelled_refused text (fault.ConstantTooLarge p) tree h fits s = absurd (no_error text _ tree h s)
spelled_refused text (fault.Unexpected p) tree h fits s = absurd (no_break UnexpectedAt text p tree h s (λ ts k w. (spelled_have_no_fault ts tree k w).0))
spelled_refused text (fault.TooDeep p) tree h fits s = absurd (no_break TooDeepAt text p tree h s (λ ts k w. (spelled_have_no_fault ts tree k w).1))
spelled_refused text fault.SourceTooLarge tree h fits s = absurd (omega (arith, h, fits))
spelled_refused text fault.OutOfMemory tree h fits s = refl

pub same_tree : (text : List ℕ) (a b : List External) → SpellsText text a → SpellsText text b → a ≡ b
same_tree text a b h k =
    let same = tokens_are_one text k.tokens h.tokens k.are h.are in
    let w : SpellsWithin h.tokens b = subst (λ (ts : List Lexeme). SpellsWithin ts b) same k.spelled in
    trees_are_one h.tokens a b (h.spelled.0, h.spelled.1, h.spelled.3) (w.0, w.1, w.3)

-- if the text spells a tree, the result is that tree, unless memory ran out
pub only : (text : List ℕ) (r : Result unit.Unit SyntaxFault) → IsParse text r → (tree : List External) → length text ≤ 65536 → SpellsText text tree → AnswersTree tree r
only text (Ok u) h tree fits s = same_tree text (source u).externals tree h.2 s
only text (Err e) h tree fits s = spelled_refused text e tree h fits s
