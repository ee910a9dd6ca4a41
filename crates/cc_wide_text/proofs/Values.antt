-- The value of an enumerator: what its bytes are read as.
use Rattle.std.proofs.Common.{◌≡◌, ℕ, ◌≤◌, List, length, Option, Some, None, Result, Ok, Err, IfOk, sym, ap, ◌∙◌, subst}
use Rattle.std.specs.List.{flat_map}
use Rattle.cc_tokens.specs.declared.fault.SyntaxFault.{SyntaxFault}
use Rattle.cc_tokens.specs.declared.fault.SyntaxFault.TheVariants as fault
use Rattle.cc_tokens.specs.Token.{Lexeme}
use Rattle.cc_tokens.specs.Tokens.{IsTokens, IsTokenRefusal, TokensAreOne, TokensHaveNoLexicalError, most_bytes}
use Rattle.cc_ast.specs.Tree.{External}
use Rattle.cc_ast.specs.Parse.{SpellsText}
use Rattle.cc_wide_text.specs.Numbers.{Enumerator, Number, numbered, declaration, word_of_unit, IsConstant, IsConstantAnswer, HasNumber}
use Rattle.cc_wide_text.specs.internal.Answers.{HasNoNumber, IsNumberAnswer}
use Rattle.cc_wide_text.proofs.Answered.{no_tokens}

none_some : (w : ℕ) → (let a : Option ℕ = None in a) ≡ Some w → ⊥
none_some w e = cc

pub constant_read : (value text : List ℕ) (tree : List External) (word : Option ℕ) → text ≡ declaration value → length text ≤ most_bytes → SpellsText text tree
    → ((other : List External) → length text ≤ most_bytes → SpellsText text other → tree ≡ other) → word ≡ word_of_unit tree → IsConstantAnswer value word
constant_read value text tree (Some w) same fits spelled only e =
    record {
      tree = tree;
      fits = subst (λ (bytes : List ℕ). length bytes ≤ most_bytes) same fits;
      spelled = subst (λ (bytes : List ℕ). SpellsText bytes tree) same spelled;
      is = sym e;
    }
constant_read value text tree None same fits spelled only e =
    λ w k. let one : tree ≡ k.tree = only k.tree fits (subst (λ (bytes : List ℕ). SpellsText bytes k.tree) (sym same) k.spelled) in
    none_some w (e ∙ ap (λ (es : List External). word_of_unit es) one ∙ k.is)

pub constant_refused : (value text : List ℕ) → text ≡ declaration value → ((tree : List External) → length text ≤ most_bytes → SpellsText text tree → ⊥) → (w : ℕ) → IsConstant value w → ⊥
constant_refused value text same never w k =
    never k.tree (subst (λ (bytes : List ℕ). length bytes ≤ most_bytes) (sym same) k.fits) (subst (λ (bytes : List ℕ). SpellsText bytes k.tree) (sym same) k.spelled)

pub number_read : TokensAreOne → (ns : List Number) (e : Enumerator) (ts : List Lexeme) (bytes : List ℕ) (word : Option ℕ) → length e.value ≤ most_bytes → IsTokens e.value ts → bytes ≡ flat_map (numbered ns) ts
    → IsConstantAnswer bytes word → IsNumberAnswer ns e word
number_read law ns e ts bytes (Some w) fits are same h =
    record { fits = fits; tokens = ts; are = are; constant = subst (λ (b : List ℕ). IsConstant b w) same h }
number_read law ns e ts bytes None fits are same h =
    λ w k. let one : k.tokens ≡ ts = law e.value k.tokens ts k.are are in
    h w (subst (λ (b : List ℕ). IsConstant b w) (sym same) (subst (λ (z : List Lexeme). IsConstant (flat_map (numbered ns) z) w) one k.constant))

pub number_refused : TokensHaveNoLexicalError → (ns : List Number) (e : Enumerator) (f : SyntaxFault) → IsTokenRefusal e.value f → (f ≡ fault.OutOfMemory → ⊥) → (w : ℕ) → HasNumber ns e w → ⊥
number_refused law ns e f refusal never w k = no_tokens law e.value f k.fits refusal never k.tokens k.are

-- ---- what the functions answer

nothing : (f : SyntaxFault) (word : Option ℕ) → HasNoNumber f word → (word ≡ None) × (f ≡ fault.OutOfMemory → ⊥)
nothing fault.OutOfMemory word h = absurd h
nothing fault.SourceTooLarge word h = (h, λ e. cc)
nothing (fault.BadByte p) word h = (h, λ e. cc)
nothing (fault.UnclosedComment p) word h = (h, λ e. cc)
nothing (fault.BadConstant p) word h = (h, λ e. cc)
nothing (fault.ConstantTooLarge p) word h = (h, λ e. cc)
nothing (fault.Unexpected p) word h = (h, λ e. cc)
nothing (fault.TooDeep p) word h = (h, λ e. cc)

pub constant_none : {E : Type 0} (value text : List ℕ) (f : SyntaxFault) (r : Result (Option ℕ) E) → text ≡ declaration value
    → ((tree : List External) → length text ≤ most_bytes → SpellsText text tree → f ≡ fault.OutOfMemory) → IfOk r (λ word. HasNoNumber f word) → IfOk r (λ word. IsConstantAnswer value word)
constant_none value text f (Ok word) same only h =
    let found = nothing f word h in
    let never : (w : ℕ) → IsConstant value w → ⊥ = constant_refused value text same (λ tree fits s. found.1 (only tree fits s)) in
    subst (λ (o : Option ℕ). IsConstantAnswer value o) (sym found.0) never
constant_none value text f (Err e) same only h = tt

pub number_answer : {E : Type 0} → TokensAreOne → (ns : List Number) (e : Enumerator) (value bytes given : List ℕ) (ts : List Lexeme) (r : Result (Option ℕ) E) → value ≡ e.value → length value ≤ most_bytes
    → IsTokens value ts → bytes ≡ flat_map (numbered ns) ts → given ≡ bytes → IfOk r (λ word. IsConstantAnswer given word) → IfOk r (λ word. IsNumberAnswer ns e word)
number_answer law ns e value bytes given ts (Ok word) d fits are same is h =
    number_read law ns e ts given word (subst (λ (z : List ℕ). length z ≤ most_bytes) d fits) (subst (λ (z : List ℕ). IsTokens z ts) d are) (is ∙ same) h
number_answer law ns e value bytes given ts (Err x) d fits are same is h = tt

pub number_none : {E : Type 0} → TokensHaveNoLexicalError → (ns : List Number) (e : Enumerator) (value : List ℕ) (f : SyntaxFault) (r : Result (Option ℕ) E) → value ≡ e.value → IsTokenRefusal value f
    → IfOk r (λ word. HasNoNumber f word) → IfOk r (λ word. IsNumberAnswer ns e word)
number_none law ns e value f (Ok word) d refusal h =
    let found = nothing f word h in
    let never : (w : ℕ) → HasNumber ns e w → ⊥ = number_refused law ns e f (subst (λ (z : List ℕ). IsTokenRefusal z f) d refusal) found.1 in
    subst (λ (o : Option ℕ). IsNumberAnswer ns e o) (sym found.0) never
number_none law ns e value f (Err x) d refusal h = tt
