-- A text is at most one program.
use Rattle.std.proofs.Common.{◌≡◌, ℕ, List, [], ◌∷◌, ◌++◌, Option, Some, sym, ap, ◌∙◌, subst}
use Rattle.std.specs.List.{flat_map}
use Rattle.cc_tokens.specs.Token.{Lexeme}
use Rattle.cc_tokens.specs.Tokens.{TokensAreOne}
use Rattle.cc_ast.specs.Tree.{External}
use Rattle.cc_ast.specs.Grammar.{Spells}
use Rattle.cc_ast.specs.Limits.{TreesAreOne}
use Rattle.cc_ast.specs.Parse.{SpellsText}
use Rattle.cc_wide_text.specs.Plain.{plain}
use Rattle.cc_wide_text.specs.Macros.{expanded}
use Rattle.cc_wide_text.specs.Names.{named, enumerators}
use Rattle.cc_wide_text.specs.Numbers.{Enumerator, Number, numbered, declaration, word_of_unit, IsConstant, HasNumber, AreNumbers}
use Rattle.cc_wide_text.specs.Marks.{marked}
use Rattle.cc_wide_text.specs.Forms.{wide_unit}
use Rattle.cc_wide_text.specs.Program.{IsNumberedTree, IsKnownTree, IsReplacedTree, MarkedTreesAreOne, WideTreesAreOne}

some_one : {v w : ℕ} → (let a : Option ℕ = Some v in a) ≡ Some w → v ≡ w
some_one e = cc

module _ (tokens : TokensAreOne) (trees : TreesAreOne) where
  one_tree : (text : List ℕ) (a b : List External) → SpellsText text a → SpellsText text b → a ≡ b
  one_tree text a b h k =
      let p = h.spelled in
      let q = k.spelled in
      trees h.tokens a b (p.0, p.1, p.3) (subst (λ (z : List Lexeme). Spells z b) (tokens text k.tokens h.tokens k.are h.are) (q.0, q.1, q.3))

  one_constant : (value : List ℕ) (v w : ℕ) → IsConstant value v → IsConstant value w → v ≡ w
  one_constant value v w h k =
      let same : h.tree ≡ k.tree = one_tree (declaration value) h.tree k.tree h.spelled k.spelled in
      some_one (sym h.is ∙ ap (λ (es : List External). word_of_unit es) same ∙ k.is)

  pub one_number : (ns : List Number) (e : Enumerator) (v w : ℕ) → HasNumber ns e v → HasNumber ns e w → v ≡ w
  one_number ns e v w h k =
      let same : k.tokens ≡ h.tokens = tokens e.value k.tokens h.tokens k.are h.are in
      one_constant (flat_map (numbered ns) h.tokens) v w h.constant (subst (λ (z : List Lexeme). IsConstant (flat_map (numbered ns) z) w) same k.constant)

  pub one_list : (ns : List Number) (es : List Enumerator) (a b : List Number) → AreNumbers ns es a → AreNumbers ns es b → a ≡ b
  one_list ns [] a b h k = h ∙ sym k
  one_list ns (e ∷ es) a b h k =
      let same : k.0 ≡ h.0 = one_number ns e k.0 h.0 k.1 h.1 in
      one_list (ns ++ record { name = e.name; word = h.0 } ∷ []) es a b h.2 (subst (λ (z : ℕ). AreNumbers (ns ++ record { name = e.name; word = z } ∷ []) es b) same k.2)

  one_numbered : (ns : List Number) (words : List Lexeme) (a b : List External) → IsNumberedTree ns words a → IsNumberedTree ns words b → a ≡ b
  one_numbered ns words a b h k = one_tree (marked ns words) a b h.spelled k.spelled

  one_known : (words : List Lexeme) (a b : List External) → IsKnownTree words a → IsKnownTree words b → a ≡ b
  one_known words a b h k =
      let known : k.known ≡ h.known = tokens (named words) k.known h.known k.become h.become in
      let numbers : k.numbers ≡ h.numbers = one_list [] (enumerators words) k.numbers h.numbers k.have h.have in
      one_numbered h.numbers h.known a b h.read
      (subst (λ (z : List Lexeme). IsNumberedTree h.numbers z b) known (subst (λ (ns : List Number). IsNumberedTree ns k.known b) numbers k.read))

  one_replaced : (words : List Lexeme) (a b : List External) → IsReplacedTree words a → IsReplacedTree words b → a ≡ b
  one_replaced words a b h k =
      let replaced : k.replaced ≡ h.replaced = tokens (expanded words) k.replaced h.replaced k.become h.become in
      one_known h.replaced a b h.read (subst (λ (z : List Lexeme). IsKnownTree z b) replaced k.read)

  pub marked_trees_are_one : MarkedTreesAreOne
  marked_trees_are_one text a b h k =
      let words : k.words ≡ h.words = tokens (plain text) k.words h.words k.are h.are in
      one_replaced h.words a b h.read (subst (λ (z : List Lexeme). IsReplacedTree z b) words k.read)

  pub wide_trees_are_one : WideTreesAreOne
  wide_trees_are_one text a b h k = h.is ∙ ap (λ (es : List External). wide_unit es) (marked_trees_are_one text h.tree k.tree h.of k.of) ∙ sym k.is
