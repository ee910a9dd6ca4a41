-- A translation does what the wide text does: the wide text is one program, and the text has one tree.
use Rattle.std.proofs.Common.{◌≡◌, ℕ, List, subst}
use Rattle.cc_tokens.specs.Token.{Lexeme}
use Rattle.cc_tokens.specs.Tokens.{TokensAreOne}
use Rattle.cc_ast.specs.Tree.{External}
use Rattle.cc_ast.specs.Grammar.{Spells}
use Rattle.cc_ast.specs.Limits.{TreesAreOne}
use Rattle.cc_ast.specs.Parse.{SpellsText}
use Rattle.cc_wide.specs.WideTree.{WideExternal}
use Rattle.cc_wide.specs.Laws.{IsTranslation, TranslationsDoTheSame}
use Rattle.cc_wide.specs.Laws as wide
use Rattle.cc_wide_text.specs.Program.{IsWideProgram, WideTreesAreOne}
use Rattle.cc_translate.specs.Translates.{Translates, TranslationsDo, FollowersFollow}

module _ (tokens : TokensAreOne) (trees : TreesAreOne) (programs : WideTreesAreOne) where
  one_tree : (text : List ℕ) (a b : List External) → SpellsText text a → SpellsText text b → a ≡ b
  one_tree text a b h k =
      let p = h.spelled in
      let q = k.spelled in
      trees h.tokens a b (p.0, p.1, p.3) (subst (λ (z : List Lexeme). Spells z b) (tokens text k.tokens h.tokens k.are h.are) (q.0, q.1, q.3))

  -- whichever program and tree they are
  translates : (wide text : List ℕ) → Translates wide text → (unit : List WideExternal) (tree : List External) → IsWideProgram wide unit → SpellsText text tree → IsTranslation unit tree
  translates wide text t unit tree p s =
      subst (λ (z : List External). IsTranslation unit z) (one_tree text t.tree tree t.spelled s)
      (subst (λ (u : List WideExternal). IsTranslation u t.tree) (programs wide t.unit unit t.program p) t.translation)

  pub do_the_same : TranslationsDoTheSame → TranslationsDo
  do_the_same law wide text t unit tree p s input n = law text unit tree (translates wide text t unit tree p s) input n

  pub followers_follow : wide.FollowersFollow → FollowersFollow
  followers_follow law wide text t unit tree p s mode input z f = law mode text unit tree (translates wide text t unit tree p s) input z f
