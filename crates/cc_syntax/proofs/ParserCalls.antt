-- A closing parenthesis in the place of an argument can end only a call without arguments.
use Rattle.std.proofs.Common.{◌≡◌, List, [], ◌∷◌, ◌++◌, None, ap, ◌∙◌, refl}
use Rattle.cc_ast.specs.Tree.{Name}
use Rattle.cc_ast.specs.internal.Arguments.{expressions_of}
use Rattle.cc_ast.specs.declared.ast.Expression.{Expression}
use Rattle.cc_syntax.specs.declared.parser.state.Waiting as waiting
use Rattle.cc_syntax.specs.internal.Parser.{Waiting, Arguments, Full, call_of_none}
use Rattle.cc_syntax.specs.internal.ParserView.{waiting_view, waiting_views}
use Rattle.cc_syntax.proofs.Views.{waiting_views-push}

-- the last pending part in the code is the first one in the view
pub waiting_views-last : (xs ws : List waiting.Waiting) (w : waiting.Waiting) (v : Waiting) → xs ≡ ws ++ w ∷ [] → waiting_view w ≡ v → waiting_views xs ≡ v ∷ waiting_views ws
waiting_views-last xs ws w v e d =
    ap waiting_views e ∙ waiting_views-push ws w ∙ ap (λ (u : Waiting). u ∷ waiting_views ws) d

pub call_of_none-some : (f : Full) (xs ws : List waiting.Waiting) (w : waiting.Waiting) (n : Name) (es : List Expression) → xs ≡ ws ++ w ∷ [] → waiting_view w ≡ Arguments n (expressions_of es) → (es ≡ [] → ⊥) → call_of_none f (waiting_views xs) ≡ None
call_of_none-some f xs ws w n [] e d h = absurd (h refl)
call_of_none-some f xs ws w n (first ∷ others) e d h =
    ap (λ (v : List Waiting). call_of_none f v) (waiting_views-last xs ws w (Arguments n (expressions_of (first ∷ others))) e d)
