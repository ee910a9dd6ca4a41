-- Once a pending part is completed with its operand, the tokens still spell the expression.
use Rattle.std.proofs.Common.{◌≡◌, ◌≤◌, ℕ, suc, List, [], ◌∷◌, ◌++◌, refl, sym, ap, subst, ◌∙◌, arith, append_assoc, inl, inr}
use Rattle.std.proofs.lemmas.Bool.Decides.{leb_tells}
use Rattle.cc_tokens.specs.Token.{Lexeme}
use Rattle.cc_ast.specs.Tree.{Expr, Number, Variable, Element, Call, Parenthesised, Unary, Cast, Binary, Conditional}
use Rattle.cc_ast.specs.Grammar.{SpellsExpression, precedence}
use Rattle.cc_syntax.specs.internal.Parser.{Waiting, Parenthesis, Index, Arguments, Prefix, Casting, Infix, Then, Otherwise, reduced}
use Rattle.cc_syntax.proofs.Forms.{pops, keeps}
use Rattle.cc_syntax.proofs.ReadsExpression.{precedence-within}
use Rattle.cc_syntax.proofs.SoFar.{Room, Holds}

-- an expression of one level is also one of each lower level
pub spells-looser : (e : Expr) (l m : ℕ) (xs : List Lexeme) → m ≤ l → SpellsExpression l xs e → SpellsExpression m xs e
spells-looser (Number t w) l m xs h s = s
spells-looser (Variable v) l m xs h s = s
spells-looser (Element v e) l m xs h s = s
spells-looser (Call v es) l m xs h s = s
spells-looser (Parenthesised e) l m xs h s = s
spells-looser (Unary op e) l m xs h s = s
spells-looser (Cast t e) l m xs h s = s
spells-looser (Binary op a c) l m xs h s = (s.0, s.1, s.2, omega (arith, s.3, h), s.4, s.5, s.6, s.7)
spells-looser (Conditional c a b) l m xs h s = (s.0, s.1, s.2, s.3, s.4, omega (arith, s.5, h), s.6, s.7, s.8, s.9, s.10, s.11)

-- an expression of level 12 fits after any pending parts
pub room-most : (ws : List Waiting) → Room 12 ws
room-most [] = omega arith
room-most (Parenthesis ∷ ws) = omega arith
room-most (Index n ∷ ws) = omega arith
room-most (Arguments n es ∷ ws) = omega arith
room-most (Prefix op ∷ ws) = omega arith
room-most (Casting t ∷ ws) = omega arith
room-most (Infix op a ∷ ws) = let range = precedence-within op in omega (arith, range.1)
room-most (Then c ∷ ws) = omega arith
room-most (Otherwise c a ∷ ws) = omega arith

-- if an expression of level 2 fits after the pending parts, one of level 1 does too
pub room-one : (ws : List Waiting) → Room 2 ws → Room 1 ws
room-one [] h = omega arith
room-one (Parenthesis ∷ ws) h = omega arith
room-one (Index n ∷ ws) h = omega arith
room-one (Arguments n es ∷ ws) h = omega arith
room-one (Prefix op ∷ ws) h = absurd (omega (arith, h))
room-one (Casting t ∷ ws) h = absurd (omega (arith, h))
room-one (Infix op a ∷ ws) h = let range = precedence-within op in absurd (omega (arith, h, range.0))
room-one (Then c ∷ ws) h = omega arith
room-one (Otherwise c a ∷ ws) h = omega arith

-- after a reduction for an operator of the level, the operand is spelled, and no part that is still pending
-- binds as tightly
pub record Reduces (level : ℕ) (xs : List Lexeme) (r : Expr × List Waiting) : Type 0 where
  pub holds : Holds r.1 r.0 xs level
  pub room : Room level r.1

-- the tokens of a pending part and of its operand can be grouped together
regrouped : (xs prefix part rest more : List Lexeme) → xs ≡ prefix ++ part → prefix ≡ rest ++ more → xs ≡ rest ++ (more ++ part)
regrouped xs prefix part rest more h k = h ∙ ap (λ (z : List Lexeme). z ++ part) k ∙ append_assoc rest more part

pub reduces : (ws : List Waiting) (e : Expr) (xs : List Lexeme) (q : ℕ) → 1 ≤ q → q ≤ 12 → Holds ws e xs q → Reduces q xs (reduced q ws e)
reduces [] e xs q low high h = record { holds = h; room = low }
reduces (Parenthesis ∷ ws) e xs q low high h =
    subst (λ (r : Expr × List Waiting). Reduces q xs r) (sym (keeps q 0 _ _ (omega arith))) (record { holds = h; room = low })
reduces (Index n ∷ ws) e xs q low high h =
    subst (λ (r : Expr × List Waiting). Reduces q xs r) (sym (keeps q 0 _ _ (omega arith))) (record { holds = h; room = low })
reduces (Arguments n es ∷ ws) e xs q low high h =
    subst (λ (r : Expr × List Waiting). Reduces q xs r) (sym (keeps q 0 _ _ (omega arith))) (record { holds = h; room = low })
reduces (Then c ∷ ws) e xs q low high h =
    subst (λ (r : Expr × List Waiting). Reduces q xs r) (sym (keeps q 0 _ _ (omega arith))) (record { holds = h; room = low })
reduces (Prefix op ∷ ws) e xs q low high h =
    let w = h.waits in
    let more : Holds ws (Unary op e) xs q = record {
      prefix = w.0;
      part = w.1 ∷ h.part;
      level = 12;
      waits = w.2;
      spelled = (w.1, h.part, w.3, spells-looser e h.level 12 h.part h.room h.spelled, refl);
      room = room-most ws;
      tight = high;
      whole = regrouped xs h.prefix h.part w.0 (w.1 ∷ []) h.whole w.4;
    } in
    subst (λ (r : Expr × List Waiting). Reduces q xs r) (sym (pops q 12 _ _ high)) (reduces ws (Unary op e) xs q low high more)
reduces (Casting t ∷ ws) e xs q low high h =
    let w = h.waits in
    let grouped : (w.2 ∷ w.1 ++ w.3 ∷ []) ++ h.part ≡ w.2 ∷ (w.1 ++ w.3 ∷ h.part) = ap (λ (z : List Lexeme). w.2 ∷ z) (append_assoc w.1 (w.3 ∷ []) h.part) in
    let more : Holds ws (Cast t e) xs q = record {
      prefix = w.0;
      part = w.2 ∷ w.1 ++ w.3 ∷ h.part;
      level = 12;
      waits = w.4;
      spelled = (w.2, w.3, w.1, h.part, w.5, w.6, w.7, spells-looser e h.level 12 h.part h.room h.spelled, refl);
      room = room-most ws;
      tight = high;
      whole = regrouped xs h.prefix h.part w.0 (w.2 ∷ w.1 ++ w.3 ∷ []) h.whole w.8 ∙ ap (λ (z : List Lexeme). w.0 ++ z) grouped;
    } in
    subst (λ (r : Expr × List Waiting). Reduces q xs r) (sym (pops q 12 _ _ high)) (reduces ws (Cast t e) xs q low high more)
reduces (Infix op a ∷ ws) e xs q low high h =
    let w = h.waits in
    elim (leb_tells q (precedence op)) [
      | inl t ↦
          let grouped : (w.1 ++ w.2 ∷ []) ++ h.part ≡ w.1 ++ w.2 ∷ h.part = append_assoc w.1 (w.2 ∷ []) h.part in
          let more : Holds ws (Binary op a e) xs q = record {
            prefix = w.0;
            part = w.1 ++ w.2 ∷ h.part;
            level = precedence op;
            waits = w.3;
            spelled = (w.2, w.1, h.part, omega arith, w.6, w.4, spells-looser e h.level (suc (precedence op)) h.part h.room h.spelled, refl);
            room = w.5;
            tight = t.1;
            whole = regrouped xs h.prefix h.part w.0 (w.1 ++ w.2 ∷ []) h.whole w.7 ∙ ap (λ (z : List Lexeme). w.0 ++ z) grouped;
          } in
          subst (λ (r : Expr × List Waiting). Reduces q xs r) (sym (pops q (precedence op) _ _ t.1)) (reduces ws (Binary op a e) xs q low high more)
      | inr t ↦
          subst (λ (r : Expr × List Waiting). Reduces q xs r) (sym (keeps q (precedence op) _ _ t.1)) (record { holds = h; room = t.1 })
    ]
reduces (Otherwise c a ∷ ws) e xs q low high h =
    let w = h.waits in
    elim (leb_tells q 1) [
      | inl t ↦
          let inner : (w.3 ∷ w.2 ++ w.4 ∷ []) ++ h.part ≡ w.3 ∷ (w.2 ++ w.4 ∷ h.part) = ap (λ (z : List Lexeme). w.3 ∷ z) (append_assoc w.2 (w.4 ∷ []) h.part) in
          let grouped : (w.1 ++ (w.3 ∷ w.2 ++ w.4 ∷ [])) ++ h.part ≡ w.1 ++ (w.3 ∷ w.2 ++ w.4 ∷ h.part) =
          append_assoc w.1 (w.3 ∷ w.2 ++ w.4 ∷ []) h.part ∙ ap (λ (z : List Lexeme). w.1 ++ z) inner in
          let more : Holds ws (Conditional c a e) xs q = record {
            prefix = w.0;
            part = w.1 ++ (w.3 ∷ w.2 ++ w.4 ∷ h.part);
            level = 1;
            waits = w.5;
            spelled = (w.3, w.4, w.1, w.2, h.part, omega arith, w.9, w.10, w.6, w.7, spells-looser e h.level 1 h.part h.room h.spelled, refl);
            room = w.8;
            tight = t.1;
            whole = regrouped xs h.prefix h.part w.0 (w.1 ++ (w.3 ∷ w.2 ++ w.4 ∷ [])) h.whole w.11 ∙ ap (λ (z : List Lexeme). w.0 ++ z) grouped;
          } in
          subst (λ (r : Expr × List Waiting). Reduces q xs r) (sym (pops q 1 _ _ t.1)) (reduces ws (Conditional c a e) xs q low high more)
      | inr t ↦
          subst (λ (r : Expr × List Waiting). Reduces q xs r) (sym (keeps q 1 _ _ t.1)) (record { holds = h; room = low })
    ]
