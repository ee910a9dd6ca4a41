-- The parser reads each statement that tokens spell, by induction on its tree. After a statement that ends in an open `if`, the
-- next token decides: any token except `else` is read as it is after a complete statement.
use Rattle.std.proofs.Common.{◌≡◌, ℕ, true, false, suc, List, [], ◌∷◌, ◌++◌, length, Option, Some, None, refl, sym, ap, subst, ◌∙◌, arith, append_assoc}
use Rattle.cc_tokens.specs.declared.scalar.Scalar.{Scalar}
use Rattle.cc_tokens.specs.declared.token.Keyword.TheVariants as keyword
use Rattle.cc_tokens.specs.declared.token.Punctuator.TheVariants as punctuator
use Rattle.cc_tokens.specs.declared.token.TokenKind.{TokenKind}
use Rattle.cc_tokens.specs.declared.token.TokenKind.TheVariants as kind
use Rattle.cc_syntax.specs.declared.parser.role.Role.{Role}
use Rattle.cc_syntax.specs.declared.parser.role.Role.TheVariants as role
use Rattle.cc_tokens.specs.Token.{Lexeme}
use Rattle.cc_ast.specs.Tree.{Name, Expr, Declarator, Action, Beginning, Declares, Performs, Stmt, Block, Local, Perform, Return, Break, Continue, If, IfElse, While, DoWhile, For, Stmts, end, next}
use Rattle.cc_syntax.specs.internal.Roles.{role_of}
use Rattle.cc_ast.specs.Grammar.{Measured, outside, full, begins, Marks, SpellsExpression, SpellsOptional, SpellsOptionalAction, SpellsBeginning, SpellsStatement, SpellsStatements, IsStatement, IsClosed}
use Rattle.cc_syntax.specs.internal.Parser.{State, InBody, Inside, Stage, Item, AfterThen, AfterDo, Testing, Ending, Returning, ForOpening, ForStarting, ForTesting, ForStepping, Declaring, LocalSign, AsLocal, AsHeader, Context, OfBody, ToReturn, ToTest, ToGoOn, Test, ForIf, ForWhile, ForDo, AsStatement, AsStart, AsLast, Open, InBlock, InThen, InElse, InWhile, InDo, InFor, Waiting, inside_of, in_body, settled, with_last, full_of, close, tested, declare, action_step, first_step, item_step, role_step, role_level, name_of, count_of}
use Rattle.cc_syntax.proofs.ParserRuns.{Runs, token, runs-append}
use Rattle.cc_syntax.proofs.Forms.{operand, operator, count_after}
use Rattle.cc_syntax.proofs.Settles.{within, settled-within, settled-count, settled-rests, RestsAs, rests-on, none-some}
use Rattle.cc_syntax.proofs.ReadsAction.{read_full, read_ended, Enters, read_action, no-operator}
use Rattle.cc_syntax.proofs.ReadsDeclaration.{Begins, read_local}

-- the statement or declaration may come inside these open statements
abbrev pub CanStand : List Open → Stmt → Type 0
CanStand [] s = Unit {0}
CanStand (InBlock ss ∷ os) s = Unit {0}
CanStand (o ∷ os) s = IsStatement s

-- the tokens of a statement lead to the state after it
pub record Leads (b : Inside) (ts : List Measured) (s : Stmt) : Type 0 where
  pub after : State
  pub runs : Runs (InBody b Item) ts after
  pub closed : IsClosed s → after ≡ in_body (settled true b b.opened s)
  pub rests : RestsAs after (in_body (settled false b b.opened s))

-- the tokens of a statement lead to the state after it, if the parser completes the statement at its last token
leads : (b : Inside) (ts : List Measured) (s : Stmt) → Runs (InBody b Item) ts (in_body (settled true b b.opened s)) → Leads b ts s
leads b ts s h = record { after = in_body (settled true b b.opened s); runs = h; closed = λ c. refl; rests = settled-rests b b.opened s }

-- an action may begin a statement, or either end of a `for` header

item-acts : (r : Role) (b : Inside) (v : Name) (m : State) → action_step b AsStatement r v ≡ Some m → item_step b r v ≡ Some m
item-acts role.OpenBrace b v m h = absurd (none-some _ m refl h)
item-acts role.CloseBrace b v m h = absurd (none-some _ m refl h)
item-acts role.Semicolon b v m h = absurd (none-some _ m refl h)
item-acts role.Return b v m h = absurd (none-some _ m refl h)
item-acts role.Break b v m h = absurd (none-some _ m refl h)
item-acts role.Continue b v m h = absurd (none-some _ m refl h)
item-acts role.If b v m h = absurd (none-some _ m refl h)
item-acts role.While b v m h = absurd (none-some _ m refl h)
item-acts role.Do b v m h = absurd (none-some _ m refl h)
item-acts role.For b v m h = absurd (none-some _ m refl h)
item-acts role.Int b v m h = absurd (none-some _ m refl h)
item-acts (role.SignWord t) b v m h = absurd (none-some _ m refl h)
item-acts r b v m h = h

item-level : (r : Role) (b : Inside) (v : Name) (m : State) → action_step b AsStatement r v ≡ Some m → suc (suc (length b.opened)) ≡ role_level (InBody b Item) r
item-level role.CloseBrace b v m h = absurd (none-some _ m refl h)
item-level r b v m h = refl

enters-item : (b : Inside) → Enters (InBody b Item) b AsStatement (suc (suc (length b.opened)))
enters-item b = record { first = λ r v m h. item-acts r b v m h; begun = λ r v m h. item-level r b v m h }

starting-acts : (r : Role) (b : Inside) (v : Name) (m : State) → action_step b AsStart r v ≡ Some m → role_step (InBody b ForStarting) r v ≡ Some m
starting-acts role.Semicolon b v m h = absurd (none-some _ m refl h)
starting-acts role.Int b v m h = absurd (none-some _ m refl h)
starting-acts (role.SignWord t) b v m h = absurd (none-some _ m refl h)
starting-acts r b v m h = h

starting-level : (r : Role) (b : Inside) (v : Name) (m : State) → action_step b AsStart r v ≡ Some m → 0 ≡ role_level (InBody b ForStarting) r
starting-level role.Int b v m h = absurd (none-some _ m refl h)
starting-level (role.SignWord t) b v m h = absurd (none-some _ m refl h)
starting-level r b v m h = refl

enters-starting : (b : Inside) → Enters (InBody b ForStarting) b AsStart 0
enters-starting b = record { first = λ r v m h. starting-acts r b v m h; begun = λ r v m h. starting-level r b v m h }

stepping-acts : (r : Role) (b : Inside) (a : Beginning) (e : Option Expr) (v : Name) (m : State) → action_step b (AsLast a e) r v ≡ Some m → role_step (InBody b (ForStepping a e)) r v ≡ Some m
stepping-acts role.CloseParenthesis b a e v m h = absurd (none-some _ m refl h)
stepping-acts r b a e v m h = h

enters-stepping : (b : Inside) (a : Beginning) (e : Option Expr) → Enters (InBody b (ForStepping a e)) b (AsLast a e) 0
enters-stepping b a e = record { first = λ r v m h. stepping-acts r b a e v m h; begun = λ r v m h. refl }

-- a run over a full expression and what follows it may start in any state in which a full expression may begin
enter_full : (xs : List Lexeme) (s : State) (c : Context) (k : ℕ) (ws : List Waiting) (last : Expr) (rest : List Measured) (m : State) → ((r : Role) (v : Name) (n : State) → first_step c r v ≡ Some n → role_step s r v ≡ Some n) → ((r : Role) → 0 ≡ role_level s r) → Runs (operand c 0 []) (full xs) (operator c k ws last) → Runs (operator c k ws last) rest m → Runs s (full xs ++ rest) m
enter_full [] s c k ws last rest m first none h g = absurd (no-operator c 0 k [] ws last h)
enter_full (x ∷ xs) s c k ws last rest m first none h g =
    (h.0, first (role_of x.kind) (name_of x) h.0 h.1, h.2, none (role_of x.kind), runs-append h.0 (operator c k ws last) m _ rest h.4 g)

returning-acts : (r : Role) (b : Inside) (at : ℕ) (v : Name) (m : State) → first_step (OfBody b (ToReturn at)) r v ≡ Some m → role_step (InBody b (Returning at)) r v ≡ Some m
returning-acts role.Semicolon b at v m h = absurd (none-some _ m refl h)
returning-acts r b at v m h = h

testing-acts : (r : Role) (b : Inside) (a : Beginning) (v : Name) (m : State) → first_step (OfBody b (ToGoOn a)) r v ≡ Some m → role_step (InBody b (ForTesting a)) r v ≡ Some m
testing-acts role.Semicolon b a v m h = absurd (none-some _ m refl h)
testing-acts r b a v m h = h

begins-item : (b : Inside) (t : Scalar) (ds : List Declarator) → CanStand b.opened (Local t ds) → Begins (InBody b Item) b AsLocal (suc (suc (length b.opened)))
begins-item b t ds h = record { int = λ v. can b.opened h (Declaring AsLocal _ []); sign = λ u v. can b.opened h (LocalSign AsLocal u); int_level = refl; sign_level = λ u. refl }
  where
    can : (os : List Open) → CanStand os (Local t ds) → (g : Stage) → declare b g os ≡ Some (InBody b g)
    can [] h g = refl
    can (InBlock ss ∷ os) h g = refl
    can (InThen e ∷ os) h g = absurd h
    can (InElse e s ∷ os) h g = absurd h
    can (InWhile e ∷ os) h g = absurd h
    can (InDo ∷ os) h g = absurd h
    can (InFor a e l ∷ os) h g = absurd h

begins-starting : (b : Inside) → Begins (InBody b ForStarting) b AsHeader (suc (suc (suc (length b.opened))))
begins-starting b = record { int = λ v. refl; sign = λ u v. refl; int_level = refl; sign_level = λ u. refl }

-- the parser reads a condition in parentheses
read_test : (e : Expr) (test : List Lexeme) (opening closing : Lexeme) (b : Inside) (k : Test) (m : State) → Marks punctuator.OpenParenthesis opening → Marks punctuator.CloseParenthesis closing → SpellsExpression 1 test e → tested b k e ≡ Some m → 0 ≡ count_of m → Runs (InBody b (Testing k)) (outside opening ∷ full test ++ outside closing ∷ []) m
read_test e test opening closing b k m open_ close_ h goes counts =
    token (InBody b (Testing k)) (operand (OfBody b (ToTest k)) 0 []) m opening (kind.Punctuator punctuator.OpenParenthesis) 0 0 (full test ++ outside closing ∷ []) open_ refl refl refl
    (read_ended (OfBody b (ToTest k)) 0 test e closing (kind.Punctuator punctuator.CloseParenthesis) m 0 h close_ (λ f z. refl) goes counts)

-- the parser reads the first part of a `for` header
read_start : (a : Beginning) (ts : List Measured) (b : Inside) → SpellsBeginning (suc (suc (suc (length b.opened)))) ts a → Runs (InBody b ForStarting) ts (InBody b (ForTesting a))
read_start (Declares t ds) ts b h =
    subst (λ (z : List Measured). Runs (InBody b ForStarting) z (InBody b (ForTesting (Declares t ds)))) (sym h.2)
    (read_local t ds h.0 (InBody b ForStarting) b AsHeader (suc (suc (suc (length b.opened)))) (begins-starting b) h.1)
read_start (Performs None) ts b h =
    subst (λ (z : List Measured). Runs (InBody b ForStarting) z (InBody b (ForTesting (Performs None)))) (sym (h.4 ∙ ap (λ (z : List Measured). z ++ outside h.1 ∷ []) h.2))
    (token (InBody b ForStarting) (InBody b (ForTesting (Performs None))) _ h.1 (kind.Punctuator punctuator.Semicolon) 0 0 [] h.3 refl refl refl refl)
read_start (Performs (Some a)) ts b h =
    let o = h.2 in
    let runs = read_action a o.0 (InBody b ForStarting) b AsStart 0 h.1 (enters-starting b) o.1 h.3 in
    subst (λ (z : List Measured). Runs (InBody b ForStarting) z (InBody b (ForTesting (Performs (Some a))))) (sym (h.4 ∙ ap (λ (z : List Measured). z ++ outside h.1 ∷ []) o.2))
    (unlevelled o.0 h.1 runs)
  where
    unlevelled : (xs : List Lexeme) (x : Lexeme) → Runs (InBody b ForStarting) (begins 0 (full xs ++ outside x ∷ [])) (InBody b (ForTesting (Performs (Some a)))) → Runs (InBody b ForStarting) (full xs ++ outside x ∷ []) (InBody b (ForTesting (Performs (Some a))))
    unlevelled [] x r = r
    unlevelled (y ∷ ys) x r = r

-- the parser reads the condition of a `for`, with its semicolon
read_testing : (e : Option Expr) (ts : List Measured) (x : Lexeme) (b : Inside) (a : Beginning) → SpellsOptional ts e → Marks punctuator.Semicolon x → Runs (InBody b (ForTesting a)) (ts ++ outside x ∷ []) (InBody b (ForStepping a e))
read_testing None ts x b a h k =
    subst (λ (z : List Measured). Runs (InBody b (ForTesting a)) (z ++ outside x ∷ []) (InBody b (ForStepping a None))) (sym h)
    (token (InBody b (ForTesting a)) (InBody b (ForStepping a None)) _ x (kind.Punctuator punctuator.Semicolon) 0 0 [] k refl refl refl refl)
read_testing (Some e) ts x b a h k =
    let c = OfBody b (ToGoOn a) in
    let m = InBody b (ForStepping a (Some e)) in
    let r = read_full e h.0 c 0 h.1 in
    let n = count_after 0 h.0 in
    let last : Runs (operator c n r.waiting r.last) (outside x ∷ []) m =
    token (operator c n r.waiting r.last) m m x (kind.Punctuator punctuator.Semicolon) 0 0 [] k (ap (λ (z : Expr × List Waiting). close (full_of c r.waiting n) role.Semicolon z) (r.same 1 (omega arith))) refl refl refl in
    subst (λ (z : List Measured). Runs (InBody b (ForTesting a)) (z ++ outside x ∷ []) m) (sym h.2)
    (enter_full h.0 (InBody b (ForTesting a)) c n r.waiting r.last (outside x ∷ []) m (λ r v z g. testing-acts r b a v z g) (λ r. refl) r.runs last)

-- the parser reads the last part of a `for` header, with its parenthesis
read_last : (l : Option Action) (ts : List Measured) (x : Lexeme) (b : Inside) (a : Beginning) (e : Option Expr) → SpellsOptionalAction ts l → Marks punctuator.CloseParenthesis x → Runs (InBody b (ForStepping a e)) (ts ++ outside x ∷ []) (InBody (within b (InFor a e l ∷ b.opened)) Item)
read_last None ts x b a e h k =
    subst (λ (z : List Measured). Runs (InBody b (ForStepping a e)) (z ++ outside x ∷ []) (InBody (within b (InFor a e None ∷ b.opened)) Item)) (sym h)
    (token (InBody b (ForStepping a e)) (InBody (within b (InFor a e None ∷ b.opened)) Item) _ x (kind.Punctuator punctuator.CloseParenthesis) 0 0 [] k refl refl refl refl)
read_last (Some l) ts x b a e h k =
    let m = InBody (within b (InFor a e (Some l) ∷ b.opened)) Item in
    subst (λ (z : List Measured). Runs (InBody b (ForStepping a e)) (z ++ outside x ∷ []) m) (sym h.2)
    (unlevelled h.0 x (read_action l h.0 (InBody b (ForStepping a e)) b (AsLast a e) 0 x (enters-stepping b a e) h.1 k))
  where
    unlevelled : (xs : List Lexeme) (y : Lexeme) → Runs (InBody b (ForStepping a e)) (begins 0 (full xs ++ outside y ∷ [])) (InBody (within b (InFor a e (Some l) ∷ b.opened)) Item) → Runs (InBody b (ForStepping a e)) (full xs ++ outside y ∷ []) (InBody (within b (InFor a e (Some l) ∷ b.opened)) Item)
    unlevelled [] y r = r
    unlevelled (z ∷ zs) y r = r

-- the parser reads a keyword and a condition in parentheses, and then what follows them
read_headed : (e : Expr) (test : List Lexeme) (word opening closing : Lexeme) (b : Inside) (k : Test) (w : TokenKind) (o : Open) (part : List Measured) (m : State) → word.kind ≡ w → Marks punctuator.OpenParenthesis opening → Marks punctuator.CloseParenthesis closing → SpellsExpression 1 test e → role_step (InBody b Item) (role_of w) (name_of word) ≡ Some (InBody b (Testing k)) → suc (suc (length b.opened)) ≡ role_level (InBody b Item) (role_of w) → tested b k e ≡ Some (InBody (within b (o ∷ b.opened)) Item) → Runs (InBody (within b (o ∷ b.opened)) Item) part m → Runs (InBody b Item) (begins (suc (suc (length b.opened))) (outside word ∷ outside opening ∷ full test ++ outside closing ∷ part)) m
read_headed e test word opening closing b k w o part m kind_ open_ close_ h first lev goes rest =
    let inner = InBody (within b (o ∷ b.opened)) Item in
    let condition = read_test e test opening closing b k inner open_ close_ h goes refl in
    let both : Runs (InBody b (Testing k)) ((outside opening ∷ full test ++ outside closing ∷ []) ++ part) m = runs-append (InBody b (Testing k)) inner m (outside opening ∷ full test ++ outside closing ∷ []) part condition rest in
    let grouped : Runs (InBody b (Testing k)) (outside opening ∷ full test ++ outside closing ∷ part) m =
    subst (λ (z : List Measured). Runs (InBody b (Testing k)) z m) (append_assoc (outside opening ∷ full test) (outside closing ∷ []) part) both in
    token (InBody b Item) (InBody b (Testing k)) m word w 0 (suc (suc (length b.opened))) (outside opening ∷ full test ++ outside closing ∷ part) kind_ first refl lev grouped

-- statements appended to earlier ones
abbrev pub appended : Stmts → Stmts → Stmts
appended done end = done
appended done (next s ss) = appended (with_last done s) ss

joined : Stmts → Stmts → Stmts
joined end ss = ss
joined (next s done) ss = next s (joined done ss)

joined-last : (done : Stmts) (s : Stmt) (ss : Stmts) → joined (with_last done s) ss ≡ joined done (next s ss)
unfolding joined
joined-last end s ss = refl
joined-last (next t done) s ss = ap (λ r. next t r) (joined-last done s ss)

joined-end : (done : Stmts) → joined done end ≡ done
unfolding joined
joined-end end = refl
joined-end (next t done) = ap (λ r. next t r) (joined-end done)

appended-joined : (ss done : Stmts) → appended done ss ≡ joined done ss
appended-joined end done = sym (joined-end done)
appended-joined (next s ss) done = appended-joined ss (with_last done s) ∙ joined-last done s ss

pub appended-end : (ss : Stmts) → appended end ss ≡ ss
unfolding joined
appended-end ss = appended-joined ss end

-- the outermost block of a body, or an inner block
pub data Nest : Type 0 where
  Top : Nest
  Inner : List Open → Nest

abbrev pub body_at : Nest → Inside → Stmts → Inside
body_at Top b done = inside_of b done []
body_at (Inner os) b done = within b (InBlock done ∷ os)

settled-at : (z : Nest) (b : Inside) (done : Stmts) (s : Stmt) → in_body (settled false (body_at z b done) (body_at z b done).opened s) ≡ InBody (body_at z b (with_last done s)) Item
settled-at Top b done s = refl
settled-at (Inner os) b done s = refl

stands-at : (z : Nest) (b : Inside) (done : Stmts) (s : Stmt) → CanStand (body_at z b done).opened s
stands-at Top b done s = tt
stands-at (Inner os) b done s = tt

deep-at : (z : Nest) (b : Inside) (d e : Stmts) → length (body_at z b d).opened ≡ length (body_at z b e).opened
deep-at Top b d e = refl
deep-at (Inner os) b d e = refl

mutual
  pub read_statement : (s : Stmt) (ts : List Measured) (b : Inside) → SpellsStatement (suc (suc (length b.opened))) ts s → CanStand b.opened s → Leads b ts s
  read_statement (Block ss) ts b h c =
      let os = b.opened in
      let m = in_body (settled true b os (Block ss)) in
      let done = body_at (Inner os) b (appended end ss) in
      let settles : in_body (settled true (within b os) os (Block (appended end ss))) ≡ m =
      ap in_body (settled-within true b os os (Block (appended end ss))) ∙ ap (λ (r : Stmts). in_body (settled true b os (Block r))) (appended-end ss) in
      let last : Runs (InBody done Item) (outside h.1 ∷ []) m =
      token (InBody done Item) m m h.1 (kind.Punctuator punctuator.CloseBrace) 0 0 [] h.4 (ap (λ (z : State). Some z) settles) (settled-count true b os (Block ss)) refl refl in
      let inner = read_statements ss h.2 (Inner os) b end (outside h.1) m h.5 last in
      leads b ts (Block ss)
      (subst (λ (ps : List Measured). Runs (InBody b Item) ps m) (sym h.6)
      (token (InBody b Item) (InBody (within b (InBlock end ∷ os)) Item) m h.0 (kind.Punctuator punctuator.OpenBrace) 0 (suc (suc (length os))) (h.2 ++ outside h.1 ∷ []) h.3 refl refl refl inner))
  read_statement (Local t ds) ts b h c =
      leads b ts (Local t ds)
      (subst (λ (ps : List Measured). Runs (InBody b Item) ps (in_body (settled true b b.opened (Local t ds)))) (sym h.2)
      (read_local t ds h.0 (InBody b Item) b AsLocal (suc (suc (length b.opened))) (begins-item b t ds c) h.1))
  read_statement (Perform None) ts b h c =
      let m = in_body (settled true b b.opened (Perform None)) in
      leads b ts (Perform None)
      (subst (λ (ps : List Measured). Runs (InBody b Item) ps m) (sym (h.4 ∙ ap (λ (z : List Measured). begins (suc (suc (length b.opened))) (z ++ outside h.1 ∷ [])) h.2))
      (token (InBody b Item) m m h.1 (kind.Punctuator punctuator.Semicolon) 0 (suc (suc (length b.opened))) [] h.3 refl (settled-count true b b.opened (Perform None)) refl refl))
  read_statement (Perform (Some a)) ts b h c =
      let o = h.2 in
      let m = in_body (settled true b b.opened (Perform (Some a))) in
      leads b ts (Perform (Some a))
      (subst (λ (ps : List Measured). Runs (InBody b Item) ps m) (sym (h.4 ∙ ap (λ (z : List Measured). begins (suc (suc (length b.opened))) (z ++ outside h.1 ∷ [])) o.2))
      (read_action a o.0 (InBody b Item) b AsStatement (suc (suc (length b.opened))) h.1 (enters-item b) o.1 h.3))
  read_statement (Return at None) ts b h c =
      let m = in_body (settled true b b.opened (Return at None)) in
      let last : Runs (InBody b (Returning at)) (h.2 ++ outside h.1 ∷ []) m =
      subst (λ (z : List Measured). Runs (InBody b (Returning at)) (z ++ outside h.1 ∷ []) m) (sym h.6)
      (token (InBody b (Returning at)) m m h.1 (kind.Punctuator punctuator.Semicolon) 0 0 [] h.5 refl (settled-count true b b.opened (Return at None)) refl refl) in
      leads b ts (Return at None)
      (subst (λ (ps : List Measured). Runs (InBody b Item) ps m) (sym h.7)
      (token (InBody b Item) (InBody b (Returning at)) m h.0 (kind.Keyword keyword.Return) 0 (suc (suc (length b.opened))) (h.2 ++ outside h.1 ∷ []) h.3 (ap (λ (z : ℕ). Some (InBody b (Returning z))) h.4) refl refl last))
  read_statement (Return at (Some e)) ts b h c =
      let m = in_body (settled true b b.opened (Return at (Some e))) in
      let k = OfBody b (ToReturn at) in
      let o = h.6 in
      let r = read_full e o.0 k 0 o.1 in
      let n = count_after 0 o.0 in
      let ends : Runs (operator k n r.waiting r.last) (outside h.1 ∷ []) m =
      token (operator k n r.waiting r.last) m m h.1 (kind.Punctuator punctuator.Semicolon) 0 0 [] h.5 (ap (λ (z : Expr × List Waiting). close (full_of k r.waiting n) role.Semicolon z) (r.same 1 (omega arith))) (settled-count true b b.opened (Return at (Some e))) refl refl in
      let last : Runs (InBody b (Returning at)) (h.2 ++ outside h.1 ∷ []) m =
      subst (λ (z : List Measured). Runs (InBody b (Returning at)) (z ++ outside h.1 ∷ []) m) (sym o.2)
      (enter_full o.0 (InBody b (Returning at)) k n r.waiting r.last (outside h.1 ∷ []) m (λ r v z g. returning-acts r b at v z g) (λ r. refl) r.runs ends) in
      leads b ts (Return at (Some e))
      (subst (λ (ps : List Measured). Runs (InBody b Item) ps m) (sym h.7)
      (token (InBody b Item) (InBody b (Returning at)) m h.0 (kind.Keyword keyword.Return) 0 (suc (suc (length b.opened))) (h.2 ++ outside h.1 ∷ []) h.3 (ap (λ (z : ℕ). Some (InBody b (Returning z))) h.4) refl refl last))
  read_statement (Break at) ts b h c =
      let m = in_body (settled true b b.opened (Break at)) in
      leads b ts (Break at)
      (subst (λ (ps : List Measured). Runs (InBody b Item) ps m) (sym h.5)
      (token (InBody b Item) (InBody b (Ending (Break at))) m h.0 (kind.Keyword keyword.Break) 0 (suc (suc (length b.opened))) (outside h.1 ∷ []) h.2 (ap (λ (z : ℕ). Some (InBody b (Ending (Break z)))) h.3) refl refl
      (token (InBody b (Ending (Break at))) m m h.1 (kind.Punctuator punctuator.Semicolon) 0 0 [] h.4 refl (settled-count true b b.opened (Break at)) refl refl)))
  read_statement (Continue at) ts b h c =
      let m = in_body (settled true b b.opened (Continue at)) in
      leads b ts (Continue at)
      (subst (λ (ps : List Measured). Runs (InBody b Item) ps m) (sym h.5)
      (token (InBody b Item) (InBody b (Ending (Continue at))) m h.0 (kind.Keyword keyword.Continue) 0 (suc (suc (length b.opened))) (outside h.1 ∷ []) h.2 (ap (λ (z : ℕ). Some (InBody b (Ending (Continue z)))) h.3) refl refl
      (token (InBody b (Ending (Continue at))) m m h.1 (kind.Punctuator punctuator.Semicolon) 0 0 [] h.4 refl (settled-count true b b.opened (Continue at)) refl refl)))
  read_statement (If e s) ts b h c =
      let os = b.opened in
      let part = read_statement s h.4 (within b (InThen e ∷ os)) h.9 h.10 in
      record {
        after = part.after;
        runs = subst (λ (ps : List Measured). Runs (InBody b Item) ps part.after) (sym h.11)
            (read_headed e h.3 h.0 h.1 h.2 b ForIf (kind.Keyword keyword.If) (InThen e) h.4 part.after h.5 h.6 h.7 h.8 refl refl refl part.runs);
        closed = λ z. absurd z;
        rests = subst (λ (z : Inside × Stage). RestsAs part.after (in_body z)) (settled-within false b (InThen e ∷ os) os (If e s)) part.rests;
      }
  read_statement (IfElse e s t) ts b h c =
      let os = b.opened in
      let part = read_statement s h.5 (within b (InThen e ∷ os)) h.12 h.13 in
      let last = read_statement t h.6 (within b (InElse e s ∷ os)) h.15 h.16 in
      let waits : part.after ≡ InBody (within b os) (AfterThen e s) = part.closed h.14 in
      let behind : Runs part.after (outside h.3 ∷ h.6) last.after =
      subst (λ (z : State). Runs z (outside h.3 ∷ h.6) last.after) (sym waits)
      (token (InBody (within b os) (AfterThen e s)) (InBody (within b (InElse e s ∷ os)) Item) last.after h.3 (kind.Keyword keyword.Else) 0 0 h.6 h.10 refl refl refl last.runs) in
      let both = runs-append (InBody (within b (InThen e ∷ os)) Item) part.after last.after h.5 (outside h.3 ∷ h.6) part.runs behind in
      record {
        after = last.after;
        runs = subst (λ (ps : List Measured). Runs (InBody b Item) ps last.after) (sym h.17)
            (read_headed e h.4 h.0 h.1 h.2 b ForIf (kind.Keyword keyword.If) (InThen e) (h.5 ++ outside h.3 ∷ h.6) last.after h.7 h.8 h.9 h.11 refl refl refl both);
        closed = λ z. last.closed z ∙ ap in_body (settled-within true b (InElse e s ∷ os) os (IfElse e s t));
        rests = subst (λ (z : Inside × Stage). RestsAs last.after (in_body z)) (settled-within false b (InElse e s ∷ os) os (IfElse e s t)) last.rests;
      }
  read_statement (While e s) ts b h c =
      let os = b.opened in
      let body = read_statement s h.4 (within b (InWhile e ∷ os)) h.9 h.10 in
      record {
        after = body.after;
        runs = subst (λ (ps : List Measured). Runs (InBody b Item) ps body.after) (sym h.11)
            (read_headed e h.3 h.0 h.1 h.2 b ForWhile (kind.Keyword keyword.While) (InWhile e) h.4 body.after h.5 h.6 h.7 h.8 refl refl refl body.runs);
        closed = λ z. body.closed z ∙ ap in_body (settled-within true b (InWhile e ∷ os) os (While e s));
        rests = subst (λ (z : Inside × Stage). RestsAs body.after (in_body z)) (settled-within false b (InWhile e ∷ os) os (While e s)) body.rests;
      }
  read_statement (DoWhile s e) ts b h c =
      let os = b.opened in
      let m = in_body (settled true b os (DoWhile s e)) in
      let body = read_statement s h.5 (within b (InDo ∷ os)) h.12 h.13 in
      let b' = within b os in
      let ending = InBody b' (Ending (DoWhile s e)) in
      let last : Runs ending (outside h.4 ∷ []) m =
      token ending m m h.4 (kind.Punctuator punctuator.Semicolon) 0 0 [] h.11 (ap (λ (z : Inside × Stage). Some (in_body z)) (settled-within true b os os (DoWhile s e))) (settled-count true b os (DoWhile s e)) refl refl in
      let condition = read_test e h.6 h.2 h.3 b' (ForDo s) ending h.9 h.10 h.14 refl refl in
      let tail : Runs (InBody b' (Testing (ForDo s))) (outside h.2 ∷ full h.6 ++ outside h.3 ∷ outside h.4 ∷ []) m =
      subst (λ (z : List Measured). Runs (InBody b' (Testing (ForDo s))) z m) (append_assoc (outside h.2 ∷ full h.6) (outside h.3 ∷ []) (outside h.4 ∷ []))
      (runs-append (InBody b' (Testing (ForDo s))) ending m (outside h.2 ∷ full h.6 ++ outside h.3 ∷ []) (outside h.4 ∷ []) condition last) in
      let whole : Runs (InBody b' (AfterDo s)) (outside h.1 ∷ outside h.2 ∷ full h.6 ++ outside h.3 ∷ outside h.4 ∷ []) m =
      token (InBody b' (AfterDo s)) (InBody b' (Testing (ForDo s))) m h.1 (kind.Keyword keyword.While) 0 0 (outside h.2 ∷ full h.6 ++ outside h.3 ∷ outside h.4 ∷ []) h.8 refl refl refl tail in
      let behind : Runs body.after (outside h.1 ∷ outside h.2 ∷ full h.6 ++ outside h.3 ∷ outside h.4 ∷ []) m =
      body.rests (outside h.1) (outside h.2 ∷ full h.6 ++ outside h.3 ∷ outside h.4 ∷ []) m whole in
      let both = runs-append (InBody (within b (InDo ∷ os)) Item) body.after m h.5 (outside h.1 ∷ outside h.2 ∷ full h.6 ++ outside h.3 ∷ outside h.4 ∷ []) body.runs behind in
      leads b ts (DoWhile s e)
      (subst (λ (ps : List Measured). Runs (InBody b Item) ps m) (sym h.15)
      (token (InBody b Item) (InBody (within b (InDo ∷ os)) Item) m h.0 (kind.Keyword keyword.Do) 0 (suc (suc (length os))) (h.5 ++ (outside h.1 ∷ outside h.2 ∷ full h.6 ++ outside h.3 ∷ outside h.4 ∷ [])) h.7 refl refl refl both))
  read_statement (For a e l s) ts b h c =
      let os = b.opened in
      let inner = within b (InFor a e l ∷ os) in
      let body = read_statement s h.7 inner h.15 h.16 in
      let m = body.after in
      let starts = read_start a h.4 b h.12 in
      let tests = read_testing e h.5 h.2 b a h.13 h.10 in
      let lasts = read_last l h.6 h.3 b a e h.14 h.11 in
      let end_ : Runs (InBody b (ForStepping a e)) (h.6 ++ outside h.3 ∷ h.7) m =
      subst (λ (z : List Measured). Runs (InBody b (ForStepping a e)) z m) (append_assoc h.6 (outside h.3 ∷ []) h.7)
      (runs-append (InBody b (ForStepping a e)) (InBody inner Item) m (h.6 ++ outside h.3 ∷ []) h.7 lasts body.runs) in
      let tail : List Measured = h.6 ++ outside h.3 ∷ h.7 in
      let middle : Runs (InBody b (ForTesting a)) (h.5 ++ outside h.2 ∷ tail) m =
      subst (λ (z : List Measured). Runs (InBody b (ForTesting a)) z m) (append_assoc h.5 (outside h.2 ∷ []) tail)
      (runs-append (InBody b (ForTesting a)) (InBody b (ForStepping a e)) m (h.5 ++ outside h.2 ∷ []) tail tests end_) in
      let all : Runs (InBody b ForStarting) (h.4 ++ (h.5 ++ outside h.2 ∷ tail)) m =
      runs-append (InBody b ForStarting) (InBody b (ForTesting a)) m h.4 (h.5 ++ outside h.2 ∷ tail) starts middle in
      record {
        after = m;
        runs = subst (λ (ps : List Measured). Runs (InBody b Item) ps m) (sym h.17)
            (token (InBody b Item) (InBody b ForOpening) m h.0 (kind.Keyword keyword.For) 0 (suc (suc (length os))) (outside h.1 ∷ h.4 ++ (h.5 ++ outside h.2 ∷ tail)) h.8 refl refl refl
            (token (InBody b ForOpening) (InBody b ForStarting) m h.1 (kind.Punctuator punctuator.OpenParenthesis) 0 0 (h.4 ++ (h.5 ++ outside h.2 ∷ tail)) h.9 refl refl refl all));
        closed = λ z. body.closed z ∙ ap in_body (settled-within true b (InFor a e l ∷ os) os (For a e l s));
        rests = subst (λ (z : Inside × Stage). RestsAs m (in_body z)) (settled-within false b (InFor a e l ∷ os) os (For a e l s)) body.rests;
      }

  -- the parser reads the statements of a block, and the brace after them
  pub read_statements : (ss : Stmts) (ts : List Measured) (z : Nest) (b : Inside) (done : Stmts) (q : Measured) (m : State) → SpellsStatements (suc (suc (length (body_at z b done).opened))) ts ss → Runs (InBody (body_at z b (appended done ss)) Item) (q ∷ []) m → Runs (InBody (body_at z b done) Item) (ts ++ q ∷ []) m
  read_statements end ts z b done q m h k = subst (λ (ps : List Measured). Runs (InBody (body_at z b done) Item) (ps ++ q ∷ []) m) (sym h) k
  read_statements (next s ss) ts z b done q m h k =
      let from = body_at z b done in
      let middle = InBody (body_at z b (with_last done s)) Item in
      let first = read_statement s h.0 from h.2 (stands-at z b done s) in
      let others : Runs middle (h.1 ++ q ∷ []) m = read_statements ss h.1 z b (with_last done s) q m (subst (λ (n : ℕ). SpellsStatements (suc (suc n)) h.1 ss) (deep-at z b done (with_last done s)) h.3) k in
      let rests : RestsAs first.after middle = subst (λ (g : State). RestsAs first.after g) (settled-at z b done s) first.rests in
      let behind : Runs first.after (h.1 ++ q ∷ []) m = rests-on first.after middle m h.1 q [] rests others in
      let both = runs-append (InBody from Item) first.after m h.0 (h.1 ++ q ∷ []) first.runs behind in
      subst (λ (ps : List Measured). Runs (InBody from Item) ps m) (sym (append_assoc h.0 h.1 (q ∷ [])) ∙ ap (λ (ps : List Measured). ps ++ q ∷ []) (sym h.4)) both
