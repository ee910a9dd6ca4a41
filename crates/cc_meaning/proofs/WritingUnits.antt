-- Functions and external declarations, one after another: what is written and what is left together make up the whole.
use Rattle.std.proofs.Common.{◌≡◌, ℕ, ◌+◌, false, List, [], ◌∷◌, ◌++◌, length, length-append, append_assoc, refl, sym, ap, ◌∙◌, arith}
use Rattle.std.proofs.lemmas.List.{append-nil}
use Rattle.std.specs.Prelude.{codes}
use Rattle.cc_ast.specs.Tree.{Signature, External, Declaration, Definition, Objects}
use Rattle.cc_scope.specs.Bindings.{file_level, file_of}
use Rattle.cc_types.specs.Limits.{objects, locals}
use Rattle.cc_types.specs.Scope.{FileScope, first_file_scope, with_function, file_scope_behind}
use Rattle.cc_types.proofs.FileScopes.{with_objects-same}
use Rattle.cc_layout.specs.Layout.{Layout, layout_of, all_words, names_before}
use Rattle.cc_layout.specs.Environment.{Environment, environment_of}
use Rattle.cc_resolve.proofs.Behind.{some-more}
use Rattle.cc_meaning.specs.declared.form.Entry.{Entry}
use Rattle.cc_meaning.specs.declared.form.Instruction.{Instruction}
use Rattle.cc_meaning.specs.internal.Form.{FunctionCode, function_code, functions_code, all_code, entries_from, unit_functions, resolved}

-- ---- functions

-- after a function, the names of its parameters and locals are gone
pub function-names : (v v1 v2 v3 : Environment) (s : Signature) (f : FileScope) → v.locals ≡ [] → v1 ≡ environment_of v.layout s f → v2 ≡ v1
    → ((layout : Layout) (t : Signature) (g : FileScope) → v2 ≡ environment_of layout t g → v3 ≡ record { visible = file_level (with_function t g).bindings; locals = []; layout = layout })
    → v3 ≡ record v { visible = file_level (with_function s f).bindings }
function-names v v1 v2 v3 s f none e1 e2 left =
    left v.layout s f (e2 ∙ e1) ∙ ap (λ l. record v { visible = file_level (with_function s f).bindings; locals = l }) (sym none)

-- ---- the code of functions

-- what file scope has declared after an external declaration depends only on what it had declared before it
behind-bindings : (e : External) (g h : FileScope) → g.bindings ≡ h.bindings → (file_scope_behind e g).bindings ≡ (file_scope_behind e h).bindings
behind-bindings (Declaration s) g h same = ap (λ bs. (with_function s (record { bindings = bs; defined = [] })).bindings) same
behind-bindings (Definition s body) g h same = ap (λ bs. (with_function s (record { bindings = bs; defined = [] })).bindings) same
behind-bindings (Objects t os) g h same = with_objects-same t os g h same

pub functions_code-same : (p : Layout) (es : List External) (g h : FileScope) → g.bindings ≡ h.bindings → functions_code p g es ≡ functions_code p h es
functions_code-same p [] g h same = refl
functions_code-same p (Declaration s ∷ es) g h same = functions_code-same p es (file_scope_behind (Declaration s) g) (file_scope_behind (Declaration s) h) (behind-bindings (Declaration s) g h same)
functions_code-same p (Definition s body ∷ es) g h same =
    ap (λ bs. record { parameters = length s.parameters; variables = length (locals body); code = function_code p (record { bindings = bs; defined = [] }) s body } ∷ functions_code p (file_scope_behind (Definition s body) g) es) same
    ∙ ap (λ l. record { parameters = length s.parameters; variables = length (locals body); code = function_code p h s body } ∷ l)
    (functions_code-same p es (file_scope_behind (Definition s body) g) (file_scope_behind (Definition s body) h) (behind-bindings (Definition s body) g h same))
functions_code-same p (Objects t os ∷ es) g h same = functions_code-same p es (file_scope_behind (Objects t os) g) (file_scope_behind (Objects t os) h) (behind-bindings (Objects t os) g h same)

functions_code-next : (p : Layout) (f : FileScope) (e : External) (rest : List External) → functions_code p f (e ∷ rest) ≡ functions_code p f (e ∷ []) ++ functions_code p (file_scope_behind e f) rest
functions_code-next p f (Declaration s) rest = refl
functions_code-next p f (Definition s body) rest = refl
functions_code-next p f (Objects t os) rest = refl

all_code-append : (xs ys : List FunctionCode) → all_code (xs ++ ys) ≡ all_code xs ++ all_code ys
all_code-append [] ys = refl
all_code-append (f ∷ xs) ys = ap (λ l. f.code ++ l) (all_code-append xs ys) ∙ sym (append_assoc f.code (all_code xs) (all_code ys))

entries_from-append : (at : ℕ) (xs ys : List FunctionCode) → entries_from at (xs ++ ys) ≡ entries_from at xs ++ entries_from (at + length (all_code xs)) ys
entries_from-append at [] ys = let k : at ≡ at + 0 = omega arith in ap (λ n. entries_from n ys) k
entries_from-append at (f ∷ xs) ys =
    let long : length (all_code (f ∷ xs)) ≡ length f.code + length (all_code xs) = length-append f.code (all_code xs) in
    let k : at + length f.code + length (all_code xs) ≡ at + length (all_code (f ∷ xs)) = omega arith in
    ap (λ l. record { start = at; parameters = f.parameters; variables = f.variables } ∷ l)
    (entries_from-append (at + length f.code) xs ys ∙ ap (λ n. entries_from (at + length f.code) xs ++ entries_from n ys) k)

-- the state of the walk after some external declarations of a unit
pub record Resolving (p : Layout) (all : List FunctionCode) (v : Environment) (code : List Instruction) (entries : List Entry) (rest : List External) : Type 0 where
  pub inner : v.visible.inner ≡ []
  pub locals : v.locals ≡ []
  pub layout : v.layout ≡ p
  pub instructions : code ++ all_code (functions_code p (file_of v.visible) rest) ≡ all_code all
  pub functions : entries ++ entries_from (length code) (functions_code p (file_of v.visible) rest) ≡ entries_from 0 all

pub Resolving-next : (p : Layout) (all : List FunctionCode) (v : Environment) (code : List Instruction) (entries : List Entry) (e : External) (rest : List External)
    (v' : Environment) (code' : List Instruction) (entries' : List Entry)
    → Resolving p all v code entries (e ∷ rest)
    → v' ≡ record v { visible = file_level (file_scope_behind e (file_of v.visible)).bindings }
    → code' ≡ code ++ all_code (functions_code v.layout (file_of v.visible) (e ∷ []))
    → entries' ≡ entries ++ entries_from (length code) (functions_code v.layout (file_of v.visible) (e ∷ []))
    → Resolving p all v' code' entries' rest
Resolving-next p all v code entries e rest v' code' entries' before ev ec ee =
    let f = file_of v.visible in
    let this = functions_code p f (e ∷ []) in
    let others = functions_code p (file_of v'.visible) rest in
    let whole : functions_code p f (e ∷ rest) ≡ this ++ others =
    functions_code-next p f e rest ∙ ap (λ l. this ++ l) (functions_code-same p rest (file_scope_behind e f) (file_of v'.visible) (sym (ap (λ (u : Environment). u.visible.outer) ev))) in
    let is : code' ≡ code ++ all_code this = ec ∙ ap (λ q. code ++ all_code (functions_code q f (e ∷ []))) before.layout in
    let long : length code' ≡ length code + length (all_code this) = ap length is ∙ length-append code (all_code this) in
    record {
      inner = ap (λ (u : Environment). u.visible.inner) ev;
      locals = ap (λ (u : Environment). u.locals) ev ∙ before.locals;
      layout = ap (λ (u : Environment). u.layout) ev ∙ before.layout;
      instructions = some-more code code' (all_code this) (all_code others) _ (sym (ap (λ l. code ++ l) (ap all_code whole ∙ all_code-append this others)) ∙ before.instructions) is;
      functions =
          ap (λ n. entries' ++ entries_from n others) long
          ∙ some-more entries entries' (entries_from (length code) this) (entries_from (length code + length (all_code this)) others) _
          (sym (ap (λ l. entries ++ l) (ap (entries_from (length code)) whole ∙ entries_from-append (length code) this others)) ∙ before.functions)
          (ee ∙ ap (λ q. entries ++ entries_from (length code) (functions_code q f (e ∷ []))) before.layout);
    }

-- before the first external declaration, the state of the walk is as `Resolving` says
pub Resolving-first : (all : List External) (p : Layout) (v : Environment) (code : List Instruction) (entries : List Entry)
    → v ≡ record { visible = file_level first_file_scope.bindings; locals = []; layout = p } → p ≡ layout_of all → code ≡ [] → entries ≡ []
    → Resolving (layout_of all) (unit_functions all) v code entries all
Resolving-first all p v code entries ev ep ec ee =
    let there : functions_code (layout_of all) (file_of v.visible) all ≡ unit_functions all =
    functions_code-same (layout_of all) all (file_of v.visible) first_file_scope (ap (λ (u : Environment). u.visible.outer) ev) in
    record {
      inner = ap (λ (u : Environment). u.visible.inner) ev;
      locals = ap (λ (u : Environment). u.locals) ev;
      layout = ap (λ (u : Environment). u.layout) ev ∙ ep;
      instructions = ap (λ l. l ++ all_code (functions_code (layout_of all) (file_of v.visible) all)) ec ∙ ap all_code there;
      functions =
          ap (λ l. l ++ entries_from (length code) (functions_code (layout_of all) (file_of v.visible) all)) ee
          ∙ ap (λ l. entries_from (length l) (functions_code (layout_of all) (file_of v.visible) all)) ec ∙ ap (entries_from 0) there;
    }

-- after the last external declaration, the code and the entries of all functions are written
pub Resolving-last : (all : List External) (v : Environment) (code : List Instruction) (entries : List Entry) (rest : List External)
    → Resolving (layout_of all) (unit_functions all) v code entries rest → rest ≡ [] → (code ≡ all_code (unit_functions all)) × (entries ≡ entries_from 0 (unit_functions all))
Resolving-last all v code entries rest last none =
    let q = layout_of all in (
      sym (append-nil code) ∙ sym (ap (λ es. code ++ all_code (functions_code q (file_of v.visible) es)) none) ∙ last.instructions,
      sym (append-nil entries) ∙ sym (ap (λ es. entries ++ entries_from (length code) (functions_code q (file_of v.visible) es)) none) ∙ last.functions,
    )

-- what has been written is the form of the unit
pub form-is : (all : List External) (p : Layout) (code : List Instruction) (entries : List Entry) (main : ℕ) (words : List ℕ)
    → code ≡ all_code (unit_functions all) → entries ≡ entries_from 0 (unit_functions all) → p ≡ layout_of all
    → main ≡ names_before p.functions (codes "main") → words ≡ all_words (objects all)
    → record { code = code; functions = entries; main = main; words = words; observed = false } ≡ resolved all
form-is all p code entries main words instructions functions ep em ew =
    let start : main ≡ names_before (layout_of all).functions (codes "main") = em ∙ ap (λ (r : Layout). names_before r.functions (codes "main")) ep in
    λ i. record { code = instructions i; functions = functions i; main = start i; words = ew i; observed = false }
