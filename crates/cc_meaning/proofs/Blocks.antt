-- How a statement ends in the resolved form, and how scopes and lists of locals are represented there.
use Rattle.std.proofs.Common.{◌≡◌, ℕ, zero, suc, ◌+◌, ◌-◌, ◌≤◌, List, [], ◌∷◌, ◌++◌, length, reverse, take, drop, Some, slice_get, refl, sym, ap, ◌∙◌, subst, arith, length-append, append_assoc, take-append-drop}
use Rattle.std.proofs.lemmas.List.{length-map, reverse-append, map-append, drop_at}
use Rattle.cc_meaning.specs.declared.form.Instruction.TheVariants as instruction
use Rattle.cc_meaning.specs.internal.Form.{FormTree}
use Rattle.cc_layout.specs.Environment.{Environment}
use Rattle.cc_layout.specs.Layout.{Layout}
use Rattle.cc_c_semantics.specs.Meaning.{Local, State, Run, Gives, Flow, Falls, Breaks, Continues, Returns, left_scope, in_block}
use Rattle.cc_meaning.specs.internal.FormMeaning.{Activation, Configuration}
use Rattle.cc_c_semantics.proofs.Held.{names_of, words_in, layout_from}
use Rattle.cc_meaning.proofs.Moves.{Leads, leads_then, conf, Meets, meets_after, meets_then}
use Rattle.cc_meaning.proofs.Fits.{Fits}

-- ---- environments

-- an environment with further locals before its own
abbrev pub over : List (List ℕ) → Environment → Environment
over extra v = record v { locals = extra ++ v.locals }

-- ---- configurations

-- what fits an environment also fits one with the same locals and layout
pub fits_env : (v w : Environment) (total most : ℕ) (vs : List ℕ) (s : State) → v.locals ≡ w.locals → v.layout ≡ w.layout → Fits v total most vs s → Fits w total most vs s
fits_env v w total most vs s e f h = record {
  names = h.names ∙ e;
  laid = h.laid ∙ ap (λ (p : Layout). p.objects) f;
  junk = h.junk;
  holds = h.holds;
  room = h.room;
  steps = h.steps;
}

-- the bound on the steps left may be raised
pub fits_most : (v : Environment) (total most more : ℕ) (vs : List ℕ) (s : State) → most ≤ more → Fits v total most vs s → Fits v total more vs s
fits_most v total most more vs s le h = record { names = h.names; laid = h.laid; junk = h.junk; holds = h.holds; room = h.room; steps = (let k = h.steps in omega arith) }

names_drop : (d : ℕ) (ls : List Local) → names_of (drop d ls) ≡ drop d (names_of ls)
names_drop zero ls = refl
names_drop (suc d) [] = refl
names_drop (suc d) (l ∷ ls) = names_drop d ls

-- variables that fit inside a scope also fit after it, when no name refers to the scope's locals
pub fits_left : (v : Environment) (extra : List (List ℕ)) (total most before : ℕ) (vs : List ℕ) (t : State) → before ≡ length v.locals → Fits (over extra v) total most vs t → Fits v total most vs (left_scope before t)
fits_left v extra total most before vs t e h =
    let ls : List Local = t.locals in
    let size : length ls ≡ length extra + length v.locals = sym (length-map ls (λ (l : Local). l.name)) ∙ ap length h.names ∙ length-append extra v.locals in
    let d : ℕ = length ls - before in
    let inside : List Local = take d ls in
    let outside : List Local = drop d ls in
    let parts : words_in ls ≡ words_in inside ++ words_in outside = ap words_in (sym (take-append-drop d ls)) ∙ map-append (λ (l : Local). l.word) inside outside in
    record {
      names = names_drop d ls ∙ ap (drop d) h.names ∙ drop_at extra v.locals d (let z = size in omega arith);
      laid = h.laid;
      junk = reverse (words_in inside) ++ h.junk;
      holds = h.holds ∙ ap (λ ws. reverse ws ++ h.junk) parts ∙ ap (λ (ws : List ℕ). ws ++ h.junk) (reverse-append (words_in inside) (words_in outside))
          ∙ append_assoc (reverse (words_in outside)) (reverse (words_in inside)) h.junk;
      room = h.room;
      steps = h.steps;
    }

-- ---- how a statement ends

module _ (form : FormTree) (cs : List Activation) (total : ℕ) where
  -- from `c`, the form reaches the place `q` with the state `t`, in the environment `v`
  pub record Reaches (c : Configuration) (v : Environment) (most q : ℕ) (t : State) : Type 0 where
    pub variables : List ℕ
    pub fits : Fits v total most variables t
    pub leads : Leads form c (conf q variables [] cs t)

  -- from `c`, the form reaches `q` with the state `t`, which has further locals of inner scopes; no name
  -- refers to those after that
  pub record Leaves (c : Configuration) (v : Environment) (most q : ℕ) (t : State) : Type 0 where
    pub extra : List (List ℕ)
    pub variables : List ℕ
    pub fits : Fits (over extra v) total most variables t
    pub leads : Leads form c (conf q variables [] cs t)

  -- from `c`, the form reaches a return of the word `w`
  pub record Brings (layout : Layout) (c : Configuration) (most w : ℕ) (t : State) : Type 0 where
    pub offset : ℕ
    pub variables : List ℕ
    pub operands : List ℕ
    pub here : slice_get form.code offset ≡ Some instruction.Return
    pub leads : Leads form c (conf offset variables (w ∷ operands) cs t)
    pub laid : layout_from 0 t.globals ≡ layout.objects
    pub steps : t.steps ≤ most

  -- how a statement ends: it falls through, breaks, continues or returns, each as its parameter says
  abbrev pub Done : Layout → Configuration → ℕ → (falls breaks continues : State → Type 0) → Flow → State → Type 0
  Done layout c most falls breaks continues Falls t = falls t
  Done layout c most falls breaks continues Breaks t = breaks t
  Done layout c most falls breaks continues Continues t = continues t
  Done layout c most falls breaks continues (Returns w) t = Brings layout c most w t

  brings_after : (layout : Layout) (c d : Configuration) (most more w : ℕ) (t : State) → Leads form c d → most ≤ more → Brings layout d most w t → Brings layout c more w t
  brings_after layout c d most more w t p le h = record {
    offset = h.offset;
    variables = h.variables;
    operands = h.operands;
    here = h.here;
    leads = leads_then form c d (conf h.offset h.variables (w ∷ h.operands) cs t) p h.leads;
    laid = h.laid;
    steps = (let k = h.steps in omega arith);
  }

  done_by : (layout : Layout) (c d : Configuration) (most more : ℕ) (f b k f' b' k' : State → Type 0) → Leads form c d → most ≤ more
      → ((t : State) → f t → f' t) → ((t : State) → b t → b' t) → ((t : State) → k t → k' t) → (flow : Flow) (t : State) → Done layout d most f b k flow t → Done layout c more f' b' k' flow t
  done_by layout c d most more f b k f' b' k' p le x y z Falls t h = x t h
  done_by layout c d most more f b k f' b' k' p le x y z Breaks t h = y t h
  done_by layout c d most more f b k f' b' k' p le x y z Continues t h = z t h
  done_by layout c d most more f b k f' b' k' p le x y z (Returns w) t h = brings_after layout c d most more w t p le h

  -- if a part ends in these ways from `d`, and `c` leads to `d`, the part ends in the same ways from `c`
  pub done_after : (layout : Layout) (c d : Configuration) (most more : ℕ) (f b k f' b' k' : State → Type 0) (r : Run Flow) → Leads form c d → most ≤ more
      → ((t : State) → f t → f' t) → ((t : State) → b t → b' t) → ((t : State) → k t → k' t) → Meets form d (Done layout d most f b k) r → Meets form c (Done layout c more f' b' k') r
  done_after layout c d most more f b k f' b' k' r p le x y z h =
      meets_after form c d (Done layout d most f b k) (Done layout c more f' b' k') r p (done_by layout c d most more f b k f' b' k' p le x y z) h

  pub reaches_after : (c d : Configuration) (v w : Environment) (most more q q' : ℕ) (t : State) → Leads form c d → v.locals ≡ w.locals → v.layout ≡ w.layout → most ≤ more → q ≡ q' → Reaches d v most q t → Reaches c w more q' t
  reaches_after c d v w most more q q' t p e f le at h = record {
    variables = h.variables;
    fits = fits_most w total most more h.variables t le (fits_env v w total most h.variables t e f h.fits);
    leads = leads_then form c d (conf q' h.variables [] cs t) p (subst (λ k. Leads form d (conf k h.variables [] cs t)) at h.leads);
  }

  -- leaving v for w also drops the locals that v has in addition to those of w
  pub leaves_after : (c d : Configuration) (v w : Environment) (extra : List (List ℕ)) (most more q q' : ℕ) (t : State) → Leads form c d → v.locals ≡ extra ++ w.locals → v.layout ≡ w.layout → most ≤ more → q ≡ q'
      → Leaves d v most q t → Leaves c w more q' t
  leaves_after c d v w extra most more q q' t p e f le at h = record {
    extra = h.extra ++ extra;
    variables = h.variables;
    fits = fits_most (over (h.extra ++ extra) w) total most more h.variables t le
        (fits_env (over h.extra v) (over (h.extra ++ extra) w) total most h.variables t (ap (λ (ns : List (List ℕ)). h.extra ++ ns) e ∙ sym (append_assoc h.extra extra w.locals)) f h.fits);
    leads = leads_then form c d (conf q' h.variables [] cs t) p (subst (λ k. Leads form d (conf k h.variables [] cs t)) at h.leads);
  }

  pub reaches_leaves : (c d : Configuration) (v w : Environment) (extra : List (List ℕ)) (most more q q' : ℕ) (t : State) → Leads form c d → v.locals ≡ extra ++ w.locals → v.layout ≡ w.layout → most ≤ more → q ≡ q'
      → Reaches d v most q t → Leaves c w more q' t
  reaches_leaves c d v w extra most more q q' t p e f le at h = record {
    extra = extra;
    variables = h.variables;
    fits = fits_most (over extra w) total most more h.variables t le (fits_env v (over extra w) total most h.variables t e f h.fits);
    leads = leads_then form c d (conf q' h.variables [] cs t) p (subst (λ k. Leads form d (conf k h.variables [] cs t)) at h.leads);
  }

  -- ---- a scope

  scope_left : (c : Configuration) (v : Environment) (most q : ℕ) (s t : State) → length s.locals ≡ length v.locals → Leaves c v most q t → Reaches c v most q (left_scope (length s.locals) t)
  scope_left c v most q s t e h = record { variables = h.variables; fits = fits_left v h.extra total most (length s.locals) h.variables t e h.fits; leads = h.leads }

  block_done : (layout : Layout) (c : Configuration) (v : Environment) (most q b k : ℕ) (s : State) (flow : Flow) (t : State) → length s.locals ≡ length v.locals
      → Done layout c most (Leaves c v most q) (Leaves c v most b) (Leaves c v most k) flow t
      → Done layout c most (Reaches c v most q) (Reaches c v most b) (Reaches c v most k) flow (left_scope (length s.locals) t)
  block_done layout c v most q b k s Falls t e h = scope_left c v most q s t e h
  block_done layout c v most q b k s Breaks t e h = scope_left c v most b s t e h
  block_done layout c v most q b k s Continues t e h = scope_left c v most k s t e h
  block_done layout c v most q b k s (Returns w) t e h =
      record { offset = h.offset; variables = h.variables; operands = h.operands; here = h.here; leads = h.leads; laid = h.laid; steps = h.steps }

  pub block_meets : (layout : Layout) (c : Configuration) (v : Environment) (most q b k : ℕ) (vs : List ℕ) (s : State) (part : State → Run Flow) → Fits v total most vs s
      → Meets form c (Done layout c most (Leaves c v most q) (Leaves c v most b) (Leaves c v most k)) (part s)
      → Meets form c (Done layout c most (Reaches c v most q) (Reaches c v most b) (Reaches c v most k)) (in_block part s)
  block_meets layout c v most q b k vs s part fits h =
      meets_then form c (Done layout c most (Leaves c v most q) (Leaves c v most b) (Leaves c v most k)) (Done layout c most (Reaches c v most q) (Reaches c v most b) (Reaches c v most k)) (part s)
      (λ flow t. Gives flow (left_scope (length s.locals) t)) h
      (λ flow t x. block_done layout c v most q b k s flow t (sym (length-map s.locals (λ (l : Local). l.name)) ∙ ap length fits.names) x)
