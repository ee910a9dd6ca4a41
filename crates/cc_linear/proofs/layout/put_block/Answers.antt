use Rattle.std.proofs.Common.{◌≡◌, ℕ, sym, ap, ◌∙◌, true, ◌⊎◌, inl, inr}
use Rattle.std.proofs.lemmas.Result.{on_ok_weaker}
use Rattle.cc_words.specs.declared.operators.Unary.{Unary as UnaryOperator}
use Rattle.cc_words.specs.declared.operators.Binary.{Binary as BinaryOperator}
use Rattle.cc_words.specs.declared.operators.Width.{Width}
use Rattle.cc_ltl.specs.declared.operation.Operation.{Operation}
use Rattle.cc_ltl.specs.declared.operation.Operation.TheVariants.{Nop, Const, Unary, Binary, Load, Store, Call, Read, Write}
use Rattle.cc_ltl.specs.Ltl.{goes_on}
use Rattle.cc_linear.specs.internal.Lays.{next}
use Rattle.cc_linear.specs.internal.Places.{end_in, listed}
use Rattle.cc_linear.proofs.Rows.{branch_put, return_put, straight_put}
use Rattle.cc_linear.proofs.layout.put_block.Goals.{in-Nop, in-Nop-2, in-Nop-3, in-Nop-4, in-Nop-5, in-Nop-6, in-Nop-7, in-Nop-8, in-Nop-9}
use Rattle.cc_linear.proofs.layout.put_block.Goals as goal

pub returns-in_ok-put-in-Branch : goal.returns-in_ok-put-in-Branch
returns-in_ok-put-in-Branch c =
    on_ok_weaker c.put-in-Branch.result
    (λ e. branch_put (end_in c.args.labels.now c.args.ends.now) c.args.block.now (listed c.args.following) c.args.items.now.items _ _ _ _ _ _ _ _ _ _ c.moves-before.ensures.moves c.in-Branch.is c.end_label-nonzero.ensures c.end_label-zero.ensures c.branch-first.ensures c.in_ok-put-in-Branch.ensures e)
    c.put-in-Branch.ensures

pub returns-in-Return : goal.returns-in-Return
returns-in-Return c =
    on_ok_weaker c.put-in-Return.result (λ e. return_put (end_in c.args.labels.now c.args.ends.now) c.args.block.now (listed c.args.following) c.args.items.now.items _ _ c.moves-before.ensures.moves c.in-Return.is e) c.put-in-Return.ensures

-- a block with one successor leads to its next label
abbrev LeadsOnTo : Operation → ℕ → Type 0
LeadsOnTo op n =
    (op ≡ Nop n)
    ⊎ (((to : ℕ) × (word : ℕ) × (op ≡ Const to word n))
    ⊎ (((o : UnaryOperator) × (to : ℕ) × (from : ℕ) × (op ≡ Unary o to from n))
    ⊎ (((o : BinaryOperator) × (to : ℕ) × (left : ℕ) × (right : ℕ) × (op ≡ Binary o to left right n))
    ⊎ (((width : Width) × (object : ℕ) × (to : ℕ) × (index : ℕ) × (op ≡ Load width object to index n))
    ⊎ (((width : Width) × (object : ℕ) × (index : ℕ) × (from : ℕ) × (op ≡ Store width object index from n))
    ⊎ (((function : ℕ) × (op ≡ Call function n))
    ⊎ ((op ≡ Read n)
    ⊎ (op ≡ Write n))))))))

leads_on : (op : Operation) (n : ℕ) → LeadsOnTo op n → (goes_on op ≡ true) × (n ≡ next op)
leads_on op n (inl e) = (ap goes_on e, sym (ap next e))
leads_on op n (inr (inl (to, word, e))) = (ap goes_on e, sym (ap next e))
leads_on op n (inr (inr (inl (o, to, from, e)))) = (ap goes_on e, sym (ap next e))
leads_on op n (inr (inr (inr (inl (o, to, left, right, e))))) = (ap goes_on e, sym (ap next e))
leads_on op n (inr (inr (inr (inr (inl (width, object, to, index, e)))))) = (ap goes_on e, sym (ap next e))
leads_on op n (inr (inr (inr (inr (inr (inl (width, object, index, from, e))))))) = (ap goes_on e, sym (ap next e))
leads_on op n (inr (inr (inr (inr (inr (inr (inl (function, e)))))))) = (ap goes_on e, sym (ap next e))
leads_on op n (inr (inr (inr (inr (inr (inr (inr (inl e)))))))) = (ap goes_on e, sym (ap next e))
leads_on op n (inr (inr (inr (inr (inr (inr (inr (inr e)))))))) = (ap goes_on e, sym (ap next e))

pub returns-in_ok-put-in-Nop : goal.returns-in_ok-put-in-Nop
returns-in_ok-put-in-Nop c =
    let block = c.args.block.now in
    let end = end_in c.args.labels.now c.args.ends.now in
    let on : (goes_on block.operation ≡ true) × (c.end_label-to.result ≡ end (next block.operation)) = elim c.in-Nop-1.branch [
      | in-Nop w ↦ (let f = leads_on block.operation w.in-Nop.next w.in-Nop.is in (f.0, c.end_label-to.ensures ∙ ap end (w.next-is ∙ f.1)))
      | in-Nop-2 w ↦ (let f = leads_on block.operation w.in-Nop.next w.in-Nop.is in (f.0, c.end_label-to.ensures ∙ ap end (w.next-is ∙ f.1)))
      | in-Nop-3 w ↦ (let f = leads_on block.operation w.in-Nop.next w.in-Nop.is in (f.0, c.end_label-to.ensures ∙ ap end (w.next-is ∙ f.1)))
      | in-Nop-4 w ↦ (let f = leads_on block.operation w.in-Nop.next w.in-Nop.is in (f.0, c.end_label-to.ensures ∙ ap end (w.next-is ∙ f.1)))
      | in-Nop-5 w ↦ (let f = leads_on block.operation w.in-Nop.next w.in-Nop.is in (f.0, c.end_label-to.ensures ∙ ap end (w.next-is ∙ f.1)))
      | in-Nop-6 w ↦ (let f = leads_on block.operation w.in-Nop.next w.in-Nop.is in (f.0, c.end_label-to.ensures ∙ ap end (w.next-is ∙ f.1)))
      | in-Nop-7 w ↦ (let f = leads_on block.operation w.in-Nop.next w.in-Nop.is in (f.0, c.end_label-to.ensures ∙ ap end (w.next-is ∙ f.1)))
      | in-Nop-8 w ↦ (let f = leads_on block.operation w.in-Nop.next w.in-Nop.is in (f.0, c.end_label-to.ensures ∙ ap end (w.next-is ∙ f.1)))
      | in-Nop-9 w ↦ (let f = leads_on block.operation w.in-Nop.next w.in-Nop.is in (f.0, c.end_label-to.ensures ∙ ap end (w.next-is ∙ f.1)))
    ] in
    on_ok_weaker c.put-in-Nop-2.result
    (λ e. straight_put end block (listed c.args.following) c.args.items.now.items _ _ _ _ _ _ c.end_label-to.result c.moves-before.ensures.moves c.moves-after.ensures.moves on.0 on.1 c.item_of.ensures c.end_item.ensures c.in_ok-put-in-Nop.ensures e)
    c.put-in-Nop-2.ensures
