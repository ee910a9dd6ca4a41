use Rattle.std.proofs.Common.{◌∙◌, ◌++◌, ap}
use Rattle.cc_cminor_language.specs.Cminor as cminor
use Rattle.cc_cminor_language.specs.Code.{expression_of}
use Rattle.cc_cminor_language.proofs.Codes.{if_ok}
use Rattle.cc_guard.specs.Guard.{first_index, stored_word, guards_then}
use Rattle.cc_guard.specs.internal.Written.{sizes_of}
use Rattle.cc_guard.proofs.Writing.{store_wrote, store_index, store_word, written_then, sees_wrote, on_ok_all}
use Rattle.cc_guard.proofs.statements.store.Goals as goal

pub returns-clause-code : goal.returns-clause-code
returns-clause-code c =
    let objects = sizes_of c.args.sizes.now in
    let b = c.args.blocks in
    let n = c.args.first in
    let ks = c.args.known.now in
    let i = expression_of c.args.i.now in
    let e = expression_of c.args.e.now in
    let gi = first_index objects ks n c.args.width c.args.object i in
    let ge = stored_word objects gi e in
    let old = c.in_ok-guards.guards in
    let mid = c.index.new.guards in
    let new = c.expression.new.guards in
    let s = c.in_ok-guards.ensures in
    let w = store_wrote objects b n ks c.args.width c.args.object i e old mid new s.before s.next s.known c.in_ok-i.ensures.adds c.in_ok-value.ensures.adds in
    let x = expression_of c.in_ok-i.i.value in
    let y = expression_of c.in_ok-value.value.value in
    let u = store_index objects b n ks c.args.width c.args.object i e old mid new s.before s.next s.known c.in_ok-i.ensures.adds c.in_ok-value.ensures.adds x c.in_ok-i.ensures.value in
    let v = store_word objects b n ks c.args.width c.args.object i e old mid new s.before s.next s.known c.in_ok-i.ensures.adds c.in_ok-value.ensures.adds y c.in_ok-value.ensures.value in
    if_ok _ _ c.finished.result (λ t h. h ∙ written_then b ge.next (gi.before ++ ge.before) new (cminor.Store c.args.width c.args.object x y) w
    ∙ ap (λ z. guards_then b (gi.before ++ ge.before) (cminor.Store c.args.width c.args.object z y)) u ∙ ap (λ z. guards_then b (gi.before ++ ge.before) (cminor.Store c.args.width c.args.object gi.value z)) v) c.finished.ensures

pub returns-clause-seen : goal.returns-clause-seen
returns-clause-seen c =
    let objects = sizes_of c.args.sizes.now in
    let b = c.args.blocks in
    let n = c.args.first in
    let ks = c.args.known.now in
    let i = expression_of c.args.i.now in
    let e = expression_of c.args.e.now in
    let gi = first_index objects ks n c.args.width c.args.object i in
    let ge = stored_word objects gi e in
    let s = c.in_ok-guards.ensures in
    let w = store_wrote objects b n ks c.args.width c.args.object i e c.in_ok-guards.guards c.index.new.guards c.expression.new.guards s.before s.next s.known c.in_ok-i.ensures.adds c.in_ok-value.ensures.adds in
    on_ok_all c.finished.result (sees_wrote b ge.next (gi.before ++ ge.before) c.expression.new.guards c.args.seen.now c.note.new.seen w c.note.ensures)
