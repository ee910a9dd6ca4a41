-- Each function's place is valid, and the parts that are added make up the words of the whole code.
use Rattle.std.proofs.Common.{◌≡◌, ◌<◌, ◌++◌, ℕ, List, length, false, true, ap, sym, subst, ◌∙◌, arith, slice_index}
use Rattle.std.proofs.lemmas.List.{length-map}
use Rattle.cc_link.specs.Link.{fill, fill_all, head, encoded, linked_code, code_words}
use Rattle.cc_link.specs.internal.Filling.{lent, AllStayIn, ArePlaces, CanAllStand}
use Rattle.cc_link.proofs.Filling.{are_places, all_stand, places_long, linked_is}
use Rattle.cc_link.proofs.Deciding.{code_long}
use Rattle.cc_link.proofs.words.code.Goals as goal

pub add_head-requires-clause-places : goal.add_head-requires-clause-places
add_head-requires-clause-places c =
    let fs = lent c.args.bodies.now in
    subst (λ (ps : List ℕ). ArePlaces ps) (sym (c.as_slice.ensures.value ∙ c.in_ok-places.ensures)) (are_places fs (let few = c.requires.few in omega (arith, few)))

pub add_head-requires-clause-main : goal.add_head-requires-clause-main
add_head-requires-clause-main c =
    let fs = lent c.args.bodies.now in
    let long : length c.as_slice.result.now ≡ length c.args.bodies.now = ap (λ (ps : List ℕ). length ps) (c.as_slice.ensures.value ∙ c.in_ok-places.ensures) ∙ places_long 0x1000c fs ∙ length-map c.args.bodies.now _ in
    let below = c.requires.main in
    omega (arith, long, below)

pub add_functions-requires-clause-places : goal.add_functions-requires-clause-places
add_functions-requires-clause-places c =
    let fs = lent c.args.bodies.now in
    subst (λ (ps : List ℕ). ArePlaces ps) (sym (c.as_slice-2.ensures.value ∙ c.in_ok-places.ensures)) (are_places fs (let few = c.requires.few in omega (arith, few)))

pub add_functions-requires-clause-stand : goal.add_functions-requires-clause-stand
add_functions-requires-clause-stand c =
    let fs = lent c.args.bodies.now in
    let long : length c.as_slice-2.result.now ≡ length c.args.bodies.now = ap (λ (ps : List ℕ). length ps) (c.as_slice-2.ensures.value ∙ c.in_ok-places.ensures) ∙ places_long 0x1000c fs ∙ length-map c.args.bodies.now _ in
    subst (λ (n : ℕ). CanAllStand n 0x1000c fs) (sym long) (all_stand (length c.args.bodies.now) fs (let few = c.requires.few in omega (arith, few)) c.requires.stay)

pub unreachable-requires : goal.unreachable-requires
unreachable-requires c =
    let fs = lent c.args.bodies.now in
    let ps = c.in_ok-places.places.items in
    let count : length fs ≡ length c.args.bodies.now = length-map c.args.bodies.now _ in
    let below : c.args.main < length fs = let h = c.requires.main in omega (arith, count, h) in
    let stay : AllStayIn (length fs) fs = subst (λ (n : ℕ). AllStayIn n fs) (sym count) c.requires.stay in
    let first : c.add_head.new.words.items ≡ encoded (fill (λ f. slice_index ps f) 0x10000 0x10000 (head c.args.main)) =
    subst (λ (qs : List ℕ). c.add_head.new.words.items ≡ encoded (fill (λ f. slice_index qs f) 0x10000 0x10000 (head c.args.main))) c.as_slice.ensures.value
    (c.in_ok-add_head.ensures ∙ ap (λ (ws : List ℕ). ws ++ encoded (fill (λ f. slice_index c.as_slice.result.now f) 0x10000 0x10000 (head c.args.main))) c.in_ok-words.ensures.items) in
    let all : c.add_functions.new.words.items ≡ c.add_head.new.words.items ++ encoded (fill_all (λ f. slice_index ps f) 0x1000c fs) =
    subst (λ (qs : List ℕ). c.add_functions.new.words.items ≡ c.add_head.new.words.items ++ encoded (fill_all (λ f. slice_index qs f) 0x1000c fs)) c.as_slice-2.ensures.value c.in_ok-add_functions.ensures in
    let whole : c.add_functions.new.words.items ≡ encoded (linked_code c.args.main fs) = linked_is c.args.main fs ps c.add_head.new.words.items c.add_functions.new.words.items below stay c.in_ok-places.ensures first all in
    let long : length c.add_functions.new.words.items ≡ code_words fs = ap (λ (ws : List ℕ). length ws) whole ∙ code_long c.args.main fs in
    let few = c.requires.few in
    absurd (let d : false ≡ true = c.in-Err.ensures.fits.1 (omega (arith, long), omega (arith, long, few)) in cc)

pub returns : goal.returns
returns c =
    let fs = lent c.args.bodies.now in
    let ps = c.in_ok-places.places.items in
    let count : length fs ≡ length c.args.bodies.now = length-map c.args.bodies.now _ in
    let below : c.args.main < length fs = let h = c.requires.main in omega (arith, count, h) in
    let stay : AllStayIn (length fs) fs = subst (λ (n : ℕ). AllStayIn n fs) (sym count) c.requires.stay in
    let first : c.add_head.new.words.items ≡ encoded (fill (λ f. slice_index ps f) 0x10000 0x10000 (head c.args.main)) =
    subst (λ (qs : List ℕ). c.add_head.new.words.items ≡ encoded (fill (λ f. slice_index qs f) 0x10000 0x10000 (head c.args.main))) c.as_slice.ensures.value
    (c.in_ok-add_head.ensures ∙ ap (λ (ws : List ℕ). ws ++ encoded (fill (λ f. slice_index c.as_slice.result.now f) 0x10000 0x10000 (head c.args.main))) c.in_ok-words.ensures.items) in
    let all : c.add_functions.new.words.items ≡ c.add_head.new.words.items ++ encoded (fill_all (λ f. slice_index ps f) 0x1000c fs) =
    subst (λ (qs : List ℕ). c.add_functions.new.words.items ≡ c.add_head.new.words.items ++ encoded (fill_all (λ f. slice_index qs f) 0x1000c fs)) c.as_slice-2.ensures.value c.in_ok-add_functions.ensures in
    c.in-Ok.ensures.hands_back ∙ linked_is c.args.main fs ps c.add_head.new.words.items c.add_functions.new.words.items below stay c.in_ok-places.ensures first all
