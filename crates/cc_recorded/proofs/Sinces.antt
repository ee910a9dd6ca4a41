-- After each call, it still holds that whatever a crash has left since an earlier call has all calls up to that earlier call.
use Rattle.std.proofs.Common.{◌≡◌, ◌⊎◌, ℕ, ◌≤◌, inl, inr, false, List, [], ◌∷◌, ◌++◌, length, take, Result, Ok, Err, refl, sym, ap, ◌∙◌, subst, arith, append_assoc, length-append}
use Rattle.std.proofs.lemmas.Bool.{cases_lt}
use Rattle.std.proofs.lemmas.List.{take-append-le, take_all}
use Rattle.cc_disk.specs.declared.disk.Disk.{Ghosts}
use Rattle.cc_disk.specs.Images.{LeavesOnly, OnlyReads}
use Rattle.cc_library.specs.Change.{LibraryCommand}
use Rattle.cc_library.specs.Apply.{Units, after}
use Rattle.cc_library.specs.Recovered.{View, RecoversAlone, RecoversOneOf}
use Rattle.cc_history.specs.declared.command.Asked.{Asked}
use Rattle.cc_history.specs.declared.entry.Entry.{Entry}
use Rattle.cc_history.specs.declared.entry.Receipt.{Receipt}
use Rattle.cc_history.specs.Calls.{Command}
use Rattle.cc_history.specs.History.{MemberView, Replays, units_after}
use Rattle.cc_history.proofs.Histories.{snoc_cases}
use Rattle.cc_recorded.specs.declared.fault.BookFault.{BookFault}
use Rattle.cc_recorded.specs.declared.fault.BookFault.TheVariants.{Exists, Absent, Full, DiskFault, Closed, Estranged, OutOfMemory}
use Rattle.cc_recorded.specs.Book.{BookView, RecoversTo, chronicle_of}
use Rattle.cc_recorded.specs.Answers.{CommitAnswers, CompactAnswers, LookAnswers}
use Rattle.cc_recorded.specs.Since.{AreSince, HoldsFrom, HoldsJust, IsInOrder, IsPast, IsSince, IsSinceOpening, StoodWith}
use Rattle.cc_recorded.proofs.Cores.{nothing_behind}

none_is_some : {A : Type 0} (l : List A) (x : A) → l ≡ [] → l ≡ x ∷ [] → ⊥
none_is_some l x none is = let both : [] ≡ x ∷ [] = sym none ∙ is in absurd (cc)

module _ {Disk : Type 0} (D : Ghosts Disk) where
  abbrev Since : BookView Disk → BookView Disk → Type 0
  Since book old = IsSince D book old

  -- ---- what an image holds

  -- an image that recovers to the map after a prefix of the history holds the calls of that prefix
  of_prefix : (book : BookView Disk) (n : ℕ) (image : List ℕ) (prefix rest : List Entry) (base units : Units) → book.base ≡ base → book.history ≡ prefix ++ rest → units ≡ units_after base prefix → n ≤ length prefix → RecoversAlone image units → HoldsFrom book n image
  of_prefix book n image prefix rest base units same is map few recovers =
      let long = ap length is ∙ length-append prefix rest in
      let cut : take (length prefix) book.history ≡ prefix = ap (take (length prefix)) is ∙ take-append-le (length prefix) prefix rest (omega arith) ∙ take_all (length prefix) prefix (omega arith) in
      inl (length prefix, few, omega (arith, long), subst (λ (u : Units). RecoversAlone image u) (map ∙ (λ i. units_after (sym same i) (sym cut i))) recovers)

  -- what an image holds of a shorter history, it holds of a longer one
  still_holds : (before after_it : BookView Disk) (more : List Entry) (n : ℕ) (image : List ℕ) → after_it.base ≡ before.base → after_it.history ≡ before.history ++ more
      → ((c : LibraryCommand) → before.failed ≡ c ∷ [] → (after_it.failed ≡ before.failed) × (after_it.library.units ≡ before.library.units)) → HoldsFrom before n image → HoldsFrom after_it n image
  still_holds before after_it more n image base history failed (inl (j, few, within, recovers)) =
      let long = ap length history ∙ length-append before.history more in
      let cut : take j after_it.history ≡ take j before.history = ap (take j) history ∙ take-append-le j before.history more within in
      inl (j, few, omega (arith, long, within), subst (λ (u : Units). RecoversAlone image u) (λ i. units_after (sym base i) (sym cut i)) recovers)
  still_holds before after_it more n image base history failed (inr (c, is, recovers)) =
      let same = failed c is in
      inr (c, same.0 ∙ is, subst (λ (u : Units). RecoversAlone image (after u c)) (sym same.1) recovers)

  -- an image of the disk as it is now holds all calls
  holds_now : (book : BookView Disk) (image : List ℕ) (failed : List LibraryCommand) → book.library.units ≡ units_after book.base book.history → book.failed ≡ failed → length failed ≤ 1 → RecoversTo book.library.units failed image → HoldsFrom book (length book.history) image
  holds_now book image [] map is one recovers = of_prefix book (length book.history) image book.history [] book.base book.library.units refl (sym (nothing_behind book.history)) map (omega arith) recovers
  holds_now book image (c ∷ []) map is one (inl recovers) = of_prefix book (length book.history) image book.history [] book.base book.library.units refl (sym (nothing_behind book.history)) map (omega arith) recovers
  holds_now book image (c ∷ []) map is one (inr recovers) = inr (c, is, recovers)
  holds_now book image (c ∷ d ∷ others) map is one recovers = absurd (omega (arith, one))

  -- ---- what a call does to the book

  -- The history has one more entry, or is unchanged. The library is unchanged; or the disk is written, and each image that it then leaves
  -- has all earlier calls.
  pub record Goes (before after_it : BookView Disk) : Type 0 where
    pub more : List Entry
    pub one : length more ≤ 1
    pub base : after_it.base ≡ before.base
    pub history : after_it.history ≡ before.history ++ more
    pub way :
        ((after_it.library ≡ before.library) × (after_it.failed ≡ before.failed))
        ⊎ ((before.failed ≡ []) × LeavesOnly D.moment D.left_since before.library.disk after_it.library.disk (λ image. (n : ℕ) → n ≤ length before.history → HoldsFrom after_it n image))

  longer : (before after_it : BookView Disk) (more : List Entry) → length more ≤ 1 → after_it.base ≡ before.base → after_it.history ≡ before.history ++ more → after_it.library ≡ before.library → after_it.failed ≡ before.failed → Goes before after_it
  longer before after_it more one base history library failed = record { more = more; one = one; base = base; history = history; way = inl (library, failed) }

  written : (before after_it : BookView Disk) (more : List Entry) (P : List ℕ → Type 0) → length more ≤ 1 → after_it.base ≡ before.base → after_it.history ≡ before.history ++ more → before.failed ≡ []
      → LeavesOnly D.moment D.left_since before.library.disk after_it.library.disk P
      → ((n : ℕ) (image : List ℕ) → n ≤ length before.history → P image → HoldsFrom after_it n image) → Goes before after_it
  written before after_it more P one base history none leaves holds = record {
    more = more;
    one = one;
    base = base;
    history = history;
    way = inr (
      none,
      record {
        later = leaves.later;
        each = λ image left n few. holds n image few (leaves.each image left);
        before = λ t image early left. elim (leaves.before t image early left) [ inl earlier ↦ inl earlier | inr now ↦ inr (λ n few. holds n image few now) ];
      },
    );
  }

  same : (before after_it : BookView Disk) → after_it ≡ before → Goes before after_it
  same before after_it is =
      longer before after_it [] (omega arith) (ap (λ (b : BookView Disk). b.base) is) (ap (λ (b : BookView Disk). b.history) is ∙ sym (nothing_behind before.history))
      (ap (λ (b : BookView Disk). b.library) is) (ap (λ (b : BookView Disk). b.failed) is)

  -- ---- what is known about images left since an earlier moment is still known after the call

  goes_on : (before after_it : BookView Disk) → Goes before after_it → (from n : ℕ) (left : List ℕ → Type 0) → from ≤ D.moment before.library.disk → n ≤ length before.history
      → ((image : List ℕ) → D.left_since before.library.disk from image → left image ⊎ HoldsFrom before n image)
      → (from ≤ D.moment after_it.library.disk) × ((image : List ℕ) → D.left_since after_it.library.disk from image → left image ⊎ HoldsFrom after_it n image)
  goes_on before after_it goes from n left past few was =
      elim goes.way [
        | inl stays ↦ (
          subst (λ (v : View Disk). from ≤ D.moment v.disk) (sym stays.0) past,
          λ image now.
              elim (was image (subst (λ (v : View Disk). D.left_since v.disk from image) stays.0 now)) [
                | inl early ↦ inl early
                | inr held ↦ inr (still_holds before after_it goes.more n image goes.base goes.history (λ c is. (stays.1, ap (λ (v : View Disk). v.units) stays.0)) held)
              ],
        )
        | inr leaves ↦ (
          omega (arith, past, leaves.1.later),
          λ image now.
              elim (leaves.1.before from image past now) [
                | inl earlier ↦
                    elim (was image earlier) [
                      | inl early ↦ inl early
                      | inr held ↦ inr (still_holds before after_it goes.more n image goes.base goes.history (λ c is. absurd (none_is_some before.failed c leaves.0 is)) held)
                    ]
                | inr comes ↦ inr (comes n few)
              ],
        )
      ]

  pub since_goes : (before after_it old : BookView Disk) → Goes before after_it → Since before old → Since after_it old
  since_goes before after_it old goes was =
      let on =
      goes_on before after_it goes (D.moment old.library.disk) (length old.history) (λ image. ⊥) was.past (omega (arith, ap length was.grows, length-append old.history was.rest)) (λ image left. inr (was.holds image left))
      in
      record {
        rest = was.rest ++ goes.more;
        grows = goes.history ∙ ap (λ (l : List Entry). l ++ goes.more) was.grows ∙ append_assoc old.history was.rest goes.more;
        past = on.0;
        holds = λ image left. elim (on.1 image left) [ inl none ↦ absurd none | inr held ↦ held ];
      }

  pub opening_goes : (before after_it : BookView Disk) → Goes before after_it → (from : ℕ) (left : List ℕ → Type 0) → IsSinceOpening D from left before → IsSinceOpening D from left after_it
  opening_goes before after_it goes from left was =
      let on = goes_on before after_it goes from 0 left was.past (omega arith) was.holds in
      record { past = on.0; holds = on.1 }

  -- after the opening, whatever a crash has left since `from` was left before the opening
  pub opening_now : (book : BookView Disk) (from : ℕ) (left : List ℕ → Type 0) → IsPast D from left book.library.disk → IsSinceOpening D from left book
  opening_now book from left named = record { past = named.past; holds = λ image was. inl (named.all image was) }

  -- ---- each call

  module _ (before after_it : BookView Disk) (replays : Replays (chronicle_of before)) (replays_after : Replays (chronicle_of after_it)) (idle : before.library.closed ≡ false → before.failed ≡ []) where
    pub commit_goes : (old new : MemberView) (command : Command) (result : Result Receipt BookFault) → CommitAnswers D.failures before old command after_it new result
        → (before.library.closed ≡ false → LeavesOnly D.moment D.left_since before.library.disk after_it.library.disk (RecoversOneOf before.library.units (after before.library.units command)))
        → Goes before after_it
    commit_goes old new command (Ok receipt) answers leaves =
        let done = answers.0 in
        let c = command in
        written before after_it (receipt.entry ∷ []) (RecoversOneOf before.library.units (after before.library.units c)) (omega arith) done.recorded.base done.recorded.history (idle done.asked.idle) (leaves done.asked.idle)
        (λ n image few recovers. elim recovers [
          | inl old_map ↦ of_prefix after_it n image before.history (receipt.entry ∷ []) before.base before.library.units done.recorded.base done.recorded.history replays.units few old_map
          | inr new_map ↦ of_prefix after_it n image after_it.history [] after_it.base after_it.library.units refl (sym (nothing_behind after_it.history)) replays_after.units
              (omega (arith, few, ap length done.recorded.history, length-append before.history (receipt.entry ∷ []))) (subst (λ (v : View Disk). RecoversAlone image v.units) (sym done.library) new_map)
        ])
    commit_goes old new command (Err (Exists receipt)) refused leaves = longer before after_it (receipt.entry ∷ []) (omega arith) refused.recorded.base refused.recorded.history refused.library refused.failed
    commit_goes old new command (Err (Absent receipt)) refused leaves = longer before after_it (receipt.entry ∷ []) (omega arith) refused.recorded.base refused.recorded.history refused.library refused.failed
    commit_goes old new command (Err Closed) (_, stays, _) leaves = same before after_it stays
    commit_goes old new command (Err (Estranged number found)) (_, _, stays, _) leaves = same before after_it stays
    commit_goes old new command (Err Full) (_, _, stays, _) leaves = same before after_it stays
    commit_goes old new command (Err OutOfMemory) (_, stays, _) leaves = same before after_it stays
    commit_goes old new command (Err DiskFault) (asked, _, _, stays, _) leaves =
        let c = command in
        let base : after_it.base ≡ before.base = ap (λ (b : BookView Disk). b.base) stays in
        let history : after_it.history ≡ before.history = ap (λ (b : BookView Disk). b.history) stays in
        let units : after_it.library.units ≡ before.library.units = ap (λ (b : BookView Disk). b.library.units) stays in
        let failed : after_it.failed ≡ c ∷ [] = ap (λ (b : BookView Disk). b.failed) stays in
        written before after_it [] (RecoversOneOf before.library.units (after before.library.units c)) (omega arith) base (history ∙ sym (nothing_behind before.history)) (idle asked.idle) (leaves asked.idle)
        (λ n image few recovers. elim recovers [
          | inl old_map ↦ of_prefix after_it n image before.history [] before.base before.library.units base (history ∙ sym (nothing_behind before.history)) replays.units few old_map
          | inr new_map ↦ inr (c, failed, subst (λ (u : Units). RecoversAlone image (after u c)) (sym units) new_map)
        ])

    pub look_goes : (old new : MemberView) (asked : Asked) (result : Result Receipt BookFault) → LookAnswers before old asked after_it new result → Goes before after_it
    look_goes old new asked (Ok receipt) (recorded, library, failed) = longer before after_it (receipt.entry ∷ []) (omega arith) recorded.base recorded.history library failed
    look_goes old new asked (Err (Estranged number found)) (_, stays, _) = same before after_it stays
    look_goes old new asked (Err OutOfMemory) (stays, _) = same before after_it stays
    look_goes old new asked (Err (Exists receipt)) answers = absurd answers
    look_goes old new asked (Err (Absent receipt)) answers = absurd answers
    look_goes old new asked (Err Full) answers = absurd answers
    look_goes old new asked (Err Closed) answers = absurd answers
    look_goes old new asked (Err DiskFault) answers = absurd answers

    rewritten : after_it.base ≡ before.base → after_it.history ≡ before.history → before.failed ≡ []
        → LeavesOnly D.moment D.left_since before.library.disk after_it.library.disk (λ image. RecoversAlone image before.library.units) → Goes before after_it
    rewritten base history none leaves =
        written before after_it [] (λ image. RecoversAlone image before.library.units) (omega arith) base (history ∙ sym (nothing_behind before.history)) none leaves
        (λ n image few recovers. of_prefix after_it n image before.history [] before.base before.library.units base (history ∙ sym (nothing_behind before.history)) replays.units few recovers)

    pub compact_goes : (result : Result (Unit {0}) BookFault) → CompactAnswers D.failures before after_it result
        → (before.library.closed ≡ false → LeavesOnly D.moment D.left_since before.library.disk after_it.library.disk (λ image. RecoversAlone image before.library.units)) → Goes before after_it
    compact_goes (Ok done) (open', _, _, is) leaves = rewritten (ap (λ (b : BookView Disk). b.base) is) (ap (λ (b : BookView Disk). b.history) is) (idle open') (leaves open')
    compact_goes (Err DiskFault) (open', _, _, is) leaves = rewritten (ap (λ (b : BookView Disk). b.base) is) (ap (λ (b : BookView Disk). b.history) is) (idle open') (leaves open')
    compact_goes (Err Closed) (_, stays) leaves = same before after_it stays
    compact_goes (Err Full) (_, _, stays) leaves = same before after_it stays
    compact_goes (Err OutOfMemory) (_, stays) leaves = same before after_it stays
    compact_goes (Err (Exists receipt)) answers leaves = absurd answers
    compact_goes (Err (Absent receipt)) answers leaves = absurd answers
    compact_goes (Err (Estranged number found)) answers leaves = absurd answers

  -- ---- the newest

  -- whatever a crash leaves of the book as it is now has all its calls
  now_since : (book : BookView Disk) → Replays (chronicle_of book) → length book.failed ≤ 1 → ((image : List ℕ) → D.left_since book.library.disk (D.moment book.library.disk) image → D.may_leave book.library.disk image)
      → ((image : List ℕ) → D.may_leave book.library.disk image → RecoversTo book.library.units book.failed image) → Since book book
  now_since book replays one only_now images = record {
    rest = [];
    grows = sym (nothing_behind book.history);
    past = omega arith;
    holds = λ image left. holds_now book image book.failed replays.units refl one (images image (only_now image left));
  }

  pub one_more : (book : BookView Disk) (since : List (BookView Disk)) → Replays (chronicle_of book) → length book.failed ≤ 1 → ((image : List ℕ) → D.left_since book.library.disk (D.moment book.library.disk) image → D.may_leave book.library.disk image)
      → ((image : List ℕ) → D.may_leave book.library.disk image → RecoversTo book.library.units book.failed image)
      → AreSince D book since → AreSince D book (since ++ book ∷ [])
  one_more book since replays one only_now images all k old at =
      elim (snoc_cases since book old k at) [ inl h ↦ all k old h.1 | inr h ↦ subst (λ (b : BookView Disk). Since book b) (sym h.1) (now_since book replays one only_now images) ]

  -- ---- the entries, one by one

  just_stays : (before after_it : BookView Disk) → (goes : Goes before after_it) → (n : ℕ) (image : List ℕ) → n ≤ length before.history → HoldsJust before n image → HoldsJust after_it n image
  just_stays before after_it goes n image few (inl recovers) =
      let cut : take n after_it.history ≡ take n before.history = ap (take n) goes.history ∙ take-append-le n before.history goes.more few in
      inl (subst (λ (u : Units). RecoversAlone image u) (λ i. units_after (sym goes.base i) (sym cut i)) recovers)
  just_stays before after_it goes n image few (inr (c, is, recovers)) =
      elim goes.way [
        | inl stays ↦ inr (c, stays.1 ∙ is, subst (λ (v : View Disk). RecoversAlone image (after v.units c)) (sym stays.0) recovers)
        | inr leaves ↦ absurd (none_is_some before.failed c leaves.0 is)
      ]

  stood_goes : (before after_it : BookView Disk) → Goes before after_it → (n : ℕ) (disk : Disk) → n ≤ length before.history → StoodWith D before n disk → StoodWith D after_it n disk
  stood_goes before after_it goes n disk few was =
      let on = goes_on before after_it goes (D.moment disk) n (λ image. ⊥) was.past few (λ image left. inr (was.holds image left)) in
      record {
        past = on.0;
        just = λ image left. just_stays before after_it goes n image few (was.just image left);
        holds = λ image left. elim (on.1 image left) [ inl none ↦ absurd none | inr held ↦ held ];
      }

  just_now : (book : BookView Disk) (image : List ℕ) (failed : List LibraryCommand) → book.library.units ≡ units_after book.base book.history → book.failed ≡ failed → length failed ≤ 1
      → RecoversTo book.library.units failed image → HoldsJust book (length book.history) image
  just_now book image failed map is one recovers =
      let whole : units_after book.base (take (length book.history) book.history) ≡ units_after book.base book.history = ap (units_after book.base) (take_all (length book.history) book.history (omega arith)) in
      by failed is one recovers (map ∙ sym whole)
    where
      by : (failed : List LibraryCommand) → book.failed ≡ failed → length failed ≤ 1 → RecoversTo book.library.units failed image
          → book.library.units ≡ units_after book.base (take (length book.history) book.history) → HoldsJust book (length book.history) image
      by [] is one recovers all = inl (subst (λ (u : Units). RecoversAlone image u) all recovers)
      by (c ∷ []) is one (inl recovers) all = inl (subst (λ (u : Units). RecoversAlone image u) all recovers)
      by (c ∷ []) is one (inr recovers) all = inr (c, is, recovers)
      by (c ∷ d ∷ others) is one recovers all = absurd (omega (arith, one))

  -- what is known about the book as it is now
  module _ (book : BookView Disk) (replays : Replays (chronicle_of book)) (one : length book.failed ≤ 1)
      (only_now : (image : List ℕ) → D.left_since book.library.disk (D.moment book.library.disk) image → D.may_leave book.library.disk image)
      (images : (image : List ℕ) → D.may_leave book.library.disk image → RecoversTo book.library.units book.failed image) where
    stood_now : StoodWith D book (length book.history) book.library.disk
    stood_now = record {
      past = omega arith;
      just = λ image left. just_now book image book.failed replays.units refl one (images image left);
      holds = λ image left. holds_now book image book.failed replays.units refl one (images image (only_now image left));
    }

    pub ordered_goes : (before : BookView Disk) → Goes before book → IsInOrder D before → IsInOrder D book
    ordered_goes before goes was entries few =
        elim (cases_lt (length before.history) entries) [
          | inl more ↦
              let all : length book.history ≡ entries = (let one_more = goes.one in omega (arith, ap length goes.history, length-append before.history goes.more, one_more, more, few)) in
              (book.library.disk, subst (λ (n : ℕ). StoodWith D book n book.library.disk) all stood_now)
          | inr within ↦ let stood = was entries within in (stood.0, stood_goes before book goes entries stood.0 within stood.1)
        ]

    pub ordered_begins : book.history ≡ [] → IsInOrder D book
    ordered_begins none entries few =
        let all : length book.history ≡ entries = omega (arith, ap length none, few) in
        (book.library.disk, subst (λ (n : ℕ). StoodWith D book n book.library.disk) all stood_now)

-- reading a disk does not change what a crash has left since an earlier moment
pub past_on : {Disk : Type 0} (D : Ghosts Disk) (from : ℕ) (left : List ℕ → Type 0) (old new : Disk)
    → IsPast D from left old → OnlyReads D.seen D.may_leave D.moment D.left_since old new → IsPast D from left new
past_on D from left old new named reads = record {
  past = omega (arith, named.past, reads.later);
  all = λ image since. named.all image (reads.moments from image named.past since);
}
