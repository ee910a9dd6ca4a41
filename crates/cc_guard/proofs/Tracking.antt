-- The whole: if code keeps up with a meaning, or reaches an operation without a value, then the guarded code keeps up with the
-- meaning.
use Rattle.std.proofs.Common.{◌≡◌, ℕ, suc, Bool, true, false, List, [], map, inl, inr, refl, sym, subst, arith}
use Rattle.std.specs.Prelude.{if◌then◌else◌}
use Rattle.cc_simulation.specs.World.{World, size_of, Question, Answer, Effect, Gives}
use Rattle.cc_simulation.specs.Meaning.{Meaning, call_effect}
use Rattle.cc_simulation.specs.Tracks.{Tracks}
use Rattle.cc_cminor_language.specs.Cminor.{Statement, Sequence, Block, Exit, Ends, Then, Leaving, Config, config, first_variables, cminor_move, cminor_output, cminor_start}
use Rattle.cc_cminor_language.specs.Breaks.{TracksOrBreaks}
use Rattle.cc_guard.specs.Guard.{forever, known_after, guarded_code, has_guards, with_loop, guarded_function}
use Rattle.cc_guard.specs.internal.Fits.{Fits, KeepsSizes}
use Rattle.cc_guard.specs.internal.Next.{Last}
use Rattle.cc_guard.specs.internal.Laws.{GuardedKeepsUp}
use Rattle.cc_guard.proofs.Flow.{flows, leads_of}
use Rattle.cc_guard.proofs.Matching.{IsKept, kept_after, keeps_on, broken_on}
use Rattle.cc_guard.proofs.Moves.{Related, matches, outputs}
use Rattle.cc_guard.proofs.Unguarded.{same_code, never_breaks}

module _ (meaning : Meaning) (keeps : KeepsSizes meaning) (f rate n : ℕ) (s : Statement) (fits : Fits n 0 s) (tracks : TracksOrBreaks meaning f (suc rate) cminor_move cminor_output (cminor_start s)) where
  kept : (opened j left : ℕ) (q : Question) (a : Answer) → call_effect meaning (suc opened) j q ≡ Gives a left → map size_of q.world.globals ≡ meaning.objects → map size_of a.world.globals ≡ meaning.objects
  kept opened j left q a e sizes = keeps j (suc opened) q.function q.arguments q.world a left e sizes

  -- the start of the guarded code, in its two blocks
  abbrev start_of : List ℕ → World → Config
  start_of ws h = config (guarded_code meaning.objects n 0 s) (Then (Exit 1) (Leaving (Then forever (Leaving Ends)))) (first_variables ws) h

  related_start : (quiet : Bool) (ws : List ℕ) (h : World) → map size_of h.globals ≡ meaning.objects → (quiet ≡ true → has_guards meaning.objects n s ≡ false) → Related meaning.objects n quiet (cminor_start s ws h) (start_of ws h)
  related_start quiet ws h sizes none = record {
    facts = [];
    noted = Last;
    next_is = refl;
    is = refl;
    at = record { agree = λ x lt. refl; under = tt; holds = tt; flows = flows meaning.objects n quiet s [] [] fits none tt; after = known_after meaning.objects n [] s; leads = leads_of meaning.objects n quiet s [] (known_after meaning.objects n [] s) (λ l q. q); continues = tt; sizes = sizes };
  }

  with_guards : Tracks meaning f (suc rate) cminor_move cminor_output (cminor_start (with_loop (guarded_code meaning.objects n 0 s)))
  with_guards opened below ws h is_call steps =
      let effect : ℕ → Question → Effect = call_effect meaning (suc opened) in
      let k = kept opened in
      let l = first_variables ws in
      let code = guarded_code meaning.objects n 0 s in
      let d = config code (Then (Exit 1) (Leaving (Then forever (Leaving Ends)))) l h in
      let rel : Related meaning.objects n false (cminor_start s ws h) d = related_start false ws h is_call.world.sizes (λ z. absurd (let f : false ≡ true = z in cc)) in
      let c = cminor_start s ws h in
      let e = meaning.body steps opened f ws h in
      let x : IsKept effect (Related meaning.objects n false) (outputs meaning.objects n false effect k) (matches meaning.objects n false effect k) (suc rate) steps e d = elim (tracks opened below ws h is_call steps) [
        | inl t ↦ keeps_on effect (Related meaning.objects n false) (outputs meaning.objects n false effect k) (matches meaning.objects n false effect k) rate steps e c d t.0 t.1 rel t.2
        | inr b ↦ broken_on effect (Related meaning.objects n false) (outputs meaning.objects n false effect k) (matches meaning.objects n false effect k) rate steps e c d rel b
      ] in
      let inner = Block (Sequence code (Exit 1)) in
      let y = kept_after effect (Related meaning.objects n false) (outputs meaning.objects n false effect k) (matches meaning.objects n false effect k) 4 (suc rate) steps e (cminor_start (with_loop code) ws h) d
      (config (Sequence inner forever) (Leaving Ends) l h, refl, (config inner (Then forever (Leaving Ends)) l h, refl, (config (Sequence code (Exit 1)) (Leaving (Then forever (Leaving Ends))) l h, refl, (d, refl, (refl, refl))))) x in
      (y.0, y.1, record { moves = y.0; steps = y.1; few = omega arith; few_steps = omega arith; keeps = y.2 })

  as_it_was : has_guards meaning.objects n s ≡ false → Tracks meaning f (suc rate) cminor_move cminor_output (cminor_start s)
  as_it_was none opened below ws h is_call steps = elim (tracks opened below ws h is_call steps) [
    | inl t ↦ t
    | inr b ↦ absurd (never_breaks meaning.objects n (call_effect meaning (suc opened)) (kept opened) (meaning.body steps opened f ws h) (cminor_start s ws h) (start_of ws h)
        (related_start true ws h is_call.world.sizes (λ z. none)) b)
  ]

  function_tracks : Tracks meaning f (suc rate) cminor_move cminor_output (cminor_start (guarded_function meaning.objects n s))
  function_tracks = by (has_guards meaning.objects n s) refl
    where
      by : (r : Bool) → has_guards meaning.objects n s ≡ r → Tracks meaning f (suc rate) cminor_move cminor_output (cminor_start (if r then with_loop (guarded_code meaning.objects n 0 s) else guarded_code meaning.objects n 0 s))
      by true is = with_guards
      by false is = subst (λ (x : Statement). Tracks meaning f (suc rate) cminor_move cminor_output (cminor_start x)) (sym (same_code meaning.objects n 0 s [] is)) (as_it_was is)

pub guarded_tracks : GuardedKeepsUp
guarded_tracks meaning keeps f rate n s fits tracks = function_tracks meaning keeps f rate n s fits tracks
