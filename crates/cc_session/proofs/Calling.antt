-- How a script changed its one client, and the contents of the writer.
use Rattle.std.proofs.Common.{◌≡◌, List, [], ◌∷◌, Option, None, Result, Ok, Err, ℕ, inr, refl, sym, subst}
use Rattle.cc_script.specs.declared.command.Dialect.TheVariants.{Plain}
use Rattle.cc_script.specs.declared.fault.ScriptFault.{ScriptFault}
use Rattle.cc_history.specs.History.{MemberView}
use Rattle.cc_c_semantics.specs.declared.mode.Mode.{Mode}
use Rattle.cc_session.specs.Session.{HaveCalled}
use Rattle.cc_session.specs.Playing.{IsPlayedBy, talk}
use Rattle.cc_session.specs.internal.Steps.{EndsFor}
use Rattle.cc_session.specs.declared.end.SessionEnd.{SessionEnd}

pub called_by : (mode : Mode) → {T : Type 0} (answer : Result T ScriptFault) (played : SessionEnd) (script before last after : Option (List ℕ)) (end : SessionEnd) (clients : List MemberView) (first now : MemberView)
    → first.receipts ≡ [] → clients ≡ now ∷ [] → IsPlayedBy mode Plain None script (talk first before) (talk now last) answer → EndsFor answer played → (end ≡ played → after ≡ last)
    → HaveCalled mode script before after end clients played
called_by mode (Ok done) played script before last after end clients first now none alone plays is written =
    subst (λ (e : SessionEnd). HaveCalled mode script before after end clients e) (sym is)
    (record {
      first = talk first before;
      last = talk now last;
      none = none;
      begun = refl;
      plays = plays;
      alone = alone;
      written = subst (λ (e : SessionEnd). end ≡ e → after ≡ last) is written;
    })
called_by mode (Err fault) played script before last after end clients first now none alone plays is written =
    subst (λ (e : SessionEnd). HaveCalled mode script before after end clients e) (sym is)
    (inr (
      fault,
      plays.0,
      refl,
      record {
        first = talk first before;
        last = talk now last;
        none = none;
        begun = refl;
        plays = plays.1;
        alone = alone;
        written = subst (λ (e : SessionEnd). end ≡ e → after ≡ last) is written;
      },
    ))
