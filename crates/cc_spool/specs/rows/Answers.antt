-- Worked answers, each proved by computation.
use Rattle.std.specs.Prelude.{◌≡◌, refl, Some, None, codes}
use Rattle.cc_spool.specs.internal.Telling.{tells}

nothing : tells (codes "") ≡ None
nothing = refl

no_fault : tells (codes "ok 1\nunit a\n-3\nexited 0\n") ≡ None
no_fault = refl

the_last : tells (codes "fault 33 BadName\nok 1\nfault 5 Unexpected at 1:25\nok 2\n") ≡ Some 5
the_last = refl

-- ---- sources

-- no line of a source counts
in_a_source : tells (codes "source 19\nfault 1 x\nfault 2 y\n") ≡ None
in_a_source = refl

behind_a_source : tells (codes "fault 32 Absent\nsource 10\nfault 1 x\n\nfault 55 Interrupted\n") ≡ Some 55
behind_a_source = refl

empty : tells (codes "source 0\n\nfault 33 BadName\n") ≡ Some 33
empty = refl

-- ---- answers that end within a source

cut_in_it : tells (codes "source 16\nint main(void){") ≡ Some 55
cut_in_it = refl

cut_before_it : tells (codes "source 16\n") ≡ Some 55
cut_before_it = refl

without_newline : tells (codes "ok 1\nsource 16\nint main(void){}") ≡ Some 55
without_newline = refl

another_byte : tells (codes "source 3\nint main(void){}\nok 1\n") ≡ Some 55
another_byte = refl

-- ---- lines that say no length

no_length : tells (codes "source x\nsource \nsources 3\nfault 1 x\n") ≡ Some 1
no_length = refl
