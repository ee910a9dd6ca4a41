-- The sizes that the code reads from a unit's declarations are the sizes of the unit's objects.
use Rattle.std.proofs.Common.{◌≡◌, ℕ, ◌+◌, List, [], ◌∷◌, ◌++◌, length, map, refl, sym, ap, ◌∙◌}
use Rattle.cc_ast.specs.Tree.{Object, External}
use Rattle.cc_types.specs.Types.{object_elements, object_width}
use Rattle.cc_types.specs.Limits.{objects}
use Rattle.cc_types.specs.Typed.{IsTyped}
use Rattle.cc_layout.specs.Layout.{laid_from}
use Rattle.cc_c_semantics.specs.Meaning.{Global, initial_globals}
use Rattle.cc_c_semantics.specs.Calls.{NamedSize, sizes, laid_sizes, ObjectsAreSized}
use Rattle.cc_c_semantics.specs.Numbered.{objects_in, objects_of}
use Rattle.cc_simulation.specs.World.{Size, size_of}
use Rattle.cc_guard.specs.declared.sizes.ObjectSize.{ObjectSize}
use Rattle.cc_guard.specs.internal.Written.{sizes_of, declared_sizes}

abbrev pub unnamed : NamedSize → Size
unnamed z = record { width = z.width; elements = z.elements }

pub unnamed_sizes : (gs : List Global) → map size_of (objects_of gs) ≡ map unnamed (sizes gs)
unnamed_sizes [] = refl
unnamed_sizes (g ∷ gs) = ap (λ (zs : List Size). record { width = g.width; elements = length g.words } ∷ zs) (unnamed_sizes gs)

laid_out : (at : ℕ) (os : List Object) → map unnamed (laid_sizes (laid_from at os)) ≡ declared_sizes os
laid_out at [] = refl
laid_out at (o ∷ os) = ap (λ (zs : List Size). record { width = object_width o; elements = object_elements o } ∷ zs) (laid_out (at + object_elements o) os)

pub declared_are : ObjectsAreSized → (unit : List External) → IsTyped unit → declared_sizes (objects unit) ≡ objects_in unit
declared_are sized unit typed = sym (unnamed_sizes (initial_globals unit) ∙ ap (λ (zs : List NamedSize). map unnamed zs) (sized unit typed) ∙ laid_out 0 (objects unit))

pub declared_then : (os ps : List Object) → declared_sizes (os ++ ps) ≡ declared_sizes os ++ declared_sizes ps
declared_then [] ps = refl
declared_then (o ∷ os) ps = ap (λ (zs : List Size). record { width = object_width o; elements = object_elements o } ∷ zs) (declared_then os ps)

pub sizes_push : (ss : List ObjectSize) (s : ObjectSize) → sizes_of (ss ++ s ∷ []) ≡ sizes_of ss ++ record { width = s.width; elements = s.elements } ∷ []
sizes_push [] s = refl
sizes_push (x ∷ ss) s = ap (λ (zs : List Size). record { width = x.width; elements = x.elements } ∷ zs) (sizes_push ss s)
