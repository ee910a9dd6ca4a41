-- Parameters do not change the scope around them, and what objects add to file scope does not depend on which functions are
-- defined.
use Rattle.std.proofs.Common.{◌≡◌, List, [], ◌∷◌, Option, Some, None, refl, ap, ◌∙◌}
use Rattle.cc_ast.specs.scalar.Scalar.{Scalar}
use Rattle.cc_ast.specs.Tree as tree
use Rattle.cc_ast.specs.Tree.{Parameter, Object, Single, Array, Bytes}
use Rattle.cc_types.specs.Scope.{Visible, FileScope, with_object, with_objects, parameter_declared, parameters_declared}

-- parameters do not change the scope around them
parameter_declared-outer : (t : Scalar) (x : Option tree.Name) (v : Visible) → (parameter_declared t x v).outer ≡ v.outer
parameter_declared-outer t None v = refl
parameter_declared-outer t (Some x) v = refl

pub parameters_declared-outer : (ps : List Parameter) (v : Visible) → (parameters_declared ps v).outer ≡ v.outer
parameters_declared-outer [] v = refl
parameters_declared-outer (p ∷ ps) v = parameters_declared-outer ps (parameter_declared p.scalar p.name v) ∙ parameter_declared-outer p.scalar p.name v

pub with_object-same : (t : Scalar) (o : Object) (g h : FileScope) → g.bindings ≡ h.bindings → (with_object t o g).bindings ≡ (with_object t o h).bindings
with_object-same t (Single x initial) g h e = ap (λ bs. (with_object t (Single x initial) (record { bindings = bs; defined = [] })).bindings) e
with_object-same t (Array x n values) g h e = ap (λ bs. (with_object t (Array x n values) (record { bindings = bs; defined = [] })).bindings) e
with_object-same t (Bytes x n values) g h e = ap (λ bs. (with_object t (Bytes x n values) (record { bindings = bs; defined = [] })).bindings) e

pub with_objects-same : (t : Scalar) (os : List Object) (g h : FileScope) → g.bindings ≡ h.bindings → (with_objects t os g).bindings ≡ (with_objects t os h).bindings
with_objects-same t [] g h e = e
with_objects-same t (o ∷ os) g h e = with_objects-same t os (with_object t o g) (with_object t o h) (with_object-same t o g h e)
