-- The sections of a marked block that begins with a label.
use Rattle.std.proofs.Common.{◌≡◌, Bool, true, false, ◌&&◌, List, [], ◌∷◌, refl, ap}
use Rattle.cc_wide.specs.WideTree.{Label, WideStmts, end, next, Sections, last, section}
use Rattle.cc_wide_text.specs.Forms.{with_label}

abbrev pub body_of : WideStmts → Sections → WideStmts
body_of end (section ls body rest) = body
body_of end last = end
body_of (next s ss) all = next s ss

abbrev pub rest_of : WideStmts → Sections → Sections
rest_of end (section ls body rest) = rest
rest_of end last = last
rest_of (next s ss) all = all

abbrev pub labels_of : WideStmts → Sections → List Label
labels_of end (section ls body rest) = ls
labels_of end last = []
labels_of (next s ss) all = []

pub labelled : (l : Label) (f : WideStmts) (ss : Sections) → with_label l f ss ≡ section (l ∷ labels_of f ss) (body_of f ss) (rest_of f ss)
labelled l end (section ls body rest) = refl
labelled l end last = refl
labelled l (next s rest) ss = refl

-- the same section with one more label in front
pub more_labels : (l : Label) (f : WideStmts) (ss : Sections) → labels_of end (with_label l f ss) ≡ l ∷ labels_of f ss
more_labels l f ss = ap (labels_of end) (labelled l f ss)

pub same_body : (l : Label) (f : WideStmts) (ss : Sections) → body_of end (with_label l f ss) ≡ body_of f ss
same_body l f ss = ap (body_of end) (labelled l f ss)

pub same_rest : (l : Label) (f : WideStmts) (ss : Sections) → rest_of end (with_label l f ss) ≡ rest_of f ss
same_rest l f ss = ap (rest_of end) (labelled l f ss)

pub and_assoc : (x y z : Bool) → ((x && y) && z) ≡ (x && (y && z))
and_assoc true y z = refl
and_assoc false y z = refl
