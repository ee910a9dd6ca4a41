-- Locals as numbered variables, and globals as one list of words.
use Rattle.std.proofs.Common.{◌≡◌, ℕ, zero, suc, ◌+◌, ◌<◌, ◌≤◌, Bool, true, false, if◌then◌else◌, List, [], ◌∷◌, ◌++◌, length, map, reverse, Some, None, slice_get, slice_set, refl, sym, ap, ◌∙◌, subst, arith, append_assoc, length-append}
use Rattle.std.proofs.lemmas.List.{reverse-append, length-map, length-reverse}
use Rattle.cc_words.specs.Widths.{kept}
use Rattle.cc_types.specs.Names.{same_name}
use Rattle.cc_layout.specs.declared.layout.Extent.{Extent}
use Rattle.cc_layout.specs.Layout.{LaidObject, extent_of}
use Rattle.cc_layout.specs.Environment.{number_in}
use Rattle.cc_c_semantics.specs.Meaning.{Local, Global, local_word, global_words, with_local_word, with_element}

-- ---- lists

pub get_left : {A : Type 0} (xs ys : List A) (i : ℕ) → i < length xs → slice_get (xs ++ ys) i ≡ slice_get xs i
get_left [] ys i h = absurd (omega arith)
get_left (x ∷ xs) ys zero h = refl
get_left (x ∷ xs) ys (suc i) h = get_left xs ys i (omega arith)

pub get_right : {A : Type 0} (xs ys : List A) (i j : ℕ) → j ≡ length xs + i → slice_get (xs ++ ys) j ≡ slice_get ys i
get_right [] ys i j e = ap (slice_get ys) (omega arith)
get_right (x ∷ xs) ys i zero e = absurd (omega arith)
get_right (x ∷ xs) ys i (suc j) e = get_right xs ys i j (omega arith)

pub set_left : {A : Type 0} (xs ys : List A) (i : ℕ) (w : A) → i < length xs → slice_set (xs ++ ys) i w ≡ slice_set xs i w ++ ys
set_left [] ys i w h = absurd (omega arith)
set_left (x ∷ xs) ys zero w h = refl
set_left (x ∷ xs) ys (suc i) w h = ap (λ (l : List _). x ∷ l) (set_left xs ys i w (omega arith))

pub set_right : {A : Type 0} (xs ys : List A) (i j : ℕ) (w : A) → j ≡ length xs + i → slice_set (xs ++ ys) j w ≡ xs ++ slice_set ys i w
set_right [] ys i j w e = ap (λ k. slice_set ys k w) (omega arith)
set_right (x ∷ xs) ys i zero w e = absurd (omega arith)
set_right (x ∷ xs) ys i (suc j) w e = ap (λ (l : List _). x ∷ l) (set_right xs ys i j w (omega arith))

pub length_slice_set : {A : Type 0} (xs : List A) (i : ℕ) (w : A) → length (slice_set xs i w) ≡ length xs
length_slice_set [] i w = refl
length_slice_set (x ∷ xs) zero w = refl
length_slice_set (x ∷ xs) (suc i) w = ap suc (length_slice_set xs i w)

-- an element is found only at an index below the length, and the first element of a list is the last one in reverse
pub get_below : {A : Type 0} (xs : List A) (i : ℕ) (x : A) → slice_get xs i ≡ Some x → i < length xs
get_below [] i x e = absurd (let f : None ≡ Some x = e in cc)
get_below (y ∷ ys) zero x e = omega arith
get_below (y ∷ ys) (suc i) x e = let h = get_below ys i x e in omega arith

pub get_past : {A : Type 0} (xs : List A) (i : ℕ) → length xs ≤ i → slice_get xs i ≡ None
get_past [] i h = refl
get_past (x ∷ xs) zero h = absurd (omega arith)
get_past (x ∷ xs) (suc i) h = get_past xs i (omega arith)

pub reverse_cons : {A : Type 0} (x : A) (xs : List A) → reverse (x ∷ xs) ≡ reverse xs ++ (x ∷ [])
reverse_cons x xs = reverse-append (x ∷ []) xs

-- a list of words is kept newest first; in reverse the newest comes last
pub newest_last : {A : Type 0} (x : A) (xs junk : List A) → reverse (x ∷ xs) ++ junk ≡ reverse xs ++ (x ∷ junk)
newest_last x xs junk = ap (λ (l : List _). l ++ junk) (reverse_cons x xs) ∙ append_assoc (reverse xs) (x ∷ []) junk

-- ---- locals

abbrev pub names_of : List Local → List (List ℕ)
names_of ls = map (λ (l : Local). l.name) ls

abbrev pub words_in : List Local → List ℕ
words_in ls = map (λ (l : Local). l.word) ls

pub length_words : (ls : List Local) → length (reverse (words_in ls)) ≡ length ls
length_words ls = length-reverse (words_in ls) ∙ length-map ls (λ (l : Local). l.word)

-- reading a local is reading the variable with its number
pub record ReadsLocal (ls : List Local) (junk : List ℕ) (x : List ℕ) (i : ℕ) : Type 0 where
  pub word : ℕ
  pub by_name : local_word ls x ≡ Some word
  pub by_number : slice_get (reverse (words_in ls) ++ junk) i ≡ Some word

reads_local_by : (l : Local) (behind : List Local) (junk : List ℕ) (x : List ℕ) (i : ℕ) (b : Bool) → same_name l.name x ≡ b
    → (if b then Some (length (names_of behind)) else number_in (names_of behind) x) ≡ Some i
    → ((junk : List ℕ) → number_in (names_of behind) x ≡ Some i → ReadsLocal behind junk x i) → ReadsLocal (l ∷ behind) junk x i
reads_local_by l behind junk x i true eq e ih =
    let at : i ≡ length (reverse (words_in behind)) + 0 =
    (let k : length (names_of behind) ≡ i = cc in sym k ∙ length-map behind (λ (l : Local). l.name) ∙ sym (length_words behind)) ∙ (let z : length (reverse (words_in behind)) ≡ length (reverse (words_in behind)) + 0 = omega arith in z) in
    record {
      word = l.word;
      by_name = ap (λ c. if c then Some l.word else local_word behind x) eq;
      by_number = ap (λ vs. slice_get vs i) (newest_last l.word (words_in behind) junk) ∙ get_right (reverse (words_in behind)) (l.word ∷ junk) 0 i at;
    }
reads_local_by l behind junk x i false eq e ih =
    let r = ih (l.word ∷ junk) e in
    record {
      word = r.word;
      by_name = ap (λ c. if c then Some l.word else local_word behind x) eq ∙ r.by_name;
      by_number = ap (λ vs. slice_get vs i) (newest_last l.word (words_in behind) junk) ∙ r.by_number;
    }

pub reads_local : (ls : List Local) (junk : List ℕ) (x : List ℕ) (i : ℕ) → number_in (names_of ls) x ≡ Some i → ReadsLocal ls junk x i
reads_local [] junk x i e = absurd (let f : None ≡ Some i = e in cc)
reads_local (l ∷ behind) junk x i e = reads_local_by l behind junk x i (same_name l.name x) refl e (λ junk' e'. reads_local behind junk' x i e')

no_local_by : (l : Local) (behind : List Local) (x : List ℕ) (b : Bool) → same_name l.name x ≡ b
    → (if b then Some (length (names_of behind)) else number_in (names_of behind) x) ≡ None
    → (number_in (names_of behind) x ≡ None → local_word behind x ≡ None) → (if b then Some l.word else local_word behind x) ≡ None
no_local_by l behind x true eq e ih = absurd (let f : Some (length (names_of behind)) ≡ None = e in cc)
no_local_by l behind x false eq e ih = ih e

-- a name that is not a local has no word among them
pub no_local : (ls : List Local) (x : List ℕ) → number_in (names_of ls) x ≡ None → local_word ls x ≡ None
no_local [] x e = refl
no_local (l ∷ behind) x e = no_local_by l behind x (same_name l.name x) refl e (no_local behind x)

-- writing a local is writing the variable with its number
pub record WritesLocal (ls : List Local) (junk : List ℕ) (x : List ℕ) (i w : ℕ) : Type 0 where
  pub names : names_of (with_local_word x w ls) ≡ names_of ls
  pub words : slice_set (reverse (words_in ls) ++ junk) i w ≡ reverse (words_in (with_local_word x w ls)) ++ junk

writes_local_by : (l : Local) (behind : List Local) (junk : List ℕ) (x : List ℕ) (i w : ℕ) (b : Bool) → same_name l.name x ≡ b
    → (if b then Some (length (names_of behind)) else number_in (names_of behind) x) ≡ Some i
    → ((junk : List ℕ) → number_in (names_of behind) x ≡ Some i → WritesLocal behind junk x i w) → WritesLocal (l ∷ behind) junk x i w
writes_local_by l behind junk x i w true eq e ih =
    let at : i ≡ length (reverse (words_in behind)) + 0 =
    (let k : length (names_of behind) ≡ i = cc in sym k ∙ length-map behind (λ (l : Local). l.name) ∙ sym (length_words behind)) ∙ (let z : length (reverse (words_in behind)) ≡ length (reverse (words_in behind)) + 0 = omega arith in z) in
    let new : with_local_word x w (l ∷ behind) ≡ record l { word = w } ∷ behind = ap (λ c. if c then record l { word = w } ∷ behind else l ∷ with_local_word x w behind) eq in
    record {
      names = ap names_of new;
      words =
          ap (λ vs. slice_set vs i w) (newest_last l.word (words_in behind) junk) ∙ set_right (reverse (words_in behind)) (l.word ∷ junk) 0 i w at
          ∙ sym (newest_last w (words_in behind) junk) ∙ ap (λ ks. reverse (words_in ks) ++ junk) (sym new);
    }
writes_local_by l behind junk x i w false eq e ih =
    let r = ih (l.word ∷ junk) e in
    let new : with_local_word x w (l ∷ behind) ≡ l ∷ with_local_word x w behind = ap (λ c. if c then record l { word = w } ∷ behind else l ∷ with_local_word x w behind) eq in
    record {
      names = ap names_of new ∙ ap (λ (ns : List (List ℕ)). l.name ∷ ns) r.names;
      words =
          ap (λ vs. slice_set vs i w) (newest_last l.word (words_in behind) junk) ∙ r.words
          ∙ sym (newest_last l.word (words_in (with_local_word x w behind)) junk) ∙ ap (λ ks. reverse (words_in ks) ++ junk) (sym new);
    }

pub writes_local : (ls : List Local) (junk : List ℕ) (x : List ℕ) (i w : ℕ) → number_in (names_of ls) x ≡ Some i → WritesLocal ls junk x i w
writes_local [] junk x i w e = absurd (let f : None ≡ Some i = e in cc)
writes_local (l ∷ behind) junk x i w e = writes_local_by l behind junk x i w (same_name l.name x) refl e (λ junk' e'. writes_local behind junk' x i w e')

-- ---- globals

-- the words of all objects, one object after another
abbrev pub all_of : List Global → List ℕ
all_of [] = []
all_of (g ∷ rest) = g.words ++ all_of rest

-- the layout of the objects' words, with the first object at this offset
abbrev pub layout_from : ℕ → List Global → List LaidObject
layout_from at [] = []
layout_from at (g ∷ rest) = record { name = g.name; extent = record { offset = at; length = length g.words; width = g.width } } ∷ layout_from (at + length g.words) rest

pub record Finds (prefix : List ℕ) (gs : List Global) (x : List ℕ) (ext : Extent) : Type 0 where
  pub size : ext.length ≡ length (global_words gs x)
  pub reads : (i : ℕ) → i < ext.length → slice_get (prefix ++ all_of gs) (ext.offset + i) ≡ slice_get (global_words gs x) i
  pub within : (i : ℕ) → i < ext.length → ext.offset + i < length (prefix ++ all_of gs)
  pub writes : (i w : ℕ) → i < ext.length → slice_set (prefix ++ all_of gs) (ext.offset + i) (kept ext.width w) ≡ prefix ++ all_of (with_element x i w gs)

-- an object is still found at its place if one more object is before it
finds_behind : (prefix : List ℕ) (g : Global) (rest : List Global) (x : List ℕ) (ext : Extent) → same_name g.name x ≡ false → Finds (prefix ++ g.words) rest x ext → Finds prefix (g ∷ rest) x ext
finds_behind prefix g rest x ext eq h =
    let words : global_words (g ∷ rest) x ≡ global_words rest x = ap (λ c. if c then g.words else global_words rest x) eq in
    let all : (prefix ++ g.words) ++ all_of rest ≡ prefix ++ all_of (g ∷ rest) = append_assoc prefix g.words (all_of rest) in
    record {
      size = h.size ∙ ap length (sym words);
      reads = λ i lt. ap (λ (l : List ℕ). slice_get l (ext.offset + i)) (sym all) ∙ h.reads i lt ∙ ap (λ (l : List ℕ). slice_get l i) (sym words);
      within = λ i lt. subst (λ (l : List ℕ). ext.offset + i < length l) all (h.within i lt);
      writes = λ i w lt.
          let new : with_element x i w (g ∷ rest) ≡ g ∷ with_element x i w rest = ap (λ c. if c then record g { words = slice_set g.words i (kept g.width w) } ∷ rest else g ∷ with_element x i w rest) eq in
          ap (λ (l : List ℕ). slice_set l (ext.offset + i) (kept ext.width w)) (sym all) ∙ h.writes i w lt ∙ append_assoc prefix g.words (all_of (with_element x i w rest)) ∙ ap (λ ks. prefix ++ all_of ks) (sym new);
    }

finds_here : (prefix : List ℕ) (g : Global) (rest : List Global) (x : List ℕ) (at : ℕ) → same_name g.name x ≡ true → length prefix ≡ at
    → Finds prefix (g ∷ rest) x (record { offset = at; length = length g.words; width = g.width })
finds_here prefix g rest x at eq e =
    let words : global_words (g ∷ rest) x ≡ g.words = ap (λ c. if c then g.words else global_words rest x) eq in
    record {
      size = ap length (sym words);
      reads = λ i lt.
          get_right prefix (all_of (g ∷ rest)) i (at + i) (omega arith) ∙ get_left g.words (all_of rest) i lt ∙ ap (λ (l : List ℕ). slice_get l i) (sym words);
      within = λ i lt. omega (arith, length-append prefix (all_of (g ∷ rest)), length-append g.words (all_of rest));
      writes = λ i w lt.
          let new : with_element x i w (g ∷ rest) ≡ record g { words = slice_set g.words i (kept g.width w) } ∷ rest = ap (λ c. if c then record g { words = slice_set g.words i (kept g.width w) } ∷ rest else g ∷ with_element x i w rest) eq in
          set_right prefix (all_of (g ∷ rest)) i (at + i) (kept g.width w) (omega arith) ∙ ap (λ (l : List ℕ). prefix ++ l) (set_left g.words (all_of rest) i (kept g.width w) lt) ∙ ap (λ ks. prefix ++ all_of ks) (sym new);
    }

finds_by : (prefix : List ℕ) (g : Global) (rest : List Global) (x : List ℕ) (at : ℕ) (b : Bool) → same_name g.name x ≡ b → length prefix ≡ at
    → Finds (prefix ++ g.words) rest x (extent_of (layout_from (at + length g.words) rest) x)
    → Finds prefix (g ∷ rest) x (if b then record { offset = at; length = length g.words; width = g.width } else extent_of (layout_from (at + length g.words) rest) x)
finds_by prefix g rest x at true eq e ih = finds_here prefix g rest x at eq e
finds_by prefix g rest x at false eq e ih = finds_behind prefix g rest x (extent_of (layout_from (at + length g.words) rest) x) eq ih

pub finds : (prefix : List ℕ) (gs : List Global) (x : List ℕ) (at : ℕ) → length prefix ≡ at → Finds prefix gs x (extent_of (layout_from at gs) x)
finds prefix [] x at e = record { size = refl; reads = λ i lt. absurd (omega arith); within = λ i lt. absurd (omega arith); writes = λ i w lt. absurd (omega arith) }
finds prefix (g ∷ rest) x at e =
    finds_by prefix g rest x at (same_name g.name x) refl e (finds (prefix ++ g.words) rest x (at + length g.words) (length-append prefix g.words ∙ ap (λ k. k + length g.words) e))

layout_keep_by : (x : List ℕ) (i w at : ℕ) (g : Global) (rest : List Global) (b : Bool) → layout_from (at + length g.words) (with_element x i w rest) ≡ layout_from (at + length g.words) rest
    → layout_from at (if b then record g { words = slice_set g.words i (kept g.width w) } ∷ rest else g ∷ with_element x i w rest) ≡ layout_from at (g ∷ rest)
layout_keep_by x i w at g rest true ih =
    ap (λ k. record { name = g.name; extent = record { offset = at; length = k; width = g.width } } ∷ layout_from (at + k) rest) (length_slice_set g.words i (kept g.width w))
layout_keep_by x i w at g rest false ih = ap (λ (ps : List LaidObject). record { name = g.name; extent = record { offset = at; length = length g.words; width = g.width } } ∷ ps) ih

-- a write to an element moves no object
pub layout_keep : (x : List ℕ) (i w at : ℕ) (gs : List Global) → layout_from at (with_element x i w gs) ≡ layout_from at gs
layout_keep x i w at [] = refl
layout_keep x i w at (g ∷ rest) = layout_keep_by x i w at g rest (same_name g.name x) (layout_keep x i w (at + length g.words) rest)
