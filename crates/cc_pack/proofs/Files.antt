-- The parts of a file: its line has a length that its modes determine, and so the modes say how it is cut.
use Rattle.std.proofs.Common.{◌≡◌, ◌≢◌, ℕ, ◌+◌, ◌*◌, ◌<◌, List, [], ◌∷◌, ◌++◌, length, take, drop, get_or, refl, sym, ap, ◌∙◌, subst, arith, append_assoc}
use Rattle.std.proofs.lemmas.Grind.{common_steps}
use Rattle.hex.proofs.HexLemmas.{length-encode_with}
use Rattle.hex.specs.Hex.{encode_lower, lower_digits}
use Rattle.sha2.proofs.Facts256.{length-sha256}
use Rattle.sha2.specs.Sha256.{sha256}
use Rattle.cc_pack.specs.File.{IsUnread, file_text, line_text, mode_word}
use Rattle.cc_pack.specs.internal.Head.{IsNoFileIn, head_text}
use Rattle.cc_pack.specs.declared.fault.PackFault.TheVariants.{Damaged}
use Rattle.cc_pack.specs.declared.file.ConfirmedIn.{ConfirmedIn}
use Rattle.cc_pack.specs.declared.file.ConfirmedIn.TheVariants.{Plain, Checked, Both, Neither}

-- how many bytes a line with these modes has
abbrev pub line_length : ConfirmedIn → ℕ
line_length confirmed = 13 + length (mode_word confirmed) + 65

pub length_line : (confirmed : ConfirmedIn) (body : List ℕ) → length (line_text confirmed body) ≡ line_length confirmed
length_line confirmed body =
    let hex : length (encode_lower (sha256 body)) ≡ 2 * length (sha256 body) = length-encode_with lower_digits (sha256 body) in
    let digest : length (sha256 body) ≡ 32 = length-sha256 body in
    grind (arith, common_steps, hex, digest)

-- how many bytes come before the body
abbrev pub head_length : ConfirmedIn → ℕ
head_length confirmed = 13 + length (mode_word confirmed) + 66

pub length_head : (confirmed : ConfirmedIn) (body : List ℕ) → length (head_text confirmed body) ≡ head_length confirmed
length_head confirmed body = let n = length_line confirmed body in grind (arith, common_steps, n)

-- a list cut after its first part
cut_tail : (head rest : List ℕ) (n : ℕ) → length head ≡ n → drop n (head ++ rest) ≡ rest
cut_tail head rest n same = grind (arith, common_steps, same)

cut_head : (head rest : List ℕ) (n : ℕ) → length head ≡ n → take n (head ++ rest) ≡ head
cut_head head rest n same = grind (arith, common_steps, same)

-- the file is its head and the body
in_parts : (confirmed : ConfirmedIn) (body : List ℕ) → head_text confirmed body ++ body ≡ file_text confirmed body
in_parts confirmed body = append_assoc (line_text confirmed body) (10 ∷ []) body

body_after : (confirmed : ConfirmedIn) (body : List ℕ) → drop (head_length confirmed) (file_text confirmed body) ≡ body
body_after confirmed body =
    subst (λ (file : List ℕ). drop (head_length confirmed) file ≡ body) (in_parts confirmed body)
    (cut_tail (head_text confirmed body) body (head_length confirmed) (length_head confirmed body))

head_before : (confirmed : ConfirmedIn) (body : List ℕ) → take (head_length confirmed) (file_text confirmed body) ≡ head_text confirmed body
head_before confirmed body =
    subst (λ (file : List ℕ). take (head_length confirmed) file ≡ head_text confirmed body) (in_parts confirmed body)
    (cut_head (head_text confirmed body) body (head_length confirmed) (length_head confirmed body))

-- bytes that begin with the head of the rest are a file
pub is_file : (confirmed : ConfirmedIn) (file head body : List ℕ) → file ≡ head ++ body → head ≡ head_text confirmed body → file ≡ file_text confirmed body
is_file confirmed file head body parts same = parts ∙ ap (λ (it : List ℕ). it ++ body) same ∙ in_parts confirmed body

-- bytes that begin with something else are no file
pub is_no_file : (confirmed : ConfirmedIn) (file head rest : List ℕ) → length head ≡ head_length confirmed → file ≡ head ++ rest → head ≢ head_text confirmed rest → IsNoFileIn confirmed file
is_no_file confirmed file head rest long parts other body same =
    let whole : head ++ rest ≡ file_text confirmed body = sym parts ∙ same in
    let after : rest ≡ body = sym (cut_tail head rest (head_length confirmed) long) ∙ ap (drop (head_length confirmed)) whole ∙ body_after confirmed body in
    let before : head ≡ head_text confirmed body = sym (cut_head head rest (head_length confirmed) long) ∙ ap (take (head_length confirmed)) whole ∙ head_before confirmed body in
    other (before ∙ ap (head_text confirmed) (sym after))

-- fewer bytes than a head has are no file
pub is_too_short : (confirmed : ConfirmedIn) (file : List ℕ) → length file < head_length confirmed → IsNoFileIn confirmed file
is_too_short confirmed file short body same =
    let n = length_head confirmed body in
    let whole : length (head_text confirmed body ++ body) ≡ length file = ap length (in_parts confirmed body ∙ sym same) in
    absurd (grind (arith, common_steps, short, n, whole))

-- bytes that are a file in no modes are no file
pub is_unread : (file : List ℕ) → IsNoFileIn Plain file → IsNoFileIn Checked file → IsNoFileIn Both file → IsNoFileIn Neither file → IsUnread file Damaged
is_unread file plain checked both neither Plain body same = plain body same
is_unread file plain checked both neither Checked body same = checked body same
is_unread file plain checked both neither Both body same = both body same
is_unread file plain checked both neither Neither body same = neither body same

-- the first letter of the word for the modes
abbrev letter : ConfirmedIn → ℕ
letter Plain = 112
letter Checked = 99
letter Both = 98
letter Neither = 110

letter_at : (confirmed : ConfirmedIn) (body : List ℕ) → get_or (file_text confirmed body) 13 0 ≡ letter confirmed
letter_at Plain body = refl
letter_at Checked body = refl
letter_at Both body = refl
letter_at Neither body = refl

one_letter : (one other : ConfirmedIn) → letter one ≡ letter other → one ≡ other
one_letter Plain Plain e = refl
one_letter Plain Checked e = absurd (omega (arith, e))
one_letter Plain Both e = absurd (omega (arith, e))
one_letter Plain Neither e = absurd (omega (arith, e))
one_letter Checked Plain e = absurd (omega (arith, e))
one_letter Checked Checked e = refl
one_letter Checked Both e = absurd (omega (arith, e))
one_letter Checked Neither e = absurd (omega (arith, e))
one_letter Both Plain e = absurd (omega (arith, e))
one_letter Both Checked e = absurd (omega (arith, e))
one_letter Both Both e = refl
one_letter Both Neither e = absurd (omega (arith, e))
one_letter Neither Plain e = absurd (omega (arith, e))
one_letter Neither Checked e = absurd (omega (arith, e))
one_letter Neither Both e = absurd (omega (arith, e))
one_letter Neither Neither e = refl

-- equal files have the same modes
pub same_modes : (one other : ConfirmedIn) (body rest : List ℕ) → file_text one body ≡ file_text other rest → one ≡ other
same_modes one other body rest same =
    one_letter one other (sym (letter_at one body) ∙ ap (λ (file : List ℕ). get_or file 13 0) same ∙ letter_at other rest)

-- ... and the same body
pub same_bodies : (one other : ConfirmedIn) (body rest : List ℕ) → file_text one body ≡ file_text other rest → body ≡ rest
same_bodies one other body rest same =
    sym (body_after one body)
    ∙ ap (drop (head_length one)) same
    ∙ ap (λ (modes : ConfirmedIn). drop (head_length modes) (file_text other rest)) (same_modes one other body rest same)
    ∙ body_after other rest
