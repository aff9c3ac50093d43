-- What was recorded is in the front of a torn end.
use Rattle.std.proofs.Common.{◌≡◌, ℕ, ◌⊎◌, inl, inr, true, List, [], ◌∷◌, ◌++◌, ◌+◌, length, Err, arith, sym, ap, subst, ◌∙◌, append_assoc}
use Rattle.std.proofs.lemmas.Bool.{false≢true}
use Rattle.std.proofs.lemmas.List.{append-nil, length-append}
use Rattle.text_lines.proofs.Basics.{ok_is}
use Rattle.ring_check.specs.declared.answers.Kind.{Kind}
use Rattle.journal.specs.Spelling.{Journal, journal_text}
use Rattle.journal.specs.Recovery.{IsRightRecovery}
use Rattle.journal.specs.Prefixes.{IsRightJournal}
use Rattle.journal.specs.declared.errors.RecoverError.TheVariants as recovery
use Rattle.journal.proofs.Cutting.{prefixes_recovered}
use Rattle.segment_files.specs.declared.last.LastSegment.{LastSegment}
use Rattle.segment_files.specs.declared.errors.SegmentError.{SegmentError}
use Rattle.segment_files.specs.declared.errors.SegmentError.TheVariants as segment
use Rattle.segment_files.specs.Spelling.{Head, HeadFits, head_of, head_text}
use Rattle.segment_files.specs.Remarks.{without_remarks, IsEnded}
use Rattle.segment_files.specs.RemarkLaws.{AreLines, IsOneLine}
use Rattle.segment_files.specs.Reading.{head_at}
use Rattle.segment_files.specs.Last.{IsRightLast}
use Rattle.segment_files.proofs.HeadLaws.{head_reads}
use Rattle.segment_files.proofs.Remarked.{without_append}
use Rattle.segment_files.specs.Torn.{names_line, IsTorn, ToldLinesStay, WholeFilesStay}
use Rattle.segment_files.proofs.TornLines.{split_by, first_within, rest_ends, not_none}

-- bytes have one head
pub one_rest : (g h : Head) (x y : List ℕ) → HeadFits g → HeadFits h → head_text g ++ x ≡ head_text h ++ y → x ≡ y
one_rest g h x y fg fh e =
    let one : Head × List ℕ = (g, x) in
    let other : Head × List ℕ = (h, y) in
    let both : one ≡ other = ok_is one other (sym (head_reads.again g x fg) ∙ (ap head_at e ∙ head_reads.again h y fh)) in
    ap (λ (z : Head × List ℕ). z.1) both

-- a journal's lines up to some line, after a head
module _ (j : Journal) (right : IsRightJournal j) (g : Head) (fits : HeadFits g) (front more bytes : List ℕ) (cut : without_remarks front ++ more ≡ journal_text j) (spelled : bytes ≡ head_text g ++ front) where
  same_front : (h : Head) (rest : List ℕ) → HeadFits h → bytes ≡ head_text h ++ rest → rest ≡ front
  same_front h rest f e = one_rest h g rest front f fits (sym e ∙ spelled)

  no_syntax : (h : Head) (rest : List ℕ) (line : ℕ) → HeadFits h → bytes ≡ head_text h ++ rest → IsRightRecovery (without_remarks rest) (Err (recovery.Syntax line)) → ⊥
  no_syntax h rest line f e r =
      prefixes_recovered j (without_remarks front) more (Err (recovery.Syntax line)) right cut
      (subst (λ (u : List ℕ). IsRightRecovery (without_remarks u) (Err (recovery.Syntax line))) (same_front h rest f e) r)

  no_fault : (h : Head) (rest : List ℕ) (line : ℕ) (kind : Kind) → HeadFits h → bytes ≡ head_text h ++ rest → IsRightRecovery (without_remarks rest) (Err (recovery.Bad line kind)) → ⊥
  no_fault h rest line kind f e r =
      prefixes_recovered j (without_remarks front) more (Err (recovery.Bad line kind)) right cut
      (subst (λ (u : List ℕ). IsRightRecovery (without_remarks u) (Err (recovery.Bad line kind))) (same_front h rest f e) r)

  -- no line of them is refused
  not_refused : (why : SegmentError) → names_line why ≡ true → IsRightLast bytes (Err why) → ⊥
  not_refused segment.Truncated n r = false≢true n
  not_refused (segment.Syntax line) n (inl b) = b.0 g front fits spelled
  not_refused (segment.Syntax line) n (inr a) = no_syntax a.head a.rest a.holds.0 a.fits a.spelled a.holds.2
  not_refused (segment.Bad line kind) n r = no_fault r.head r.rest r.holds.0 kind r.fits r.spelled r.holds.2
  not_refused segment.Number n r = false≢true n
  not_refused segment.Behind n r = false≢true n
  not_refused segment.Base n r = false≢true n
  not_refused segment.Start n r = false≢true n
  not_refused segment.Full n r = false≢true n
  not_refused segment.Unfinished n r = false≢true n
  not_refused segment.OutOfMemory n r = false≢true n

line_ends : (rest line : List ℕ) → IsOneLine line → AreLines (rest ++ line)
line_ends rest line one = inr (rest ++ one.0, ap (λ (u : List ℕ). rest ++ u) one.1 ∙ sym (append_assoc rest one.0 (10 ∷ [])))

module _ (h : Head) (j : Journal) (told tail : List ℕ) (s : LastSegment) (fits : HeadFits h) (right : IsRightJournal j) (is : without_remarks told ≡ journal_text j) (torn : IsTorn (head_text h ++ (told ++ tail)) s) where
  -- if the bad line began before the end of what was recorded
  module _ (b : ℕ) (m : List ℕ) (shorter : head_text h ++ told ≡ torn.front ++ b ∷ m) (behind : (b ∷ m) ++ tail ≡ torn.left_out) where
    told_parts : torn.right.file.rest ++ b ∷ m ≡ told
    told_parts =
        one_rest (head_of s.head) h (torn.right.file.rest ++ b ∷ m) told torn.right.file.fits fits
        (sym (append_assoc (head_text (head_of s.head)) torn.right.file.rest (b ∷ m))
        ∙ (ap (λ (u : List ℕ). u ++ b ∷ m) (sym torn.right.file.spelled) ∙ sym shorter))

    -- it would be among these lines
    within : IsEnded told → (x : List ℕ) × (b ∷ m ≡ torn.bad.line ++ x)
    within ended =
        let y = rest_ends ended.0 torn.right.file.rest b m (sym ended.1 ∙ sym told_parts) in
        let both : torn.bad.whole.0 ++ 10 ∷ torn.bad.behind ≡ (y.0 ++ 10 ∷ []) ++ tail =
        sym (append_assoc torn.bad.whole.0 (10 ∷ []) torn.bad.behind)
        ∙ (ap (λ (u : List ℕ). u ++ torn.bad.behind) (sym torn.bad.whole.1)
        ∙ (sym torn.bad.first ∙ (sym behind ∙ ap (λ (u : List ℕ). u ++ tail) y.1)))
        in
        let x = first_within torn.bad.whole.0 torn.bad.behind y.0 tail torn.bad.whole.2 both in
        (x.0, y.1 ∙ (x.1 ∙ ap (λ (u : List ℕ). u ++ x.0) (sym torn.bad.whole.1)))

    among : IsEnded told → ⊥
    among ended =
        let rest : List ℕ = torn.right.file.rest in
        let line : List ℕ = torn.bad.line in
        let x = within ended in
        let parts : (rest ++ line) ++ x.0 ≡ told = append_assoc rest line x.0 ∙ (ap (λ (u : List ℕ). rest ++ u) (sym x.1) ∙ told_parts) in
        let cut : without_remarks (rest ++ line) ++ without_remarks x.0 ≡ journal_text j = sym (without_append (rest ++ line) x.0 (line_ends rest line torn.bad.whole)) ∙ (ap without_remarks parts ∙ is) in
        not_refused j right (head_of s.head) torn.right.file.fits (rest ++ line) (without_remarks x.0) (torn.front ++ line) cut
        (ap (λ (u : List ℕ). u ++ line) torn.right.file.spelled ∙ append_assoc (head_text (head_of s.head)) rest line)
        torn.bad.why torn.bad.named torn.bad.refused

    not_within : AreLines told → ⊥
    not_within (inl none) = not_none torn.right.file.rest b m (told_parts ∙ none)
    not_within (inr ended) = among ended

  in_front : ((m : List ℕ) × (torn.front ≡ (head_text h ++ told) ++ m)) ⊎ ((b : ℕ) × (m : List ℕ) × (head_text h ++ told ≡ torn.front ++ b ∷ m) × ((b ∷ m) ++ tail ≡ torn.left_out)) → AreLines told → (more : List ℕ) × (torn.front ≡ (head_text h ++ told) ++ more)
  in_front (inl k) lines = k
  in_front (inr k) lines = absurd (not_within k.0 k.1 k.2 k.3 lines)

-- no front of all bytes has them all, and a line is left out
not_shorter : (all front left_out more line behind body : List ℕ) → all ≡ front ++ left_out → front ≡ all ++ more → left_out ≡ line ++ behind → line ≡ body ++ 10 ∷ [] → ⊥
not_shorter all front left_out more line behind body parts longer first whole =
    let a : length all ≡ length front + length left_out = ap length parts ∙ length-append front left_out in
    let b : length front ≡ length all + length more = ap length longer ∙ length-append all more in
    let c : length left_out ≡ length line + length behind = ap length first ∙ length-append line behind in
    let d : length line ≡ length body + 1 = ap length whole ∙ length-append body (10 ∷ []) in
    omega (arith, a, b, c, d)

pub told_stay : ToldLinesStay
told_stay h j told tail s fits right lines is torn =
    in_front h j told tail s fits right is torn
    (split_by torn.front torn.left_out (head_text h ++ told) tail (sym torn.bad.spelled ∙ sym (append_assoc (head_text h) told tail)))
    lines

pub whole_stay : WholeFilesStay
whole_stay h j told s fits right lines is torn =
    let same : head_text h ++ (told ++ []) ≡ head_text h ++ told = ap (λ (u : List ℕ). head_text h ++ u) (append-nil told) in
    let t : IsTorn (head_text h ++ (told ++ [])) s = subst (λ (u : List ℕ). IsTorn u s) (sym same) torn in
    let k = told_stay h j told [] s fits right lines is t in
    not_shorter (head_text h ++ told) t.front t.left_out k.0 t.bad.line t.bad.behind t.bad.whole.0 (sym same ∙ t.bad.spelled) k.1 t.bad.first t.bad.whole.1
