-- What is kept of a journal, and of a file of a chain.
use Rattle.std.proofs.Common.{◌≡◌, ℕ, ◌+◌, ◌-◌, ◌<◌, ◌≤◌, Bool, true, false, List, ◌++◌, length, length-append, take, Option, None, Some, Err, refl, sym, ap, ◌∙◌, inl, inr, arith}
use Rattle.std.specs.Prelude.{IfSome}
use Rattle.std.proofs.lemmas.Bool.{false≢true}
use Rattle.std.proofs.lemmas.Option.{none-some}
use Rattle.std.proofs.lemmas.List.{length-take}
use Rattle.text_lines.specs.declared.answer.ReadError.{ReadError}
use Rattle.text_lines.specs.declared.answer.ReadError.TheVariants as reading
use Rattle.saved_history.specs.Content.{Content}
use Rattle.ring_check.specs.Lines.{lines}
use Rattle.journal.specs.declared.errors.RecoverError.{RecoverError}
use Rattle.journal.specs.declared.errors.RecoverError.TheVariants.{Truncated, Syntax, Bad, OutOfMemory}
use Rattle.journal.specs.Prefixes.{CanBeSaved}
use Rattle.journal.specs.Recovery.{IsRecovered, IsRightRecovery}
use Rattle.journal.proofs.Savings.{can_be_saved}
use Rattle.journal.specs.Salvaging.{IsSalvaged, IsLost, IsRightSalvage}
use Rattle.segment_files.specs.Spelling.{Head, HeadFits, head_text}
use Rattle.segment_files.specs.Meaning.{IsRightHead}
use Rattle.segment_files.specs.Files.{File}
use Rattle.segment_files.specs.Chain.{head_lines, refused_head, refused_journal, line_in, IsRightRefusal}
use Rattle.segment_files.specs.Remarks.{lines_in, without_remarks, line_among}
use Rattle.segment_files.proofs.LineBounds.{recovery_within}
use Rattle.segment_files.proofs.RemarkSteps.{without_within}
use Rattle.segment_files.proofs.Refusing.{journal_refused, line_room, number_room}
use Rattle.tool_parts.specs.LastPlace.{last_place, kept_lines}
use Rattle.tool_parts.specs.Kept.{IsKept, IsUnkept, left_line, bad_in, IsFileKept, file_left, file_place, IsLostFile}
use Rattle.folder_commands.specs.SegmentRecovered.{IsFileFault}
use Rattle.folder_commands.proofs.Recoveries.{recovered_lines}

-- ---- a journal

pub kept_plain : (salvage : Bool) (bytes : List ℕ) (c : Content) → salvage ≡ false → IsRecovered bytes c → IsKept salvage bytes c (length bytes) None
kept_plain false bytes c e r = (r, refl, refl)
kept_plain true bytes c e r = absurd (false≢true (sym e))

pub kept_salvaged : (salvage : Bool) (bytes : List ℕ) (c : Content) (kept : ℕ) (bad : Option RecoverError) → salvage ≡ true → IsSalvaged bytes kept bad c → IsKept salvage bytes c kept bad
kept_salvaged true bytes c kept bad e s = s
kept_salvaged false bytes c kept bad e s = absurd (false≢true e)

pub unkept_plain : (salvage : Bool) (bytes : List ℕ) (f : RecoverError) → salvage ≡ false → IsRightRecovery bytes (Err f) → IsUnkept salvage bytes f
unkept_plain false bytes f e r = r
unkept_plain true bytes f e r = absurd (false≢true (sym e))

pub unkept_salvaged : (salvage : Bool) (bytes : List ℕ) (f : RecoverError) → salvage ≡ true → IsRightSalvage bytes (Err f) → IsUnkept salvage bytes f
unkept_salvaged true bytes f e r = r
unkept_salvaged false bytes f e r = absurd (false≢true e)

-- it is recovered of the front of the bytes
record Front (bytes : List ℕ) (c : Content) : Type 0 where
  pub front : List ℕ
  pub within : length front ≤ length bytes
  pub recovered : IsRecovered front c

front_of : (salvage : Bool) (bytes : List ℕ) (c : Content) (many : ℕ) (bad : Option RecoverError) → IsKept salvage bytes c many bad → Front bytes c
front_of false bytes c many bad k = record { front = bytes; within = omega arith; recovered = k.0 }
front_of true bytes c many bad k = let long = length-take many bytes in record { front = take many bytes; within = omega (arith, long); recovered = k.recovered }

pub kept_lines_within : (salvage : Bool) (bytes : List ℕ) (c : Content) (many : ℕ) (bad : Option RecoverError) → IsKept salvage bytes c many bad → length (lines c) + 1 ≤ length bytes
kept_lines_within salvage bytes c many bad k =
    let f = front_of salvage bytes c many bad k in
    let few = recovered_lines f.front c f.recovered in
    let within = f.within in
    omega (arith, few, within)

pub kept_saved : (salvage : Bool) (bytes : List ℕ) (c : Content) (many : ℕ) (bad : Option RecoverError) → IsKept salvage bytes c many bad → CanBeSaved c
kept_saved salvage bytes c many bad k = let f = front_of salvage bytes c many bad k in can_be_saved f.front c f.recovered

-- ---- a file of a chain

unkept_recovery : (salvage : Bool) (journal : List ℕ) (e : RecoverError) → IsUnkept salvage journal e → IsRightRecovery journal (Err e)
unkept_recovery false journal e h = h
unkept_recovery true journal Truncated h = h.refused
unkept_recovery true journal (Syntax line) h = h.refused
unkept_recovery true journal (Bad line kind) h = h.refused
unkept_recovery true journal OutOfMemory h = tt

-- the line that a refusal names, among those of what is kept
bad_within : (salvage : Bool) (journal : List ℕ) (c : Content) (many : ℕ) (e : RecoverError) → IsKept salvage journal c many (Some e) → line_in e ≤ length journal + 1
bad_within false journal c many e k = absurd (none-some e (sym k.2))
bad_within true journal c many e k =
    let b = k.left_out in
    let within = recovery_within (take b.most journal) e b.refused in
    let long = length-take b.most journal in
    omega (arith, within, long)

module _ (salvage : Bool) (bytes : List ℕ) (h : Head) (rest : List ℕ) (fits : HeadFits h) (spelled : bytes ≡ head_text h ++ rest) (lines : ℕ) (n : lines ≡ head_lines h) where
  abbrev in_file : ℕ → ℕ
  in_file m = line_among (lines_in rest) m + lines

  pub fault_room : (e : RecoverError) → IsUnkept salvage (without_remarks rest) e → line_among (lines_in rest) (line_in e) + lines ≤ length bytes
  fault_room e u = let room = line_room bytes h rest fits spelled e (unkept_recovery salvage (without_remarks rest) e u) in omega (arith, room, n)

  pub bad_room : (c : Content) (many : ℕ) (bad : Option RecoverError) → IsKept salvage (without_remarks rest) c many bad
      → IfSome bad (λ e. line_among (lines_in rest) (line_in e) + lines ≤ length bytes)
  bad_room c many None k = tt
  bad_room c many (Some e) k = let room = number_room bytes h rest fits spelled (line_in e) (bad_within salvage (without_remarks rest) c many e k) in omega (arith, room, n)

  lost_after : (e : RecoverError) → IsLost (without_remarks rest) e → IsLostFile bytes
  lost_after e l = inr (record { head = h; rest = rest; fits = fits; spelled = spelled; holds = (e, l) })

  lost : (s : Bool) (e : RecoverError) → (IsUnkept true (without_remarks rest) e → IsLost (without_remarks rest) e) → IsUnkept s (without_remarks rest) e → s ≡ true → IsLostFile bytes
  lost true e is u q = lost_after e (is u)
  lost false e is u q = absurd (false≢true q)

  refused : (e : RecoverError) → IsUnkept salvage (without_remarks rest) e → IsRightRefusal None bytes true (refused_journal in_file e)
  refused e u = journal_refused bytes h rest fits spelled lines e n (unkept_recovery salvage (without_remarks rest) e u) None true

  pub journal_unkept : (e : RecoverError) → IsUnkept salvage (without_remarks rest) e → IsFileFault salvage bytes (refused_journal in_file e)
  journal_unkept Truncated u = (refused Truncated u, lost salvage Truncated (λ l. l) u)
  journal_unkept (Syntax line) u = (refused (Syntax line) u, lost salvage (Syntax line) (λ l. l) u)
  journal_unkept (Bad line kind) u = (refused (Bad line kind) u, lost salvage (Bad line kind) (λ l. l) u)
  journal_unkept OutOfMemory u = tt

  -- the file, the line of what is left out, and the last place
  pub file_kept : (c : Content) (many left : ℕ) (bad told : Option RecoverError) (place : List ℕ) → IsKept salvage (without_remarks rest) c many bad
      → left ≡ length (without_remarks rest) - many → told ≡ bad_in lines (lines_in rest) bad → place ≡ last_place (kept_lines (lines_in rest) bad)
      → (k : IsFileKept salvage (record { bytes = bytes; head = h; content = c })) × (left_line left told ≡ file_left k) × (place ≡ file_place k)
  file_kept c many left bad told place kept is same at = (
    record { rest = rest; fits = fits; spelled = spelled; many = many; bad = bad; kept = kept },
    ap (λ (x : Option RecoverError). left_line left x) same
        ∙ ap (λ (x : ℕ). left_line x (bad_in lines (lines_in rest) bad)) is
        ∙ ap (λ (x : ℕ). left_line (length (without_remarks rest) - many) (bad_in x (lines_in rest) bad)) n,
    at,
  )

-- the line that is left out has a number
pub room_below : (most many lines : ℕ) (text : List ℕ) (bad : Option RecoverError) → many < most
    → IfSome bad (λ e. line_among (lines_in text) (line_in e) + lines ≤ many) → IfSome bad (λ e. line_among (lines_in text) (line_in e) < most)
room_below most many lines text None lt room = tt
room_below most many lines text (Some e) lt room = omega (arith, lt, room)

pub head_unkept : {X : Type 0} (salvage : Bool) (view : X → Head × List ℕ) (bytes : List ℕ) (e : ReadError) → IsRightHead view bytes (Err e) → IsFileFault salvage bytes (refused_head e)
head_unkept salvage view bytes (reading.Syntax line) h = (inl h, λ s. inl (inr h.0))
head_unkept salvage view bytes reading.Truncated h = (inl h, λ s. inl (inl h))
head_unkept salvage view bytes reading.OutOfMemory h = tt

-- a file whose journal is kept
pub file_lines : (salvage : Bool) (f : File) → IsFileKept salvage f → length (lines f.content) + 1 ≤ length f.bytes
file_lines salvage f k =
    let few = kept_lines_within salvage (without_remarks k.rest) f.content k.many k.bad k.kept in
    let less = without_within k.rest in
    let whole : length f.bytes ≡ length (head_text f.head ++ k.rest) = ap length k.spelled in
    let both = length-append (head_text f.head) k.rest in
    omega (arith, few, less, whole, both)

pub file_saved : (salvage : Bool) (f : File) → IsFileKept salvage f → CanBeSaved f.content
file_saved salvage f k = kept_saved salvage (without_remarks k.rest) f.content k.many k.bad k.kept
