-- The start of a journal: it is read as it is spelled, and a refusal of it is right.
use Rattle.std.proofs.Common.{◌≡◌, ℕ, ◌+◌, ◌-◌, ◌<◌, ◌≤◌, ◌^◌, eqb, List, [], ◌∷◌, ◌++◌, length, take, vec_len, Result, Ok, Err, refl, sym, ap, ◌∙◌, subst, append_assoc, length-append, inl, arith}
use Rattle.std.specs.Fmt.{decimal}
use Rattle.std.specs.List.{All, AllByRecursion, flat_map}
use Rattle.std.proofs.lemmas.List.{length-take, length-map}
use Rattle.std.proofs.lemmas.List.Elements.{All-from_recursion, All-weaker}
use Rattle.std.proofs.lemmas.List.Sums.{count_by-le-length}
use Rattle.text_lines.specs.declared.fault.Fault.{Fault}
use Rattle.text_lines.specs.declared.fault.Fault.TheVariants.{Short, Bad}
use Rattle.text_lines.specs.declared.fault.Stop.{Stop}
use Rattle.text_lines.specs.declared.fault.Stop.TheVariants as stops
use Rattle.text_lines.specs.Reading.{Reader, ◌>>=◌, Fails, end_at, whole_at}
use Rattle.text_lines.specs.Grammar.{Reads}
use Rattle.text_lines.specs.Spelling.{spaced}
use Rattle.text_lines.specs.Texts.{IsRightAnswer, refusal_of, line_of}
use Rattle.text_lines.proofs.Sequences.{after_reads}
use Rattle.text_lines.proofs.Answering.{answer_is_right}
use Rattle.saved_history.specs.declared.saved.Saved.{Saved}
use Rattle.saved_history.specs.Content.{Content, block_of, content}
use Rattle.saved_history.specs.Spelling.{Fits, text}
use Rattle.saved_history.proofs.TextLaws.{text_reads}
use Rattle.ring_check.specs.Lines.{Line, lines}
use Rattle.ring_check.specs.Legal.{IsRightCheck, IsFirstBad}
use Rattle.ring_check.specs.declared.answers.Kind.{Kind}
use Rattle.ring_check.specs.declared.answers.CheckError.TheVariants as check
use Rattle.ring_check.proofs.SavedLines.{lines_some}
use Rattle.journal.specs.declared.calls.JournalLine.{JournalLine}
use Rattle.journal.specs.Spelling.{JournalLineFits, first_line, journal_head, call_line, journal_line}
use Rattle.journal.specs.Reading.{BeginsNone, head_at}
use Rattle.journal.specs.Recovery.{IsJournalThen, IsBadBeginning, IsRightRecovery, call_line_number}
use Rattle.journal.specs.Judging.{refused_as, AreCallsOf}

pub head_reads : Reads Fits journal_head head_at
unfolding head_at
head_reads = after_reads first_line text_reads

-- ---- a refusal

whole_fault : {A : Type 0} (at : Reader A) (bytes : List ℕ) (d : Fault) → at bytes ≡ Err d → whole_at at bytes ≡ Err d
unfolding whole_at
whole_fault {A} at bytes d k = ap (λ (r : Result (A × List ℕ) Fault). r >>= λ x. end_at x.1 >>= λ _. Ok x.0) k

abbrev IsRead : Result (Content × List ℕ) Fault → Type 0
IsRead (Ok x) = Unit {0}
IsRead (Err d) = ⊥

no_head : (bytes : List ℕ) (d : Fault) → head_at bytes ≡ Err d → BeginsNone Fits journal_head bytes
no_head bytes d k a more f e = subst IsRead k (subst IsRead (sym (ap head_at e ∙ head_reads.again a more f)) tt)

as_recovery : (bytes : List ℕ) (d : Fault) → BeginsNone Fits journal_head bytes → IsRightAnswer {X = Content} (λ x. x) Fits journal_head bytes (Err (refusal_of bytes (stops.Fault d))) → IsRightRecovery bytes (Err (refused_as (refusal_of bytes (stops.Fault d))))
as_recovery bytes Short none a = a
as_recovery bytes (Bad left) none a = inl (record { none = none; first = a })

pub head_refused : (bytes : List ℕ) (stop : Stop) → Fails stop (head_at bytes) → IsRightRecovery bytes (Err (refused_as (refusal_of bytes stop)))
head_refused bytes stops.Memory k = tt
head_refused bytes (stops.Fault d) k = as_recovery bytes d (no_head bytes d k) (answer_is_right head_reads (λ (x : Content). x) bytes (Err (stops.Fault d)) (whole_fault head_at bytes d k))

-- ---- the calls

recorded_some : (r : JournalLine) → 1 ≤ length (journal_line r)
recorded_some r =
    let line = length-append (spaced r.ring) (call_line r.call) in
    let number = length-append (decimal r.ring) (32 ∷ []) in
    omega arith

pub calls_some : (calls : List JournalLine) → length calls ≤ length (flat_map journal_line calls)
calls_some [] = omega arith
calls_some (r ∷ rs) =
    let one = recorded_some r in
    let more = calls_some rs in
    let line = length-append (journal_line r) (flat_map journal_line rs) in
    omega arith

pub calls_within : (calls : List JournalLine) (rest tail : List ℕ) → rest ≡ flat_map journal_line calls ++ tail → length calls + length tail ≤ length rest
calls_within calls rest tail e =
    let some = calls_some calls in
    let long : length rest ≡ length (flat_map journal_line calls ++ tail) = ap length e in
    let cut = length-append (flat_map journal_line calls) tail in
    omega arith

pub rings_of : (version rings : ℕ) (calls : List JournalLine) → AllByRecursion (JournalLineFits version rings) calls → All (λ (r : JournalLine). r.ring < rings) calls
rings_of version rings calls fit = All-weaker (JournalLineFits version rings) (λ (r : JournalLine). r.ring < rings) (λ r f. f.ring) calls (All-from_recursion (JournalLineFits version rings) calls fit)

-- ---- the part that was read

module _ (bytes : List ℕ) (c : Content) (rest : List ℕ) (read : head_at bytes ≡ Ok (c, rest)) where
  pub head_spelled : Fits c × (bytes ≡ journal_head c ++ rest)
  head_spelled = head_reads.takes bytes c rest read

  pub head_lengths : length bytes ≡ length (journal_head c) + length rest
  head_lengths = ap length head_spelled.1 ∙ length-append (journal_head c) rest

  pub head_lines : length (lines c) + 2 + length rest ≤ length bytes
  head_lines =
      let few = lines_some c in
      let long = head_lengths in
      let first = length-append first_line (text c) in
      omega arith

  pub head_place : length bytes - length rest ≡ length (journal_head c)
  head_place = let long = head_lengths in omega arith

  pub bad_beginning : (line : ℕ) (kind : Kind) → IsRightCheck c (Err (check.Bad line kind)) → IsBadBeginning bytes (line + 1) kind
  bad_beginning line kind bad = record { began = c; rest = rest; fits = head_spelled.0; spelled = head_spelled.1; said = line; bad = bad; number = refl }

  pub line_number : (first n m : ℕ) → first ≡ line_of bytes (length bytes - length rest) → n ≡ m → first + n ≡ call_line_number bytes c m
  line_number first n m e f = let g : first ≡ line_of bytes (length (journal_head c)) = e ∙ ap (line_of bytes) head_place in omega (arith, g, f)

  pub line_small : (first : ℕ) → first ≡ line_of bytes (length bytes - length rest) → first ≤ length (journal_head c) + 1
  line_small first e =
      let g : first ≡ line_of bytes (length (journal_head c)) = e ∙ ap (line_of bytes) head_place in
      let few = count_by-le-length (λ (b : ℕ). eqb b 10) (take (length (journal_head c)) bytes) in
      let cut = length-take (length (journal_head c)) bytes in
      omega (arith, g, few, cut)

  pub is_journal : (rings : ℕ) (calls : List JournalLine) (tail : List ℕ) → rings ≡ length c.rings → AllByRecursion (JournalLineFits c.version rings) calls → rest ≡ flat_map journal_line calls ++ tail → BeginsNone (JournalLineFits c.version rings) journal_line tail
      → IsJournalThen bytes (record { began = c; calls = calls }) tail
  is_journal rings calls tail same fit spelled none = record {
    fits = record { began = head_spelled.0; calls = subst (λ (n : ℕ). AllByRecursion (JournalLineFits c.version n) calls) same fit };
    spelled = head_spelled.1 ∙ ap (λ (u : List ℕ). journal_head c ++ u) spelled ∙ sym (append_assoc (journal_head c) (flat_map journal_line calls) tail);
    behind = subst (λ (n : ℕ). BeginsNone (JournalLineFits c.version n) journal_line tail) same none;
  }

  pub are_calls : (rings : ℕ) (calls : List JournalLine) (tail : List ℕ) → rings ≡ length c.rings → AllByRecursion (JournalLineFits c.version rings) calls → rest ≡ flat_map journal_line calls ++ tail → length bytes < 2 ^ 64 → AreCallsOf bytes calls
  are_calls rings calls tail same fit spelled short =
      let few = head_lines in
      let within = calls_within calls rest tail spelled in
      let all = rings_of c.version rings calls fit in
      record { began = c; rest = rest; head = read; rings = subst (λ (n : ℕ). All (λ (r : JournalLine). r.ring < n) calls) same all; room = omega (arith, few, within, short) }

-- the head of the bytes is one
head_or : Content → Result (Content × List ℕ) Fault → Content
head_or c (Ok x) = x.0
head_or c (Err d) = c

pub same_head : (bytes : List ℕ) (b c : Content) (rest more : List ℕ) → head_at bytes ≡ Ok (b, rest) → head_at bytes ≡ Ok (c, more) → b ≡ c
unfolding head_or
same_head bytes b c rest more e f = ap (head_or b) (sym e ∙ f)

-- ---- a bad line is one of those that there are

pub bad_within : (version : ℕ) (ls : List Line) (line : ℕ) (kind : Kind) → IsFirstBad version ls line kind → line ≤ length ls + 1
bad_within version ls line kind bad =
    let parts : ls ≡ bad.0 ++ bad.1 ∷ bad.2 = bad.3 in
    let at : line ≡ length bad.0 + 2 = bad.4 in
    let long : length ls ≡ length (bad.0 ++ bad.1 ∷ bad.2) = ap length parts in
    let cut = length-append bad.0 (bad.1 ∷ bad.2) in
    omega arith

-- a fact on the head of the bytes holds of it however it was read
pub for_head : (P : Content → Type 0) (bytes : List ℕ) (b c : Content) (rest more : List ℕ) → head_at bytes ≡ Ok (b, rest) → head_at bytes ≡ Ok (c, more) → P c → P b
for_head P bytes b c rest more e f p = subst P (sym (same_head bytes b c rest more e f)) p

-- how many rings a value has
pub rings_count : (saved : Saved) (n : ℕ) → n ≡ vec_len saved.rings → n ≡ length (content saved).rings
rings_count saved n e =
    let ok = saved.rings.ok in
    let many = length-map saved.rings.items block_of in
    omega arith
