-- What is left of a run starts the next one.
use Rattle.std.proofs.Common.{◌≡◌, ℕ, List, [], ◌∷◌, ◌++◌, Some, sym, ◌∙◌, ap, subst, inl, inr, append_assoc, append-nil, ◌⊎◌}
use Rattle.std.proofs.lemmas.List.{append_cancel_left}
use Rattle.segment_files.specs.Spelling.{head_text}
use Rattle.segment_files.specs.Remarks.{without_remarks}
use Rattle.segment_files.specs.RemarkLaws.{AreLines}
use Rattle.segment_files.proofs.TornLines.{not_none}
use Rattle.ring_service.specs.Recovered.{IsPrefix}
use Rattle.line_replica.specs.State.{own_lines, remarks_of}
use Rattle.held_locks.specs.Kept.{LockView}
use Rattle.lock_service.specs.Remarked.{begun_with_remarks}
use Rattle.lock_journal.proofs.WholeEnds.{within}
use Rattle.lock_journal.proofs.WholeTexts.{ends_after}
use Rattle.lock_journal.specs.Begun.{begun_text}
use Rattle.lock_life.proofs.LastSegments.{kept_segments_start}
use Rattle.lock_life.proofs.WholeEnds.{found_before}
use Rattle.lock_life.specs.Life.{AreFound}
use Rattle.lock_life.specs.Runs.{Service, inside, by_segments, RunsGoOn}
use Rattle.lock_life.specs.Started.{IsTakenOf, head_with, IsKeptLast, IsTornAfter}

-- a segment's file is its head, and then what it begins with
text_is : (s : Service) (number : ℕ) (digest kept : List ℕ) →
    by_segments.text s number digest ++ kept ≡ head_text (head_with number digest (inside s).segment.locks) ++ (begun_with_remarks s.inner ++ kept)
text_is s number digest kept =
    let head : List ℕ = head_text (head_with number digest (inside s).segment.locks) in
    let begun : List ℕ = begun_text (inside s).segment.locks in
    let remarks : List ℕ = remarks_of (own_lines s.inner) in
    append_assoc (head ++ begun) remarks kept ∙ (append_assoc head begun (remarks ++ kept) ∙ ap (λ (u : List ℕ). head ++ u) (sym (append_assoc begun remarks kept)))

pub behind_both : (front a b : List ℕ) → IsPrefix a b → IsPrefix (front ++ a) (front ++ b)
behind_both front a b p = (p.0, ap (λ (u : List ℕ). front ++ u) p.1 ∙ sym (append_assoc front a p.0))

pub prefix_then : (a b c : List ℕ) → IsPrefix a b → IsPrefix b c → IsPrefix a c
prefix_then a b c p q = (p.0 ++ q.0, q.1 ∙ (ap (λ (u : List ℕ). u ++ q.0) p.1 ∙ append_assoc a p.0 q.0))

-- after the same front
cut_front : (front a b : List ℕ) → IsPrefix (front ++ a) (front ++ b) → IsPrefix a b
cut_front front a b p = (p.0, append_cancel_left front b (a ++ p.0) (p.1 ∙ append_assoc front a p.0))

-- with whole lines after it
whole_then : (begun lines noted : List ℕ) → AreLines (begun ++ noted) → IsPrefix noted lines → AreLines lines → AreLines (begun ++ lines)
whole_then begun lines [] told has (inl none) = subst (λ (u : List ℕ). AreLines (begun ++ u)) (sym none) told
whole_then begun lines (b ∷ noted) told has (inl none) = absurd (not_none [] b (noted ++ has.0) (sym has.1 ∙ none))
whole_then begun lines noted told has (inr e) = inr (ends_after begun lines e)

-- what a start takes
taken_so : (number : ℕ) (behind : List ℕ) (start : List LockView) (kept front left_out : List ℕ) → kept ≡ front ++ left_out → (left_out ≡ []) ⊎ IsTornAfter number behind start kept front → IsTakenOf number behind start kept front
taken_so number behind start kept front left_out parts (inl none) = inl (sym (parts ∙ (ap (λ (u : List ℕ). front ++ u) none ∙ append-nil front)))
taken_so number behind start kept front left_out parts (inr torn) = inr torn

pub runs_go_on : RunsGoOn
runs_go_on a b before lines said notes r held folder bytes word holders after p fits left started =
    let begun : List ℕ = begun_with_remarks r.last.inner in
    let locks : List LockView = (inside r.last).segment.locks in
    let all : List ℕ = begun ++ bytes in
    let k : IsKeptLast held folder b.number r.digest locks all = record {
      fits = (r.fits fits).head;
      file = left.file ∙ ap (λ (u : List ℕ). Some u) (text_is r.last b.number r.digest bytes);
      last = left.last;
    } in
    let t = kept_segments_start held folder b.number r.digest locks all word holders after p k started in
    let told : List ℕ = begun ++ r.noted in
    let parts : all ≡ told ++ left.told.0 = ap (λ (u : List ℕ). begun ++ u) left.told.1 ∙ sym (append_assoc begun r.noted left.told.0) in
    let stays = t.stays r.whole.journal told left.told.0 r.whole.right r.whole.lines r.whole.is parts in
    let front : List ℕ = r.noted ++ stays.0 in
    let front_is : t.front ≡ begun ++ front = stays.1 ∙ append_assoc begun r.noted stays.0 in
    let taken : IsTakenOf b.number r.digest locks all (begun ++ front) =
    subst (λ (u : List ℕ). IsTakenOf b.number r.digest locks all u) front_is (taken_so b.number r.digest locks all t.front t.left_out t.parts t.end) in
    let n = left.no_more front taken in
    let text_lines : (begun ++ n.0) ++ n.1 ≡ told ++ stays.0 =
    append_assoc begun n.0 n.1 ∙ (ap (λ (u : List ℕ). begun ++ u) (sym n.2) ∙ sym (append_assoc begun r.noted stays.0)) in
    let has : IsPrefix told (begun ++ n.0) = within told stays.0 (begun ++ n.0) n.1 n.4 r.whole.lines text_lines in
    let noted : IsPrefix r.noted n.0 = cut_front begun r.noted n.0 has in
    let s = r.stages (begun ++ n.0) has (behind_both begun n.0 (r.noted ++ notes) n.5) in
    let ends : AreLines (begun ++ n.0) = whole_then begun n.0 r.noted r.whole.lines noted n.3 in
    let found : AreFound locks (without_remarks ((begun ++ n.0) ++ n.1)) t.locks =
    subst (λ (u : List ℕ). AreFound locks (without_remarks u) t.locks) (stays.1 ∙ sym text_lines) t.found in
    let up : IsPrefix front bytes = cut_front begun front bytes (subst (λ (u : List ℕ). IsPrefix u all) front_is (t.left_out, t.parts)) in (
      s.0,
      s.1,
      record { taken = n.0; told = noted; of_left = prefix_then n.0 front bytes (n.1, n.2) up; run = s.2 },
      t.locks,
      t.added,
      found_before locks (begun ++ n.0) n.1 t.locks ends n.4 found,
      t.new,
      t.handed,
    )
