-- What lines noted is a right journal, and what is torn after whole lines changes nothing of what is recovered of them.
use Rattle.std.proofs.Common.{◌≡◌, ℕ, Bool, true, false, List, [], ◌∷◌, ◌++◌, refl, sym, ◌∙◌, ap, subst, inl, inr, append_assoc, eqb, append-nil, ◌⊎◌}
use Rattle.std.specs.Prelude.{◌||◌}
use Rattle.std.specs.List.{AllByRecursion}
use Rattle.std.proofs.lemmas.Bool.{false≢true}
use Rattle.std.proofs.lemmas.List.{append_cancel_left}
use Rattle.std.proofs.lemmas.List.Folds.{list_any-append}
use Rattle.saved_history.specs.Content.{Content}
use Rattle.saved_history.specs.Spelling.{Fits}
use Rattle.saved_history.specs.Versions.{latest_version}
use Rattle.ring_check.specs.Legal.{IsLegalText}
use Rattle.journal.specs.declared.calls.JournalLine.{JournalLine}
use Rattle.journal.specs.Spelling.{journal_line, journal_head, Journal, journal_text, JournalLineFits}
use Rattle.journal.specs.Recovery.{has_line_end, IsRecovered}
use Rattle.journal.specs.Prefixes.{IsRightJournal}
use Rattle.segment_files.specs.Remarks.{IsEnded}
use Rattle.segment_files.specs.RemarkLaws.{AreLines}
use Rattle.segment_files.proofs.TornLines.{split_by, not_none, rest_ends}
use Rattle.ring_service.specs.Recovered.{IsPrefix}
use Rattle.ring_service.specs.Standings.{Standing}
use Rattle.ring_service.specs.Saved.{content_of, IsRight}
use Rattle.ring_service.proofs.Legality.{content_legal, as_many}
use Rattle.ring_service.proofs.Journaling.{begins, stands_tell}
use Rattle.held_locks.specs.Kept.{AreKept}
use Rattle.lock_journal.specs.declared.terms.Terms.{Terms}
use Rattle.lock_journal.proofs.Chains.{Chain, chain_front, chain_fits, chain_stands}
use Rattle.lock_journal.proofs.Longer.{noted_lines}
use Rattle.lock_journal.proofs.Recovering.{begun_right, begun_few, followed_begun, kept_bounded}
use Rattle.lock_journal.proofs.WholeTexts.{ends_after, of_each, journal_line_ends}
use Rattle.lock_journal.proofs.WithoutRemarks.{head_ends}
use Rattle.lock_journal.specs.Begun.{begun_text, HaveBegun, AreAnswered}
use Rattle.lock_journal.specs.Counting.{SegmentView}
use Rattle.lock_journal.specs.Segments.{rings_of}

-- ---- the journal of a run

-- calls of rings that are right are a right journal
calls_right : (old new : List Standing) (calls : List JournalLine) → AllByRecursion IsRight old → Fits (content_of old) → Chain old calls new → IsRightJournal (record { began = content_of old; calls = calls })
calls_right old new calls all fits chain = record {
  fits = record { began = fits; calls = subst (λ (n : ℕ). AllByRecursion (JournalLineFits latest_version n) calls) (sym (as_many 0 old)) (chain_fits old new calls chain) };
  began = content_legal old all;
  legal = λ front back e.
      let f = chain_front old new front back (subst (λ (x : List JournalLine). Chain old x new) e chain) in
      let s = chain_stands old [] old f.0 front (begins old all) f.1 in
      subst IsLegalText (sym (stands_tell old front f.0 s)) (content_legal f.0 s.right);
}

-- what lines noted, after the text with which the locks began
pub noted_journal : (terms : Terms) (old new : SegmentView) (lines : List (List ℕ)) (said noted : List ℕ) (entries : List (ℕ × ℕ)) → HaveBegun old.locks → AreAnswered terms old lines said noted new → AreKept new.locks entries →
    (j : Journal) × IsRightJournal j × (begun_text old.locks ++ noted ≡ journal_text j)
noted_journal terms old new lines said noted entries begun a kept =
    let rings : List Standing = rings_of old.locks in
    let one = noted_lines terms rings old new lines said noted (begun_few old.locks begun) (followed_begun old.locks begun) a.noting a.answers (kept_bounded new.locks entries kept) in (
      record { began = content_of rings; calls = one.notes.calls },
      calls_right rings one.notes.behind one.notes.calls (begun_right old.locks begun) begun.text one.notes.chain,
      ap (λ (u : List ℕ). journal_head (content_of rings) ++ u) one.notes.lines,
    )

-- it ends with a line
calls_then : (front : List ℕ) (calls : List ℕ) → IsEnded front → AreLines calls → IsEnded (front ++ calls)
calls_then front calls ended (inl none) = subst IsEnded (sym (ap (λ (u : List ℕ). front ++ u) none ∙ append-nil front)) ended
calls_then front calls ended (inr e) = ends_after front calls e

journal_ends : (j : Journal) → IsEnded (journal_text j)
journal_ends j = calls_then (journal_head j.began) _ (head_ends j.began) (of_each journal_line (λ r. inr (journal_line_ends r)) j.calls)

-- ---- bytes after whole lines

front_of : (a b : Bool) → (a || b) ≡ false → a ≡ false
front_of true b e = e
front_of false b e = refl

back_of : (a b : Bool) → (a || b) ≡ false → b ≡ false
back_of true b e = absurd cc
back_of false b e = e

in_front : (xs ys : List ℕ) → has_line_end (xs ++ ys) ≡ false → has_line_end xs ≡ false
in_front xs ys e = front_of (has_line_end xs) (has_line_end ys) (sym (list_any-append (λ b. eqb b 10) xs ys) ∙ e)

no_end : (front tail : List ℕ) → has_line_end ((front ++ 10 ∷ []) ++ tail) ≡ false → ⊥
no_end front tail none = false≢true (sym (back_of (has_line_end front) true (sym (list_any-append (λ b. eqb b 10) front (10 ∷ [])) ∙ in_front (front ++ 10 ∷ []) tail none)))

module _ (whole tail lines rest : List ℕ) (none : has_line_end rest ≡ false) where
  clash : AreLines whole → (b : ℕ) (m : List ℕ) → whole ≡ lines ++ b ∷ m → (b ∷ m) ++ tail ≡ rest → ⊥
  clash (inl e) b m shorter behind = not_none lines b m (sym shorter ∙ e)
  clash (inr e) b m shorter behind =
      let y = rest_ends e.0 lines b m (sym e.1 ∙ shorter) in
      no_end y.0 tail (ap has_line_end (ap (λ (u : List ℕ). u ++ tail) (sym y.1) ∙ behind) ∙ none)

  -- whole lines at the front of bytes are in each front of them after which no line ends
  pub within : AreLines whole → lines ++ rest ≡ whole ++ tail → IsPrefix whole lines
  within ends e = by (split_by lines rest whole tail e)
    where
      by : ((m : List ℕ) × (lines ≡ whole ++ m)) ⊎ ((b : ℕ) × (m : List ℕ) × (whole ≡ lines ++ b ∷ m) × ((b ∷ m) ++ tail ≡ rest)) → IsPrefix whole lines
      by (inl k) = k
      by (inr k) = absurd (clash ends k.0 k.1 k.2 k.3)

-- what is recovered of bytes is recovered of a front of them after which no line ends
pub unended : (lines rest : List ℕ) (h : Content) → has_line_end rest ≡ false → IsRecovered (lines ++ rest) h → IsRecovered lines h
unended lines rest h none r =
    let text : List ℕ = journal_text r.journal in
    let m = within text r.tail lines rest none (inr (journal_ends r.journal)) r.lines.spelled in
    let tail : m.0 ++ rest ≡ r.tail = append_cancel_left text (m.0 ++ rest) r.tail (sym (append_assoc text m.0 rest) ∙ (ap (λ (u : List ℕ). u ++ rest) (sym m.1) ∙ r.lines.spelled)) in record {
      journal = r.journal;
      tail = m.0;
      lines = record {
        fits = r.lines.fits;
        spelled = m.1;
        behind = λ call more fits e. r.lines.behind call (more ++ rest) fits (sym tail ∙ (ap (λ (u : List ℕ). u ++ rest) e ∙ append_assoc (journal_line call) more rest));
      };
      unended = in_front m.0 rest (ap has_line_end tail ∙ r.unended);
      began = r.began;
      is = r.is;
      legal = r.legal;
    }
