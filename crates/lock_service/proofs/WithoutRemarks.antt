-- What is left of a replica's segment without its remarks.
use Rattle.std.proofs.Common.{◌≡◌, ℕ, List, [], ◌∷◌, ◌++◌, length, inl, inr, refl, ap, sym, subst, ◌∙◌, append_assoc, arith}
use Rattle.std.specs.Prelude.{codes}
use Rattle.std.specs.List.{AllByRecursion}
use Rattle.text_lines.specs.Spelling.{spaced}
use Rattle.text_lines.specs.LongNumbers.{order_at}
use Rattle.line_service.specs.Answering.{IsLine}
use Rattle.line_service.specs.Stands.{Stand, stand}
use Rattle.saved_history.specs.Versions.{latest_version}
use Rattle.saved_history.specs.Spelling.{text}
use Rattle.segment_files.specs.RemarkLaws.{AreLines}
use Rattle.segment_files.specs.Remarks.{without_remarks}
use Rattle.segment_files.proofs.Remarked.{HasNoHash}
use Rattle.segment_files.proofs.Hashless.{no_hash_head}
use Rattle.line_replica.specs.declared.replica.Replica.{Replica}
use Rattle.line_replica.specs.Keys.{first_line, line_to_asker}
use Rattle.line_replica.specs.Log.{Numbers, numbers_of, given, given_of, numbers_after}
use Rattle.line_replica.specs.Noted.{AreGiven}
use Rattle.line_replica.specs.Replies.{IsReplied}
use Rattle.line_replica.specs.Reading.{Tagged, Place, Digest, heard, is_to_asker, kept_text}
use Rattle.line_replica.specs.Running.{next_of}
use Rattle.line_replica.specs.State.{did_text, own_lines, remarks_of}
use Rattle.line_replica.proofs.Given.{BringAll, taken, given_inside}
use Rattle.lock_service.specs.declared.service.LockService.{LockService}
use Rattle.lock_service.specs.Serving.{IsServed}
use Rattle.held_locks.specs.Kept.{AreKept}
use Rattle.lock_service.specs.Remarked.{begun_with_remarks, AreReplied, LocksOfReplicasComeBack}
use Rattle.lock_service.specs.StateBack.{locks_in}
use Rattle.lock_service.proofs.WholeTexts.{of_lines, notes_of_lines}
use Rattle.lock_journal.proofs.Chains.{chain_fits}
use Rattle.lock_journal.proofs.Heard.{IsOfKey, IsReadSo}
use Rattle.lock_journal.proofs.LineParts.{line_after, spaced_ends}
use Rattle.lock_journal.proofs.Longer.{noted_lines}
use Rattle.lock_journal.proofs.Recovering.{begun_few, followed_begun, kept_bounded}
use Rattle.lock_journal.proofs.Restarting.{locks_come_back}
use Rattle.lock_journal.proofs.SoundKeys.{text_kept, did_is, next_fits, key_is_line, word_ends, digest_is_line, own_lines_are_lines}
use Rattle.lock_journal.proofs.WholeTexts.{of_both, first_of_lines}
use Rattle.lock_journal.proofs.WithoutRemarks.{parts, head_ends, torn_none, remark_lines, one_goes, first_is_line, if_to_asker, read_as, no_hash_calls}
use Rattle.lock_journal.specs.Begun.{begun_text, HaveBegun, AreAnswered}
use Rattle.lock_journal.specs.KeysBack.{IsSound}
use Rattle.lock_journal.specs.Recovered.{ComeBack}
use Rattle.lock_journal.specs.Segments.{rings_of, content_of}
use Rattle.lock_service.proofs.ServedLines.{served_lines_are_answered}

pub lines_bring : BringAll IsServed IsLine IsLine
lines_bring since old new was is line said is_line = record {
  done = λ tag rest inside e a.
      let of : IsOfKey tag.key tag.number rest line = read_as line (Tagged tag rest) e in
      line_after (spaced tag.key) _ (spaced_ends tag.key of.key_small)
      (line_after (spaced tag.number) _ (spaced_ends tag.number of.number_small)
      (line_after (codes "did ") (did_text (line_to_asker rest said)) word_ends (first_is_line (line_to_asker rest said) (if_to_asker (is_to_asker (order_at 32 rest) said) (first_line said) (first_of_lines said (of_lines old new was is rest said inside a).told)))));
  did = λ tag rest text e d.
      let of : IsOfKey tag.key tag.number rest line = read_as line (Tagged tag rest) e in
      let spelled : IsOfKey tag.key tag.number (codes "did " ++ text) line = subst (λ (u : List ℕ). IsOfKey tag.key tag.number u line) (did_is rest text d) of in
      key_is_line (tag.key, record { number = tag.number; first = kept_text text }) (text_kept tag.key tag.number text line is_line spelled);
  forgets = λ tag rest e.
      let of : IsOfKey tag.key tag.number rest line = read_as line (Tagged tag rest) e in
      line_after (spaced tag.key) _ (spaced_ends tag.key of.key_small) (line_after (spaced tag.number) (codes "forget\n") (spaced_ends tag.number of.number_small) forget_word);
  place = λ place e. digest_is_line place (next_of since) (read_as line (Place place) e) (next_fits since);
  digest = λ place digest e. let r : IsReadSo line (Digest place digest) = read_as line (Digest place digest) e in digest_is_line place digest r.0 r.1;
}
  where
    forget_word : IsLine (codes "forget\n")
    forget_word = ((λ e. omega (arith, e)), ((λ e. omega (arith, e)), ((λ e. omega (arith, e)), ((λ e. omega (arith, e)), ((λ e. omega (arith, e)), ((λ e. omega (arith, e)), refl))))))

pub remarks_go : (numbers : Numbers) (old new : Stand LockService) (lines : List (List ℕ)) (inside noted rest : List ℕ) → AreGiven IsServed IsLine numbers old lines inside noted new → HasNoHash inside → without_remarks (noted ++ rest) ≡ inside ++ without_remarks rest
remarks_go numbers old new [] inside noted rest g none =
    ap (λ (u : List ℕ). without_remarks (u ++ rest)) g.1 ∙ ap (λ (u : List ℕ). u ++ without_remarks rest) (sym g.0)
remarks_go numbers old new (line ∷ lines) inside noted rest g none =
    let one = g.5 in
    let p = parts one.notes g.4 (subst (λ (u : List ℕ). HasNoHash u) g.6 none) in
    let more = remarks_go (numbers_after (heard line) numbers) g.0 new lines g.4 g.3 rest g.8 p.1 in
    ap (λ (u : List ℕ). without_remarks (u ++ rest)) g.7
    ∙ (ap without_remarks (append_assoc g.2 g.3 rest)
    ∙ (ap (λ (u : List ℕ). without_remarks (u ++ (g.3 ++ rest))) one.noted_are
    ∙ (one_goes one.notes (g.3 ++ rest) g.1 (notes_of_lines old g.0 (given_of (heard line) numbers line) one.told one.notes one.answered) p.0 one.each
    ∙ (ap (λ (u : List ℕ). one.notes ++ u) more
    ∙ (sym (append_assoc one.notes g.4 (without_remarks rest)) ∙ ap (λ (u : List ℕ). u ++ without_remarks rest) (sym g.6))))))

pub noted_ends : (numbers : Numbers) (old new : Stand LockService) (lines : List (List ℕ)) (inside noted : List ℕ) → AreGiven IsServed IsLine numbers old lines inside noted new → AreLines noted
noted_ends numbers old new [] inside noted g = inl g.1
noted_ends numbers old new (line ∷ lines) inside noted g =
    let one = g.5 in
    let ends : AreLines one.notes = notes_of_lines old g.0 (given_of (heard line) numbers line) one.told one.notes one.answered in
    let first : AreLines g.2 = subst (λ (u : List ℕ). AreLines u) (sym one.noted_are) (of_both one.notes (remarks_of g.1) ends (remark_lines g.1 one.each)) in
    subst (λ (u : List ℕ). AreLines u) (sym g.7) (of_both g.2 g.3 first (noted_ends (numbers_after (heard line) numbers) g.0 new lines g.4 g.3 g.8))

pub begun_ends : (r : Replica LockService) → AreLines (begun_text (locks_in r))
begun_ends r = inr (head_ends (content_of (locks_in r)))

pub begun_no_hash : (r : Replica LockService) → HaveBegun (locks_in r) → HasNoHash (begun_text (locks_in r))
begun_no_hash r begun = no_hash_head (content_of (locks_in r)) begun.text

pub begun_goes_by : (old : Replica LockService) (rest : List ℕ) → HaveBegun (locks_in old) → AllByRecursion IsLine (own_lines old) → without_remarks (begun_with_remarks old ++ rest) ≡ begun_text (locks_in old) ++ without_remarks rest
begun_goes_by old rest begun lines = one_goes (begun_text (locks_in old)) rest (own_lines old) (begun_ends old) (begun_no_hash old begun) lines

pub begun_goes : (old : Replica LockService) (rest : List ℕ) → HaveBegun (locks_in old) → IsSound old → without_remarks (begun_with_remarks old ++ rest) ≡ begun_text (locks_in old) ++ without_remarks rest
begun_goes old rest begun sound = begun_goes_by old rest begun (own_lines_are_lines IsServed old sound)

-- the notes of locks have no #
pub no_hash_noted : (old new : LockService) (entries : List (ℕ × ℕ)) (lines : List (List ℕ)) (said noted : List ℕ) → HaveBegun old.segment.locks → AreKept new.segment.locks entries → AreAnswered old.terms old.segment lines said noted new.segment → HasNoHash noted
no_hash_noted old new entries lines said noted begun kept a =
    let locks = old.segment.locks in
    let rings = rings_of locks in
    let n = (noted_lines old.terms rings old.segment new.segment lines said noted (begun_few locks begun) (followed_begun locks begun) a.noting a.answers (kept_bounded new.segment.locks entries kept)).notes in
    subst (λ (u : List ℕ). HasNoHash u) (sym n.lines) (no_hash_calls latest_version (length rings) n.calls (chain_fits rings n.behind n.calls n.chain))

-- what the locks were given and have noted, and what is left of the notes without the remarks
pub record IsInside (old : Replica LockService) (lines : List (List ℕ)) (noted : List ℕ) (new : Replica LockService) : Type 0 where
  pub given_lines : List (List ℕ)
  pub told : List ℕ
  pub inside : List ℕ
  pub answered : AreAnswered old.numbered.inner.terms old.numbered.inner.segment given_lines told inside new.numbered.inner.segment
  pub left : (rest : List ℕ) → without_remarks (noted ++ rest) ≡ inside ++ without_remarks rest

pub is_inside : (old new : Replica LockService) (entries : List (ℕ × ℕ)) (lines : List (List ℕ)) (said noted : List ℕ) → AreReplied (IsReplied IsServed) old lines said noted new → AreKept (locks_in new) entries → IsInside old lines noted new
is_inside old new entries lines said noted a kept =
    let s = old.numbered.inner in
    let n = new.numbered.inner in
    let numbers = numbers_of old.numbered.keys in
    let t = taken IsServed IsLine IsLine lines_bring old new a.was a.is lines said noted a.each a.answers a.whole in
    let g = given_inside IsServed IsLine numbers (stand s a.was) (stand n a.is) lines t.0 noted t.1 in
    let b = (served_lines_are_answered s n a.was a.is (given numbers lines) g.0 t.0 a.noting g.1).0 in
    record {
      given_lines = given numbers lines;
      told = g.0;
      inside = t.0;
      answered = b;
      left = λ rest. remarks_go numbers (stand s a.was) (stand n a.is) lines t.0 noted rest t.1 (no_hash_noted s n entries (given numbers lines) g.0 t.0 a.begun kept b);
    }

pub locks_of_replicas : LocksOfReplicasComeBack
locks_of_replicas old new entries lines said noted torn a kept none =
    let i = is_inside old new entries lines said noted a kept in
    let begun = begun_text (locks_in old) in
    let text : without_remarks (begun_with_remarks old ++ (noted ++ torn)) ≡ begun ++ (i.inside ++ without_remarks torn) = begun_goes old (noted ++ torn) a.begun a.sound ∙ ap (λ (u : List ℕ). begun ++ u) (i.left torn) in
    subst (λ (u : List ℕ). ComeBack (locks_in old) (locks_in new) u) (sym text)
    (locks_come_back old.numbered.inner.terms old.numbered.inner.segment new.numbered.inner.segment entries i.given_lines i.told i.inside (without_remarks torn) a.begun i.answered kept (torn_none torn none))
