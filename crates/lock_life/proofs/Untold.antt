-- What the locks inside were asked of lines that were answered and perhaps not reported, of which the last may have been lost.
use Rattle.std.proofs.Common.{◌≡◌, ℕ, Bool, true, false, List, [], ◌∷◌, ◌++◌, Option, refl, sym, ◌∙◌, ap, subst, inl, inr, append_assoc, append-nil, ◌⊎◌}
use Rattle.std.specs.List.{AllByRecursion}
use Rattle.std.proofs.lemmas.Bool.{false≢true}
use Rattle.disks.specs.Held.{Held}
use Rattle.line_service.specs.Answering.{IsLine, Answers}
use Rattle.line_service.specs.Stands.{by_stand, stand, Stand}
use Rattle.line_service.proofs.Standing.{same_stand}
use Rattle.segment_files.specs.Remarks.{without_remarks}
use Rattle.segment_files.specs.RemarkLaws.{AreLines}
use Rattle.segment_files.proofs.Remarked.{plain_then}
use Rattle.line_replica.specs.declared.replica.Replica.{Replica}
use Rattle.line_replica.specs.Log.{numbers_of, given, Numbers}
use Rattle.line_replica.specs.Reading.{heard}
use Rattle.line_replica.specs.Replies.{IsReplied, IsWhole, IsLost, IsAnsweredOrNot, input_of}
use Rattle.line_replica.proofs.Given.{answers_then}
use Rattle.lock_service.specs.declared.service.LockService.{LockService}
use Rattle.lock_journal.specs.declared.terms.Terms.{Terms}
use Rattle.lock_service.specs.Serving.{IsServed, IsKept}
use Rattle.lock_service.proofs.WholeTexts.{notes_of_lines}
use Rattle.lock_service.proofs.WithoutRemarks.{remarks_go, no_hash_noted}
use Rattle.lock_journal.proofs.Longer.{answered_lines_follow}
use Rattle.lock_journal.proofs.Replicas.{each_other}
use Rattle.lock_journal.proofs.WithoutRemarks.{parts}
use Rattle.lock_journal.specs.Begun.{HaveBegun, AreAnswered}
use Rattle.lock_journal.specs.Replicas.{others_of}
use Rattle.lock_life.proofs.Around.{all_taken, other_lines_are_replied}
use Rattle.lock_life.proofs.Parted.{part_so, SoFar, behind_left}
use Rattle.lock_life.specs.Runs.{Service, answering, inside}
use Rattle.lock_service.proofs.ServedLines.{served_lines_are_answered}

-- ---- locks stay kept, line by line

pub kept_after : (old new : Stand LockService) (lines : List (List ℕ)) (said noted : List ℕ) → IsKept old.service → Answers (by_stand IsServed) old lines said noted new → IsKept new.service
kept_after old new [] said noted k a = subst (λ (s : Stand LockService). IsKept s.service) (sym a.2) k
kept_after old new (line ∷ lines) said noted k a = kept_after a.0 new lines a.2 a.4 a.5.kept a.8

-- ---- a last line that was lost

-- the lines before it, and what the service inside did of it
record IsLostEnd (old new : Stand (Replica LockService)) (noted : List ℕ) : Type 0 where
  pub front : List (List ℕ)
  pub last : List ℕ
  pub mid : Stand (Replica LockService)
  pub said : List ℕ
  pub first : List ℕ
  pub note : List ℕ
  pub each : AllByRecursion IsLine front
  pub before : Answers (by_stand (IsReplied IsServed)) old front said first mid
  pub whole : mid.service.lost ≡ false
  pub answered : IsAnsweredOrNot IsServed mid.service.numbered.inner mid.files (input_of (heard last) last) note new.service.numbered.inner new.files
  pub noted_is : noted ≡ first ++ note

one_lost : (old new : Stand (Replica LockService)) (line said noted : List ℕ) → old.service.lost ≡ false → new.service.lost ≡ true →
    IsWhole IsServed old.service old.files line said noted new.service new.files ⊎ IsLost IsServed old.service old.files (input_of (heard line) line) said noted new.service new.files → IsLostEnd old new noted
one_lost old new line said noted whole lost (inl w) = absurd (false≢true (sym w.whole ∙ lost))
one_lost old new line said noted whole lost (inr l) = record { front = []; last = line; mid = old; said = []; first = []; note = noted; each = tt; before = (refl, refl, refl); whole = whole; answered = l.answered; noted_is = refl }

lost_end : (old new : Stand (Replica LockService)) (lines : List (List ℕ)) (said noted : List ℕ) → AllByRecursion IsLine lines → Answers (by_stand (IsReplied IsServed)) old lines said noted new → old.service.lost ≡ false → new.service.lost ≡ true → IsLostEnd old new noted
lost_end old new [] said noted all a whole lost = absurd (false≢true (sym whole ∙ (sym (ap (λ (s : Stand (Replica LockService)). s.service.lost) a.2) ∙ lost)))
lost_end old new (line ∷ []) said noted all a whole lost =
    let end : a.0.service.lost ≡ true = sym (ap (λ (s : Stand (Replica LockService)). s.service.lost) a.8.2) ∙ lost in
    let one = one_lost old a.0 line a.1 a.3 whole end a.5.answered in
    subst (λ (s : Stand (Replica LockService)). IsLostEnd old s noted) (sym a.8.2)
    (subst (λ (u : List ℕ). IsLostEnd old a.0 u) (sym (a.7 ∙ (ap (λ (u : List ℕ). a.3 ++ u) a.8.1 ∙ append-nil a.3))) one)
lost_end old new (line ∷ next ∷ lines) said noted all a whole lost =
    let more = lost_end a.0 new (next ∷ lines) a.2 a.4 all.1 a.8 a.8.5.before lost in record {
      front = line ∷ more.front;
      last = more.last;
      mid = more.mid;
      said = a.1 ++ more.said;
      first = a.3 ++ more.first;
      note = more.note;
      each = (all.0, more.each);
      before = (a.0, a.1, more.said, a.3, more.first, a.5, refl, refl, more.before);
      whole = more.whole;
      answered = more.answered;
      noted_is = a.7 ∙ (ap (λ (u : List ℕ). a.3 ++ u) more.noted_is ∙ sym (append_assoc a.3 more.first more.note));
    }

-- ---- what the locks inside were asked

-- After lines of a segment others were answered, with these notes: what the locks inside were asked and said, and what is
-- left of the notes without the remarks.
pub record AreAsked (start old new : Service) (notes : List ℕ) : Type 0 where
  pub asked : List (List ℕ)
  pub told : List ℕ
  pub inside_notes : List ℕ
  pub answered : AreAnswered (inside start).terms (inside old).segment asked told inside_notes (inside new).segment
  pub left : (rest : List ℕ) → without_remarks (notes ++ rest) ≡ inside_notes ++ without_remarks rest
  pub kept : IsKept (inside new)

-- what the service inside did of the last one
record IsDoneInside (old new : LockService) (was is : Option Held) (note : List ℕ) : Type 0 where
  pub lines : List (List ℕ)
  pub said : List ℕ
  pub answers : Answers (by_stand IsServed) (stand old was) lines said note (stand new is)

done_inside : (old new : LockService) (was is : Option Held) (line note : List ℕ) → IsAnsweredOrNot IsServed old was line note new is → IsDoneInside old new was is note
done_inside old new was is line note (inl n) = record { lines = []; said = []; answers = (refl, n.0, same_stand new old is was n.1 n.2) }
done_inside old new was is line note (inr a) = record { lines = line ∷ []; said = a.0; answers = (stand new is, a.0, [], note, [], a.1, sym (append-nil a.0), sym (append-nil note), (refl, refl, refl)) }

module _ (start old new : Service) (was is : Option Held) (lines more : List (List ℕ)) (replied unsaid noted notes : List ℕ) (begun : HaveBegun (inside start).segment.locks) (kept : IsKept (inside old)) (so_far : SoFar start old lines replied noted) (noting : (inside old).terms.noting ≡ true) (all : AllByRecursion IsLine more) (a : Answers (by_stand answering) (stand old was) more unsaid notes (stand new is)) where
  abbrev numbers : Numbers
  numbers = numbers_of old.inner.numbered.keys

  whole_so : new.inner.lost ≡ false → AreAsked start old new notes
  whole_so whole =
      let p = part_so old new was is more unsaid notes noting all a whole in
      let k = kept_after (stand (inside old) was) (stand (inside new) is) (given numbers (others_of more)) p.taken.told p.taken.inside kept p.taken.answered in
      let l = behind_left start old new was is lines more unsaid replied noted notes k.0 begun k.1 so_far p in
      record { asked = given numbers (others_of more); told = p.taken.told; inside_notes = p.taken.inside; answered = l.0; left = l.1; kept = k }

  lost_so : old.inner.lost ≡ false → new.inner.lost ≡ true → AreAsked start old new notes
  lost_so whole lost =
      let o = other_lines_are_replied old new was is more unsaid notes a in
      let e = lost_end (stand old.inner was) (stand new.inner is) (others_of more) o.0 notes (each_other more all) o.1 whole lost in
      let mid : Stand LockService = stand e.mid.service.numbered.inner e.mid.files in
      let t = all_taken old.inner e.mid.service was e.mid.files e.front e.said e.first e.each e.before e.whole in
      let d = done_inside e.mid.service.numbered.inner (inside new) e.mid.files is (input_of (heard e.last) e.last) e.note e.answered in
      let asked : List (List ℕ) = given numbers e.front ++ d.lines in
      let told : List ℕ = t.told ++ d.said in
      let both : List ℕ = t.inside ++ e.note in
      let one : List (List ℕ) = given (numbers_of start.inner.numbered.keys) lines in
      let x : Answers (by_stand IsServed) (stand (inside old) was) asked told both (stand (inside new) is) =
      answers_then (by_stand IsServed) (stand (inside old) was) mid (stand (inside new) is) (given numbers e.front) d.lines t.told d.said t.inside e.note t.answered d.answers in
      let k = kept_after (stand (inside old) was) (stand (inside new) is) asked told both kept x in
      let s = (served_lines_are_answered (inside old) (inside new) was is asked told both noting x).0 in
      let next : AreAnswered (inside start).terms (inside old).segment asked told both (inside new).segment = subst (λ (z : Terms). AreAnswered z (inside old).segment asked told both (inside new).segment) so_far.terms s in
      let follow = answered_lines_follow (inside start).terms (inside start).segment (inside old).segment (inside new).segment one asked so_far.told so_far.inside_noted told both so_far.answered next in
      let none = (parts so_far.inside_noted both (no_hash_noted (inside start) (inside new) k.0 (one ++ asked) (so_far.told ++ told) (so_far.inside_noted ++ both) begun k.1 follow)).1 in
      let each = parts t.inside e.note none in
      let ends : AreLines e.note = notes_of_lines mid (stand (inside new) is) d.lines d.said e.note d.answers in record {
        asked = asked;
        told = told;
        inside_notes = both;
        answered = next;
        left = λ rest.
            ap (λ (u : List ℕ). without_remarks (u ++ rest)) e.noted_is
            ∙ (ap without_remarks (append_assoc e.first e.note rest)
            ∙ (remarks_go numbers (stand (inside old) was) mid e.front t.inside e.first (e.note ++ rest) t.given_so each.0
            ∙ (ap (λ (u : List ℕ). t.inside ++ u) (plain_then e.note rest ends each.1)
            ∙ sym (append_assoc t.inside e.note (without_remarks rest)))));
        kept = k;
      }

  pub are_asked : old.inner.lost ≡ false → AreAsked start old new notes
  are_asked whole = by new.inner.lost refl
    where
      by : (b : Bool) → new.inner.lost ≡ b → AreAsked start old new notes
      by true lost = lost_so whole lost
      by false none = whole_so none
