-- What the locks inside were given and said, of lines of a service that were delivered in parts.
use Rattle.std.proofs.Common.{◌≡◌, ℕ, true, false, List, [], ◌∷◌, ◌++◌, Option, refl, sym, ◌∙◌, ap, subst, inl, append_assoc}
use Rattle.std.specs.List.{AllByRecursion}
use Rattle.disks.specs.Held.{Held}
use Rattle.line_service.specs.Answering.{IsLine, Answers}
use Rattle.line_service.specs.Stands.{by_stand, stand, Stand}
use Rattle.segment_files.specs.Remarks.{without_remarks}
use Rattle.segment_files.specs.RemarkLaws.{AreLines}
use Rattle.line_replica.specs.declared.replica.Replica.{Replica}
use Rattle.line_replica.specs.Replies.{IsReplied}
use Rattle.line_replica.specs.Log.{numbers_of, given, Numbers, numbers_after}
use Rattle.line_replica.specs.Reading.{heard}
use Rattle.line_replica.proofs.Given.{whole_line, whole_at}
use Rattle.line_replica.proofs.Saying.{read}
use Rattle.held_locks.specs.Kept.{AreKept}
use Rattle.lock_service.specs.declared.service.LockService.{LockService}
use Rattle.lock_journal.specs.declared.terms.Terms.{Terms}
use Rattle.lock_service.specs.Serving.{IsServed}
use Rattle.lock_service.proofs.WithoutRemarks.{lines_bring, remarks_go, noted_ends, no_hash_noted}
use Rattle.lock_journal.proofs.Longer.{answered_lines_follow}
use Rattle.lock_journal.proofs.Replicas.{numbers_all, given_then, around_then, each_other}
use Rattle.lock_journal.proofs.WholeTexts.{of_both}
use Rattle.lock_journal.proofs.WithoutRemarks.{parts}
use Rattle.lock_journal.specs.Begun.{HaveBegun, AreAnswered}
use Rattle.lock_journal.specs.Counting.{SegmentView}
use Rattle.lock_journal.specs.Replicas.{AreToldAround, AreToldAfter, others_of}
use Rattle.lock_life.proofs.Around.{AreTakenSo, all_taken, terms_stay, other_lines_are_replied}
use Rattle.lock_life.proofs.LifeTelling.{CanTell, tells_all}
use Rattle.lock_life.specs.Runs.{Service, answering, inside}
use Rattle.lock_service.proofs.ServedLines.{served_lines_are_answered}

keys_all : (old new : Replica LockService) (was is : Option Held) (lines : List (List ℕ)) (said noted : List ℕ) → AllByRecursion IsLine lines → Answers (by_stand (IsReplied IsServed)) (stand old was) lines said noted (stand new is) → new.lost ≡ false →
    numbers_of new.numbered.keys ≡ numbers_all (numbers_of old.numbered.keys) lines
keys_all old new was is [] said noted all a whole = ap (λ (s : Stand (Replica LockService)). numbers_of s.service.numbered.keys) a.2
keys_all old new was is (line ∷ lines) said noted all a whole =
    let mid = a.0 in
    let w = whole_at IsServed mid.service new mid.files is lines a.2 a.4 a.8 whole in
    let brings = lines_bring old.running.since old.numbered.inner mid.service.numbered.inner was mid.files line a.1 all.0 in
    let now = read IsServed IsLine old mid.service was mid.files line a.1 a.3 brings (heard line) refl (whole_line IsServed old mid.service was mid.files line a.1 a.3 a.5 w) in
    keys_all mid.service new mid.files is lines a.2 a.4 all.1 a.8 whole ∙ ap (λ (n : Numbers). numbers_all n lines) now.numbers_are

-- ---- lines of one part

-- what the replica said of them, and the locks inside
pub record IsPartSo (old new : Service) (was is : Option Held) (lines : List (List ℕ)) (said noted : List ℕ) : Type 0 where
  pub replied : List ℕ
  pub behind : AreToldAfter lines said replied
  pub taken : AreTakenSo (numbers_of old.inner.numbered.keys) (stand (inside old) was) (stand (inside new) is) (others_of lines) replied noted
  pub numbers : numbers_of new.inner.numbered.keys ≡ numbers_all (numbers_of old.inner.numbered.keys) (others_of lines)
  pub answered : AreAnswered (inside old).terms (inside old).segment (given (numbers_of old.inner.numbered.keys) (others_of lines)) taken.told taken.inside (inside new).segment
  pub terms : (inside new).terms ≡ (inside old).terms
  pub files : is ≡ was
  pub tells : CanTell old.inner → CanTell new.inner

pub part_so : (old new : Service) (was is : Option Held) (lines : List (List ℕ)) (said noted : List ℕ) → (inside old).terms.noting ≡ true → AllByRecursion IsLine lines → Answers (by_stand answering) (stand old was) lines said noted (stand new is) → new.inner.lost ≡ false →
    IsPartSo old new was is lines said noted
part_so old new was is lines said noted noting all a whole =
    let o = other_lines_are_replied old new was is lines said noted a in
    let each = each_other lines all in
    let t = all_taken old.inner new.inner was is (others_of lines) o.0 noted each o.1 whole in
    let g : List (List ℕ) = given (numbers_of old.inner.numbered.keys) (others_of lines) in
    let s = served_lines_are_answered (inside old) (inside new) was is g t.told t.inside noting t.answered in record {
      replied = o.0;
      behind = o.2;
      taken = t;
      numbers = keys_all old.inner new.inner was is (others_of lines) o.0 noted each o.1 whole;
      answered = s.0;
      terms = terms_stay (stand (inside old) was) (stand (inside new) is) g t.told t.inside t.answered;
      files = s.1;
      tells = tells_all old.inner new.inner was is (others_of lines) o.0 noted each o.1 whole;
    }

-- no answer was lost before them
pub whole_before : (old new : Service) (was is : Option Held) (lines : List (List ℕ)) (said noted : List ℕ) → Answers (by_stand answering) (stand old was) lines said noted (stand new is) → new.inner.lost ≡ false → old.inner.lost ≡ false
whole_before old new was is lines said noted a whole =
    let o = other_lines_are_replied old new was is lines said noted a in
    whole_at IsServed old.inner new.inner was is (others_of lines) o.0 noted o.1 whole

-- ---- parts of one segment, so far

-- From the service with which a segment began: these lines, of which the replica said and noted this.
pub record SoFar (start now : Service) (lines : List (List ℕ)) (replied noted : List ℕ) : Type 0 where
  pub inside_noted : List ℕ
  pub told : List ℕ
  pub answered : AreAnswered (inside start).terms (inside start).segment (given (numbers_of start.inner.numbered.keys) lines) told inside_noted (inside now).segment
  pub terms : (inside now).terms ≡ (inside start).terms
  pub left : (rest : List ℕ) → without_remarks (noted ++ rest) ≡ inside_noted ++ without_remarks rest
  pub ends : AreLines noted
  pub around : AreToldAround (numbers_of start.inner.numbered.keys) lines replied told
  pub numbers : numbers_of now.inner.numbered.keys ≡ numbers_all (numbers_of start.inner.numbered.keys) lines

pub none_so_far : (start : Service) → (inside start).terms.noting ≡ true → SoFar start start [] [] []
none_so_far start noting = record {
  inside_noted = [];
  told = [];
  answered = record { noting = noting; answers = (refl, refl, refl) };
  terms = refl;
  left = λ rest. refl;
  ends = inl refl;
  around = (refl, refl);
  numbers = refl;
}

-- nothing has changed but the stage of the locks' service
pub record IsOn (old new : Service) : Type 0 where
  pub segment : (inside new).segment ≡ (inside old).segment
  pub terms : (inside new).terms ≡ (inside old).terms
  pub numbers : numbers_of new.inner.numbered.keys ≡ numbers_of old.inner.numbered.keys

pub goes_on : (start old new : Service) (lines : List (List ℕ)) (replied noted : List ℕ) → SoFar start old lines replied noted → IsOn old new → SoFar start new lines replied noted
goes_on start old new lines replied noted s o = record {
  inside_noted = s.inside_noted;
  told = s.told;
  answered = subst (λ (v : SegmentView). AreAnswered (inside start).terms (inside start).segment (given (numbers_of start.inner.numbered.keys) lines) s.told s.inside_noted v) (sym o.segment) s.answered;
  terms = o.terms ∙ s.terms;
  left = s.left;
  ends = s.ends;
  around = s.around;
  numbers = o.numbers ∙ s.numbers;
}

-- what is left of the notes of lines that are answered after these, without their remarks
pub behind_left : (start old new : Service) (was is : Option Held) (lines more : List (List ℕ)) (said replied noted notes : List ℕ) (entries : List (ℕ × ℕ)) → HaveBegun (inside start).segment.locks → AreKept (inside new).segment.locks entries →
    SoFar start old lines replied noted → (p : IsPartSo old new was is more said notes) →
    AreAnswered (inside start).terms (inside old).segment (given (numbers_of old.inner.numbered.keys) (others_of more)) p.taken.told p.taken.inside (inside new).segment × ((rest : List ℕ) → without_remarks (notes ++ rest) ≡ p.taken.inside ++ without_remarks rest)
behind_left start old new was is lines more said replied noted notes entries begun kept s p =
    let n : Numbers = numbers_of start.inner.numbered.keys in
    let later : Numbers = numbers_of old.inner.numbered.keys in
    let one : List (List ℕ) = given n lines in
    let two : List (List ℕ) = given later (others_of more) in
    let next : AreAnswered (inside start).terms (inside old).segment two p.taken.told p.taken.inside (inside new).segment =
    subst (λ (t : Terms). AreAnswered t (inside old).segment two p.taken.told p.taken.inside (inside new).segment) s.terms p.answered in
    let all = answered_lines_follow (inside start).terms (inside start).segment (inside old).segment (inside new).segment one two s.told s.inside_noted p.taken.told p.taken.inside s.answered next in
    let none = parts s.inside_noted p.taken.inside (no_hash_noted (inside start) (inside new) entries (one ++ two) (s.told ++ p.taken.told) (s.inside_noted ++ p.taken.inside) begun kept all) in
    (next, λ rest. remarks_go later (stand (inside old) was) (stand (inside new) is) (others_of more) p.taken.inside notes rest p.taken.given_so none.1)

-- a part more
pub part_more : (start old new : Service) (was is : Option Held) (lines more : List (List ℕ)) (said replied noted notes : List ℕ) (entries : List (ℕ × ℕ)) → HaveBegun (inside start).segment.locks → AreKept (inside new).segment.locks entries →
    SoFar start old lines replied noted → (p : IsPartSo old new was is more said notes) → SoFar start new (lines ++ others_of more) (replied ++ p.replied) (noted ++ notes)
part_more start old new was is lines more said replied noted notes entries begun kept s p =
    let n : Numbers = numbers_of start.inner.numbered.keys in
    let later : Numbers = numbers_of old.inner.numbered.keys in
    let one : List (List ℕ) = given n lines in
    let two : List (List ℕ) = given later (others_of more) in
    let b = behind_left start old new was is lines more said replied noted notes entries begun kept s p in
    let all = answered_lines_follow (inside start).terms (inside start).segment (inside old).segment (inside new).segment one two s.told s.inside_noted p.taken.told p.taken.inside s.answered b.0 in
    let joined : given n (lines ++ others_of more) ≡ one ++ two = given_then n lines (others_of more) ∙ ap (λ (m : Numbers). one ++ given m (others_of more)) (sym s.numbers) in record {
      inside_noted = s.inside_noted ++ p.taken.inside;
      told = s.told ++ p.taken.told;
      answered = subst (λ (ls : List (List ℕ)). AreAnswered (inside start).terms (inside start).segment ls (s.told ++ p.taken.told) (s.inside_noted ++ p.taken.inside) (inside new).segment) (sym joined) all;
      terms = p.terms ∙ s.terms;
      left = λ rest.
          ap without_remarks (append_assoc noted notes rest)
          ∙ (s.left (notes ++ rest)
          ∙ (ap (λ (u : List ℕ). s.inside_noted ++ u) (b.1 rest)
          ∙ sym (append_assoc s.inside_noted p.taken.inside (without_remarks rest))));
      ends = of_both noted notes s.ends (noted_ends later (stand (inside old) was) (stand (inside new) is) (others_of more) p.taken.inside notes p.taken.given_so);
      around = around_then n lines (others_of more) replied p.replied s.told p.taken.told s.around (subst (λ (m : Numbers). AreToldAround m (others_of more) p.replied p.taken.told) s.numbers p.taken.around);
      numbers = p.numbers ∙ (ap (λ (m : Numbers). numbers_all m (others_of more)) s.numbers ∙ sym (all_then n lines (others_of more)));
    }
  where
    all_then : (n : Numbers) (xs ys : List (List ℕ)) → numbers_all n (xs ++ ys) ≡ numbers_all (numbers_all n xs) ys
    all_then n [] ys = refl
    all_then n (x ∷ xs) ys = all_then (numbers_after (heard x) n) xs ys
