-- Runs of a replica are runs of the locks inside.
use Rattle.std.proofs.Common.{◌≡◌, ℕ, Bool, true, false, List, [], ◌∷◌, ◌++◌, Option, refl, sym, ◌∙◌, ap, subst, inl, inr, cond, append-nil, ◌⊎◌}
use Rattle.std.specs.Prelude.{not}
use Rattle.std.specs.List.{AllByRecursion, filter}
use Rattle.disks.specs.Held.{Held}
use Rattle.line_service.specs.Answering.{IsLine, Answers}
use Rattle.line_service.specs.Stands.{by_stand, stand, Stand}
use Rattle.segment_files.specs.Remarks.{without_remarks, lines_in}
use Rattle.ring_service.specs.Recovered.{IsPrefix}
use Rattle.line_replica.specs.declared.replica.Replica.{Replica}
use Rattle.line_replica.specs.Replies.{IsReplied}
use Rattle.line_replica.specs.Log.{numbers_of, given, Numbers, given_of, numbers_after}
use Rattle.line_replica.specs.Noted.{AreGiven}
use Rattle.line_replica.specs.Reading.{heard}
use Rattle.line_replica.proofs.Given.{whole_line, whole_at, own_of, answers_then}
use Rattle.line_replica.proofs.Saying.{read}
use Rattle.lock_service.specs.declared.service.LockService.{LockService}
use Rattle.lock_journal.specs.declared.terms.Terms.{Terms}
use Rattle.lock_service.specs.Serving.{IsServed}
use Rattle.lock_service.specs.Remarked.{begun_with_remarks}
use Rattle.lock_service.specs.StateBack.{locks_in}
use Rattle.line_replica.specs.declared.restorable.Restorable.{Restorable}
use Rattle.line_replica.specs.State.{lines_of, is_state, IsStateTold}
use Rattle.lock_service.specs.State.{state_lines}
use Rattle.lock_service.proofs.WithoutRemarks.{lines_bring, remarks_go, no_hash_noted, begun_goes}
use Rattle.lock_journal.proofs.CutRemarks.{without_cut}
use Rattle.lock_journal.proofs.Longer.{answered_lines_follow}
use Rattle.lock_journal.proofs.WithoutRemarks.{parts}
use Rattle.lock_journal.specs.Begun.{begun_text, AreAnswered}
use Rattle.lock_journal.specs.Replicas.{AreToldAround, AreToldAfter}
use Rattle.lock_life.specs.Around.{OtherLinesAreReplied, ReplicaRunsAreStages}
use Rattle.lock_service.proofs.ServedLines.{served_lines_are_answered}

-- ---- lines

-- what the locks were given, said and noted, of lines of the replica
pub record AreTakenSo (numbers : Numbers) (old new : Stand LockService) (lines : List (List ℕ)) (said noted : List ℕ) : Type 0 where
  pub inside : List ℕ
  pub given_so : AreGiven IsServed IsLine numbers old lines inside noted new
  pub told : List ℕ
  pub answered : Answers (by_stand IsServed) old (given numbers lines) told inside new
  pub around : AreToldAround numbers lines said told

pub all_taken : (old new : Replica LockService) (was is : Option Held) (lines : List (List ℕ)) (said noted : List ℕ) → AllByRecursion IsLine lines → Answers (by_stand (IsReplied IsServed)) (stand old was) lines said noted (stand new is) → new.lost ≡ false →
    AreTakenSo (numbers_of old.numbered.keys) (stand old.numbered.inner was) (stand new.numbered.inner is) lines said noted
all_taken old new was is [] said noted all a whole =
    let e = ap (λ (s : Stand (Replica LockService)). stand s.service.numbered.inner s.files) a.2 in
    record { inside = []; given_so = (refl, a.1, e); told = []; answered = (refl, refl, e); around = (a.0, refl) }
all_taken old new was is (line ∷ lines) said noted all a whole =
    let mid = a.0 in
    let numbers = numbers_of old.numbered.keys in
    let w = whole_at IsServed mid.service new mid.files is lines a.2 a.4 a.8 whole in
    let brings = lines_bring old.running.since old.numbered.inner mid.service.numbered.inner was mid.files line a.1 all.0 in
    let now = read IsServed IsLine old mid.service was mid.files line a.1 a.3 brings (heard line) refl (whole_line IsServed old mid.service was mid.files line a.1 a.3 a.5 w) in
    let more = all_taken mid.service new mid.files is lines a.2 a.4 all.1 a.8 whole in
    let rest = subst (λ (n : Numbers). AreTakenSo n (stand mid.service.numbered.inner mid.files) (stand new.numbered.inner is) lines a.2 a.4) now.numbers_are more in record {
      inside = now.given_so.notes ++ rest.inside;
      given_so = (stand mid.service.numbered.inner mid.files, own_of (heard line) old.numbered.keys old.running.since a.1, a.3, a.4, rest.inside, now.given_so, refl, a.7, rest.given_so);
      told = now.given_so.told ++ rest.told;
      answered = answers_then (by_stand IsServed) (stand old.numbered.inner was) (stand mid.service.numbered.inner mid.files) (stand new.numbered.inner is) (given_of (heard line) numbers line) (given (numbers_after (heard line) numbers) lines) now.given_so.told rest.told now.given_so.notes rest.inside now.given_so.answered rest.answered;
      around = (a.1, now.given_so.told, a.2, rest.told, a.6, refl, now.says, rest.around);
    }

pub terms_stay : (old new : Stand LockService) (lines : List (List ℕ)) (said noted : List ℕ) → Answers (by_stand IsServed) old lines said noted new → new.service.terms ≡ old.service.terms
terms_stay old new [] said noted a = ap (λ (s : Stand LockService). s.service.terms) a.2
terms_stay old new (line ∷ lines) said noted a = terms_stay a.0 new lines a.2 a.4 a.8 ∙ a.5.terms

pub without_nothing : without_remarks [] ≡ []
unfolding without_remarks lines_in
without_nothing = refl

pub replica_runs_are_stages : ReplicaRunsAreStages
replica_runs_are_stages r k =
    let s : LockService = r.old.numbered.inner in
    let m : LockService = r.mid.numbered.inner in
    let n : LockService = r.new.numbered.inner in
    let numbers : Numbers = numbers_of r.old.numbered.keys in
    let later : Numbers = numbers_of r.mid.numbered.keys in
    let kept_whole = whole_at IsServed r.mid r.new k.between k.is r.untold k.unsaid k.notes k.more k.whole in
    let one = all_taken r.old r.mid k.was k.between r.told k.said k.noted k.each_told k.answered kept_whole in
    let two = all_taken r.mid r.new k.between k.is r.untold k.unsaid k.notes k.each_untold k.more k.whole in
    let same : m.terms ≡ s.terms = terms_stay (stand s k.was) (stand m k.between) (given numbers r.told) one.told one.inside one.answered in
    let first : AreAnswered s.terms s.segment (given numbers r.told) one.told one.inside m.segment = (served_lines_are_answered s m k.was k.between (given numbers r.told) one.told one.inside k.noting one.answered).0 in
    let second_of : AreAnswered m.terms m.segment (given later r.untold) two.told two.inside n.segment = (served_lines_are_answered m n k.between k.is (given later r.untold) two.told two.inside (ap (λ (t : Terms). t.noting) same ∙ k.noting) two.answered).0 in
    let second : AreAnswered s.terms m.segment (given later r.untold) two.told two.inside n.segment = subst (λ (t : Terms). AreAnswered t m.segment (given later r.untold) two.told two.inside n.segment) same second_of in
    let all = answered_lines_follow s.terms s.segment m.segment n.segment (given numbers r.told) (given later r.untold) one.told one.inside two.told two.inside first second in
    let plain = parts one.inside two.inside (no_hash_noted s n k.entries (given numbers r.told ++ given later r.untold) (one.told ++ two.told) (one.inside ++ two.inside) k.begun k.right all) in
    let begun : List ℕ = begun_text (locks_in r.old) in
    let go_one : (rest : List ℕ) → without_remarks (k.noted ++ rest) ≡ one.inside ++ without_remarks rest = λ rest. remarks_go numbers (stand s k.was) (stand m k.between) r.told one.inside k.noted rest one.given_so plain.0 in
    let go_two : (rest : List ℕ) → without_remarks (k.notes ++ rest) ≡ two.inside ++ without_remarks rest = λ rest. remarks_go later (stand m k.between) (stand n k.is) r.untold two.inside k.notes rest two.given_so plain.1 in
    let of_told : without_remarks k.noted ≡ one.inside = ap without_remarks (sym (append-nil k.noted)) ∙ (go_one [] ∙ (ap (λ (u : List ℕ). one.inside ++ u) without_nothing ∙ append-nil one.inside)) in
    let of_untold : without_remarks k.notes ≡ two.inside = ap without_remarks (sym (append-nil k.notes)) ∙ (go_two [] ∙ (ap (λ (u : List ℕ). two.inside ++ u) without_nothing ∙ append-nil two.inside)) in
    let front : without_remarks (begun_with_remarks r.old ++ k.noted) ≡ begun ++ one.inside = begun_goes r.old k.noted k.begun k.sound ∙ ap (λ (u : List ℕ). begun ++ u) of_told in
    let whole : without_remarks (begun_with_remarks r.old ++ (k.noted ++ k.notes)) ≡ begun ++ (one.inside ++ two.inside) =
    begun_goes r.old (k.noted ++ k.notes) k.begun k.sound ∙ (ap (λ (u : List ℕ). begun ++ u) (go_one k.notes) ∙ ap (λ (u : List ℕ). begun ++ (one.inside ++ u)) of_untold) in (
      one.told,
      k.said,
      record {
        said = one.told;
        noted = one.inside;
        unsaid = two.told;
        notes = two.inside;
        entries = k.entries;
        begun = k.begun;
        answered = first;
        more = second;
        right = k.right;
        plain = k.plain;
        out_is = ([], sym (append-nil one.told));
        has_told = subst (λ (u : List ℕ). IsPrefix u (without_remarks r.journal)) front (without_cut (begun_with_remarks r.old ++ k.noted) r.journal k.has_told);
        no_more = subst (λ (u : List ℕ). IsPrefix (without_remarks r.journal) u) whole (without_cut r.journal (begun_with_remarks r.old ++ (k.noted ++ k.notes)) k.no_more);
      },
      k.out_is,
      one.around,
    )

-- ---- lines of which some ask for the state

-- what the replica inside answered of lines
record AreOthers (b : Bool) (old : Stand (Replica LockService)) (line : List ℕ) (lines : List (List ℕ)) (said noted : List ℕ) (new : Stand (Replica LockService)) : Type 0 where
  pub told : List ℕ
  pub answered : Answers (by_stand (IsReplied IsServed)) old (cond (not b) (line ∷ filter (λ line. not (is_state line)) lines) (filter (λ line. not (is_state line)) lines)) told noted new
  pub behind : (first inner later more : List ℕ) × (said ≡ first ++ later) × (told ≡ inner ++ more) × (((b ≡ true) × (inner ≡ [])) ⊎ (inner ≡ first)) × AreToldAfter lines later more

abbrev Inside : Stand (Restorable (Replica LockService)) → Stand (Replica LockService)
Inside s = stand s.service.inner s.files

other_line : (b : Bool) (old mid : Stand (Restorable (Replica LockService))) (new : Stand (Replica LockService)) (line : List ℕ) (lines : List (List ℕ)) (said noted first later note notes told : List ℕ) →
    cond b (IsStateTold (lines_of state_lines old.service.inner) old.service old.files first note mid.service mid.files) (IsReplied IsServed old.service.inner old.files line first note mid.service.inner mid.files) →
    said ≡ first ++ later → noted ≡ note ++ notes → Answers (by_stand (IsReplied IsServed)) (Inside mid) (filter (λ line. not (is_state line)) lines) told notes new → AreToldAfter lines later told → AreOthers b (Inside old) line lines said noted new
other_line true old mid new line lines said noted first later note notes told t s n rest behind_ =
    let same : Inside mid ≡ Inside old = ap (λ (x : Restorable (Replica LockService)). stand x.inner mid.files) t.same ∙ ap (λ (x : Option Held). stand old.service.inner x) t.files in
    let all : noted ≡ notes = n ∙ ap (λ (u : List ℕ). u ++ notes) t.notes in record {
      told = told;
      answered = subst (λ (u : List ℕ). Answers (by_stand (IsReplied IsServed)) (Inside old) (filter (λ line. not (is_state line)) lines) told u new) (sym all)
          (subst (λ (x : Stand (Replica LockService)). Answers (by_stand (IsReplied IsServed)) x (filter (λ line. not (is_state line)) lines) told notes new) same rest);
      behind = (first, [], later, told, s, refl, inl (refl, refl), behind_);
    }
other_line false old mid new line lines said noted first later note notes told t s n rest behind_ = record {
  told = first ++ told;
  answered = (Inside mid, first, told, note, notes, t, refl, n, rest);
  behind = (first, first, later, told, s, refl, inr refl, behind_);
}

pub other_lines_are_replied : OtherLinesAreReplied
other_lines_are_replied old new was is [] said noted a =
    ([], (refl, a.1, ap (λ (s : Stand (Restorable (Replica LockService))). Inside s) a.2), (a.0, refl))
other_lines_are_replied old new was is (line ∷ lines) said noted a =
    let mid = a.0 in
    let rest = other_lines_are_replied mid.service new mid.files is lines a.2 a.4 a.8 in
    let o = other_line (is_state line) (stand old was) mid (stand new.inner is) line lines said noted a.1 a.2 a.3 a.4 rest.0 a.5 a.6 a.7 rest.1 rest.2 in
    (o.told, o.answered, o.behind)
