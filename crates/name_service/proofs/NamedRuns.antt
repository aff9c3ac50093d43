-- Runs of a replica of names are runs of the names inside.
use Rattle.std.proofs.Common.{◌≡◌, ℕ, false, List, [], ◌∷◌, ◌++◌, Option, refl, sym, ap, subst, ◌∙◌}
use Rattle.std.specs.List.{AllByRecursion}
use Rattle.disks.specs.Held.{Held}
use Rattle.line_service.specs.Answering.{IsLine, Answers}
use Rattle.line_service.specs.Stands.{Stand, by_stand, stand}
use Rattle.segment_files.specs.Remarks.{without_remarks}
use Rattle.segment_files.proofs.Remarked.{without_append}
use Rattle.ring_service.specs.Recovered.{IsPrefix}
use Rattle.line_replica.specs.declared.replica.Replica.{Replica}
use Rattle.line_replica.specs.Log.{Numbers, numbers_of, given, given_of, numbers_after}
use Rattle.line_replica.specs.Noted.{AreGiven}
use Rattle.line_replica.specs.Reading.{heard}
use Rattle.line_replica.specs.Replies.{IsReplied}
use Rattle.line_replica.proofs.Given.{own_of, answers_then, whole_at, whole_line}
use Rattle.line_replica.proofs.Saying.{read}
use Rattle.lock_journal.specs.Replicas.{AreToldAround}
use Rattle.lock_journal.specs.Begun.{begun_text}
use Rattle.lock_journal.proofs.CutRemarks.{without_cut}
use Rattle.lock_journal.proofs.Keeping.{nothing_told_is_lost}
use Rattle.name_service.specs.declared.service.NameService.{NameService}
use Rattle.name_service.specs.declared.service.NameTerms.{NameTerms}
use Rattle.name_service.specs.Serving.{IsNameServed}
use Rattle.name_service.specs.RingLines.{ring_segment}
use Rattle.name_service.specs.NameLines.{AreNamesAnswered}
use Rattle.name_service.specs.NameReplicas.{named_in, begun_with_all}
use Rattle.name_service.specs.NamedRuns.{NothingToldOfReplicasIsLost}
use Rattle.name_service.proofs.RightNames.{lines_right}
use Rattle.name_service.proofs.RingLined.{name_lines_are_ring_lines}
use Rattle.name_service.proofs.NamedJournals.{served_name_lines}
use Rattle.name_service.proofs.NamedReplicas.{IsOwnLine, lines_bring, all_same, all_plain}

-- ---- lines

-- what the names were given, said and noted, of lines of the replica
pub record AreTakenSo (numbers : Numbers) (old new : Stand NameService) (all : List (List ℕ)) (said noted : List ℕ) : Type 0 where
  pub inside : List ℕ
  pub given_so : AreGiven IsNameServed IsOwnLine numbers old all inside noted new
  pub told : List ℕ
  pub answered : Answers (by_stand IsNameServed) old (given numbers all) told inside new
  pub around : AreToldAround numbers all said told

pub all_taken : (old new : Replica NameService) (was is : Option Held) (all : List (List ℕ)) (said noted : List ℕ) → AllByRecursion IsLine all → Answers (by_stand (IsReplied IsNameServed)) (stand old was) all said noted (stand new is) → new.lost ≡ false →
    AreTakenSo (numbers_of old.numbered.keys) (stand old.numbered.inner was) (stand new.numbered.inner is) all said noted
all_taken old new was is [] said noted each a whole =
    let e = ap (λ (s : Stand (Replica NameService)). stand s.service.numbered.inner s.files) a.2 in
    record { inside = []; given_so = (refl, a.1, e); told = []; answered = (refl, refl, e); around = (a.0, refl) }
all_taken old new was is (line ∷ all) said noted each a whole =
    let mid = a.0 in
    let numbers = numbers_of old.numbered.keys in
    let w = whole_at IsNameServed mid.service new mid.files is all a.2 a.4 a.8 whole in
    let brings = lines_bring old.running.since old.numbered.inner mid.service.numbered.inner was mid.files line a.1 each.0 in
    let now = read IsNameServed IsOwnLine old mid.service was mid.files line a.1 a.3 brings (heard line) refl (whole_line IsNameServed old mid.service was mid.files line a.1 a.3 a.5 w) in
    let more = all_taken mid.service new mid.files is all a.2 a.4 each.1 a.8 whole in
    let rest = subst (λ (n : Numbers). AreTakenSo n (stand mid.service.numbered.inner mid.files) (stand new.numbered.inner is) all a.2 a.4) now.numbers_are more in record {
      inside = now.given_so.notes ++ rest.inside;
      given_so = (stand mid.service.numbered.inner mid.files, own_of (heard line) old.numbered.keys old.running.since a.1, a.3, a.4, rest.inside, now.given_so, refl, a.7, rest.given_so);
      told = now.given_so.told ++ rest.told;
      answered = answers_then (by_stand IsNameServed) (stand old.numbered.inner was) (stand mid.service.numbered.inner mid.files) (stand new.numbered.inner is) (given_of (heard line) numbers line) (given (numbers_after (heard line) numbers) all) now.given_so.told rest.told now.given_so.notes rest.inside now.given_so.answered rest.answered;
      around = (a.1, now.given_so.told, a.2, rest.told, a.6, refl, now.says, rest.around);
    }

pub terms_stay : (old new : Stand NameService) (all : List (List ℕ)) (said noted : List ℕ) → Answers (by_stand IsNameServed) old all said noted new → new.service.terms ≡ old.service.terms
terms_stay old new [] said noted a = ap (λ (s : Stand NameService). s.service.terms) a.2
terms_stay old new (line ∷ all) said noted a = terms_stay a.0 new all a.2 a.4 a.8 ∙ a.5.terms

-- ---- nothing that was delivered is lost

pub nothing_told_of_replicas : NothingToldOfReplicasIsLost
nothing_told_of_replicas old mid new entries told untold said noted unsaid notes kept lost r k whole front =
    let d = r.delivered in
    let s : NameService = old.numbered.inner in
    let m : NameService = mid.numbered.inner in
    let n : NameService = new.numbered.inner in
    let numbers : Numbers = numbers_of old.numbered.keys in
    let later : Numbers = numbers_of mid.numbered.keys in
    let one = all_taken old mid d.was d.is told said noted d.each d.answers d.whole in
    let two = all_taken mid new d.is r.is untold unsaid notes r.each r.answered r.whole in
    let same : m.terms ≡ s.terms = terms_stay (stand s d.was) (stand m d.is) (given numbers told) one.told one.inside one.answered in
    let first : AreNamesAnswered s.terms s.segment (given numbers told) one.told one.inside m.segment = (served_name_lines s m d.was d.is (given numbers told) one.told one.inside d.noting one.answered).0 in
    let second_of : AreNamesAnswered m.terms m.segment (given later untold) two.told two.inside n.segment =
    (served_name_lines m n d.is r.is (given later untold) two.told two.inside (ap (λ (t : NameTerms). t.lines.noting) same ∙ d.noting) two.answered).0 in
    let second : AreNamesAnswered s.terms m.segment (given later untold) two.told two.inside n.segment = subst (λ (t : NameTerms). AreNamesAnswered t m.segment (given later untold) two.told two.inside n.segment) same second_of in
    let middle = lines_right s.terms s.segment m.segment (given numbers told) one.told one.inside d.right first.answers in
    let x = name_lines_are_ring_lines s.terms s.segment m.segment (given numbers told) one.told one.inside d.right d.bits first.answers in
    let y = name_lines_are_ring_lines s.terms m.segment n.segment (given later untold) two.told two.inside middle.right r.bits second.answers in
    let p = all_same numbers (stand s d.was) (stand m d.is) told one.inside noted one.given_so in
    let q = all_same later (stand m d.is) (stand n r.is) untold two.inside notes two.given_so in
    let head : List ℕ = begun_text (named_in old).locks in
    let was : List ℕ = without_remarks one.inside in
    let is : List ℕ = without_remarks two.inside in
    let all : without_remarks (begun_with_all old ++ (noted ++ notes)) ≡ head ++ (was ++ is) =
    all_plain old (noted ++ notes) d.begun d.right d.sound
    ∙ ap (λ (u : List ℕ). head ++ u) (without_append noted notes p.whole ∙ (ap (λ (u : List ℕ). u ++ without_remarks notes) p.same ∙ ap (λ (u : List ℕ). was ++ u) q.same)) in
    let some : without_remarks (begun_with_all old ++ noted) ≡ head ++ was = all_plain old noted d.begun d.right d.sound ∙ ap (λ (u : List ℕ). head ++ u) p.same in
    let cut = without_cut kept (begun_with_all old ++ (noted ++ notes)) (lost, sym whole) in
    let start = without_cut (begun_with_all old ++ noted) kept front in
    record {
      inner = one.told;
      inside = one.inside;
      around = one.around;
      kept = record {
        of_rings = x;
        kept = nothing_told_is_lost s.terms.lines (ring_segment (named_in old)) (ring_segment (named_in mid)) (ring_segment (named_in new)) entries x.rings y.rings x.told was y.told is (without_remarks kept) cut.0 d.begun
            (record { noting = first.noting; answers = x.answers }) (record { noting = second.noting; answers = y.answers }) k (sym cut.1 ∙ all) (subst (λ (u : List ℕ). IsPrefix u (without_remarks kept)) some start);
      };
    }
