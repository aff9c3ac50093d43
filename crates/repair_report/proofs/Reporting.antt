-- Reports on all trials of a study.
use Rattle.std.proofs.Common.{◌≡◌, ℕ, ◌≤◌, List, [], ◌∷◌, refl, subst, arith}
use Rattle.std.specs.Prelude.{map, codes, Option}
use Rattle.ring_repairs.specs.Rounds.{most_rounds}
use Rattle.ring_repairs.specs.Histograms.{counted}
use Rattle.ring_repairs.specs.Studies.{StudyData, RepairsData, AreRepairs, IsCounted, trial_count, trial_rounds}
use Rattle.ring_repairs.specs.declared.daemons.Daemon.{Daemon}
use Rattle.ring_repairs.specs.declared.daemons.Daemon.TheVariants.{First, Last, Random, Turn, Slow, Groups}
use Rattle.ring_repairs.proofs.Numbering.{trials_within}
use Rattle.repair_texts.specs.declared.columns.Row.{Row}
use Rattle.repair_report.specs.declared.parts.Part.{Part}
use Rattle.repair_report.specs.declared.writing.Lines.{Lines}
use Rattle.repair_report.specs.Reports.{IsPart, ArePasses, AreRounds, AreParts, IsReport, IsReported, IsPartReported, report_text, row_of}

-- some trial is counted
pub some_done : (r : RepairsData) (h : List ℕ) → AreRepairs r → r.done ≡ trial_count r.study → counted h ≡ r.done → counted h ≡ 0 → ⊥
some_done r h are all e none =
    let s : StudyData = r.study in
    let is = are.study in
    let some = is.some in
    let two = is.size.machines in
    let values = is.size.values in
    let within : s.trials ≤ trial_count s = trials_within s.trials (trial_count s) s.start s.size (omega arith) (omega arith) in
    omega arith

-- the part on rounds that are counted
pub rounds_are : (r : RepairsData) (h : List ℕ) (q : Part) (s : StudyData) → s ≡ r.study → IsCounted (trial_rounds r.study) r.done h →
    IsPart (codes "rounds") (codes "rounds") (most_rounds s.size.n) (most_rounds s.size.n) s h q → AreRounds r q
rounds_are r h q s e counted is =
    (h, counted, subst (λ (x : StudyData). IsPart (codes "rounds") (codes "rounds") (most_rounds x.size.n) (most_rounds x.size.n) x h q) e is)

parts_else : (d : Daemon) (r : RepairsData) (p : Part) → (d ≡ Turn → ⊥) → ArePasses r p → AreParts d r (p ∷ [])
parts_else First r p other is = (p, refl, is)
parts_else Last r p other is = (p, refl, is)
parts_else Random r p other is = (p, refl, is)
parts_else Turn r p other is = absurd (other refl)
parts_else Slow r p other is = (p, refl, is)
parts_else Groups r p other is = (p, refl, is)

parts_in_turn : (d : Daemon) (r : RepairsData) (p q : Part) → d ≡ Turn → ArePasses r p → AreRounds r q → AreParts d r (p ∷ q ∷ [])
parts_in_turn Turn r p q e is is' = (p, q, refl, is, is')
parts_in_turn First r p q e is is' = absurd (cc e)
parts_in_turn Last r p q e is is' = absurd (cc e)
parts_in_turn Random r p q e is is' = absurd (cc e)
parts_in_turn Slow r p q e is is' = absurd (cc e)
parts_in_turn Groups r p q e is is' = absurd (cc e)

pub passes_report : (r : RepairsData) (wanted : Lines) (p : Part) → AreRepairs r → r.done ≡ trial_count r.study → (r.study.daemon ≡ Turn → ⊥) → ArePasses r p →
    IsReport r.study wanted (map row_of (p ∷ [])) (report_text wanted (p ∷ []))
passes_report r wanted p are all other is = record {
  repairs = r;
  of_study = refl;
  all = all;
  counted = are;
  parts = p ∷ [];
  are = parts_else r.study.daemon r p other is;
  rows_are = refl;
  is = refl;
}

pub turn_report : (r : RepairsData) (wanted : Lines) (p q : Part) → AreRepairs r → r.done ≡ trial_count r.study → r.study.daemon ≡ Turn → ArePasses r p →
    AreRounds r q → IsReport r.study wanted (map row_of (p ∷ q ∷ [])) (report_text wanted (p ∷ q ∷ []))
turn_report r wanted p q are all e is is' = record {
  repairs = r;
  of_study = refl;
  all = all;
  counted = are;
  parts = p ∷ q ∷ [];
  are = parts_in_turn r.study.daemon r p q e is is';
  rows_are = refl;
  is = refl;
}

-- the report on the same study
pub reported_of : (s t : StudyData) (wanted : Lines) (rows_old rows_new : List Row) (old new : Option (List ℕ)) → s ≡ t →
    IsReported s wanted rows_old rows_new old new → IsReported t wanted rows_old rows_new old new
reported_of s t wanted rows_old rows_new old new e h = subst (λ (x : StudyData). IsReported x wanted rows_old rows_new old new) e h

pub part_of : (s t : StudyData) (wanted : Lines) (old new : Option (List ℕ)) → s ≡ t → IsPartReported s wanted old new → IsPartReported t wanted old new
part_of s t wanted old new e h = subst (λ (x : StudyData). IsPartReported x wanted old new) e h
