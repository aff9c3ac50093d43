-- Runs over one folder are one list of inputs, with a restart between two of them.
use Rattle.std.proofs.Common.{◌≡◌, ℕ, List, [], ◌∷◌, ◌++◌, refl, sym, ◌∙◌, ap, subst, append_assoc, append-nil}
use Rattle.held_locks.specs.Queues.{Lock}
use Rattle.held_locks.specs.Locks.{Restart, Input}
use Rattle.held_locks.specs.Promises.{locks_after, AreRight}
use Rattle.lock_protocol.specs.Names.{Names}
use Rattle.folder_of_locks.specs.Holders.{Hold, AreHandedBy, handover, IsHandedBy}
use Rattle.held_locks.specs.Kept.{LockView, locks_of, lock_of}
use Rattle.held_locks.specs.Handed.{handed}
use Rattle.held_locks.proofs.Shown.{locks_append}
use Rattle.std.specs.List.{AllByRecursion}
use Rattle.std.proofs.lemmas.List.{map-append, map-set}
use Rattle.segment_files.specs.Remarks.{without_remarks}
use Rattle.lock_service.specs.Remarked.{begun_with_remarks}
use Rattle.lock_journal.proofs.Following.{lock_there}
use Rattle.lock_journal.specs.Counting.{SegmentView}
use Rattle.lock_life.proofs.Life.{run_so, passed_on, runs_are_a_life}
use Rattle.lock_life.proofs.RunsGoOn.{behind_both, runs_go_on}
use Rattle.lock_life.specs.Life.{Stage, AreFound, AreStages, IsLockLife, IsLockRun, behind}
use Rattle.lock_life.specs.OneLife.{Run, locks_at_start, names_of_run, IsHandedOver, AreHandedOver, AreNew, AreRuns, AreOneLife, RunsAreOneLife}
use Rattle.lock_life.specs.Runs.{inside, EndWith, IsRun}
use Rattle.lock_life.specs.Started.{IsNew}

-- ---- the stages of one run

-- their inputs, and the locks that are found in the journal of the last of them
record IsLifeSo (ls : List Lock) (s : Stage) (more : List Stage) (last : SegmentView) (journal : List ℕ) : Type 0 where
  pub inputs : List Input
  pub life : IsLockLife ls s more inputs
  pub found : (next : List LockView) → AreFound last.locks journal next → locks_of next ≡ locks_after ls (inputs ++ Restart ∷ [])

life_so : (s : Stage) (more : List Stage) (ls : List Lock) (last : SegmentView) (journal : List ℕ) → locks_of s.start.locks ≡ ls → AreStages s more → EndWith s more last journal → IsLifeSo ls s more last journal
life_so s [] ls last journal e k ends =
    let r = run_so s k in
    let there : (next : List LockView) → AreFound last.locks journal next → AreFound s.start.locks s.journal next = λ next f.
    subst (λ (v : SegmentView). AreFound v.locks s.journal next) (sym ends.1) (subst (λ (j : List ℕ). AreFound last.locks j next) (sym ends.2) f) in record {
      inputs = r.inputs;
      life = (e, subst (λ (x : List Lock). IsLockRun x s r.inputs) e r.run);
      found = λ next f. r.found next (there next f) ∙ ap (λ (x : List Lock). locks_after x (r.inputs ++ Restart ∷ [])) e;
    }
life_so s (next ∷ more) ls last journal e k ends =
    let p = passed_on s next k.0 k.1 in
    let now : List Input = p.inputs ++ behind s in
    let begins : locks_of next.start.locks ≡ locks_after ls now = p.locks ∙ ap (λ (x : List Lock). locks_after x now) e in
    let m = life_so next more (locks_after ls now) last journal begins k.2 ends.1 in
    let joined : now ++ (m.inputs ++ Restart ∷ []) ≡ (p.inputs ++ (behind s ++ m.inputs)) ++ Restart ∷ [] =
    sym (append_assoc now m.inputs (Restart ∷ [])) ∙ ap (λ (u : List Input). u ++ Restart ∷ []) (append_assoc p.inputs (behind s) m.inputs) in record {
      inputs = p.inputs ++ (behind s ++ m.inputs);
      life = (e, (p.inputs, m.inputs, subst (λ (x : List Lock). IsLockRun x s p.inputs) e p.run, refl, m.life));
      found = λ n f. m.found n f ∙ (sym (locks_append ls now (m.inputs ++ Restart ∷ [])) ∙ ap (λ (u : List Input). locks_after ls u) joined);
    }

-- ---- holds that are handed over, and new locks

one_over : (names : Names) (old new : List LockView) (h : Hold) → IsHandedBy names old new h → IsHandedOver names (locks_of old) (locks_of new) h
one_over names old new h (at, named, is) = record {
  at = at;
  named = named;
  lock = lock_of is.lock;
  there = lock_there old at is.lock is.there;
  held = is.held.held;
  free = is.held.free;
  new_is = ap (λ (vs : List LockView). locks_of vs) is.new_is ∙ map-set lock_of old at (handed is.lock (handover h at));
}

all_over : (names : Names) (old : List LockView) (hs : List Hold) (new : List LockView) → AreHandedBy names old hs new → AreHandedOver names (locks_of old) hs (locks_of new)
all_over names old [] new same = ap (λ (vs : List LockView). locks_of vs) same
all_over names old (h ∷ hs) new (mid, is, are) = (locks_of mid, one_over names old mid h is, all_over names mid hs new are)

all_new : (vs : List LockView) → AllByRecursion IsNew vs → AreNew (locks_of vs)
all_new [] all = tt
all_new (v ∷ vs) all = (all.0, all_new vs all.1)

-- ---- one run after the other

-- the stages of a run, with no notes but those of what was reported
just_told : (folder : List ℕ) (r : Run folder) → (first : Stage) × (more : List Stage) × IsRun r.from.service r.in_stages.last r.lines r.said (begun_with_remarks r.in_stages.last.inner ++ r.in_stages.noted) first more
just_told folder r =
    let begun : List ℕ = begun_with_remarks r.in_stages.last.inner in
    let noted : List ℕ = r.in_stages.noted in
    r.in_stages.stages (begun ++ noted) ([], sym (append-nil (begun ++ noted))) (behind_both begun noted (noted ++ r.notes) (r.notes, refl))

go : (folder : List ℕ) (r : Run folder) (more : List (Run folder)) (ls : List Lock) → locks_of (locks_at_start r) ≡ ls → AreRuns r more → (is : List Input) × AreOneLife ls r more is
go folder r [] ls e runs =
    let begun : List ℕ = begun_with_remarks r.in_stages.last.inner in
    let x = just_told folder r in
    let l = life_so x.0 x.1 ls (inside r.in_stages.last).segment (without_remarks (begun ++ r.in_stages.noted)) (ap (λ (v : SegmentView). locks_of v.locks) x.2.begins ∙ e) x.2.stages x.2.ends in
    (l.inputs, record { first = x.0; more = x.1; run = record { taken = r.in_stages.noted; told = ([], sym (append-nil r.in_stages.noted)); of_left = r.left_so.told; run = x.2 }; life = l.life })
go folder r (next ∷ more) ls e runs =
    let s = runs.0 in
    let x = runs_go_on r.from r.to r.before r.lines r.said r.notes r.in_stages r.held folder r.left s.word next.holders s.after s.place r.fits r.left_so s.started in
    let l = life_so x.0 x.1 ls (inside r.in_stages.last).segment (without_remarks (begun_with_remarks r.in_stages.last.inner ++ x.2.taken)) (ap (λ (v : SegmentView). locks_of v.locks) x.2.run.begins ∙ e) x.2.run.stages x.2.run.ends in
    let given : List Lock = locks_of (locks_at_start next) in
    let added : List Lock = locks_of x.4 in
    let both : locks_of (x.3 ++ x.4) ≡ locks_after ls (l.inputs ++ Restart ∷ []) ++ added =
    map-append lock_of x.3 x.4 ∙ ap (λ (u : List Lock). u ++ added) (l.found x.3 x.5) in
    let by_name : AreHandedBy (names_of_run next) (x.3 ++ x.4) next.holders s.place.locks = subst (λ (n : Names). AreHandedBy n (x.3 ++ x.4) next.holders s.place.locks) (sym s.named) x.7 in
    let over : AreHandedOver (names_of_run next) (locks_after ls (l.inputs ++ Restart ∷ []) ++ added) next.holders given =
    subst (λ (u : List Lock). AreHandedOver (names_of_run next) u next.holders given) both
    (subst (λ (vs : List LockView). AreHandedOver (names_of_run next) (locks_of (x.3 ++ x.4)) next.holders (locks_of vs)) (sym s.begins) (all_over (names_of_run next) (x.3 ++ x.4) next.holders s.place.locks by_name)) in
    let m = go folder next more given refl runs.1 in
    (l.inputs ++ Restart ∷ m.0, (l.inputs, m.0, added, given, record { first = x.0; more = x.1; run = x.2; life = l.life }, refl, all_new x.4 x.6, over, m.1))

-- the first one begins with locks that are right
first_right : (folder : List ℕ) (r : Run folder) → AreRight (locks_of (locks_at_start r))
first_right folder r =
    let x = just_told folder r in
    subst (λ (v : SegmentView). AreRight (locks_of v.locks)) x.2.begins (runs_are_a_life x.0 x.1 x.2.stages).1

pub runs_are_one_life : RunsAreOneLife
runs_are_one_life folder r more runs = let m = go folder r more (locks_of (locks_at_start r)) refl runs in (m.0, first_right folder r, m.1)
