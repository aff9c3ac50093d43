-- Runs of a replica of locks: what the locks inside are given and say (this project's own).
use Rattle.std.specs.Prelude.{ℕ, List, Bool, true, false, not, Option, ◌≡◌, ◌++◌}
use Rattle.std.specs.List.{AllByRecursion, filter}
use Rattle.disks.specs.Held.{Held}
use Rattle.line_service.specs.Answering.{IsLine, Answers}
use Rattle.line_service.specs.Stands.{by_stand, stand}
use Rattle.segment_files.specs.Remarks.{without_remarks}
use Rattle.ring_service.specs.Recovered.{IsPrefix}
use Rattle.line_replica.specs.declared.replica.Replica.{Replica}
use Rattle.line_replica.specs.declared.restorable.Restorable.{Restorable}
use Rattle.line_replica.specs.State.{lines_of, is_state, IsRestorable}
use Rattle.line_replica.specs.Log.{numbers_of, given}
use Rattle.line_replica.specs.Replies.{IsReplied}
use Rattle.held_locks.specs.Kept.{AreKept}
use Rattle.lock_service.specs.declared.service.LockService.{LockService}
use Rattle.lock_service.specs.Serving.{IsServed}
use Rattle.lock_service.specs.State.{state_lines}
use Rattle.lock_service.specs.Remarked.{begun_with_remarks}
use Rattle.lock_service.specs.StateBack.{locks_in}
use Rattle.lock_journal.specs.Begun.{HaveBegun}
use Rattle.lock_journal.specs.KeysBack.{IsSound}
use Rattle.lock_journal.specs.Replicas.{AreToldAround, AreToldAfter}
use Rattle.lock_life.specs.Life.{Stage, IsStage}

-- A law: a replica whose state is answered where it is asked for answers all other lines as the
-- replica itself, with the same notes.
abbrev pub OtherLinesAreReplied : Type 0
OtherLinesAreReplied =
    (old new : Restorable (Replica LockService)) (was is : Option Held) (lines : List (List ℕ))
    (said noted : List ℕ)
    → Answers (by_stand (IsRestorable (IsReplied IsServed) (lines_of state_lines))) (stand old was)
    lines said noted (stand new is)
    → (told : List ℕ)
    × Answers (by_stand (IsReplied IsServed)) (stand old.inner was)
    (filter (λ line. not (is_state line)) lines) told noted (stand new.inner is)
    × AreToldAfter lines said told

-- a run of a replica in a segment: as a stage is of the locks inside
pub record ReplicaRun : Type 0 where
  pub old : Replica LockService
  pub told : List (List ℕ)
  pub mid : Replica LockService
  pub untold : List (List ℕ)
  pub new : Replica LockService
  pub out : List ℕ
  pub journal : List ℕ
  pub killed : Bool

-- lines were answered, delivered and noted so, and no answer was lost for lack of memory
pub record IsReplicaRun (r : ReplicaRun) : Type 0 where
  pub said : List ℕ
  pub noted : List ℕ
  pub unsaid : List ℕ
  pub notes : List ℕ
  pub entries : List (ℕ × ℕ)
  pub was : Option Held
  pub between : Option Held
  pub is : Option Held
  pub begun : HaveBegun (locks_in r.old)
  pub sound : IsSound r.old
  pub noting : r.old.numbered.inner.terms.noting ≡ true
  pub plain : r.old.numbered.inner.terms.faults ≡ false
  pub each_told : AllByRecursion IsLine r.told
  pub each_untold : AllByRecursion IsLine r.untold
  pub answered : Answers (by_stand (IsReplied IsServed)) (stand r.old was) r.told said noted
      (stand r.mid between)
  pub more : Answers (by_stand (IsReplied IsServed)) (stand r.mid between) r.untold unsaid notes
      (stand r.new is)
  pub whole : r.new.lost ≡ false
  pub right : AreKept (locks_in r.new) entries
  pub out_is : IsPrefix r.out said
  pub has_told : IsPrefix (begun_with_remarks r.old ++ noted) r.journal
  pub no_more : IsPrefix r.journal (begun_with_remarks r.old ++ (noted ++ notes))

-- the stage of the locks inside, which said this: they were given the lines that are new, and the
-- journal without remarks is theirs
abbrev pub stage_of : ReplicaRun → List ℕ → Stage
stage_of r told = record {
  terms = r.old.numbered.inner.terms;
  start = r.old.numbered.inner.segment;
  told = given (numbers_of r.old.numbered.keys) r.told;
  mid = r.mid.numbered.inner.segment;
  untold = given (numbers_of r.mid.numbered.keys) r.untold;
  end = r.new.numbered.inner.segment;
  out = told;
  journal = without_remarks r.journal;
  killed = r.killed;
}

-- A law: runs of a replica are stages of the locks inside, which say what it says.
abbrev pub ReplicaRunsAreStages : Type 0
ReplicaRunsAreStages =
    (r : ReplicaRun) → IsReplicaRun r
    → (told said : List ℕ)
    × IsStage (stage_of r told)
    × IsPrefix r.out said
    × AreToldAround (numbers_of r.old.numbered.keys) r.told said told
