-- What follows of a life of locks, in the answers that clients get (this project's own).
use Rattle.std.specs.Prelude.{ℕ, List, Some, ◌≡◌, slice_get, ◌==◌, [], ◌∷◌, ◌++◌, if◌then◌else◌}
use Rattle.held_locks.specs.declared.answers.Holder.{Holder}
use Rattle.held_locks.specs.Queues.{Lock}
use Rattle.held_locks.specs.Locks.{Input}
use Rattle.held_locks.specs.Promises.{locks_after, AreRight, grants_in, grants_of, ends_hold, NoneIs, GoesOn, Rise}
use Rattle.lock_journal.specs.Recovered.{AreKeptIn}
use Rattle.lock_journal.specs.Told.{Telling}
use Rattle.lock_life.specs.Life.{Stage, IsStage, tellings}

-- the grants of a lock among the answers that clients get
abbrev pub granted : ℕ → List Telling → List Holder
granted at [] = []
granted at (t ∷ ts) =
    (if t.lock == at then grants_in ((t.client, t.said) ∷ []) else []) ++ granted at ts

-- a law: the grants that clients get are those of which the promises speak
abbrev pub ToldGrantsAreGrants : Type 0
ToldGrantsAreGrants =
    (ls : List Lock) (is : List Input) (at : ℕ) → granted at (tellings ls is) ≡ grants_of at ls is

-- a law: over all inputs of a life the tokens that clients get rise
abbrev pub ToldTokensRise : Type 0
ToldTokensRise =
    (ls : List Lock) (is : List Input) (at : ℕ) (l : Lock) → AreRight ls
    → slice_get ls at ≡ Some l
    → (m : Lock) × (slice_get (locks_after ls is) at ≡ Some m)
    × Rise l.ring.grants (granted at (tellings ls is)) m.ring.grants

-- a law: while no input ends a hold, in this run or in later ones, no client gets another grant
abbrev pub ToldHoldsExclude : Type 0
ToldHoldsExclude =
    (ls : List Lock) (before behind : List Input) (at : ℕ) (l : Lock) (h : Holder)
    → slice_get (locks_after ls before) at ≡ Some l → l.holder ≡ Some h
    → NoneIs (ends_hold at h) behind
    → (granted at (tellings (locks_after ls before) behind) ≡ [])
    × ((m : Lock) × (slice_get (locks_after ls (before ++ behind)) at ≡ Some m) × GoesOn h m)

-- a law: of each run, each grant and each release that was delivered is in the history that is
-- recovered of what is kept of the journal
abbrev pub ToldGrantsAreKept : Type 0
ToldGrantsAreKept =
    (s : Stage) (k : IsStage s) → AreKeptIn s.terms s.start s.told k.said s.mid s.journal
