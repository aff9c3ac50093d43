-- What comes back of lines at a start (this project's own).
use Rattle.std.specs.Prelude.{◌≡◌, ℕ, ◌<◌, ◌^◌, List, ◌++◌, take}
use Rattle.std.specs.List.{AllByRecursion}
use Rattle.line_service.specs.Answering.{IsLine}
use Rattle.line_replay.specs.Machines.{Machine, after, counted, trace}
use Rattle.line_replay.specs.Redone.{IsReplayed, IsDamaged, IsIdle}
use Rattle.line_replay.specs.declared.replaying.Replay.{Replay}

-- the first text is a prefix of the second
abbrev pub IsFirstOf : List ℕ → List ℕ → Type 0
IsFirstOf first all = (rest : List ℕ) × (all ≡ first ++ rest)

-- lines that are given to a machine where n were noted: their counts are below 2^64
pub record AreGiven (M : Machine) (n : ℕ) (s : M.State) (lines : List (List ℕ)) : Type 0 where
  pub each : AllByRecursion IsLine lines
  pub counts : counted M n s lines < 2 ^ 64

-- The state after these lines comes back, and their count; and what is kept of the bytes is, with
-- what is missing, what these lines leave.
pub record ComesBack (M : Machine) (n : ℕ) (s : M.State) (bytes : List ℕ) (r : Replay) (t : M.State)
    (lines : List (List ℕ)) : Type 0 where
  pub state : t ≡ after M s lines
  pub count : r.count ≡ counted M n s lines
  pub text : take r.kept bytes ++ r.missing.items ≡ trace M n s lines

module _ (M : Machine) where
  -- A law: if what is there is cut anywhere in what lines leave, the state after the first of them
  -- comes back: of each of the lines all or nothing.
  abbrev pub LinesComeBack : Type 0
  LinesComeBack =
      (n : ℕ) (s t : M.State) (lines : List (List ℕ)) (bytes : List ℕ) (r : Replay)
      → AreGiven M n s lines → IsFirstOf bytes (trace M n s lines) → IsReplayed M n s bytes r t
      → (front : List (List ℕ))
      × (others : List (List ℕ))
      × (lines ≡ front ++ others)
      × ComesBack M n s bytes r t front

  -- A law: if all that the reported lines leave is there, and of what others leave as much as there is,
  -- all reported lines are among those that come back.
  abbrev pub ToldComeBack : Type 0
  ToldComeBack =
      (n : ℕ) (s t : M.State) (told others : List (List ℕ)) (bytes : List ℕ) (r : Replay)
      → AreGiven M n s (told ++ others) → IsFirstOf (trace M n s told) bytes
      → IsFirstOf bytes (trace M n s (told ++ others)) → IsReplayed M n s bytes r t
      → (more : List (List ℕ))
      × (later : List (List ℕ))
      × (others ≡ more ++ later)
      × ComesBack M n s bytes r t (told ++ more)

  -- A law: what lines leave is never refused, wherever it is cut.
  abbrev pub CutsAreTaken : Type 0
  CutsAreTaken =
      (n : ℕ) (s : M.State) (lines : List (List ℕ)) (bytes : List ℕ) (place : ℕ)
      → AreGiven M n s lines → IsFirstOf bytes (trace M n s lines)
      → (¬ IsDamaged M n s bytes place) × (¬ IsIdle M n s bytes place)

  -- A law: a start is ended anywhere while it mends what is there; the same comes back at the next.
  abbrev pub MendedComesBack : Type 0
  MendedComesBack =
      (n : ℕ) (s t u : M.State) (bytes : List ℕ) (r q : Replay) (part : List ℕ)
      → IsReplayed M n s bytes r t → IsFirstOf part r.missing.items
      → IsReplayed M n s (take r.kept bytes ++ part) q u
      → (u ≡ t) × (q.count ≡ r.count)

  -- A law: of the same bytes the same comes back.
  abbrev pub OneReplay : Type 0
  OneReplay =
      (n : ℕ) (s t u : M.State) (bytes : List ℕ) (r q : Replay)
      → IsReplayed M n s bytes r t → IsReplayed M n s bytes q u
      → (u ≡ t) × (q.count ≡ r.count)
