-- Runs over one folder, each ended at any moment (this project's own).
use Rattle.std.specs.Prelude.{◌≡◌, ◌⊎◌, ℕ, ◌<◌, ◌^◌, List, [], ◌∷◌, ◌++◌, map, take}
use Rattle.std.specs.List.{AllByRecursion}
use Rattle.line_service.specs.Answering.{IsLine}
use Rattle.line_replay.specs.declared.replaying.Replay.{Replay}
use Rattle.line_replay.specs.Machines.{Machine, after, counted, trace, answers}
use Rattle.line_replay.specs.Redone.{IsReplayed}
use Rattle.line_replay.specs.Replays.{IsFirstOf}

-- the last segment of a folder: with which state it began, how many lines had been noted then, and
-- the bytes after its beginning
pub record LastSegment (M : Machine) : Type 0 where
  pub begun : M.State
  pub count : ℕ
  pub bytes : List ℕ

-- no line was noted yet
abbrev pub fresh : (M : Machine) → M.State → ℕ → LastSegment M
fresh M s n = record { begun = s; count = n; bytes = [] }

-- the lines that a run was asked, and its output
pub record Run : Type 0 where
  pub asked : List (List ℕ)
  pub output : List ℕ

module _ (M : Machine) where
  -- this comes back of a folder
  abbrev pub IsBack : LastSegment M → Replay → M.State → Type 0
  IsBack f r t = IsReplayed M f.count f.begun f.bytes r t

  -- A run has served lines, from this state and count on: some in segments that have ended; in the
  -- last one some that were reported and then others, and all that the first leave is there, and of
  -- the others as much as there is. The output has no more than the answers to what was reported.
  pub record IsServed (n : ℕ) (s : M.State) (run : Run) (g : LastSegment M) : Type 0 where
    pub ended : List (List ℕ)
    pub told : List (List ℕ)
    pub others : List (List ℕ)
    pub undone : List (List ℕ)
    pub asked : run.asked ≡ ended ++ (told ++ (others ++ undone))
    pub each : AllByRecursion IsLine (told ++ others)
    pub begun : g.begun ≡ after M s ended
    pub count : g.count ≡ counted M n s ended
    pub counts : counted M g.count g.begun (told ++ others) < 2 ^ 64
    pub there : IsFirstOf (trace M g.count g.begun told) g.bytes
    pub cut : IsFirstOf g.bytes (trace M g.count g.begun (told ++ others))
    pub output : IsFirstOf run.output (answers M s (ended ++ told))

  -- A run was ended before its first segment began: some of what was missing may be there.
  pub record IsMended (f : LastSegment M) (r : Replay) (run : Run) (g : LastSegment M) : Type 0
    where
      pub part : List ℕ
      pub missing : IsFirstOf part r.missing.items
      pub folder : g
          ≡ record { begun = f.begun; count = f.count; bytes = take r.kept f.bytes ++ part }
      pub silent : run.output ≡ []

  -- a run has found what comes back of the folder
  pub record IsStarted (f : LastSegment M) (run : Run) (g : LastSegment M) : Type 0 where
    pub replay : Replay
    pub state : M.State
    pub back : IsBack f replay state
    pub goes : IsMended f replay run g ⊎ IsServed replay.count (M.restarts state) run g

  -- A run over a folder, which it leaves so: as it was, or it has found what comes back of it.
  abbrev pub IsRun : LastSegment M → Run → LastSegment M → Type 0
  IsRun f run g = ((g ≡ f) × (run.output ≡ [])) ⊎ IsStarted f run g

  -- runs, one after the other, each over what the one before has left
  abbrev pub AreRuns : LastSegment M → List Run → LastSegment M → Type 0
  AreRuns f [] g = g ≡ f
  AreRuns f (run ∷ runs) g = (mid : LastSegment M) × IsRun f run mid × AreRuns mid runs g

-- ---- one list of inputs

-- an input of the machine: a line, or a restart
pub data Input : Type 0 where
  Line : List ℕ → Input
  Restart : Input

-- what a run gives to the machine: a restart, and then lines
abbrev pub inputs_of : List (List ℕ) → List Input
inputs_of lines = Restart ∷ map Line lines

module _ (M : Machine) where
  -- the state after inputs
  abbrev pub state_after : M.State → List Input → M.State
  state_after s [] = s
  state_after s (Line line ∷ inputs) = state_after (M.does s line) inputs
  state_after s (Restart ∷ inputs) = state_after (M.restarts s) inputs

  -- the answers to inputs
  abbrev pub answers_to : M.State → List Input → List ℕ
  answers_to s [] = []
  answers_to s (Line line ∷ inputs) = M.says s line ++ answers_to (M.does s line) inputs
  answers_to s (Restart ∷ inputs) = answers_to (M.restarts s) inputs

  -- The inputs are those of the runs, one after the other, each run from the state after all before
  -- it: a restart, and then the first of the lines that it was asked; its output is a prefix of
  -- the machine's answers to them. Or the run had no input, and no output.
  abbrev pub AreOneLife : M.State → List Run → List Input → Type 0
  AreOneLife s [] inputs = inputs ≡ []
  AreOneLife s (run ∷ runs) inputs =
      ((run.output ≡ []) × AreOneLife s runs inputs)
      ⊎ ((part : List (List ℕ))
      × (undone : List (List ℕ))
      × (later : List Input)
      × (run.asked ≡ part ++ undone)
      × IsFirstOf run.output (answers_to s (inputs_of part))
      × (inputs ≡ inputs_of part ++ later)
      × AreOneLife (state_after s (inputs_of part)) runs later)

  -- A law: any number of runs over one folder, each ended at any moment, are one life of the machine.
  abbrev pub RunsAreOneLife : Type 0
  RunsAreOneLife =
      (n : ℕ) (s : M.State) (runs : List Run) (g : LastSegment M) → AreRuns M (fresh M s n) runs g
      → (inputs : List Input) × AreOneLife s runs inputs

  -- A law: and what comes back of the folder that they leave is the state after all these inputs.
  abbrev pub LivesComeBack : Type 0
  LivesComeBack =
      (n : ℕ) (s t : M.State) (runs : List Run) (g : LastSegment M) (r : Replay)
      → AreRuns M (fresh M s n) runs g → IsBack M g r t
      → (inputs : List Input) × AreOneLife s runs inputs × (t ≡ state_after s inputs)
