-- The report on the repairs of a study (this project's own).
use Rattle.std.specs.Prelude.{◌≡◌, ℕ, ◌*◌, ◌/◌, ◌<◌, length, List, [], ◌∷◌, ◌++◌, codes, map, Option, None, Some}
use Rattle.std.specs.List.{flat_map}
use Rattle.std.specs.Io.KnownBytes.{Appends}
use Rattle.text_lines.specs.Writing.{Wrote}
use Rattle.ring_model.specs.Ring.{bound}
use Rattle.ring_model.specs.RepairLaws.{longest_repair}
use Rattle.ring_repairs.specs.Histograms.{counted, summed, IsLeast, IsGreatest, IsQuantile}
use Rattle.ring_repairs.specs.Rounds.{most_rounds}
use Rattle.ring_repairs.specs.Studies.{StudyData, RepairsData, AreRepairs, IsCounted, trial_count, trial_rounds, repairs_with}
use Rattle.ring_repairs.specs.declared.daemons.Daemon.{Daemon}
use Rattle.ring_repairs.specs.declared.daemons.Daemon.TheVariants.{First, Last, Random, Turn, Slow, Groups}
use Rattle.ring_repairs.specs.declared.starts.Start.{Start}
use Rattle.ring_repairs.specs.declared.starts.Start.TheVariants.{Any, Faults, All}
use Rattle.repair_texts.specs.Columns.{object_of}
use Rattle.repair_texts.specs.Lines.{figures_text, counts_from}
use Rattle.repair_texts.specs.declared.columns.Row.{Row}
use Rattle.repair_texts.specs.declared.lines.Head.{Head}
use Rattle.repair_texts.specs.declared.lines.Figures.{Figures}
use Rattle.repair_report.specs.declared.parts.Part.{Part}
use Rattle.repair_report.specs.declared.writing.Lines.{Lines}
use Rattle.repair_report.specs.declared.writing.Lines.TheVariants as lines

-- the word for which machine moves next
abbrev pub daemon_name : Daemon → List ℕ
daemon_name First = codes "first"
daemon_name Last = codes "last"
daemon_name Random = codes "random"
daemon_name Turn = codes "turn"
daemon_name Slow = codes "slow"
daemon_name Groups = codes "groups"

-- the word for where a trial starts
abbrev pub start_name : Start → List ℕ
start_name Any = codes "any"
start_name (Faults faults) = codes "faults"
start_name All = codes "all"

-- with how many faults it starts, if it starts with some
abbrev pub start_faults : Start → Option ℕ
start_faults Any = None
start_faults (Faults faults) = Some faults
start_faults All = None

-- the figures of trials, with these bounds, where entry v counts those with the number v: each by its
-- definition
pub record IsFigures (most long : ℕ) (counts : List ℕ) (f : Figures) : Type 0 where
  pub trials : f.trials ≡ counted counts
  pub bound : f.bound ≡ most
  pub longest : f.longest ≡ long
  pub least : IsLeast counts f.least
  pub mean : f.mean ≡ 100 * summed counts / counted counts
  pub median : IsQuantile counts 50 100 f.median
  pub p90 : IsQuantile counts 90 100 f.p90
  pub p99 : IsQuantile counts 99 100 f.p99
  pub p999 : IsQuantile counts 999 1000 f.p999
  pub greatest : IsGreatest counts f.greatest

-- the words at which a line of a study begins
pub record IsHeadOf (name : List ℕ) (s : StudyData) (h : Head) : Type 0 where
  pub measure : h.measure.now ≡ name
  pub n : h.n ≡ s.size.n
  pub k : h.k ≡ s.size.k
  pub daemon : h.daemon.now ≡ daemon_name s.daemon
  pub start : h.start.now ≡ start_name s.start
  pub faults : h.faults ≡ start_faults s.start

-- a part of a report: what was counted of a study's trials
pub record IsPart (name word : List ℕ) (most long : ℕ) (s : StudyData) (numbers : List ℕ)
    (p : Part) : Type 0 where
  pub is_head : IsHeadOf name s p.row.head
  pub are_figures : IsFigures most long numbers p.row.figures
  pub unit : p.unit.now ≡ word
  pub counts : p.counts.now ≡ numbers

-- the part on the passes of trials, and that on their rounds, of which both bounds are the same; each
-- trial that is done is counted once
abbrev pub ArePasses : RepairsData → Part → Type 0
ArePasses r p =
    IsPart (codes "repairs") (codes "passes") (bound r.study.size.n) (longest_repair r.study.size.n)
    r.study r.passes p

abbrev pub AreRounds : RepairsData → Part → Type 0
AreRounds r p =
    (numbers : List ℕ)
    × IsCounted (trial_rounds r.study) r.done numbers
    × IsPart (codes "rounds") (codes "rounds") (most_rounds r.study.size.n)
    (most_rounds r.study.size.n) r.study numbers p

-- the parts of a report: the passes, and if the machines are asked in turn, the rounds
abbrev pub AreParts : Daemon → RepairsData → List Part → Type 0
AreParts Turn r parts =
    (passes : Part)
    × (rounds : Part)
    × (parts ≡ passes ∷ rounds ∷ [])
    × ArePasses r passes
    × AreRounds r rounds
AreParts _ r parts = (passes : Part) × (parts ≡ passes ∷ []) × ArePasses r passes

-- the row of a part
abbrev pub row_of : Part → Row
row_of p = p.row

-- the line of the figures of a part
abbrev pub line_of : Part → List ℕ
line_of p = figures_text p.row.head p.row.figures

-- the same, and a line for each number that occurred
abbrev pub lines_of : Part → List ℕ
lines_of p = line_of p ++ counts_from p.unit.now p.row.head.n p.row.head.k 0 p.counts.now

-- its figures as an object
abbrev pub object_text : Part → List ℕ
object_text p = object_of p.row ++ codes "\n"

-- what is written of parts
abbrev pub report_text : Lines → List Part → List ℕ
report_text lines.Figures parts = flat_map line_of parts
report_text lines.Histogram parts = flat_map lines_of parts
report_text lines.Object parts = flat_map object_text parts

-- The text is the report on a study, and these are its rows: of all its trials, each counted once.
pub record IsReport (s : StudyData) (wanted : Lines) (rows : List Row) (text : List ℕ)
    : Type 0 where
  pub repairs : RepairsData
  pub of_study : repairs.study ≡ s
  pub all : repairs.done ≡ trial_count s
  pub counted : AreRepairs repairs
  pub parts : List Part
  pub are : AreParts s.daemon repairs parts
  pub rows_are : rows ≡ map row_of parts
  pub is : text ≡ report_text wanted parts

-- the writer's bytes grew by a prefix of a text, which lacks a byte at least
abbrev pub IsCutShort : Option (List ℕ) → Option (List ℕ) → List ℕ → Type 0
IsCutShort old new text = (left : List ℕ) × (0 < length left) × Wrote old new text left

-- the rows and the text of the report on a study have been added
abbrev pub IsReported : StudyData → Lines → List Row → List Row → Option (List ℕ) → Option (List ℕ)
    → Type 0
IsReported s wanted rows_old rows_new old new =
    (added : List Row)
    × (text : List ℕ)
    × IsReport s wanted added text
    × (rows_new ≡ rows_old ++ added)
    × Appends old new text

-- a part of its text has, which is not all of it
abbrev pub IsPartReported : StudyData → Lines → Option (List ℕ) → Option (List ℕ) → Type 0
IsPartReported s wanted old new =
    (added : List Row) × (text : List ℕ) × IsReport s wanted added text × IsCutShort old new text

-- entry v of the counts says how many of all trials of a study took v passes
abbrev pub AreCountsOf : StudyData → List ℕ → Type 0
AreCountsOf s counts = AreRepairs (repairs_with s (trial_count s) counts)
