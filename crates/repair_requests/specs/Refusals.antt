-- The refusals of `repairs`: the status and the line of each.
use Rattle.std.specs.Prelude.{ℕ, List, ◌++◌, codes, Bool, false, cond}
use Rattle.std.specs.Fmt.{decimal}
use Rattle.tool_parts.specs.FaultLines as lines
use Rattle.tool_parts.specs.Faults as tool
use Rattle.repair_requests.specs.declared.refusals.Refusal.{Refusal}
use Rattle.repair_requests.specs.declared.refusals.Refusal.TheVariants.{Tool, NoTrials, ManyTrials, ManyFaults, ManyStates, OneTrial, NoThreads, ManyThreads}

-- whether a refusal is that of a list that cannot be read
abbrev pub is_bad_list : Refusal → Bool
is_bad_list (Tool e) = tool.is_bad_list e
is_bad_list _ = false

-- the exit status after a refusal
abbrev pub status_of : Refusal → ℕ
status_of e = cond (is_bad_list e) 2 1

-- the line of a refusal on standard error, without its end
abbrev pub line_of : Refusal → List ℕ
line_of (Tool e) = lines.line_of e
line_of NoTrials = codes "there are no trials"
line_of ManyTrials = codes "there are more than 10000000000 trials"
line_of (ManyFaults place) =
    codes "ring " ++ decimal place ++ codes ": there are more faults than machines"
line_of (ManyStates place) =
    codes "ring " ++ decimal place ++ codes ": there are more than 100000000 states"
line_of OneTrial = codes "a daemon that draws nothing makes one trial of each state"
line_of NoThreads = codes "there are no threads"
line_of ManyThreads = codes "there are more than 64 threads"
