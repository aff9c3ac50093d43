use Rattle.std.proofs.Common.{◌≡◌, ◌++◌, drop, map}
use Rattle.ring_check.specs.Meaning.{survey_of}
use Rattle.one_thread_ring.proofs.resuming.surveys.surveys_of.Given as goal

abbrev pub invariant-loop-line : goal.invariant-loop-line
invariant-loop-line l = l.surveys.items ++ map survey_of (drop l.line-index l.lines) ≡ map survey_of l.lines
