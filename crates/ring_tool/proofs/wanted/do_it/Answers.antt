use Rattle.std.proofs.Common.{refl, ap}
use Rattle.ring_tool.proofs.Requested.{told_with, refused_with, kept_anyhow}
use Rattle.ring_tool.proofs.wanted.do_it.Goals as goal

pub returns-in-Tool : goal.returns-in-Tool
returns-in-Tool g c =
    let h = c.answer.ensures in
    rw c.in-Tool.is (record {
      answered = h.answered;
      refused = h.refused;
      kept = h.kept;
      made = h.made;
      silent = h.silent;
      unread = h.unread;
    })

pub returns-in-ReportRepairs : goal.returns-in-ReportRepairs
returns-in-ReportRepairs g c =
    let h = c.run.ensures in
    rw c.in-ReportRepairs.is (record {
      answered = told_with _ _ _ refl h.ok;
      refused = refused_with _ _ _ refl h.err;
      kept = λ _. kept_anyhow c.run.result _ _ refl;
      made = λ _. refl;
      silent = λ _. refl;
      unread = h.unread;
    })

pub returns-in-States : goal.returns-in-States
returns-in-States g c =
    let h = c.run-in-States.ensures in
    rw c.in-States.is (record {
      answered = told_with _ _ _ refl h.ok;
      refused = refused_with _ _ _ refl h.err;
      kept = λ _. kept_anyhow c.run-in-States.result _ _ refl;
      made = λ _. refl;
      silent = λ _. refl;
      unread = h.unread;
    })

pub returns-in-RunInTurn : goal.returns-in-RunInTurn
returns-in-RunInTurn g c =
    let h = c.run-in-RunInTurn.ensures in
    rw c.in-RunInTurn.is (record {
      answered = h.ok;
      refused = h.err;
      kept = λ _. h.kept;
      made = λ none. ap g.D.Disk.holds (h.printed none);
      silent = λ _. refl;
      unread = h.unread;
    })

pub returns-in-StepStates : goal.returns-in-StepStates
returns-in-StepStates g c =
    let h = c.run-in-StepStates.ensures in
    rw c.in-StepStates.is (record {
      answered = told_with _ _ _ refl h.ok;
      refused = refused_with _ _ _ refl h.err;
      kept = λ _. kept_anyhow c.run-in-StepStates.result _ _ refl;
      made = λ _. refl;
      silent = λ _. refl;
      unread = λ _. refl;
    })

pub returns-in-Drawn : goal.returns-in-Drawn
returns-in-Drawn g c =
    let h = c.run-in-Drawn.ensures in
    rw c.in-Drawn.is (record {
      answered = told_with _ _ _ refl h.ok;
      refused = refused_with _ _ _ refl h.err;
      kept = λ _. kept_anyhow c.run-in-Drawn.result _ _ refl;
      made = λ _. refl;
      silent = λ _. refl;
      unread = λ _. refl;
    })

pub returns-in-Settings : goal.returns-in-Settings
returns-in-Settings g c =
    let h = c.run-in-Settings.ensures in
    rw c.in-Settings.is (record {
      answered = told_with _ _ _ refl h.ok;
      refused = refused_with _ _ _ refl h.err;
      kept = λ _. kept_anyhow c.run-in-Settings.result _ _ refl;
      made = λ _. refl;
      silent = λ _. refl;
      unread = λ _. refl;
    })
