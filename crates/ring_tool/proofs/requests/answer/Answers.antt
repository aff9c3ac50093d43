use Rattle.std.proofs.Common.{ap, refl, List, ℕ, Option}
use Rattle.folder_commands.specs.JoinedFolder.{IsJoinAnswer, IsJoinRefusal}
use Rattle.tool_parts.specs.Worlds.{world}
use Rattle.tool_parts.specs.declared.faults.ToolError.{ToolError}
use Rattle.ring_tool.proofs.Requested.{told, refused, told_with, refused_with, kept_anyhow}
use Rattle.ring_tool.proofs.requests.answer.Goals as goal

pub returns-in-Step : goal.returns-in-Step
returns-in-Step g c =
    let h = c.run.ensures in
    rw c.in-Step.is (record {
      answered = told_with _ _ _ refl h.ok;
      refused = refused_with _ _ _ refl h.err;
      kept = λ _. kept_anyhow c.run.result _ _ refl;
      made = λ _. refl;
      silent = λ _. refl;
      unread = λ _. refl;
    })

pub returns-in-Run : goal.returns-in-Run
returns-in-Run g c =
    let h = c.run-in-Run.ensures in
    rw c.in-Run.is (record {
      answered = h.ok;
      refused = h.err;
      kept = λ _. h.kept;
      made = λ none. ap g.D.Disk.holds (h.printed none);
      silent = λ _. refl;
      unread = h.unread;
    })

pub returns-in-Check : goal.returns-in-Check
returns-in-Check g c =
    let h = c.run-in-Check.ensures in
    rw c.in-Check.is (record {
      answered = told_with _ _ _ refl h.ok;
      refused = refused_with _ _ _ refl h.err;
      kept = λ _. kept_anyhow c.run-in-Check.result _ _ refl;
      made = λ _. refl;
      silent = λ _. refl;
      unread = h.unread;
    })

pub returns-in-CheckAll : goal.returns-in-CheckAll
returns-in-CheckAll g c =
    let h = c.run-in-CheckAll.ensures in
    rw c.in-CheckAll.is (record {
      answered = told_with _ _ _ refl h.ok;
      refused = refused_with _ _ _ refl h.err;
      kept = λ _. kept_anyhow c.run-in-CheckAll.result _ _ refl;
      made = λ _. refl;
      silent = λ _. refl;
      unread = h.unread;
    })

pub returns-in-Report : goal.returns-in-Report
returns-in-Report g c =
    let h = c.run-in-Report.ensures in
    rw c.in-Report.is (record {
      answered = told_with _ _ _ refl h.ok;
      refused = refused_with _ _ _ refl h.err;
      kept = λ _. kept_anyhow c.run-in-Report.result _ _ refl;
      made = λ _. refl;
      silent = λ _. refl;
      unread = h.unread;
    })

pub returns-in-Picture : goal.returns-in-Picture
returns-in-Picture g c =
    let h = c.run-in-Picture.ensures in
    rw c.in-Picture.is (record {
      answered = h.ok;
      refused = h.err;
      kept = λ _. h.kept;
      made = λ none. ap g.D.Disk.holds (h.printed none);
      silent = h.silent;
      unread = h.unread;
    })

pub returns-in-Upgrade : goal.returns-in-Upgrade
returns-in-Upgrade g c =
    let h = c.run-in-Upgrade.ensures in
    rw c.in-Upgrade.is (record {
      answered = h.ok;
      refused = h.err;
      kept = λ _. h.kept;
      made = λ none. ap g.D.Disk.holds (h.printed none);
      silent = h.silent;
      unread = h.unread;
    })

pub returns-in-Recover : goal.returns-in-Recover
returns-in-Recover g c =
    let h = c.run-in-Recover.ensures in
    rw c.in-Recover.is (record {
      answered = h.ok;
      refused = h.err;
      kept = λ _. h.kept;
      made = λ none. ap g.D.Disk.holds (h.printed none);
      silent = h.silent;
      unread = h.unread;
    })

pub returns-in-Join : goal.returns-in-Join
returns-in-Join g c =
    let h = c.run-in-Join.ensures in
    rw c.in-Join.is (record {
      answered = told _ (λ (early late : Option (List ℕ)). IsJoinAnswer c.in-Join.words (world (g.D.Disk.holds c.args.disk.now) early (g.O.Write.contents c.args.out.now) (g.E.Write.contents c.args.err.now)) (world (g.D.Disk.holds c.run-in-Join.new.disk) late (g.O.Write.contents c.run-in-Join.new.out) (g.E.Write.contents c.run-in-Join.new.err))) (g.I.Read.remaining c.args.input.now) (g.I.Read.remaining c.args.input.now) h.ok;
      refused = refused _ (λ (e : ToolError) (early late : Option (List ℕ)). IsJoinRefusal c.in-Join.words (world (g.D.Disk.holds c.args.disk.now) early (g.O.Write.contents c.args.out.now) (g.E.Write.contents c.args.err.now)) (world (g.D.Disk.holds c.run-in-Join.new.disk) late (g.O.Write.contents c.run-in-Join.new.out) (g.E.Write.contents c.run-in-Join.new.err)) e) (g.I.Read.remaining c.args.input.now) (g.I.Read.remaining c.args.input.now) h.err;
      kept = λ _. h.kept;
      made = λ none. ap g.D.Disk.holds (h.printed none);
      silent = h.silent;
      unread = λ _. refl;
    })

pub returns-in-New : goal.returns-in-New
returns-in-New g c =
    let h = c.run-in-New.ensures in
    rw c.in-New.is (record {
      answered = told_with _ _ _ refl h.ok;
      refused = refused_with _ _ _ refl h.err;
      kept = λ _. kept_anyhow c.run-in-New.result _ _ refl;
      made = λ _. refl;
      silent = λ _. refl;
      unread = λ _. refl;
    })

pub returns-in-Serve : goal.returns-in-Serve
returns-in-Serve g c =
    let h = c.run-in-Serve.ensures in
    rw c.in-Serve.is (record {
      answered = h.ok;
      refused = h.err;
      kept = λ other. absurd (other tt);
      made = λ none. absurd none;
      silent = λ none. absurd none;
      unread = λ none. absurd none;
    })

pub returns-in-Locks : goal.returns-in-Locks
returns-in-Locks g c =
    let h = c.run-in-Locks.ensures in
    rw c.in-Locks.is (record {
      answered = h.ok;
      refused = h.err;
      kept = λ other. absurd (other tt);
      made = λ none. absurd none;
      silent = λ none. absurd none;
      unread = λ none. absurd none;
    })

pub returns-in-Holds : goal.returns-in-Holds
returns-in-Holds g c =
    let h = c.run-in-Holds.ensures in
    rw c.in-Holds.is (record {
      answered = told_with _ _ _ refl h.ok;
      refused = refused_with _ _ _ refl h.err;
      kept = λ _. kept_anyhow c.run-in-Holds.result _ _ refl;
      made = λ _. refl;
      silent = λ _. refl;
      unread = h.unread;
    })
