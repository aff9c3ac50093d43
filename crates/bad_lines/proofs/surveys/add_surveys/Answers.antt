use Rattle.std.proofs.Common.{refl}
use Rattle.bad_lines.proofs.EventLines.{stands_first}
use Rattle.bad_lines.proofs.SurveyLines.{survey_first, survey_next, surveys_all}
use Rattle.bad_lines.proofs.surveys.add_surveys.Goals as goal

pub loop-i-init : goal.loop-i-init
loop-i-init c =
    survey_first c.args.line c.args.start.now c.args.events.now c.args.surveys.now c.args.out.now.items _ refl refl
    (stands_first c.args.start.now _ c.in_ok-replay.ensures.state c.in_ok-replay.ensures.calm)

pub loop-i-preserved : goal.loop-i-preserved
loop-i-preserved c =
    survey_next c.args.line c.args.start.now c.args.events.now c.args.surveys.now c.args.out.now.items c.loop-i.i _ c.loop-i-test.true c.loop-i.mark c.judge.new.mark c.loop-i.out.items c.tell.new.out.items
    c.in_ok-bad.bad c.loop-i.invariant c.in_ok-bad.ensures.mark c.in_ok-bad.ensures.bad c.in_ok-bad.ensures.next c.in_ok-tell.ensures

pub returns : goal.returns
returns c = surveys_all c.args.line c.args.start.now c.args.events.now c.args.surveys.now c.args.out.now.items c.loop-i.i c.loop-i.mark c.loop-i.out.items c.loop-i-test.false c.loop-i.invariant
