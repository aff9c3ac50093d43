use Rattle.std.proofs.Common.{length, refl}
use Rattle.bad_lines.proofs.SurveyLines.{out_of_place, in_place, answered}
use Rattle.bad_lines.proofs.surveys.judge.Goals as goal

pub returns-in-Some-clause-bad : goal.returns-in-Some-clause-bad
returns-in-Some-clause-bad c = λ version line rings.
    (out_of_place c.args.start.now c.args.events.now (length c.args.events.now) refl version line rings c.args.mark.now.seat c.args.mark.now.position c.args.survey.now c.in-Some.bad c.in-Some.ensures).0

pub returns-in-Some-clause-next : goal.returns-in-Some-clause-next
returns-in-Some-clause-next c = λ version line rings.
    (out_of_place c.args.start.now c.args.events.now (length c.args.events.now) refl version line rings c.args.mark.now.seat c.args.mark.now.position c.args.survey.now c.in-Some.bad c.in-Some.ensures).1

pub returns-clause-bad : goal.returns-clause-bad
returns-clause-bad c = λ version line rings.
    answered c.args.start.now c.args.events.now (length c.args.events.now) refl version line rings c.args.mark.now.seat c.args.mark.now.position c.args.survey.now
    c.go_to.new.replay c.left_after-left.result c.survey-should.result c.answer_fault.result c.in_default.ensures c.in_ok-go_to.ensures c.left_after-left.ensures c.survey-should.ensures c.answer_fault.ensures

pub returns-clause-next : goal.returns-clause-next
returns-clause-next c = λ version line rings.
    (in_place c.args.start.now c.args.events.now (length c.args.events.now) refl version line rings c.args.mark.now.seat c.args.mark.now.position c.args.survey.now c.in_default.ensures).1
