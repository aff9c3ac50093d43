use Rattle.std.proofs.Common.{◌+◌, ◌∙◌, map, get_or, sym, refl, arith}
use Rattle.std.proofs.lemmas.List.{length-map}
use Rattle.ring_check.specs.declared.answers.Kind.TheVariants.{Range, Survey}
use Rattle.ring_check.specs.Table.{event_of}
use Rattle.ring_check.proofs.SurveyLines.{in_surveys, blank, seat_bad, place_bad, back_bad, answer_bad, survey_fine, surveyed_by, surveys_bad, surveys_good, surveys_end, reading_of}
use Rattle.ring_check.proofs.surveys.check_surveys.Goals as goal
use Rattle.ring_check.proofs.surveys.check_surveys.Goals.{then-survey-events-via-then-survey-events, then-survey-events-via-else-survey-events+then-not-is_onward}

pub returns-then-survey-ge-SEAT_LIMIT : goal.returns-then-survey-ge-SEAT_LIMIT
returns-then-survey-ge-SEAT_LIMIT c = λ version rings.
    rw (surveys_bad c.args.line c.args.k c.args.start.now c.args.events.now c.args.surveys.now c.loop-i.i c.loop-i.seat c.loop-i.position blank c.loop-i-test.true c.loop-i.reading c.loop-i.invariant
    Range (λ version rings. seat_bad (in_surveys version (c.args.line + c.loop-i.i) rings c.args.k c.args.start.now (map event_of c.args.events.now) c.loop-i.seat c.loop-i.position) (get_or c.args.surveys.now c.loop-i.i blank) c.if-survey-ge-SEAT_LIMIT.true) version rings)
    (refl, refl)

pub returns-then-survey-events : goal.returns-then-survey-events
returns-then-survey-events c = λ version rings.
    let n = length-map c.args.events.now event_of in
    rw (surveys_bad c.args.line c.args.k c.args.start.now c.args.events.now c.args.surveys.now c.loop-i.i c.loop-i.seat c.loop-i.position blank c.loop-i-test.true c.loop-i.reading c.loop-i.invariant
    Survey (λ version rings. elim c.then-survey-events.branch [
      | then-survey-events-via-then-survey-events w ↦
          place_bad (in_surveys version (c.args.line + c.loop-i.i) rings c.args.k c.args.start.now (map event_of c.args.events.now) c.loop-i.seat c.loop-i.position) (get_or c.args.surveys.now c.loop-i.i blank) c.if-survey-ge-SEAT_LIMIT.false (omega (arith, n, w.if-survey-events.true))
      | then-survey-events-via-else-survey-events+then-not-is_onward w ↦
          back_bad (in_surveys version (c.args.line + c.loop-i.i) rings c.args.k c.args.start.now (map event_of c.args.events.now) c.loop-i.seat c.loop-i.position) (get_or c.args.surveys.now c.loop-i.i blank) c.if-survey-ge-SEAT_LIMIT.false
          (sym w.is_onward.ensures ∙ w.if-not-is_onward.true)
    ]) version rings)
    (refl, refl)

pub returns-then-not-is_right : goal.returns-then-not-is_right
returns-then-not-is_right c = λ version rings.
    rw (surveys_bad c.args.line c.args.k c.args.start.now c.args.events.now c.args.surveys.now c.loop-i.i c.loop-i.seat c.loop-i.position blank c.loop-i-test.true c.loop-i.reading c.loop-i.invariant
    Survey (λ version rings. answer_bad (in_surveys version (c.args.line + c.loop-i.i) rings c.args.k c.args.start.now (map event_of c.args.events.now) c.loop-i.seat c.loop-i.position) (get_or c.args.surveys.now c.loop-i.i blank) c.if-survey-ge-SEAT_LIMIT.false
    (surveyed_by version (c.args.line + c.loop-i.i) rings c.args.k c.args.start.now c.args.events.now c.loop-i.seat c.loop-i.position (get_or c.args.surveys.now c.loop-i.i blank) c.go_to.new.self c.is_right.result
    (reading_of c.loop-i.reading.replay.k c.args.k c.args.start.now c.args.events.now c.go_to.new.self c.loop-i.invariant.same_k c.in-Ok-go_to.ensures.0) c.in-Ok-go_to.ensures.1 c.is_right.ensures ∙ c.if-not-is_right.true)) version rings)
    (refl, refl)

pub loop-i-preserved : goal.loop-i-preserved
loop-i-preserved c =
    surveys_good c.args.line c.args.k c.args.start.now c.args.events.now c.args.surveys.now c.loop-i.i c.loop-i.seat c.loop-i.position blank c.loop-i-test.true c.loop-i.reading c.loop-i.invariant
    c.go_to.new.self
    (λ version rings. survey_fine (in_surveys version (c.args.line + c.loop-i.i) rings c.args.k c.args.start.now (map event_of c.args.events.now) c.loop-i.seat c.loop-i.position) (get_or c.args.surveys.now c.loop-i.i blank) c.if-survey-ge-SEAT_LIMIT.false
    (sym c.is_onward.ensures ∙ c.if-not-is_onward.false)
    (surveyed_by version (c.args.line + c.loop-i.i) rings c.args.k c.args.start.now c.args.events.now c.loop-i.seat c.loop-i.position (get_or c.args.surveys.now c.loop-i.i blank) c.go_to.new.self c.is_right.result
    (reading_of c.loop-i.reading.replay.k c.args.k c.args.start.now c.args.events.now c.go_to.new.self c.loop-i.invariant.same_k c.in-Ok-go_to.ensures.0) c.in-Ok-go_to.ensures.1 c.is_right.ensures ∙ c.if-not-is_right.false))
    (reading_of c.loop-i.reading.replay.k c.args.k c.args.start.now c.args.events.now c.go_to.new.self c.loop-i.invariant.same_k c.in-Ok-go_to.ensures.0)

pub returns : goal.returns
returns c = λ version rings.
    rw (surveys_end c.args.line c.args.k c.args.start.now c.args.events.now c.args.surveys.now c.loop-i.i c.loop-i.seat c.loop-i.position c.loop-i.reading c.loop-i-test.false c.loop-i.invariant version rings) tt
