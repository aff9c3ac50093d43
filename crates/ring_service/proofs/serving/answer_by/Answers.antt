use Rattle.std.proofs.Common.{◌≡◌, ℕ, Bool, true, List, [], ◌++◌, cond, Option, None, Some, refl, sym, ap, ◌∙◌, subst, inl}
use Rattle.std.specs.Prelude.{is_some, OnOk}
use Rattle.std.specs.Option.{option_map}
use Rattle.line_service.proofs.Telling.{both_ok}
use Rattle.ring_service.specs.Answers.{answer_line}
use Rattle.ring_service.specs.Notes.{notes_of}
use Rattle.ring_service.specs.declared.rules.JournalFile.{JournalFile}
use Rattle.ring_service.specs.Permits.{journal_name, terms_by, IsTied}
use Rattle.ring_service.specs.Standings.{Standing}
use Rattle.ring_service.specs.Serving.{IsAnswered, is_stop}
use Rattle.ring_service.specs.Turns.{recorded_among, turn_seen_among}
use Rattle.ring_service.proofs.Shutting.{open_tied, tied_after}
use Rattle.ring_service.proofs.Heeding.{stopped_same, made_by}
use Rattle.ring_service.proofs.serving.answer_by.Goals as goal

-- a journal is kept just if its name is known
named : (x : Option JournalFile) → is_some x ≡ is_some (option_map journal_name x)
named None = refl
named (Some x) = refl

pub returns-then-is_stop-clause-answered : goal.returns-then-is_stop-clause-answered
returns-then-is_stop-clause-answered g c =
    let t = c.turn_on-turn.result in
    let terms = terms_by c.args.rules in
    let stop : is_stop terms t.call.answer ≡ true = sym c.is_stop.ensures ∙ c.if-is_stop.true in
    inl (stopped_same terms.refusing terms.faults terms.strict c.args.served.now c.args.line.now (turn_seen_among t.ring c.turn_on-turn.new.served t.call) c.turn_on-turn.ensures.turn stop, refl)

pub returns-then-is_stop-clause-tied : goal.returns-then-is_stop-clause-tied
returns-then-is_stop-clause-tied g c =
    let t = c.turn_on-turn.result in
    let terms = terms_by c.args.rules in
    let stop : is_stop terms t.call.answer ≡ true = sym c.is_stop.ensures ∙ c.if-is_stop.true in
    let same = stopped_same terms.refusing terms.faults terms.strict c.args.served.now c.args.line.now (turn_seen_among t.ring c.turn_on-turn.new.served t.call) c.turn_on-turn.ensures.turn stop in
    subst (λ (x : List Standing). IsTied terms x _) (sym same) (open_tied terms c.args.served.now c.requires)

pub returns-clause-tied : goal.returns-clause-tied
returns-clause-tied g c =
    let t = c.turn_on-turn.result in
    tied_after (terms_by c.args.rules) c.args.served.now c.turn_on-turn.new.served c.args.line.now t.ring t.call c.is_over.result c.requires c.turn_on-turn.ensures.turn c.turn_on-turn.ensures.due c.is_over.ensures

pub returns-clause-answered : goal.returns-clause-answered
returns-clause-answered g c =
    let t = c.turn_on-turn.result in
    let new = c.turn_on-turn.new.served in
    let all : List ℕ = notes_of (recorded_among t.ring new t.call.trace) in
    let given = c.give-given.result in
    let old = c.args.pending.now in
    let pending = c.add_pending.new.pending in
    let was = g.D.Disk.holds c.args.disk.now in
    let is = g.D.Disk.holds c.give-given.new.disk in
    let notes = subst (λ (k : Bool). OnOk c.add_pending.result (pending.notes.items ≡ old.notes.items ++ cond k all [])) c.is_some.ensures c.add_pending.ensures.notes in
    made_by c.add_pending.result ((new ≡ c.args.served.now) × (is ≡ was)) (λ said noted. IsAnswered (terms_by c.args.rules) c.args.served.now was c.args.line.now said noted new is) old pending
    (answer_line given) (cond (is_some c.args.rules.journal) all [])
    (record { turn = turn_seen_among t.ring new t.call; given = given; goes = c.requires; of_line = c.turn_on-turn.ensures.turn; heeded = sym c.is_stop.ensures ∙ c.if-is_stop.false; gives = c.give-given.ensures.gives; says = refl; notes = ap (λ (k : Bool). cond k all []) (named c.args.rules.journal); leaves = refl })
    (both_ok c.add_pending.result (pending.answers.items ≡ old.answers.items ++ answer_line given) (pending.notes.items ≡ old.notes.items ++ cond (is_some c.args.rules.journal) all []) c.add_pending.ensures.answers notes)
