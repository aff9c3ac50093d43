use Rattle.std.proofs.Common.{◌≡◌, ◌<◌, ◌≤◌, length, subst, arith, List}
use Rattle.std.proofs.lemmas.List.{length-map}
use Rattle.held_locks.specs.Kept.{LockView}
use Rattle.held_locks.specs.Asked.{asked, IsAnswerTo, events_at}
use Rattle.std.specs.Prelude.{slice_get}
use Rattle.held_locks.specs.Holding.{IsSameBut}
use Rattle.held_locks.specs.Parts.{view_of, views_of}
use Rattle.held_locks.proofs.Asking.{nowhere, none_there, some_there, parts_long, as_answer}
use Rattle.held_locks.proofs.Listing.{answer_same, as_many, whole_again}
use Rattle.held_locks.proofs.locks.Locks.ask.Goals as goal

pub returns-then-lock-len-clause-answer : goal.returns-then-lock-len-clause-answer
returns-then-lock-len-clause-answer c =
    let past : length c.self.inside.locks.items ≤ c.args.lock = let n = c.len.ensures in let k = c.self.inside.locks.ok.0 in let f = c.if-lock-len.true in omega arith in
    subst (λ (x : List LockView). IsAnswerTo x x c.args.client c.args.lock (asked c.args.ask) c.no_lock.result.answers) c.self.view_is
    (nowhere (views_of c.self.inside.locks.items) c.self.inside.waits c.args.client c.args.lock (asked c.args.ask) c.no_lock.result.answers c.self.invariant.kept (omega (arith, length-map c.self.inside.locks.items view_of, past)) c.no_lock.ensures.answers)

pub returns-then-lock-len-clause-before : goal.returns-then-lock-len-clause-before
returns-then-lock-len-clause-before c =
    let past : length c.self.inside.locks.items ≤ c.args.lock = let n = c.len.ensures in let k = c.self.inside.locks.ok.0 in let f = c.if-lock-len.true in omega arith in
    subst (λ (x : List LockView). c.no_lock.result.before ≡ events_at (slice_get x c.args.lock)) c.self.view_is
    (none_there (views_of c.self.inside.locks.items) c.args.lock c.no_lock.result.before (omega (arith, length-map c.self.inside.locks.items view_of, past)) c.no_lock.ensures.none.0)

pub returns-then-lock-len-clause-after : goal.returns-then-lock-len-clause-after
returns-then-lock-len-clause-after c =
    let past : length c.self.inside.locks.items ≤ c.args.lock = let n = c.len.ensures in let k = c.self.inside.locks.ok.0 in let f = c.if-lock-len.true in omega arith in
    subst (λ (x : List LockView). c.no_lock.result.after ≡ events_at (slice_get x c.args.lock)) c.self.view_is
    (none_there (views_of c.self.inside.locks.items) c.args.lock c.no_lock.result.after (omega (arith, length-map c.self.inside.locks.items view_of, past)) c.no_lock.ensures.none.1)

pub returns-clause-before : goal.returns-clause-before
returns-clause-before c =
    let below : c.args.lock < length c.self.inside.locks.items = let n = c.len.ensures in let k = c.self.inside.locks.ok.0 in let f = c.if-lock-len.false in omega arith in
    subst (λ (x : List LockView). c.events_of-before.result ≡ events_at (slice_get x c.args.lock)) c.self.view_is
    (some_there c.self.inside.locks.items c.args.lock c.events_of-before.result c.index.result.now below c.index.ensures c.events_of-before.ensures)

pub returns-clause-after : goal.returns-clause-after
returns-clause-after c =
    let below : c.args.lock < length c.self.inside.locks.items = let n = c.len.ensures in let k = c.self.inside.locks.ok.0 in let f = c.if-lock-len.false in omega arith in
    let long = parts_long c.self.inside.locks.items c.ask_among-answers.new.locks.items c.args.client c.args.lock (asked c.args.ask) c.ask_among-answers.result c.ask_among-answers.ensures.0 in
    some_there c.ask_among-answers.new.locks.items c.args.lock c.events_of-after.result c.index-2.result.now (omega (arith, long, below)) c.index-2.ensures c.events_of-after.ensures

pub follow-requires : goal.follow-requires
follow-requires c =
    let old = c.self.inside.locks.items in
    let new = c.ask_among-answers.new.locks.items in
    let same : IsSameBut c.args.lock (views_of old) (views_of new) = answer_same (views_of old) (views_of new) c.args.client c.args.lock (asked c.args.ask) c.ask_among-answers.result (as_answer (views_of old) (views_of new) c.args.client c.args.lock (asked c.args.ask) c.ask_among-answers.result c.ask_among-answers.ensures.0) in
    as_many old new c.as_slice.result.now c.self.inside.holds c.args.lock c.as_slice.ensures.value c.self.invariant.holders same

pub index-requires-2 : goal.index-requires-2
index-requires-2 c =
    let below : c.args.lock < length c.self.inside.locks.items = let n = c.len.ensures in let k = c.self.inside.locks.ok.0 in let f = c.if-lock-len.false in omega arith in
    let long = parts_long c.self.inside.locks.items c.ask_among-answers.new.locks.items c.args.client c.args.lock (asked c.args.ask) c.ask_among-answers.result c.ask_among-answers.ensures.0 in
    omega (arith, long, below)

pub invariant_of-self : goal.invariant_of-self
invariant_of-self c =
    let old = c.self.inside.locks.items in
    let new = c.ask_among-answers.new.locks.items in
    let same : IsSameBut c.args.lock (views_of old) (views_of new) = answer_same (views_of old) (views_of new) c.args.client c.args.lock (asked c.args.ask) c.ask_among-answers.result (as_answer (views_of old) (views_of new) c.args.client c.args.lock (asked c.args.ask) c.ask_among-answers.result c.ask_among-answers.ensures.0) in
    whole_again old new c.as_slice.result.now c.self.inside.waits c.ask_among-answers.new.waits c.self.inside.holds c.follow.new.holds _ c.args.lock c.as_slice.ensures.value c.self.invariant c.ask_among-answers.ensures.1 same c.follow.ensures
