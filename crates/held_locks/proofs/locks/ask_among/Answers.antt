use Rattle.std.proofs.Common.{◌≡◌, ◌<◌, ◌+◌, length, refl, sym, subst, ◌∙◌, ap, Some, List, Option, []}
use Rattle.std.specs.Prelude.{slice_get, slice_set}
use Rattle.held_locks.specs.declared.answers.Refusal.{Refusal}
use Rattle.held_locks.specs.declared.asks.OneAsk.{OneAsk}
use Rattle.held_locks.specs.declared.parts.LockParts.{LockParts}
use Rattle.held_locks.specs.Locks.{Acquire, Try, Release, Cancel, Corrupt, Stats, acquired, tried, acquire_refusal, turn}
use Rattle.held_locks.specs.Kept.{AreKept, lock_of, locks_of, need}
use Rattle.held_locks.specs.Asked.{asked, IsAnswerTo}
use Rattle.held_locks.specs.Parts.{view_of, views_of}
use Rattle.held_locks.proofs.Lifting.{lifted_parts, lifted_done, parts_same, part_at, lock_kept, lock_settled}
use Rattle.held_locks.proofs.locks.ask_among.Goals as goal

pub acquire-requires-clause-kept : goal.acquire-requires-clause-kept
acquire-requires-clause-kept c =
    let below : c.args.lock < length c.args.locks.now.items = c.requires.there in
    let at = part_at c.args.locks.now.items c.args.lock c.index_mut.result.now below c.index_mut.ensures.value in
    lock_kept c.args.locks.now.items c.args.waits.now c.args.lock c.index_mut.result.now c.requires.kept at

pub acquire-requires-clause-settled : goal.acquire-requires-clause-settled
acquire-requires-clause-settled c =
    let below : c.args.lock < length c.args.locks.now.items = c.requires.there in
    let at = part_at c.args.locks.now.items c.args.lock c.index_mut.result.now below c.index_mut.ensures.value in
    lock_settled c.args.locks.now.items c.args.waits.now c.args.lock c.index_mut.result.now c.requires.kept at

pub try_acquire-requires-clause-kept : goal.try_acquire-requires-clause-kept
try_acquire-requires-clause-kept c =
    let below : c.args.lock < length c.args.locks.now.items = c.requires.there in
    let at = part_at c.args.locks.now.items c.args.lock c.index_mut-in-Try.result.now below c.index_mut-in-Try.ensures.value in
    lock_kept c.args.locks.now.items c.args.waits.now c.args.lock c.index_mut-in-Try.result.now c.requires.kept at

pub try_acquire-requires-clause-settled : goal.try_acquire-requires-clause-settled
try_acquire-requires-clause-settled c =
    let below : c.args.lock < length c.args.locks.now.items = c.requires.there in
    let at = part_at c.args.locks.now.items c.args.lock c.index_mut-in-Try.result.now below c.index_mut-in-Try.ensures.value in
    lock_settled c.args.locks.now.items c.args.waits.now c.args.lock c.index_mut-in-Try.result.now c.requires.kept at

pub release-requires-clause-kept : goal.release-requires-clause-kept
release-requires-clause-kept c =
    let below : c.args.lock < length c.args.locks.now.items = c.requires.there in
    let at = part_at c.args.locks.now.items c.args.lock c.index_mut-in-Release.result.now below c.index_mut-in-Release.ensures.value in
    lock_kept c.args.locks.now.items c.args.waits.now c.args.lock c.index_mut-in-Release.result.now c.requires.kept at

pub release-requires-clause-settled : goal.release-requires-clause-settled
release-requires-clause-settled c =
    let below : c.args.lock < length c.args.locks.now.items = c.requires.there in
    let at = part_at c.args.locks.now.items c.args.lock c.index_mut-in-Release.result.now below c.index_mut-in-Release.ensures.value in
    lock_settled c.args.locks.now.items c.args.waits.now c.args.lock c.index_mut-in-Release.result.now c.requires.kept at

pub cancel-requires-clause-kept : goal.cancel-requires-clause-kept
cancel-requires-clause-kept c =
    let below : c.args.lock < length c.args.locks.now.items = c.requires.there in
    let at = part_at c.args.locks.now.items c.args.lock c.index_mut-in-Cancel.result.now below c.index_mut-in-Cancel.ensures.value in
    lock_kept c.args.locks.now.items c.args.waits.now c.args.lock c.index_mut-in-Cancel.result.now c.requires.kept at

pub cancel-requires-clause-waiting : goal.cancel-requires-clause-waiting
cancel-requires-clause-waiting c =
    let below : c.args.lock < length c.args.locks.now.items = c.requires.there in
    let at = part_at c.args.locks.now.items c.args.lock c.index_mut-in-Cancel.result.now below c.index_mut-in-Cancel.ensures.value in
    let there : slice_get c.deref-in-Cancel.result.now c.args.lock ≡ Some c.index_mut-in-Cancel.result.now = ap (λ (x : List LockParts). slice_get x c.args.lock) c.deref-in-Cancel.ensures.value ∙ at in
    c.stands_at-waiting.ensures c.index_mut-in-Cancel.result.now there

pub corrupt-requires : goal.corrupt-requires
corrupt-requires c =
    let below : c.args.lock < length c.args.locks.now.items = c.requires.there in
    let at = part_at c.args.locks.now.items c.args.lock c.index_mut-in-Corrupt.result.now below c.index_mut-in-Corrupt.ensures.value in
    lock_kept c.args.locks.now.items c.args.waits.now c.args.lock c.index_mut-in-Corrupt.result.now c.requires.kept at

pub stats-requires : goal.stats-requires
stats-requires c =
    let below : c.args.lock < length c.args.locks.now.items = c.requires.there in
    lock_kept c.args.locks.now.items c.args.waits.now c.args.lock c.index.result.now c.requires.kept (part_at c.args.locks.now.items c.args.lock c.index.result.now below c.index.ensures)

pub returns-in-Acquire : goal.returns-in-Acquire
returns-in-Acquire c =
    let below : c.args.lock < length c.args.locks.now.items = c.requires.there in
    let at = part_at c.args.locks.now.items c.args.lock c.index_mut.result.now below c.index_mut.ensures.value in
    let there : slice_get c.deref.result.now c.args.lock ≡ Some c.index_mut.result.now = ap (λ (x : List LockParts). slice_get x c.args.lock) c.deref.ensures.value ∙ at in
    let why = c.acquire_refusal-why.ensures.is c.index_mut.result.now there ∙ ap (λ (x : List LockParts). acquire_refusal (locks_of (views_of x)) (lock_of (view_of c.index_mut.result.now)) c.args.client) c.deref.ensures.value in
    subst (λ (a : OneAsk). IsAnswerTo (views_of c.args.locks.now.items) (views_of (slice_set c.args.locks.now.items c.args.lock c.acquire.new.lock)) c.args.client c.args.lock (asked a) c.acquire.result × AreKept (views_of (slice_set c.args.locks.now.items c.args.lock c.acquire.new.lock)) c.acquire.new.waits) (sym c.in-Acquire.is)
    (lifted_parts c.args.locks.now.items (slice_set c.args.locks.now.items c.args.lock c.acquire.new.lock) c.args.waits.now c.acquire.new.waits c.args.client c.args.lock (Acquire c.in-Acquire.label) c.index_mut.result.now c.acquire.new.lock
    (acquired (lock_of (view_of c.index_mut.result.now)) (record { client = c.args.client; label = c.in-Acquire.label }) c.acquire_refusal-why.result) (length c.index_mut.result.now.queue.items + 1) c.acquire.result c.requires.kept at refl
    (ap (λ (x : Option Refusal). acquired (lock_of (view_of c.index_mut.result.now)) (record { client = c.args.client; label = c.in-Acquire.label }) x) why) refl c.acquire.ensures)

pub returns-in-Try : goal.returns-in-Try
returns-in-Try c =
    let below : c.args.lock < length c.args.locks.now.items = c.requires.there in
    let at = part_at c.args.locks.now.items c.args.lock c.index_mut-in-Try.result.now below c.index_mut-in-Try.ensures.value in
    let there : slice_get c.deref-in-Try.result.now c.args.lock ≡ Some c.index_mut-in-Try.result.now = ap (λ (x : List LockParts). slice_get x c.args.lock) c.deref-in-Try.ensures.value ∙ at in
    let why = c.try_refusal-why.ensures c.index_mut-in-Try.result.now there in
    subst (λ (a : OneAsk). IsAnswerTo (views_of c.args.locks.now.items) (views_of (slice_set c.args.locks.now.items c.args.lock c.try_acquire.new.lock)) c.args.client c.args.lock (asked a) c.try_acquire.result × AreKept (views_of (slice_set c.args.locks.now.items c.args.lock c.try_acquire.new.lock)) c.args.waits.now) (sym c.in-Try.is)
    (lifted_parts c.args.locks.now.items (slice_set c.args.locks.now.items c.args.lock c.try_acquire.new.lock) c.args.waits.now c.args.waits.now c.args.client c.args.lock (Try c.in-Try.label) c.index_mut-in-Try.result.now c.try_acquire.new.lock
    (tried (lock_of (view_of c.index_mut-in-Try.result.now)) (record { client = c.args.client; label = c.in-Try.label }) c.try_refusal-why.result) (length c.index_mut-in-Try.result.now.queue.items + 1) c.try_acquire.result c.requires.kept at refl
    (ap (λ (x : Option Refusal). tried (lock_of (view_of c.index_mut-in-Try.result.now)) (record { client = c.args.client; label = c.in-Try.label }) x) why) refl (c.try_acquire.ensures c.args.lock c.args.waits.now))

pub returns-in-Release : goal.returns-in-Release
returns-in-Release c =
    let below : c.args.lock < length c.args.locks.now.items = c.requires.there in
    let at = part_at c.args.locks.now.items c.args.lock c.index_mut-in-Release.result.now below c.index_mut-in-Release.ensures.value in
    subst (λ (a : OneAsk). IsAnswerTo (views_of c.args.locks.now.items) (views_of (slice_set c.args.locks.now.items c.args.lock c.release.new.lock)) c.args.client c.args.lock (asked a) c.release.result × AreKept (views_of (slice_set c.args.locks.now.items c.args.lock c.release.new.lock)) c.release.new.waits) (sym c.in-Release.is)
    (lifted_done c.args.locks.now.items (slice_set c.args.locks.now.items c.args.lock c.release.new.lock) c.args.waits.now c.release.new.waits c.args.client c.args.lock (Release c.in-Release.token) c.index_mut-in-Release.result.now c.release.new.lock
    (turn [] (lock_of (view_of c.index_mut-in-Release.result.now)) c.args.client (Release c.in-Release.token)) c.release.result c.requires.kept at refl refl c.release.ensures)

pub returns-in-Cancel : goal.returns-in-Cancel
returns-in-Cancel c =
    let below : c.args.lock < length c.args.locks.now.items = c.requires.there in
    let at = part_at c.args.locks.now.items c.args.lock c.index_mut-in-Cancel.result.now below c.index_mut-in-Cancel.ensures.value in
    subst (λ (a : OneAsk). IsAnswerTo (views_of c.args.locks.now.items) (views_of (slice_set c.args.locks.now.items c.args.lock c.cancel.new.lock)) c.args.client c.args.lock (asked a) c.cancel.result × AreKept (views_of (slice_set c.args.locks.now.items c.args.lock c.cancel.new.lock)) c.cancel.new.waits) (sym c.in-Cancel.is)
    (lifted_done c.args.locks.now.items (slice_set c.args.locks.now.items c.args.lock c.cancel.new.lock) c.args.waits.now c.cancel.new.waits c.args.client c.args.lock Cancel c.index_mut-in-Cancel.result.now c.cancel.new.lock
    (turn [] (lock_of (view_of c.index_mut-in-Cancel.result.now)) c.args.client Cancel) c.cancel.result c.requires.kept at refl refl c.cancel.ensures)

pub returns-in-Corrupt : goal.returns-in-Corrupt
returns-in-Corrupt c =
    let below : c.args.lock < length c.args.locks.now.items = c.requires.there in
    let at = part_at c.args.locks.now.items c.args.lock c.index_mut-in-Corrupt.result.now below c.index_mut-in-Corrupt.ensures.value in
    subst (λ (a : OneAsk). IsAnswerTo (views_of c.args.locks.now.items) (views_of (slice_set c.args.locks.now.items c.args.lock c.corrupt.new.lock)) c.args.client c.args.lock (asked a) c.corrupt.result × AreKept (views_of (slice_set c.args.locks.now.items c.args.lock c.corrupt.new.lock)) c.args.waits.now) (sym c.in-Corrupt.is)
    (lifted_parts c.args.locks.now.items (slice_set c.args.locks.now.items c.args.lock c.corrupt.new.lock) c.args.waits.now c.args.waits.now c.args.client c.args.lock (Corrupt c.in-Corrupt.machine c.in-Corrupt.value) c.index_mut-in-Corrupt.result.now c.corrupt.new.lock
    (turn [] (lock_of (view_of c.index_mut-in-Corrupt.result.now)) c.args.client (Corrupt c.in-Corrupt.machine c.in-Corrupt.value)) (need (view_of c.index_mut-in-Corrupt.result.now) (Corrupt c.in-Corrupt.machine c.in-Corrupt.value)) c.corrupt.result c.requires.kept at refl refl refl (c.corrupt.ensures c.args.lock c.args.waits.now))

pub returns-in-Stats : goal.returns-in-Stats
returns-in-Stats c =
    let below : c.args.lock < length c.args.locks.now.items = c.requires.there in
    let at = part_at c.args.locks.now.items c.args.lock c.index.result.now below c.index.ensures in
    subst (λ (a : OneAsk). IsAnswerTo (views_of c.args.locks.now.items) (views_of c.args.locks.now.items) c.args.client c.args.lock (asked a) c.stats.result × AreKept (views_of c.args.locks.now.items) c.args.waits.now) (sym c.in-Stats.is)
    (lifted_done c.args.locks.now.items c.args.locks.now.items c.args.waits.now c.args.waits.now c.args.client c.args.lock Stats c.index.result.now c.index.result.now (turn [] (lock_of (view_of c.index.result.now)) c.args.client Stats) c.stats.result c.requires.kept at
    (parts_same c.args.locks.now.items c.args.lock c.index.result.now at) refl (c.stats.ensures c.args.lock c.args.client c.args.waits.now))
