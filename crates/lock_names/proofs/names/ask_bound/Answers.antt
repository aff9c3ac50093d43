use Rattle.std.proofs.Common.{ℕ, Some, ◌∙◌, ap}
use Rattle.std.specs.Prelude.{slice_set, not}
use Rattle.std.proofs.lemmas.Option.{slice_get_within}
use Rattle.held_locks.specs.Kept.{locks_of}
use Rattle.lock_names.specs.Names.{of_ring, kept, stays}
use Rattle.held_locks.specs.Asked.{asked}
use Rattle.lock_names.specs.Kept.{seen, named_of, bound_by}
use Rattle.name_bindings.proofs.Found.{found_at}
use Rattle.lock_names.specs.declared.replies.NameAnswers.{NameAnswers}
use Rattle.lock_names.proofs.Asking.{answer_within, ready_within, lock_view}
use Rattle.lock_names.proofs.Taking.{told_as, ready_fits, reaches_found, asked_bound, asked_kept, has_events}
use Rattle.lock_names.proofs.names.ask_bound.Goals as goal

pub refused-requires : goal.refused-requires
refused-requires c =
    let v = seen c.args.rings.now c.args.table.now in
    let b = c.requires.ring.0 in
    let re = reaches_found (named_of v) b.name (asked c.args.ask) c.args.ring b c.requires.kept.named c.requires.ring.1 in
    let w = lock_view v.locks c.args.ring re.fits.lock re.fits.there in
    slice_get_within c.args.rings.now.locks c.args.ring w.0 w.1

pub counts-counts-requires : goal.counts-counts-requires
counts-counts-requires c = slice_get_within c.args.table.now c.args.ring (Some c.requires.ring.0) (found_at c.requires.ring.0.name c.args.table.now (c.args.ring, c.requires.ring.0) c.requires.ring.1).entry

pub ask_ring-done-requires : goal.ask_ring-done-requires
ask_ring-done-requires c =
    let v = seen c.args.rings.now c.args.table.now in
    let b = c.requires.ring.0 in
    let re = reaches_found (named_of v) b.name (asked c.args.ask) c.args.ring b c.requires.kept.named c.requires.ring.1 in
    let entry = (found_at b.name c.args.table.now (c.args.ring, b) c.requires.ring.1).entry in
    ready_fits v c.args.ring b c.counts-counts.result (asked c.args.ask) c.requires.kept re.fits (c.counts-counts.ensures b entry) (c.is_spent.ensures.no c.if-is_spent.false)

pub settle-freed-requires-clause-lock : goal.settle-freed-requires-clause-lock
settle-freed-requires-clause-lock c =
    let v = seen c.args.rings.now c.args.table.now in
    let b = c.requires.ring.0 in
    let re = reaches_found (named_of v) b.name (asked c.args.ask) c.args.ring b c.requires.kept.named c.requires.ring.1 in
    let entry = (found_at b.name c.args.table.now (c.args.ring, b) c.requires.ring.1).entry in
    let ready = ready_fits v c.args.ring b c.counts-counts.result (asked c.args.ask) c.requires.kept re.fits (c.counts-counts.ensures b entry) (c.is_spent.ensures.no c.if-is_spent.false) in
    let t = c.ask_ring-done.ensures.told in
    answer_within c.args.rings.now.locks c.ask_ring-done.new.rings.locks c.args.client c.args.ring (of_ring (bound_by c.counts-counts.result) (asked c.args.ask)) t.raw t.answer
    (ready_within c.args.rings.now.locks c.args.rings.now.top c.args.ring (bound_by c.counts-counts.result) (asked c.args.ask) ready)

pub settle-freed-requires-clause-ring : goal.settle-freed-requires-clause-ring
settle-freed-requires-clause-ring c = slice_get_within c.args.table.now c.args.ring (Some c.requires.ring.0) (found_at c.requires.ring.0.name c.args.table.now (c.args.ring, c.requires.ring.0) c.requires.ring.1).entry

pub returns-clause-asked : goal.returns-clause-asked
returns-clause-asked c = λ b e.
    let v = seen c.args.rings.now c.args.table.now in
    let w = seen c.ask_ring-done.new.rings c.settle-freed.new.table in
    let entry = (found_at b.name c.args.table.now (c.args.ring, b) e).entry in
    let t = told_as c.args.rings.now.locks c.ask_ring-done.new.rings.locks c.args.rings.now.top c.ask_ring-done.new.rings.top c.args.client c.args.ring b c.counts-counts.result (asked c.args.ask) c.ask_ring-done.result.answers
    (c.counts-counts.ensures b entry) c.ask_ring-done.ensures.told in
    asked_bound v w c.args.client b.name (asked c.args.ask) c.args.ring b c.ask_ring-done.result.answers c.settle-freed.result c.requires.kept e t (record {
      names = c.settle-freed.ensures.names b entry ∙ ap (λ (n : ℕ). slice_set c.args.table.now c.args.ring (kept (stays n c.args.ring (locks_of c.ask_ring-done.new.rings.locks)) b)) c.ask_ring-done.ensures.fixed;
      fixed = c.ask_ring-done.ensures.fixed;
    }) (c.settle-freed.ensures.freed ∙ ap (λ (n : ℕ). not (stays n c.args.ring (locks_of c.ask_ring-done.new.rings.locks))) c.ask_ring-done.ensures.fixed)

pub returns-clause-events : goal.returns-clause-events
returns-clause-events c = has_events c.args.rings.now.locks c.ask_ring-done.new.rings.locks c.args.ring c.ask_ring-done.result c.ask_ring-done.result.answers.fresh c.settle-freed.result
    (ap (λ (z : NameAnswers). z.ring) c.ask_ring-done.ensures.told.told) c.ask_ring-done.ensures.before c.ask_ring-done.ensures.after

pub returns-clause-kept : goal.returns-clause-kept
returns-clause-kept c =
    let b = c.requires.ring.0 in
    let v = seen c.args.rings.now c.args.table.now in
    let w = seen c.ask_ring-done.new.rings c.settle-freed.new.table in
    let entry = (found_at b.name c.args.table.now (c.args.ring, b) c.requires.ring.1).entry in
    let re = reaches_found (named_of v) b.name (asked c.args.ask) c.args.ring b c.requires.kept.named c.requires.ring.1 in
    let t = told_as c.args.rings.now.locks c.ask_ring-done.new.rings.locks c.args.rings.now.top c.ask_ring-done.new.rings.top c.args.client c.args.ring b c.counts-counts.result (asked c.args.ask) c.ask_ring-done.result.answers
    (c.counts-counts.ensures b entry) c.ask_ring-done.ensures.told in
    asked_kept v w c.args.client b.name (asked c.args.ask) c.args.ring b c.ask_ring-done.result.answers c.requires.kept re t (record {
      names = c.settle-freed.ensures.names b entry ∙ ap (λ (n : ℕ). slice_set c.args.table.now c.args.ring (kept (stays n c.args.ring (locks_of c.ask_ring-done.new.rings.locks)) b)) c.ask_ring-done.ensures.fixed;
      fixed = c.ask_ring-done.ensures.fixed;
    })
