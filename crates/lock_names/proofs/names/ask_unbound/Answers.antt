use Rattle.std.proofs.Common.{◌≡◌, ◌+◌, ℕ, List, Option, Some, None, refl, sym, ◌∙◌, ap}
use Rattle.std.specs.Prelude.{slice_get, slice_set, not}
use Rattle.std.proofs.lemmas.Option.{slice_get_within}
use Rattle.endless_ring.specs.Endless.{EndlessView}
use Rattle.held_locks.specs.Kept.{locks_of}
use Rattle.held_locks.proofs.Standing.{get_set_same}
use Rattle.lock_names.specs.Names.{Bound, of_ring, kept, stays}
use Rattle.held_locks.specs.Asked.{asked}
use Rattle.lock_names.specs.Kept.{seen, bound_by}
use Rattle.lock_names.specs.declared.replies.NameAnswers.{NameAnswers}
use Rattle.lock_names.proofs.Asking.{answer_within}
use Rattle.lock_names.proofs.Taking.{told_as, ready_fits, free_ring, asked_ring, asked_kept, told_unfreed, new_settled, settled_bound, has_events}
use Rattle.lock_names.proofs.names.ask_unbound.Goals as goal

pub ring-requires : goal.ring-requires
ring-requires c =
    let v = seen c.args.rings.now c.args.table.now in
    let none = sym c.unused_answer.ensures ∙ c.in_default.is in
    let f = free_ring v c.args.name.now c.args.ask c.in-Some-lowest_free.ring c.requires.kept c.requires.unused none (sym c.lowest_free.ensures ∙ c.in-Some-lowest_free.is) in
    slice_get_within c.args.rings.now.locks c.in-Some-lowest_free.ring f.lock f.there

pub refused-requires : goal.refused-requires
refused-requires c =
    let v = seen c.args.rings.now c.args.table.now in
    let none = sym c.unused_answer.ensures ∙ c.in_default.is in
    let f = free_ring v c.args.name.now c.args.ask c.in-Some-lowest_free.ring c.requires.kept c.requires.unused none (sym c.lowest_free.ensures ∙ c.in-Some-lowest_free.is) in
    slice_get_within c.args.rings.now.locks c.in-Some-lowest_free.ring f.lock f.there

pub refused-requires-in_default-bind : goal.refused-requires-in_default-bind
refused-requires-in_default-bind c =
    let v = seen c.args.rings.now c.args.table.now in
    let none = sym c.unused_answer.ensures ∙ c.in_default.is in
    let f = free_ring v c.args.name.now c.args.ask c.in-Some-lowest_free.ring c.requires.kept c.requires.unused none (sym c.lowest_free.ensures ∙ c.in-Some-lowest_free.is) in
    slice_get_within c.args.rings.now.locks c.in-Some-lowest_free.ring f.lock f.there

pub ask_ring-done-requires : goal.ask_ring-done-requires
ask_ring-done-requires c =
    let v = seen c.args.rings.now c.args.table.now in
    let none = sym c.unused_answer.ensures ∙ c.in_default.is in
    let f = free_ring v c.args.name.now c.args.ask c.in-Some-lowest_free.ring c.requires.kept c.requires.unused none (sym c.lowest_free.ensures ∙ c.in-Some-lowest_free.is) in
    let re = f.bound c.grants.result (c.grants.ensures ∙ ap (λ (e : EndlessView). e.base.grants + e.ring.book.now.grants) (c.ring.ensures f.lock f.there)) in
    let b : Bound = record { name = c.args.name.now; before = c.grants.result; floor = c.args.rings.now.top } in
    ready_fits v c.in-Some-lowest_free.ring b (record { before = c.grants.result; floor = c.args.rings.now.top }) (asked c.args.ask) c.requires.kept re.fits refl (c.is_spent.ensures.no c.if-is_spent.false)

pub settle-free_again-requires-clause-lock : goal.settle-free_again-requires-clause-lock
settle-free_again-requires-clause-lock c =
    let v = seen c.args.rings.now c.args.table.now in
    let none = sym c.unused_answer.ensures ∙ c.in_default.is in
    let f = free_ring v c.args.name.now c.args.ask c.in-Some-lowest_free.ring c.requires.kept c.requires.unused none (sym c.lowest_free.ensures ∙ c.in-Some-lowest_free.is) in
    let t = c.ask_ring-done.ensures.told in
    answer_within c.args.rings.now.locks c.ask_ring-done.new.rings.locks c.args.client c.in-Some-lowest_free.ring (of_ring (bound_by (record { before = c.grants.result; floor = c.args.rings.now.top })) (asked c.args.ask)) t.raw t.answer
    (slice_get_within c.args.rings.now.locks c.in-Some-lowest_free.ring f.lock f.there)

pub settle-free_again-requires-clause-ring : goal.settle-free_again-requires-clause-ring
settle-free_again-requires-clause-ring c =
    let v = seen c.args.rings.now c.args.table.now in
    let none = sym c.unused_answer.ensures ∙ c.in_default.is in
    let f = free_ring v c.args.name.now c.args.ask c.in-Some-lowest_free.ring c.requires.kept c.requires.unused none (sym c.lowest_free.ensures ∙ c.in-Some-lowest_free.is) in
    let b : Bound = record { name = c.args.name.now; before = c.grants.result; floor = c.args.rings.now.top } in
    slice_get_within c.bind.new.self c.in-Some-lowest_free.ring (Some b)
    (ap (λ (t : List (Option Bound)). slice_get t c.in-Some-lowest_free.ring) c.in-Ok.ensures.ok ∙ get_set_same c.args.table.now c.in-Some-lowest_free.ring (Some b) None f.entry)

pub returns-clause-asked : goal.returns-clause-asked
returns-clause-asked c =
    let v = seen c.args.rings.now c.args.table.now in
    let w = seen c.ask_ring-done.new.rings c.settle-free_again.new.table in
    let i = c.in-Some-lowest_free.ring in
    let none = sym c.unused_answer.ensures ∙ c.in_default.is in
    let f = free_ring v c.args.name.now c.args.ask i c.requires.kept c.requires.unused none (sym c.lowest_free.ensures ∙ c.in-Some-lowest_free.is) in
    let re = f.bound c.grants.result (c.grants.ensures ∙ ap (λ (e : EndlessView). e.base.grants + e.ring.book.now.grants) (c.ring.ensures f.lock f.there)) in
    let b : Bound = record { name = c.args.name.now; before = c.grants.result; floor = c.args.rings.now.top } in
    let there : slice_get c.bind.new.self i ≡ Some (Some b) = ap (λ (t : List (Option Bound)). slice_get t i) c.in-Ok.ensures.ok ∙ get_set_same c.args.table.now i (Some b) None f.entry in
    let t = told_as c.args.rings.now.locks c.ask_ring-done.new.rings.locks c.args.rings.now.top c.ask_ring-done.new.rings.top c.args.client i b (record { before = c.grants.result; floor = c.args.rings.now.top }) (asked c.args.ask)
    c.ask_ring-done.result.answers refl c.ask_ring-done.ensures.told in
    let names = settled_bound c.args.table.now c.bind.new.self c.settle-free_again.new.table i b (kept (stays c.ask_ring-done.new.rings.fixed i (locks_of c.ask_ring-done.new.rings.locks)) b) c.in-Ok.ensures.ok (c.settle-free_again.ensures.names b there)
    ∙ ap (λ (n : ℕ). slice_set c.args.table.now i (kept (stays n i (locks_of c.ask_ring-done.new.rings.locks)) b)) c.ask_ring-done.ensures.fixed in
    asked_ring v w c.args.client c.args.name.now (asked c.args.ask) i b c.ask_ring-done.result.answers (not c.settle-free_again.result) c.ask_ring-done.result.answers.freed c.requires.kept re t (record { names = names; fixed = c.ask_ring-done.ensures.fixed })
    (new_settled c.args.name.now c.args.table.now c.settle-free_again.new.table i b (stays c.args.rings.now.fixed i (locks_of c.ask_ring-done.new.rings.locks)) c.settle-free_again.result c.requires.unused f.entry refl names
    (c.settle-free_again.ensures.freed ∙ ap (λ (n : ℕ). not (stays n i (locks_of c.ask_ring-done.new.rings.locks))) c.ask_ring-done.ensures.fixed))
    (told_unfreed v w c.args.client c.args.name.now (asked c.args.ask) i b c.ask_ring-done.result.answers t c.requires.unused)

pub returns-clause-events : goal.returns-clause-events
returns-clause-events c = has_events c.args.rings.now.locks c.ask_ring-done.new.rings.locks c.in-Some-lowest_free.ring c.ask_ring-done.result (not c.settle-free_again.result) c.ask_ring-done.result.answers.freed
    (ap (λ (z : NameAnswers). z.ring) c.ask_ring-done.ensures.told.told) c.ask_ring-done.ensures.before c.ask_ring-done.ensures.after

pub returns-clause-kept : goal.returns-clause-kept
returns-clause-kept c =
    let v = seen c.args.rings.now c.args.table.now in
    let w = seen c.ask_ring-done.new.rings c.settle-free_again.new.table in
    let i = c.in-Some-lowest_free.ring in
    let none = sym c.unused_answer.ensures ∙ c.in_default.is in
    let f = free_ring v c.args.name.now c.args.ask i c.requires.kept c.requires.unused none (sym c.lowest_free.ensures ∙ c.in-Some-lowest_free.is) in
    let re = f.bound c.grants.result (c.grants.ensures ∙ ap (λ (e : EndlessView). e.base.grants + e.ring.book.now.grants) (c.ring.ensures f.lock f.there)) in
    let b : Bound = record { name = c.args.name.now; before = c.grants.result; floor = c.args.rings.now.top } in
    let there : slice_get c.bind.new.self i ≡ Some (Some b) = ap (λ (t : List (Option Bound)). slice_get t i) c.in-Ok.ensures.ok ∙ get_set_same c.args.table.now i (Some b) None f.entry in
    let t = told_as c.args.rings.now.locks c.ask_ring-done.new.rings.locks c.args.rings.now.top c.ask_ring-done.new.rings.top c.args.client i b (record { before = c.grants.result; floor = c.args.rings.now.top }) (asked c.args.ask)
    c.ask_ring-done.result.answers refl c.ask_ring-done.ensures.told in
    let names = settled_bound c.args.table.now c.bind.new.self c.settle-free_again.new.table i b (kept (stays c.ask_ring-done.new.rings.fixed i (locks_of c.ask_ring-done.new.rings.locks)) b) c.in-Ok.ensures.ok (c.settle-free_again.ensures.names b there)
    ∙ ap (λ (n : ℕ). slice_set c.args.table.now i (kept (stays n i (locks_of c.ask_ring-done.new.rings.locks)) b)) c.ask_ring-done.ensures.fixed in
    asked_kept v w c.args.client c.args.name.now (asked c.args.ask) i b c.ask_ring-done.result.answers c.requires.kept re t (record { names = names; fixed = c.ask_ring-done.ensures.fixed })
