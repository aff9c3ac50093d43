use Rattle.std.proofs.Common.{◌≡◌, ◌+◌, ◌^◌, ◌<◌, ◌≤◌, ℕ, inr, refl, sym, ◌∙◌, ap, arith}
use Rattle.held_locks.specs.Kept.{state_of}
use Rattle.lock_names.specs.Kept.{NamedView, seen}
use Rattle.lock_names.specs.Grown.{IsGrown}
use Rattle.lock_names.proofs.Grows.{last_grants, last_holder, not_open, grown_is, grown_kept, not_added_is}
use Rattle.lock_names.proofs.growing.add_ring.Goals as goal

pub returns-in-Err-clause-why : goal.returns-in-Err-clause-why
returns-in-Err-clause-why c = not_added_is (seen c.args.rings.now c.args.table.now) c.args.ring c.in-Err.why c.not_added.result c.in-Err.ensures.why c.not_added.ensures.full c.not_added.ensures.memory

pub returns-then-more-room-clause-why : goal.returns-then-more-room-clause-why
returns-then-more-room-clause-why c =
    let a = c.in-Ok.ensures.ok in
    let more : c.grants-more.result ≡ (state_of a.ring).grants = last_grants c.args.rings.now.locks c.add.new.self c.args.ring a c.count-last.result c.grants-more.result c.ring.result.now c.count-last.ensures c.ring.ensures c.grants-more.ensures in
    let room = c.saturating_sub-room.ensures in
    let great = c.if-more-room.true in
    let all : 2 ^ 63 ≤ c.args.rings.now.top + c.grants-more.result = omega arith in
    let full : 2 ^ 63 ≤ c.args.rings.now.top + (state_of a.ring).grants = omega arith in
    inr (c.add.new.self, a, full)

pub returns-clause-ok : goal.returns-clause-ok
returns-clause-ok c =
    let a = c.in-Ok.ensures.ok in
    let v = seen c.args.rings.now c.args.table.now in
    let w : NamedView = record { locks = c.add.new.self; names = c.add_free.new.self; fixed = c.args.rings.now.fixed; top = c.args.rings.now.top + c.grants-more.result } in
    let more : c.grants-more.result ≡ (state_of a.ring).grants = last_grants c.args.rings.now.locks c.add.new.self c.args.ring a c.count-last.result c.grants-more.result c.ring.result.now c.count-last.ensures c.ring.ensures c.grants-more.ensures in
    grown_is v w c.args.ring a (not_open c.args.ring c.holder.result (last_holder c.args.rings.now.locks c.add.new.self c.args.ring a c.count-last.result c.holder.result c.count-last.ensures c.holder.ensures) (sym c.is_some.ensures ∙ c.if-is_some.false))
    c.in-Ok-add_free.ensures.ok refl (ap (λ (n : ℕ). c.args.rings.now.top + n) more)

pub returns-clause-kept : goal.returns-clause-kept
returns-clause-kept c =
    let a = c.in-Ok.ensures.ok in
    let v = seen c.args.rings.now c.args.table.now in
    let w : NamedView = record { locks = c.add.new.self; names = c.add_free.new.self; fixed = c.args.rings.now.fixed; top = c.args.rings.now.top + c.grants-more.result } in
    let more : c.grants-more.result ≡ (state_of a.ring).grants = last_grants c.args.rings.now.locks c.add.new.self c.args.ring a c.count-last.result c.grants-more.result c.ring.result.now c.count-last.ensures c.ring.ensures c.grants-more.ensures in
    let grown : IsGrown v w c.args.ring =
    grown_is v w c.args.ring a (not_open c.args.ring c.holder.result (last_holder c.args.rings.now.locks c.add.new.self c.args.ring a c.count-last.result c.holder.result c.count-last.ensures c.holder.ensures) (sym c.is_some.ensures ∙ c.if-is_some.false))
    c.in-Ok-add_free.ensures.ok refl (ap (λ (n : ℕ). c.args.rings.now.top + n) more) in
    let room = c.saturating_sub-room.ensures in
    let less = c.if-more-room.false in
    let below : c.args.rings.now.top + c.grants-more.result < 2 ^ 63 = omega arith in
    grown_kept v w c.are_kept.ensures.0 c.args.ring c.requires.kept c.are_kept.ensures.1 grown below
