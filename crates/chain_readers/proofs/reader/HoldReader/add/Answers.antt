use Rattle.std.proofs.Common.{◌≡◌, ◌<◌, ℕ, length, ap, subst, sym, ◌∙◌, arith, Err}
use Rattle.std.proofs.lemmas.List.{get_or_default}
use Rattle.saved_history.specs.declared.saved.SavedEvent.TheVariants.{Granted}
use Rattle.chain_readers.specs.declared.ends.Ends.TheVariants.{Nothing}
use Rattle.chain_readers.specs.Signs.{ends_at, ended}
use Rattle.chain_readers.specs.Ends.{tally}
use Rattle.chain_readers.specs.Known.{known, IsRead}
use Rattle.chain_readers.proofs.Reading.{segment_err}
use Rattle.chain_readers.proofs.reader.HoldReader.add.Goals as goal

pub returns-in-Err : goal.returns-in-Err
returns-in-Err c =
    let events = ap length c.deref-event-items.ensures.value in
    let table = c.in_ok-table.ensures in
    let there : c.loop-i.i < length c.in_ok-table.table.items = omega (arith, events, c.loop-i-test.true, table.many) in
    let tally_is : tally (ends_at c.loop-i.i c.args.ring.now.surveys.items) ≡ c.index.result.now = sym (table.tallies c.loop-i.i there) ∙ get_or_default c.in_ok-table.table.items c.loop-i.i Nothing c.index.result.now there ∙ sym c.index.ensures in
    segment_err (known c.args.self.now) (known c.loop-i.self) c.args.base.now c.args.ring.now.surveys.items c.loop-i.i c.args.ring.now.events.items _ (Granted 0 0 0 0 0) c.in-Err.error (known c.ends.new.self) _ (omega (arith, events, c.loop-i-test.true)) c.loop-i.invariant
    (subst (λ (at : ℕ). IsRead (known c.loop-i.self) (ended at (ends_at c.loop-i.i c.args.ring.now.surveys.items)) (Err c.in-Err.error) (known c.ends.new.self)) c.place-at.ensures (c.in-Err.ensures (ends_at c.loop-i.i c.args.ring.now.surveys.items) tally_is))
