use Rattle.std.proofs.Common.{◌≡◌, ℕ, ◌+◌, ◌<◌, ◌≤◌, length, arith, sym, subst}
use Rattle.saved_history.specs.Content.{block_of}
use Rattle.history_states.specs.Rows.{row}
use Rattle.history_states.specs.Tables.{HasTable}
use Rattle.history_states.proofs.Parts.{place_more, place_fault, place_last, table_none}
use Rattle.history_states.proofs.tables.put_rows.Goals as goal

pub returns-in_default : goal.returns-in_default
returns-in_default g c = table_none _ _

pub returns-in-Err : goal.returns-in-Err
returns-in-Err g c =
    place_fault (row c.args.form (block_of c.args.ring.now)) (length c.args.ring.now.events.items + 1) c.loop-events.events _ _ _ c.in-Err.fault (omega (arith, c.len-last.ensures, c.loop-events-test.true)) c.loop-events.invariant.text c.in-Err.ensures

pub calm_step-calm-requires-clause-room : goal.calm_step-calm-requires-clause-room
calm_step-calm-requires-clause-room g c =
    let events = c.args.ring.now.events in
    omega (arith, c.len-last.ensures, c.loop-events-test.true, events.small, events.ok.0, events.ok.1)

pub loop-events-preserved : goal.loop-events-preserved
loop-events-preserved g c = record {
  text = place_more (row c.args.form (block_of c.args.ring.now)) (length c.args.ring.now.events.items + 1) c.loop-events.events _ _ _ (omega (arith, c.len-last.ensures, c.loop-events-test.true)) c.loop-events.invariant.text c.in-Ok-put_row_at.ensures;
  ring = c.step_on.ensures;
  calm = c.calm_step-calm.ensures.calm;
  few = c.calm_step-calm.ensures.few;
  within = omega (arith, c.len-last.ensures, c.loop-events-test.true);
}

pub returns : goal.returns
returns g c =
    let f = row c.args.form (block_of c.args.ring.now) in
    let last : c.loop-events.events ≡ c.len-last.result = omega (arith, c.len-last.ensures, c.loop-events-test.false, c.loop-events.invariant.within) in
    place_last f (length c.args.ring.now.events.items + 1) c.loop-events.events _ _ _ c.put_row_at-2.result (omega (arith, last, c.len-last.ensures)) c.loop-events.invariant.text
    (subst (λ (i : ℕ). HasTable (g.W.Write.contents c.loop-events.out) (g.W.Write.contents c.put_row_at-2.new.out) c.put_row_at-2.result (f i)) (sym last) c.put_row_at-2.ensures)
