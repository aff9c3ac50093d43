use Rattle.saved_history.specs.Content.{block_of}
use Rattle.history_states.specs.Rows.{rows}
use Rattle.history_states.specs.Tables.{HasTable}
use Rattle.std.proofs.Common.{Err, Ok, sym, ap, take, length, ◌≤◌, ◌≡◌}
use Rattle.std.proofs.lemmas.List.{take_all}
use Rattle.std.proofs.lemmas.List.Folds.{flat_map-map}
use Rattle.history_states.proofs.Parts.{table_fault, table_same, rings_all}
use Rattle.history_states.proofs.tables.put_rings.Goals as goal

pub returns-in-Err : goal.returns-in-Err
returns-in-Err g c =
    table_same _ _ (Err c.in-Err.fault) _ _ (sym (flat_map-map (rows c.args.form) block_of c.args.rings.now))
    (table_fault _ (λ ring. rows c.args.form (block_of ring)) c.args.rings.now c.loop-ring.ring-index c.ring-item.result c.loop-ring-test.true _ _ _ c.loop-ring.invariant c.in-Err.fault (table_same _ _ (Err c.in-Err.fault) _ _ (ap (λ ring. rows c.args.form (block_of ring)) c.ring-item.is) c.in-Err.ensures))

pub returns : goal.returns
returns g c =
    rings_all c.args.form c.args.rings.now c.loop-ring.ring-index _ _ c.loop-ring-test.false c.loop-ring.invariant
