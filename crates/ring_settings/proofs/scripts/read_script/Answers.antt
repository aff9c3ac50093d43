use Rattle.std.proofs.Common.{rules, ◌≡◌, arith, Some}
use Rattle.serde_json.specs.Find.{as_array}
use Rattle.serde_json.specs.View.{view, items_view}
use Rattle.ring_settings.proofs.ScriptLaws.{script_items_each}
use Rattle.ring_settings.proofs.scripts.read_script.Goals as goal

pub returns-clause-err : goal.returns-clause-err
returns-clause-err c =
    let list : as_array (view c.args.script.now) ≡ Some (items_view c.as_slice.result.now) = search rules in
    rw (list, script_items_each c.args.sizes.now c.args.seat c.as_slice.result.now (omega arith)) c.read_actions.ensures.err
