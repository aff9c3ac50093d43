use Rattle.std.proofs.Common.{◌≡◌, ◌∙◌}
use Rattle.std.specs.Prelude.{decimal}
use Rattle.run_commands.proofs.step.put_refused.Goals as goal

pub returns : goal.returns
returns g c =
    let machine : c.as_bytes.result.now ≡ decimal c.args.machine = c.as_bytes.ensures.value ∙ c.format.ensures.text in
    rw (← machine) c.put_all.ensures
