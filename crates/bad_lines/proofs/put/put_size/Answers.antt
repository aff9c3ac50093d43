use Rattle.std.proofs.Common.{◌≡◌, ◌∙◌, append-nil}
use Rattle.std.specs.Prelude.{decimal}
use Rattle.bad_lines.proofs.put.put_size.Goals as goal

pub returns : goal.returns
returns g c =
    let n : c.as_bytes-n.result.now ≡ decimal c.args.n = c.as_bytes-n.ensures.value ∙ c.format.ensures.text in
    let k : c.as_bytes-k.result.now ≡ decimal c.args.k = c.as_bytes-k.ensures.value ∙ c.format-2.ensures.text in
    let machines : c.as_bytes-machines.result.now ≡ decimal c.args.machines = c.as_bytes-machines.ensures.value ∙ c.format-3.ensures.text in
    let values : c.as_bytes-values.result.now ≡ decimal c.args.values = c.as_bytes-values.ensures.value ∙ c.format-4.ensures.text in
    rw (n, k, machines, values, append-nil (decimal c.args.values)) at c.put_all.ensures
