use Rattle.std.proofs.Common.{◌∙◌, ◌<◌, length, sym, arith}
use Rattle.std.proofs.lemmas.Bool.{eqb-false}
use Rattle.wrong_commands.proofs.Unnoted.{unnoted, unkept}
use Rattle.wrong_commands.proofs.serving.answers_before_the_journal.Goals as goal

pub returns : goal.returns
returns g c =
    let out = c.serve.new.out.items in
    let y = c.index.result.now in
    let full = c.serve.new.out.ok in
    let many = eqb-false c.serve.new.out.len 0 (sym c.is_empty.ensures ∙ c.if-is_empty.false) in
    let some : 0 < length out = omega (arith, many, full) in
    let letter = c.if-index-ne103.false in
    record {
      wrong = λ h.
          unnoted c.args.name.now c.args.permits c.args.served.now c.serve.new.served (g.D.Disk.holds c.args.disk.now) (g.D.Disk.holds c.serve.new.disk) (g.I.Read.remaining c.args.input.now) (g.I.Read.remaining c.serve.new.input) c.args.journal.now.items out y c.index.ensures some (omega (arith, letter)) h;
      lost = λ h.
          unkept c.args.name.now c.args.permits c.args.served.now c.serve.new.served (g.D.Disk.holds c.args.disk.now) (g.D.Disk.holds c.serve.new.disk) (g.I.Read.remaining c.args.input.now) (g.I.Read.remaining c.serve.new.input) c.args.journal.now.items out y c.index.ensures some (omega (arith, letter)) h;
    }
