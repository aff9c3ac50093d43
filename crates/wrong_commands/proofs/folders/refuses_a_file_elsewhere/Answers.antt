use Rattle.tool_parts.specs.Worlds.{world}
use Rattle.wrong_commands.proofs.Elsewhere.{not_in_folder}
use Rattle.wrong_commands.proofs.folders.refuses_a_file_elsewhere.Goals as goal

pub returns : goal.returns
returns g c = record {
  wrong = λ input out err h.
      let files = g.D.Disk.holds c.args._disk.now in
      not_in_folder c.args.words.now.new c.args.words.now (world files input out err) (world files input out err) c.requires.known c.requires.elsewhere c.requires.apart h;
}
