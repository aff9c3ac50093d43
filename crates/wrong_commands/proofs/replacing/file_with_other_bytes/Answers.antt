use Rattle.wrong_commands.proofs.Makings.{two_texts}
use Rattle.wrong_commands.proofs.replacing.file_with_other_bytes.Goals as goal

pub returns-in-Ok : goal.returns-in-Ok
returns-in-Ok g c = record {
  wrong = λ h.
      two_texts _ _ c.args.name.now (g.C.Contents.bytes c.args.other.now) (g.C.Contents.bytes c.args._contents.now) c.requires.known c.requires.apart c.in-Ok.ensures.replaced h;
}
