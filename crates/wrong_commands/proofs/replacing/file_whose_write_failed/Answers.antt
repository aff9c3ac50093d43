use Rattle.wrong_commands.proofs.Makings.{as_it_was}
use Rattle.wrong_commands.proofs.replacing.file_whose_write_failed.Goals as goal

pub returns-in-Err-Write : goal.returns-in-Err-Write
returns-in-Err-Write g c = record { wrong = λ h. as_it_was _ _ c.args.name.now (g.C.Contents.bytes c.args.contents.now) c.requires.known c.in-Err-Write.ensures.kept c.requires.others h }
