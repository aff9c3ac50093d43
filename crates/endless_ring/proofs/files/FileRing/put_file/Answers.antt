use Rattle.std.proofs.Common.{subst}
use Rattle.endless_ring.specs.Files.{FilesView, IsFileText, file_text}
use Rattle.endless_ring.specs.Filling.{Fills}
use Rattle.endless_ring.proofs.files.FileRing.put_file.Goals as goal

pub returns-clause-written : goal.returns-clause-written
returns-clause-written c = subst (λ (x : FilesView). Fills c.args.out.now c.put_file.new.out 0 c.put_file.result (file_text x.place x.ring)) c.self.view_is c.put_file.ensures.written

pub returns-clause-is : goal.returns-clause-is
returns-clause-is c = subst (λ (x : FilesView). IsFileText x (file_text x.place x.ring)) c.self.view_is c.put_file.ensures.is
