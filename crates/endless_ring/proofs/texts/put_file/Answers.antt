use Rattle.std.proofs.Common.{refl}
use Rattle.one_thread_ring.specs.Texts.{saved_alone}
use Rattle.endless_ring.specs.Files.{head_at}
use Rattle.endless_ring.proofs.Texted.{file_filled}
use Rattle.endless_ring.proofs.texts.put_file.Goals as goal

pub returns-clause-written : goal.returns-clause-written
returns-clause-written c =
    let head = rw c.base.ensures.is at c.put_head-headed.ensures.written in
    let began = rw c.segment.ensures.is at c.put_text.ensures.written in
    file_filled (head_at c.args.file.now c.args.ring.now.base) (saved_alone c.args.ring.now.ring) head c.put-begun.ensures began

pub returns-clause-is : goal.returns-clause-is
returns-clause-is c = record {
  spelled = refl;
  head = rw c.base.ensures.is at c.put_head-headed.ensures.fits;
  fits = rw c.segment.ensures.is at c.put_text.ensures.fits;
  legal = rw c.segment.ensures.is at c.put_text.ensures.legal;
}
