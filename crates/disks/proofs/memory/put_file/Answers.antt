use Rattle.std.proofs.Common.{refl, string_bytes}
use Rattle.disks.proofs.Finding.{pushed}
use Rattle.disks.proofs.memory.put_file.Goals as goal

pub returns : goal.returns
returns c =
    rw c.push_reserved.ensures.items
    (pushed c.args.disk.now.entries.items _ (string_bytes c.args.place) c.args.bytes.items refl refl c.requires.free)
