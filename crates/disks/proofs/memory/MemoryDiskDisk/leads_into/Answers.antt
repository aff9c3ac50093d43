use Rattle.disks.proofs.Listing.{leads_in, leads_elsewhere}
use Rattle.disks.proofs.memory.MemoryDiskDisk.leads_into.Goals as goal

pub returns-clause-yes : goal.returns-clause-yes
returns-clause-yes c into =
    leads_in c.args.self.now.entries.items c.args.name.now c.args.folder.now c.as_bytes.result.now c.as_bytes-2.result.now c.as_bytes.ensures.value c.as_bytes-2.ensures.value (c.is_in.ensures.yes into)

pub returns-clause-no : goal.returns-clause-no
returns-clause-no c into =
    leads_elsewhere c.args.self.now.entries.items c.args.name.now c.args.folder.now c.as_bytes.result.now c.as_bytes-2.result.now c.as_bytes.ensures.value c.as_bytes-2.ensures.value (c.is_in.ensures.no into)
