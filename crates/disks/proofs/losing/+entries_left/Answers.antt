use Rattle.std.proofs.Common.{List, cond, string_bytes, sym, ap, ◌∙◌}
use Rattle.std.specs.Str.{bytes_eq}
use Rattle.disks.specs.Held.{Thing, Nothing, File}
use Rattle.disks.specs.Entries.{found}
use Rattle.disks.specs.declared.memory.Stored.TheVariants as stored
use Rattle.disks.specs.declared.memory.StoredEntry.{StoredEntry}
use Rattle.disks.specs.declared.losing.Left.{Left}
use Rattle.disks.specs.Left.{left_at}
use Rattle.disks.proofs.Finding.{found_push}
use Rattle.disks.proofs.losing.+entries_left.Goals as goal

pub returns-in_ok-push-in-Over : goal.returns-in_ok-push-in-Over
returns-in_ok-push-in-Over t c = λ name.
    let entry : StoredEntry = record { name = c.in-Over.name; stored = stored.File c.in-Over.bytes } in
    ap (λ (entries : List StoredEntry). found Nothing entries name) c.in_ok-push-in-Over.ensures.items
    ∙ found_push Nothing c.in_ok-entries-in-Over.entries.items entry name
    ∙ ap (λ (before : Thing). cond (bytes_eq (string_bytes c.in-Over.name) name) (File c.in-Over.bytes.items) before)
    (c.in_ok-entries-in-Over.ensures name ∙ ap (λ (files : Left). left_at files name) c.into_inner.ensures)
    ∙ sym (ap (λ (files : Left). left_at files name) c.in-Over.is)
