use Rattle.std.proofs.Common.{Ok, Err, refl, inl, inr, ◌≡◌, ◌≢◌, true, false, rules}
use Rattle.endless_ring.specs.Files.{new_lines}
use Rattle.c_calls.specs.declared.codes.TextError.TheVariants as error
use Rattle.c_calls.proofs.Told.{done, not_done}
use Rattle.c_calls.proofs.kept_texts.put_lines.Goals as goal

pub returns-in-Idle : goal.returns-in-Idle
returns-in-Idle c = rw c.in-Idle.is (Err error.NoTill, tt, (c.text_code.ensures, refl, refl))

pub returns-then-not-is_kept : goal.returns-then-not-is_kept
returns-then-not-is_kept c =
    let kept : c.in-Till.ring.notes.kept ≡ false = search rules in
    rw c.in-Till.is (Err error.NoJournal, kept, (c.text_code-then-not-is_kept.ensures, refl, refl))

pub returns-then-code-eq0 : goal.returns-then-code-eq0
returns-then-code-eq0 c =
    let bytes = new_lines c.in-Till.ring in
    let kept : c.in-Till.ring.notes.kept ≡ true = search rules in
    let told = c.tell_size-code.ensures in
    rw c.in-Till.is (Ok bytes, (kept, refl), done bytes c.put_lines.ensures told.none told.small told.room c.if-code-eq0.true c.put_lines-then-code-eq0.ensures)

pub returns-else-code-eq0 : goal.returns-else-code-eq0
returns-else-code-eq0 c =
    let bytes = new_lines c.in-Till.ring in
    let kept : c.in-Till.ring.notes.kept ≡ true = search rules in
    let told = c.tell_size-code.ensures in
    let ne : c.tell_size-code.result ≢ 0 = search rules in
    rw c.in-Till.is (elim (not_done bytes c.put_lines.ensures told.none told.small told.room ne) [ inl h ↦ (Err error.OutOfMemory, (kept, h.0), (h.1, refl, h.2)) | inr h ↦ (Ok bytes, (kept, refl), h) ])
