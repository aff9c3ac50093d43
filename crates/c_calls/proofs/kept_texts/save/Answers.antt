use Rattle.std.proofs.Common.{Ok, Err, refl, inl, inr, ◌≢◌, rules}
use Rattle.saved_history.specs.Spelling.{text}
use Rattle.one_thread_ring.specs.Texts.{saved_alone}
use Rattle.c_calls.specs.Answers.{IsSavedText}
use Rattle.c_calls.specs.declared.codes.TextError.TheVariants as error
use Rattle.c_calls.proofs.Told.{done, not_done}
use Rattle.c_calls.proofs.kept_texts.save.Goals as goal

pub returns-in-Idle : goal.returns-in-Idle
returns-in-Idle c = rw c.in-Idle.is (Err error.NoTill, tt, (c.text_code.ensures, refl, refl))

pub returns-then-code-eq0 : goal.returns-then-code-eq0
returns-then-code-eq0 c =
    let bytes = text (saved_alone c.in-Till.ring.ring.ring) in
    let saved : IsSavedText c.in-Till.ring.ring.ring bytes = record { text = record { spelled = refl; legal = c.save.ensures.legal }; fits = c.save.ensures.fits } in
    let told = c.tell_size-code.ensures in
    rw c.in-Till.is (Ok bytes, saved, done bytes c.save.ensures.written told.none told.small told.room c.if-code-eq0.true c.save-then-code-eq0.ensures.written)

pub returns-else-code-eq0 : goal.returns-else-code-eq0
returns-else-code-eq0 c =
    let bytes = text (saved_alone c.in-Till.ring.ring.ring) in
    let saved : IsSavedText c.in-Till.ring.ring.ring bytes = record { text = record { spelled = refl; legal = c.save.ensures.legal }; fits = c.save.ensures.fits } in
    let told = c.tell_size-code.ensures in
    let ne : c.tell_size-code.result ≢ 0 = search rules in
    rw c.in-Till.is (elim (not_done bytes c.save.ensures.written told.none told.small told.room ne) [ inl h ↦ (Err error.OutOfMemory, h.0, (h.1, refl, h.2)) | inr h ↦ (Ok bytes, saved, h) ])
