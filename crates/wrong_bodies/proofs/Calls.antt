-- The record of a call is determined by the call.
use Rattle.std.proofs.Common.{◌≡◌, ℕ, ◌+◌, true, false, slice_index, refl, ap, sym, ◌∙◌, [], ◌∷◌, length, arith, length-append}
use Rattle.ring_model.specs.Ring.{is_privileged}
use Rattle.ring_model.specs.History.{Works, reply}
use Rattle.ring_model.specs.declared.events.Op.{Op}
use Rattle.ring_model.specs.declared.events.Op.TheVariants.{Pass, Corrupt}
use Rattle.ring_model.specs.declared.events.Reply.TheVariants.{Granted, NotPrivileged, Corrupted}
use Rattle.ring_model.specs.declared.events.Receipt.{Receipt}
use Rattle.ring_model.proofs.Histories.{StepOf-reply}
use Rattle.ring_book.specs.BookView.{BookView, IsRecorded}

-- a call is one event, and not two
pub one_event : {C : Type 0} (w : Works C) (old mid new : BookView C) (seat : ℕ) (op : Op) (r s t : Receipt) → IsRecorded w old mid seat op r → IsRecorded w mid new seat op s →
    IsRecorded w old new seat op t → ⊥
one_event w old mid new seat op r s t h k g =
    let front : length mid.history ≡ length old.history + 1 = ap length h.grown ∙ length-append old.history (r.event ∷ []) in
    let both : length new.history ≡ length mid.history + 1 = ap length k.grown ∙ length-append mid.history (s.event ∷ []) in
    let one : length new.history ≡ length old.history + 1 = ap length g.grown ∙ length-append old.history (t.event ∷ []) in
    omega arith

-- the reply is the call's
pub reply_is_told : {C : Type 0} (w : Works C) (old new : BookView C) (seat : ℕ) (op : Op) (r : Receipt) → IsRecorded w old new seat op r → r.event.reply ≡ reply w old.now op
reply_is_told w old new seat op r h = StepOf-reply w old.now r.event.op r.event.reply new.now h.step ∙ ap (reply w old.now) h.of_call

-- so there is one
pub one_reply : {C : Type 0} (w : Works C) (old one other : BookView C) (seat : ℕ) (op : Op) (r s : Receipt) → IsRecorded w old one seat op r → IsRecorded w old other seat op s →
    r.event.reply ≡ s.event.reply
one_reply w old one other seat op r s h k = reply_is_told w old one seat op r h ∙ sym (reply_is_told w old other seat op s k)

-- a machine that is not privileged is refused
pub refused_is_told : {C : Type 0} (w : Works C) (old new : BookView C) (seat machine order : ℕ) (r : Receipt) → IsRecorded w old new seat (Pass machine order) r →
    is_privileged old.now.ring.values machine ≡ false → r.event.reply ≡ NotPrivileged
refused_is_told w old new seat machine order r h off = reply_is_told w old new seat (Pass machine order) r h ∙ rw off refl

-- another is granted its pass
pub granted_is_told : {C : Type 0} (w : Works C) (old new : BookView C) (seat machine order : ℕ) (r : Receipt) → IsRecorded w old new seat (Pass machine order) r →
    is_privileged old.now.ring.values machine ≡ true → r.event.reply ≡ Granted (old.now.grants + 1) (w.answer old.now.content machine order)
granted_is_told w old new seat machine order r h on = reply_is_told w old new seat (Pass machine order) r h ∙ rw on refl

-- a corruption answers what was there
pub corruption_is_told : {C : Type 0} (w : Works C) (old new : BookView C) (seat machine value : ℕ) (r : Receipt) → IsRecorded w old new seat (Corrupt machine value) r →
    r.event.reply ≡ Corrupted (slice_index old.now.ring.values machine)
corruption_is_told w old new seat machine value r h = reply_is_told w old new seat (Corrupt machine value) r h
