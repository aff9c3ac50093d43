-- One write after another, and one choice after another.
use Rattle.std.proofs.Common.{◌≡◌, ℕ, ◌+◌, ◌<◌, List, [], ◌∷◌, ◌++◌, length, get_or, drop, drop-cons, add-one, Option, None, Some, Result, Ok, Err, append_assoc, append-nil, length-append, arith, refl, sym, ap, ◌∙◌, ◌⊎◌, inl, inr, subst}
use Rattle.std.specs.Io.KnownBytes.{Appends}
use Rattle.ring_model.specs.History.{State, Step, next, reply}
use Rattle.ring_model.specs.declared.events.Event.{Event}
use Rattle.ring_model.specs.declared.events.Op.TheVariants.{Pass}
use Rattle.ring_model.specs.declared.events.Reply.{Reply}
use Rattle.ring_model.specs.declared.events.Reply.TheVariants.{NotPrivileged, Corrupted}
use Rattle.ring_model.proofs.Histories.{StepOf-next, StepOf-reply}
use Rattle.ring_book.specs.IdleWorks.{idle}
use Rattle.ring_book.specs.declared.resources.Idle.{Idle}
use Rattle.text_lines.specs.declared.write.WriteFault.{WriteFault}
use Rattle.text_lines.specs.Writing.{Wrote, Writes}
use Rattle.tool_parts.proofs.Buffers.{appends_nil, appends_then, wrote_none}
use Rattle.run_commands.specs.StepText.{reply_line, refused_line, lines_from}

-- one piece more is written
pub wrote_piece : (a b c : Option (List ℕ)) (text before piece left : List ℕ) → before ≡ piece ++ left → Wrote a b text before → Appends b c piece → Wrote a c text left
wrote_piece a b c text before piece left e h p =
    (h.0 ++ piece, h.1 ∙ ap (λ (t : List ℕ). h.0 ++ t) e ∙ sym (append_assoc h.0 piece left), appends_then a b c h.0 piece h.2 p)

-- a piece is cut short, and so is the text
pub wrote_cut : (a b c : Option (List ℕ)) (e : WriteFault) (text before piece left : List ℕ) → before ≡ piece ++ left → Wrote a b text before → Writes b c (Err e) piece →
    Writes a c (Err e) text
wrote_cut a b c e text before piece left split h p =
    let front = p.2.0 in
    let whole : text ≡ (h.0 ++ front) ++ (p.0 ++ left) =
    h.1 ∙ ap (λ (t : List ℕ). h.0 ++ t) (split ∙ ap (λ (t : List ℕ). t ++ left) p.2.1 ∙ append_assoc front p.0 left) ∙ sym (append_assoc h.0 front (p.0 ++ left)) in
    let some : 0 < length (p.0 ++ left) = rw length-append (omega (arith, p.1)) in
    (p.0 ++ left, some, (h.0 ++ front, whole, appends_then a b c h.0 front h.2 p.2.2))

-- all is written
pub wrote_all : (a b : Option (List ℕ)) (text left : List ℕ) → left ≡ [] → Wrote a b text left → Appends a b text
wrote_all a b text left none h =
    let whole : h.0 ≡ text = sym (h.1 ∙ ap (λ (t : List ℕ). h.0 ++ t) none ∙ append-nil h.0) in
    let P : List ℕ → Type 0 = λ t. Appends a b t in subst P whole h.2

-- the last piece ends the text as it ends itself
pub wrote_last : (a b c : Option (List ℕ)) (r : Result (Unit {0}) WriteFault) (text before piece : List ℕ) → before ≡ piece → Wrote a b text before → Writes b c r piece →
    Writes a c r text
wrote_last a b c (Ok u) text before piece e h p = wrote_all a c text [] refl (wrote_piece a b c text before piece [] (e ∙ sym (append-nil piece)) h p)
wrote_last a b c (Err f) text before piece e h p = wrote_cut a b c f text before piece [] (e ∙ sym (append-nil piece)) h p

-- the line of a pass that was not granted
pub not_granted_line : (machine : ℕ) (r : Reply) → (r ≡ NotPrivileged) ⊎ ((x : ℕ) × (r ≡ Corrupted x)) → reply_line machine r ≡ refused_line machine
not_granted_line machine r (inl e) = rw e refl
not_granted_line machine r (inr e) = rw e.1 refl

-- the rest to print after one choice more
pub lines-step : (a b : State Idle) (e : Event) (choices : List ℕ) (i : ℕ) → i < length choices → Step idle a e b → e.op ≡ Pass (get_or choices i 0) 0 →
    lines_from a (drop i choices) ≡ reply_line (get_or choices i 0) e.reply ++ lines_from b (drop (i + 1) choices)
lines-step a b e choices i h step op =
    let said : e.reply ≡ reply idle a e.op = StepOf-reply idle a e.op e.reply b step in
    let goes : b ≡ next idle a e.op = StepOf-next idle a e.op e.reply b step in
    rw (add-one, drop-cons choices i 0 h, said, goes, op) refl

-- there always is something to print: the last state
pub lines-some : (a : State Idle) (choices : List ℕ) → 0 < length (lines_from a choices)
lines-some a [] = omega arith
lines-some a (machine ∷ choices) =
    let more = lines-some (next idle a (Pass machine 0)) choices in
    rw length-append (omega (arith, more))
