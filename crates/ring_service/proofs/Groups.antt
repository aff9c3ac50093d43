-- The block that a group's call determines.
use Rattle.std.proofs.Common.{◌≡◌, ℕ, List, [], ◌∷◌, length, ap, subst, ◌∙◌}
use Rattle.ring_model.specs.History.{Works, State, next, reply, IsLegal}
use Rattle.ring_model.specs.Groups.{AreMembers}
use Rattle.ring_model.specs.GroupLaws.{block_of}
use Rattle.ring_model.specs.declared.events.Op.{Op}
use Rattle.ring_model.specs.declared.events.Op.TheVariants as op
use Rattle.ring_model.specs.declared.events.Event.{Event}
use Rattle.ring_model.proofs.Histories.{StepOf-reply}

pub members_block : {C : Type 0} (w : Works C) (a : State C) (seat order : ℕ) (ms : List ℕ) (es : List Event) → AreMembers seat order ms es → IsLegal w a es → es ≡ block_of w a seat order ms
members_block w a seat order [] es m l = m
members_block w a seat order (k ∷ ms) [] m l = absurd m
members_block w a seat order (k ∷ ms) (e ∷ es) m l =
    let o : Op = op.Member k order (length ms) in
    let replied : e.reply ≡ reply w a o = StepOf-reply w a e.op e.reply (next w a e.op) l.0 ∙ ap (reply w a) m.1 in
    let more : es ≡ block_of w (next w a o) seat order ms = members_block w (next w a o) seat order ms es m.2 (subst (λ (p : Op). IsLegal w (next w a p) es) m.1 l.1) in
    λ i. record { seat = m.0 i; op = m.1 i; reply = replied i } ∷ more i
