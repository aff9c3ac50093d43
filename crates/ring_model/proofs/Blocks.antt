-- Blocks in a legal history: their moves, and that they are steps.
use Rattle.std.proofs.Common.{◌≡◌, ℕ, ◌+◌, ◌<◌, true, List, [], ◌∷◌, length, take, refl, sym, ◌∙◌, ap, subst, inl, inr, arith}
use Rattle.std.proofs.lemmas.Bool.{cond-true}
use Rattle.ring_model.specs.Ring.{Ring, is_privileged}
use Rattle.ring_model.specs.History.{Works, State, StepOf, granted_state, next, reply, after, IsLegal}
use Rattle.ring_model.specs.HistoryLaws.{between}
use Rattle.ring_model.specs.Groups.{has, GroupMove, IsInOrder, AreMembers}
use Rattle.ring_model.specs.GroupLaws.{AreAllPrivileged, block_of, BlocksAreLegal, BlocksMove}
use Rattle.ring_model.specs.declared.events.Op.{Op}
use Rattle.ring_model.specs.declared.events.Op.TheVariants.{Member}
use Rattle.ring_model.specs.declared.events.Reply.{Reply}
use Rattle.ring_model.specs.declared.events.Reply.TheVariants.{Granted, NotPrivileged, Corrupted}
use Rattle.ring_model.specs.declared.events.Event.{Event}
use Rattle.ring_model.proofs.Places.{front_legal, between_legal, between_after, kept_after}
use Rattle.ring_model.proofs.Groups.{Agrees, Walks, walk, walk_start, walk_end, has_parts, group_done}

-- a member's step is a granted pass
member_privileged : {C : Type 0} (w : Works C) (a : State C) (i order left : ℕ) (r : Reply) (b : State C) → StepOf w a (Member i order left) r b → is_privileged a.ring.values i ≡ true
member_privileged w a i order left (Granted number result) b h = h.1
member_privileged w a i order left NotPrivileged b h = absurd h
member_privileged w a i order left (Corrupted old) b h = absurd h

pub member_next : {C : Type 0} (w : Works C) (a : State C) (i order left : ℕ) → is_privileged a.ring.values i ≡ true → next w a (Member i order left) ≡ granted_state w a i order
member_next w a i order left e = cond-true (is_privileged a.ring.values i) (granted_state w a i order) a e

pub member_reply : {C : Type 0} (w : Works C) (a : State C) (i order left : ℕ) → is_privileged a.ring.values i ≡ true →
    reply w a (Member i order left) ≡ Granted (a.grants + 1) (w.answer a.content i order)
member_reply w a i order left e = rw e refl

pub member_step : {C : Type 0} (w : Works C) (a : State C) (i order left : ℕ) → i < length a.ring.values → is_privileged a.ring.values i ≡ true →
    StepOf w a (Member i order left) (reply w a (Member i order left)) (next w a (Member i order left))
member_step w a i order left l e =
    subst (λ (b : State _). StepOf w a (Member i order left) (reply w a (Member i order left)) b) (sym (member_next w a i order left e))
    (subst (λ (r : Reply). StepOf w a (Member i order left) r (granted_state w a i order)) (sym (member_reply w a i order left e)) (l, e, refl, refl, refl))

-- the state after a legal block, and that its machines were privileged before it
pub record Moves (before : Ring) (group ms : List ℕ) (u : Ring) : Type 0 where
  pub able : (i : ℕ) → has ms i ≡ true → is_privileged before.values i ≡ true
  pub agrees : Agrees before group u

pub block_moves : {C : Type 0} (w : Works C) (a : State C) (before : Ring) (group done : List ℕ) (seat order : ℕ) (ms : List ℕ) (es : List Event) →
    Walks before group done ms a.ring → AreMembers seat order ms es → IsLegal w a es → Moves before group ms (after w a es).ring
block_moves w a before group done seat order [] es k m l = record {
  able = λ i h. absurd (cc);
  agrees = subst (λ (x : List Event). Agrees before group (after w a x).ring) (sym m) (walk_end before group done a.ring k);
}
block_moves w a before group done seat order (i ∷ ms) [] k m l = absurd m
block_moves w a before group done seat order (i ∷ ms) (e ∷ es) k m l =
    let t = walk before group done i ms a.ring k in
    let step : StepOf w a (Member i order (length ms)) e.reply (next w a (Member i order (length ms))) = subst (λ (o : Op). StepOf w a o e.reply (next w a o)) m.1 l.0 in
    let on : is_privileged a.ring.values i ≡ true = member_privileged w a i order (length ms) e.reply _ step in
    let goes : next w a e.op ≡ granted_state w a i order = ap (λ (o : Op). next w a o) m.1 ∙ member_next w a i order (length ms) on in
    let ih = block_moves w (granted_state w a i order) before group (i ∷ done) seat order ms es t.more m.2 (subst (λ (b : State _). IsLegal w b es) goes l.1) in
    record {
      able = λ j h. elim (has_parts i j ms h) [ inl q ↦ ap (is_privileged before.values) q ∙ (sym t.privileged ∙ on) | inr r ↦ ih.able j r ];
      agrees = subst (λ (b : State _). Agrees before group (after w b es).ring) (sym goes) ih.agrees;
    }

pub blocks_move : {C : Type 0} → BlocksMove C
blocks_move w a h g l p q seat order ms le lq b =
    let before : Ring = (after w a (take p h)).ring in
    let kept = kept_after w a (take p h) g (front_legal w a h p l) in
    let two = kept.ring.two in
    let o : IsInOrder (length before.values) ms = subst (λ (n : ℕ). IsInOrder n ms) (sym kept.size) b.in_order in
    let m = block_moves w (after w a (take p h)) before ms [] seat order ms (between h p q)
    (walk_start before ms (omega arith) o) b.members (between_legal w a h p q le l) in
    let there : GroupMove before ms (after w (after w a (take p h)) (between h p q)).ring = group_done before ms _ o m.able m.agrees in
    subst (λ (c : State _). GroupMove before ms c.ring) (sym (between_after w a h p q le)) there

pub block_legal : {C : Type 0} (w : Works C) (a : State C) (before : Ring) (group done : List ℕ) (seat order : ℕ) (ms : List ℕ) →
    Walks before group done ms a.ring → AreAllPrivileged before.values group → IsLegal w a (block_of w a seat order ms)
block_legal w a before group done seat order [] k able = tt
block_legal w a before group done seat order (i ∷ ms) k able =
    let t = walk before group done i ms a.ring k in
    let on : is_privileged a.ring.values i ≡ true = t.privileged ∙ able i t.member in
    let ih = block_legal w (granted_state w a i order) before group (i ∷ done) seat order ms t.more able in (
      member_step w a i order (length ms) t.below on,
      subst (λ (b : State _). IsLegal w b (block_of w b seat order ms)) (sym (member_next w a i order (length ms) on)) ih,
    )

pub block_members : {C : Type 0} (w : Works C) (a : State C) (seat order : ℕ) (ms : List ℕ) → AreMembers seat order ms (block_of w a seat order ms)
block_members w a seat order [] = refl
block_members w a seat order (i ∷ ms) = (refl, refl, block_members w (next w a (Member i order (length ms))) seat order ms)

pub blocks_are_legal : {C : Type 0} → BlocksAreLegal C
blocks_are_legal w a seat order ms g o able =
    let two = g.two in (
      block_legal w a a.ring ms [] seat order ms (walk_start a.ring ms (omega arith) o) able,
      record { in_order = o; members = block_members w a seat order ms },
    )
