-- No repair takes more passes than the bound.
use Rattle.std.proofs.Common.{◌≡◌, ℕ, ◌+◌, ◌<◌, ◌≤◌, Bool, true, false, cond, List, [], ◌∷◌, ◌++◌, length, refl, sym, ap, ◌∙◌, arith}
use Rattle.std.specs.List.{All}
use Rattle.std.proofs.lemmas.List.Elements.{All-nil, All-cons, All-append, All-weaker}
use Rattle.ring_model.specs.Ring.{Ring, IsRing, is_privileged, moved, is_settled, rest, bound}
use Rattle.ring_model.specs.History.{Works, State, StepOf, next, IsLegal}
use Rattle.ring_model.specs.Surveys.{is_corrupted}
use Rattle.ring_model.specs.declared.events.Op.{Op}
use Rattle.ring_model.specs.declared.events.Op.TheVariants.{Pass, Member, Corrupt}
use Rattle.ring_model.specs.declared.events.Reply.{Reply}
use Rattle.ring_model.specs.declared.events.Reply.TheVariants.{Granted, NotPrivileged, Corrupted}
use Rattle.ring_model.specs.declared.events.Event.{Event}
use Rattle.ring_model.proofs.Bound.{rest_bounded}
use Rattle.ring_model.proofs.Descent.{descent}
use Rattle.ring_model.proofs.Places.{kept_step}
use Rattle.history_repairs.specs.declared.repairs.Repair.{Repair}
use Rattle.history_repairs.specs.Repairs.{begun, with_event, ended, repairs, RepairsAreBounded}

module _ {C : Type 0} (w : Works C) where
  -- while the ring is not settled, what a pass counts is taken from the rest
  counted_step : (a : State C) (o : Op) (r : Reply) (c : Repair) → StepOf w a o r (next w a o) → IsRing a.ring → is_settled a.ring.values ≡ false → is_corrupted r ≡ false →
      (with_event c r).passes + rest (next w a o).ring ≤ c.passes + rest a.ring
  counted_step a (Pass i order) (Granted number result) c h g u q =
      let e : is_privileged a.ring.values i ≡ true = h.1 in
      let f : rest (moved a.ring i) < rest a.ring = descent a.ring i g h.0 e u in
      rw e (omega arith)
  counted_step a (Pass i order) NotPrivileged c h g u q = let e : is_privileged a.ring.values i ≡ false = h.1 in rw e (omega arith)
  counted_step a (Pass i order) (Corrupted old) c h g u q = absurd h
  counted_step a (Member i order left) (Granted number result) c h g u q =
      let e : is_privileged a.ring.values i ≡ true = h.1 in
      let f : rest (moved a.ring i) < rest a.ring = descent a.ring i g h.0 e u in
      rw e (omega arith)
  counted_step a (Member i order left) NotPrivileged c h g u q = absurd h
  counted_step a (Member i order left) (Corrupted old) c h g u q = absurd h
  counted_step a (Corrupt i v) (Granted number result) c h g u q = absurd h
  counted_step a (Corrupt i v) NotPrivileged c h g u q = absurd h
  counted_step a (Corrupt i v) (Corrupted old) c h g u q = let bad : ⊥ = cc in absurd bad

  -- a repair takes at most what it has counted, and the rest
  abbrev Within : ℕ → Repair → Type 0
  Within most c = c.passes ≤ most

  settled_or_not : (s : Bool) (c : Repair) (most : ℕ) → c.passes ≤ most → All (Within most) (cond s (c ∷ []) [])
  settled_or_not true c most l = All-cons (Within most) c [] l (All-nil (Within most))
  settled_or_not false c most l = All-nil (Within most)

  one_more : (s fault : Bool) (c : Repair) (most : ℕ) (later : List Repair) → c.passes ≤ most → (s ≡ false → fault ≡ false → All (Within most) later) →
      All (Within most) (cond s (c ∷ []) (cond fault [] later))
  one_more true fault c most later l h = All-cons (Within most) c [] l (All-nil (Within most))
  one_more false true c most later l h = All-nil (Within most)
  one_more false false c most later l h = h refl refl

  ended_bounded : (c : Repair) (a : State C) (es : List Event) → IsRing a.ring → IsLegal w a es → All (Within (c.passes + rest a.ring)) (ended w c a es)
  ended_bounded c a [] g l = settled_or_not (is_settled a.ring.values) c (c.passes + rest a.ring) (omega arith)
  ended_bounded c a (e ∷ es) g l =
      let b = next w a e.op in
      let d = with_event c e.reply in
      let kept = kept_step w a e.op e.reply l.0 g in
      one_more (is_settled a.ring.values) (is_corrupted e.reply) c (c.passes + rest a.ring) (ended w d b es) (omega arith)
      (λ u q.
      let le : d.passes + rest b.ring ≤ c.passes + rest a.ring = counted_step a e.op e.reply c l.0 g u q in
      All-weaker (Within (d.passes + rest b.ring)) (Within (c.passes + rest a.ring)) (λ x h. omega arith) (ended w d b es) (ended_bounded d b es kept.ring l.1))

  begun_bounded : (n : ℕ) (s : Bool) (b : State C) (es : List Event) → IsRing b.ring → length b.ring.values ≡ n → IsLegal w b es →
      All (Within (bound n)) (cond s (ended w (begun b.ring) b es) [])
  begun_bounded n false b es g size l = All-nil (Within (bound n))
  begun_bounded n true b es g size l =
      let most : rest b.ring ≤ bound (length b.ring.values) = rest_bounded b.ring g in
      let same : bound (length b.ring.values) ≡ bound n = ap bound size in
      All-weaker (Within (0 + rest b.ring)) (Within (bound n)) (λ x h. omega arith) (ended w (begun b.ring) b es) (ended_bounded (begun b.ring) b es g l)

  all_bounded : (n : ℕ) (a : State C) (h : List Event) → IsRing a.ring → length a.ring.values ≡ n → IsLegal w a h → All (Within (bound n)) (repairs w a h)
  all_bounded n a [] g size l = All-nil (Within (bound n))
  all_bounded n a (e ∷ es) g size l =
      let b = next w a e.op in
      let kept = kept_step w a e.op e.reply l.0 g in
      All-append (Within (bound n)) (cond (is_corrupted e.reply) (ended w (begun b.ring) b es) []) (repairs w b es)
      (begun_bounded n (is_corrupted e.reply) b es kept.ring (kept.size ∙ size) l.1)
      (all_bounded n b es kept.ring (kept.size ∙ size) l.1)

pub repairs_are_bounded : {C : Type 0} → RepairsAreBounded C
repairs_are_bounded w a h g l = all_bounded w (length a.ring.values) a h g refl l
