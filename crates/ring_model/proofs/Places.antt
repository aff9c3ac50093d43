-- The places of a legal history: the events between two of them, the ring at each, and the calm there.
use Rattle.std.proofs.Common.{◌≡◌, ℕ, ◌-◌, ◌<◌, ◌≤◌, true, false, List, [], ◌∷◌, ◌++◌, length, take, drop, get_or, set, refl, sym, ◌∙◌, ap, subst, inl, inr, arith, get_or-set_same, get_or-set_other}
use Rattle.std.proofs.lemmas.Bool.{cases_eq}
use Rattle.std.proofs.lemmas.List.{append-nil, append_assoc, length-set, take-append-drop, take-take}
use Rattle.ring_model.specs.Ring.{Ring, IsRing, is_privileged, moved, written, rest, bound}
use Rattle.ring_model.specs.History.{Works, State, StepOf, next, after, IsLegal}
use Rattle.ring_model.specs.Surveys.{calm}
use Rattle.ring_model.specs.HistoryLaws.{between}
use Rattle.ring_model.specs.declared.events.Op.{Op}
use Rattle.ring_model.specs.declared.events.Op.TheVariants.{Pass, Member, Corrupt}
use Rattle.ring_model.specs.declared.events.Reply.{Reply}
use Rattle.ring_model.specs.declared.events.Reply.TheVariants.{Granted, NotPrivileged, Corrupted}
use Rattle.ring_model.specs.declared.events.Event.{Event}
use Rattle.ring_model.proofs.Moves.{length_move}
use Rattle.ring_model.proofs.Bound.{rest_bounded}
use Rattle.ring_model.proofs.Settled.{move_ring, rest_falls}
use Rattle.ring_model.proofs.Histories.{after-append, after-push, IsLegal-front, IsLegal-back, legal_step, calm_next, calm-push}

-- the events before q are those before p and those between
pub cut : (h : List Event) (p q : ℕ) → p ≤ q → take q h ≡ take p h ++ between h p q
cut h p q le = sym (take-append-drop p (take q h)) ∙ ap (λ (xs : List Event). xs ++ between h p q) (take-take p q h le)

pub front_legal : {C : Type 0} (w : Works C) (a : State C) (h : List Event) (q : ℕ) → IsLegal w a h → IsLegal w a (take q h)
front_legal w a h q l = IsLegal-front w a (take q h) (drop q h) (subst (λ (xs : List Event). IsLegal w a xs) (sym (take-append-drop q h)) l)

pub between_legal : {C : Type 0} (w : Works C) (a : State C) (h : List Event) (p q : ℕ) → p ≤ q → IsLegal w a h → IsLegal w (after w a (take p h)) (between h p q)
between_legal w a h p q le l =
    IsLegal-back w a (take p h) (between h p q) (subst (λ (xs : List Event). IsLegal w a xs) (cut h p q le) (front_legal w a h q l))

pub between_after : {C : Type 0} (w : Works C) (a : State C) (h : List Event) (p q : ℕ) → p ≤ q → after w a (take q h) ≡ after w (after w a (take p h)) (between h p q)
between_after w a h p q le = ap (λ (xs : List Event). after w a xs) (cut h p q le) ∙ after-append w a (take p h) (between h p q)

-- a claim holds of every history if it holds of the empty one and is kept by one more event
pub by_pushes : (P : List Event → Type 0) → P [] → ((es : List Event) (e : Event) → P es → P (es ++ e ∷ [])) → (h : List Event) → P h
by_pushes P none more h = go [] h none
  where
    go : (front back : List Event) → P front → P (front ++ back)
    go front [] p = subst (λ (xs : List Event). P xs) (sym (append-nil front)) p
    go front (e ∷ es) p = subst (λ (xs : List Event). P xs) (append_assoc front (e ∷ []) es) (go (front ++ e ∷ []) es (more front e p))

-- a write below K keeps a ring
pub set_ring : (r : Ring) (i v : ℕ) → IsRing r → i < length r.values → v < r.k → IsRing (written r i v)
set_ring r i v g l small =
    let two' = g.two in
    let enough' = g.enough in
    let n : length (set r.values i v) ≡ length r.values = length-set r.values i v in
    record {
      two = omega arith;
      enough = omega arith;
      below = λ k lk. elim (cases_eq k i) [
        | inl e ↦ let a : get_or (set r.values i v) k 0 ≡ v = ap (λ x. get_or (set r.values i v) x 0) e ∙ get_or-set_same r.values i v 0 l in omega arith
        | inr ne ↦
            let a : get_or (set r.values i v) k 0 ≡ get_or r.values k 0 = get_or-set_other r.values i k v 0 ne in
            let b : get_or r.values k 0 < r.k = g.below k (omega arith) in
            omega arith
      ];
    }

-- a ring t with the K and the number of machines of r
pub record IsKept (r t : Ring) : Type 0 where
  pub same : t.k ≡ r.k
  pub size : length t.values ≡ length r.values
  pub ring : IsRing t

pub kept_step : {C : Type 0} (w : Works C) (a : State C) (o : Op) (r : Reply) → StepOf w a o r (next w a o) → IsRing a.ring →
    IsKept a.ring (next w a o).ring
kept_step w a (Pass i order) (Granted number result) h g =
    let e : is_privileged a.ring.values i ≡ true = h.1 in
    rw e (record { same = refl; size = length_move a.ring i; ring = move_ring a.ring i g h.0 })
kept_step w a (Pass i order) NotPrivileged h g = let e : is_privileged a.ring.values i ≡ false = h.1 in rw e (record { same = refl; size = refl; ring = g })
kept_step w a (Pass i order) (Corrupted old) h g = absurd h
kept_step w a (Member i order left) (Granted number result) h g =
    let e : is_privileged a.ring.values i ≡ true = h.1 in
    rw e (record { same = refl; size = length_move a.ring i; ring = move_ring a.ring i g h.0 })
kept_step w a (Member i order left) NotPrivileged h g = absurd h
kept_step w a (Member i order left) (Corrupted old) h g = absurd h
kept_step w a (Corrupt i v) (Granted number result) h g = absurd h
kept_step w a (Corrupt i v) NotPrivileged h g = absurd h
kept_step w a (Corrupt i v) (Corrupted old) h g = record { same = refl; size = length-set a.ring.values i v; ring = set_ring a.ring i v g h.0 h.1 }

pub kept_after : {C : Type 0} (w : Works C) (a : State C) (h : List Event) → IsRing a.ring → IsLegal w a h →
    IsKept a.ring (after w a h).ring
kept_after w a [] g l = record { same = refl; size = refl; ring = g }
kept_after w a (e ∷ es) g l =
    let one = kept_step w a e.op e.reply l.0 g in
    let more = kept_after w (next w a e.op) es one.ring l.1 in
    record { same = more.same ∙ one.same; size = more.size ∙ one.size; ring = more.ring }

-- rest and calm after one step
pub calm_step : {C : Type 0} (w : Works C) (a : State C) (o : Op) (r : Reply) (top c : ℕ) → StepOf w a o r (next w a o) → IsRing a.ring →
    bound (length a.ring.values) ≡ top → rest a.ring ≤ top - c → rest (next w a o).ring ≤ top - calm_next c r
calm_step w a (Pass i order) (Granted number result) top c h g b le =
    let e : is_privileged a.ring.values i ≡ true = h.1 in
    let f : rest (moved a.ring i) ≤ rest a.ring - 1 = rest_falls a.ring i g h.0 e in
    rw e (omega arith)
calm_step w a (Pass i order) NotPrivileged top c h g b le = let e : is_privileged a.ring.values i ≡ false = h.1 in rw e le
calm_step w a (Pass i order) (Corrupted old) top c h g b le = absurd h
calm_step w a (Member i order left) (Granted number result) top c h g b le =
    let e : is_privileged a.ring.values i ≡ true = h.1 in
    let f : rest (moved a.ring i) ≤ rest a.ring - 1 = rest_falls a.ring i g h.0 e in
    rw e (omega arith)
calm_step w a (Member i order left) NotPrivileged top c h g b le = absurd h
calm_step w a (Member i order left) (Corrupted old) top c h g b le = absurd h
calm_step w a (Corrupt i v) (Granted number result) top c h g b le = absurd h
calm_step w a (Corrupt i v) NotPrivileged top c h g b le = absurd h
calm_step w a (Corrupt i v) (Corrupted old) top c h g b le =
    let t : Ring = written a.ring i v in
    let f : rest t ≤ bound (length t.values) = rest_bounded t (set_ring a.ring i v g h.0 h.1) in
    let n : bound (length t.values) ≡ bound (length a.ring.values) = ap bound (length-set a.ring.values i v) in
    omega arith

-- so the rest is at most the bound less the calm, at every place
pub calm_after : {C : Type 0} (w : Works C) (a : State C) → IsRing a.ring → (h : List Event) → IsLegal w a h →
    rest (after w a h).ring ≤ bound (length a.ring.values) - calm h
calm_after w a g h = by_pushes
    (λ (es : List Event). IsLegal w a es → rest (after w a es).ring ≤ bound (length a.ring.values) - calm es)
    (λ _. let top : rest a.ring ≤ bound (length a.ring.values) = rest_bounded a.ring g in omega arith)
    (λ es e ih l.
    let l' = IsLegal-front w a es (e ∷ []) l in
    let b : State _ = after w a es in
    let kept = kept_after w a es g l' in
    let one : rest (next w b e.op).ring ≤ bound (length a.ring.values) - calm_next (calm es) e.reply =
    calm_step w b e.op e.reply (bound (length a.ring.values)) (calm es) (legal_step w a es e [] l) kept.ring (ap bound kept.size) (ih l') in
    rw (after-push w a es e, calm-push es e) one)
    h
