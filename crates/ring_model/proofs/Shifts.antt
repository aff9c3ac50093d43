-- A segment's history, shifted, is a history of the one-thread ring from where the segment begins.
use Rattle.std.proofs.Common.{◌≡◌, ℕ, ◌+◌, ◌-◌, ◌^◌, ◌≤◌, Bool, true, false, cond, List, [], ◌∷◌, ◌++◌, length, min, refl, sym, ◌∙◌, ap, subst, inl, inr, arith}
use Rattle.std.proofs.lemmas.List.{map-append, append_assoc, length-map, length-set}
use Rattle.ring_model.specs.Numbers.{bit}
use Rattle.ring_model.specs.Ring.{Ring, is_privileged}
use Rattle.ring_model.specs.History.{Works, State, StepOf, opening, granted_state, next, reply, after, IsLegal}
use Rattle.ring_model.specs.Resources.{till, add_order}
use Rattle.ring_model.specs.Surveys.{is_granted, granted_count}
use Rattle.ring_model.specs.Groups.{AreMembers, IsPiece, ArePieces, joined, IsWhole, IsHistory, left_after}
use Rattle.ring_model.specs.declared.events.Op.{Op}
use Rattle.ring_model.specs.declared.events.Op.TheVariants.{Pass, Member, Corrupt}
use Rattle.ring_model.specs.declared.events.Reply.{Reply}
use Rattle.ring_model.specs.declared.events.Reply.TheVariants.{Granted, NotPrivileged, Corrupted}
use Rattle.ring_model.specs.declared.events.Event.{Event}
use Rattle.ring_model.proofs.Moves.{length_move}
use Rattle.ring_model.proofs.QuietRuns.{granted_count-cons}
use Rattle.ring_model.specs.declared.bases.Base.{Base}
use Rattle.ring_model.specs.Bases.{IsAmount, state_from, shifted_reply, shifted_event, shifted, base_after}

-- amounts

twice_capped : (b c o m : ℕ) → min (min (b + c) m + o) m ≡ min (b + min (c + o) m) m
twice_capped b c o m = omega arith

once_capped : (b m : ℕ) → b ≤ m → min (b + 0) m ≡ b
once_capped b m le = omega arith

capped : (a m : ℕ) → min a m ≤ m
capped a m = omega arith

pub add_order-twice : (b c o : ℕ) → add_order (add_order b c) o ≡ add_order b (add_order c o)
add_order-twice b c o = twice_capped b c o (2 ^ 64 - 1)

pub add_order-none : (b : ℕ) → IsAmount b → add_order b 0 ≡ b
add_order-none b le = once_capped b (2 ^ 64 - 1) le

pub add_order-amount : (b c : ℕ) → IsAmount (add_order b c)
add_order-amount b c = capped (b + c) (2 ^ 64 - 1)

-- states

abbrev pub stating : Ring → ℕ → ℕ → State ℕ
stating r c g = record { ring = r; content = c; grants = g }

-- a state of a segment, shifted
abbrev pub shifted_state : Base → State ℕ → State ℕ
shifted_state b a = stating a.ring (add_order b.amount a.content) (b.grants + a.grants)

pub state_is : (r : Ring) (c d g h : ℕ) → c ≡ d → g ≡ h → stating r c g ≡ stating r d h
state_is r c d g h e f = ap (λ (x : ℕ). stating r x g) e ∙ ap (λ (x : ℕ). stating r d x) f

granted_shifted : (b : Base) (a : State ℕ) (i order : ℕ) → granted_state till (shifted_state b a) i order ≡ shifted_state b (granted_state till a i order)
granted_shifted b a i order =
    let t : State ℕ = granted_state till a i order in
    state_is t.ring _ _ _ _ (add_order-twice b.amount a.content order) (omega arith)

next_pass : (b : Base) (a : State ℕ) (i order : ℕ) (p : Bool) →
    cond p (granted_state till (shifted_state b a) i order) (shifted_state b a) ≡ shifted_state b (cond p (granted_state till a i order) a)
next_pass b a i order true = granted_shifted b a i order
next_pass b a i order false = refl

pub next_shifted : (b : Base) (a : State ℕ) (o : Op) → next till (shifted_state b a) o ≡ shifted_state b (next till a o)
next_shifted b a (Pass i order) = next_pass b a i order (is_privileged a.ring.values i)
next_shifted b a (Member i order left) = next_pass b a i order (is_privileged a.ring.values i)
next_shifted b a (Corrupt i v) = refl

pub after_shifted : (b : Base) (a : State ℕ) (h : List Event) → after till (shifted_state b a) (shifted b h) ≡ shifted_state b (after till a h)
after_shifted b a [] = refl
after_shifted b a (e ∷ h) =
    ap (λ (x : State ℕ). after till x (shifted b h)) (next_shifted b a e.op) ∙ after_shifted b (next till a e.op) h

reply_pass : (b : Base) (a : State ℕ) (i order : ℕ) (p : Bool) →
    cond p (Granted ((shifted_state b a).grants + 1) (add_order (shifted_state b a).content order)) NotPrivileged ≡ shifted_reply b (cond p (Granted (a.grants + 1) (add_order a.content order)) NotPrivileged)
reply_pass b a i order true =
    let g : b.grants + a.grants + 1 ≡ b.grants + (a.grants + 1) = omega arith in
    ap (λ (x : ℕ). Granted x (add_order (add_order b.amount a.content) order)) g ∙ ap (λ (x : ℕ). Granted (b.grants + (a.grants + 1)) x) (add_order-twice b.amount a.content order)
reply_pass b a i order false = refl

pub reply_shifted : (b : Base) (a : State ℕ) (o : Op) → reply till (shifted_state b a) o ≡ shifted_reply b (reply till a o)
reply_shifted b a (Pass i order) = reply_pass b a i order (is_privileged a.ring.values i)
reply_shifted b a (Member i order left) = reply_pass b a i order (is_privileged a.ring.values i)
reply_shifted b a (Corrupt i v) = refl

-- steps

step_shifted : (b : Base) (a : State ℕ) (o : Op) (r : Reply) (t : State ℕ) → StepOf till a o r t → StepOf till (shifted_state b a) o (shifted_reply b r) (shifted_state b t)
step_shifted b a (Pass i order) (Granted number result) t h = (
  h.0,
  h.1,
  omega (arith, h.2),
  ap (λ (x : ℕ). add_order b.amount x) h.3 ∙ sym (add_order-twice b.amount a.content order),
  ap (λ (x : State ℕ). shifted_state b x) h.4 ∙ sym (granted_shifted b a i order),
)
step_shifted b a (Pass i order) NotPrivileged t h = (h.0, h.1, ap (λ (x : State ℕ). shifted_state b x) h.2)
step_shifted b a (Pass i order) (Corrupted old) t h = absurd h
step_shifted b a (Member i order left) (Granted number result) t h = (
  h.0,
  h.1,
  omega (arith, h.2),
  ap (λ (x : ℕ). add_order b.amount x) h.3 ∙ sym (add_order-twice b.amount a.content order),
  ap (λ (x : State ℕ). shifted_state b x) h.4 ∙ sym (granted_shifted b a i order),
)
step_shifted b a (Member i order left) NotPrivileged t h = absurd h
step_shifted b a (Member i order left) (Corrupted old) t h = absurd h
step_shifted b a (Corrupt i v) (Granted number result) t h = absurd h
step_shifted b a (Corrupt i v) NotPrivileged t h = absurd h
step_shifted b a (Corrupt i v) (Corrupted old) t h = (h.0, h.1, h.2, ap (λ (x : State ℕ). shifted_state b x) h.3)

pub legal_shifted : (b : Base) (a : State ℕ) (h : List Event) → IsLegal till a h → IsLegal till (shifted_state b a) (shifted b h)
legal_shifted b a [] l = tt
legal_shifted b a (e ∷ h) l =
    let same : next till (shifted_state b a) e.op ≡ shifted_state b (next till a e.op) = next_shifted b a e.op in (
      subst (λ (x : State ℕ). StepOf till (shifted_state b a) e.op (shifted_reply b e.reply) x) (sym same) (step_shifted b a e.op e.reply (next till a e.op) l.0),
      subst (λ (x : State ℕ). IsLegal till x (shifted b h)) (sym same) (legal_shifted b (next till a e.op) h l.1),
    )

-- whole histories

members_shifted : (b : Base) (seat order : ℕ) (ms : List ℕ) (es : List Event) → AreMembers seat order ms es → AreMembers seat order ms (shifted b es)
members_shifted b seat order [] es m = ap (λ (x : List Event). shifted b x) m
members_shifted b seat order (i ∷ ms) [] m = absurd m
members_shifted b seat order (i ∷ ms) (e ∷ es) m = (m.0, m.1, members_shifted b seat order ms es m.2)

piece_shifted : (b : Base) (n : ℕ) (p : List Event) → IsPiece n p → IsPiece n (shifted b p)
piece_shifted b n p (inl w) = inl (shifted_event b w.0, ap (λ (x : List Event). shifted b x) w.1, w.2)
piece_shifted b n p (inr k) =
    inr (record { seat = k.seat; order = k.order; machines = k.machines; is = record { in_order = k.is.in_order; members = members_shifted b k.seat k.order k.machines p k.is.members } })

abbrev pieces_of : Base → List (List Event) → List (List Event)
pieces_of b [] = []
pieces_of b (p ∷ ps) = shifted b p ∷ pieces_of b ps

pieces_shifted : (b : Base) (n : ℕ) (ps : List (List Event)) → ArePieces n ps → ArePieces n (pieces_of b ps)
pieces_shifted b n [] a = tt
pieces_shifted b n (p ∷ ps) a = (piece_shifted b n p a.0, pieces_shifted b n ps a.1)

joined_shifted : (b : Base) (ps : List (List Event)) → joined (pieces_of b ps) ≡ shifted b (joined ps)
joined_shifted b [] = refl
joined_shifted b (p ∷ ps) =
    ap (λ (x : List Event). shifted b p ++ x) (joined_shifted b ps) ∙ sym (map-append (λ (e : Event). shifted_event b e) p (joined ps))

pub whole_shifted : (b : Base) (n : ℕ) (h : List Event) → IsWhole n h → IsWhole n (shifted b h)
whole_shifted b n h w = record {
  pieces = pieces_of b w.pieces;
  are = pieces_shifted b n w.pieces w.are;
  all = joined_shifted b w.pieces ∙ ap (λ (x : List Event). shifted b x) w.all;
}

pieces_joined : (n : ℕ) (ps qs : List (List Event)) → ArePieces n ps → ArePieces n qs → ArePieces n (ps ++ qs)
pieces_joined n [] qs a b = b
pieces_joined n (p ∷ ps) qs a b = (a.0, pieces_joined n ps qs a.1 b)

joined_both : (ps qs : List (List Event)) → joined (ps ++ qs) ≡ joined ps ++ joined qs
joined_both [] qs = refl
joined_both (p ∷ ps) qs = ap (λ (x : List Event). p ++ x) (joined_both ps qs) ∙ sym (append_assoc p (joined ps) (joined qs))

pub whole_both : (n : ℕ) (xs ys : List Event) → IsWhole n xs → IsWhole n ys → IsWhole n (xs ++ ys)
whole_both n xs ys v w = record {
  pieces = v.pieces ++ w.pieces;
  are = pieces_joined n v.pieces w.pieces v.are w.are;
  all = joined_both v.pieces w.pieces ∙ ap (λ (x : List Event). x ++ joined w.pieces) v.all ∙ ap (λ (x : List Event). xs ++ x) w.all;
}

pub left_shifted : (b : Base) (h : List Event) → left_after (shifted b h) ≡ left_after h
left_shifted b [] = refl
left_shifted b (e ∷ []) = refl
left_shifted b (e ∷ d ∷ h) = left_shifted b (d ∷ h)

pub length_shifted : (b : Base) (h : List Event) → length (shifted b h) ≡ length h
length_shifted b h = length-map h (λ (e : Event). shifted_event b e)

-- the number of machines and of grants after a history

size_next : {C : Type 0} (w : Works C) (a : State C) (o : Op) → length (next w a o).ring.values ≡ length a.ring.values
size_next w a (Pass i order) = elim (is_privileged a.ring.values i) as (λ p. length (cond p (granted_state w a i order) a).ring.values ≡ length a.ring.values) [ true ↦ length_move a.ring i | false ↦ refl ]
size_next w a (Member i order left) = elim (is_privileged a.ring.values i) as (λ p. length (cond p (granted_state w a i order) a).ring.values ≡ length a.ring.values) [ true ↦ length_move a.ring i | false ↦ refl ]
size_next w a (Corrupt i v) = length-set a.ring.values i v

pub size_after : {C : Type 0} (w : Works C) (a : State C) (h : List Event) → length (after w a h).ring.values ≡ length a.ring.values
size_after w a [] = refl
size_after w a (e ∷ h) = size_after w (next w a e.op) h ∙ size_next w a e.op

grants_step : {C : Type 0} (w : Works C) (a : State C) (o : Op) (r : Reply) (t : State C) → StepOf w a o r t → t.grants ≡ a.grants + bit (is_granted r)
grants_step w a (Pass i order) (Granted number result) t h = ap (λ s. s.grants) h.4
grants_step w a (Pass i order) NotPrivileged t h = ap (λ s. s.grants) h.2 ∙ omega arith
grants_step w a (Pass i order) (Corrupted old) t h = absurd h
grants_step w a (Member i order left) (Granted number result) t h = ap (λ s. s.grants) h.4
grants_step w a (Member i order left) NotPrivileged t h = absurd h
grants_step w a (Member i order left) (Corrupted old) t h = absurd h
grants_step w a (Corrupt i v) (Granted number result) t h = absurd h
grants_step w a (Corrupt i v) NotPrivileged t h = absurd h
grants_step w a (Corrupt i v) (Corrupted old) t h = ap (λ s. s.grants) h.3 ∙ omega arith

pub grants_legal : {C : Type 0} (w : Works C) (a : State C) (h : List Event) → IsLegal w a h → (after w a h).grants ≡ a.grants + granted_count h
grants_legal w a [] l = omega arith
grants_legal w a (e ∷ h) l =
    let rest : (after w (next w a e.op) h).grants ≡ (next w a e.op).grants + granted_count h = grants_legal w (next w a e.op) h l.1 in
    let one : (next w a e.op).grants ≡ a.grants + bit (is_granted e.reply) = grants_step w a e.op e.reply (next w a e.op) l.0 in
    let c : granted_count (e ∷ h) ≡ bit (is_granted e.reply) + granted_count h = granted_count-cons e h in
    omega arith

-- where a segment begins, and where it ends

pub begins : (b : Base) (r : Ring) → IsAmount b.amount → shifted_state b (opening r 0) ≡ state_from b r
begins b r le = state_is r _ _ _ _ (add_order-none b.amount le) (omega arith)

pub ends : (b : Base) (r : Ring) (h : List Event) → IsAmount b.amount → IsLegal till (opening r 0) h →
    after till (state_from b r) (shifted b h) ≡ state_from (base_after b r h) (after till (opening r 0) h).ring
ends b r h le l =
    let g : (after till (opening r 0) h).grants ≡ 0 + granted_count h = grants_legal till (opening r 0) h l in
    ap (λ (x : State ℕ). after till x (shifted b h)) (sym (begins b r le))
    ∙ after_shifted b (opening r 0) h
    ∙ state_is (after till (opening r 0) h).ring _ _ _ _ refl (omega arith)

pub history_shifted : (b : Base) (r : Ring) (h : List Event) → IsAmount b.amount → IsHistory till (opening r 0) h → IsHistory till (state_from b r) (shifted b h)
history_shifted b r h le i = (
  subst (λ (x : State ℕ). IsLegal till x (shifted b h)) (begins b r le) (legal_shifted b (opening r 0) h i.0),
  whole_shifted b (length r.values) h i.1,
)
