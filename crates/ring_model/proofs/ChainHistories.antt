-- The history of a chain is one of the one-thread ring, and each segment continues those before it.
use Rattle.std.proofs.Common.{◌≡◌, ℕ, ◌+◌, ◌≤◌, ◌==◌, Bool, true, false, cond, List, [], ◌∷◌, ◌++◌, length, length-append, refl, sym, ◌∙◌, ap, subst, arith}
use Rattle.std.proofs.lemmas.Bool.{ne_eqb}
use Rattle.std.proofs.lemmas.List.{append-nil, append_assoc}
use Rattle.ring_model.specs.Numbers.{bit}
use Rattle.ring_model.specs.Ring.{Ring}
use Rattle.ring_model.specs.History.{Works, State, StepOf, opening, next, reply, after, IsLegal}
use Rattle.ring_model.specs.Resources.{till}
use Rattle.ring_model.specs.Surveys.{is_corrupted, corrupted_count, calm}
use Rattle.ring_model.specs.Groups.{IsWhole, IsHistory}
use Rattle.ring_model.specs.declared.events.Op.{Op}
use Rattle.ring_model.specs.declared.events.Op.TheVariants.{Pass, Member, Corrupt}
use Rattle.ring_model.specs.declared.events.Reply.{Reply}
use Rattle.ring_model.specs.declared.events.Reply.TheVariants.{Granted, NotPrivileged, Corrupted}
use Rattle.ring_model.specs.declared.events.Event.{Event}
use Rattle.ring_model.proofs.Histories.{after-append, IsLegal-append, calm_next, calm-push}
use Rattle.ring_model.proofs.Places.{by_pushes}
use Rattle.ring_model.proofs.Suffixes.{count_events-push}
use Rattle.ring_model.proofs.Wholes.{whole_none}
use Rattle.ring_model.specs.declared.bases.Base.{Base}
use Rattle.ring_model.specs.Bases.{IsAmount, state_from, shifted_reply, shifted, base_after}
use Rattle.ring_model.specs.Chains.{Segment, IsChainFrom, chain_history}
use Rattle.ring_model.specs.ChainLaws.{ChainsAreHistories, SegmentsContinue, RemaindersAreChains, RepliesAreRight, and_number, grant_numbers, RiseByOne, NumbersRise, CalmIsAtLeast}
use Rattle.ring_model.proofs.Shifts.{add_order-amount, length_shifted, size_after, whole_both, begins, ends, history_shifted, shifted_state, after_shifted, reply_shifted}

-- one history

pub chains_are_histories : ChainsAreHistories
chains_are_histories b r [] le c = (tt, whole_none (length r.values))
chains_are_histories b r (s ∷ ss) le c =
    let rest : Base = base_after b r s.history in
    let there : Ring = (after till (opening r 0) s.history).ring in
    let first : IsHistory till (state_from b r) (shifted b s.history) = history_shifted b r s.history le c.2 in
    let more : IsHistory till (state_from rest there) (chain_history ss) = chains_are_histories rest there ss (add_order-amount b.amount (after till (opening r 0) s.history).content) c.3 in
    let at : after till (state_from b r) (shifted b s.history) ≡ state_from rest there = ends b r s.history le c.2.0 in
    let size : length there.values ≡ length r.values = size_after till (opening r 0) s.history in
    subst (λ (x : Base). IsHistory till (state_from b r) (shifted x s.history ++ chain_history ss)) (sym c.0) (
      IsLegal-append till (state_from b r) (shifted b s.history) (chain_history ss) first.0 (subst (λ (x : State ℕ). IsLegal till x (chain_history ss)) (sym at) more.0),
      whole_both (length r.values) (shifted b s.history) (chain_history ss) first.1 (subst (λ (n : ℕ). IsWhole n (chain_history ss)) size more.1),
    )

-- the numbers of its grants

number_step : {C : Type 0} (w : Works C) (a : State C) (o : Op) (r : Reply) (t : State C) (numbers : List ℕ) → StepOf w a o r t → RiseByOne t.grants numbers → RiseByOne a.grants (and_number r numbers)
number_step w a (Pass i order) (Granted number result) t numbers h rise = (h.2, subst (λ (x : ℕ). RiseByOne x numbers) (ap (λ s. s.grants) h.4 ∙ sym h.2) rise)
number_step w a (Pass i order) NotPrivileged t numbers h rise = subst (λ (x : ℕ). RiseByOne x numbers) (ap (λ s. s.grants) h.2) rise
number_step w a (Pass i order) (Corrupted old) t numbers h rise = absurd h
number_step w a (Member i order left) (Granted number result) t numbers h rise = (h.2, subst (λ (x : ℕ). RiseByOne x numbers) (ap (λ s. s.grants) h.4 ∙ sym h.2) rise)
number_step w a (Member i order left) NotPrivileged t numbers h rise = absurd h
number_step w a (Member i order left) (Corrupted old) t numbers h rise = absurd h
number_step w a (Corrupt i v) (Granted number result) t numbers h rise = absurd h
number_step w a (Corrupt i v) NotPrivileged t numbers h rise = absurd h
number_step w a (Corrupt i v) (Corrupted old) t numbers h rise = subst (λ (x : ℕ). RiseByOne x numbers) (ap (λ s. s.grants) h.3) rise

legal_numbers : {C : Type 0} (w : Works C) (a : State C) (h : List Event) → IsLegal w a h → RiseByOne a.grants (grant_numbers h)
legal_numbers w a [] l = tt
legal_numbers w a (e ∷ h) l = number_step w a e.op e.reply (next w a e.op) (grant_numbers h) l.0 (legal_numbers w (next w a e.op) h l.1)

pub numbers_rise : NumbersRise
numbers_rise b r ss le c = legal_numbers till (state_from b r) (chain_history ss) (chains_are_histories b r ss le c).0

-- the calm after a history with some calm before it

abbrev pub calm_with : ℕ → List Event → ℕ
calm_with c [] = c
calm_with c (e ∷ es) = calm_with (calm_next c e.reply) es

pub calm_with-append : (c : ℕ) (xs ys : List Event) → calm_with c (xs ++ ys) ≡ calm_with (calm_with c xs) ys
calm_with-append c [] ys = refl
calm_with-append c (e ∷ xs) ys = calm_with-append (calm_next c e.reply) xs ys

calm_reply : (b : Base) (c : ℕ) (r : Reply) → calm_next c (shifted_reply b r) ≡ calm_next c r
calm_reply b c (Granted number result) = refl
calm_reply b c NotPrivileged = refl
calm_reply b c (Corrupted old) = refl

pub calm_with-shifted : (b : Base) (c : ℕ) (h : List Event) → calm_with c (shifted b h) ≡ calm_with c h
calm_with-shifted b c [] = refl
calm_with-shifted b c (e ∷ h) = ap (λ (x : ℕ). calm_with x (shifted b h)) (calm_reply b c e.reply) ∙ calm_with-shifted b (calm_next c e.reply) h

-- without any before it is the calm
pub calm_with_none : (h : List Event) → calm_with 0 h ≡ calm h
calm_with_none h = by_pushes (λ (es : List Event). calm_with 0 es ≡ calm es) refl
    (λ es e q. calm_with-append 0 es (e ∷ []) ∙ ap (λ (x : ℕ). calm_next x e.reply) q ∙ sym (calm-push es e)) h

abbrev calm_said : ℕ → ℕ → ℕ → ℕ
calm_said corrupted before local = cond (corrupted == 0) (before + local) local

one_more : (c : ℕ) (es : List Event) (r : Reply) → calm_next (calm_said (corrupted_count es) c (calm es)) r ≡ calm_said (corrupted_count es + bit (is_corrupted r)) c (calm_next (calm es) r)
one_more c es (Granted number result) =
    let same : corrupted_count es ≡ corrupted_count es + 0 = omega arith in
    by (corrupted_count es == 0) ∙ ap (λ (x : ℕ). calm_said x c (calm es + 1)) same
  where
    by : (q : Bool) → cond q (c + calm es) (calm es) + 1 ≡ cond q (c + (calm es + 1)) (calm es + 1)
    by true = omega arith
    by false = refl
one_more c es NotPrivileged = ap (λ (x : ℕ). calm_said x c (calm es)) (let same : corrupted_count es ≡ corrupted_count es + 0 = omega arith in same)
one_more c es (Corrupted old) =
    let some : (corrupted_count es + 1 == 0) ≡ false = ne_eqb (corrupted_count es + 1) 0 (λ e. absurd (omega arith)) in
    ap (λ (x : Bool). cond x (c + 0) 0) (sym some)

pub calm_with_is : (c : ℕ) (h : List Event) → calm_with c h ≡ cond (corrupted_count h == 0) (c + calm h) (calm h)
calm_with_is c h = by_pushes (λ (es : List Event). calm_with c es ≡ calm_said (corrupted_count es) c (calm es)) (omega arith)
    (λ es e q. calm_with-append c es (e ∷ []) ∙ ap (λ (x : ℕ). calm_next x e.reply) q ∙ one_more c es e.reply
    ∙ ap (λ (x : ℕ). calm_said x c (calm_next (calm es) e.reply)) (sym (count_events-push (λ (u : Event). is_corrupted u.reply) es e))
    ∙ ap (λ (x : ℕ). calm_said (corrupted_count (es ++ e ∷ [])) c x) (sym (calm-push es e))) h

-- so the calm of a history follows from those of its two parts
pub calm_both : (xs ys : List Event) → calm (xs ++ ys) ≡ cond (corrupted_count ys == 0) (calm xs + calm ys) (calm ys)
calm_both xs ys =
    sym (calm_with_none (xs ++ ys)) ∙ calm_with-append 0 xs ys ∙ ap (λ (x : ℕ). calm_with x ys) (calm_with_none xs) ∙ calm_with_is (calm xs) ys

pub calm_is_at_least : CalmIsAtLeast
calm_is_at_least before h =
    subst (λ (x : ℕ). calm h ≤ x) (sym (calm_both before h)) (by (corrupted_count h == 0))
  where
    by : (q : Bool) → calm h ≤ cond q (calm before + calm h) (calm h)
    by true = omega arith
    by false = omega arith

-- where a segment begins

pub record Stands (b : Base) (r : Ring) (front : List Segment) (s : Segment) : Type 0 where
  pub events : s.base.events ≡ b.events + length (chain_history front)
  pub state : after till (state_from b r) (chain_history front) ≡ state_from s.base s.start
  pub calm : s.base.calm ≡ calm_with b.calm (chain_history front)
  pub amount : IsAmount s.base.amount
  pub history : IsHistory till (opening s.start 0) s.history

pub stands : (b : Base) (r : Ring) (front : List Segment) (s : Segment) (back : List Segment) → IsAmount b.amount → IsChainFrom b r (front ++ s ∷ back) → Stands b r front s
stands b r [] s back le c = record {
  events = ap (λ (x : Base). x.events) c.0 ∙ omega arith;
  state = ap (λ (x : Base). state_from x r) (sym c.0) ∙ ap (λ (x : Ring). state_from s.base x) (sym c.1);
  calm = ap (λ (x : Base). x.calm) c.0;
  amount = subst (λ (x : Base). IsAmount x.amount) (sym c.0) le;
  history = subst (λ (x : Ring). IsHistory till (opening x 0) s.history) (sym c.1) c.2;
}
stands b r (f ∷ front) s back le c =
    let mid : Base = base_after b r f.history in
    let there : Ring = (after till (opening r 0) f.history).ring in
    let ih : Stands mid there front s = stands mid there front s back (add_order-amount b.amount (after till (opening r 0) f.history).content) c.3 in
    let at : after till (state_from b r) (shifted b f.history) ≡ state_from mid there = ends b r f.history le c.2.0 in
    let size : length (shifted b f.history) ≡ length f.history = length_shifted b f.history in
    let both : length (shifted b f.history ++ chain_history front) ≡ length (shifted b f.history) + length (chain_history front) = length-append (shifted b f.history) (chain_history front) in
    let events : s.base.events ≡ b.events + length f.history + length (chain_history front) = ih.events in
    let end : s.base.events ≡ b.events + length (shifted b f.history ++ chain_history front) = omega arith in
    record {
      events = subst (λ (x : Base). s.base.events ≡ b.events + length (shifted x f.history ++ chain_history front)) (sym c.0) end;
      state = subst (λ (x : Base). after till (state_from b r) (shifted x f.history ++ chain_history front) ≡ state_from s.base s.start) (sym c.0)
          (after-append till (state_from b r) (shifted b f.history) (chain_history front) ∙ ap (λ (x : State ℕ). after till x (chain_history front)) at ∙ ih.state);
      calm = subst (λ (x : Base). s.base.calm ≡ calm_with b.calm (shifted x f.history ++ chain_history front)) (sym c.0)
          (ih.calm ∙ ap (λ (x : ℕ). calm_with x (chain_history front)) (sym (calm_with_is b.calm f.history) ∙ sym (calm_with-shifted b b.calm f.history)) ∙ sym (calm_with-append b.calm (shifted b f.history) (chain_history front)));
      amount = ih.amount;
      history = ih.history;
    }

pub segments_continue : SegmentsContinue
segments_continue b r front s back le c = let h = stands b r front s back le c in record { events = h.events; state = h.state; calm = h.calm ∙ calm_with_is b.calm (chain_history front) }

-- the front of a chain is a chain
pub chain_front : (b : Base) (r : Ring) (front back : List Segment) → IsChainFrom b r (front ++ back) → IsChainFrom b r front
chain_front b r [] back c = tt
chain_front b r (s ∷ front) back c = (c.0, c.1, c.2, chain_front (base_after b r s.history) (after till (opening r 0) s.history).ring front back c.3)

pub history_append : (front back : List Segment) → chain_history (front ++ back) ≡ chain_history front ++ chain_history back
history_append [] back = refl
history_append (s ∷ front) back = ap (λ (x : List Event). shifted s.base s.history ++ x) (history_append front back) ∙ sym (append_assoc (shifted s.base s.history) (chain_history front) (chain_history back))

-- the remainder of a chain whose first segments were deleted

first_left : (b : Base) (r : Ring) (s : Segment) (back : List Segment) → IsChainFrom b r (s ∷ back) → IsChainFrom s.base s.start (s ∷ back)
first_left b r s back c =
    subst (λ (x : Base). IsChainFrom x s.start (s ∷ back)) (sym c.0) (subst (λ (x : Ring). IsChainFrom b x (s ∷ back)) (sym c.1) c)

chain_back : (b : Base) (r : Ring) (front : List Segment) (s : Segment) (back : List Segment) → IsChainFrom b r (front ++ s ∷ back) → IsChainFrom s.base s.start (s ∷ back)
chain_back b r [] s back c = first_left b r s back c
chain_back b r (f ∷ front) s back c = chain_back (base_after b r f.history) (after till (opening r 0) f.history).ring front s back c.3

pub remainders_are_chains : RemaindersAreChains
remainders_are_chains b r front s back le c =
    let at : Stands b r front s = stands b r front s back le c in
    record { amount = at.amount; chain = chain_back b r front s back c; events = history_append front (s ∷ back) }

-- replies

pub replies_are_right : RepliesAreRight
replies_are_right b r front s o le c =
    let at : Stands b r front s = stands b r front s [] le c in
    let text : chain_history (front ++ s ∷ []) ≡ chain_history front ++ shifted s.base s.history =
    history_append front (s ∷ []) ∙ ap (λ (x : List Event). chain_history front ++ x) (append-nil (shifted s.base s.history)) in
    let there : after till (state_from b r) (chain_history (front ++ s ∷ [])) ≡ shifted_state s.base (after till (opening s.start 0) s.history) =
    ap (λ (x : List Event). after till (state_from b r) x) text
    ∙ after-append till (state_from b r) (chain_history front) (shifted s.base s.history)
    ∙ ap (λ (x : State ℕ). after till x (shifted s.base s.history)) (at.state ∙ sym (begins s.base s.start at.amount))
    ∙ after_shifted s.base (opening s.start 0) s.history in
    sym (reply_shifted s.base (after till (opening s.start 0) s.history) o) ∙ ap (λ (x : State ℕ). reply till x o) (sym there)
