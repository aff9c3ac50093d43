-- The ring, the calm and the survey after a list of events.
use Rattle.std.proofs.Common.{◌≡◌, Option, Some, None, ℕ, suc, ◌+◌, ◌-◌, ◌<◌, ◌≤◌, List, [], ◌∷◌, ◌++◌, length, take, true, false, cond, slice_index, slice_set, subst, ap, sym, ◌∙◌, refl, arith}
use Rattle.std.proofs.lemmas.List.{take_all, length-set, get_or-set_same, set-get_or}
use mathlib.Core.List.{IsPrefix}
use Rattle.ring_model.specs.Ring.{Ring, IsRing, is_privileged, moved_value, moved, written, bound}
use Rattle.ring_model.specs.History.{Works, State, opening, next, after, IsLegal}
use Rattle.ring_model.specs.Surveys.{calm, survey_at, survey_from}
use Rattle.ring_model.specs.declared.events.Op.{Op}
use Rattle.ring_model.specs.declared.events.Op.TheVariants.{Pass, Member, Corrupt}
use Rattle.ring_model.specs.declared.events.Event.{Event}
use Rattle.ring_model.specs.declared.events.Survey.{Survey}
use Rattle.ring_book.specs.BookView.{BookView, IsBook}
use Rattle.ring_model.proofs.HistoryLaws.{settlement}
use Rattle.ring_logs.specs.Replays.{IsCallOf, machine_of, called}
use Rattle.ring_shared.specs.Folds.{ring_after, survey_of, IsSummary, IsSummaryWithin, IsWritten, AnswersFor}
use Rattle.ring_shared.proofs.Prefixes.{prefix_take, prefix_trans, prefix_length, take_before}
use Rattle.ring_logs.proofs.Replaying.{next_ring}

pub ring_after-push : (r : Ring) (h : List Event) (e : Event) → ring_after r (h ++ e ∷ []) ≡ called (ring_after r h) e.op
ring_after-push r [] e = refl
ring_after-push r (x ∷ h) e = ring_after-push (called r x.op) h e

-- it is the ring of the one-thread ring, whatever the resource
pub ring_after_is : {C : Type 0} (w : Works C) (a : State C) (h : List Event) → (after w a h).ring ≡ ring_after a.ring h
ring_after_is w a [] = refl
ring_after_is w a (e ∷ h) = ring_after_is w (next w a e.op) h ∙ ap (λ (r : Ring). ring_after r h) (next_ring w a e.op)

-- so the survey is that of the one-thread ring
pub survey_of_is : {C : Type 0} (w : Works C) (start : Ring) (c : C) (h : List Event) → survey_of start h ≡ survey_at w (opening start c) h (length h)
unfolding survey_of
survey_of_is w start c h =
    let all : take (length h) h ≡ h = take_all (length h) h (omega arith) in
    rw all (rw (ring_after_is w (opening start c) h) refl)

-- a call keeps K and the number of machines
called_keeps : (r : Ring) (o : Op) → ((called r o).k ≡ r.k) × (length (called r o).values ≡ length r.values)
called_keeps r (Pass i order) =
    elim (is_privileged r.values i) as (λ b. ((cond b (moved r i) r).k ≡ r.k) × (length (cond b (moved r i) r).values ≡ length r.values)) [
      | true ↦ (refl, length-set r.values i (moved_value r i))
      | false ↦ (refl, refl)
    ]
called_keeps r (Member i order left) =
    elim (is_privileged r.values i) as (λ b. ((cond b (moved r i) r).k ≡ r.k) × (length (cond b (moved r i) r).values ≡ length r.values)) [
      | true ↦ (refl, length-set r.values i (moved_value r i))
      | false ↦ (refl, refl)
    ]
called_keeps r (Corrupt i v) = (refl, length-set r.values i v)

pub ring_after_keeps : (r : Ring) (h : List Event) → ((ring_after r h).k ≡ r.k) × (length (ring_after r h).values ≡ length r.values)
ring_after_keeps r [] = (refl, refl)
ring_after_keeps r (e ∷ h) =
    let more = ring_after_keeps (called r e.op) h in
    let one = called_keeps r e.op in (more.0 ∙ one.0, more.1 ∙ one.1)

-- so a call at the start is one after each list
pub call_behind : (r : Ring) (h : List Event) (o : Op) → IsCallOf r o → IsCallOf (ring_after r h) o
call_behind r h (Pass i order) c = let k = ring_after_keeps r h in rw k.1 c
call_behind r h (Member i order left) c = let k = ring_after_keeps r h in rw k.1 c
call_behind r h (Corrupt i v) c = let k = ring_after_keeps r h in (rw k.1 (c.0), rw k.0 (c.1))

pub machine_of_call : (r : Ring) (o : Op) → IsCallOf r o → machine_of o < length r.values
machine_of_call r (Pass i order) c = c
machine_of_call r (Member i order left) c = c
machine_of_call r (Corrupt i v) c = c.0

-- so a call writes one value, which may be what was there: that which its machine holds afterwards
called_writes : (r : Ring) (o : Op) → machine_of o < length r.values → called r o ≡ written r (machine_of o) (slice_index (called r o).values (machine_of o))
called_writes r (Pass i order) l =
    let there : slice_index (slice_set r.values i (moved_value r i)) i ≡ moved_value r i = get_or-set_same r.values i (moved_value r i) 0 l in
    let kept : slice_set r.values i (slice_index r.values i) ≡ r.values = set-get_or r.values i 0 in
    elim (is_privileged r.values i) as (λ b. cond b (moved r i) r ≡ written r i (slice_index (cond b (moved r i) r).values i)) [
      | true ↦ ap (λ (v : ℕ). written r i v) (sym there)
      | false ↦ ap (λ (vs : List ℕ). record { k = r.k; values = vs }) (sym kept)
    ]
called_writes r (Member i order left) l =
    let there : slice_index (slice_set r.values i (moved_value r i)) i ≡ moved_value r i = get_or-set_same r.values i (moved_value r i) 0 l in
    let kept : slice_set r.values i (slice_index r.values i) ≡ r.values = set-get_or r.values i 0 in
    elim (is_privileged r.values i) as (λ b. cond b (moved r i) r ≡ written r i (slice_index (cond b (moved r i) r).values i)) [
      | true ↦ ap (λ (v : ℕ). written r i v) (sym there)
      | false ↦ ap (λ (vs : List ℕ). record { k = r.k; values = vs }) (sym kept)
    ]
called_writes r (Corrupt i v) l = ap (λ (x : ℕ). written r i x) (sym (get_or-set_same r.values i v 0 l))

-- the ring of a book is that after its history
pub ring_of_book : {C : Type 0} (w : Works C) (first : C) (start : Ring) (b : BookView C) → IsBook w first b → b.start ≡ start → b.now.ring ≡ ring_after start b.history
ring_of_book {C = C} w first start b book begins =
    ap (λ (s : State C). s.ring) (sym book.current) ∙ (ring_after_is w (opening b.start first) b.history ∙ ap (λ (r : Ring). ring_after r b.history) begins)

-- the effect of the last event, by the ring after it
pub effect_of_last : (start now : Ring) (xs h : List Event) (e : Event) (machine value c : ℕ) → h ≡ xs ++ e ∷ [] → now ≡ ring_after start h → IsCallOf start e.op →
    machine ≡ machine_of e.op → value ≡ slice_index now.values machine → value < now.k → c ≡ calm h → IsWritten start h machine value c
effect_of_last start now xs h e machine value c is now_is call machine_is value_is below calm_is =
    let within : machine < length start.values = rw machine_is (machine_of_call start e.op call) in
    let behind : machine_of e.op < length (ring_after start xs).values = rw (ring_after_keeps start xs).1 (machine_of_call start e.op call) in
    let after_is : ring_after start h ≡ called (ring_after start xs) e.op = ap (ring_after start) is ∙ ring_after-push start xs e in
    let wrote : ring_after start h ≡ written (ring_after start xs) machine value =
    rw (value_is, now_is, after_is, machine_is) (called_writes (ring_after start xs) e.op behind) in
    let before : take (length h - 1) h ≡ xs = subst (λ (l : List Event). take (length l - 1) l ≡ xs) (sym is) (take_before xs e) in
    record {
      machine_is = within;
      value_is = subst (λ (k : ℕ). value < k) (ap (λ (r : Ring). r.k) now_is ∙ (ring_after_keeps start h).0) below;
      ring_is = λ some. rw before wrote;
      calm_is = calm_is;
    }

-- a summary moves on by one event
pub summary_goes_on : (start : Ring) (xs ys : List Event) (ring new : Ring) (position behind c d machine value : ℕ) → IsSummary start xs ring position c → IsWritten start ys machine value d →
    IsPrefix xs ys → length ys ≡ suc (length xs) → new ≡ written ring machine value → behind ≡ position + 1 → IsSummary start ys new behind d
summary_goes_on start xs ys ring new position behind c d machine value s effect begins one new_is behind_is =
    let p = s.position_is in
    let before : take (length ys - 1) ys ≡ xs = ap (λ (n : ℕ). take n ys) (omega (arith, one)) ∙ prefix_take xs ys begins in
    let there : ring_after start ys ≡ written (ring_after start xs) machine value = subst (λ (l : List Event). ring_after start ys ≡ written (ring_after start l) machine value) before (effect.ring_is (omega (arith, one))) in record {
      ring_is = new_is ∙ (ap (λ (r : Ring). written r machine value) s.ring_is ∙ sym there);
      position_is = omega (arith, p, one, behind_is);
      calm_is = effect.calm_is;
    }

pub survey_of_summary : (start : Ring) (h : List Event) (ring : Ring) (position c : ℕ) → IsSummary start h ring position c → survey_from ring position c ≡ survey_of start h
unfolding survey_of
survey_of_summary start h ring position c s = rw (s.ring_is, s.position_is, s.calm_is) refl

-- where the calm has reached the bound, one machine is privileged and the rest is 0
pub calm_tells : {C : Type 0} (w : Works C) (start : Ring) (c : C) (h : List Event) (s : Survey) → IsRing start → IsLegal w (opening start c) h →
    s ≡ survey_of start h → bound (length start.values) ≤ s.calm → (s.privileged ≡ 1) × (s.rest ≡ 0)
calm_tells w start c h s ring legal is =
    let tell = (settlement w (opening start c) h ring legal).surveys_tell (length h) (omega arith) in
    subst (λ (t : Survey). bound (length start.values) ≤ t.calm → (t.privileged ≡ 1) × (t.rest ≡ 0)) (sym (is ∙ survey_of_is w start c h)) tell.4

-- each summary has the start's K and number of machines
pub summary_size : (start : Ring) (h : List Event) (ring : Ring) (position c : ℕ) → IsSummary start h ring position c → (ring.k ≡ start.k) × (length ring.values ≡ length start.values)
summary_size start h ring position c s =
    let kept = ring_after_keeps start h in
    (ap (λ (r : Ring). r.k) s.ring_is ∙ kept.0, ap (λ (r : Ring). length r.values) s.ring_is ∙ kept.1)

-- the state that answers for a prefix has a summary within
pub within_on : (start : Ring) (xs ys : List Event) (last : Option Survey) (ring : Ring) (position c : ℕ) → AnswersFor start xs last ring position c → IsPrefix xs ys →
    IsSummaryWithin start ys ring position c
within_on start xs ys (Some s) ring position c a more =
    let w : IsSummaryWithin start xs ring position c = a.1 in record {
      past = w.past;
      begins = prefix_trans w.past xs ys w.begins more;
      of_past = w.of_past;
    }
within_on start xs ys None ring position c a more = record { past = xs; begins = more; of_past = a }

-- where only the last event is missing, the summary moves on by it
pub within_goes_on : (start : Ring) (h : List Event) (ring new : Ring) (position behind c d machine value : ℕ) → IsSummaryWithin start h ring position c → IsWritten start h machine value d →
    length h ≡ suc position → new ≡ written ring machine value → behind ≡ position + 1 → IsSummary start h new behind d
within_goes_on start h ring new position behind c d machine value w effect one new_is behind_is =
    let p = w.of_past.position_is in
    summary_goes_on start w.past h ring new position behind c d machine value w.of_past effect w.begins (one ∙ ap suc p) new_is behind_is

-- a summary within is not further on than the list
pub within_position : (start : Ring) (h : List Event) (ring : Ring) (position c : ℕ) → IsSummaryWithin start h ring position c → position ≤ length h
within_position start h ring position c w =
    let p = w.of_past.position_is in let le = prefix_length w.past h w.begins in omega (arith, p, le)
