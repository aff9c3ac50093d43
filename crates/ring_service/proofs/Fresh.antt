-- The next segments are not due.
use Rattle.std.proofs.Common.{◌≡◌, ℕ, ◌≤◌, Bool, false, ◌||◌, List, [], ◌∷◌, length, Some, refl, ap, ◌∙◌, nat_le, arith, suc, ◌+◌, ◌-◌, ◌<◌, get_or, nat_lt}
use Rattle.std.proofs.lemmas.List.Sums.{sum_by-cons}
use Rattle.std.proofs.lemmas.Bool.{lt-leb}
use Rattle.ring_model.specs.Limits.{machine_limit, event_limit}
use Rattle.ring_model.specs.declared.events.Event.{Event}
use Rattle.ring_logs.specs.LogView.{LogView}
use Rattle.one_thread_ring.specs.Counts.{survey_count}
use Rattle.ring_service.specs.Standings.{Standing}
use Rattle.ring_service.specs.Segments.{IsNext, AreNext}
use Rattle.ring_service.specs.Totals.{surveys_among}
use Rattle.ring_service.specs.Due.{lines_in, lines_of, is_short, has_short, is_due}

no_surveys : (cs : List LogView) → ((i : ℕ) (c : LogView) → i < length cs → (get_or cs i c).log ≡ []) → surveys_among cs ≡ 0
no_surveys [] f = refl
no_surveys (c ∷ cs) f =
    let none : survey_count c.log ≡ 0 = ap survey_count (f 0 c (omega arith)) in
    let rest : surveys_among cs ≡ 0 = no_surveys cs (λ i d l. f (suc i) d (omega (arith, l))) in
    let step : surveys_among (c ∷ cs) ≡ survey_count c.log + surveys_among cs = sum_by-cons (λ (x : LogView). survey_count x.log) c cs in
    omega (arith, none, rest, step)

fresh_lines : (r s : Standing) → IsNext r s → (lines_in s ≡ 0) × (is_short s ≡ false)
fresh_lines r s n =
    let none : length s.history ≡ 0 = ap length n.history in
    let size : length s.clients ≡ length r.clients = n.clients.0 in
    let surveys : surveys_among s.clients ≡ 0 = no_surveys s.clients (λ i c l. ap (λ (x : LogView). x.log) (n.clients.1 i c (omega (arith, l, size)))) in
    (omega (arith, none, surveys), ap (λ (h : List Event). nat_lt (event_limit - machine_limit) (length h)) n.history)

fresh_all : (old new : List Standing) → AreNext old new → (lines_of new ≡ 0) × (has_short new ≡ false)
fresh_all [] new e = (ap lines_of e, ap has_short e)
fresh_all (r ∷ rs) [] a = absurd a
fresh_all (r ∷ rs) (s ∷ ss) a =
    let one = fresh_lines r s a.0 in
    let rest = fresh_all rs ss a.1 in
    let first = one.0 in
    let others = rest.0 in
    let step : lines_of (s ∷ ss) ≡ lines_in s + lines_of ss = sum_by-cons lines_in s ss in
    (omega (arith, first, others, step), ap (λ (b : Bool). b || has_short ss) one.1 ∙ rest.1)

pub next_goes : (limit : ℕ) (old new : List Standing) → 1 ≤ limit → AreNext old new → is_due (Some limit) new ≡ false
next_goes limit old new l a =
    let fresh = fresh_all old new a in
    ap (λ (n : ℕ). nat_le limit n || has_short new) fresh.0 ∙ (ap (λ (b : Bool). b || has_short new) (lt-leb limit 0 (omega (arith, l))) ∙ fresh.1)
