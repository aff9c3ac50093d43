-- The one privileged machine of a settled ring, and its survey.
use Rattle.std.proofs.Common.{◌≡◌, ℕ, ◌<◌, true, List, length, take, sym, ◌∙◌, ap, arith}
use Rattle.std.proofs.lemmas.Bool.{eqb-true}
use Rattle.std.proofs.lemmas.List.{take_all}
use Rattle.ring_model.specs.Ring.{Ring, is_privileged, privileged_count, first_privileged, is_settled, rest}
use Rattle.ring_model.specs.History.{State, opening, after}
use Rattle.ring_model.specs.Resources.{till}
use Rattle.ring_model.specs.Surveys.{calm, survey_from}
use Rattle.ring_model.specs.declared.events.Event.{Event}
use Rattle.ring_model.specs.declared.events.Survey.{Survey}
use Rattle.ring_model.proofs.Settled.{only_one, first_is, rest_settled}
use Rattle.one_thread_ring.specs.Rings.{RingView, IsOneThreadRing}
use Rattle.endless_ring.specs.Endless.{local_survey}

-- the privileged machine of a settled ring is the first
pub only_is_first : (s : List ℕ) (i : ℕ) → is_settled s ≡ true → i < length s → is_privileged s i ≡ true → i ≡ first_privileged s
only_is_first s i u l e =
    let f = first_is s (omega arith) in
    only_one s i (first_privileged s) u l f.0 e f.1

abbrev surveying : ℕ → ℕ → ℕ → ℕ → ℕ → Survey
surveying position privileged first calm rest = record { position = position; privileged = privileged; first = first; calm = calm; rest = rest }

pub settled_survey : (d : RingView ℕ) (position first calmed : ℕ) → IsOneThreadRing till 0 d → is_settled d.book.now.ring.values ≡ true → position ≡ length d.book.history → first ≡ first_privileged d.book.now.ring.values →
    calmed ≡ calm d.book.history → surveying position 1 first calmed 0 ≡ local_survey d
settled_survey d position first calmed i u p f c =
    let h : List Event = d.book.history in
    let r : Ring = d.book.now.ring in
    let all : take (length h) h ≡ h = take_all (length h) h (omega arith) in
    let one : privileged_count r.values ≡ 1 = eqb-true (privileged_count r.values) 1 u in
    let now : (after till (opening d.book.start 0) h).ring ≡ r = ap (λ (x : State ℕ). x.ring) i.book.current in
    ap (λ (x : ℕ). surveying x 1 first calmed 0) p
    ∙ ap (λ (x : ℕ). surveying (length h) x first calmed 0) (sym one)
    ∙ ap (λ (x : ℕ). surveying (length h) (privileged_count r.values) x calmed 0) f
    ∙ ap (λ (x : ℕ). surveying (length h) (privileged_count r.values) (first_privileged r.values) x 0) c
    ∙ ap (λ (x : ℕ). surveying (length h) (privileged_count r.values) (first_privileged r.values) (calm h) x) (sym (rest_settled r u))
    ∙ ap (λ (x : Ring). survey_from x (length h) (calm h)) (sym now)
    ∙ ap (λ (x : List Event). survey_from (after till (opening d.book.start 0) x).ring (length h) (calm x)) (sym all)
