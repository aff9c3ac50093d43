-- Saved texts of blocks that record the state of rings: their surveys seat by seat.
use Rattle.std.proofs.Common.{◌≡◌, ℕ, zero, suc, ◌+◌, ◌<◌, ◌≤◌, Bool, true, false, cond, List, [], ◌∷◌, ◌++◌, length, get_or, map, refl, sym, ap, subst, ◌∙◌, inl, inr, arith}
use Rattle.std.specs.Prelude.{not}
use Rattle.std.specs.List.{filter, AllByRecursion}
use Rattle.std.proofs.lemmas.Bool.{cases_eq, eq-eqb, ne_eqb, cond-true, cond-false}
use Rattle.ring_model.specs.Limits.{seat_limit}
use Rattle.ring_model.specs.declared.events.Entry.{Entry}
use Rattle.ring_logs.specs.LogView.{LogView}
use Rattle.saved_history.specs.declared.saved.SavedSurvey.{SavedSurvey}
use Rattle.saved_history.specs.Content.{Block}
use Rattle.one_thread_ring.specs.SavedOf.{entry_surveys}
use Rattle.journal.specs.ContentAfter.{is_of, by_seats, in_order}
use Rattle.one_thread_ring.specs.Texts.{surveys_told}
use Rattle.ring_service.specs.Standings.{Standing}
use Rattle.ring_service.specs.Saved.{IsRight, block_at, blocks_from}
use Rattle.ring_service.proofs.RecordedBlocks.{Tells, AllTell, Numbered, right_numbered}

abbrev not_of : ℕ → SavedSurvey → Bool
not_of seat s = not (is_of seat s)

step : (other : ℕ) (s : SavedSurvey) (xs ys : List SavedSurvey) → filter (is_of other) xs ≡ filter (is_of other) ys → filter (is_of other) (s ∷ xs) ≡ filter (is_of other) (s ∷ ys)
step other s xs ys e = ap (λ (zs : List SavedSurvey). cond (is_of other s) (s ∷ zs) zs) e

-- the surveys of another seat are not touched
other_seat : (seat other : ℕ) (ss : List SavedSurvey) → (other ≡ seat → ⊥) → filter (is_of other) (filter (not_of seat) ss) ≡ filter (is_of other) ss
other_seat seat other [] ne = refl
other_seat seat other (s ∷ ss) ne = elim (cases_eq s.seat seat) [
  | inl e ↦
      let out : not_of seat s ≡ false = ap not (eq-eqb s.seat seat e) in
      ap (λ (xs : List SavedSurvey). filter (is_of other) xs) (cond-false (not_of seat s) (s ∷ filter (not_of seat) ss) (filter (not_of seat) ss) out)
      ∙ (other_seat seat other ss ne ∙ sym (cond-false (is_of other s) (s ∷ filter (is_of other) ss) (filter (is_of other) ss) (ne_eqb s.seat other (λ f. ne (sym f ∙ e)))))
  | inr far ↦
      let keeps : not_of seat s ≡ true = ap not (ne_eqb s.seat seat far) in
      ap (λ (xs : List SavedSurvey). filter (is_of other) xs) (cond-true (not_of seat s) (s ∷ filter (not_of seat) ss) (filter (not_of seat) ss) keeps) ∙ step other s (filter (not_of seat) ss) ss (other_seat seat other ss ne)
]

-- the others are of later seats
later_seats : (seat high : ℕ) (ss : List SavedSurvey) → AllByRecursion (λ (s : SavedSurvey). (seat ≤ s.seat) × (s.seat < high)) ss → AllByRecursion (λ (s : SavedSurvey). (seat + 1 ≤ s.seat) × (s.seat < high)) (filter (not_of seat) ss)
later_seats seat high [] all = tt
later_seats seat high (s ∷ ss) all = elim (cases_eq s.seat seat) [
  | inl e ↦ subst (λ (xs : List SavedSurvey). AllByRecursion (λ (s : SavedSurvey). (seat + 1 ≤ s.seat) × (s.seat < high)) xs)
      (sym (cond-false (not_of seat s) (s ∷ filter (not_of seat) ss) (filter (not_of seat) ss) (ap not (eq-eqb s.seat seat e)))) (later_seats seat high ss all.1)
  | inr far ↦
      let low = all.0.0 in
      subst (λ (xs : List SavedSurvey). AllByRecursion (λ (s : SavedSurvey). (seat + 1 ≤ s.seat) × (s.seat < high)) xs)
      (sym (cond-true (not_of seat s) (s ∷ filter (not_of seat) ss) (filter (not_of seat) ss) (ap not (ne_eqb s.seat seat far))))
      ((omega (arith, low, far), all.0.1), later_seats seat high ss all.1)
]

wider : (left seat : ℕ) (xs : List SavedSurvey) → AllByRecursion (λ (s : SavedSurvey). (seat + 1 ≤ s.seat) × (s.seat < seat + suc left)) xs → AllByRecursion (λ (s : SavedSurvey). (seat + 1 ≤ s.seat) × (s.seat < seat + 1 + left)) xs
wider left seat [] a = tt
wider left seat (x ∷ xs) a = let high = a.0.1 in ((a.0.0, omega (arith, high)), wider left seat xs a.1)

-- the surveys of each of some clients, where the first has this number
sorted : (left seat : ℕ) (ss : List SavedSurvey) (cs : List LogView) → Numbered seat cs → length cs ≤ left → AllByRecursion (λ (s : SavedSurvey). (seat ≤ s.seat) × (s.seat < seat + left)) ss →
    ((i : ℕ) (d : LogView) → d.log ≡ [] → filter (is_of (seat + i)) ss ≡ entry_surveys (seat + i) (get_or cs i d).log) → by_seats seat left ss ≡ surveys_told cs
unfolding by_seats
sorted zero seat [] [] n few all f = refl
sorted zero seat [] (c ∷ cs) n few all f = absurd (omega (arith, few))
sorted zero seat (s ∷ ss) cs n few all f = let low = all.0.0 in let high = all.0.1 in absurd (omega (arith, low, high))
sorted (suc left) seat ss [] n few all f =
    let none : LogView = record { number = 0; log = [] } in
    let same : seat + 0 ≡ seat = omega arith in
    let here : filter (is_of seat) ss ≡ [] = ap (λ (m : ℕ). filter (is_of m) ss) (sym same) ∙ f 0 none refl in
    ap (λ (xs : List SavedSurvey). xs ++ by_seats (seat + 1) left (filter (not_of seat) ss)) here
    ∙ sorted left (seat + 1) (filter (not_of seat) ss) [] tt (omega arith) (wider left seat (filter (not_of seat) ss) (later_seats seat (seat + suc left) ss all))
    (λ i d e.
    let next : seat + suc i ≡ seat + 1 + i = omega arith in
    other_seat seat (seat + 1 + i) ss (λ q. omega (arith, q)) ∙ (ap (λ (m : ℕ). filter (is_of m) ss) (sym next) ∙ (f (suc i) d e ∙ ap (λ (m : ℕ). entry_surveys m d.log) next)))
sorted (suc left) seat ss (c ∷ cs) n few all f =
    let number : c.number ≡ seat = n.0 in
    let same : seat + 0 ≡ seat = omega arith in
    let none : LogView = record { number = 0; log = [] } in
    let here : filter (is_of seat) ss ≡ entry_surveys c.number c.log =
    ap (λ (m : ℕ). filter (is_of m) ss) (sym same) ∙ (f 0 none refl ∙ ap (λ (m : ℕ). entry_surveys m c.log) (same ∙ sym number)) in
    let more : by_seats (seat + 1) left (filter (not_of seat) ss) ≡ surveys_told cs =
    sorted left (seat + 1) (filter (not_of seat) ss) cs n.1 (omega (arith, few)) (wider left seat (filter (not_of seat) ss) (later_seats seat (seat + suc left) ss all))
    (λ i d e.
    let next : seat + suc i ≡ seat + 1 + i = omega arith in
    other_seat seat (seat + 1 + i) ss (λ q. omega (arith, q)) ∙ (ap (λ (m : ℕ). filter (is_of m) ss) (sym next) ∙ (f (suc i) d e ∙ ap (λ (m : ℕ). entry_surveys m (get_or cs i d).log) next))) in
    ap (λ (xs : List SavedSurvey). xs ++ by_seats (seat + 1) left (filter (not_of seat) ss)) here ∙ ap (λ (xs : List SavedSurvey). entry_surveys c.number c.log ++ xs) more

same_log : (i : ℕ) (cs : List LogView) (d e : LogView) → d.log ≡ [] → e.log ≡ [] → (get_or cs i d).log ≡ (get_or cs i e).log
same_log i [] d e p q = p ∙ sym q
same_log zero (c ∷ cs) d e p q = refl
same_log (suc i) (c ∷ cs) d e p q = same_log i cs d e p q

-- a client that is not there has no surveys
any_client : (i : ℕ) (cs : List LogView) (d e : LogView) → d.log ≡ [] → e.log ≡ [] → entry_surveys i (get_or cs i d).log ≡ entry_surveys i (get_or cs i e).log
any_client i cs d e p q = ap (λ (log : List Entry). entry_surveys i log) (same_log i cs d e p q)

-- ---- in that order a block that records the state of a ring is its saved block

within_seats : (ss : List SavedSurvey) → AllByRecursion (λ (s : SavedSurvey). s.seat < seat_limit) ss → AllByRecursion (λ (s : SavedSurvey). (0 ≤ s.seat) × (s.seat < 0 + seat_limit)) ss
within_seats [] a = tt
within_seats (s ∷ ss) a = let l = a.0 in ((omega arith, omega (arith, l)), within_seats ss a.1)

tells_saved : (place : ℕ) (b : Block) (r : Standing) → IsRight r → Tells place b r → in_order b ≡ block_at place r
tells_saved place b r right t =
    let n = right_numbered r right in
    let surveys : by_seats 0 seat_limit b.surveys ≡ surveys_told r.clients = sorted seat_limit 0 b.surveys r.clients n.0 n.1 (within_seats b.surveys t.seats) (λ i d e.
    let same : 0 + i ≡ i = omega arith in
    ap (λ (m : ℕ). filter (is_of m) b.surveys) same ∙ (t.surveys i ∙ (any_client i r.clients (record { number = i; log = [] }) d refl e ∙ ap (λ (m : ℕ). entry_surveys m (get_or r.clients i d).log) (sym same)))) in
    λ i. record {
      index = t.index i;
      n = t.n i;
      k = t.k i;
      start = t.values i;
      events = t.history i;
      events_said = t.said i;
      surveys = surveys i;
    }

pub all_saved : (place : ℕ) (bs : List Block) (rs : List Standing) → AllByRecursion IsRight rs → AllTell place bs rs → map in_order bs ≡ blocks_from place rs
all_saved place [] [] all t = refl
all_saved place [] (r ∷ rs) all t = absurd t
all_saved place (b ∷ bs) [] all t = absurd t
all_saved place (b ∷ bs) (r ∷ rs) all t =
    let one = tells_saved place b r all.0 t.0 in
    let more = all_saved (place + 1) bs rs all.1 t.1 in
    λ i. one i ∷ more i
