-- A log that is made of a history and of right surveys of it fits the history.
use Rattle.std.proofs.Common.{◌≡◌, ℕ, zero, suc, ◌+◌, ◌-◌, ◌≤◌, ◌==◌, Bool, true, false, cond, List, [], ◌∷◌, ◌++◌, All, length, drop, Some, slice_get, refl, sym, ◌∙◌, ap, subst, arith}
use Rattle.std.specs.List.{slice_range}
use Rattle.std.proofs.lemmas.List.{append-nil, length-take, length-drop, drop-drop, take-append-drop}
use Rattle.std.proofs.lemmas.List.Elements.{All-head, All-tail, filter-append}
use Rattle.ring_model.specs.History.{Works, State}
use Rattle.ring_model.specs.Logs.{calls_of, receipts_of, IsFollowed, IsSurvey, Fits}
use Rattle.ring_model.specs.declared.events.Event.{Event}
use Rattle.ring_model.specs.declared.events.Survey.{Survey}
use Rattle.ring_model.specs.declared.events.Entry.{Entry}
use Rattle.ring_model.specs.declared.events.Entry.TheVariants as entry
use Rattle.one_thread_ring.specs.Clients.{receipts_by, log_from, StandInOrder}
use Rattle.one_thread_ring.proofs.Telling.{within_end}

-- the event at a place, and those after it
there : (xs : List Event) (p : ℕ) (e : Event) (ys : List Event) → drop p xs ≡ e ∷ ys → slice_get xs p ≡ Some e
there [] zero e ys at = absurd (let n = ap (λ (u : List Event). length u) at in omega (arith, n))
there [] (suc p) e ys at = absurd (let n = ap (λ (u : List Event). length u) at in omega (arith, n))
there (x ∷ xs) zero e ys at = ap (λ (u : List Event). slice_get u 0) at
there (x ∷ xs) (suc p) e ys at = there xs p e ys at

behind : (xs : List Event) (p : ℕ) (e : Event) (ys : List Event) → drop p xs ≡ e ∷ ys → drop (p + 1) xs ≡ ys
behind [] zero e ys at = absurd (let n = ap (λ (u : List Event). length u) at in omega (arith, n))
behind [] (suc p) e ys at = absurd (let n = ap (λ (u : List Event). length u) at in omega (arith, n))
behind (x ∷ xs) zero e ys at = ap (λ (u : List Event). drop 1 u) at
behind (x ∷ xs) (suc p) e ys at =
    let next : suc p + 1 ≡ suc (p + 1) = omega arith in
    ap (λ (i : ℕ). drop i (x ∷ xs)) next ∙ behind xs p e ys at

-- the events from one place to another, and those after them
cut_at : (h : List Event) (p q : ℕ) → p ≤ q → drop p h ≡ slice_range h p q ++ drop q h
cut_at h p q l =
    let all : p + (q - p) ≡ q = omega arith in
    let rest : drop (q - p) (drop p h) ≡ drop q h = drop-drop (q - p) p h ∙ ap (λ (i : ℕ). drop i h) all in
    sym (take-append-drop (q - p) (drop p h)) ∙ ap (λ (u : List Event). slice_range h p q ++ u) rest

module _ {C : Type 0} (w : Works C) (a : State C) (h : List Event) (seat : ℕ) where
  lower : (f g : ℕ) (log : List Entry) → f ≤ g → IsFollowed w a h g log → IsFollowed w a h f log
  lower f g [] l t = tt
  lower f g (entry.Receipt r ∷ log) l t = let x = t.0 in (omega (arith, l, x), t.1, t.2)
  lower f g (entry.Survey s ∷ log) l t = let x = t.0 in (omega (arith, l, x), t.1, t.2)

  followed_on : (es tail : List Event) (p front : ℕ) (rest : List Entry) → drop p h ≡ es ++ tail → front ≤ p → IsFollowed w a h (p + length es) rest →
      IsFollowed w a h front (receipts_by seat p es ++ rest)
  followed_on [] tail p front rest at l t = lower front (p + 0) rest (omega arith) t
  followed_on (e ∷ es) tail p front rest at l t =
      let end : p + length (e ∷ es) ≡ (p + 1) + length es = omega arith in
      let more : (f : ℕ) → f ≤ p + 1 → IsFollowed w a h f (receipts_by seat (p + 1) es ++ rest) =
      λ f k. followed_on es tail (p + 1) f rest (behind h p e (es ++ tail) at) k (subst (λ (x : ℕ). IsFollowed w a h x rest) end t) in
      go more (e.seat == seat)
    where
      go : ((f : ℕ) → f ≤ p + 1 → IsFollowed w a h f (receipts_by seat (p + 1) es ++ rest)) → (b : Bool) →
          IsFollowed w a h front (cond b (entry.Receipt (record { position = p; event = e }) ∷ receipts_by seat (p + 1) es) (receipts_by seat (p + 1) es) ++ rest)
      go more true = (l, there h p e (es ++ tail) at, more (p + 1) (omega arith))
      go more false = more front (omega arith)

  receipts_calls : (es : List Event) (p : ℕ) (rest : List Entry) → receipts_of (receipts_by seat p es ++ rest) ≡ calls_of seat es ++ receipts_of rest
  receipts_calls [] p rest = refl
  receipts_calls (e ∷ es) p rest = go (receipts_calls es (p + 1) rest) (e.seat == seat)
    where
      go : receipts_of (receipts_by seat (p + 1) es ++ rest) ≡ calls_of seat es ++ receipts_of rest → (b : Bool) → receipts_of (cond b (entry.Receipt (record { position = p; event = e }) ∷ receipts_by seat (p + 1) es) (receipts_by seat (p + 1) es) ++ rest)
          ≡ cond b (e ∷ calls_of seat es) (calls_of seat es) ++ receipts_of rest
      go more true = ap (λ (u : List Event). e ∷ u) more
      go more false = more

  log_followed : (place : ℕ) (ss : List Survey) (front : ℕ) → StandInOrder place (length h) ss → All (IsSurvey w a h) ss → front ≤ place → IsFollowed w a h front (log_from seat place h ss)
  log_followed place [] front o all l =
      subst (λ (u : List Entry). IsFollowed w a h front u) (append-nil (receipts_by seat place (drop place h)))
      (followed_on (drop place h) [] place front [] (sym (append-nil (drop place h))) l tt)
  log_followed place (s ∷ ss) front o all l =
      let from = o.0 in
      let to = within_end s.position (length h) ss o.1 in
      let part = length-take (s.position - place) (drop place h) in
      let long = length-drop place h in
      let right : IsSurvey w a h s = All-head (IsSurvey w a h) s ss all in
      followed_on (slice_range h place s.position) (drop s.position h) place front (entry.Survey s ∷ log_from seat s.position h ss) (cut_at h place s.position from) l
      (omega (arith, from, to, part, long), right, log_followed s.position ss s.position o.1 (All-tail (IsSurvey w a h) s ss all) (omega arith))

  log_calls : (place : ℕ) (ss : List Survey) → StandInOrder place (length h) ss → receipts_of (log_from seat place h ss) ≡ calls_of seat (drop place h)
  log_calls place [] o =
      ap (λ (u : List Entry). receipts_of u) (sym (append-nil (receipts_by seat place (drop place h))))
      ∙ (receipts_calls (drop place h) place [] ∙ append-nil (calls_of seat (drop place h)))
  log_calls place (s ∷ ss) o =
      receipts_calls (slice_range h place s.position) place (entry.Survey s ∷ log_from seat s.position h ss)
      ∙ (ap (λ (u : List Event). calls_of seat (slice_range h place s.position) ++ u) (log_calls s.position ss o.1)
      ∙ (sym (filter-append (λ (e : Event). e.seat == seat) (slice_range h place s.position) (drop s.position h))
      ∙ ap (λ (u : List Event). calls_of seat u) (sym (cut_at h place s.position o.0))))

  pub log_fits : (ss : List Survey) → StandInOrder 0 (length h) ss → All (IsSurvey w a h) ss → Fits w a h seat (log_from seat 0 h ss)
  log_fits ss o all = record { calls = log_calls 0 ss o; entries = log_followed 0 ss 0 o all (omega arith) }
