-- The calm and the settled run are those of the longest suffixes.
use Rattle.std.proofs.Common.{◌≡◌, ℕ, zero, suc, ◌+◌, ◌<◌, ◌≤◌, Bool, false, List, [], ◌∷◌, ◌++◌, length, take, drop, length-append, refl, sym, ◌∙◌, ap, inl, inr, arith}
use Rattle.std.specs.Prelude.{count_by}
use Rattle.std.proofs.lemmas.Bool.{cases_Bool, cond-true, cond-false}
use Rattle.std.proofs.lemmas.List.{drop-append-le, drop_all}
use Rattle.ring_model.specs.Numbers.{bit}
use Rattle.ring_model.specs.History.{Works, State, next, after}
use Rattle.ring_model.specs.Surveys.{is_granted, is_corrupted, granted_count, corrupted_count, calm}
use Rattle.ring_model.specs.Grants.{is_settled_run, settled_run}
use Rattle.ring_model.specs.Suffixes.{CalmMeans, SettledRunMeans}
use Rattle.ring_model.specs.declared.events.Reply.{Reply}
use Rattle.ring_model.specs.declared.events.Reply.TheVariants.{Granted, NotPrivileged, Corrupted}
use Rattle.ring_model.specs.declared.events.Event.{Event}
use Rattle.ring_model.proofs.Histories.{calm_next, calm-push}
use Rattle.ring_model.proofs.QuietRuns.{count_events-cons}
use Rattle.ring_model.proofs.Places.{by_pushes}

pub count_events-push : (p : Event → Bool) (es : List Event) (e : Event) → count_by p (es ++ e ∷ []) ≡ count_by p es + bit (p e)
count_events-push p [] e = let c = count_events-cons p e [] in omega arith
count_events-push p (d ∷ es) e =
    let a : count_by p (d ∷ (es ++ e ∷ [])) ≡ bit (p d) + count_by p (es ++ e ∷ []) = count_events-cons p d (es ++ e ∷ []) in
    let b : count_by p (d ∷ es) ≡ bit (p d) + count_by p es = count_events-cons p d es in
    let ih = count_events-push p es e in
    omega arith

-- the place from which the calm counts
pub record CountsFrom (h : List Event) (p : ℕ) : Type 0 where
  pub within : p ≤ length h
  pub calm_is : calm h ≡ granted_count (drop p h)
  pub quiet : corrupted_count (drop p h) ≡ 0
  pub first : (q : ℕ) → q < p → 1 ≤ corrupted_count (drop q h)

pub counts_from : (h : List Event) → (p : ℕ) × CountsFrom h p
counts_from h = by_pushes (λ (es : List Event). (p : ℕ) × CountsFrom es p)
    (0, record { within = omega arith; calm_is = refl; quiet = refl; first = λ q l. absurd (omega arith) })
    (λ es e w. more es e w.0 w.1 e.reply refl) h
  where
    -- the suffix from q on, one event longer
    longer : (es : List Event) (e : Event) (q : ℕ) → q ≤ length es →
        (granted_count (drop q (es ++ e ∷ [])) ≡ granted_count (drop q es) + bit (is_granted e.reply))
        × (corrupted_count (drop q (es ++ e ∷ [])) ≡ corrupted_count (drop q es) + bit (is_corrupted e.reply))
    longer es e q l =
        let cut : drop q (es ++ e ∷ []) ≡ drop q es ++ e ∷ [] = drop-append-le q es (e ∷ []) l in (
          ap (λ (x : List Event). granted_count x) cut ∙ count_events-push (λ (u : Event). is_granted u.reply) (drop q es) e,
          ap (λ (x : List Event). corrupted_count x) cut ∙ count_events-push (λ (u : Event). is_corrupted u.reply) (drop q es) e,
        )

    goes_on : (es : List Event) (e : Event) (p : ℕ) → CountsFrom es p → is_corrupted e.reply ≡ false →
        calm (es ++ e ∷ []) ≡ calm es + bit (is_granted e.reply) → (p : ℕ) × CountsFrom (es ++ e ∷ []) p
    goes_on es e p f off c =
        let le = f.within in
        let was = f.calm_is in
        let quiet' = f.quiet in
        let n = length-append es (e ∷ []) in
        let here = longer es e p le in
        let none : bit (is_corrupted e.reply) ≡ 0 = ap bit off in (
          p,
          record {
            within = omega arith;
            calm_is = omega arith;
            quiet = omega arith;
            first = λ q l. let there = longer es e q (omega arith) in let some = f.first q l in omega arith;
          },
        )

    more : (es : List Event) (e : Event) (p : ℕ) → CountsFrom es p → (r : Reply) → e.reply ≡ r → (p : ℕ) × CountsFrom (es ++ e ∷ []) p
    more es e p f (Granted number result) is = goes_on es e p f (ap is_corrupted is)
        (let g : bit (is_granted e.reply) ≡ 1 = ap (λ (x : Reply). bit (is_granted x)) is in
        let c : calm (es ++ e ∷ []) ≡ calm es + 1 = calm-push es e ∙ ap (calm_next (calm es)) is in omega arith)
    more es e p f NotPrivileged is = goes_on es e p f (ap is_corrupted is)
        (let g : bit (is_granted e.reply) ≡ 0 = ap (λ (x : Reply). bit (is_granted x)) is in
        let c : calm (es ++ e ∷ []) ≡ calm es = calm-push es e ∙ ap (calm_next (calm es)) is in omega arith)
    more es e p f (Corrupted old) is =
        let h : List Event = es ++ e ∷ [] in
        let n : length h ≡ length es + 1 = length-append es (e ∷ []) in
        let none : drop (length h) h ≡ [] = drop_all (length h) h (omega arith) in
        let c : calm h ≡ 0 = calm-push es e ∙ ap (calm_next (calm es)) is in
        let one : bit (is_corrupted e.reply) ≡ 1 = ap (λ (x : Reply). bit (is_corrupted x)) is in (
          length h,
          record {
            within = omega arith;
            calm_is = c ∙ sym (ap (λ (x : List Event). granted_count x) none);
            quiet = ap (λ (x : List Event). corrupted_count x) none;
            first = λ q l. let there = longer es e q (omega arith) in omega arith;
          },
        )

pub calm_means : CalmMeans
calm_means h =
    let w = counts_from h in
    (w.0, w.1.within, w.1.calm_is, w.1.quiet, λ q l none. let some = w.1.first q l in absurd (omega arith))

pub settled_run_means : {C : Type 0} → SettledRunMeans C
settled_run_means w a [] = (0, omega arith, refl, refl, λ q l. absurd (omega arith))
settled_run_means w a (e ∷ es) = elim (cases_Bool (is_settled_run w a (e ∷ es))) [
  | inl u ↦ (
    0,
    omega arith,
    cond-true (is_settled_run w a (e ∷ es)) (e ∷ es) (settled_run w (next w a e.op) es) u,
    u,
    λ q l. absurd (omega arith),
  )
  | inr u ↦
      let r = settled_run_means w (next w a e.op) es in (
        suc r.0,
        omega (arith, r.1),
        cond-false (is_settled_run w a (e ∷ es)) (e ∷ es) (settled_run w (next w a e.op) es) u ∙ r.2,
        r.3,
        λ q l. earlier w a e es r.0 u r.4 q l,
      )
]
  where
    earlier : {C : Type 0} (w : Works C) (a : State C) (e : Event) (es : List Event) (p : ℕ) → is_settled_run w a (e ∷ es) ≡ false →
        ((q : ℕ) → q < p → is_settled_run w (after w (next w a e.op) (take q es)) (drop q es) ≡ false) →
        (q : ℕ) → q < suc p → is_settled_run w (after w a (take q (e ∷ es))) (drop q (e ∷ es)) ≡ false
    earlier w a e es p u h zero l = u
    earlier w a e es p u h (suc q) l = h q (omega arith)
