-- Up to where no corruption comes.
use Rattle.std.proofs.Common.{◌≡◌, ℕ, ◌+◌, ◌-◌, ◌^◌, ◌<◌, ◌≤◌, Bool, true, false, cond, eqb, List, ◌++◌, length, map, take, drop, get_or, refl, sym, ap, subst, ◌∙◌, arith, inl, inr}
use Rattle.std.specs.Prelude.{nat_le}
use Rattle.std.specs.List.{count_by}
use Rattle.std.proofs.lemmas.Bool.{ne_eqb}
use Rattle.std.proofs.lemmas.Bool.Decides.{leb_tells}
use Rattle.std.proofs.lemmas.List.{take_all, length-map}
use Rattle.std.proofs.lemmas.List.Sums.{count_by_more_no, count_by_more_yes, sum_by-append}
use Rattle.std.proofs.Math.Seq.{take-add}
use Rattle.std.proofs.Math.ListN.{get_or-map}
use Rattle.ring_model.specs.Surveys.{is_corrupted, corrupted_count}
use Rattle.ring_model.specs.declared.events.Event.{Event}
use Rattle.saved_history.specs.declared.saved.SavedEvent.{SavedEvent}
use Rattle.saved_history.specs.declared.saved.SavedEvent.TheVariants.{Granted, Refused, Member, Corrupted}
use Rattle.ring_check.specs.Table.{event_of}
use Rattle.ring_check.proofs.Booleans.{le_true, le_false, eq_true}
use Rattle.ring_model.specs.Bases.{is_quiet}

-- no more corruptions come in fewer events
fewer : (h : List Event) (p q : ℕ) → p ≤ q → corrupted_count (take p h) ≤ corrupted_count (take q h)
fewer h p q le =
    let more : p + (q - p) ≡ q = omega arith in
    let cut = sum_by-append (λ (u : Event). cond (is_corrupted u.reply) 1 0) (take p h) (take (q - p) (drop p h)) in
    let both : corrupted_count (take q h) ≡ corrupted_count (take p h ++ take (q - p) (drop p h)) = ap (λ (n : ℕ). corrupted_count (take n h)) (sym more) ∙ ap corrupted_count (take-add p (q - p) h) in
    omega (arith, both, cut)

-- none comes in the first events
abbrev pub Quiet : List SavedEvent → ℕ → Type 0
Quiet es i = corrupted_count (take i (map event_of es)) ≡ 0

module _ (es : List SavedEvent) (i : ℕ) (quiet : Quiet es i) where
  module _ (d : SavedEvent) (lt : i < length es) where
    at : get_or (map event_of es) i (event_of d) ≡ event_of (get_or es i d)
    at = get_or-map event_of es i d

    there : i < length (map event_of es)
    there = let long = length-map es event_of in omega (arith, long, lt)

    pub quiet_more : is_corrupted (event_of (get_or es i d)).reply ≡ false → Quiet es (i + 1)
    quiet_more good = count_by_more_no (λ (u : Event). is_corrupted u.reply) (map event_of es) i (event_of d) there (ap (λ (u : Event). is_corrupted u.reply) at ∙ good) ∙ quiet

    pub quiet_to : is_corrupted (event_of (get_or es i d)).reply ≡ true → (p : ℕ) → is_quiet (take p (map event_of es)) ≡ nat_le p i
    quiet_to bad p = elim (leb_tells p i) [
      | inl t ↦ let few = fewer (map event_of es) p i t.1 in eq_true (corrupted_count (take p (map event_of es))) 0 (omega (arith, few, quiet)) ∙ sym t.0
      | inr t ↦
          let one = count_by_more_yes (λ (u : Event). is_corrupted u.reply) (map event_of es) i (event_of d) there (ap (λ (u : Event). is_corrupted u.reply) at ∙ bad) in
          let few = fewer (map event_of es) (i + 1) p (omega (arith, t.1)) in
          ne_eqb (corrupted_count (take p (map event_of es))) 0 (λ none. absurd (omega (arith, few, one, none))) ∙ sym t.0
    ]

  pub quiet_all : length es ≤ i → (p : ℕ) → p < 2 ^ 64 → is_quiet (take p (map event_of es)) ≡ nat_le p (2 ^ 64 - 1)
  quiet_all le p lt =
      let long = length-map es event_of in
      let all : corrupted_count (map event_of es) ≡ 0 = ap corrupted_count (sym (take_all i (map event_of es) (omega (arith, long, le)))) ∙ quiet in
      let few = fewer (map event_of es) p (p + length (map event_of es)) (omega arith) in
      let whole : corrupted_count (take (p + length (map event_of es)) (map event_of es)) ≡ corrupted_count (map event_of es) = ap corrupted_count (take_all (p + length (map event_of es)) (map event_of es) (omega arith)) in
      eq_true (corrupted_count (take p (map event_of es))) 0 (omega (arith, few, whole, all)) ∙ sym (le_true p (2 ^ 64 - 1) (omega (arith, lt)))

-- an event that is not a corruption
pub no_corruption : (e : SavedEvent) → ((seat machine value old : ℕ) → e ≡ Corrupted seat machine value old → ⊥) → is_corrupted (event_of e).reply ≡ false
no_corruption (Granted seat machine order number result) not = refl
no_corruption (Refused seat machine order) not = refl
no_corruption (Member seat machine order left number result) not = refl
no_corruption (Corrupted seat machine value old) not = absurd (not seat machine value old refl)
