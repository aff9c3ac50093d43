-- How many surveys clients were given, by those that they keep; and sums that are too large.
use Rattle.std.proofs.Common.{◌≡◌, ℕ, ◌+◌, ◌<◌, ◌≤◌, cond, List, [], ◌∷◌, length, length-append, get_or, take, map, refl, sym, ◌∙◌, ap, subst, inl, inr, arith}
use Rattle.std.specs.List.{sum_by}
use Rattle.std.proofs.lemmas.List.{length-map, take-map, get_or-map}
use Rattle.std.proofs.lemmas.List.Sums.{sum_by-cons, sum_by_more_le}
use Rattle.ring_model.specs.Surveys.{granted_count}
use Rattle.ring_model.specs.declared.events.Entry.{Entry}
use Rattle.ring_model.specs.declared.events.Entry.TheVariants as entry
use Rattle.ring_logs.specs.LogView.{LogView}
use Rattle.one_thread_ring.specs.declared.counts.Totals.{Totals}
use Rattle.one_thread_ring.specs.SavedOf.{saved_survey, entry_surveys}
use Rattle.one_thread_ring.specs.Counts.{is_survey, survey_count}
use Rattle.one_thread_ring.specs.Clients.{ClientView}
use Rattle.one_thread_ring.specs.Texts.{surveys_told, client_surveys, surveys_kept}
use Rattle.endless_ring.specs.Endless.{EndlessView}
use Rattle.ring_service.specs.Standings.{Standing, standing_of}
use Rattle.ring_service.specs.Totals.{surveys_among, with_ring, totals_of, AreTooLarge}

abbrev pub kept_count : List ClientView → ℕ
kept_count cs = sum_by (λ (c : ClientView). length c.surveys) cs

kept : (cs : List ClientView) → length (surveys_kept cs) ≡ kept_count cs
kept [] = refl
kept (c ∷ cs) =
    let both = length-append (client_surveys c) (surveys_kept cs) in
    let one : length (client_surveys c) ≡ length c.surveys = length-map c.surveys (saved_survey c.number) in
    let rest = kept cs in
    let step : kept_count (c ∷ cs) ≡ length c.surveys + kept_count cs = sum_by-cons (λ (x : ClientView). length x.surveys) c cs in
    omega (arith, both, one, rest, step)

entries : (n : ℕ) (log : List Entry) → length (entry_surveys n log) ≡ survey_count log
entries n [] = refl
entries n (entry.Receipt r ∷ log) = entries n log
entries n (entry.Survey s ∷ log) =
    let rest = entries n log in
    let step : survey_count (entry.Survey s ∷ log) ≡ 1 + survey_count log = sum_by-cons (λ (x : Entry). cond (is_survey x) 1 0) (entry.Survey s) log in
    omega (arith, rest, step)

told : (ts : List LogView) → length (surveys_told ts) ≡ surveys_among ts
told [] = refl
told (t ∷ ts) =
    let both = length-append (entry_surveys t.number t.log) (surveys_told ts) in
    let one = entries t.number t.log in
    let rest = told ts in
    let step : surveys_among (t ∷ ts) ≡ survey_count t.log + surveys_among ts = sum_by-cons (λ (x : LogView). survey_count x.log) t ts in
    omega (arith, both, one, rest, step)

-- as many surveys are kept as were given
pub as_many_kept : (cs : List ClientView) (ts : List LogView) → surveys_kept cs ≡ surveys_told ts → kept_count cs ≡ surveys_among ts
as_many_kept cs ts same = sym (kept cs) ∙ (ap length same ∙ told ts)

-- with one client's surveys more than those of the clients before it there are no more than of all
pub many_kept : (most : ℕ) (cs : List ClientView) (ts : List LogView) (i all : ℕ) (d : ClientView) → surveys_kept cs ≡ surveys_told ts → i < length cs → all ≡ kept_count (take i cs) → d ≡ get_or cs i d → (all + length d.surveys < most → ⊥) → most ≤ surveys_among ts
many_kept most cs ts i all d same below is here many =
    let sum : kept_count cs ≡ surveys_among ts = as_many_kept cs ts same in
    let part : kept_count (take i cs) + length (get_or cs i d).surveys ≤ kept_count cs = sum_by_more_le (λ (c : ClientView). length c.surveys) cs i d below in
    let size : length d.surveys ≡ length (get_or cs i d).surveys = ap (λ (c : ClientView). length c.surveys) here in
    let most_at : most ≤ all + length d.surveys = omega (arith, many) in
    omega (arith, sum, part, size, is, most_at)

part : (f : Standing → ℕ) (rings : List EndlessView) (i : ℕ) (d : EndlessView) → i < length rings → sum_by f (map standing_of (take i rings)) + f (standing_of (get_or rings i d)) ≤ sum_by f (map standing_of rings)
part f rings i d below =
    let size : length (map standing_of rings) ≡ length rings = length-map rings standing_of in
    let within : i < length (map standing_of rings) = omega (arith, size, below) in
    let first : take i (map standing_of rings) ≡ map standing_of (take i rings) = take-map standing_of i rings in
    let here : get_or (map standing_of rings) i (standing_of d) ≡ standing_of (get_or rings i d) = get_or-map standing_of rings i d (standing_of d) below in
    let less : sum_by f (take i (map standing_of rings)) + f (get_or (map standing_of rings) i (standing_of d)) ≤ sum_by f (map standing_of rings) = sum_by_more_le f (map standing_of rings) i (standing_of d) within in
    let same : sum_by f (take i (map standing_of rings)) + f (get_or (map standing_of rings) i (standing_of d)) ≡ sum_by f (map standing_of (take i rings)) + f (standing_of (get_or rings i d)) = λ j. sum_by f (first j) + f (here j) in
    omega (arith, less, same)

too_large_at : (rings : List EndlessView) (i : ℕ) (d : EndlessView) → i < length rings → AreTooLarge (with_ring (totals_of (map standing_of (take i rings))) (standing_of (get_or rings i d))) → AreTooLarge (totals_of (map standing_of rings))
too_large_at rings i d below (inl many) =
    let less = part (λ (r : Standing). r.base.events + length r.history) rings i d below in
    inl (omega (arith, less, many))
too_large_at rings i d below (inr (inl many)) =
    let less = part (λ (r : Standing). r.base.grants + granted_count r.history) rings i d below in
    inr (inl (omega (arith, less, many)))
too_large_at rings i d below (inr (inr many)) =
    let less = part (λ (r : Standing). surveys_among r.clients) rings i d below in
    inr (inr (omega (arith, less, many)))

-- sums that are too large with one ring more are too large with all
pub too_large_with : (rings : List EndlessView) (i : ℕ) (all : Totals) (d : EndlessView) → i < length rings → all ≡ totals_of (map standing_of (take i rings)) → d ≡ get_or rings i d → AreTooLarge (with_ring all (standing_of d)) → AreTooLarge (totals_of (map standing_of rings))
too_large_with rings i all d below is here many =
    too_large_at rings i d below
    (subst (λ (x : Totals). AreTooLarge (with_ring x (standing_of (get_or rings i d)))) is (subst (λ (r : EndlessView). AreTooLarge (with_ring all (standing_of r))) here many))
