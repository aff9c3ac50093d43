-- How the running counts grow with a history.
use Rattle.std.proofs.Common.{◌≡◌, ℕ, ◌+◌, ◌<◌, Bool, true, false, cond, List, [], ◌∷◌, ◌++◌, length, get_or, replicate, refl, sym, ◌∙◌, ap, inl, inr, arith, get_or-set_same, get_or-set_other}
use Rattle.std.specs.Prelude.{◌&&◌, ◌==◌, slice_index}
use Rattle.std.specs.List.{count_by, filter}
use Rattle.std.proofs.lemmas.Bool.{cases_Bool, cases_eq, eq-eqb, ne_eqb, both_ways}
use Rattle.std.proofs.lemmas.List.{length-set, length-replicate, get_or-replicate}
use Rattle.std.proofs.lemmas.List.Sums.{length-filter}
use Rattle.ring_model.specs.Numbers.{bit, sum_below}
use Rattle.ring_model.specs.Ring.{IsRing, is_settled}
use Rattle.ring_model.specs.History.{Works, State, IsGrant, Step, StepOf, after}
use Rattle.ring_model.specs.Surveys.{is_corrupted}
use Rattle.ring_model.specs.Grants.{is_grant_of, grants_of, settled_run}
use Rattle.ring_model.specs.Logs.{calls_of}
use Rattle.ring_model.specs.declared.events.Op.{Op}
use Rattle.ring_model.specs.declared.events.Op.TheVariants.{Pass, Corrupt}
use Rattle.ring_model.specs.declared.events.Reply.TheVariants.{Granted, NotPrivileged, Corrupted}
use Rattle.ring_model.specs.declared.events.Event.{Event}
use Rattle.ring_model.proofs.Below.{sum_same, sum_but_one, sum_zero}
use Rattle.ring_model.proofs.Settled.{settled_stays}
use Rattle.ring_model.proofs.QuietRuns.{count_events-cons}
use Rattle.ring_model.proofs.Histories.{StepOf-next, after-push, calm-push, goes_on, settled_run-push}
use Rattle.ring_model.specs.Limits.{seat_limit}
use Rattle.ring_book.specs.GrantsView.{GrantsView, IsGrantsOf, raised, no_grants, one_grant, run_ended}
use Rattle.ring_book.specs.TallyView.{TallyView, IsTallyOf, after_call, after_grant, after_corruption}

-- one more event, counted
count-push : (p : Event → Bool) (h : List Event) (e : Event) → count_by p (h ++ e ∷ []) ≡ count_by p h + bit (p e)
count-push p [] e = let one : count_by p (e ∷ []) ≡ bit (p e) + count_by p [] = count_events-cons p e [] in omega arith
count-push p (d ∷ h) e =
    let all : count_by p (d ∷ (h ++ e ∷ [])) ≡ bit (p d) + count_by p (h ++ e ∷ []) = count_events-cons p d (h ++ e ∷ []) in
    let front : count_by p (d ∷ h) ≡ bit (p d) + count_by p h = count_events-cons p d h in
    let ih : count_by p (h ++ e ∷ []) ≡ count_by p h + bit (p e) = count-push p h e in
    omega arith

grants_of-push : (i : ℕ) (h : List Event) (e : Event) → grants_of i (h ++ e ∷ []) ≡ grants_of i h + bit (is_grant_of i e.op e.reply)
grants_of-push i h e = count-push (λ (d : Event). is_grant_of i d.op d.reply) h e

calls-push : (seat : ℕ) (h : List Event) (e : Event) → length (calls_of seat (h ++ e ∷ [])) ≡ length (calls_of seat h) + bit (e.seat == seat)
calls-push seat h e =
    let p : Event → Bool = λ (d : Event). d.seat == seat in
    let all : length (filter p (h ++ e ∷ [])) ≡ count_by p (h ++ e ∷ []) = length-filter p (h ++ e ∷ []) in
    let front : length (filter p h) ≡ count_by p h = length-filter p h in
    let more : count_by p (h ++ e ∷ []) ≡ count_by p h + bit (p e) = count-push p h e in
    all ∙ (more ∙ ap (λ (n : ℕ). n + bit (p e)) (sym front))

-- one more at a place
pub raised_at : (counts : List ℕ) (m k : ℕ) → m < length counts → slice_index (raised counts m) k ≡ slice_index counts k + bit (m == k)
raised_at counts m k l = elim (cases_eq k m) [
  | inl e ↦
      let here : get_or (raised counts m) k 0 ≡ slice_index counts m + 1 = ap (λ x. get_or (raised counts m) x 0) e ∙ get_or-set_same counts m (slice_index counts m + 1) 0 l in
      let was : slice_index counts k ≡ slice_index counts m = ap (slice_index counts) e in
      let one : bit (m == k) ≡ 1 = ap bit (eq-eqb m k (sym e)) in
      omega arith
  | inr ne ↦
      let here : get_or (raised counts m) k 0 ≡ get_or counts k 0 = get_or-set_other counts m k (slice_index counts m + 1) 0 ne in
      let none : bit (m == k) ≡ 0 = ap bit (ne_eqb m k (λ q. ne (sym q))) in
      omega arith
]

-- the settled run continues over an event, or ends with it
run_goes_on : {C : Type 0} (w : Works C) (a : State C) (h : List Event) (e : Event) → is_settled (after w a h).ring.values ≡ true → is_corrupted e.reply ≡ false →
    settled_run w a (h ++ e ∷ []) ≡ settled_run w a h ++ e ∷ []
run_goes_on w a h e s q =
    let on : goes_on (after w a h) e.reply ≡ true = rw (s, q) refl in
    settled_run-push w a h e ∙ ap (λ (b : Bool). cond b (settled_run w a h ++ e ∷ []) []) on

run_is_over : {C : Type 0} (w : Works C) (a : State C) (h : List Event) (e : Event) → is_settled (after w a h).ring.values ≡ false → settled_run w a (h ++ e ∷ []) ≡ []
run_is_over w a h e s =
    let off : goes_on (after w a h) e.reply ≡ false = rw s refl in
    settled_run-push w a h e ∙ ap (λ (b : Bool). cond b (settled_run w a h ++ e ∷ []) []) off

and_false : (b : Bool) → (b && false) ≡ false
and_false true = refl
and_false false = refl

run_is_broken : {C : Type 0} (w : Works C) (a : State C) (h : List Event) (e : Event) → is_corrupted e.reply ≡ true → settled_run w a (h ++ e ∷ []) ≡ []
run_is_broken w a h e q =
    let off : goes_on (after w a h) e.reply ≡ false = rw q (and_false (is_settled (after w a h).ring.values)) in
    settled_run-push w a h e ∙ ap (λ (b : Bool). cond b (settled_run w a h ++ e ∷ []) []) off

-- no events
pub IsTallyOf-new : {C : Type 0} (w : Works C) (a : State C) (settled : Bool) → settled ≡ is_settled a.ring.values →
    IsTallyOf w a [] (record { calm = 0; calls = replicate seat_limit 0; settled = settled; grants = no_grants (length a.ring.values) })
IsTallyOf-new w a settled s = record {
  calm = refl;
  seats = length-replicate {A = ℕ} seat_limit 0;
  calls = λ seat l. get_or-replicate {A = ℕ} seat_limit seat 0 0 l;
  settled = s;
  no_run = λ _. refl;
  grants = record {
    total = sym (sum_zero (λ i. grants_of i []) (length a.ring.values) (λ k l. refl));
    machines = length-replicate {A = ℕ} (length a.ring.values) 0;
    each = λ i l. get_or-replicate {A = ℕ} (length a.ring.values) i 0 0 l;
    settled_machines = length-replicate {A = ℕ} (length a.ring.values) 0;
    settled = λ i l. get_or-replicate {A = ℕ} (length a.ring.values) i 0 0 l;
  };
}

-- the counts of the grants after a granted pass
pub grants-grant : {C : Type 0} (w : Works C) (a : State C) (h : List Event) (n : ℕ) (g : GrantsView) (settled : Bool) (seat m number result : ℕ) (o : Op) →
    ((i : ℕ) → is_grant_of i o (Granted number result) ≡ (m == i)) →
    IsGrantsOf w a h n g → settled ≡ is_settled (after w a h).ring.values → (settled ≡ false → settled_run w a h ≡ []) → m < n →
    IsGrantsOf w a (h ++ record { seat = seat; op = o; reply = Granted number result } ∷ []) n (one_grant g m settled)
grants-grant w a h n g settled seat m number result o mine was s none l =
    let e : Event = record { seat = seat; op = o; reply = Granted number result } in
    let pushed : (i : ℕ) (es : List Event) → grants_of i (es ++ e ∷ []) ≡ grants_of i es + bit (m == i) =
    λ (i : ℕ) (es : List Event). grants_of-push i es e ∙ ap (λ (b : Bool). grants_of i es + bit b) (mine i) in
    let total' = was.total in
    let machines' = was.machines in
    let settled_machines' = was.settled_machines in
    let here : grants_of m (h ++ e ∷ []) ≡ grants_of m h + 1 = pushed m h ∙ ap (λ (b : Bool). grants_of m h + bit b) (eq-eqb m m refl) in
    let sums : sum_below (λ i. grants_of i (h ++ e ∷ [])) n + grants_of m h ≡ sum_below (λ i. grants_of i h) n + grants_of m (h ++ e ∷ []) =
    sum_but_one (λ i. grants_of i (h ++ e ∷ [])) (λ i. grants_of i h) m n l
    (λ k lk ne.
    let more : grants_of k (h ++ e ∷ []) ≡ grants_of k h + bit (m == k) = pushed k h in
    let other : bit (m == k) ≡ 0 = ap bit (ne_eqb m k (λ q. ne (sym q))) in
    omega arith) in
    record {
      total = omega arith;
      machines = length-set g.each m (slice_index g.each m + 1) ∙ was.machines;
      each = λ i li.
          let at : slice_index (raised g.each m) i ≡ slice_index g.each i + bit (m == i) = raised_at g.each m i (omega arith) in
          let more : grants_of i (h ++ e ∷ []) ≡ grants_of i h + bit (m == i) = pushed i h in
          let same = was.each i li in
          omega arith;
      settled_machines = elim (cases_Bool settled) [
        | inl y ↦ ap (λ (b : Bool). length (cond b (raised g.settled m) g.settled)) y ∙ (length-set g.settled m (slice_index g.settled m + 1) ∙ was.settled_machines)
        | inr f ↦ ap (λ (b : Bool). length (cond b (raised g.settled m) g.settled)) f ∙ was.settled_machines
      ];
      settled = λ i li. elim (cases_Bool settled) [
        | inl y ↦
            let now : slice_index (cond settled (raised g.settled m) g.settled) i ≡ slice_index (raised g.settled m) i =
            ap (λ (b : Bool). slice_index (cond b (raised g.settled m) g.settled) i) y in
            let at : slice_index (raised g.settled m) i ≡ slice_index g.settled i + bit (m == i) = raised_at g.settled m i (omega arith) in
            let run : grants_of i (settled_run w a (h ++ e ∷ [])) ≡ grants_of i (settled_run w a h ++ e ∷ []) = ap (grants_of i) (run_goes_on w a h e (sym s ∙ y) refl) in
            let more : grants_of i (settled_run w a h ++ e ∷ []) ≡ grants_of i (settled_run w a h) + bit (m == i) = pushed i (settled_run w a h) in
            let same : slice_index g.settled i ≡ grants_of i (settled_run w a h) = was.settled i li in
            omega arith
        | inr f ↦
            let now : slice_index (cond settled (raised g.settled m) g.settled) i ≡ slice_index g.settled i =
            ap (λ (b : Bool). slice_index (cond b (raised g.settled m) g.settled) i) f in
            now ∙ (was.settled i li ∙ (ap (grants_of i) (none f) ∙ ap (grants_of i) (sym (run_is_over w a h e (sym s ∙ f)))))
      ];
    }

-- the counts of the grants after a pass that was not granted
grants-idle : {C : Type 0} (w : Works C) (a : State C) (h : List Event) (n : ℕ) (g : GrantsView) (settled : Bool) (seat m order : ℕ) →
    IsGrantsOf w a h n g → settled ≡ is_settled (after w a h).ring.values → (settled ≡ false → settled_run w a h ≡ []) →
    IsGrantsOf w a (h ++ record { seat = seat; op = Pass m order; reply = NotPrivileged } ∷ []) n g
grants-idle w a h n g settled seat m order was s none =
    let e : Event = record { seat = seat; op = Pass m order; reply = NotPrivileged } in
    let same : (i : ℕ) (es : List Event) → grants_of i (es ++ e ∷ []) ≡ grants_of i es = λ (i : ℕ) (es : List Event). let more : grants_of i (es ++ e ∷ []) ≡ grants_of i es + 0 = grants_of-push i es e in omega arith in
    record {
      total = was.total ∙ sum_same (λ i. grants_of i h) (λ i. grants_of i (h ++ e ∷ [])) n (λ k l. sym (same k h));
      machines = was.machines;
      each = λ i li. was.each i li ∙ sym (same i h);
      settled_machines = was.settled_machines;
      settled = λ i li. elim (cases_Bool settled) [
        | inl y ↦ was.settled i li ∙ (sym (same i (settled_run w a h)) ∙ ap (grants_of i) (sym (run_goes_on w a h e (sym s ∙ y) refl)))
        | inr f ↦ was.settled i li ∙ (ap (grants_of i) (none f) ∙ ap (grants_of i) (sym (run_is_over w a h e (sym s ∙ f))))
      ];
    }

-- the counts of the grants after a corruption
grants-corruption : {C : Type 0} (w : Works C) (a : State C) (h : List Event) (n : ℕ) (g : GrantsView) (seat m value old : ℕ) →
    IsGrantsOf w a h n g → IsGrantsOf w a (h ++ record { seat = seat; op = Corrupt m value; reply = Corrupted old } ∷ []) n (run_ended g)
grants-corruption w a h n g seat m value old was =
    let e : Event = record { seat = seat; op = Corrupt m value; reply = Corrupted old } in
    let same : (i : ℕ) → grants_of i (h ++ e ∷ []) ≡ grants_of i h = λ (i : ℕ). let more : grants_of i (h ++ e ∷ []) ≡ grants_of i h + 0 = grants_of-push i h e in omega arith in
    let settled_machines' = was.settled_machines in
    record {
      total = was.total ∙ sum_same (λ i. grants_of i h) (λ i. grants_of i (h ++ e ∷ [])) n (λ k l. sym (same k));
      machines = was.machines;
      each = λ i li. was.each i li ∙ sym (same i);
      settled_machines = length-replicate {A = ℕ} (length g.settled) 0 ∙ was.settled_machines;
      settled = λ i li. get_or-replicate {A = ℕ} (length g.settled) i 0 0 (omega arith) ∙ ap (grants_of i) (sym (run_is_broken w a h e refl));
    }

-- the calls of each seat
calls-more : (h : List Event) (e : Event) (calls : List ℕ) (seat : ℕ) → length calls ≡ seat_limit → ((k : ℕ) → k < seat_limit → slice_index calls k ≡ length (calls_of k h)) → e.seat ≡ seat → seat < seat_limit →
    (k : ℕ) → k < seat_limit → slice_index (raised calls seat) k ≡ length (calls_of k (h ++ e ∷ []))
calls-more h e calls seat size was q l k lk =
    let at : slice_index (raised calls seat) k ≡ slice_index calls k + bit (seat == k) = raised_at calls seat k (omega arith) in
    let more : length (calls_of k (h ++ e ∷ [])) ≡ length (calls_of k h) + bit (e.seat == k) = calls-push k h e in
    let same : slice_index calls k ≡ length (calls_of k h) = was k lk in
    let mine : bit (e.seat == k) ≡ bit (seat == k) = ap (λ (x : ℕ). bit (x == k)) q in
    omega arith

-- whether the ring is settled after a step
settled-step : {C : Type 0} (w : Works C) (a : State C) (h : List Event) (e : Event) (b : State C) → Step w (after w a h) e b →
    is_settled b.ring.values ≡ is_settled (after w a (h ++ e ∷ [])).ring.values
settled-step w a h e b step = ap (λ (s : State _). is_settled s.ring.values) (StepOf-next w (after w a h) e.op e.reply b step ∙ sym (after-push w a h e))

-- all counts after a granted pass
pub IsTallyOf-grant : {C : Type 0} (w : Works C) (a : State C) (h : List Event) (t : TallyView) (b : State C) (seat m order number result : ℕ) (settled : Bool) (o : Op) →
    ((i : ℕ) → is_grant_of i o (Granted number result) ≡ (m == i)) →
    IsTallyOf w a h t → StepOf w (after w a h) o (Granted number result) b → IsGrant w (after w a h) m order number result b →
    IsRing (after w a h).ring → length (after w a h).ring.values ≡ length a.ring.values → seat < seat_limit →
    settled ≡ is_settled b.ring.values →
    IsTallyOf w a (h ++ record { seat = seat; op = o; reply = Granted number result } ∷ []) (after_call (after_grant t m settled) seat)
IsTallyOf-grant w a h t b seat m order number result settled o mine was step grant ring size few s =
    let e : Event = record { seat = seat; op = o; reply = Granted number result } in
    let calm' = was.calm in
    let inside : m < length (after w a h).ring.values = grant.0 in
    record {
      calm = ap (λ (n : ℕ). n + 1) was.calm ∙ sym (calm-push h e);
      seats = length-set t.calls seat (slice_index t.calls seat + 1) ∙ was.seats;
      calls = calls-more h e t.calls seat was.seats was.calls refl (omega arith);
      settled = s ∙ settled-step w a h e b step;
      no_run = λ f. elim (cases_Bool (is_settled (after w a h).ring.values)) [
        | inl y ↦
            let stays : is_settled b.ring.values ≡ true = ap (λ (x : State _). is_settled x.ring.values) grant.4 ∙ settled_stays (after w a h).ring m ring grant.0 grant.1 y in
            absurd (both_ways settled f (s ∙ stays))
        | inr n ↦ run_is_over w a h e n
      ];
      grants = grants-grant w a h (length a.ring.values) t.grants t.settled seat m number result o mine was.grants was.settled was.no_run (omega arith);
    }

-- all counts after a pass that was not granted
pub IsTallyOf-idle : {C : Type 0} (w : Works C) (a : State C) (h : List Event) (t : TallyView) (b : State C) (seat m order : ℕ) →
    IsTallyOf w a h t → StepOf w (after w a h) (Pass m order) NotPrivileged b → seat < seat_limit →
    IsTallyOf w a (h ++ record { seat = seat; op = Pass m order; reply = NotPrivileged } ∷ []) (after_call t seat)
IsTallyOf-idle w a h t b seat m order was step few =
    let e : Event = record { seat = seat; op = Pass m order; reply = NotPrivileged } in
    record {
      calm = was.calm ∙ sym (calm-push h e);
      seats = length-set t.calls seat (slice_index t.calls seat + 1) ∙ was.seats;
      calls = calls-more h e t.calls seat was.seats was.calls refl (omega arith);
      settled = was.settled ∙ (sym (ap (λ (x : State _). is_settled x.ring.values) step.2) ∙ settled-step w a h e b step);
      no_run = λ f. run_is_over w a h e (sym was.settled ∙ f);
      grants = grants-idle w a h (length a.ring.values) t.grants t.settled seat m order was.grants was.settled was.no_run;
    }

-- all counts after a corruption
pub IsTallyOf-corruption : {C : Type 0} (w : Works C) (a : State C) (h : List Event) (t : TallyView) (b : State C) (seat m value old : ℕ) (settled : Bool) →
    IsTallyOf w a h t → StepOf w (after w a h) (Corrupt m value) (Corrupted old) b → seat < seat_limit → settled ≡ is_settled b.ring.values →
    IsTallyOf w a (h ++ record { seat = seat; op = Corrupt m value; reply = Corrupted old } ∷ []) (after_call (after_corruption t settled) seat)
IsTallyOf-corruption w a h t b seat m value old settled was step few s =
    let e : Event = record { seat = seat; op = Corrupt m value; reply = Corrupted old } in
    record {
      calm = sym (calm-push h e);
      seats = length-set t.calls seat (slice_index t.calls seat + 1) ∙ was.seats;
      calls = calls-more h e t.calls seat was.seats was.calls refl (omega arith);
      settled = s ∙ settled-step w a h e b step;
      no_run = λ f. run_is_broken w a h e refl;
      grants = grants-corruption w a h (length a.ring.values) t.grants seat m value old was.grants;
    }
