-- The history laws for a book, and the steps of its repairs.
use Rattle.std.proofs.Common.{◌≡◌, ℕ, ◌+◌, ◌-◌, ◌<◌, ◌≤◌, true, false, List, [], ◌∷◌, ◌++◌, length, append_assoc, append-nil, refl, sym, ◌∙◌, ap, subst, inl, inr, arith}
use Rattle.std.proofs.lemmas.Bool.{cases_lt, both_ways, eqb-true}
use Rattle.ring_model.specs.Ring.{is_privileged, moved, is_settled, privileged_count, first_privileged, rest, bound}
use Rattle.ring_model.specs.History.{Works, State, opening, granted_state, next, reply, after}
use Rattle.ring_model.specs.Surveys.{is_granted, calm}
use Rattle.ring_model.specs.HistoryLaws.{Settlement}
use Rattle.ring_model.specs.RepairLaws.{passes_left}
use Rattle.ring_model.specs.Progress.{Progress}
use Rattle.ring_model.specs.declared.events.Op.{Op}
use Rattle.ring_model.specs.declared.events.Op.TheVariants.{Pass}
use Rattle.ring_model.specs.declared.events.Event.{Event}
use Rattle.ring_model.specs.declared.events.Receipt.{Receipt}
use Rattle.ring_model.proofs.Moves.{length_move}
use Rattle.ring_model.proofs.Settled.{first_is, rest_zero}
use Rattle.ring_model.proofs.Descent.{descent}
use Rattle.ring_model.proofs.FirstPasses.{unsettled_pass}
use Rattle.ring_model.proofs.Histories.{StepOf-next, StepOf-reply, after-push}
use Rattle.ring_model.proofs.Places.{calm_after}
use Rattle.ring_model.proofs.HistoryLaws.{settlement}
use Rattle.ring_model.proofs.Progress.{history_progress}
use Rattle.ring_book.specs.BookView.{BookView, IsBook, IsRecorded}
use Rattle.ring_book.specs.Repairs.{AreRepairs, IsRepairedBy}

-- the laws of settlement hold of a book's history
pub book_settlement : {C : Type 0} (w : Works C) (first : C) (b : BookView C) → IsBook w first b → Settlement w (opening b.start first) b.history
book_settlement w first b k = settlement w (opening b.start first) b.history k.start_ring.ring k.legal

-- and so do the laws of progress
pub book_progress : {C : Type 0} (w : Works C) (first : C) (b : BookView C) → IsBook w first b → Progress w (opening b.start first) b.history
book_progress w first b k = history_progress w (opening b.start first) b.history k.start_ring.ring k.legal

-- the rest is at most the bound less the calm
pub book_calm : {C : Type 0} (w : Works C) (first : C) (b : BookView C) → IsBook w first b → rest b.now.ring ≤ bound (length b.start.values) - calm b.history
book_calm w first b k =
    subst (λ (s : State _). rest s.ring ≤ bound (length b.start.values) - calm b.history) k.current
    (calm_after w (opening b.start first) k.start_ring.ring b.history k.legal)

-- so exactly one machine is privileged where the calm has reached the bound
pub calm_settles : {C : Type 0} (w : Works C) (first : C) (b : BookView C) → IsBook w first b → bound (length b.start.values) ≤ calm b.history →
    (privileged_count b.now.ring.values ≡ 1) × (rest b.now.ring ≡ 0)
calm_settles w first b k le =
    let falls : rest b.now.ring ≤ bound (length b.start.values) - calm b.history = book_calm w first b k in
    let two = k.now_ring.ring.two in
    let none : rest b.now.ring ≡ 0 = omega arith in
    (eqb-true (privileged_count b.now.ring.values) 1 (rest_zero b.now.ring (omega arith) none), none)

-- one repair more
AreRepairs-push : {C : Type 0} (w : Works C) (a : State C) (seat : ℕ) (es : List Event) (e : Event) → AreRepairs w a seat es →
    AreRepairs w (after w a es) seat (e ∷ []) → AreRepairs w a seat (es ++ e ∷ [])
AreRepairs-push w a seat [] e h more = more
AreRepairs-push w a seat (d ∷ es) e h more = (h.0, h.1, h.2, h.3, h.4, AreRepairs-push w (next w a d.op) seat es e h.5 more)

pub no_repairs : {C : Type 0} (w : Works C) (old : BookView C) (seat : ℕ) → IsRepairedBy w old old seat []
no_repairs w old seat = record { repairs = tt; grown = sym (append-nil old.history); now = refl; same_start = refl }

-- a recorded pass of the first privileged machine of an unsettled ring
pub record IsTurn {C : Type 0} (w : Works C) (old b c : BookView C) (seat : ℕ) (passes : List Event) : Type 0 where
  pub made : IsRepairedBy w old c seat passes
  pub falls : rest c.now.ring < rest b.now.ring
  pub count : passes_left b.now.ring ≡ passes_left c.now.ring + 1
  pub size : length c.now.ring.values ≡ length b.now.ring.values

pub repair_turn : {C : Type 0} (w : Works C) (first : C) (old b c : BookView C) (seat : ℕ) (es : List Event) (r : Receipt) (m : ℕ) →
    IsBook w first b → IsRepairedBy w old b seat es → is_settled b.now.ring.values ≡ false → m ≡ first_privileged b.now.ring.values →
    IsRecorded w b c seat (Pass m 0) r → IsTurn w old b c seat (es ++ r.event ∷ [])
repair_turn {C = C} w first old b c seat es r m k done unsettled q rec =
    let two = k.now_ring.ring.two in
    let f = first_is b.now.ring.values (omega arith) in
    let inside : m < length b.now.ring.values = let l : first_privileged b.now.ring.values < length b.now.ring.values = f.0 in omega arith in
    let on : is_privileged b.now.ring.values m ≡ true = ap (is_privileged b.now.ring.values) q ∙ f.1 in
    let goes : c.now ≡ next w b.now r.event.op = StepOf-next w b.now r.event.op r.event.reply c.now rec.step in
    let moves : c.now ≡ granted_state w b.now m 0 = goes ∙ (ap (next w b.now) rec.of_call ∙ rw on refl) in
    let told : is_granted r.event.reply ≡ true =
    ap is_granted (StepOf-reply w b.now r.event.op r.event.reply c.now rec.step ∙ ap (reply w b.now) rec.of_call) ∙ rw on refl in
    let here : AreRepairs w b.now seat (r.event ∷ []) = (unsettled, rec.of_seat, rec.of_call ∙ ap (λ (x : ℕ). let o : Op = Pass x 0 in o) q, told, rw (← goes) rec.step, tt) in
    let P : State C → Type 0 = λ (s : State C). AreRepairs w s seat (r.event ∷ []) in
    record {
      made = record {
        repairs = AreRepairs-push w old.now seat es r.event done.repairs (subst P done.now here);
        grown = rec.grown ∙ (ap (λ (h : List Event). h ++ r.event ∷ []) done.grown ∙ append_assoc old.history es (r.event ∷ []));
        now = goes ∙ (ap (λ (s : State C). next w s r.event.op) done.now ∙ sym (after-push w old.now es r.event));
        same_start = rec.same_start ∙ done.same_start;
      };
      falls =
          let d : rest (moved b.now.ring m) < rest b.now.ring =
          descent b.now.ring m k.now_ring.ring inside on unsettled in
          let s : rest c.now.ring ≡ rest (moved b.now.ring m) = ap (λ (s : State C). rest s.ring) moves in
          omega arith;
      count =
          let d : passes_left b.now.ring ≡ passes_left (moved b.now.ring m) + 1 = unsettled_pass b.now.ring m k.now_ring.ring unsettled q in
          let s : passes_left c.now.ring ≡ passes_left (moved b.now.ring m) = ap (λ (s : State _). passes_left s.ring) moves in
          omega arith;
      size = ap (λ (s : State _). length s.ring.values) moves ∙ length_move b.now.ring m;
    }

-- a ring that is not settled has a rest
pub rest_left : {C : Type 0} (w : Works C) (first : C) (b : BookView C) → IsBook w first b → is_settled b.now.ring.values ≡ false → 1 ≤ rest b.now.ring
rest_left w first b k u = elim (cases_lt (rest b.now.ring) 1) [
  | inl none ↦
      let two = k.now_ring.ring.two in
      absurd (both_ways (is_settled b.now.ring.values) u (rest_zero b.now.ring (omega arith) (omega arith)))
  | inr some ↦ some
]
