-- A book whose calls are those of some events, one after the other.
use Rattle.std.proofs.Common.{◌≡◌, ℕ, ◌+◌, ◌<◌, List, [], ◌∷◌, ◌++◌, length, length-append, get_or, take, drop, refl, sym, ◌∙◌, ap, subst, arith}
use Rattle.std.proofs.lemmas.List.{take_more, take-append-drop}
use Rattle.std.proofs.lemmas.List.Elements.{All-nil, All-more, All-take, All-get_or}
use Rattle.ring_model.specs.Ring.{Ring}
use Rattle.ring_model.specs.History.{Works, State, Step, opening, next, after, IsLegal}
use Rattle.ring_model.specs.Limits.{seat_limit}
use Rattle.ring_model.specs.declared.events.Event.{Event}
use Rattle.ring_model.proofs.Histories.{IsLegal-front, legal_step}
use Rattle.ring_book.specs.TallyView.{TallyView}
use Rattle.ring_book.specs.BookView.{BookView, IsOpenKept}
use Rattle.ring_book.specs.BookHistory.{AreGiven, IsBookHistory, IsFirstWrong, IsGiven, HasFollowed, HasReplayed}

-- the event's seat is one of a ring's
abbrev IsSeated : Event → Type 0
IsSeated e = e.seat < seat_limit

pub replay_start : {C : Type 0} (w : Works C) (first : C) (b : BookView C) (t : TallyView) → IsOpenKept w first b t → b.history ≡ [] → HasReplayed w first b.start [] b t
replay_start w first b t kept none = record { kept = kept; begins = refl; history = none; seats = All-nil IsSeated }

last_is : (xs : List Event) (e d : Event) → get_or (xs ++ e ∷ []) (length xs) d ≡ e
last_is [] e d = refl
last_is (x ∷ xs) e d = last_is xs e d

-- the history so far is legal, and leads to the state now
module _ {C : Type 0} (w : Works C) (first : C) (start : Ring) (h : List Event) (b : BookView C) (t : TallyView) (is : HasReplayed w first start h b t) where
  pub replayed_legal : IsLegal w (opening start first) h
  replayed_legal = subst (λ (r : Ring). IsLegal w (opening r first) h) is.begins (subst (λ (es : List Event). IsLegal w (opening b.start first) es) is.history is.kept.book.legal)

  pub replayed_now : after w (opening start first) h ≡ b.now
  replayed_now =
      ap (λ (r : Ring). after w (opening r first) h) (sym is.begins) ∙ (ap (λ (es : List Event). after w (opening b.start first) es) (sym is.history) ∙ is.kept.book.current)

  -- the next event is given here just where it is given after the history so far
  pub given_next : (e : Event) → AreGiven w (opening start first) (h ++ e ∷ []) → IsGiven w b.now e
  given_next e g =
      let n = length-append h (e ∷ []) in
      let few : (get_or (h ++ e ∷ []) (length h) e).seat < seat_limit = All-get_or IsSeated (h ++ e ∷ []) (length h) e (omega (arith, n)) g.0 in
      let step : Step w (after w (opening start first) h) e (next w (after w (opening start first) h) e.op) = legal_step w (opening start first) h e [] g.1 in
      (subst IsSeated (last_is h e e) few, subst (λ (s : State C). Step w s e (next w s e.op)) replayed_now step)

pub replay_more : {C : Type 0} (w : Works C) (first : C) (start : Ring) (h : List Event) (b new : BookView C) (t u : TallyView) (place : ℕ) (d : Event) → place < length h →
    HasReplayed w first start (take place h) b t → IsGiven w b.now (get_or h place d) → HasFollowed w first b new u (get_or h place d) →
    HasReplayed w first start (take (place + 1) h) new u
replay_more w first start h b new t u place d within is given more = record {
  kept = more.kept;
  begins = more.same_start ∙ is.begins;
  history = more.grown ∙ (ap (λ (es : List Event). es ++ get_or h place d ∷ []) is.history ∙ sym (take_more h place d within));
  seats = All-more IsSeated h place d within is.seats given.0;
}

pub first_wrong : {C : Type 0} (w : Works C) (first : C) (start : Ring) (h : List Event) (b : BookView C) (t : TallyView) (place : ℕ) (d : Event) → place < length h →
    HasReplayed w first start (take place h) b t → (IsGiven w b.now (get_or h place d) → ⊥) → IsFirstWrong w (opening start first) h place
first_wrong w first start h b t place d within is none = record {
  within = within;
  before = (is.seats, replayed_legal w first start (take place h) b t is);
  wrong = λ g. none (given_next w first start (take place h) b t is (get_or h place d) (subst (λ (es : List Event). AreGiven w (opening start first) es) (take_more h place d within) g));
}

-- the events of a book have no wrong one
pub never_wrong : {C : Type 0} (w : Works C) (a : State C) (h : List Event) (place : ℕ) → IsBookHistory w a h → IsFirstWrong w a h place → ⊥
never_wrong w a h place right wrong =
    let legal : IsLegal w a (take (place + 1) h ++ drop (place + 1) h) = subst (λ (es : List Event). IsLegal w a es) (sym (take-append-drop (place + 1) h)) right.1.0 in
    wrong.wrong (All-take IsSeated (place + 1) h right.0, IsLegal-front w a (take (place + 1) h) (drop (place + 1) h) legal)
