-- A ring of a book that resumes a history, and of clients with right surveys of it.
use Rattle.std.proofs.Common.{◌≡◌, ℕ, zero, suc, ◌<◌, ◌≤◌, List, [], ◌∷◌, ◌++◌, All, map, length, get_or, sym, ◌∙◌, subst, arith}
use Rattle.std.proofs.lemmas.List.{length-map, get_or-map}
use Rattle.std.proofs.lemmas.List.Elements.{All-nil, All-cons, All-head, All-tail, All-map}
use Rattle.ring_model.specs.Ring.{ring_with}
use Rattle.ring_model.specs.Limits.{seat_limit}
use Rattle.ring_model.specs.Resources.{till}
use Rattle.ring_model.specs.History.{opening}
use Rattle.ring_model.specs.Logs.{IsSurvey, Fits}
use Rattle.ring_model.specs.declared.events.Survey.{Survey}
use Rattle.ring_logs.specs.LogView.{LogView}
use Rattle.ring_book.specs.BookView.{BookView, IsBook}
use Rattle.ring_logs.specs.Seats.{AreOfSeats}
use Rattle.saved_history.specs.declared.saved.SavedSurvey.{SavedSurvey}
use Rattle.saved_history.specs.Content.{Block}
use Rattle.ring_check.specs.Legal.{history}
use Rattle.ring_check.specs.Meaning.{survey_of}
use Rattle.one_thread_ring.specs.SavedOf.{saved_survey}
use Rattle.one_thread_ring.specs.Clients.{ClientView, log_from, told_of, told_all, StandInOrder}
use Rattle.one_thread_ring.specs.Rings.{IsClient, IsKeptBy}
use Rattle.one_thread_ring.specs.Texts.{client_surveys, surveys_kept}
use Rattle.one_thread_ring.specs.Resuming.{CanGoOnWith, AreSeated}
use Rattle.one_thread_ring.proofs.Fitting.{log_fits}

-- a fact of all surveys is a fact of each client's

all_front : (P : SavedSurvey → Type 0) (xs ys : List SavedSurvey) → All P (xs ++ ys) → All P xs
all_front P [] ys a = All-nil P
all_front P (x ∷ xs) ys a = All-cons P x xs (All-head P x (xs ++ ys) a) (all_front P xs ys (All-tail P x (xs ++ ys) a))

all_back : (P : SavedSurvey → Type 0) (xs ys : List SavedSurvey) → All P (xs ++ ys) → All P ys
all_back P [] ys a = a
all_back P (x ∷ xs) ys a = all_back P xs ys (All-tail P x (xs ++ ys) a)

all_of : (P : SavedSurvey → Type 0) (cs : List ClientView) (i : ℕ) (d : ClientView) → All P (surveys_kept cs) → i < length cs → All P (client_surveys (get_or cs i d))
all_of P [] i d a l = absurd (omega (arith, l))
all_of P (c ∷ cs) zero d a l = all_front P (client_surveys c) (surveys_kept cs) a
all_of P (c ∷ cs) (suc i) d a l = all_of P cs i d (all_back P (client_surveys c) (surveys_kept cs) a) (omega (arith, l))

-- of the surveys as they are
all_lines : (P : Survey → Type 0) (ss : List SavedSurvey) → All P (map survey_of ss) → All (λ (s : SavedSurvey). P (survey_of s)) ss
all_lines P [] a = All-nil (λ (s : SavedSurvey). P (survey_of s))
all_lines P (s ∷ ss) a =
    All-cons (λ (x : SavedSurvey). P (survey_of x)) s ss (All-head P (survey_of s) (map survey_of ss) a) (all_lines P ss (All-tail P (survey_of s) (map survey_of ss) a))

all_told_of : (P : Survey → Type 0) (number : ℕ) (ss : List Survey) → All (λ (s : SavedSurvey). P (survey_of s)) (map (saved_survey number) ss) → All P ss
all_told_of P number [] a = All-nil P
all_told_of P number (s ∷ ss) a =
    let Q : SavedSurvey → Type 0 = λ (x : SavedSurvey). P (survey_of x) in
    All-cons P s ss (All-head Q (saved_survey number s) (map (saved_survey number) ss) a)
    (all_told_of P number ss (All-tail Q (saved_survey number s) (map (saved_survey number) ss) a))

-- surveys in order, none of them past the end of the history
order_within : (place end longer : ℕ) (ss : List Survey) → StandInOrder place end ss → place ≤ longer → All (λ (s : Survey). s.position ≤ longer) ss → StandInOrder place longer ss
order_within place end longer [] o l a = l
order_within place end longer (s ∷ ss) o l a =
    (o.0, order_within s.position end longer ss o.1 (All-head (λ (x : Survey). x.position ≤ longer) s ss a) (All-tail (λ (x : Survey). x.position ≤ longer) s ss a))

pub told_kept : (b : BookView ℕ) (cs : List ClientView) (seats : ℕ) (ss : List SavedSurvey) → seats ≤ seat_limit → IsBook till 0 b → AreOfSeats seats b.history → AreSeated seats cs → surveys_kept cs ≡ ss →
    All (IsSurvey till (opening b.start 0) b.history) (map survey_of ss) → IsKeptBy till 0 b cs
told_kept b cs seats ss most book callers seated kept right =
    let P : Survey → Type 0 = IsSurvey till (opening b.start 0) b.history in
    let all : All (λ (s : SavedSurvey). P (survey_of s)) (surveys_kept cs) =
    subst (λ (u : List SavedSurvey). All (λ (s : SavedSurvey). P (survey_of s)) u) (sym kept) (all_lines P ss right) in
    let each : (i : ℕ) (d : ClientView) → i < length cs → All P (get_or cs i d).surveys =
    λ i d l. all_told_of P (get_or cs i d).number (get_or cs i d).surveys (all_of (λ (s : SavedSurvey). P (survey_of s)) cs i d all l) in
    let order : (i : ℕ) (d : ClientView) → i < length cs → StandInOrder 0 (length b.history) (get_or cs i d).surveys =
    λ i d l.
    let o = seated.in_order i d l in
    order_within 0 o.0 (length b.history) (get_or cs i d).surveys o.1 (omega arith) (λ j s k. (each i d l j s k).0) in
    let many = seated.many in
    let size = length-map cs (told_of b.history) in
    record {
      ring = record {
        book = book;
        few = omega (arith, many, size, most);
        of_seats = subst (λ (n : ℕ). AreOfSeats n b.history) (sym (size ∙ many)) callers;
        each = λ i t l.
            let nobody : ClientView = record { number = i; surveys = [] } in
            let c : ClientView = get_or cs i nobody in
            let within : i < length cs = omega (arith, size, l) in
            let is : get_or (told_all b.history cs) i t ≡ told_of b.history c = get_or-map (told_of b.history) cs i nobody t within in
            let number : c.number ≡ i = seated.numbers i nobody within in
            let fits : Fits till (opening b.start 0) b.history c.number (log_from c.number 0 b.history c.surveys) =
            log_fits till (opening b.start 0) b.history c.number c.surveys (order i nobody within) (each i nobody within) in
            subst (λ (x : LogView). IsClient till 0 b i x) (sym is)
            (record { number = number; fits = subst (λ (n : ℕ). Fits till (opening b.start 0) b.history n (log_from c.number 0 b.history c.surveys)) number fits });
      };
      in_order = order;
    }

-- a block that can be resumed has right surveys
pub right_surveys : (seats : ℕ) (b : Block) → CanGoOnWith seats b → All (IsSurvey till (opening (ring_with b.k b.start) 0) (history b)) (map survey_of b.surveys)
right_surveys seats b c = All-map (IsSurvey till (opening (ring_with b.k b.start) 0) (history b)) survey_of b.surveys (λ i s l. (c.right.surveys i s l).right)
