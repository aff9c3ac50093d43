-- The surveys of logs, put together.
use Rattle.std.proofs.Common.{◌≡◌, ℕ, ◌↔◌, List, [], ◌∷◌, ◌++◌, All, take, get_or, length, ◌<◌, ◌+◌, ap, sym, ◌∙◌, refl}
use Rattle.std.proofs.lemmas.List.{take_more}
use Rattle.std.proofs.lemmas.List.Elements.{All-nil, All-cons, All-head, All-tail, All-append}
use Rattle.ring_model.specs.History.{Works, State}
use Rattle.ring_model.specs.Logs.{IsSurvey, Fits}
use Rattle.ring_model.specs.declared.events.Event.{Event}
use Rattle.ring_model.specs.declared.events.Survey.{Survey}
use Rattle.ring_model.specs.declared.events.Entry.{Entry}
use Rattle.ring_model.specs.declared.events.Entry.TheVariants as entry
use Rattle.ring_logs.specs.LogView.{LogView}
use Rattle.ring_logs.specs.Fronts.{IsPlaced, surveys_of}
use Rattle.ring_logs.specs.Gathered.{all_surveys}
use Rattle.ring_logs.proofs.Following.{fits_split}

pub surveys_of-push : (log : List Entry) (e : Entry) → surveys_of (log ++ e ∷ []) ≡ surveys_of log ++ surveys_of (e ∷ [])
surveys_of-push [] e = refl
surveys_of-push (entry.Receipt r ∷ log) e = surveys_of-push log e
surveys_of-push (entry.Survey s ∷ log) e = ap (λ (xs : List Survey). s ∷ xs) (surveys_of-push log e)

nothing_more : (xs : List Survey) → xs ++ [] ≡ xs
nothing_more [] = refl
nothing_more (x ∷ xs) = ap (λ (ys : List Survey). x ∷ ys) (nothing_more xs)

assoc : (xs ys zs : List Survey) → (xs ++ ys) ++ zs ≡ xs ++ (ys ++ zs)
assoc [] ys zs = refl
assoc (x ∷ xs) ys zs = ap (λ (us : List Survey). x ∷ us) (assoc xs ys zs)

pub all_surveys-push : (ss : List LogView) (s : LogView) → all_surveys (ss ++ s ∷ []) ≡ all_surveys ss ++ surveys_of s.log
all_surveys-push [] s = nothing_more (surveys_of s.log)
all_surveys-push (t ∷ ss) s = ap (λ (xs : List Survey). surveys_of t.log ++ xs) (all_surveys-push ss s) ∙ sym (assoc (surveys_of t.log) (all_surveys ss) (surveys_of s.log))

-- one entry more of a log
pub log_further : (log : List Entry) (i : ℕ) (e : Entry) (before now after' : List Survey) → i < length log →
    now ≡ before ++ surveys_of (take i log) → after' ≡ now ++ surveys_of (get_or log i e ∷ []) → after' ≡ before ++ surveys_of (take (i + 1) log)
log_further log i e before now after' within is more =
    more ∙ (ap (λ (xs : List Survey). xs ++ surveys_of (get_or log i e ∷ [])) is
    ∙ (assoc before (surveys_of (take i log)) (surveys_of (get_or log i e ∷ []))
    ∙ ap (λ (xs : List Survey). before ++ xs) (sym (ap surveys_of (take_more log i e within) ∙ surveys_of-push (take i log) (get_or log i e)))))

-- one log more
pub logs_further : (ss : List LogView) (i : ℕ) (s : LogView) (now after' : List Survey) → i < length ss →
    now ≡ all_surveys (take i ss) → after' ≡ now ++ surveys_of (get_or ss i s).log → after' ≡ all_surveys (take (i + 1) ss)
logs_further ss i s now after' within is more =
    more ∙ (ap (λ (xs : List Survey). xs ++ surveys_of (get_or ss i s).log) is ∙ sym (ap all_surveys (take_more ss i s within) ∙ all_surveys-push (take i ss) (get_or ss i s)))

all_left : (P : Survey → Type 0) (xs ys : List Survey) → All P (xs ++ ys) → All P xs × All P ys
all_left P [] ys all = (All-nil P, all)
all_left P (x ∷ xs) ys all =
    let more = all_left P xs ys (All-tail P x (xs ++ ys) all) in (All-cons P x xs (All-head P x (xs ++ ys) all) more.0, more.1)

all_fit_of : {C : Type 0} (w : Works C) (a : State C) (h : List Event) (ss : List LogView) →
    All (λ (s : LogView). IsPlaced h s.number s.log) ss → All (IsSurvey w a h) (all_surveys ss) → All (λ (s : LogView). Fits w a h s.number s.log) ss
all_fit_of w a h [] placed right = All-nil (λ (s : LogView). Fits w a h s.number s.log)
all_fit_of w a h (s ∷ ss) placed right =
    let parts = all_left (IsSurvey w a h) (surveys_of s.log) (all_surveys ss) right in
    All-cons (λ (s : LogView). Fits w a h s.number s.log) s ss
    ((fits_split w a h s.number s.log).0 (All-head (λ (s : LogView). IsPlaced h s.number s.log) s ss placed, parts.0))
    (all_fit_of w a h ss (All-tail (λ (s : LogView). IsPlaced h s.number s.log) s ss placed) parts.1)

all_placed_of : {C : Type 0} (w : Works C) (a : State C) (h : List Event) (ss : List LogView) →
    All (λ (s : LogView). Fits w a h s.number s.log) ss → All (λ (s : LogView). IsPlaced h s.number s.log) ss × All (IsSurvey w a h) (all_surveys ss)
all_placed_of w a h [] fits = (All-nil (λ (s : LogView). IsPlaced h s.number s.log), All-nil (IsSurvey w a h))
all_placed_of w a h (s ∷ ss) fits =
    let here = (fits_split w a h s.number s.log).1 (All-head (λ (s : LogView). Fits w a h s.number s.log) s ss fits) in
    let more = all_placed_of w a h ss (All-tail (λ (s : LogView). Fits w a h s.number s.log) s ss fits) in (
      All-cons (λ (s : LogView). IsPlaced h s.number s.log) s ss here.0 more.0,
      All-append (IsSurvey w a h) (surveys_of s.log) (all_surveys ss) here.1 more.1,
    )

-- all logs fit exactly where all are placed and each survey of any is right
pub all_split : {C : Type 0} (w : Works C) (a : State C) (h : List Event) (ss : List LogView) →
    All (λ (s : LogView). IsPlaced h s.number s.log) ss × All (IsSurvey w a h) (all_surveys ss) ↔ All (λ (s : LogView). Fits w a h s.number s.log) ss
all_split w a h ss = (λ t. all_fit_of w a h ss t.0 t.1, all_placed_of w a h ss)
