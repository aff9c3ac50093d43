-- Following a log along a history, and the seat's calls in it.
use Rattle.std.proofs.Common.{◌≡◌, ℕ, ◌+◌, ◌-◌, ◌≤◌, ◌==◌, ◌↔◌, List, [], ◌∷◌, ◌++◌, Bool, true, false, cond, Some, slice_get, All, length, length-append, take, drop, zero, suc, subst, ap, sym, ◌∙◌, refl, arith}
use Rattle.std.proofs.lemmas.List.{take-append-drop, drop-drop}
use Rattle.std.proofs.lemmas.List.Elements.{filter-append, All-nil, All-cons, All-head, All-tail}
use Rattle.std.proofs.lemmas.List.Sums.{sum_by-cons}
use Rattle.std.proofs.lemmas.Bool.{cond-true, eq-eqb, eqb-true}
use Rattle.std.proofs.Math.Numerals.{add-one}
use Rattle.ring_model.specs.History.{Works, State}
use Rattle.ring_model.specs.Logs.{calls_of, receipts_of, IsFollowed, IsSurvey, Fits}
use Rattle.ring_model.specs.declared.events.Event.{Event}
use Rattle.ring_model.specs.declared.events.Entry.{Entry}
use Rattle.ring_model.specs.declared.events.Entry.TheVariants as entry
use Rattle.ring_logs.specs.Fronts.{front_of, IsReceiptFrom, IsSurveyFrom, IsPlacedFrom, ArePlaced, IsPlaced, is_receipt, receipt_count, surveys_of}
use Rattle.ring_logs.proofs.Replaying.{drop_at}

-- the entry is right, and does not go back before the front
abbrev IsEntryFrom : {C : Type 0} → Works C → State C → List Event → ℕ → ℕ → Entry → Type 0
IsEntryFrom w a h seat front (entry.Receipt r) = IsReceiptFrom h seat front r
IsEntryFrom w a h seat front (entry.Survey s) = IsSurveyFrom w a h front s

-- each entry is right, from this front on
abbrev Follows : {C : Type 0} → Works C → State C → List Event → ℕ → ℕ → List Entry → Type 0
Follows w a h seat front [] = Unit {0}
Follows w a h seat front (e ∷ log) = IsEntryFrom w a h seat front e × Follows w a h seat (front_of e) log

-- the calls from the front on are those up to a position and those from it
calls_split : (seat front p : ℕ) (h : List Event) → front ≤ p → calls_of seat (drop front h) ≡ calls_of seat (take (p - front) (drop front h)) ++ calls_of seat (drop p h)
calls_split seat front p h le =
    let d = p - front in
    let sum : front + d ≡ p = omega arith in
    ap (calls_of seat) (sym (take-append-drop d (drop front h))) ∙ (filter-append (λ (e : Event). e.seat == seat) (take d (drop front h)) (drop d (drop front h))
    ∙ ap (λ (xs : List Event). calls_of seat (take d (drop front h)) ++ calls_of seat xs) (drop-drop d front h ∙ ap (λ (k : ℕ). drop k h) sum))

-- an event of the seat is the first of its calls from there on
calls_at : (seat p : ℕ) (h : List Event) (e : Event) → slice_get h p ≡ Some e → e.seat ≡ seat → calls_of seat (drop p h) ≡ e ∷ calls_of seat (drop (p + 1) h)
calls_at seat p h e at own =
    rw (add-one p) (ap (calls_of seat) (drop_at p h e at) ∙ cond-true (e.seat == seat) (e ∷ calls_of seat (drop (suc p) h)) (calls_of seat (drop (suc p) h)) (eq-eqb _ _ own))

-- the receipts are no more than the calls that are left
receipts_few : {C : Type 0} (w : Works C) (a : State C) (h : List Event) (seat front : ℕ) (log : List Entry) → Follows w a h seat front log →
    length (receipts_of log) ≤ length (calls_of seat (drop front h))
receipts_few w a h seat front [] t = omega arith
receipts_few w a h seat front (entry.Receipt r ∷ log) t =
    let more = receipts_few w a h seat (r.position + 1) log t.1 in
    let split = ap length (calls_split seat front r.position h t.0.0) ∙ length-append (calls_of seat (take (r.position - front) (drop front h))) (calls_of seat (drop r.position h)) in
    let here = ap length (calls_at seat r.position h r.event t.0.1 t.0.2) in
    omega arith
receipts_few w a h seat front (entry.Survey s ∷ log) t =
    let more = receipts_few w a h seat s.position log t.1 in
    let split = ap length (calls_split seat front s.position h t.0.0) ∙ length-append (calls_of seat (take (s.position - front) (drop front h))) (calls_of seat (drop s.position h)) in
    omega arith

nothing : (xs : List Event) → length xs ≡ 0 → xs ≡ []
nothing [] e = refl
nothing (x ∷ xs) e = absurd (omega arith)

-- as many receipts as calls that are left: they are those calls
receipts_all : {C : Type 0} (w : Works C) (a : State C) (h : List Event) (seat front : ℕ) (log : List Entry) → Follows w a h seat front log →
    length (receipts_of log) ≡ length (calls_of seat (drop front h)) → receipts_of log ≡ calls_of seat (drop front h)
receipts_all w a h seat front [] t e = sym (nothing (calls_of seat (drop front h)) (sym e))
receipts_all w a h seat front (entry.Receipt r ∷ log) t e =
    let few = receipts_few w a h seat (r.position + 1) log t.1 in
    let parts = calls_split seat front r.position h t.0.0 in
    let split = ap length parts ∙ length-append (calls_of seat (take (r.position - front) (drop front h))) (calls_of seat (drop r.position h)) in
    let here = calls_at seat r.position h r.event t.0.1 t.0.2 in
    let count = ap length here in
    let none : calls_of seat (take (r.position - front) (drop front h)) ≡ [] = nothing _ (omega arith) in
    let rest = receipts_all w a h seat (r.position + 1) log t.1 (omega arith) in
    ap (λ (xs : List Event). r.event ∷ xs) rest ∙ (sym here ∙ sym (parts ∙ ap (λ (xs : List Event). xs ++ calls_of seat (drop r.position h)) none))
receipts_all w a h seat front (entry.Survey s ∷ log) t e =
    let few = receipts_few w a h seat s.position log t.1 in
    let parts = calls_split seat front s.position h t.0.0 in
    let split = ap length parts ∙ length-append (calls_of seat (take (s.position - front) (drop front h))) (calls_of seat (drop s.position h)) in
    let none : calls_of seat (take (s.position - front) (drop front h)) ≡ [] = nothing _ (omega arith) in
    receipts_all w a h seat s.position log t.1 (omega arith) ∙ sym (parts ∙ ap (λ (xs : List Event). xs ++ calls_of seat (drop s.position h)) none)

-- every event is of this seat
abbrev AreOf : ℕ → List Event → Type 0
AreOf seat [] = Unit {0}
AreOf seat (e ∷ es) = (e.seat ≡ seat) × AreOf seat es

calls_are_of : (seat : ℕ) (h : List Event) → AreOf seat (calls_of seat h)
calls_are_of seat [] = tt
calls_are_of seat (e ∷ h) = go (e.seat == seat) refl (calls_are_of seat h)
  where
    go : (b : Bool) → (e.seat == seat) ≡ b → AreOf seat (calls_of seat h) → AreOf seat (cond b (e ∷ calls_of seat h) (calls_of seat h))
    go true p more = (eqb-true _ _ p, more)
    go false p more = more

follows_of : {C : Type 0} (w : Works C) (a : State C) (h : List Event) (seat front : ℕ) (log : List Entry) → IsFollowed w a h front log → AreOf seat (receipts_of log) → Follows w a h seat front log
follows_of w a h seat front [] i o = tt
follows_of w a h seat front (entry.Receipt r ∷ log) i o = ((i.0, i.1, o.0), follows_of w a h seat (r.position + 1) log i.2 o.1)
follows_of w a h seat front (entry.Survey s ∷ log) i o = ((i.0, i.1), follows_of w a h seat s.position log i.2 o)

is_followed : {C : Type 0} (w : Works C) (a : State C) (h : List Event) (seat front : ℕ) (log : List Entry) → Follows w a h seat front log → IsFollowed w a h front log
is_followed w a h seat front [] t = tt
is_followed w a h seat front (entry.Receipt r ∷ log) t = (t.0.0, t.0.1, is_followed w a h seat (r.position + 1) log t.1)
is_followed w a h seat front (entry.Survey s ∷ log) t = (t.0.0, t.0.1, is_followed w a h seat s.position log t.1)

receipts_counted : (log : List Entry) → receipt_count log ≡ length (receipts_of log)
receipts_counted [] = refl
receipts_counted (entry.Receipt r ∷ log) =
    let more = receipts_counted log in
    let c = sum_by-cons (λ (e : Entry). cond {A = ℕ} (is_receipt e) 1 0) (entry.Receipt r) log in
    c ∙ omega arith
receipts_counted (entry.Survey s ∷ log) =
    let more = receipts_counted log in
    let c = sum_by-cons (λ (e : Entry). cond {A = ℕ} (is_receipt e) 1 0) (entry.Survey s) log in
    c ∙ omega arith

-- a log fits exactly where it can be followed from the start, with as many receipts as the seat has calls
fits_means : {C : Type 0} (w : Works C) (a : State C) (h : List Event) (seat : ℕ) (log : List Entry) →
    Follows w a h seat 0 log × (receipt_count log ≡ length (calls_of seat h)) ↔ Fits w a h seat log
fits_means w a h seat log = (
  λ t. record { calls = receipts_all w a h seat 0 log t.0 (sym (receipts_counted log) ∙ t.1); entries = is_followed w a h seat 0 log t.0 },
  λ f. (follows_of w a h seat 0 log f.entries (subst (AreOf seat) (sym f.calls) (calls_are_of seat h)), receipts_counted log ∙ ap length f.calls),
)

-- to follow a log is to place its entries, and to have each of its surveys right
splits : {C : Type 0} (w : Works C) (a : State C) (h : List Event) (seat front : ℕ) (log : List Entry) →
    Follows w a h seat front log → ArePlaced h seat front log × All (IsSurvey w a h) (surveys_of log)
splits w a h seat front [] t = (tt, All-nil (IsSurvey w a h))
splits w a h seat front (entry.Receipt r ∷ log) t = let more = splits w a h seat (r.position + 1) log t.1 in ((t.0, more.0), more.1)
splits w a h seat front (entry.Survey s ∷ log) t =
    let more = splits w a h seat s.position log t.1 in ((t.0.0, more.0), All-cons (IsSurvey w a h) s (surveys_of log) t.0.1 more.1)

joins : {C : Type 0} (w : Works C) (a : State C) (h : List Event) (seat front : ℕ) (log : List Entry) →
    ArePlaced h seat front log → All (IsSurvey w a h) (surveys_of log) → Follows w a h seat front log
joins w a h seat front [] p right = tt
joins w a h seat front (entry.Receipt r ∷ log) p right = (p.0, joins w a h seat (r.position + 1) log p.1 right)
joins w a h seat front (entry.Survey s ∷ log) p right =
    ((p.0, All-head (IsSurvey w a h) s (surveys_of log) right), joins w a h seat s.position log p.1 (All-tail (IsSurvey w a h) s (surveys_of log) right))

-- a log fits exactly where it is placed and each of its surveys is right
pub fits_split : {C : Type 0} (w : Works C) (a : State C) (h : List Event) (seat : ℕ) (log : List Entry) →
    IsPlaced h seat log × All (IsSurvey w a h) (surveys_of log) ↔ Fits w a h seat log
fits_split w a h seat log = (
  λ t. (fits_means w a h seat log).0 (joins w a h seat 0 log t.0.0 t.1, t.0.1),
  λ f. let t = (fits_means w a h seat log).1 f in let s = splits w a h seat 0 log t.0 in ((s.0, t.1), s.1),
)

-- one entry on
pub placed_at : (h : List Event) (seat front i : ℕ) (log : List Entry) (e : Entry) → slice_get log i ≡ Some e →
    ArePlaced h seat front (drop i log) ↔ (IsPlacedFrom h seat front e × ArePlaced h seat (front_of e) (drop (i + 1) log))
placed_at h seat front i log e at =
    let F : List Entry → Type 0 = λ es. ArePlaced h seat front es in
    let same : drop i log ≡ e ∷ drop (i + 1) log = rw (add-one i) (entry_at i log e at) in
    (λ t. subst F same t, λ t. subst F (sym same) t)
  where
    entry_at : (i : ℕ) (log : List Entry) (e : Entry) → slice_get log i ≡ Some e → drop i log ≡ e ∷ drop (suc i) log
    entry_at i [] e at = cc
    entry_at zero (x ∷ log) e at = let same : x ≡ e = cc in ap (λ (y : Entry). y ∷ log) same
    entry_at (suc i) (x ∷ log) e at = entry_at i log e at

placed_past : (h : List Event) (seat front i : ℕ) (log : List Entry) → length log ≤ i → ArePlaced h seat front (drop i log)
placed_past h seat front zero [] le = tt
placed_past h seat front (suc i) [] le = tt
placed_past h seat front zero (x ∷ log) le = absurd (omega arith)
placed_past h seat front (suc i) (x ∷ log) le = placed_past h seat front i log (omega (arith, le))

-- where an entry is not placed the log isn't
pub misplaced_at : (h : List Event) (seat front i : ℕ) (log : List Entry) (e : Entry) →
    (ArePlaced h seat front (drop i log) ↔ ArePlaced h seat 0 log) → slice_get log i ≡ Some e → (IsPlacedFrom h seat front e → ⊥) → IsPlaced h seat log → ⊥
misplaced_at h seat front i log e left at wrong f = wrong ((placed_at h seat front i log e at).0 (left.1 f.0)).0

-- where each is, the numbers of receipts and of calls decide
pub placed_by_counts : (h : List Event) (seat front i : ℕ) (log : List Entry) (receipts calls : ℕ) →
    (ArePlaced h seat front (drop i log) ↔ ArePlaced h seat 0 log) → length log ≤ i → receipts ≡ receipt_count log → calls ≡ length (calls_of seat h) →
    ((receipts == calls) ≡ true) ↔ IsPlaced h seat log
placed_by_counts h seat front i log receipts calls left past receipts_is calls_is = (
  λ t. (left.0 (placed_past h seat front i log past), sym receipts_is ∙ (eqb-true _ _ t ∙ calls_is)),
  λ f. eq-eqb _ _ (receipts_is ∙ (f.1 ∙ sym calls_is)),
)
