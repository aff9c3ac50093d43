-- A line that is granted is noted.
use Rattle.std.proofs.Common.{◌≡◌, ◌∙◌, ℕ, ◌<◌, ◌≤◌, List, [], ◌∷◌, ◌++◌, length, length-append, get_or, Bool, true, false, if◌then◌else◌, Option, None, Some, inl, inr, refl, sym, ap, subst, arith}
use Rattle.disks.specs.Held.{Held}
use Rattle.ring_model.specs.Ring.{is_privileged}
use Rattle.ring_model.specs.declared.events.Event.{Event}
use Rattle.ring_model.specs.declared.events.Op.TheVariants as op
use Rattle.text_lines.specs.Spelling.{spaced}
use Rattle.ring_service.specs.Commands.{Command, pass, try, group, corrupt, survey, glance, save, heard}
use Rattle.ring_service.specs.Standings.{Standing, state_of, event_now}
use Rattle.ring_service.specs.declared.answers.Answer.{Answer}
use Rattle.ring_service.specs.declared.answers.Answer.TheVariants as answer
use Rattle.ring_service.specs.declared.answers.Refusal.{Refusal}
use Rattle.ring_service.specs.declared.answers.Refusal.TheVariants as refusal
use Rattle.ring_service.specs.Answers.{answer_line}
use Rattle.one_thread_ring.specs.Refusals.{seat_refusal, place_refusal, pass_refusal, corrupt_refusal, group_refusal}
use Rattle.one_thread_ring.specs.declared.errors.CallError.{CallError}
use Rattle.ring_service.specs.Turns.{Turn, events, refused, refusal_of, bounds_now, unless, passed, waits, turn_at, turn_among, turn_of, is_off, heard_turn, IsTurnOfLine}
use Rattle.ring_service.specs.declared.permits.Permits.{Permits}
use Rattle.ring_service.specs.Permits.{terms_of}
use Rattle.ring_service.specs.Notes.{notes_of}
use Rattle.ring_service.specs.Serving.{name_in, IsSaveGiven, IsGiven, IsAnswered, Answers, ServesAll}
use Rattle.ring_service.specs.Recovered.{AnsweredCallsAreRecovered}

some_front : (a b : List ℕ) → 1 ≤ length a → 1 ≤ length (a ++ b)
some_front [] b h = absurd (omega arith)
some_front (x ∷ a) b h = omega arith

some_back : (a : List ℕ) (x : ℕ) → 1 ≤ length (a ++ x ∷ [])
some_back [] x = omega arith
some_back (y ∷ a) x = omega arith

-- ---- a turn that is granted has notes

abbrev IsNoted : {S : Type 0} → Turn S → Type 0
IsNoted turn = (number result : ℕ) → turn.answer ≡ answer.Granted number result → 1 ≤ length (notes_of turn.recorded)

call_noted : (ring : ℕ) (e : Event) → 1 ≤ length (notes_of (events ring (e ∷ []) ∷ []))
call_noted ring e = some_front _ [] (some_front _ [] (some_front (spaced ring) _ (some_back _ 32)))

refused_noted : {S : Type 0} (s : S) (why : Refusal) → IsNoted (refused s why)
refused_noted s why number result e = absurd (no e)
  where
    no : answer.Refused why ≡ answer.Granted number result → ⊥
    no p = cc

unless_noted : {S : Type 0} (x : Option CallError) (s : S) (turn : Turn S) → IsNoted turn → IsNoted (unless x s turn)
unless_noted None s turn h = h
unless_noted (Some why) s turn h = refused_noted s (refusal_of why)

pass_noted : (r : Standing) (ring seat machine order : ℕ) → IsNoted (passed ring r seat machine order)
pass_noted r ring seat machine order = unless_noted (pass_refusal (bounds_now r) seat machine) r _ (λ n x e. call_noted ring (event_now r seat (op.Pass machine order)))

waits_noted : (r : Standing) → IsNoted (waits r)
waits_noted r n x e = absurd (no e)
  where
    no : answer.Waits ≡ answer.Granted n x → ⊥
    no p = cc

try_noted : (r : Standing) (ring seat machine order : ℕ) (privileged : Bool) → IsNoted (if privileged then passed ring r seat machine order else unless (place_refusal (bounds_now r) seat machine) r (waits r))
try_noted r ring seat machine order true = pass_noted r ring seat machine order
try_noted r ring seat machine order false = unless_noted (place_refusal (bounds_now r) seat machine) r (waits r) (waits_noted r)

turn_noted : (r : Standing) (command : Command) → IsNoted (turn_at r command)
turn_noted r (pass ring seat machine order) = pass_noted r ring seat machine order
turn_noted r (try ring seat machine order) = try_noted r ring seat machine order (is_privileged (state_of r).ring.values machine)
turn_noted r (corrupt ring seat machine value) = unless_noted (corrupt_refusal (bounds_now r) seat machine value) r _ (λ n x e. call_noted ring (event_now r seat (op.Corrupt machine value)))
turn_noted r (group ring seat order machines) = unless_noted (group_refusal (bounds_now r) seat machines) r _ (λ n x e. absurd (no _ _ n x e))
  where
    no : (a b n x : ℕ) → answer.Block a b ≡ answer.Granted n x → ⊥
    no a b n x p = cc
turn_noted r (survey ring seat) = unless_noted (seat_refusal (bounds_now r) seat) r _ (λ n x e. absurd (no _ n x e))
  where
    no : (s : _) (n x : ℕ) → answer.Survey s ≡ answer.Granted n x → ⊥
    no s n x p = cc
turn_noted r (glance ring) = λ n x e. absurd (no _ n x e)
  where
    no : (s : _) (n x : ℕ) → answer.Survey s ≡ answer.Granted n x → ⊥
    no s n x p = cc
turn_noted r (save name) = λ n x e. absurd (no n x e)
  where
    no : (n x : ℕ) → answer.Saved ≡ answer.Granted n x → ⊥
    no n x p = cc

among_noted : (rings : List Standing) (command : Command) (x : Option Standing) → IsNoted (turn_among rings command x)
among_noted rings command None = refused_noted rings refusal.NoRing
among_noted rings command (Some r) = turn_noted r command

heard_noted : (faults : Bool) (rings : List Standing) (x : Option Command) → IsNoted (heard_turn faults rings x)
heard_noted faults rings (Some command) = go (is_off faults command)
  where
    go : (off : Bool) → IsNoted (if off then refused rings refusal.Off else turn_of rings command)
    go true = refused_noted rings refusal.Off
    go false = among_noted rings command _
heard_noted faults rings None = refused_noted rings refusal.OrderTooLarge

of_line : (faults : Bool) (rings : List Standing) (line : List ℕ) (turn : Turn (List Standing)) → IsTurnOfLine faults rings line turn → IsNoted turn
of_line faults rings line turn (inl (inl h)) = subst (λ (t : Turn (List Standing)). IsNoted t) (sym h.2) (heard_noted faults rings (heard h.0))
of_line faults rings line turn (inl (inr h)) = subst (λ (t : Turn (List Standing)). IsNoted t) (sym h.1) (refused_noted rings refusal.Syntax)
of_line faults rings line turn (inr e) = subst (λ (t : Turn (List Standing)). IsNoted t) (sym e) (refused_noted rings refusal.OutOfMemory)

-- ---- an answer that is reported as granted is one

no_refusal : (why : Refusal) (given : Answer) (n x : ℕ) → given ≡ answer.Refused why → given ≡ answer.Granted n x → ⊥
no_refusal why given n x h e = no (sym h ∙ e)
  where
    no : answer.Refused why ≡ answer.Granted n x → ⊥
    no p = cc

no_save : (journal history saves : Option (List ℕ)) (was is : Option Held) (name : List ℕ) (rings : List Standing) (given : Answer) (n x : ℕ) → IsSaveGiven journal history saves was is name rings given → given ≡ answer.Granted n x → ⊥
no_save journal history None was is name rings given n x h e = no_refusal refusal.Off given n x h.0 e
no_save journal history (Some folder) was is name rings given n x (inl (_, inl h)) e = no (sym h.0 ∙ e)
  where
    no : answer.Saved ≡ answer.Granted n x → ⊥
    no p = cc
no_save journal history (Some folder) was is name rings given n x (inl (_, inr h)) e = no_refusal refusal.File given n x h.0 e
no_save journal history (Some folder) was is name rings given n x (inr h) e = no_refusal refusal.Name given n x h.1 e

asked_granted : (journal history saves : Option (List ℕ)) (was is : Option Held) (name : List ℕ) (rings : List Standing) (asked given : Answer) (n x : ℕ) → IsGiven journal history saves was is name rings asked given → given ≡ answer.Granted n x → asked ≡ answer.Granted n x
asked_granted journal history saves was is name rings answer.Saved given n x h e = absurd (no_save journal history saves was is name rings given n x h e)
asked_granted journal history saves was is name rings (answer.Granted a b) given n x h e = sym h.0 ∙ e
asked_granted journal history saves was is name rings answer.Waits given n x h e = sym h.0 ∙ e
asked_granted journal history saves was is name rings (answer.Corrupted a) given n x h e = sym h.0 ∙ e
asked_granted journal history saves was is name rings (answer.Survey a) given n x h e = sym h.0 ∙ e
asked_granted journal history saves was is name rings (answer.Block a b) given n x h e = sym h.0 ∙ e
asked_granted journal history saves was is name rings (answer.Refused a) given n x h e = sym h.0 ∙ e

abbrev head : List ℕ → ℕ
head [] = 0
head (b ∷ bs) = b

-- only this word begins with a g
granted_of : (given : Answer) (later : List ℕ) → head (answer_line given ++ later) ≡ 103 → (n : ℕ) × (x : ℕ) × (given ≡ answer.Granted n x)
granted_of (answer.Granted n x) later e = (n, x, refl)
granted_of answer.Waits later e = let h : ◌≡◌ {A = ℕ} 119 103 = e in absurd (omega arith)
granted_of (answer.Corrupted a) later e = let h : ◌≡◌ {A = ℕ} 99 103 = e in absurd (omega arith)
granted_of (answer.Survey s) later e = let h : ◌≡◌ {A = ℕ} 115 103 = e in absurd (omega arith)
granted_of (answer.Block a b) later e = let h : ◌≡◌ {A = ℕ} 98 103 = e in absurd (omega arith)
granted_of answer.Saved later e = let h : ◌≡◌ {A = ℕ} 115 103 = e in absurd (omega arith)
granted_of (answer.Refused why) later e = let h : ◌≡◌ {A = ℕ} 114 103 = e in absurd (omega arith)

-- ---- where the first line's answer is reported as granted, the journal gets something

first_noted : (name : List ℕ) (permits : Permits) (old : List Standing) (was : Option Held) (lines : List (List ℕ)) (said noted : List ℕ) (new : List Standing) (is : Option Held) → Answers (terms_of (Some name) permits) old was lines said noted new is → head said ≡ 103 → 1 ≤ length noted
first_noted name permits old was [] said noted new is h e =
    let none : head [] ≡ 103 = subst (λ (x : List ℕ). head x ≡ 103) h.0 e in
    absurd (omega arith)
first_noted name permits old was (line ∷ lines) said noted new is h e =
    let mid : List Standing = h.0.service in
    let between : Option Held = h.0.files in
    let a : IsAnswered (terms_of (Some name) permits) old was line h.1 h.3 mid between = h.5 in
    let g = granted_of a.given h.2 (subst (λ (x : List ℕ). head (x ++ h.2) ≡ 103) a.says (subst (λ (x : List ℕ). head x ≡ 103) h.6 e)) in
    let asked = asked_granted (terms_of (Some name) permits).journal (terms_of (Some name) permits).history (terms_of (Some name) permits).saves was between (name_in line) mid a.turn.answer a.given g.0 g.1 a.gives g.2 in
    let many : 1 ≤ length (notes_of a.turn.recorded) = of_line permits.faults old line a.turn a.of_line g.0 g.1 asked in
    subst (λ (x : List ℕ). 1 ≤ length x) (sym h.7) (some_front h.3 h.4 (subst (λ (x : List ℕ). 1 ≤ length x) (sym a.notes) many))

same_length : (a b : List ℕ) → a ≡ a ++ b → length b ≡ 0
same_length [] b e = sym (ap (λ (x : List ℕ). length x) e)
same_length (x ∷ a) b e = same_length a b (ap (λ (x : List ℕ). rest x) e)
  where
    rest : List ℕ → List ℕ
    rest [] = []
    rest (b ∷ bs) = bs

starts : (out : List ℕ) (y : ℕ) → y ≡ get_or out 0 y → 0 < length out → y ≡ 103 → head out ≡ 103
starts [] y e some g = absurd (omega arith)
starts (x ∷ out) y e some g = sym e ∙ g

-- so an output that begins so was not written with a journal that stayed as it was
pub unnoted : (name : List ℕ) (permits : Permits) (old new : List Standing) (was is : Option Held) (unread rest : Option (List ℕ)) (journal out : List ℕ) (y : ℕ) → y ≡ get_or out 0 y → 0 < length out → y ≡ 103
    → ServesAll (terms_of (Some name) permits) old new was is unread rest (record { journal = Some journal; out = Some [] }) (record { journal = Some journal; out = Some out }) → ⊥
unnoted name permits old new was is unread rest journal out y e some g h =
    let t = h.told in
    let said : out ≡ t.said = t.wrote in
    let many = first_noted name permits old was t.answered.lines t.said t.noted new is t.answered.answers (subst (λ (x : List ℕ). head x ≡ 103) said (starts out y e some g)) in
    let none = same_length journal t.noted t.wrote_notes in
    absurd (omega arith)

head_more : (xs ys : List ℕ) → 0 < length xs → head (xs ++ ys) ≡ head xs
head_more [] ys some = absurd (omega (arith, some))
head_more (x ∷ xs) ys some = refl

-- nor does such a journal keep its answer
pub unkept : (name : List ℕ) (permits : Permits) (old new : List Standing) (was is : Option Held) (unread rest : Option (List ℕ)) (journal out : List ℕ) (y : ℕ) → y ≡ get_or out 0 y → 0 < length out → y ≡ 103
    → AnsweredCallsAreRecovered (terms_of (Some name) permits) old new was is unread rest (record { journal = Some journal; out = Some [] }) (record { journal = Some journal; out = Some out }) → ⊥
unkept name permits old new was is unread rest journal out y e some g h =
    let s = h.ended in
    let said : s.said ≡ out ++ s.left = s.wrote.1 ∙ ap (λ (x : List ℕ). x ++ s.left) (sym s.wrote.2) in
    let begins : head s.said ≡ 103 = ap (λ (x : List ℕ). head x) said ∙ (head_more out s.left some ∙ starts out y e some g) in
    let many = first_noted name permits old was s.told.lines s.said s.noted s.mid.service s.mid.files s.told.answers begins in
    let none = same_length journal (s.noted ++ s.front) s.wrote_notes in
    absurd (omega (arith, many, none, length-append s.noted s.front))
