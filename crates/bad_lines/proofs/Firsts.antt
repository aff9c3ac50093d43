-- The first of all bad lines is the first fault of the table, and there is none where the table has none.
use Rattle.std.proofs.Common.{◌≡◌, ℕ, ◌+◌, List, [], ◌∷◌, ◌++◌, Bool, true, false, cond, Option, Some, None, refl, sym, ◌∙◌, ap, eqb}
use Rattle.std.specs.Prelude.{not, nat_lt, nat_le, ◌&&◌, ◌||◌}
use Rattle.std.specs.List.{list_all}
use Rattle.ring_model.specs.Limits.{seat_limit}
use Rattle.ring_model.specs.declared.events.Event.{Event}
use Rattle.ring_model.specs.declared.events.Reply.{Reply}
use Rattle.ring_model.specs.History.{State, reply}
use Rattle.ring_model.specs.Resources.{till}
use Rattle.ring_check.specs.declared.answers.Kind.{Kind}
use Rattle.ring_check.specs.declared.answers.Kind.TheVariants.{Parameter, Range, Reply as ReplyKind, Count, Survey as SurveyKind, Group}
use Rattle.ring_check.specs.Lines.{Line, RingLine, StartLine, EventLine, EndLine, SurveyLine, DoneLine, lines}
use Rattle.ring_check.specs.Members.{run_of, may_come}
use Rattle.ring_check.specs.Scan.{or_behind, first_fault}
use Rattle.ring_check.specs.Table.{Before, nothing, event_of, now, after_line, are_parameters, in_range, is_replied, event_fault, is_onward, is_surveyed, fault}
use Rattle.ring_check.proofs.Booleans.{both, joined}
use Rattle.ring_check.proofs.Scans.{good_none, none_good, bad_found}
use Rattle.bad_lines.specs.declared.wrongs.BadLine.{BadLine}
use Rattle.bad_lines.specs.BadLines.{Known, known, bad_of, bad, loses, begins, mended, is_hidden, after_known, told, told_of, bad_among, bad_lines}
use Rattle.bad_lines.specs.Laws.{NoneIsLegal, BeginsWith, FirstIsFirst}
use Rattle.bad_lines.specs.Replays.{own}
use Rattle.bad_lines.specs.Wrongs.{wrong, is_in_place}
use Rattle.ring_check.proofs.Steps.{same_is}

-- the number and the kind of the first one
abbrev first_of : List BadLine → Option (ℕ × Kind)
first_of [] = None
first_of (x ∷ xs) = Some (x.line, x.bad.kind)

-- a test that is passed
guard : (x : Bool) (f : Option Kind) (k : Kind) → cond x f (Some k) ≡ None → (x ≡ true) × (f ≡ None)
guard true f k e = (refl, e)
guard false f k e = absurd (cc)

-- an event without a fault is in range, and has the ring's own reply
event_fine : (n : ℕ) (run : List Event) (a : State ℕ) (e : Event) → event_fault n run a e ≡ None → (in_range n a.ring.k e ≡ true) × (own a e ≡ e)
event_fine n run a e h =
    let p = guard (in_range n a.ring.k e) (cond (is_replied a e) (cond (may_come n run e) None (Some Group)) (Some ReplyKind)) Range h in
    let q = guard (is_replied a e) (cond (may_come n run e) None (Some Group)) ReplyKind p.1 in
    let r : e.reply ≡ reply till a e.op = same_is e.reply (reply till a e.op) q.0 in
    (p.0, ap (λ (x : Reply). let f : Event = record { seat = e.seat; op = e.op; reply = x } in f) (sym r))

-- a survey without a fault is in its place
survey_fine : (b : Before) (s : _) → fault b (SurveyLine s) ≡ None → is_in_place b s ≡ true
survey_fine b s h =
    let p = guard (nat_lt s.seat seat_limit) (cond (is_onward b.seat b.position s && is_surveyed b s) None (Some SurveyKind)) Range h in
    let q = guard (is_onward b.seat b.position s && is_surveyed b s) None SurveyKind p.1 in
    let r = both (is_onward b.seat b.position s) (is_surveyed b s) q.0 in
    let t = both (nat_le s.position _) _ r.1 in
    joined (nat_lt s.seat seat_limit) _ p.0 (joined (is_onward b.seat b.position s) _ r.0 t.0)

-- a line without a fault changes what is known as in the table
mended_fine : (b : Before) (l : Line) → fault b l ≡ None → mended b l ≡ after_line b l
mended_fine b (RingLine index n k) h = refl
mended_fine b (StartLine s) h = refl
mended_fine b (EventLine e) h =
    let p = event_fine b.n (run_of b.events) (now b) (event_of e) h in
    ap (λ (x : Event). let t : Before = record b { line = b.line + 1; events = b.events ++ x ∷ [] } in t) p.1
mended_fine b (EndLine said) h = refl
mended_fine b (SurveyLine s) h = let p = survey_fine b s h in rw p refl
mended_fine b (DoneLine said) h = refl

loses_fine : (b : Before) (l : Line) → fault b l ≡ None → loses b l ≡ false
loses_fine b (RingLine index n k) h =
    let p = guard (are_parameters b.version n k) (cond (eqb index b.rings) None (Some Count)) Parameter h in
    ap not p.0
loses_fine b (StartLine s) h = let p = guard (list_all (λ v. nat_lt v b.k) s) None Range h in ap not p.0
loses_fine b (EventLine e) h = ap not (event_fine b.n (run_of b.events) (now b) (event_of e) h).0
loses_fine b (EndLine said) h = refl
loses_fine b (SurveyLine s) h = refl
loses_fine b (DoneLine said) h = refl

pub hidden_known : (b : Before) (l : Line) → is_hidden (known b) l ≡ false
hidden_known b (RingLine index n k) = refl
hidden_known b (StartLine s) = refl
hidden_known b (EventLine e) = refl
hidden_known b (EndLine said) = refl
hidden_known b (SurveyLine s) = refl
hidden_known b (DoneLine said) = refl

pub told_known : (b : Before) (l : Line) → told_of (known b) l ≡ told b.line (bad b l)
told_known b l = let h = hidden_known b l in ap (λ (x : Bool). cond x [] (told b.line (bad b l))) h

known_fine : (b : Before) (l : Line) → fault b l ≡ None → after_known (known b) l ≡ known (after_line b l)
known_fine b l h =
    let m = mended_fine b l h in
    ap (λ (x : Bool). let k : Known = record { lost = x || loses b l; before = mended b l } in k) (hidden_known b l)
    ∙ ap (λ (x : Bool). let k : Known = record { lost = x; before = mended b l } in k) (loses_fine b l h)
    ∙ ap (λ (x : Before). known x) m

first_is : (b : Before) (ls : List Line) → first_of (bad_among (known b) ls) ≡ first_fault b ls
first_is b [] = refl
first_is b (l ∷ ls) = go (fault b l) refl (first_is (after_line b l) ls)
  where
    go : (f : Option Kind) → fault b l ≡ f → first_of (bad_among (known (after_line b l)) ls) ≡ first_fault (after_line b l) ls →
        first_of (bad_among (known b) (l ∷ ls)) ≡ first_fault b (l ∷ ls)
    go None e more =
        let none : told_of (known b) l ≡ [] = told_known b l ∙ ap (λ (f : Option Kind). told b.line (bad_of f (wrong b l))) e in
        ap (λ (u : List BadLine). first_of (u ++ bad_among (after_known (known b) l) ls)) none
        ∙ ap (λ (k : Known). first_of (bad_among k ls)) (known_fine b l e)
        ∙ more
        ∙ ap (λ (f : Option Kind). or_behind f b.line (first_fault (after_line b l) ls)) (sym e)
    go (Some kind) e more =
        let one : told_of (known b) l ≡ told b.line (bad_of (Some kind) (wrong b l)) = told_known b l ∙ ap (λ (f : Option Kind). told b.line (bad_of f (wrong b l))) e in
        ap (λ (u : List BadLine). first_of (u ++ bad_among (after_known (known b) l) ls)) one
        ∙ ap (λ (f : Option Kind). or_behind f b.line (first_fault (after_line b l) ls)) (sym e)

first_none : (ls : List BadLine) → first_of ls ≡ None → ls ≡ []
first_none [] e = refl
first_none (x ∷ xs) e = absurd (cc)

first_some : (ls : List BadLine) (line : ℕ) (kind : Kind) → first_of ls ≡ Some (line, kind) → BeginsWith ls line kind
first_some [] line kind e = absurd (cc)
first_some (x ∷ xs) line kind e =
    let p : (x.line, x.bad.kind) ≡ (line, kind) = cc in
    (x, xs, refl, ap (λ (y : ℕ × Kind). y.0) p, ap (λ (y : ℕ × Kind). y.1) p)

pub none_legal : NoneIsLegal
none_legal s = (
  λ e. good_none (nothing s.version) (lines s) (sym (first_is (nothing s.version) (lines s)) ∙ ap first_of e),
  λ g. first_none (bad_lines s) (first_is (nothing s.version) (lines s) ∙ none_good (nothing s.version) (lines s) g),
)

pub first_first : FirstIsFirst
first_first s line kind f =
    first_some (bad_lines s) line kind (first_is (nothing s.version) (lines s) ∙ bad_found s.version (lines s) line kind f)
