-- The lines of a block.
use Rattle.std.proofs.Common.{◌≡◌, ℕ, ◌+◌, ◌<◌, ◌≤◌, List, [], ◌∷◌, ◌++◌, length, get_or, map, Bool, true, false, cond, Option, Some, None, Result, Ok, Err, refl, sym, ◌∙◌, ap, subst, arith, ◌&&◌, eqb, zero, suc, length-append}
use Rattle.std.specs.Prelude.{IsErr, IsErrAnd, nat_le, nat_lt}
use Rattle.std.specs.List.{list_all}
use Rattle.std.proofs.lemmas.List.{length-map}
use Rattle.ring_model.specs.Limits.{machine_limit, value_limit}
use Rattle.ring_model.specs.Ring.{ring_with, IsRing}
use Rattle.saved_history.specs.declared.saved.SavedEvent.{SavedEvent}
use Rattle.saved_history.specs.declared.saved.SavedSurvey.{SavedSurvey}
use Rattle.saved_history.specs.Versions.{first_version}
use Rattle.saved_history.specs.Content.{Block}
use Rattle.ring_check.specs.declared.answers.Kind.{Kind}
use Rattle.ring_check.specs.declared.answers.Kind.TheVariants.{Parameter, Range, Count}
use Rattle.ring_check.specs.declared.answers.CheckError.{CheckError}
use Rattle.ring_check.specs.declared.answers.CheckError.TheVariants.{Bad, OutOfMemory}
use Rattle.ring_check.specs.Limits.{first_version_machine_limit, first_version_value_limit, by_version, machine_limit_of, value_limit_of}
use Rattle.ring_check.specs.Lines.{Line, RingLine, StartLine, EventLine, EndLine, SurveyLine, block_lines}
use Rattle.ring_check.specs.Table.{Before, event_of, after_line, after_lines, are_parameters, end_fault}
use Rattle.ring_check.specs.Scan.{or_behind, first_fault, in_block, Finds}
use Rattle.ring_check.proofs.Booleans.{both, joined, below, at_most, eq_true, le_true}
use Rattle.ring_check.proofs.Scans.{or_else, fault_append, after_append}
use Rattle.ring_check.proofs.EventLines.{events_after}

pub below_at : (k : ℕ) (s : List ℕ) → list_all (λ v. nat_lt v k) s ≡ true → (i : ℕ) → i < length s → get_or s i 0 < k
below_at k [] e i l = absurd (omega arith)
below_at k (v ∷ s) e zero l = below v k (both (nat_lt v k) (list_all (λ v. nat_lt v k) s) e).0
below_at k (v ∷ s) e (suc i) l = let p = both (nat_lt v k) (list_all (λ v. nat_lt v k) s) e in below_at k s p.1 i (omega arith)

pub parameters_mean : (version n k : ℕ) → are_parameters version n k ≡ true → (2 ≤ n) × (n ≤ machine_limit_of version) × (n ≤ k) × (k ≤ value_limit_of version)
parameters_mean version n k e =
    let p = both (nat_le 2 n) (nat_le n (machine_limit_of version) && (nat_le n k && nat_le k (value_limit_of version))) e in
    let q = both (nat_le n (machine_limit_of version)) (nat_le n k && nat_le k (value_limit_of version)) p.1 in
    let r = both (nat_le n k) (nat_le k (value_limit_of version)) q.1 in
    (at_most 2 n p.0, at_most n (machine_limit_of version) q.0, at_most n k r.0, at_most k (value_limit_of version) r.1)

pub parameters_true : (version n k : ℕ) → 2 ≤ n → n ≤ machine_limit_of version → n ≤ k → k ≤ value_limit_of version → are_parameters version n k ≡ true
parameters_true version n k two few enough most =
    joined (nat_le 2 n) _ (le_true 2 n two)
    (joined (nat_le n (machine_limit_of version)) _ (le_true n (machine_limit_of version) few)
    (joined (nat_le n k) (nat_le k (value_limit_of version)) (le_true n k enough) (le_true k (value_limit_of version) most)))

-- the first version allows no more than the later ones
by_version_most : (version first later : ℕ) → first ≤ later → by_version version first later ≤ later
by_version_most version first later le = go (eqb version first_version)
  where
    go : (b : Bool) → cond b first later ≤ later
    go true = le
    go false = omega arith

pub machine_limit_most : (version : ℕ) → machine_limit_of version ≤ machine_limit
machine_limit_most version = by_version_most version first_version_machine_limit machine_limit (omega arith)

pub value_limit_most : (version : ℕ) → value_limit_of version ≤ value_limit
value_limit_most version = by_version_most version first_version_value_limit value_limit (omega arith)

pub ring_of : (version n k : ℕ) (s : List ℕ) → are_parameters version n k ≡ true → list_all (λ v. nat_lt v k) s ≡ true → length s ≡ n → IsRing (ring_with k s)
ring_of version n k s p b e =
    let q = parameters_mean version n k p in
    let two = q.0 in
    let enough = q.2 in
    record { two = omega arith; enough = omega arith; below = below_at k s b }

-- a block's lines after the start line
abbrev pub tail_lines : List SavedEvent → ℕ → List SavedSurvey → List Line
tail_lines es said ss = map EventLine es ++ (EndLine said ∷ map SurveyLine ss)

-- after the start line of a block
pub opens : (b : Before) (index n k : ℕ) (s : List ℕ) → after_line (after_line b (RingLine index n k)) (StartLine s) ≡ in_block b.version (b.line + 2) (b.rings + 1) n k s []
opens b index n k s = let e : b.line + 1 + 1 ≡ b.line + 2 = omega arith in ap (λ (x : ℕ). in_block b.version x (b.rings + 1) n k s []) e

pub tail_fault : (version line rings n k : ℕ) (s : List ℕ) (es : List SavedEvent) (said : ℕ) (ss : List SavedSurvey) →
    first_fault (in_block version line rings n k s []) (tail_lines es said ss)
    ≡ or_else (first_fault (in_block version line rings n k s []) (map EventLine es))
    (or_behind (end_fault said (map event_of es)) (line + length es) (first_fault (in_block version (line + length es + 1) rings n k s (map event_of es)) (map SurveyLine ss)))
tail_fault version line rings n k s es said ss =
    fault_append (in_block version line rings n k s []) (map EventLine es) (EndLine said ∷ map SurveyLine ss)
    ∙ ap (λ (x : Before). or_else (first_fault (in_block version line rings n k s []) (map EventLine es)) (first_fault x (EndLine said ∷ map SurveyLine ss))) (events_after version line rings n k s [] es)

-- the faults of a block
pub head_bad : (b : Before) (r : Block) → are_parameters b.version r.n r.k ≡ false → first_fault b (block_lines r) ≡ Some (b.line + 1, Parameter)
head_bad b r e = rw e refl

pub index_bad : (b : Before) (r : Block) → are_parameters b.version r.n r.k ≡ true → eqb r.index b.rings ≡ false → first_fault b (block_lines r) ≡ Some (b.line + 1, Count)
index_bad b r e f = rw (e, f) refl

pub start_bad : (b : Before) (r : Block) → are_parameters b.version r.n r.k ≡ true → eqb r.index b.rings ≡ true → list_all (λ v. nat_lt v r.k) r.start ≡ false →
    first_fault b (block_lines r) ≡ Some (b.line + 2, Range)
start_bad b r e f g = let p : b.line + 1 + 1 ≡ b.line + 2 = omega arith in rw (e, f, g, p) refl

pub tail_left : (b : Before) (r : Block) → are_parameters b.version r.n r.k ≡ true → eqb r.index b.rings ≡ true → list_all (λ v. nat_lt v r.k) r.start ≡ true →
    first_fault b (block_lines r) ≡ first_fault (in_block b.version (b.line + 2) (b.rings + 1) r.n r.k r.start []) (tail_lines r.events r.events_said r.surveys)
tail_left b r e f g = rw (e, f, g) (ap (λ (x : Before). first_fault x (tail_lines r.events r.events_said r.surveys)) (opens b r.index r.n r.k r.start))

pub finds_front : (X Y : Type 0) (f g : Option (ℕ × Kind)) (e : CheckError) → Finds {X = X} f (Err e) → Finds {X = Y} (or_else f g) (Err e)
finds_front X Y None None (Bad line kind) h = absurd h
finds_front X Y None (Some bad) (Bad line kind) h = absurd h
finds_front X Y (Some bad) g (Bad line kind) h = h
finds_front X Y None None OutOfMemory h = tt
finds_front X Y None (Some bad) OutOfMemory h = tt
finds_front X Y (Some bad) g OutOfMemory h = tt

pub finds_none : {X : Type 0} (f : Option (ℕ × Kind)) (x : X) → Finds f (Ok x) → f ≡ None
finds_none None x h = refl
finds_none (Some bad) x h = absurd h

-- the parts of a block whose first two lines are right
pub block_parts : (b : Before) (r : Block) (line place : ℕ) → b.line ≡ line → b.rings ≡ place → are_parameters b.version r.n r.k ≡ true → r.index ≡ place →
    list_all (λ v. nat_lt v r.k) r.start ≡ true → length r.start ≡ r.n →
    first_fault b (block_lines r)
    ≡ or_else (first_fault (in_block b.version (line + 2) (place + 1) (length r.start) r.k r.start []) (map EventLine r.events))
    (or_behind (end_fault r.events_said (map event_of r.events)) (line + 2 + length r.events)
    (first_fault (in_block b.version (line + 3 + length r.events) (place + 1) (length r.start) r.k r.start (map event_of r.events)) (map SurveyLine r.surveys)))
block_parts b r line place p q e f g n =
    let i : eqb r.index b.rings ≡ true = eq_true r.index b.rings (f ∙ sym q) in
    let m : line + 2 + length r.events + 1 ≡ line + 3 + length r.events = omega arith in
    let at : in_block b.version (b.line + 2) (b.rings + 1) r.n r.k r.start [] ≡ in_block b.version (line + 2) (place + 1) (length r.start) r.k r.start [] = rw (p, q, n) refl in
    tail_left b r e i g
    ∙ ap (λ (x : Before). first_fault x (tail_lines r.events r.events_said r.surveys)) at
    ∙ tail_fault b.version (line + 2) (place + 1) (length r.start) r.k r.start r.events r.events_said r.surveys
    ∙ ap (λ (x : ℕ). or_else (first_fault (in_block b.version (line + 2) (place + 1) (length r.start) r.k r.start []) (map EventLine r.events))
    (or_behind (end_fault r.events_said (map event_of r.events)) (line + 2 + length r.events)
    (first_fault (in_block b.version x (place + 1) (length r.start) r.k r.start (map event_of r.events)) (map SurveyLine r.surveys)))) m

module _ (b : Before) (r : Block) (line place : ℕ) (p : b.line ≡ line) (q : b.rings ≡ place) (e : are_parameters b.version r.n r.k ≡ true) (f : r.index ≡ place)
    (g : list_all (λ v. nat_lt v r.k) r.start ≡ true) (n : length r.start ≡ r.n) where
  pub events_stop : (X Y : Type 0) (error : CheckError) →
      Finds {X = X} (first_fault (in_block b.version (line + 2) (place + 1) (length r.start) r.k r.start []) (map EventLine r.events)) (Err error) →
      Finds {X = Y} (first_fault b (block_lines r)) (Err error)
  events_stop X Y error h = rw (block_parts b r line place p q e f g n) (finds_front X Y _ _ error h)

  pub end_stop : (kind : Kind) (u : Unit {0}) → Finds (first_fault (in_block b.version (line + 2) (place + 1) (length r.start) r.k r.start []) (map EventLine r.events)) (Ok u) →
      end_fault r.events_said (map event_of r.events) ≡ Some kind → first_fault b (block_lines r) ≡ Some (line + 3 + length r.events, kind)
  end_stop kind u h w =
      let m : line + 2 + length r.events + 1 ≡ line + 3 + length r.events = omega arith in
      let none = finds_none (first_fault (in_block b.version (line + 2) (place + 1) (length r.start) r.k r.start []) (map EventLine r.events)) u h in
      block_parts b r line place p q e f g n ∙ rw (none, w, m) refl

  pub surveys_stop : (u : Unit {0}) → Finds (first_fault (in_block b.version (line + 2) (place + 1) (length r.start) r.k r.start []) (map EventLine r.events)) (Ok u) →
      end_fault r.events_said (map event_of r.events) ≡ None → first_fault b (block_lines r)
      ≡ first_fault (in_block b.version (line + 3 + length r.events) (place + 1) (length r.start) r.k r.start (map event_of r.events)) (map SurveyLine r.surveys)
  surveys_stop u h w =
      let none = finds_none (first_fault (in_block b.version (line + 2) (place + 1) (length r.start) r.k r.start []) (map EventLine r.events)) u h in
      block_parts b r line place p q e f g n ∙ rw (none, w) refl

-- the state after a block's lines
pub survey_lines_leave : (b : Before) (ss : List SavedSurvey) → ((after_lines b (map SurveyLine ss)).line ≡ b.line + length ss) × ((after_lines b (map SurveyLine ss)).rings ≡ b.rings)
survey_lines_leave b [] = (omega arith, refl)
survey_lines_leave b (s ∷ ss) = let h = survey_lines_leave (after_line b (SurveyLine s)) ss in let x = h.0 in let y = h.1 in (omega arith, y)

pub block_leaves : (b : Before) (r : Block) → ((after_lines b (block_lines r)).line ≡ b.line + (3 + length r.events + length r.surveys)) × ((after_lines b (block_lines r)).rings ≡ b.rings + 1)
block_leaves b r =
    let start = in_block b.version (b.line + 2) (b.rings + 1) r.n r.k r.start [] in
    let behind = in_block b.version (b.line + 2 + length r.events) (b.rings + 1) r.n r.k r.start (map event_of r.events) in
    let one : after_lines b (block_lines r) ≡ after_lines start (tail_lines r.events r.events_said r.surveys) =
    ap (λ (x : Before). after_lines x (tail_lines r.events r.events_said r.surveys)) (opens b r.index r.n r.k r.start) in
    let two : after_lines start (tail_lines r.events r.events_said r.surveys) ≡ after_lines (after_line behind (EndLine r.events_said)) (map SurveyLine r.surveys) =
    after_append start (map EventLine r.events) (EndLine r.events_said ∷ map SurveyLine r.surveys)
    ∙ ap (λ (x : Before). after_lines x (EndLine r.events_said ∷ map SurveyLine r.surveys)) (events_after b.version (b.line + 2) (b.rings + 1) r.n r.k r.start [] r.events) in
    let end = survey_lines_leave (after_line behind (EndLine r.events_said)) r.surveys in
    let x = end.0 in
    let y = end.1 in
    let l : (after_lines b (block_lines r)).line ≡ (after_lines (after_line behind (EndLine r.events_said)) (map SurveyLine r.surveys)).line = ap (λ (x : Before). x.line) (one ∙ two) in
    (omega arith, ap (λ (x : Before). x.rings) (one ∙ two) ∙ y)

pub block_long : (r : Block) → length (block_lines r) ≡ 3 + length r.events + length r.surveys
block_long r =
    let e = length-map r.events EventLine in
    let s = length-map r.surveys SurveyLine in
    let a = length-append (map EventLine r.events) (EndLine r.events_said ∷ map SurveyLine r.surveys) in
    omega arith

pub finds_at : (X : Type 0) (f : Option (ℕ × Kind)) (line at : ℕ) (kind : Kind) → f ≡ Some (at, kind) → line ≡ at → Finds {X = X} f (Err (Bad line kind))
finds_at X f line at kind e l = rw e (l, refl)

pub finds_as : (X : Type 0) (f g : Option (ℕ × Kind)) (r : Result X CheckError) → f ≡ g → Finds g r → Finds f r
finds_as X f g r e h = subst (λ (x : Option (ℕ × Kind)). Finds x r) (sym e) h

-- an error that `?` hands on
pub handed_on : {X : Type 0} (r : Result X CheckError) (e : CheckError) → IsErr r × IsErrAnd r (λ x. x ≡ e) → r ≡ Err e
handed_on (Ok x) e h = absurd h.1
handed_on (Err x) e h = ap Err h.1

pub finds_handed_on : {X : Type 0} (f : Option (ℕ × Kind)) (r : Result X CheckError) (e : CheckError) → IsErr r × IsErrAnd r (λ x. x ≡ e) → Finds {X = X} f (Err e) → Finds f r
finds_handed_on {X = X} f r e h g = subst (λ (x : Result X CheckError). Finds f x) (sym (handed_on r e h)) g
