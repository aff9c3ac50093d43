-- The judge accepts the beginning of each file, and the lines of all inputs.
use Rattle.std.proofs.Common.{◌≡◌, ℕ, zero, suc, ◌<◌, Bool, true, false, List, [], ◌∷◌, ◌++◌, length, Option, None, Some, inl, inr, refl, sym, ◌∙◌, ap, subst, arith, ◌+◌, ◌≤◌, ◌-◌, map}
use Rattle.std.specs.Prelude.{if◌then◌else◌, option_map, slice_get, nat_le, nat_lt, is_some, ◌==◌, ◌&&◌}
use Rattle.std.specs.Str.{bytes_eq}
use Rattle.std.proofs.lemmas.Bool.{false≢true, cases_Bool, ltb-true, ltb-false, eq-eqb, cases_eq, le-ltb, le-leb, lt-leb, and_from, and_right}
use Rattle.std.proofs.lemmas.List.{length-map, length-append, map-append, append-nil}
use Rattle.std.proofs.lemmas.Option.{slice_get_within}
use Rattle.ring_model.specs.History.{State}
use Rattle.held_locks.specs.declared.answers.Holder.{Holder}
use Rattle.held_locks.specs.Queues.{Lock}
use Rattle.held_locks.specs.Locks.{Ask, Acquire, Try, Release, Cancel, Leave, Corrupt, Stats, restarted}
use Rattle.lock_names.specs.Names.{Named, NamedInput, Of, Again, More, step_named, named_after, grown, given, at_none, at_name, free_lock, restarted_named}
use Rattle.lock_names.specs.Promises.{IsNamed, IsAllowed}
use Rattle.lock_names.proofs.Fitting.{zeroth, named_step}
use Rattle.name_check.specs.declared.lines.Ring.{Ring}
use Rattle.name_check.specs.Entries.{Top, Bind, File, Judged, is_held, fresh_ring, fresh_rings}
use Rattle.name_check.specs.Judged.{most_grants, AreSaid, same_bound, refused_bind, refused_again, of_ring, refusal, first_held, restated, noted}
use Rattle.name_check.proofs.Scanning.{scan_found, scan_none}
use Rattle.name_check.proofs.Sounding.{set_same}
use Rattle.name_check.proofs.Accepting.{state, nothing_said, said_first, said_both}
use Rattle.name_bindings.proofs.Found.{own_name, some_same, none_some, there_is}
use Rattle.name_bindings.specs.Bindings.{Bound, found, free, frees}
use Rattle.name_laws.proofs.Saying.{said_asked}
use Rattle.name_laws.specs.Written.{token_of, ring_seen, state_seen, restated_lines, file_lines, lines_of, lines_after, AreFresh, LinesAreSaid, FilesAreSaid}
use Rattle.name_check.specs.declared.wrongs.Wrong.TheVariants as why
use Rattle.name_check.specs.declared.lines.Due.TheVariants as due

-- ---- bindings that are restated

-- a ring that is not held is passed over
same_test : (low at : ℕ) (g : Ring) → (at ≡ low → is_held g ≡ false) → (nat_le low at && is_held g) ≡ (nat_le (suc low) at && is_held g)
same_test low at g idle = elim (cases_eq at low) [
  | inl e ↦ and_right (nat_le low at) (is_held g) (idle e) ∙ sym (and_right (nat_le (suc low) at) (is_held g) (idle e))
  | inr n ↦ ap (λ (q : Bool). q && is_held g) (apart low at n)
]
  where
    apart : (low at : ℕ) → (at ≡ low → ⊥) → nat_le low at ≡ nat_le (suc low) at
    apart low at n = elim (cases_Bool (nat_lt at low)) [
      | inl q ↦ let lt : at < low = ltb-true at low q in lt-leb low at lt ∙ sym (lt-leb (suc low) at (omega arith))
      | inr q ↦ let le : low ≤ at = ltb-false at low q in le-leb low at le ∙ sym (le-leb (suc low) at (omega (arith, n)))
    ]

passed_over : (low at : ℕ) (gs : List Ring) → ((j : ℕ) (g : Ring) → slice_get gs j ≡ Some g → at + j ≡ low → is_held g ≡ false) → first_held low at gs ≡ first_held (suc low) at gs
passed_over low at [] idle = refl
passed_over low at (g ∷ gs) idle =
    ap (λ (q : Bool). if q then Some at else first_held low (suc at) gs) (same_test low at g (λ e. idle zero g refl (omega (arith, e))))
    ∙ ap (λ (o : Option ℕ). if nat_le (suc low) at && is_held g then Some at else o) (passed_over low (suc at) gs (λ j k f e. idle (suc j) k f (omega (arith, e))))

-- a ring of the pool has a name just while it is held, and a fixed lock has one
record IsPool (rings : List Ring) (names : List (Option Bound)) (fixed : ℕ) : Type 0 where
  many : length names ≡ length rings
  held : (i : ℕ) (g : Ring) (b : Bound) → fixed ≤ i → slice_get rings i ≡ Some g → slice_get names i ≡ Some (Some b) → is_held g ≡ true
  idle : (i : ℕ) (g : Ring) → slice_get rings i ≡ Some g → slice_get names i ≡ Some None → (fixed ≤ i) × (is_held g ≡ false)

-- the first ring of which a binding may be due
data IsLow (fixed k low : ℕ) : Type 0 where
  Fixed : low ≡ fixed → k ≤ fixed → IsLow fixed k low
  Pool : low ≡ k → fixed ≤ k → IsLow fixed k low

low_there : (fixed k low : ℕ) → IsLow fixed k low → fixed ≤ k → low ≡ k
low_there fixed k low (Fixed e le) more = omega arith
low_there fixed k low (Pool e le) more = e

low_here : (fixed k low : ℕ) → IsLow fixed k low → k < fixed → IsLow fixed (suc k) low
low_here fixed k low (Fixed e le) lt = Fixed e (omega (arith, lt))
low_here fixed k low (Pool e le) lt = absurd (omega (arith, lt, le))

low_least : (fixed k low : ℕ) → IsLow fixed k low → k ≤ low
low_least fixed k low (Fixed e le) = omega arith
low_least fixed k low (Pool e le) = omega arith

same_self : (b : Bound) → same_bound b b ≡ true
same_self b = and_from (bytes_eq b.name b.name) ((b.before == b.before) && (b.floor == b.floor)) (own_name b.name b.name refl) (and_from (b.before == b.before) (b.floor == b.floor) (eq-eqb b.before b.before refl) (eq-eqb b.floor b.floor refl))

again_ok : (q r : Bool) → q ≡ true → r ≡ true → (if q then (if r then None else Some why.OtherBinding) else Some why.NotRestated) ≡ None
again_ok true true a b = refl
again_ok true false a b = absurd (false≢true b)
again_ok false r a b = absurd (false≢true a)

may_restate : (rings : List Ring) (names : List (Option Bound)) (fixed top k : ℕ) (b : Bound) (g : Ring) → slice_get rings k ≡ Some g → slice_get names k ≡ Some (Some b) → refusal (state rings names fixed top (due.Restated k)) (Bind k b) ≡ None
may_restate rings names fixed top k b g there entry =
    ap (λ (o : Option Ring). of_ring (refused_bind (due.Restated k) (state rings names fixed top (due.Restated k)) k b) o) there
    ∙ ap (λ (o : Option (Option Bound)). if k == k then refused_again (state rings names fixed top (due.Restated k)) b g o else Some why.NotRestated) entry
    ∙ again_ok (k == k) (same_bound b b) (eq-eqb k k refl) (same_self b)

-- what is left of the names
abbrev IsRest : List (Option Bound) → ℕ → List (Option Bound) → Type 0
IsRest names k os = (j : ℕ) → slice_get names (k + j) ≡ slice_get os j

rest_on : (names : List (Option Bound)) (k : ℕ) (o : Option Bound) (os : List (Option Bound)) → IsRest names k (o ∷ os) → IsRest names (suc k) os
rest_on names k o os r j = ap (λ (n : ℕ). slice_get names n) (further k j) ∙ r (suc j)
  where
    further : (k j : ℕ) → suc k + j ≡ k + suc j
    further k j = omega arith

rest_here : (names : List (Option Bound)) (k : ℕ) (o : Option Bound) (os : List (Option Bound)) → IsRest names k (o ∷ os) → slice_get names k ≡ Some o
rest_here names k o os r = ap (λ (n : ℕ). slice_get names n) (same k) ∙ r 0
  where
    same : (k : ℕ) → k ≡ k + 0
    same k = omega arith

no_rest : (names : List (Option Bound)) (k : ℕ) → IsRest names k [] → length names ≤ k
no_rest names k r = elim (cases_Bool (nat_lt k (length names))) [
  | inl q ↦ let w = there_is names k (ltb-true k (length names) q) in absurd (none_some w.0 (sym (ap (λ (n : ℕ). slice_get names n) (same k) ∙ r 0) ∙ w.1))
  | inr q ↦ ltb-false k (length names) q
]
  where
    same : (k : ℕ) → k ≡ k + 0
    same k = omega arith

ring_there : (rings : List Ring) (names : List (Option Bound)) (k : ℕ) (o : Option Bound) → length names ≡ length rings → slice_get names k ≡ Some o → (g : Ring) × (slice_get rings k ≡ Some g)
ring_there rings names k o many e = there_is rings k (let lt : k < length names = slice_get_within names k o e in omega arith)

zero_on : (j k : ℕ) → 0 + j ≡ k → j ≡ k
zero_on j k e = omega (arith, e)

restates : (rings : List Ring) (names : List (Option Bound)) (fixed top : ℕ) → IsPool rings names fixed → (os : List (Option Bound)) (k low : ℕ) → IsRest names k os → IsLow fixed k low →
    AreSaid (state rings names fixed top (restated (first_held low 0 rings))) (restated_lines fixed k os) (state rings names fixed top due.Nothing)
restates rings names fixed top p [] k low r w =
    let past : length names ≤ k = no_rest names k r in
    let many : length names ≡ length rings = p.many in
    let least : k ≤ low = low_least fixed k low w in
    let none : first_held low 0 rings ≡ None = scan_none low (length rings) rings (λ i g e. slice_get_within rings i g e) (λ i g le lt e. absurd (omega (arith, le, lt))) (first_held low 0 rings) refl in
    nothing_said (state rings names fixed top (restated (first_held low 0 rings))) (state rings names fixed top due.Nothing) (ap (λ (o : Option ℕ). state rings names fixed top (restated o)) none)
restates rings names fixed top p (None ∷ os) k low r w =
    let entry = rest_here names k None os r in
    let g = ring_there rings names k None p.many entry in
    let idle = p.idle k g.0 g.1 entry in
    let at : low ≡ k = low_there fixed k low w idle.0 in
    let next : first_held low 0 rings ≡ first_held (suc k) 0 rings =
    ap (λ (n : ℕ). first_held n 0 rings) at
    ∙ passed_over k 0 rings (λ j x f e. ap (λ (y : Ring). is_held y) (some_same x g.0 (sym f ∙ ap (λ (n : ℕ). slice_get rings n) (zero_on j k e) ∙ g.1)) ∙ idle.1) in
    subst (λ (o : Option ℕ). AreSaid (state rings names fixed top (restated o)) (restated_lines fixed (suc k) os) (state rings names fixed top due.Nothing)) (sym next)
    (restates rings names fixed top p os (suc k) (suc k) (rest_on names k None os r) (Pool refl (let le : fixed ≤ k = idle.0 in omega arith)))
restates rings names fixed top p (Some b ∷ os) k low r w = elim (cases_Bool (nat_lt k fixed)) [
  | inl q ↦
      subst (λ (x : Bool). AreSaid (state rings names fixed top (restated (first_held low 0 rings))) (if x then restated_lines fixed (suc k) os else (Bind k b ∷ restated_lines fixed (suc k) os)) (state rings names fixed top due.Nothing)) (sym q)
      (restates rings names fixed top p os (suc k) low (rest_on names k (Some b) os r) (low_here fixed k low w (ltb-true k fixed q)))
  | inr q ↦
      let le : fixed ≤ k = ltb-false k fixed q in
      let entry = rest_here names k (Some b) os r in
      let g = ring_there rings names k (Some b) p.many entry in
      let held : is_held g.0 ≡ true = p.held k g.0 b le g.1 entry in
      let at : low ≡ k = low_there fixed k low w le in
      let found_it : first_held low 0 rings ≡ Some k = ap (λ (n : ℕ). first_held n 0 rings) at ∙ scan_found k k rings g.0 g.1 held (omega arith) (λ i x from to e. absurd (omega (arith, from, to))) in
      subst (λ (x : Bool). AreSaid (state rings names fixed top (restated (first_held low 0 rings))) (if x then restated_lines fixed (suc k) os else (Bind k b ∷ restated_lines fixed (suc k) os)) (state rings names fixed top due.Nothing)) (sym q)
      (subst (λ (o : Option ℕ). AreSaid (state rings names fixed top (restated o)) (Bind k b ∷ restated_lines fixed (suc k) os) (state rings names fixed top due.Nothing)) (sym found_it)
      (said_first (state rings names fixed top (due.Restated k)) (state rings names fixed top (restated (first_held (suc k) 0 rings))) (state rings names fixed top due.Nothing) (Bind k b) (restated_lines fixed (suc k) os)
      (may_restate rings names fixed top k b g.0 g.1 entry)
      (ap (λ (ns : List (Option Bound)). state rings ns fixed top (restated (first_held (suc k) 0 rings))) (set_same names k (Some b) entry))
      (restates rings names fixed top p os (suc k) (suc k) (rest_on names k (Some b) os r) (Pool refl (omega arith)))))
]

-- ---- a file

was_seen : (ls : List Lock) (i : ℕ) (g : Ring) → slice_get (map ring_seen ls) i ≡ Some g → (l : Lock) × (slice_get ls i ≡ Some l) × (ring_seen l ≡ g)
was_seen [] i g e = absurd (none_some g e)
was_seen (l ∷ ls) zero g e = (l, refl, some_same (ring_seen l) g e)
was_seen (l ∷ ls) (suc i) g e = was_seen ls i g e

some_token : (o : Option Holder) → is_some (token_of o) ≡ is_some o
some_token None = refl
some_token (Some h) = refl

pool_of : (s : Named) → IsNamed s → IsPool (map ring_seen s.locks) s.names s.fixed
pool_of s n = record {
  many = n.many ∙ sym (length-map s.locks ring_seen);
  held = λ i g b le e f. let w = was_seen s.locks i g e in sym (ap (λ (x : Ring). is_held x) w.2) ∙ some_token w.0.holder ∙ (n.each i w.0 (Some b) w.1 f).1 le;
  idle = λ i g e f.
      let w = was_seen s.locks i g e in
      let r = n.each i w.0 None w.1 f in
      (r.0, sym (ap (λ (x : Ring). is_held x) w.2) ∙ ap (λ (o : Option Holder). is_some (token_of o)) r.1);
}

may_file : (count n : ℕ) → count ≤ n → (if nat_lt n count then Some why.FewerRings else None) ≡ None
may_file count n le = ap (λ (q : Bool). if q then Some why.FewerRings else None) (le-ltb n count le)

may_top : (top : ℕ) → (if top == top then None else Some why.WrongTop) ≡ None
may_top top = ap (λ (q : Bool). if q then None else Some why.WrongTop) (eq-eqb top top refl)

low_zero : (fixed : ℕ) → IsLow fixed 0 fixed
low_zero fixed = Fixed refl (omega arith)

-- a file with the rings of this state begins after that one
file_said : (s t : Named) → IsNamed t → length s.locks ≤ length t.locks → noted (state_seen s) (File (length t.locks)) ≡ state (map ring_seen t.locks) t.names t.fixed t.top due.Top → AreSaid (state_seen s) (file_lines t) (state_seen t)
file_said s t n le e =
    let rings : List Ring = map ring_seen t.locks in
    let m = state rings t.names t.fixed t.top due.Top in
    let k = state rings t.names t.fixed t.top (restated (first_held t.fixed 0 rings)) in
    let many : length (map ring_seen s.locks) ≡ length s.locks = length-map s.locks ring_seen in
    said_first (state_seen s) m (state_seen t) (File (length t.locks)) (Top t.top ∷ restated_lines t.fixed 0 t.names) (may_file (length (map ring_seen s.locks)) (length t.locks) (omega arith)) e
    (said_first m k (state_seen t) (Top t.top) (restated_lines t.fixed 0 t.names) (may_top t.top) refl
    (restates rings t.names t.fixed t.top (pool_of t n) t.names 0 t.fixed (λ j. ap (λ (i : ℕ). slice_get t.names i) (from j)) (low_zero t.fixed)))
  where
    from : (j : ℕ) → 0 + j ≡ j
    from j = omega arith

-- the same rings
nothing_more : (s : Named) → noted (state_seen s) (File (length s.locks)) ≡ state (map ring_seen s.locks) s.names s.fixed s.top due.Top
nothing_more s =
    let many : length (map ring_seen s.locks) ≡ length s.locks = length-map s.locks ring_seen in
    let none : length s.locks - length (map ring_seen s.locks) ≡ 0 = omega arith in
    ap (λ (n : ℕ). state (map ring_seen s.locks ++ fresh_rings n) (s.names ++ frees n) s.fixed s.top due.Top) none
    ∙ ap (λ (gs : List Ring). state gs (s.names ++ []) s.fixed s.top due.Top) (append-nil (map ring_seen s.locks))
    ∙ ap (λ (os : List (Option Bound)). state (map ring_seen s.locks) os s.fixed s.top due.Top) (append-nil s.names)

pub files_are_said : FilesAreSaid
files_are_said s n = file_said s s n (omega arith) (nothing_more s)

still_held : (o : Option Holder) → token_of (option_map zeroth o) ≡ token_of o
still_held None = refl
still_held (Some h) = refl

seen_restarted : (ls : List Lock) → map ring_seen (map restarted ls) ≡ map ring_seen ls
seen_restarted [] = refl
seen_restarted (l ∷ ls) =
    ap (λ (q : Option ℕ). record { grants = l.ring.grants; held = q } ∷ map ring_seen (map restarted ls)) (still_held l.holder)
    ∙ ap (λ (gs : List Ring). ring_seen l ∷ gs) (seen_restarted ls)

said_again : (s : Named) → IsNamed s → AreSaid (state_seen s) (file_lines s) (state_seen (restarted_named s))
said_again s n = subst (λ (x : Judged). AreSaid (state_seen s) (file_lines s) x) (sym (ap (λ (gs : List Ring). state gs s.names s.fixed s.top due.Nothing) (seen_restarted s.locks))) (files_are_said s n)

-- a ring more
one_ring : (s : Named) (a : State ℕ) → a.grants ≡ 0 → noted (state_seen s) (File (length (grown s a).locks)) ≡ state (map ring_seen (grown s a).locks) (grown s a).names s.fixed (grown s a).top due.Top
one_ring s a none =
    let many : length (map ring_seen s.locks) ≡ length s.locks = length-map s.locks ring_seen in
    let more : length (s.locks ++ free_lock a ∷ []) ≡ length s.locks + 1 = length-append s.locks (free_lock a ∷ []) in
    let one : length (s.locks ++ free_lock a ∷ []) - length (map ring_seen s.locks) ≡ suc zero = omega arith in
    let top : s.top ≡ s.top + a.grants = omega arith in
    let rings : map ring_seen s.locks ++ fresh_ring ∷ [] ≡ map ring_seen (s.locks ++ free_lock a ∷ []) =
    ap (λ (n : ℕ). map ring_seen s.locks ++ record { grants = n; held = None } ∷ []) (sym none) ∙ sym (map-append ring_seen s.locks (free_lock a ∷ [])) in
    ap (λ (n : ℕ). state (map ring_seen s.locks ++ fresh_rings n) (s.names ++ frees n) s.fixed s.top due.Top) one
    ∙ ap (λ (gs : List Ring). state gs (s.names ++ None ∷ []) s.fixed s.top due.Top) rings
    ∙ ap (λ (n : ℕ). state (map ring_seen (s.locks ++ free_lock a ∷ [])) (s.names ++ None ∷ []) s.fixed n due.Top) top

said_more : (s : Named) (a : State ℕ) → IsNamed s → IsAllowed s (More a) → a.grants ≡ 0 → AreSaid (state_seen s) (file_lines (grown s a)) (state_seen (grown s a))
said_more s a n w none =
    let more : length (s.locks ++ free_lock a ∷ []) ≡ length s.locks + 1 = length-append s.locks (free_lock a ∷ []) in
    file_said s (grown s a) (named_step s (More a) n w) (omega arith) (one_ring s a none)

-- ---- all inputs

top_given : (s : Named) (c : ℕ) (x : List ℕ) (ask : Ask) (o : Option ℕ) → s.top ≤ (given s c x ask o).named.top
top_given s c x ask None = omega arith
top_given s c x ask (Some i) = omega arith

top_none : (s : Named) (c : ℕ) (x : List ℕ) (ask : Ask) → s.top ≤ (at_none s c x ask).named.top
top_none s c x (Acquire label) = top_given s c x (Acquire label) (free s.names)
top_none s c x (Try label) = top_given s c x (Try label) (free s.names)
top_none s c x (Release token) = omega arith
top_none s c x Cancel = omega arith
top_none s c x Leave = omega arith
top_none s c x (Corrupt i v) = omega arith
top_none s c x Stats = omega arith

top_name : (s : Named) (c : ℕ) (x : List ℕ) (ask : Ask) (o : Option (ℕ × Bound)) → s.top ≤ (at_name s c x ask o).named.top
top_name s c x ask None = top_none s c x ask
top_name s c x ask (Some p) = omega arith

top_step : (s : Named) (i : NamedInput) → s.top ≤ (step_named s i).named.top
top_step s (Of c x ask) = top_name s c x ask (found x s.names)
top_step s Again = omega arith
top_step s (More a) = omega arith

top_all : (s : Named) (is : List NamedInput) → s.top ≤ (named_after s is).top
top_all s [] = omega arith
top_all s (i ∷ is) =
    let one : s.top ≤ (step_named s i).named.top = top_step s i in
    let all : (step_named s i).named.top ≤ (named_after (step_named s i).named is).top = top_all (step_named s i).named is in
    omega arith

fresh_on : (i : NamedInput) (is : List NamedInput) → AreFresh (i ∷ is) → AreFresh is
fresh_on (Of c x ask) is f = f
fresh_on Again is f = f
fresh_on (More a) is f = f.1

said_step : (s : Named) (i : NamedInput) (is : List NamedInput) → IsNamed s → IsAllowed s i → AreFresh (i ∷ is) → (step_named s i).named.top ≤ most_grants → AreSaid (state_seen s) (lines_of s i) (state_seen (step_named s i).named)
said_step s (Of c x ask) is n w f le = said_asked s c x ask (found x s.names) n refl le
said_step s Again is n w f le = said_again s n
said_step s (More a) is n w f le = said_more s a n w f.0

pub lines_are_said : LinesAreSaid
lines_are_said s [] n w f le = nothing_said (state_seen s) (state_seen s) refl
lines_are_said s (i ∷ is) n w f le =
    let t : Named = (step_named s i).named in
    let all : t.top ≤ (named_after t is).top = top_all t is in
    let few : (named_after t is).top ≤ most_grants = le in
    said_both (state_seen s) (state_seen t) (state_seen (named_after t is)) (lines_of s i) (lines_after t is)
    (said_step s i is n w.0 f (under t.top (named_after t is).top most_grants all few))
    (lines_are_said t is (named_step s i n w.0) w.1 (fresh_on i is f) le)
  where
    under : (x y z : ℕ) → x ≤ y → y ≤ z → x ≤ z
    under x y z a b = omega arith
