-- Lines that the judge accepts, one after the other.
use Rattle.std.proofs.Common.{◌≡◌, ℕ, zero, suc, ◌+◌, ◌<◌, ◌≤◌, Bool, true, false, List, [], ◌∷◌, ◌++◌, Option, None, Some, refl, sym, ◌∙◌, ap, subst}
use Rattle.std.specs.Prelude.{nat_lt, ◌==◌, if◌then◌else◌, slice_get, slice_set, option_map}
use Rattle.std.proofs.lemmas.Bool.{false≢true, lt-leb, lt-ltb, le-ltb, ltb-true, eq-eqb}
use Rattle.name_bindings.proofs.Places.{get_set_same}
use Rattle.name_bindings.specs.Bindings.{Bound, found, ring_of}
use Rattle.name_check.specs.declared.lines.Ring.{Ring}
use Rattle.name_check.specs.declared.lines.Due.{Due}
use Rattle.name_check.specs.declared.lines.Due.TheVariants as due
use Rattle.name_check.specs.declared.wrongs.Wrong.{Wrong}
use Rattle.name_check.specs.declared.wrongs.Wrong.TheVariants as why
use Rattle.name_check.specs.Entries.{Entry, Bind, Free, Grant, Repair, End, Judged, is_held}
use Rattle.name_check.specs.Judged.{spent, most_grants, taken, refused_bind, refused_free, refused_grant, refused_repair, refused_end, of_ring, refusal, passed, repaired, ended, noted, noted_all, AreRight, AreSaid}

abbrev pub state : List Ring → List (Option Bound) → ℕ → ℕ → Due → Judged
state rings names fixed top d = record { rings = rings; names = names; fixed = fixed; top = top; due = d }

-- ---- lists

pub nothing_said : (s t : Judged) → s ≡ t → AreSaid s [] t
nothing_said s t e = record { right = tt; now = e }

pub said_first : (s t u : Judged) (e : Entry) (es : List Entry) → refusal s e ≡ None → noted s e ≡ t → AreSaid t es u → AreSaid s (e ∷ es) u
said_first s t u e es r n w = record {
  right = (r, subst (λ (x : Judged). AreRight x es) (sym n) w.right);
  now = ap (λ (x : Judged). noted_all x es) n ∙ w.now;
}

pub said_both : (s t u : Judged) (es fs : List Entry) → AreSaid s es t → AreSaid t fs u → AreSaid s (es ++ fs) u
said_both s t u [] fs w v = subst (λ (x : Judged). AreSaid x fs u) (sym w.now) v
said_both s t u (e ∷ es) fs w v =
    let rest = said_both (noted s e) t u es fs (record { right = w.right.1; now = w.now }) v in
    record { right = (w.right.0, rest.right); now = rest.now }

pub set_twice : {X : Type 0} (xs : List X) (i : ℕ) (x y : X) → slice_set (slice_set xs i x) i y ≡ slice_set xs i y
set_twice [] i x y = refl
set_twice (z ∷ xs) zero x y = refl
set_twice {X} (z ∷ xs) (suc i) x y = ap (λ (zs : List X). z ∷ zs) (set_twice xs i x y)

-- ---- one line

pub not_spent : (top : ℕ) → top < most_grants → spent top ≡ None
not_spent top lt = ap (λ (q : Bool). if q then Some why.Full else None) (lt-leb most_grants top lt)

pub noted_grant : (rings : List Ring) (names : List (Option Bound)) (fixed top i : ℕ) (d : Due) (g : Ring) → slice_get rings i ≡ Some g →
    noted (state rings names fixed top d) (Grant i) ≡ state (slice_set rings i (record { grants = g.grants + 1; held = Some (g.grants + 1) })) names fixed (top + 1) due.Nothing
noted_grant rings names fixed top i d g there = ap (λ (o : Option Ring). state (passed o i rings) names fixed (top + 1) due.Nothing) there

fixed_ok : (h q : Bool) (o : Option Wrong) → h ≡ false → q ≡ true → o ≡ None → (if h then Some why.GrantedTwice else if q then o else Some why.NoName) ≡ None
fixed_ok true q o a b e = absurd (false≢true (sym a))
fixed_ok false false o a b e = absurd (false≢true b)
fixed_ok false true o a b e = e

-- a fixed lock that is free
pub may_grant_fixed : (rings : List Ring) (names : List (Option Bound)) (fixed top i : ℕ) (g : Ring) → slice_get rings i ≡ Some g → is_held g ≡ false → i < fixed → top < most_grants →
    refusal (state rings names fixed top due.Nothing) (Grant i) ≡ None
may_grant_fixed rings names fixed top i g there idle lt few =
    ap (λ (o : Option Ring). of_ring (refused_grant due.Nothing fixed top i) o) there
    ∙ fixed_ok (is_held g) (nat_lt i fixed) (spent top) idle (lt-ltb i fixed lt) (not_spent top few)

if_same : (q : Bool) (w : Wrong) (o : Option Wrong) → q ≡ true → o ≡ None → (if q then o else Some w) ≡ None
if_same true w o a e = e
if_same false w o a e = absurd (false≢true a)

-- a ring that was bound, or whose hold ended
pub may_grant_bound : (rings : List Ring) (names : List (Option Bound)) (fixed top i : ℕ) (g : Ring) → slice_get rings i ≡ Some g → top < most_grants → refusal (state rings names fixed top (due.Granted i)) (Grant i) ≡ None
may_grant_bound rings names fixed top i g there few =
    ap (λ (o : Option Ring). of_ring (refused_grant (due.Granted i) fixed top i) o) there ∙ if_same (i == i) why.NoGrant (spent top) (eq-eqb i i refl) (not_spent top few)

pub may_grant_handed : (rings : List Ring) (names : List (Option Bound)) (fixed top i : ℕ) (g : Ring) → slice_get rings i ≡ Some g → top < most_grants → refusal (state rings names fixed top (due.Handed i)) (Grant i) ≡ None
may_grant_handed rings names fixed top i g there few =
    ap (λ (o : Option Ring). of_ring (refused_grant (due.Handed i) fixed top i) o) there ∙ if_same (i == i) why.NotFreed (spent top) (eq-eqb i i refl) (not_spent top few)

new_ok : (q h e f : Bool) (fixed : ℕ) (o : Option ℕ) → q ≡ false → h ≡ false → e ≡ true → f ≡ true → o ≡ None →
    (if q then Some why.FixedRing else if h then Some why.HeldRing else if e then (if f then taken fixed o else Some why.WrongFloor) else Some why.WrongBefore) ≡ None
new_ok true h e f fixed o a b c d z = absurd (false≢true (sym a))
new_ok false true e f fixed o a b c d z = absurd (false≢true (sym b))
new_ok false false false f fixed o a b c d z = absurd (false≢true c)
new_ok false false true false fixed o a b c d z = absurd (false≢true d)
new_ok false false true true fixed o a b c d z = ap (λ (y : Option ℕ). taken fixed y) z

pub may_bind_new : (rings : List Ring) (names : List (Option Bound)) (fixed top i : ℕ) (b : Bound) (g : Ring) → slice_get rings i ≡ Some g → fixed ≤ i → is_held g ≡ false → b.before ≡ g.grants → b.floor ≡ top →
    found b.name names ≡ None → refusal (state rings names fixed top due.Nothing) (Bind i b) ≡ None
may_bind_new rings names fixed top i b g there pool idle before floor nobody =
    ap (λ (o : Option Ring). of_ring (refused_bind due.Nothing (state rings names fixed top due.Nothing) i b) o) there
    ∙ new_ok (nat_lt i fixed) (is_held g) (b.before == g.grants) (b.floor == top) fixed (ring_of b.name names) (le-ltb i fixed pool) idle (eq-eqb b.before g.grants before) (eq-eqb b.floor top floor)
    (ap (λ (o : Option (ℕ × Bound)). option_map (λ (p : ℕ × Bound). p.0) o) nobody)

pub may_end : (rings : List Ring) (names : List (Option Bound)) (fixed top i : ℕ) (g : Ring) → slice_get rings i ≡ Some g → is_held g ≡ true → refusal (state rings names fixed top due.Nothing) (End i) ≡ None
may_end rings names fixed top i g there held = ap (λ (o : Option Ring). of_ring (refused_end due.Nothing) o) there ∙ if_same (is_held g) why.NotHeld None held refl

pub noted_end : (rings : List Ring) (names : List (Option Bound)) (fixed top i : ℕ) (g : Ring) (q : Bool) → slice_get rings i ≡ Some g → nat_lt i fixed ≡ q →
    noted (state rings names fixed top due.Nothing) (End i) ≡ state (slice_set rings i (record { grants = g.grants; held = None })) names fixed top (if q then due.Nothing else due.Handed i)
noted_end rings names fixed top i g q there e =
    ap (λ (o : Option Ring). state (ended o i rings) names fixed top (if nat_lt i fixed then due.Nothing else due.Handed i)) there
    ∙ ap (λ (x : Bool). state (slice_set rings i (record { grants = g.grants; held = None })) names fixed top (if x then due.Nothing else due.Handed i)) e

pub may_free : (rings : List Ring) (names : List (Option Bound)) (fixed top i : ℕ) (g : Ring) → slice_get rings i ≡ Some g → refusal (state rings names fixed top (due.Handed i)) (Free i) ≡ None
may_free rings names fixed top i g there = ap (λ (o : Option Ring). of_ring (λ (k : Ring). refused_free (due.Handed i) i) o) there ∙ if_same (i == i) why.NotFreed None (eq-eqb i i refl) refl

pub may_repair : (rings : List Ring) (names : List (Option Bound)) (fixed top i : ℕ) (g : Ring) → slice_get rings i ≡ Some g → top < most_grants → refusal (state rings names fixed top due.Nothing) (Repair i) ≡ None
may_repair rings names fixed top i g there few = ap (λ (o : Option Ring). of_ring (λ (k : Ring). refused_repair due.Nothing top) o) there ∙ not_spent top few

pub noted_repair : (rings : List Ring) (names : List (Option Bound)) (fixed top i : ℕ) (g : Ring) → slice_get rings i ≡ Some g →
    noted (state rings names fixed top due.Nothing) (Repair i) ≡ state (slice_set rings i (record { grants = g.grants + 1; held = g.held })) names fixed (top + 1) due.Nothing
noted_repair rings names fixed top i g there = ap (λ (o : Option Ring). state (repaired o i rings) names fixed (top + 1) due.Nothing) there

-- ---- what a step writes

-- a fixed lock is granted
pub said_grant : (rings : List Ring) (names : List (Option Bound)) (fixed top i : ℕ) (g : Ring) → slice_get rings i ≡ Some g → is_held g ≡ false → i < fixed → top < most_grants →
    AreSaid (state rings names fixed top due.Nothing) (Grant i ∷ []) (state (slice_set rings i (record { grants = g.grants + 1; held = Some (g.grants + 1) })) names fixed (top + 1) due.Nothing)
said_grant rings names fixed top i g there idle lt few =
    let t = state (slice_set rings i (record { grants = g.grants + 1; held = Some (g.grants + 1) })) names fixed (top + 1) due.Nothing in
    said_first (state rings names fixed top due.Nothing) t t (Grant i) [] (may_grant_fixed rings names fixed top i g there idle lt few) (noted_grant rings names fixed top i due.Nothing g there) (nothing_said t t refl)

-- a name is bound and granted
pub said_bind : (rings : List Ring) (names : List (Option Bound)) (fixed top i : ℕ) (b : Bound) (g : Ring) → slice_get rings i ≡ Some g → fixed ≤ i → is_held g ≡ false → b.before ≡ g.grants → b.floor ≡ top →
    found b.name names ≡ None → top < most_grants →
    AreSaid (state rings names fixed top due.Nothing) (Bind i b ∷ Grant i ∷ []) (state (slice_set rings i (record { grants = g.grants + 1; held = Some (g.grants + 1) })) (slice_set names i (Some b)) fixed (top + 1) due.Nothing)
said_bind rings names fixed top i b g there pool idle before floor nobody few =
    let m = state rings (slice_set names i (Some b)) fixed top (due.Granted i) in
    let t = state (slice_set rings i (record { grants = g.grants + 1; held = Some (g.grants + 1) })) (slice_set names i (Some b)) fixed (top + 1) due.Nothing in
    said_first (state rings names fixed top due.Nothing) m t (Bind i b) (Grant i ∷ []) (may_bind_new rings names fixed top i b g there pool idle before floor nobody) refl
    (said_first m t t (Grant i) [] (may_grant_bound rings (slice_set names i (Some b)) fixed top i g there few) (noted_grant rings (slice_set names i (Some b)) fixed top i (due.Granted i) g there) (nothing_said t t refl))

-- the hold of a fixed lock ends
pub said_end : (rings : List Ring) (names : List (Option Bound)) (fixed top i : ℕ) (g : Ring) → slice_get rings i ≡ Some g → is_held g ≡ true → i < fixed →
    AreSaid (state rings names fixed top due.Nothing) (End i ∷ []) (state (slice_set rings i (record { grants = g.grants; held = None })) names fixed top due.Nothing)
said_end rings names fixed top i g there held lt =
    let t = state (slice_set rings i (record { grants = g.grants; held = None })) names fixed top due.Nothing in
    said_first (state rings names fixed top due.Nothing) t t (End i) [] (may_end rings names fixed top i g there held) (noted_end rings names fixed top i g true there (lt-ltb i fixed lt)) (nothing_said t t refl)

-- that of a ring of the pool, which loses its name
pub said_free : (rings : List Ring) (names : List (Option Bound)) (fixed top i : ℕ) (g : Ring) → slice_get rings i ≡ Some g → is_held g ≡ true → fixed ≤ i →
    AreSaid (state rings names fixed top due.Nothing) (End i ∷ Free i ∷ []) (state (slice_set rings i (record { grants = g.grants; held = None })) (slice_set names i None) fixed top due.Nothing)
said_free rings names fixed top i g there held pool =
    let rs : List Ring = slice_set rings i (record { grants = g.grants; held = None }) in
    let m = state rs names fixed top (due.Handed i) in
    let t = state rs (slice_set names i None) fixed top due.Nothing in
    said_first (state rings names fixed top due.Nothing) m t (End i) (Free i ∷ []) (may_end rings names fixed top i g there held) (noted_end rings names fixed top i g false there (le-ltb i fixed pool))
    (said_first m t t (Free i) [] (may_free rs names fixed top i (record { grants = g.grants; held = None }) (get_set_same rings i (record { grants = g.grants; held = None }) g there)) refl (nothing_said t t refl))

-- a hold ends, and the next client is granted
handed_by : (rings : List Ring) (names : List (Option Bound)) (fixed top i : ℕ) (g : Ring) → slice_get rings i ≡ Some g → is_held g ≡ true → top < most_grants → (q : Bool) → nat_lt i fixed ≡ q →
    refusal (state (slice_set rings i (record { grants = g.grants; held = None })) names fixed top (if q then due.Nothing else due.Handed i)) (Grant i) ≡ None
handed_by rings names fixed top i g there held few true e =
    may_grant_fixed (slice_set rings i (record { grants = g.grants; held = None })) names fixed top i (record { grants = g.grants; held = None }) (get_set_same rings i (record { grants = g.grants; held = None }) g there) refl (ltb-true i fixed e) few
handed_by rings names fixed top i g there held few false e =
    may_grant_handed (slice_set rings i (record { grants = g.grants; held = None })) names fixed top i (record { grants = g.grants; held = None }) (get_set_same rings i (record { grants = g.grants; held = None }) g there) few

pub said_handed : (rings : List Ring) (names : List (Option Bound)) (fixed top i : ℕ) (g : Ring) → slice_get rings i ≡ Some g → is_held g ≡ true → top < most_grants →
    AreSaid (state rings names fixed top due.Nothing) (End i ∷ Grant i ∷ []) (state (slice_set rings i (record { grants = g.grants + 1; held = Some (g.grants + 1) })) names fixed (top + 1) due.Nothing)
said_handed rings names fixed top i g there held few =
    let rs : List Ring = slice_set rings i (record { grants = g.grants; held = None }) in
    let d : Due = if nat_lt i fixed then due.Nothing else due.Handed i in
    let m = state rs names fixed top d in
    let t = state (slice_set rings i (record { grants = g.grants + 1; held = Some (g.grants + 1) })) names fixed (top + 1) due.Nothing in
    said_first (state rings names fixed top due.Nothing) m t (End i) (Grant i ∷ []) (may_end rings names fixed top i g there held) (noted_end rings names fixed top i g (nat_lt i fixed) there refl)
    (said_first m t t (Grant i) [] (handed_by rings names fixed top i g there held few (nat_lt i fixed) refl)
    (noted_grant rs names fixed top i d (record { grants = g.grants; held = None }) (get_set_same rings i (record { grants = g.grants; held = None }) g there)
    ∙ ap (λ (x : List Ring). state x names fixed (top + 1) due.Nothing) (set_twice rings i (record { grants = g.grants; held = None }) (record { grants = g.grants + 1; held = Some (g.grants + 1) })))
    (nothing_said t t refl))
