-- What lines record, taken in one after the other.
use Rattle.std.proofs.Common.{◌≡◌, ℕ, zero, suc, ◌+◌, ◌<◌, ◌≤◌, eqb, List, [], ◌∷◌, ◌++◌, map, length, replicate, slice_get, slice_set, Option, Some, None, Result, Ok, Err, inl, inr, ◌⊎◌, refl, ap, sym, subst, ◌∙◌, append_assoc, arith}
use Rattle.std.specs.Prelude.{unwrap_or, IfErr, OnOk}
use Rattle.std.specs.List.{AllByRecursion}
use Rattle.std.proofs.lemmas.Bool.{cases_Bool, eqb-true, eqb-false}
use Rattle.std.proofs.lemmas.List.{length-append, length-set, length-replicate, get_or-replicate}
use Rattle.std.proofs.lemmas.Option.{unwrap_or-slice_get}
use Rattle.std.proofs.Math.Seq.{set-append_seam}
use Rattle.name_remarks.specs.declared.recorded.NotTaken.{NotTaken}
use Rattle.name_remarks.specs.declared.recorded.NotTaken.TheVariants as fault
use Rattle.name_remarks.specs.Remarks.{Binding, Remark, bind, free, top, remark_text, Fits, IsRemark}
use Rattle.name_remarks.specs.Bindings.{Bindings, nothing, bound_at, after, after_all, IsAmong, IsNotHeard, IsTakenIn, IsNotTakenIn, AreTakenIn, tops, binds, beginning, IsAbout, IsLastBinding, LastBindings, BeginningsRecordAll, TakenInOneWay, LastIsTakenLast}
use Rattle.name_remarks.proofs.Spelled.{same_remark, begins_as_one}

-- ---- places of a list

at_set : {X : Type 0} (xs : List X) (i : ℕ) (y : X) → i < length xs → slice_get (slice_set xs i y) i ≡ Some y
at_set [] i y lt = absurd (omega (arith, lt))
at_set (x ∷ xs) zero y lt = refl
at_set (x ∷ xs) (suc i) y lt = at_set xs i y (omega (arith, lt))

other_set : {X : Type 0} (xs : List X) (i j : ℕ) (y : X) → ¬ (i ≡ j) → slice_get (slice_set xs i y) j ≡ slice_get xs j
other_set [] i j y ne = refl
other_set (x ∷ xs) zero zero y ne = absurd (ne refl)
other_set (x ∷ xs) zero (suc j) y ne = refl
other_set (x ∷ xs) (suc i) zero y ne = refl
other_set (x ∷ xs) (suc i) (suc j) y ne = other_set xs i j y (λ e. ne (ap suc e))

-- ---- remarks, one after the other

after_length : (t : Bindings) (r : Remark) → length (after t r).rings ≡ length t.rings
after_length t (bind i b) = length-set t.rings i (Some b)
after_length t (free i) = length-set t.rings i None
after_length t (top n) = refl

all_length : (t : Bindings) (rs : List Remark) → length (after_all t rs).rings ≡ length t.rings
all_length t [] = refl
all_length t (r ∷ rs) = all_length (after t r) rs ∙ after_length t r

after_append : (t : Bindings) (xs ys : List Remark) → after_all t (xs ++ ys) ≡ after_all (after_all t xs) ys
after_append t [] ys = refl
after_append t (x ∷ xs) ys = after_append (after t x) xs ys

-- ---- a ring is bound as the last remark about it says

kept_one : (t : Bindings) (r : Remark) (ring : ℕ) → ¬ IsAbout ring r → slice_get (after t r).rings ring ≡ slice_get t.rings ring
kept_one t (bind i b) ring other = other_set t.rings i ring (Some b) other
kept_one t (free i) ring other = other_set t.rings i ring None other
kept_one t (top n) ring other = refl

kept_all : (t : Bindings) (rs : List Remark) (ring : ℕ) → AllByRecursion (λ (r : Remark). ¬ IsAbout ring r) rs → slice_get (after_all t rs).rings ring ≡ slice_get t.rings ring
kept_all t [] ring all = refl
kept_all t (r ∷ rs) ring all = kept_all (after t r) rs ring all.1 ∙ kept_one t r ring all.0

read : Option (Option Binding) → Option Binding
read o = unwrap_or o None

bound_last : (n ring : ℕ) (b : Binding) (rs : List Remark) → ring < n → IsLastBinding rs ring b → bound_at (after_all (nothing n) rs).rings ring ≡ Some b
unfolding read
bound_last n ring b rs lt l =
    let mid : Bindings = after_all (nothing n) l.front in
    let whole : after_all (nothing n) rs ≡ after_all (after mid (bind ring b)) l.back = ap (after_all (nothing n)) l.parts ∙ after_append (nothing n) l.front (bind ring b ∷ l.back) in
    let many : length mid.rings ≡ n = all_length (nothing n) l.front ∙ length-replicate n None in
    let here : slice_get (after_all (after mid (bind ring b)) l.back).rings ring ≡ Some (Some b) =
    kept_all (after mid (bind ring b)) l.back ring l.last ∙ at_set mid.rings ring (Some b) (subst (λ (m : ℕ). ring < m) (sym many) lt) in
    ap (λ (t : Bindings). bound_at t.rings ring) whole ∙ ap read here

-- it was bound before, and nothing was said of it
abbrev WasBound : Bindings → List Remark → ℕ → Binding → Type 0
WasBound t rs ring b = (bound_at t.rings ring ≡ Some b) × AllByRecursion (λ (r : Remark). ¬ IsAbout ring r) rs

some_is : (x y : Binding) → ◌≡◌ {A = Option Binding} (Some x) (Some y) → x ≡ y
some_is x y e = cc

bound_here : (t : Bindings) (r : Remark) (rs : List Remark) (ring : ℕ) (b : Binding) → ring < length t.rings → bound_at (after t r).rings ring ≡ Some b → AllByRecursion (λ (r : Remark). ¬ IsAbout ring r) rs →
    IsLastBinding (r ∷ rs) ring b ⊎ WasBound t (r ∷ rs) ring b
unfolding read
bound_here t (bind i d) rs ring b lt at none =
    elim (cases_Bool (eqb i ring)) [
      | inl y ↦
          let same : i ≡ ring = eqb-true i ring y in
          let here : bound_at (slice_set t.rings i (Some d)) ring ≡ Some d = subst (λ (j : ℕ). bound_at (slice_set t.rings j (Some d)) ring ≡ Some d) (sym same) (ap read (at_set t.rings ring (Some d) lt)) in
          let is : d ≡ b = some_is d b (sym here ∙ at) in
          let parts : bind i d ∷ rs ≡ bind ring b ∷ rs = λ k. bind (same k) (is k) ∷ rs in
          inl (record { front = []; back = rs; parts = parts; last = none })
      | inr n ↦
          let other : ¬ (i ≡ ring) = eqb-false i ring n in
          inr (sym (ap read (other_set t.rings i ring (Some d) other)) ∙ at, (other, none))
    ]
bound_here t (free i) rs ring b lt at none =
    elim (cases_Bool (eqb i ring)) [
      | inl y ↦
          let same : i ≡ ring = eqb-true i ring y in
          let here : bound_at (slice_set t.rings i None) ring ≡ None = subst (λ (j : ℕ). bound_at (slice_set t.rings j None) ring ≡ None) (sym same) (ap read (at_set t.rings ring None lt)) in
          let no : ◌≡◌ {A = Option Binding} None (Some b) = sym here ∙ at in
          absurd cc
      | inr n ↦
          let other : ¬ (i ≡ ring) = eqb-false i ring n in
          inr (sym (ap read (other_set t.rings i ring None other)) ∙ at, (other, none))
    ]
bound_here t (top n) rs ring b lt at none = inr (at, ((λ x. x), none))

bound_by : (t : Bindings) (rs : List Remark) (ring : ℕ) (b : Binding) → ring < length t.rings → bound_at (after_all t rs).rings ring ≡ Some b → IsLastBinding rs ring b ⊎ WasBound t rs ring b
bound_by t [] ring b lt at = inr (at, tt)
bound_by t (r ∷ rs) ring b lt at =
    elim (bound_by (after t r) rs ring b (subst (λ (m : ℕ). ring < m) (sym (after_length t r)) lt) at) [
      | inl l ↦ inl (record { front = r ∷ l.front; back = l.back; parts = ap (λ (u : List Remark). r ∷ u) l.parts; last = l.last })
      | inr w ↦ bound_here t r rs ring b lt w.0 w.1
    ]

none_bound : (n ring : ℕ) (b : Binding) → ring < n → bound_at (nothing n).rings ring ≡ Some b → ⊥
none_bound n ring b lt e =
    let none : bound_at (replicate n None) ring ≡ None = unwrap_or-slice_get (replicate n None) ring None ∙ get_or-replicate n ring None None lt in
    let no : ◌≡◌ {A = Option Binding} None (Some b) = sym none ∙ e in
    absurd cc

pub last_bindings : LastBindings
last_bindings n ring b rs lt = (
  λ e. elim (bound_by (nothing n) rs ring b (subst (λ (m : ℕ). ring < m) (sym (length-replicate n None)) lt) e) [ inl l ↦ l | inr w ↦ absurd (none_bound n ring b lt w.0) ],
  λ l. bound_last n ring b rs lt l,
)

-- ---- lines are taken in in one way

one_way : (line : List ℕ) (old a b : Bindings) → IsTakenIn line old a → IsTakenIn line old b → a ≡ b
one_way line old a b (inl p) (inl q) = p.1.1.1 ∙ (ap (after old) (same_remark line p.0 q.0 p.1.0 q.1.0) ∙ sym q.1.1.1)
one_way line old a b (inl p) (inr q) = absurd (q.0 (begins_as_one line p.0 p.1.0))
one_way line old a b (inr p) (inl q) = absurd (p.0 (begins_as_one line q.0 q.1.0))
one_way line old a b (inr p) (inr q) = p.1 ∙ sym q.1

pub taken_in_one_way : TakenInOneWay
taken_in_one_way [] old a b p q = p ∙ sym q
taken_in_one_way (line ∷ lines) old a b p q =
    let same : p.0 ≡ q.0 = one_way line old p.0 q.0 p.1.0 q.1.0 in
    taken_in_one_way lines q.0 a b (subst (λ (m : Bindings). AreTakenIn lines m a) same p.1.1) q.1.1

-- ---- the last one

split : (front : List (List ℕ)) (line : List ℕ) (old new : Bindings) → AreTakenIn (front ++ line ∷ []) old new → (mid : Bindings) × (AreTakenIn front old mid × IsTakenIn line mid new)
split [] line old new p = (old, (refl, subst (λ (u : Bindings). IsTakenIn line old u) (sym p.1.1) p.1.0))
split (x ∷ front) line old new p = let s = split front line p.0 new p.1.1 in (s.0, ((p.0, (p.1.0, s.1.0)), s.1.1))

of_line : (line : List ℕ) (old new : Bindings) (r : Remark) → IsRemark r line → IsTakenIn line old new → IsAmong r old.rings × (new ≡ after old r)
of_line line old new r is (inl p) = subst (λ (x : Remark). IsAmong x old.rings × (new ≡ after old x)) (same_remark line p.0 r p.1.0 is) p.1.1
of_line line old new r is (inr p) = absurd (p.0 (begins_as_one line r is))

pub last_is_taken_last : LastIsTakenLast
last_is_taken_last lines old new r taken l =
    let s = split l.front l.line old new (subst (λ (u : List (List ℕ)). AreTakenIn u old new) l.parts taken) in
    (s.0, (s.1.0, of_line l.line s.0 new r l.is s.1.1))

-- ---- the beginning of a segment

abbrev IsBelow : ℕ → Remark → Type 0
IsBelow n (bind ring b) = ring < n
IsBelow n (free ring) = ring < n
IsBelow n (top k) = Unit {0}

among : (r : Remark) (rings : List (Option Binding)) (n : ℕ) → length rings ≡ n → IsBelow n r → IsAmong r rings
among (bind ring b) rings n many below = subst (λ (m : ℕ). ring < m) (sym many) below
among (free ring) rings n many below = subst (λ (m : ℕ). ring < m) (sym many) below
among (top k) rings n many below = tt

are_taken : (n : ℕ) (rs : List Remark) (old : Bindings) → length old.rings ≡ n → AllByRecursion Fits rs → AllByRecursion (IsBelow n) rs → AreTakenIn (map remark_text rs) old (after_all old rs)
are_taken n [] old many fits below = refl
are_taken n (r ∷ rs) old many fits below = (after old r, (inl (r, (record { fits = fits.0; is = refl }, (among r old.rings n many below.0, refl))), are_taken n rs (after old r) (after_length old r ∙ many) fits.1 below.1))

binds_below : (n k : ℕ) (os : List (Option Binding)) → k + length os ≤ n → AllByRecursion (IsBelow n) (binds k os)
binds_below n k [] le = tt
binds_below n k (None ∷ os) le = binds_below n (suc k) os (omega (arith, le))
binds_below n k (Some b ∷ os) le = (omega (arith, le), binds_below n (suc k) os (omega (arith, le)))

all_below : (n : ℕ) (o : Option ℕ) (rs : List Remark) → AllByRecursion (IsBelow n) rs → AllByRecursion (IsBelow n) (tops o ++ rs)
all_below n None rs all = all
all_below n (Some k) rs all = (tt, all)

abbrev with_rings : Option ℕ → List (Option Binding) → Bindings
with_rings o rings = record { top = o; rings = rings }

binds_record : (o : Option ℕ) (front os : List (Option Binding)) (k : ℕ) → length front ≡ k → after_all (with_rings o (front ++ replicate (length os) None)) (binds k os) ≡ with_rings o (front ++ os)
binds_record o front [] k many = refl
binds_record o front (None ∷ os) k many =
    let rest : List (Option Binding) = replicate (length os) None in
    let none : List (Option Binding) = None ∷ [] in
    let longer : length (front ++ none) ≡ suc k = omega (arith, length-append front none, many) in
    ap (λ (u : List (Option Binding)). after_all (with_rings o u) (binds (suc k) os)) (sym (append_assoc front none rest))
    ∙ (binds_record o (front ++ none) os (suc k) longer ∙ ap (with_rings o) (append_assoc front none os))
binds_record o front (Some b ∷ os) k many =
    let rest : List (Option Binding) = replicate (length os) None in
    let one : List (Option Binding) = Some b ∷ [] in
    let longer : length (front ++ one) ≡ suc k = omega (arith, length-append front one, many) in
    let put : slice_set (front ++ None ∷ rest) k (Some b) ≡ (front ++ one) ++ rest =
    subst (λ (m : ℕ). slice_set (front ++ None ∷ rest) m (Some b) ≡ front ++ Some b ∷ rest) many (set-append_seam front None rest (Some b)) ∙ sym (append_assoc front one rest) in
    ap (λ (u : List (Option Binding)). after_all (with_rings o u) (binds (suc k) os)) put
    ∙ (binds_record o (front ++ one) os (suc k) longer ∙ ap (with_rings o) (append_assoc front one os))

tops_record : (o : Option ℕ) (n : ℕ) → after_all (nothing n) (tops o) ≡ with_rings o (replicate n None)
tops_record None n = refl
tops_record (Some k) n = refl

beginning_records : (t : Bindings) → after_all (nothing (length t.rings)) (beginning t) ≡ t
beginning_records t =
    let n : ℕ = length t.rings in
    after_append (nothing n) (tops t.top) (binds 0 t.rings)
    ∙ (ap (λ (u : Bindings). after_all u (binds 0 t.rings)) (tops_record t.top n) ∙ binds_record t.top [] t.rings 0 refl)

beginning_taken : (t : Bindings) → AllByRecursion Fits (beginning t) → AreTakenIn (map remark_text (beginning t)) (nothing (length t.rings)) t
beginning_taken t fits =
    let n : ℕ = length t.rings in
    let below : AllByRecursion (IsBelow n) (beginning t) = all_below n t.top (binds 0 t.rings) (binds_below n 0 t.rings (omega arith)) in
    subst (λ (u : Bindings). AreTakenIn (map remark_text (beginning t)) (nothing n) u) (beginning_records t) (are_taken n (beginning t) (nothing n) (length-replicate n None) fits below)

pub beginnings_record_all : BeginningsRecordAll
beginnings_record_all old new fits =
    let lines : List (List ℕ) = map remark_text (beginning old) in
    let mine : AreTakenIn lines (nothing (length old.rings)) old = beginning_taken old fits in (
      λ taken. taken_in_one_way lines (nothing (length old.rings)) new old taken mine,
      λ same. subst (λ (u : Bindings). AreTakenIn lines (nothing (length old.rings)) u) (sym same) mine,
    )

-- ---- a binding that is not taken in

pub not_bound : (result : Result (Unit {0}) NotTaken) (old : Bindings) (rings : List (Option Binding)) (ring : ℕ) (b : Binding) (r : Remark) → r ≡ bind ring b
    → IfErr result (λ why. (rings ≡ old.rings) × (((why ≡ fault.Ring) × (length old.rings ≤ ring)) ⊎ (why ≡ fault.OutOfMemory)))
    → IfErr result (λ why. (with_rings old.top rings ≡ old) × IsNotHeard r old why)
not_bound (Ok u) old rings ring b r is why = tt
not_bound (Err fault.Misspelled) old rings ring b r is (same, inl p) = let no = p.0 in absurd cc
not_bound (Err fault.Misspelled) old rings ring b r is (same, inr e) = absurd cc
not_bound (Err fault.Ring) old rings ring b r is (same, inl p) =
    let le = p.1 in
    (ap (with_rings old.top) same, λ among. let lt : ring < length old.rings = subst (λ (x : Remark). IsAmong x old.rings) is among in omega (arith, le, lt))
not_bound (Err fault.Ring) old rings ring b r is (same, inr e) = absurd cc
not_bound (Err fault.OutOfMemory) old rings ring b r is (same, p) = (ap (with_rings old.top) same, (ring, b, is))

-- ---- a remark that was read

pub heard_ok : (result : Result (Unit {0}) NotTaken) (line : List ℕ) (old new : Bindings) (r : Remark) → IsRemark r line → OnOk result (IsAmong r old.rings × (new ≡ after old r)) → OnOk result (IsTakenIn line old new)
heard_ok (Ok u) line old new r is h = inl (r, (is, h))
heard_ok (Err why) line old new r is h = h

pub heard_err : (result : Result (Unit {0}) NotTaken) (line : List ℕ) (old new : Bindings) (r : Remark) → IsRemark r line → IfErr result (λ why. (new ≡ old) × IsNotHeard r old why) → IfErr result (λ why. (new ≡ old) × IsNotTakenIn line old why)
heard_err (Ok u) line old new r is h = h
heard_err (Err fault.Misspelled) line old new r is h = absurd h.1
heard_err (Err fault.Ring) line old new r is h = (h.0, (r, (is, h.1)))
heard_err (Err fault.OutOfMemory) line old new r is h = let made = h.1 in (h.0, (made.0, made.1, subst (λ (x : Remark). IsRemark x line) made.2 is))
