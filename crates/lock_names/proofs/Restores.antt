-- Locks that get back the names that they had.
use Rattle.std.proofs.Common.{◌≡◌, ◌≢◌, ℕ, zero, suc, ◌+◌, ◌-◌, ◌^◌, ◌<◌, ◌≤◌, Bool, true, false, List, [], ◌∷◌, ◌++◌, length, take, get_or, Option, None, Some, ◌⊎◌, inl, inr, refl, sym, ◌∙◌, ap, subst, arith}
use Rattle.std.specs.Prelude.{slice_get, option_map, is_some, string_bytes}
use Rattle.std.proofs.lemmas.Bool.{cases_eq, false≢true}
use Rattle.std.proofs.lemmas.List.{length-map, length-append, append_assoc}
use Rattle.std.proofs.lemmas.Option.{slice_get_within}
use Rattle.held_locks.specs.declared.answers.Holder.{Holder}
use Rattle.held_locks.specs.Queues.{Lock}
use Rattle.held_locks.specs.Kept.{LockView, lock_of, locks_of, AreKept}
use Rattle.lock_names.specs.declared.table.Binding.{Binding}
use Rattle.lock_names.specs.declared.starting.NotBegun.{NotBegun}
use Rattle.lock_names.specs.declared.starting.NotBegun.TheVariants as not_begun
use Rattle.lock_names.specs.declared.restoring.NotRestored.{NotRestored}
use Rattle.lock_names.specs.declared.restoring.NotRestored.TheVariants as not_restored
use Rattle.lock_names.specs.Names.{Bound, Named, token_in, found, total}
use Rattle.lock_names.specs.Promises.{IsRightBound, IsRightName, IsNamed}
use Rattle.name_bindings.specs.Bindings.{AreDistinct, fixed_names, ring_of, AreNamedOnce}
use Rattle.lock_names.specs.Table.{bound_of, bounds_of}
use Rattle.lock_names.specs.Kept.{named_of, waiting, top_limit, IsKeptNamed}
use Rattle.lock_names.specs.Restored.{restored, IsRestored, IsWrongBound, IsWrongName, HasWrongName, CannotRestore, RightIsRestored}
use Rattle.name_bindings.proofs.Found.{some_same, none_some, not_some, found_at}
use Rattle.lock_names.proofs.Asking.{few_waiting, lock_view}
use Rattle.name_bindings.proofs.FixedNames.{taken_entry, distinct}
use Rattle.lock_names.proofs.Begins.{take_few, fixed_many}
use Rattle.lock_names.proofs.Copied.{entry, copied_more}
use Rattle.lock_names.proofs.Taking.{same_named}

-- ---- whether a name is there already

pub taken : (x y : List ℕ) (os : List (Option Bound)) (o : Option ℕ) (q : Bool) → y ≡ x → o ≡ ring_of y os → q ≡ is_some o → q ≡ true → found x os ≢ None
taken x y os o q name found_it is so none =
    let there : is_some (ring_of x os) ≡ true = ap (λ (z : List ℕ). is_some (ring_of z os)) (sym name) ∙ ap (λ (z : Option ℕ). is_some z) (sym found_it) ∙ sym is ∙ so in
    false≢true (sym (ap (λ (z : Option (ℕ × Bound)). is_some (option_map (λ (p : ℕ × Bound). p.0) z)) none) ∙ there)

-- ---- the names of the pool

front_entry : {X : Type 0} (xs ys : List X) (k j : ℕ) (y : X) → slice_get (xs ++ take k ys) j ≡ Some y → (j < length xs + k) × (slice_get (xs ++ ys) j ≡ Some y)
front_entry [] ys k j y e = let t = taken_entry ys k j y e in let lt : j < k = t.0 in let all : j < 0 + k = omega arith in (all, t.1)
front_entry (x ∷ xs) ys k zero y e = (omega arith, e)
front_entry (x ∷ xs) ys k (suc j) y e = let r = front_entry xs ys k j y e in let lt : j < length xs + k = r.0 in (omega arith, r.1)

back_entry : {X : Type 0} (xs ys : List X) (k j : ℕ) (y : X) → j ≡ length xs + k → slice_get ys k ≡ Some y → slice_get (xs ++ ys) j ≡ Some y
back_entry [] ys k j y at e = let same : j ≡ k = omega (arith, at) in ap (λ (n : ℕ). slice_get ys n) same ∙ e
back_entry (x ∷ xs) ys k zero y at e = absurd (omega (arith, at))
back_entry (x ∷ xs) ys k (suc j) y at e = back_entry xs ys k j y (omega (arith, at)) e

some_found : (o : Option (ℕ × Bound)) → o ≢ None → (p : ℕ × Bound) × (o ≡ Some p)
some_found None f = absurd (f refl)
some_found (Some p) f = (p, refl)

-- a name that is there already is twice in the list
pub pool_twice : (old now : List (Option Bound)) (bs : List (Option Binding)) (k : ℕ) (o : Option Binding) (b : Binding) → k < length bs → o ≡ get_or bs k o → o ≡ Some b → now ≡ old ++ take k (bounds_of bs) →
    found (string_bytes b.name) now ≢ None → AreNamedOnce (old ++ bounds_of bs) → ⊥
pool_twice old now bs k o b lt is some e there once =
    let r = some_found (found (string_bytes b.name) now) there in
    let h = found_at (string_bytes b.name) now r.0 r.1 in
    let before = front_entry old (bounds_of bs) k r.0.0 (Some r.0.1) (ap (λ (x : List (Option Bound)). slice_get x r.0.0) (sym e) ∙ h.entry) in
    let own : slice_get (bounds_of bs) k ≡ Some (Some (bound_of b)) = entry bs k o lt is ∙ ap (λ (x : Option Binding). Some (option_map bound_of x)) some in
    let here : slice_get (old ++ bounds_of bs) (length old + k) ≡ Some (Some (bound_of b)) = back_entry old (bounds_of bs) k (length old + k) (Some (bound_of b)) refl own in
    let same : r.0.0 ≡ length old + k = once r.0.0 (length old + k) r.0.1 (bound_of b) before.1 here (sym h.name) in
    let less : r.0.0 < length old + k = before.0 in
    omega arith

pub pool_few : (old now : List (Option Bound)) (bs : List (Option Binding)) (k : ℕ) → now ≡ old ++ take k (bounds_of bs) → length old + length bs ≤ 1000000 → length now < 2 ^ 32
pool_few old now bs k e le =
    let some : length now ≡ length (old ++ take k (bounds_of bs)) = ap (λ (x : List (Option Bound)). length x) e in
    let both : length (old ++ take k (bounds_of bs)) ≡ length old + length (take k (bounds_of bs)) = length-append old (take k (bounds_of bs)) in
    let least : length (take k (bounds_of bs)) ≤ length (bounds_of bs) = take_few k (bounds_of bs) in
    let many : length (bounds_of bs) ≡ length bs = length-map bs (λ (o : Option Binding). option_map bound_of o) in
    omega arith

pub pool_more : (old now later : List (Option Bound)) (bs : List (Option Binding)) (k : ℕ) (o : Option Binding) → k < length bs → o ≡ get_or bs k o → now ≡ old ++ take k (bounds_of bs) →
    later ≡ now ++ option_map bound_of o ∷ [] → later ≡ old ++ take (k + 1) (bounds_of bs)
pool_more old now later bs k o lt is e f =
    f ∙ ap (λ (x : List (Option Bound)). x ++ option_map bound_of o ∷ []) e ∙ append_assoc old (take k (bounds_of bs)) (option_map bound_of o ∷ [])
    ∙ ap (λ (x : List (Option Bound)). old ++ x) (copied_more bs k o (take k (bounds_of bs)) (take k (bounds_of bs) ++ option_map bound_of o ∷ []) lt is refl refl)

-- ---- why names are not added

pub names_wrong : (ns : List (List ℕ)) (os : List (Option Bound)) (e : NotBegun) (why : NotRestored) → ((e ≡ not_begun.Twice) × ¬ AreDistinct ns) ⊎ (e ≡ not_begun.Memory) → (e ≡ not_begun.Twice → why ≡ not_restored.Twice) →
    (e ≡ not_begun.Memory → why ≡ not_restored.Memory) → ((why ≡ not_restored.Twice) × ¬ AreNamedOnce (fixed_names ns ++ os)) ⊎ (why ≡ not_restored.Memory)
names_wrong ns os e why w twice memory = elim w [
  | inl p ↦ inl (twice p.0, λ once. p.1 (distinct ns os once))
  | inr p ↦ inr (memory p)
]

-- ---- one ring

pub right_bound : (top grants : ℕ) (holder : Option Holder) (l : Lock) (b : Bound) → l.ring.grants ≡ grants → l.holder ≡ holder → b.before ≤ grants → b.floor + (grants - b.before) ≤ top →
    ((h : Holder) → holder ≡ Some h → (b.before < h.token) × (h.token ≤ grants)) → IsRightBound top l b
right_bound top grants holder l b e f before token held = record {
  before = omega (arith, e, before);
  token = subst (λ (n : ℕ). token_in b n ≤ top) (sym e) token;
  held = λ h g. let k = held h (sym f ∙ g) in (k.0, subst (λ (n : ℕ). h.token ≤ n) (sym e) k.1);
}

pub wrong_bound : (fixed top i : ℕ) (l : Lock) (o : Option Bound) (b : Bound) (e : NotRestored) → o ≡ Some b → IsWrongBound top l b e → IsWrongName fixed top i l o e
wrong_bound fixed top i l o b not_restored.Locks at w = absurd w
wrong_bound fixed top i l o b not_restored.Full at w = absurd w
wrong_bound fixed top i l o b not_restored.Top at w = absurd w
wrong_bound fixed top i l o b not_restored.Twice at w = absurd w
wrong_bound fixed top i l o b not_restored.Unnamed at w = absurd w
wrong_bound fixed top i l o b not_restored.Free at w = absurd w
wrong_bound fixed top i l o b not_restored.Before at w = record { bound = b; is = at; wrong = w }
wrong_bound fixed top i l o b not_restored.Token at w = record { bound = b; is = at; wrong = w }
wrong_bound fixed top i l o b not_restored.Hold at w = record { bound = b; is = at; wrong = w }
wrong_bound fixed top i l o b not_restored.Memory at w = absurd w

pub right_free : (fixed top i : ℕ) (l : Lock) (o : Option Bound) → o ≡ None → fixed ≤ i → is_some l.holder ≡ false → IsRightName fixed top i l o
right_free fixed top i l o none le free = subst (λ (x : Option Bound). IsRightName fixed top i l x) (sym none) (le, not_some l.holder free)

pub right_held : (fixed top i : ℕ) (l : Lock) (o : Option Bound) (b : Bound) → o ≡ Some b → IsRightBound top l b → (fixed ≤ i → is_some l.holder ≡ true) → IsRightName fixed top i l o
right_held fixed top i l o b at r held = subst (λ (x : Option Bound). IsRightName fixed top i l x) (sym at) (r, held)

-- ---- all rings

-- the first rings are named right
abbrev pub AreRightNames : ℕ → ℕ → List LockView → List (Option Bound) → ℕ → Type 0
AreRightNames fixed top vs os n = (i : ℕ) (v : LockView) (o : Option Bound) → i < n → slice_get vs i ≡ Some v → slice_get os i ≡ Some o → IsRightName fixed top i (lock_of v) o

pub one_more_right : (fixed top : ℕ) (vs : List LockView) (os : List (Option Bound)) (k : ℕ) → AreRightNames fixed top vs os k →
    ((v : LockView) (o : Option Bound) → slice_get vs k ≡ Some v → slice_get os k ≡ Some o → IsRightName fixed top k (lock_of v) o) → AreRightNames fixed top vs os (k + 1)
one_more_right fixed top vs os k before here i v o lt e f = elim (cases_eq i k) [
  | inl q ↦
      subst (λ (n : ℕ). IsRightName fixed top n (lock_of v) o) (sym q)
      (here v o (ap (λ (n : ℕ). slice_get vs n) (sym q) ∙ e) (ap (λ (n : ℕ). slice_get os n) (sym q) ∙ f))
  | inr q ↦ before i v o (omega (arith, lt, q)) e f
]

pub all_right : (fixed top : ℕ) (vs : List LockView) (os : List (Option Bound)) (k : ℕ) → length vs ≤ k → AreRightNames fixed top vs os k →
    (i : ℕ) (l : Lock) (o : Option Bound) → slice_get (locks_of vs) i ≡ Some l → slice_get os i ≡ Some o → IsRightName fixed top i l o
all_right fixed top vs os k le before i l o e f =
    let w = lock_view vs i l e in
    let lt : i < length vs = slice_get_within vs i w.0 w.1 in
    subst (λ (x : Lock). IsRightName fixed top i x o) w.2 (before i w.0 o (omega (arith, le)) w.1 f)

-- ---- what is restored

abbrev of_fixed : List ℕ → Bound
of_fixed n = record { name = n; before = 0; floor = 0 }

fixed_some : (ns : List (List ℕ)) (os : List (Option Bound)) (i : ℕ) → slice_get (fixed_names ns ++ os) i ≡ Some None → length ns ≤ i
fixed_some [] os i e = let le : 0 ≤ i = omega arith in le
fixed_some (n ∷ ns) os zero e = absurd (none_some (of_fixed n) (sym (some_same (Some (of_fixed n)) None e)))
fixed_some (n ∷ ns) os (suc i) e = let le : length ns ≤ i = fixed_some ns os i e in omega arith

-- a ring that has no name is one of the pool
pub pool_from : (ns : List (List ℕ)) (os table : List (Option Bound)) (fixed i : ℕ) → table ≡ fixed_names ns ++ os → fixed ≡ length ns → slice_get table i ≡ Some None → fixed ≤ i
pool_from ns os table fixed i e same at =
    let le : length ns ≤ i = fixed_some ns os i (ap (λ (x : List (Option Bound)). slice_get x i) (sym e) ∙ at) in
    omega (arith, same)

pub restored_many : (ns : List (List ℕ)) (os table : List (Option Bound)) (count : ℕ) → table ≡ fixed_names ns ++ os → count ≡ length ns + length os → length table ≡ count
restored_many ns os table count e same =
    let all : length table ≡ length (fixed_names ns ++ os) = ap (λ (x : List (Option Bound)). length x) e in
    let both : length (fixed_names ns ++ os) ≡ length (fixed_names ns) + length os = length-append (fixed_names ns) os in
    let first : length (fixed_names ns) ≡ length ns = fixed_many ns in
    omega (arith, same)

pub restored_is : (vs : List LockView) (ns : List (List ℕ)) (os table : List (Option Bound)) (fixed top : ℕ) → table ≡ fixed_names ns ++ os → fixed ≡ length ns →
    named_of (record { locks = vs; names = table; fixed = fixed; top = top }) ≡ restored (locks_of vs) ns os top
restored_is vs ns os table fixed top e same = same_named (locks_of vs) (locks_of vs) table (fixed_names ns ++ os) fixed (length ns) top top refl e same refl

pub restored_named : (vs : List LockView) (entries : List (ℕ × ℕ)) (table : List (Option Bound)) (fixed top : ℕ) → AreKept vs entries → length table ≡ length vs → AreNamedOnce table →
    ((i : ℕ) (l : Lock) (o : Option Bound) → slice_get (locks_of vs) i ≡ Some l → slice_get table i ≡ Some o → IsRightName fixed top i l o) → IsNamed (named_of (record { locks = vs; names = table; fixed = fixed; top = top }))
restored_named vs entries table fixed top k many once each = record {
  right = k.right;
  many = many ∙ sym (length-map vs lock_of);
  each = each;
  once = once;
}

pub restored_kept : (vs : List LockView) (entries : List (ℕ × ℕ)) (table : List (Option Bound)) (fixed top : ℕ) → AreKept vs entries → IsNamed (named_of (record { locks = vs; names = table; fixed = fixed; top = top })) →
    fixed ≤ length vs → top < top_limit → IsKeptNamed (record { locks = vs; names = table; fixed = fixed; top = top })
restored_kept vs entries table fixed top k named places lt =
    let few : waiting (locks_of vs) ≤ 4000000000000 = few_waiting vs entries k in
    let below : top < 2 ^ 63 = lt in
    let all : top + waiting (locks_of vs) < 2 ^ 64 = omega arith in
    record { named = named; places = places; tokens = all }

pub restored_right : (vs : List LockView) (ns : List (List ℕ)) (os table : List (Option Bound)) (fixed top : ℕ) → table ≡ fixed_names ns ++ os → fixed ≡ length ns →
    IsNamed (named_of (record { locks = vs; names = table; fixed = fixed; top = top })) → total (locks_of vs) ≤ top → top < top_limit → IsRestored vs ns os top (record { locks = vs; names = table; fixed = fixed; top = top })
restored_right vs ns os table fixed top e same named counted few = record {
  locks = refl;
  state = restored_is vs ns os table fixed top e same;
  named = subst (λ (s : Named). IsNamed s) (restored_is vs ns os table fixed top e same) named;
  counted = counted;
  few = few;
}

-- ---- why it cannot be

pub cannot_names : (vs : List LockView) (ns : List (List ℕ)) (os : List (Option Bound)) (top : ℕ) (e : NotRestored) → ((e ≡ not_restored.Twice) × ¬ AreNamedOnce (fixed_names ns ++ os)) ⊎ (e ≡ not_restored.Memory) → CannotRestore vs ns os top e
cannot_names vs ns os top e w = elim w [
  | inl p ↦ subst (λ (x : NotRestored). CannotRestore vs ns os top x) (sym p.0) p.1
  | inr p ↦ subst (λ (x : NotRestored). CannotRestore vs ns os top x) (sym p) tt
]

cannot_by : (vs : List LockView) (ns : List (List ℕ)) (os : List (Option Bound)) (top : ℕ) (e : NotRestored) → HasWrongName (restored (locks_of vs) ns os top) e → CannotRestore vs ns os top e
cannot_by vs ns os top not_restored.Locks h = absurd h.wrong.wrong
cannot_by vs ns os top not_restored.Full h = absurd h.wrong.wrong
cannot_by vs ns os top not_restored.Top h = absurd h.wrong.wrong
cannot_by vs ns os top not_restored.Twice h = absurd h.wrong.wrong
cannot_by vs ns os top not_restored.Unnamed h = h
cannot_by vs ns os top not_restored.Free h = h
cannot_by vs ns os top not_restored.Before h = h
cannot_by vs ns os top not_restored.Token h = h
cannot_by vs ns os top not_restored.Hold h = h
cannot_by vs ns os top not_restored.Memory h = tt

pub cannot_name : (vs : List LockView) (ns : List (List ℕ)) (os table : List (Option Bound)) (fixed top : ℕ) (e : NotRestored) → table ≡ fixed_names ns ++ os → fixed ≡ length ns →
    HasWrongName (named_of (record { locks = vs; names = table; fixed = fixed; top = top })) e → CannotRestore vs ns os top e
cannot_name vs ns os table fixed top e is same h = cannot_by vs ns os top e (subst (λ (s : Named). HasWrongName s e) (restored_is vs ns os table fixed top is same) h)

-- ---- what is right can be

is_held_not : (top i fixed : ℕ) (l : Lock) (o : Option Bound) → IsRightName fixed top i l o → o ≡ None → is_some l.holder ≡ true → ⊥
is_held_not top i fixed l None r e held = false≢true (sym (ap (λ (h : Option Holder). is_some h) r.1) ∙ held)
is_held_not top i fixed l (Some b) r e held = none_some b (sym e)

is_free_not : (top i fixed : ℕ) (l : Lock) (o : Option Bound) → IsRightName fixed top i l o → is_some o ≡ true → fixed ≤ i → l.holder ≡ None → ⊥
is_free_not top i fixed l None r e le free = false≢true e
is_free_not top i fixed l (Some b) r e le free = false≢true (sym (ap (λ (h : Option Holder). is_some h) free) ∙ r.1 le)

bound_right : (top i fixed : ℕ) (l : Lock) (o : Option Bound) (b : Bound) → IsRightName fixed top i l o → o ≡ Some b → IsRightBound top l b
bound_right top i fixed l o b r e = (subst (λ (x : Option Bound). IsRightName fixed top i l x) e r).0

none_wrong : (top : ℕ) (l : Lock) (b : Bound) (e : NotRestored) → IsRightBound top l b → IsWrongBound top l b e → ⊥
none_wrong top l b not_restored.Locks r w = w
none_wrong top l b not_restored.Full r w = w
none_wrong top l b not_restored.Top r w = w
none_wrong top l b not_restored.Twice r w = w
none_wrong top l b not_restored.Unnamed r w = w
none_wrong top l b not_restored.Free r w = w
none_wrong top l b not_restored.Before r w = let le : b.before ≤ l.ring.grants = r.before in let lt : l.ring.grants < b.before = w in omega arith
none_wrong top l b not_restored.Token r w = let le : token_in b l.ring.grants ≤ top = r.token in let lt : top < token_in b l.ring.grants = w in omega arith
none_wrong top l b not_restored.Hold r w =
    let k = r.held w.0 w.1 in
    let low : b.before < w.0.token = k.0 in
    let high : w.0.token ≤ l.ring.grants = k.1 in
    elim w.2 [
      | inl p ↦ omega (arith, p, low)
      | inr p ↦ omega (arith, p, high)
    ]
none_wrong top l b not_restored.Memory r w = w

right_name : (s : Named) (e : NotRestored) → IsNamed s → (h : HasWrongName s e) → IsRightName s.fixed s.top h.ring h.lock h.name
right_name s e n h = n.each h.ring h.lock h.name h.there h.named

wrong_not : (s : Named) (e : NotRestored) → IsNamed s → (h : HasWrongName s e) → (b : Bound) → h.name ≡ Some b → IsWrongBound s.top h.lock b e → ⊥
wrong_not s e n h b at w = none_wrong s.top h.lock b e (bound_right s.top h.ring s.fixed h.lock h.name b (right_name s e n h) at) w

as_many : (vs : List LockView) (ns : List (List ℕ)) (os : List (Option Bound)) → length (fixed_names ns ++ os) ≡ length (locks_of vs) → length vs ≡ length ns + length os
as_many vs ns os e =
    let all : length (locks_of vs) ≡ length vs = length-map vs lock_of in
    let both : length (fixed_names ns ++ os) ≡ length (fixed_names ns) + length os = length-append (fixed_names ns) os in
    let first : length (fixed_names ns) ≡ length ns = fixed_many ns in
    omega (arith, e)

pub right_is_restored : RightIsRestored
right_is_restored vs ns os top not_restored.Locks n counted few w = absurd (w (as_many vs ns os n.many))
right_is_restored vs ns os top not_restored.Full n counted few w = let le : top_limit ≤ top = w in let lt : top < top_limit = few in absurd (omega arith)
right_is_restored vs ns os top not_restored.Top n counted few w = let lt : top < total (locks_of vs) = w in absurd (omega (arith, counted))
right_is_restored vs ns os top not_restored.Twice n counted few w = absurd (w n.once)
right_is_restored vs ns os top not_restored.Unnamed n counted few w =
    absurd (is_held_not top w.ring (length ns) w.lock w.name (right_name (restored (locks_of vs) ns os top) not_restored.Unnamed n w) w.wrong.0 w.wrong.2)
right_is_restored vs ns os top not_restored.Free n counted few w =
    absurd (is_free_not top w.ring (length ns) w.lock w.name (right_name (restored (locks_of vs) ns os top) not_restored.Free n w) w.wrong.0 w.wrong.1 w.wrong.2)
right_is_restored vs ns os top not_restored.Before n counted few w = absurd (wrong_not (restored (locks_of vs) ns os top) not_restored.Before n w w.wrong.bound w.wrong.is w.wrong.wrong)
right_is_restored vs ns os top not_restored.Token n counted few w = absurd (wrong_not (restored (locks_of vs) ns os top) not_restored.Token n w w.wrong.bound w.wrong.is w.wrong.wrong)
right_is_restored vs ns os top not_restored.Hold n counted few w = absurd (wrong_not (restored (locks_of vs) ns os top) not_restored.Hold n w w.wrong.bound w.wrong.is w.wrong.wrong)
right_is_restored vs ns os top not_restored.Memory n counted few w = refl
