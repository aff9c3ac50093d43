-- Lines are judged alike without the files before them.
use Rattle.std.proofs.Common.{◌≡◌, ◌≢◌, ℕ, zero, suc, ◌<◌, ◌≤◌, Bool, true, false, List, [], ◌∷◌, length, Option, None, Some, ◌⊎◌, inl, inr, refl, sym, ◌∙◌, ap, subst, arith}
use Rattle.std.specs.Prelude.{nat_le, nat_lt, ◌==◌, ◌&&◌, if◌then◌else◌, slice_get, slice_set, option_map}
use Rattle.std.specs.Str.{bytes_eq}
use Rattle.std.proofs.lemmas.Bool.{false≢true, leb-true, le-leb, lt-ltb, eq-eqb, cases_Bool, and_from}
use Rattle.std.proofs.lemmas.List.{length-set}
use Rattle.std.proofs.lemmas.Option.{slice_get_within}
use Rattle.name_bindings.proofs.Places.{get_set, get_set_same, get_set_other}
use Rattle.name_bindings.specs.Bindings.{Bound, token_in, found, ring_of}
use Rattle.name_bindings.proofs.Found.{some_same, none_some, own_name, there_is, found_nowhere}
use Rattle.name_check.specs.declared.lines.Ring.{Ring}
use Rattle.name_check.specs.declared.lines.Due.{Due}
use Rattle.name_check.specs.declared.lines.Due.TheVariants as due
use Rattle.name_check.specs.declared.wrongs.Wrong.{Wrong}
use Rattle.name_check.specs.declared.wrongs.Wrong.TheVariants as why
use Rattle.name_check.specs.Entries.{Entry, Top, Bind, Free, Grant, Repair, End, Other, File, Judged, is_held}
use Rattle.name_check.specs.Judged.{taken, same_bound, refused_bind, refused_free, refused_grant, refused_repair, refused_end, refused_again, of_ring, refusal, first_held, restated, due_bound, noted, noted_all, AreRight}
use Rattle.name_check.specs.Kept.{is_unknown, is_between, IsSoundRing, IsSoundDue, IsSound}
use Rattle.name_check.specs.Laws.{fixed_only, RemaindersAreNamed}
use Rattle.name_check.proofs.Refusing.{no_ring, top_due, free_due, repair_due, end_due, MayBeGranted, IsBound, IsHanded, IsFixed, grant_due, file_due, MayBeBound, New, Again, Trusted}
use Rattle.name_check.proofs.Scanning.{unknown_from}
use Rattle.name_check.proofs.Sounding.{may_bind, sound_stays}

-- other names of the same rings
abbrev with_names : Judged → List (Option Bound) → Judged
with_names s us = record { rings = s.rings; names = us; fixed = s.fixed; top = s.top; due = s.due }

-- of these names some may not be known yet
record AreAlike (s : Judged) (us : List (Option Bound)) : Type 0 where
  many : length us ≡ length s.names
  each : (i : ℕ) (o : Option Bound) → slice_get s.names i ≡ Some o →
      (slice_get us i ≡ Some o) ⊎ ((slice_get us i ≡ Some None) × (s.fixed ≤ i) × (is_unknown s.due i ≡ true))

-- ---- if no name is unknown, they are the same

same_list : {X : Type 0} (xs ys : List X) → length ys ≡ length xs → ((i : ℕ) (x : X) → slice_get xs i ≡ Some x → slice_get ys i ≡ Some x) → ys ≡ xs
same_list [] [] e h = refl
same_list [] (y ∷ ys) e h = absurd (omega (arith, e))
same_list (x ∷ xs) [] e h = absurd (omega (arith, e))
same_list {X} (x ∷ xs) (y ∷ ys) e h =
    ap (λ (z : X). z ∷ ys) (some_same y x (h zero x refl)) ∙ ap (λ (zs : List X). x ∷ zs) (same_list xs ys (omega (arith, e)) (λ i z f. h (suc i) z f))

all_known : (s : Judged) (us : List (Option Bound)) → AreAlike s us → ((i : ℕ) → is_unknown s.due i ≡ false) → us ≡ s.names
all_known s us a known = same_list s.names us a.many (λ i o e. elim (a.each i o e) [
  | inl p ↦ p
  | inr p ↦ absurd (false≢true (sym (known i) ∙ p.2))
])

known_in : (s : Judged) (d : Due) → s.due ≡ d → ((i : ℕ) → is_unknown d i ≡ false) → (i : ℕ) → is_unknown s.due i ≡ false
known_in s d e known i = ap (λ (x : Due). is_unknown x i) e ∙ known i

granted_known : (s : Judged) (r : ℕ) (g : Ring) → MayBeGranted s.due s.fixed r g → (i : ℕ) → is_unknown s.due i ≡ false
granted_known s r g (IsBound e) = known_in s (due.Granted r) e (λ i. refl)
granted_known s r g (IsHanded e) = known_in s (due.Handed r) e (λ i. refl)
granted_known s r g (IsFixed e idle lt) = known_in s due.Nothing e (λ i. refl)

-- ---- one line

record GoesAlike (s : Judged) (us : List (Option Bound)) (e : Entry) : Type 0 where
  right : refusal (with_names s us) e ≡ None
  after : List (Option Bound)
  now : noted (with_names s us) e ≡ with_names (noted s e) after
  alike : AreAlike (noted s e) after

own_alike : (s : Judged) → AreAlike s s.names
own_alike s = record { many = refl; each = λ i o e. inl e }

goes_known : (s : Judged) (us : List (Option Bound)) (e : Entry) → us ≡ s.names → refusal s e ≡ None → GoesAlike s us e
goes_known s us e same r =
    subst (λ (xs : List (Option Bound)). GoesAlike s xs e) (sym same) (record { right = r; after = (noted s e).names; now = refl; alike = own_alike (noted s e) })

-- a ring of the pool whose name is not known, while bindings are restated
none_idle : (s : Judged) (i : ℕ) (o : Option Bound) (g : Ring) → IsSoundRing false s.fixed s.top s.due i g o → ((b : Bound) → is_between s.due i ≡ false) → s.fixed ≤ i → is_held g ≡ false → o ≡ None
none_idle s i None g w n le idle = refl
none_idle s i (Some b) g w n le idle = absurd (false≢true (sym (n b) ∙ w.2 le idle))

ring_at : (s : Judged) (i : ℕ) (o : Option Bound) → IsSound false s → slice_get s.names i ≡ Some o → (g : Ring) × (slice_get s.rings i ≡ Some g)
ring_at s i o h e = there_is s.rings i (let lt : i < length s.names = slice_get_within s.names i o e in let many : length s.names ≡ length s.rings = h.many in omega arith)

-- a name is known, or its binding is still due
still : (s : Judged) (us : List (Option Bound)) (i low : ℕ) (o : Option Bound) → IsSound false s → slice_get s.names i ≡ Some o → slice_get us i ≡ Some None → s.fixed ≤ i → low ≤ i → is_between s.due i ≡ false →
    (slice_get us i ≡ Some o) ⊎ ((slice_get us i ≡ Some None) × (s.fixed ≤ i) × (is_unknown (restated (first_held low 0 s.rings)) i ≡ true))
still s us i low o h e f pool le n =
    let g = ring_at s i o h e in
    elim (cases_Bool (is_held g.0)) [
      | inl q ↦ inr (f, pool, unknown_from low s.rings i g.0 g.1 q le)
      | inr q ↦ inl (f ∙ ap (λ (x : Option Bound). Some x) (sym (none_idle s i o g.0 (h.each i g.0 o g.1 e) (λ b. n) pool q)))
    ]

goes_top : (s : Judged) (us : List (Option Bound)) (n : ℕ) → IsSound false s → AreAlike s us → s.due ≡ due.Top → refusal s (Top n) ≡ None → GoesAlike s us (Top n)
goes_top s us n h a d r = record {
  right = r;
  after = us;
  now = refl;
  alike = record {
    many = a.many;
    each = λ i o e. elim (a.each i o e) [
      | inl p ↦ inl p
      | inr p ↦ still s us i s.fixed o h e p.0 p.1 p.1 (ap (λ (x : Due). is_between x i) d)
    ];
  };
}

-- ---- bindings that are restated

-- no ring has the name, where the one that has it is not known
nobody_has : (s : Judged) (us : List (Option Bound)) (r : ℕ) (b : Bound) → IsSound false s → AreAlike s us → slice_get s.names r ≡ Some (Some b) → slice_get us r ≡ Some None → found b.name us ≡ None
nobody_has s us r b h a entry none = found_nowhere b.name us (λ j t e same.
    let within : j < length us = slice_get_within us j (Some t) e in
    let many : length us ≡ length s.names = a.many in
    let o = there_is s.names j (omega arith) in
    elim (a.each j o.0 o.1) [
      | inl p ↦
          let is : o.0 ≡ Some t = some_same o.0 (Some t) (sym p ∙ e) in
          let at : j ≡ r = h.once j r t b (o.1 ∙ ap (λ (x : Option Bound). Some x) is) entry same in
          none_some t (some_same None (Some t) (sym none ∙ ap (λ (n : ℕ). slice_get us n) (sym at) ∙ e))
      | inr p ↦ none_some t (some_same None (Some t) (sym p.0 ∙ e))
    ])

same_self : (b : Bound) → same_bound b b ≡ true
same_self b = and_from (bytes_eq b.name b.name) ((b.before == b.before) && (b.floor == b.floor)) (own_name b.name b.name refl) (and_from (b.before == b.before) (b.floor == b.floor) (eq-eqb b.before b.before refl) (eq-eqb b.floor b.floor refl))

trust_ok : (q r : Bool) (fixed : ℕ) (o : Option ℕ) → q ≡ true → r ≡ true → o ≡ None → (if q then (if r then taken fixed o else Some why.WrongFloor) else Some why.WrongBefore) ≡ None
trust_ok true true fixed o a b e = ap (λ (x : Option ℕ). taken fixed x) e
trust_ok true false fixed o a b e = absurd (false≢true b)
trust_ok false r fixed o a b e = absurd (false≢true a)

if_ok : (q : Bool) (w : Wrong) (o : Option Wrong) → q ≡ true → o ≡ None → (if q then o else Some w) ≡ None
if_ok true w o a e = e
if_ok false w o a e = absurd (false≢true a)

again_right : (s : Judged) (us : List (Option Bound)) (r : ℕ) (b : Bound) (g : Ring) → IsSound false s → AreAlike s us → s.due ≡ due.Restated r → slice_get s.rings r ≡ Some g → slice_get s.names r ≡ Some (Some b) →
    refused_again (with_names s us) b g (slice_get us r) ≡ None
again_right s us r b g h a d there entry = elim (a.each r (Some b) entry) [
  | inl p ↦ ap (λ (o : Option (Option Bound)). refused_again (with_names s us) b g o) p ∙ if_ok (same_bound b b) why.OtherBinding None (same_self b) refl
  | inr p ↦
      let w = h.each r g (Some b) there entry in
      let before : b.before < g.grants = w.3 p.1 (by (subst (λ (z : Due). IsSoundDue s.fixed s.rings z) d h.next)) in
      ap (λ (o : Option (Option Bound)). refused_again (with_names s us) b g o) p.0
      ∙ trust_ok (nat_lt b.before g.grants) (nat_le (token_in b g.grants) s.top) s.fixed (ring_of b.name us) (lt-ltb b.before g.grants before) (le-leb (token_in b g.grants) s.top w.0.token)
      (ap (λ (o : Option (ℕ × Bound)). option_map (λ (q : ℕ × Bound). q.0) o) (nobody_has s us r b h a entry p.0))
]
  where
    by : ((k : Ring) → slice_get s.rings r ≡ Some k → is_held k ≡ true) → is_held g ≡ true
    by f = f g there

goes_again : (s : Judged) (us : List (Option Bound)) (r : ℕ) (b : Bound) (g : Ring) → IsSound false s → AreAlike s us → s.due ≡ due.Restated r → slice_get s.rings r ≡ Some g → slice_get s.names r ≡ Some (Some b) → GoesAlike s us (Bind r b)
goes_again s us r b g h a d there entry = record {
  right =
      ap (λ (o : Option Ring). of_ring (refused_bind s.due (with_names s us) r b) o) there
      ∙ ap (λ (x : Due). refused_bind x (with_names s us) r b g) d
      ∙ if_ok (r == r) why.NotRestated (refused_again (with_names s us) b g (slice_get us r)) (eq-eqb r r refl) (again_right s us r b g h a d there entry);
  after = slice_set us r (Some b);
  now = refl;
  alike = record {
    many = length-set us r (Some b) ∙ a.many ∙ sym (length-set s.names r (Some b));
    each = λ i o e. elim (get_set s.names r i (Some b) (Some b) o entry e) [
      | inl p ↦
          let was = there_is us r (within (slice_get_within s.names r (Some b) entry) a.many) in
          inl (ap (λ (n : ℕ). slice_get (slice_set us r (Some b)) n) p.0 ∙ get_set_same us r (Some b) was.0 was.1 ∙ ap (λ (x : Option Bound). Some x) (sym p.1))
      | inr p ↦ other i o p.0 p.1
    ];
  };
}
  where
    within : r < length s.names → length us ≡ length s.names → r < length us
    within lt e = omega (arith, lt, e)

    beyond : (i : ℕ) → i ≢ r → r ≤ i → suc r ≤ i
    beyond i n le = omega (arith, n, le)

    moved : (i : ℕ) (o : Option Bound) → i ≢ r →
        ((slice_get us i ≡ Some o) ⊎ ((slice_get us i ≡ Some None) × (s.fixed ≤ i) × (is_unknown (restated (first_held (suc r) 0 s.rings)) i ≡ true))) →
        (slice_get (slice_set us r (Some b)) i ≡ Some o) ⊎ ((slice_get (slice_set us r (Some b)) i ≡ Some None) × (s.fixed ≤ i) × (is_unknown (due_bound s.due r s.rings) i ≡ true))
    moved i o n (inl q) = inl (get_set_other us r i (Some b) n ∙ q)
    moved i o n (inr q) = inr (get_set_other us r i (Some b) n ∙ q.0, q.1, ap (λ (z : Due). is_unknown (due_bound z r s.rings) i) d ∙ q.2)

    other : (i : ℕ) (o : Option Bound) → i ≢ r → slice_get s.names i ≡ Some o →
        (slice_get (slice_set us r (Some b)) i ≡ Some o) ⊎ ((slice_get (slice_set us r (Some b)) i ≡ Some None) × (s.fixed ≤ i) × (is_unknown (due_bound s.due r s.rings) i ≡ true))
    other i o n f = elim (a.each i o f) [
      | inl p ↦ moved i o n (inl p)
      | inr p ↦
          let near : r ≤ i = leb-true r i (sym (ap (λ (z : Due). is_unknown z i) d) ∙ p.2) in
          moved i o n (still s us i (suc r) o h f p.0 p.1 (beyond i n near) (ap (λ (z : Due). is_between z i) d))
    ]

goes_bound : (s : Judged) (us : List (Option Bound)) (r : ℕ) (b : Bound) (g : Ring) → IsSound false s → AreAlike s us → slice_get s.rings r ≡ Some g → refusal s (Bind r b) ≡ None → MayBeBound s r b g → GoesAlike s us (Bind r b)
goes_bound s us r b g h a there e (New n) = goes_known s us (Bind r b) (all_known s us a (known_in s due.Nothing n.nothing (λ i. refl))) e
goes_bound s us r b g h a there e (Again d entry) = goes_again s us r b g h a d there entry
goes_bound s us r b g h a there e (Trusted d entry t) = absurd (false≢true ((h.each r g None there entry).1 (by (subst (λ (z : Due). IsSoundDue s.fixed s.rings z) d h.next))).0)
  where
    by : ((k : Ring) → slice_get s.rings r ≡ Some k → is_held k ≡ true) → is_held g ≡ true
    by f = f g there

-- ---- all lines

file_known : (s : Judged) → (s.due ≡ due.Nothing) ⊎ ((q : ℕ) × (s.due ≡ due.Handed q)) → (i : ℕ) → is_unknown s.due i ≡ false
file_known s (inl e) = known_in s due.Nothing e (λ i. refl)
file_known s (inr (q, e)) = known_in s (due.Handed q) e (λ i. refl)

goes : (s : Judged) (us : List (Option Bound)) (e : Entry) → IsSound false s → AreAlike s us → refusal s e ≡ None → GoesAlike s us e
goes s us (Top n) h a e = goes_top s us n h a (top_due s.due s.top n e) e
goes s us (Bind r b) h a e =
    let w = no_ring (refused_bind s.due s r b) (slice_get s.rings r) e in
    goes_bound s us r b w.0 h a w.1 e (may_bind false s r b w.0 h w.1 w.2)
goes s us (Free r) h a e =
    let w = no_ring (λ (g : Ring). refused_free s.due r) (slice_get s.rings r) e in
    goes_known s us (Free r) (all_known s us a (known_in s (due.Handed r) (free_due s.due r w.2) (λ i. refl))) e
goes s us (Grant r) h a e =
    let w = no_ring (refused_grant s.due s.fixed s.top r) (slice_get s.rings r) e in
    goes_known s us (Grant r) (all_known s us a (granted_known s r w.0 (grant_due s.due s.fixed s.top r w.0 w.2).0)) e
goes s us (Repair r) h a e =
    let w = no_ring (λ (g : Ring). refused_repair s.due s.top) (slice_get s.rings r) e in
    goes_known s us (Repair r) (all_known s us a (known_in s due.Nothing (repair_due s.due s.top w.2).0 (λ i. refl))) e
goes s us (End r) h a e =
    let w = no_ring (refused_end s.due) (slice_get s.rings r) e in
    goes_known s us (End r) (all_known s us a (known_in s due.Nothing (end_due s.due w.0 w.2).0 (λ i. refl))) e
goes s us Other h a e = record { right = refl; after = us; now = refl; alike = a }
goes s us (File n) h a e = goes_known s us (File n) (all_known s us a (file_known s (file_due s.due (length s.rings) n e).0)) e

all_alike : (s : Judged) (us : List (Option Bound)) (es : List Entry) → IsSound false s → AreAlike s us → AreRight s es →
    AreRight (with_names s us) es × ((noted_all s es).due ≡ due.Nothing → noted_all (with_names s us) es ≡ noted_all s es)
all_alike s us [] h a r = (tt, λ d. ap (λ (xs : List (Option Bound)). with_names s xs) (all_known s us a (known_in s due.Nothing d (λ i. refl))))
all_alike s us (e ∷ es) h a r =
    let g = goes s us e h a r.0 in
    let rest = all_alike (noted s e) g.after es (sound_stays false s e h r.0) g.alike r.1 in (
      (g.right, subst (λ (x : Judged). AreRight x es) (sym g.now) rest.0),
      λ d. ap (λ (x : Judged). noted_all x es) g.now ∙ rest.1 d,
    )

-- ---- without the names of the pool

length_only : (fixed : ℕ) (os : List (Option Bound)) → length (fixed_only fixed os) ≡ length os
length_only fixed [] = refl
length_only zero (o ∷ os) = ap (λ (n : ℕ). suc n) (length_only zero os)
length_only (suc fixed) (o ∷ os) = ap (λ (n : ℕ). suc n) (length_only fixed os)

only_at : (fixed : ℕ) (os : List (Option Bound)) (i : ℕ) (o : Option Bound) → slice_get os i ≡ Some o → (slice_get (fixed_only fixed os) i ≡ Some o) ⊎ ((slice_get (fixed_only fixed os) i ≡ Some None) × (fixed ≤ i))
only_at fixed [] i o e = absurd (none_some o e)
only_at zero (x ∷ os) zero o e = inr (refl, omega arith)
only_at zero (x ∷ os) (suc i) o e = elim (only_at zero os i o e) [
  | inl p ↦ inl p
  | inr p ↦ inr (p.0, omega arith)
]
only_at (suc fixed) (x ∷ os) zero o e = inl e
only_at (suc fixed) (x ∷ os) (suc i) o e = elim (only_at fixed os i o e) [
  | inl p ↦ inl p
  | inr p ↦ let le : fixed ≤ i = p.1 in inr (p.0, omega arith)
]

pub remainders_are_named : RemaindersAreNamed
remainders_are_named s es h d r = all_alike s (fixed_only s.fixed s.names) es h (record {
  many = length_only s.fixed s.names;
  each = λ i o e. elim (only_at s.fixed s.names i o e) [
    | inl p ↦ inl p
    | inr p ↦ inr (p.0, p.1, ap (λ (z : Due). is_unknown z i) d)
  ];
}) r
