-- What is sound stays so after each right line.
use Rattle.std.proofs.Common.{◌≡◌, ◌≢◌, ℕ, zero, suc, ◌+◌, ◌-◌, ◌<◌, ◌≤◌, Bool, true, false, List, [], ◌∷◌, ◌++◌, length, Option, None, Some, ◌⊎◌, inl, inr, refl, sym, ◌∙◌, ap, subst, arith}
use Rattle.std.specs.Prelude.{Result, Ok, Err, OnOk, IfErr, nat_lt, if◌then◌else◌, slice_get, slice_set}
use Rattle.std.proofs.lemmas.Bool.{eq-eqb, eqb-true, ne_eqb, leb-true, ltb-true, ltb-false, false≢true}
use Rattle.std.proofs.lemmas.List.{length-set, length-append}
use Rattle.std.proofs.lemmas.Option.{slice_get_within}
use Rattle.name_bindings.proofs.Places.{get_set}
use Rattle.name_bindings.specs.Bindings.{Bound, token_in, AreNamedOnce, frees}
use Rattle.name_bindings.proofs.Found.{some_same, none_some, there_is}
use Rattle.name_check.specs.declared.lines.Ring.{Ring}
use Rattle.name_check.specs.declared.lines.Due.{Due}
use Rattle.name_check.specs.declared.lines.Due.TheVariants as due
use Rattle.name_check.specs.Entries.{Entry, Top, Bind, Free, Grant, Repair, End, Other, File, Judged, fresh_ring, fresh_rings, is_held}
use Rattle.name_check.specs.Judged.{refused_bind, refused_free, refused_grant, refused_repair, refused_end, refusal, first_held, restated, due_bound, passed, repaired, ended, closed, noted}
use Rattle.name_check.specs.declared.wrongs.Refused.{Refused}
use Rattle.name_check.specs.declared.wrongs.Refused.TheVariants as refused
use Rattle.name_check.specs.Kept.{is_unknown, is_between, IsBoundWithin, IsSoundRing, IsSoundDue, IsSound, IsPut, IsNoted, IsRefused}
use Rattle.name_check.proofs.Refusing.{no_ring, top_due, free_due, repair_due, end_due, MayBeGranted, IsBound, IsHanded, IsFixed, grant_due, file_due, IsNew, IsTrusted, MayBeBound, New, Again, Trusted, bind_due}
use Rattle.name_check.proofs.Scanning.{never_between, unknown_from, due_from}
use Rattle.name_check.proofs.Tabling.{once_bound, once_forgot}

never : {A : Type 0} → false ≡ true → A
never {A} e = absurd (false≢true e)

-- the name of a ring that is there
pub name_at : (trust : Bool) (s : Judged) (r : ℕ) (g : Ring) → IsSound trust s → slice_get s.rings r ≡ Some g → (o : Option Bound) × (slice_get s.names r ≡ Some o)
name_at trust s r g h there = there_is s.names r (let lt : r < length s.rings = slice_get_within s.rings r g there in let many : length s.names ≡ length s.rings = h.many in omega arith)

-- ---- the number of all grants

top_ring : (trust : Bool) (fixed top : ℕ) (rings : List Ring) (i : ℕ) (g : Ring) (o : Option Bound) → slice_get rings i ≡ Some g → IsSoundRing trust fixed top due.Top i g o →
    IsSoundRing trust fixed top (restated (first_held fixed 0 rings)) i g o
top_ring trust fixed top rings i g None e r = (r.0, λ h. ((r.1 h).0, unknown_from fixed rings i g e h r.0), never_between (first_held fixed 0 rings) i)
top_ring trust fixed top rings i g (Some b) e r = (
  r.0,
  λ q. never (sym (never_between (first_held fixed 0 rings) i) ∙ q),
  λ le idle. never (r.2 le idle),
  r.3,
)

sound_top : (trust : Bool) (s : Judged) (n : ℕ) → IsSound trust s → s.due ≡ due.Top → IsSound trust (noted s (Top n))
sound_top trust s n h d = record {
  many = h.many;
  room = h.room;
  counted = h.counted;
  each = λ i g o e f. top_ring trust s.fixed s.top s.rings i g o e (subst (λ (x : Due). IsSoundRing trust s.fixed s.top x i g o) d (h.each i g o e f));
  once = h.once;
  next = due_from s.fixed s.fixed s.rings;
}

-- ---- bindings

-- another ring, when a name is bound
beside_new : (trust : Bool) (fixed top r i : ℕ) (g : Ring) (o : Option Bound) → i ≢ r → IsSoundRing trust fixed top due.Nothing i g o → IsSoundRing trust fixed top (due.Granted r) i g o
beside_new trust fixed top r i g None n w = (w.0, λ h. never (w.1 h).1, ne_eqb r i (λ e. n (sym e)))
beside_new trust fixed top r i g (Some b) n w = (w.0, λ q. absurd (n (sym (eqb-true r i q))), λ le idle. never (w.2 le idle), w.3)

-- another ring, when a binding is restated
beside_again : (trust : Bool) (fixed top r i : ℕ) (rings : List Ring) (g : Ring) (o : Option Bound) → i ≢ r → slice_get rings i ≡ Some g → IsSoundRing trust fixed top (due.Restated r) i g o →
    IsSoundRing trust fixed top (restated (first_held (suc r) 0 rings)) i g o
beside_again trust fixed top r i rings g None n e w = (
  w.0,
  λ h.
      let le : r ≤ i = leb-true r i (w.1 h).1 in
      let more : suc r ≤ i = further r i le n in
      ((w.1 h).0, unknown_from (suc r) rings i g e h more),
  never_between (first_held (suc r) 0 rings) i,
)
  where
    further : (r i : ℕ) → r ≤ i → i ≢ r → suc r ≤ i
    further r i le n = omega (arith, le, n)
beside_again trust fixed top r i rings g (Some b) n e w = (w.0, λ q. never (sym (never_between (first_held (suc r) 0 rings) i) ∙ q), λ le idle. never (w.2 le idle), w.3)

-- the ring itself
own_new : (trust : Bool) (s : Judged) (r : ℕ) (b : Bound) (g : Ring) → IsNew s r b g → IsSoundRing trust s.fixed s.top (due.Granted r) r g (Some b)
own_new trust s r b g n = (
  record {
    before = let e : b.before ≡ g.grants = n.before in omega arith;
    token = let e : b.before ≡ g.grants = n.before in let f : b.floor ≡ s.top = n.floor in omega arith;
  },
  λ q. n.idle,
  λ le idle. eq-eqb r r refl,
  λ le held. never (sym n.idle ∙ held),
)

own_again : (trust : Bool) (s : Judged) (r : ℕ) (b : Bound) (g : Ring) → IsBoundWithin s.top g b → is_held g ≡ true → (s.fixed ≤ r → is_held g ≡ true → b.before < g.grants) → IsSoundRing trust s.fixed s.top (restated (first_held (suc r) 0 s.rings)) r g (Some b)
own_again trust s r b g w h more = (w, λ q. never (sym (never_between (first_held (suc r) 0 s.rings) r) ∙ q), λ le idle. never (sym idle ∙ h), more)

-- a ring of the pool that nobody holds has no name, where nothing is due
pub nameless : (trust : Bool) (fixed top i : ℕ) (g : Ring) (o : Option Bound) → fixed ≤ i → is_held g ≡ false → IsSoundRing trust fixed top due.Nothing i g o → o ≡ None
nameless trust fixed top i g None le idle w = refl
nameless trust fixed top i g (Some b) le idle w = never (w.2 le idle)

-- a binding within, if it was there before
within_before : (trust : Bool) (fixed top i : ℕ) (d : Due) (g : Ring) (b : Bound) → IsSoundRing trust fixed top d i g (Some b) → IsBoundWithin top g b
within_before trust fixed top i d g b w = w.0

abbrev with_name : Judged → ℕ → Bound → Due → Judged
with_name s r b d = record { rings = s.rings; names = slice_set s.names r (Some b); fixed = s.fixed; top = s.top; due = d }

-- a ring gets a name
named : (trust : Bool) (s : Judged) (r : ℕ) (b : Bound) (g : Ring) (was : Option Bound) (d : Due) → IsSound trust s → slice_get s.rings r ≡ Some g → slice_get s.names r ≡ Some was →
    IsSoundRing trust s.fixed s.top d r g (Some b) →
    ((i : ℕ) (k : Ring) (o : Option Bound) → i ≢ r → slice_get s.rings i ≡ Some k → IsSoundRing trust s.fixed s.top s.due i k o → IsSoundRing trust s.fixed s.top d i k o) →
    AreNamedOnce (slice_set s.names r (Some b)) → IsSoundDue s.fixed s.rings d → IsSound trust (with_name s r b d)
named trust s r b g was d h there entry own beside once next = record {
  many = length-set s.names r (Some b) ∙ h.many;
  room = h.room;
  counted = h.counted;
  each = λ i k o e f. elim (get_set s.names r i (Some b) was o entry f) [
    | inl p ↦
        let same : g ≡ k = some_same g k (sym there ∙ ap (λ (n : ℕ). slice_get s.rings n) (sym p.0) ∙ e) in
        subst (λ (x : Option Bound). IsSoundRing trust s.fixed s.top d i k x) (sym p.1)
        (subst (λ (x : Ring). IsSoundRing trust s.fixed s.top d i x (Some b)) same
        (subst (λ (n : ℕ). IsSoundRing trust s.fixed s.top d n g (Some b)) (sym p.0) own))
    | inr p ↦ beside i k o p.0 e (h.each i k o e p.1)
  ];
  once = once;
  next = next;
}

-- what is there, written again
pub set_same : {X : Type 0} (xs : List X) (i : ℕ) (x : X) → slice_get xs i ≡ Some x → slice_set xs i x ≡ xs
set_same [] i x e = refl
set_same {X} (y ∷ xs) zero x e = ap (λ (z : X). z ∷ xs) (sym (some_same y x e))
set_same {X} (y ∷ xs) (suc i) x e = ap (λ (zs : List X). y ∷ zs) (set_same xs i x e)

sound_new : (trust : Bool) (s : Judged) (r : ℕ) (b : Bound) (g : Ring) → IsSound trust s → slice_get s.rings r ≡ Some g → IsNew s r b g → IsSound trust (with_name s r b (due.Granted r))
sound_new trust s r b g h there n =
    let w = name_at trust s r g h there in
    let none : w.0 ≡ None = nameless trust s.fixed s.top r g w.0 n.pool n.idle (subst (λ (x : Due). IsSoundRing trust s.fixed s.top x r g w.0) n.nothing (h.each r g w.0 there w.1)) in
    let entry : slice_get s.names r ≡ Some None = w.1 ∙ ap (λ (o : Option Bound). Some o) none in
    named trust s r b g None (due.Granted r) h there entry (own_new trust s r b g n)
    (λ i k o q e x. beside_new trust s.fixed s.top r i k o q (subst (λ (z : Due). IsSoundRing trust s.fixed s.top z i k o) n.nothing x))
    (once_bound s.names r b entry n.nobody h.once) n.pool

held_due : (trust : Bool) (s : Judged) (r : ℕ) (g : Ring) → IsSound trust s → s.due ≡ due.Restated r → slice_get s.rings r ≡ Some g → is_held g ≡ true
held_due trust s r g h d there = by (subst (λ (x : Due). IsSoundDue s.fixed s.rings x) d h.next)
  where
    by : ((k : Ring) → slice_get s.rings r ≡ Some k → is_held k ≡ true) → is_held g ≡ true
    by f = f g there

restate : (trust : Bool) (s : Judged) (r : ℕ) (b : Bound) (g : Ring) (was : Option Bound) → IsSound trust s → s.due ≡ due.Restated r → slice_get s.rings r ≡ Some g → slice_get s.names r ≡ Some was →
    IsBoundWithin s.top g b → (s.fixed ≤ r → is_held g ≡ true → b.before < g.grants) → AreNamedOnce (slice_set s.names r (Some b)) → IsSound trust (with_name s r b (restated (first_held (suc r) 0 s.rings)))
restate trust s r b g was h d there entry within more once =
    named trust s r b g was (restated (first_held (suc r) 0 s.rings)) h there entry (own_again trust s r b g within (held_due trust s r g h d there) more)
    (λ i k o q e x. beside_again trust s.fixed s.top r i s.rings k o q e (subst (λ (z : Due). IsSoundRing trust s.fixed s.top z i k o) d x))
    once (due_from s.fixed (suc r) s.rings)

sound_again : (trust : Bool) (s : Judged) (r : ℕ) (b : Bound) (g : Ring) → IsSound trust s → s.due ≡ due.Restated r → slice_get s.rings r ≡ Some g → slice_get s.names r ≡ Some (Some b) →
    IsSound trust (with_name s r b (restated (first_held (suc r) 0 s.rings)))
sound_again trust s r b g h d there entry =
    restate trust s r b g (Some b) h d there entry (within_before trust s.fixed s.top r s.due g b (h.each r g (Some b) there entry)) (h.each r g (Some b) there entry).3
    (subst (λ (os : List (Option Bound)). AreNamedOnce os) (sym (set_same s.names r (Some b) entry)) h.once)

-- the name of a ring that is restated is unknown, or is another one's
sound_trusted : (trust : Bool) (s : Judged) (r : ℕ) (b : Bound) (g : Ring) → IsSound trust s → s.due ≡ due.Restated r → slice_get s.rings r ≡ Some g → slice_get s.names r ≡ Some None → IsTrusted s b g →
    IsSound trust (with_name s r b (restated (first_held (suc r) 0 s.rings)))
sound_trusted trust s r b g h d there entry t =
    restate trust s r b g None h d there entry (record { before = let lt : b.before < g.grants = t.before in omega arith; token = t.token }) (λ le held. t.before) (once_bound s.names r b entry t.nobody h.once)

-- after a binding
due_after : (d e : Due) (r : ℕ) (rings : List Ring) → d ≡ e → due_bound d r rings ≡ due_bound e r rings
due_after d e r rings q = ap (λ (x : Due). due_bound x r rings) q

bound_by : (trust : Bool) (s : Judged) (r : ℕ) (b : Bound) (g : Ring) → IsSound trust s → slice_get s.rings r ≡ Some g → MayBeBound s r b g → IsSound trust (noted s (Bind r b))
bound_by trust s r b g h there (New n) =
    subst (λ (x : Due). IsSound trust (with_name s r b x)) (sym (due_after s.due due.Nothing r s.rings n.nothing)) (sound_new trust s r b g h there n)
bound_by trust s r b g h there (Again d entry) =
    subst (λ (x : Due). IsSound trust (with_name s r b x)) (sym (due_after s.due (due.Restated r) r s.rings d)) (sound_again trust s r b g h d there entry)
bound_by trust s r b g h there (Trusted d entry t) =
    subst (λ (x : Due). IsSound trust (with_name s r b x)) (sym (due_after s.due (due.Restated r) r s.rings d)) (sound_trusted trust s r b g h d there entry t)

pub may_bind : (trust : Bool) (s : Judged) (r : ℕ) (b : Bound) (g : Ring) → IsSound trust s → slice_get s.rings r ≡ Some g → refused_bind s.due s r b g ≡ None → MayBeBound s r b g
may_bind trust s r b g h there e = let w = name_at trust s r g h there in bind_due s r b g w.0 w.1 s.due refl e

-- ---- a name that is forgotten

free_own : (trust : Bool) (fixed top r : ℕ) (g : Ring) (o : Option Bound) → fixed ≤ r → IsSoundRing trust fixed top (due.Handed r) r g o → IsSoundRing trust fixed top due.Nothing r g None
free_own trust fixed top r g None le w = (le, λ h. never (w.1 h).1, refl)
free_own trust fixed top r g (Some b) le w = (le, λ h. never (sym (w.1 (eq-eqb r r refl)) ∙ h), refl)

free_beside : (trust : Bool) (fixed top r i : ℕ) (g : Ring) (o : Option Bound) → i ≢ r → IsSoundRing trust fixed top (due.Handed r) i g o → IsSoundRing trust fixed top due.Nothing i g o
free_beside trust fixed top r i g None n w = (w.0, λ h. never (w.1 h).1, refl)
free_beside trust fixed top r i g (Some b) n w = (w.0, λ q. never q, λ le idle. absurd (n (sym (eqb-true r i (w.2 le idle)))), w.3)

pub sound_free : (trust : Bool) (s : Judged) (r : ℕ) (g : Ring) → IsSound trust s → s.due ≡ due.Handed r → slice_get s.rings r ≡ Some g → IsSound trust (noted s (Free r))
sound_free trust s r g h d there =
    let w = name_at trust s r g h there in
    let places : (s.fixed ≤ r) × (r < length s.rings) = subst (λ (x : Due). IsSoundDue s.fixed s.rings x) d h.next in
    let pool : s.fixed ≤ r = places.0 in
    record {
      many = length-set s.names r None ∙ h.many;
      room = h.room;
      counted = h.counted;
      each = λ i k o e f. elim (get_set s.names r i None w.0 o w.1 f) [
        | inl p ↦
            let same : g ≡ k = some_same g k (sym there ∙ ap (λ (n : ℕ). slice_get s.rings n) (sym p.0) ∙ e) in
            let own = free_own trust s.fixed s.top r g w.0 pool (subst (λ (x : Due). IsSoundRing trust s.fixed s.top x r g w.0) d (h.each r g w.0 there w.1)) in
            subst (λ (x : Option Bound). IsSoundRing trust s.fixed s.top due.Nothing i k x) (sym p.1)
            (subst (λ (x : Ring). IsSoundRing trust s.fixed s.top due.Nothing i x None) same
            (subst (λ (n : ℕ). IsSoundRing trust s.fixed s.top due.Nothing n g None) (sym p.0) own))
        | inr p ↦ free_beside trust s.fixed s.top r i k o p.0 (subst (λ (x : Due). IsSoundRing trust s.fixed s.top x i k o) d (h.each i k o e p.1))
      ];
      once = once_forgot s.names r w.0 w.1 h.once;
      next = tt;
    }

-- ---- a ring that changes

abbrev with_ring : Judged → ℕ → Ring → ℕ → Due → Judged
with_ring s r k top d = record { rings = slice_set s.rings r k; names = s.names; fixed = s.fixed; top = top; due = d }

changed : (trust : Bool) (s : Judged) (r : ℕ) (g k : Ring) (top : ℕ) (d : Due) → IsSound trust s → slice_get s.rings r ≡ Some g → s.top ≤ top → k.grants ≤ top →
    ((o : Option Bound) → IsSoundRing trust s.fixed s.top s.due r g o → IsSoundRing trust s.fixed top d r k o) →
    ((i : ℕ) (x : Ring) (o : Option Bound) → i ≢ r → IsSoundRing trust s.fixed s.top s.due i x o → IsSoundRing trust s.fixed top d i x o) →
    IsSoundDue s.fixed (slice_set s.rings r k) d → IsSound trust (with_ring s r k top d)
changed trust s r g k top d h there more few own beside next = record {
  many = h.many ∙ sym (length-set s.rings r k);
  room = subst (λ (n : ℕ). s.fixed ≤ n) (sym (length-set s.rings r k)) h.room;
  counted = λ i x e. elim (get_set s.rings r i k g x there e) [
    | inl p ↦ subst (λ (z : Ring). z.grants ≤ top) (sym p.1) few
    | inr p ↦ let le : x.grants ≤ s.top = h.counted i x p.1 in omega arith
  ];
  each = λ i x o e f. elim (get_set s.rings r i k g x there e) [
    | inl p ↦
        subst (λ (z : Ring). IsSoundRing trust s.fixed top d i z o) (sym p.1)
        (subst (λ (n : ℕ). IsSoundRing trust s.fixed top d n k o) (sym p.0)
        (own o (h.each r g o there (subst (λ (n : ℕ). slice_get s.names n ≡ Some o) p.0 f))))
    | inr p ↦ beside i x o p.0 (h.each i x o p.1 f)
  ];
  once = h.once;
  next = next;
}

-- one more grant is within one more of all
more_within : (top : ℕ) (g : Ring) (held : Option ℕ) (b : Bound) → IsBoundWithin top g b → IsBoundWithin (top + 1) (record { grants = g.grants + 1; held = held }) b
more_within top g held b w =
    let before : b.before ≤ g.grants = w.before in
    let token : b.floor + (g.grants - b.before) ≤ top = w.token in
    record { before = omega arith; token = omega arith }

top_within : (top : ℕ) (g : Ring) (b : Bound) → IsBoundWithin top g b → IsBoundWithin (top + 1) g b
top_within top g b w = let token : token_in b g.grants ≤ top = w.token in record { before = w.before; token = omega arith }

-- what is due of a ring that may be granted is of no other one
record OnlyOf (d : Due) (r : ℕ) : Type 0 where
  known : (i : ℕ) → is_unknown d i ≡ false
  others : (i : ℕ) → i ≢ r → is_between d i ≡ false

only_of : (d : Due) (fixed r : ℕ) (g : Ring) → MayBeGranted d fixed r g → OnlyOf d r
only_of d fixed r g (IsBound e) = subst (λ (x : Due). OnlyOf x r) (sym e) (record { known = λ i. refl; others = λ i n. ne_eqb r i (λ q. n (sym q)) })
only_of d fixed r g (IsHanded e) = subst (λ (x : Due). OnlyOf x r) (sym e) (record { known = λ i. refl; others = λ i n. ne_eqb r i (λ q. n (sym q)) })
only_of d fixed r g (IsFixed e idle lt) = subst (λ (x : Due). OnlyOf x r) (sym e) (record { known = λ i. refl; others = λ i n. refl })

-- a ring that may be granted has a name
unnamed : {A : Type 0} (d : Due) (fixed r : ℕ) (g : Ring) → MayBeGranted d fixed r g → fixed ≤ r → is_between d r ≡ false → A
unnamed {A} d fixed r g (IsBound e) le q = never (sym q ∙ ap (λ (x : Due). is_between x r) e ∙ eq-eqb r r refl)
unnamed {A} d fixed r g (IsHanded e) le q = never (sym q ∙ ap (λ (x : Due). is_between x r) e ∙ eq-eqb r r refl)
unnamed {A} d fixed r g (IsFixed e idle lt) le q = absurd (omega (arith, lt, le))

grant_own : (trust : Bool) (fixed top r : ℕ) (d : Due) (g : Ring) (o : Option Bound) → MayBeGranted d fixed r g → IsSoundRing trust fixed top d r g o →
    IsSoundRing trust fixed (top + 1) due.Nothing r (record { grants = g.grants + 1; held = Some (g.grants + 1) }) o
grant_own trust fixed top r d g None m w = unnamed d fixed r g m w.0 w.2
grant_own trust fixed top r d g (Some b) m w = (more_within top g (Some (g.grants + 1)) b w.0, λ q. never q, λ le idle. never (sym idle), λ le held. let before : b.before ≤ g.grants = w.0.before in omega arith)

grant_beside : (trust : Bool) (fixed top r i : ℕ) (d : Due) (g x : Ring) (o : Option Bound) → MayBeGranted d fixed r g → i ≢ r → IsSoundRing trust fixed top d i x o → IsSoundRing trust fixed (top + 1) due.Nothing i x o
grant_beside trust fixed top r i d g x None m n w = (w.0, λ h. never (sym ((only_of d fixed r g m).known i) ∙ (w.1 h).1), refl)
grant_beside trust fixed top r i d g x (Some b) m n w = (top_within top x b w.0, λ q. never q, λ le idle. never (sym ((only_of d fixed r g m).others i n) ∙ w.2 le idle), w.3)

sound_grant : (trust : Bool) (s : Judged) (r : ℕ) (g : Ring) → IsSound trust s → slice_get s.rings r ≡ Some g → MayBeGranted s.due s.fixed r g → IsSound trust (noted s (Grant r))
sound_grant trust s r g h there m =
    let few : g.grants ≤ s.top = h.counted r g there in
    subst (λ (o : Option Ring). IsSound trust (record { rings = passed o r s.rings; names = s.names; fixed = s.fixed; top = s.top + 1; due = due.Nothing })) (sym there)
    (changed trust s r g (record { grants = g.grants + 1; held = Some (g.grants + 1) }) (s.top + 1) due.Nothing h there (omega arith) (omega arith)
    (λ o w. grant_own trust s.fixed s.top r s.due g o m w) (λ i x o n w. grant_beside trust s.fixed s.top r i s.due g x o m n w) tt)

repair_own : (trust : Bool) (fixed top r : ℕ) (g : Ring) (o : Option Bound) → IsSoundRing trust fixed top due.Nothing r g o → IsSoundRing trust fixed (top + 1) due.Nothing r (record { grants = g.grants + 1; held = g.held }) o
repair_own trust fixed top r g None w = (w.0, w.1, refl)
repair_own trust fixed top r g (Some b) w = (more_within top g g.held b w.0, w.1, w.2, λ le held. let lt : b.before < g.grants = w.3 le held in omega arith)

repair_beside : (trust : Bool) (fixed top i : ℕ) (x : Ring) (o : Option Bound) → IsSoundRing trust fixed top due.Nothing i x o → IsSoundRing trust fixed (top + 1) due.Nothing i x o
repair_beside trust fixed top i x None w = w
repair_beside trust fixed top i x (Some b) w = (top_within top x b w.0, w.1, w.2, w.3)

sound_repair : (trust : Bool) (s : Judged) (r : ℕ) (g : Ring) → IsSound trust s → slice_get s.rings r ≡ Some g → s.due ≡ due.Nothing → IsSound trust (noted s (Repair r))
sound_repair trust s r g h there d =
    let few : g.grants ≤ s.top = h.counted r g there in
    subst (λ (o : Option Ring). IsSound trust (record { rings = repaired o r s.rings; names = s.names; fixed = s.fixed; top = s.top + 1; due = s.due })) (sym there)
    (subst (λ (x : Due). IsSound trust (with_ring s r (record { grants = g.grants + 1; held = g.held }) (s.top + 1) x)) (sym d)
    (changed trust s r g (record { grants = g.grants + 1; held = g.held }) (s.top + 1) due.Nothing h there (omega arith) (omega arith)
    (λ o w. repair_own trust s.fixed s.top r g o (subst (λ (x : Due). IsSoundRing trust s.fixed s.top x r g o) d w))
    (λ i x o n w. repair_beside trust s.fixed s.top i x o (subst (λ (z : Due). IsSoundRing trust s.fixed s.top z i x o) d w)) tt))

-- ---- the end of a hold

abbrev due_ended : ℕ → ℕ → Due
due_ended r fixed = if nat_lt r fixed then due.Nothing else due.Handed r

ended_known : (r i : ℕ) (q : Bool) → is_unknown (if q then due.Nothing else due.Handed r) i ≡ false
ended_known r i true = refl
ended_known r i false = refl

ended_beside : (r i : ℕ) (q : Bool) → i ≢ r → is_between (if q then due.Nothing else due.Handed r) i ≡ false
ended_beside r i true n = refl
ended_beside r i false n = ne_eqb r i (λ e. n (sym e))

ended_between : (r fixed : ℕ) (q : Bool) → nat_lt r fixed ≡ q → fixed ≤ r → is_between (if q then due.Nothing else due.Handed r) r ≡ true
ended_between r fixed true e le = absurd (let lt = ltb-true r fixed e in omega (arith, lt, le))
ended_between r fixed false e le = eq-eqb r r refl

ended_due : (r fixed : ℕ) (rings : List Ring) (q : Bool) → r < length rings → nat_lt r fixed ≡ q → IsSoundDue fixed rings (if q then due.Nothing else due.Handed r)
ended_due r fixed rings true lt e = tt
ended_due r fixed rings false lt e = (ltb-false r fixed e, lt)

end_own : (trust : Bool) (fixed top r : ℕ) (g : Ring) (o : Option Bound) → is_held g ≡ true → IsSoundRing trust fixed top due.Nothing r g o →
    IsSoundRing trust fixed top (due_ended r fixed) r (record { grants = g.grants; held = None }) o
end_own trust fixed top r g None held w = never (w.1 held).1
end_own trust fixed top r g (Some b) held w = (record { before = w.0.before; token = w.0.token }, λ q. refl, λ le idle. ended_between r fixed (nat_lt r fixed) refl le, λ le now. never now)

end_beside : (trust : Bool) (fixed top r i : ℕ) (x : Ring) (o : Option Bound) → i ≢ r → IsSoundRing trust fixed top due.Nothing i x o → IsSoundRing trust fixed top (due_ended r fixed) i x o
end_beside trust fixed top r i x None n w = (w.0, λ h. never (w.1 h).1, ended_beside r i (nat_lt r fixed) n)
end_beside trust fixed top r i x (Some b) n w = (w.0, λ q. never (sym (ended_beside r i (nat_lt r fixed) n) ∙ q), λ le idle. never (w.2 le idle), w.3)

sound_end : (trust : Bool) (s : Judged) (r : ℕ) (g : Ring) → IsSound trust s → slice_get s.rings r ≡ Some g → s.due ≡ due.Nothing → is_held g ≡ true → IsSound trust (noted s (End r))
sound_end trust s r g h there d held =
    let few : g.grants ≤ s.top = h.counted r g there in
    subst (λ (o : Option Ring). IsSound trust (record { rings = ended o r s.rings; names = s.names; fixed = s.fixed; top = s.top; due = due_ended r s.fixed })) (sym there)
    (changed trust s r g (record { grants = g.grants; held = None }) s.top (due_ended r s.fixed) h there (omega arith) few
    (λ o w. end_own trust s.fixed s.top r g o held (subst (λ (x : Due). IsSoundRing trust s.fixed s.top x r g o) d w))
    (λ i x o n w. end_beside trust s.fixed s.top r i x o n (subst (λ (z : Due). IsSoundRing trust s.fixed s.top z i x o) d w))
    (ended_due r s.fixed (slice_set s.rings r (record { grants = g.grants; held = None })) (nat_lt r s.fixed)
    (subst (λ (n : ℕ). r < n) (sym (length-set s.rings r (record { grants = g.grants; held = None }))) (slice_get_within s.rings r g there)) refl))

-- ---- the next file

-- what is at a place of two lists
pub joined : {X : Type 0} (xs ys : List X) (i : ℕ) (y : X) → slice_get (xs ++ ys) i ≡ Some y → (slice_get xs i ≡ Some y) ⊎ ((j : ℕ) × (i ≡ length xs + j) × (slice_get ys j ≡ Some y))
joined [] ys i y e = inr (i, omega arith, e)
joined (x ∷ xs) ys zero y e = inl e
joined (x ∷ xs) ys (suc i) y e = elim (joined xs ys i y e) [
  | inl p ↦ inl p
  | inr p ↦ let at : i ≡ length xs + p.0 = p.1 in inr (p.0, omega arith, p.2)
]

is_fresh : (n j : ℕ) (g : Ring) → slice_get (fresh_rings n) j ≡ Some g → fresh_ring ≡ g
is_fresh zero j g e = absurd (none_some g e)
is_fresh (suc n) zero g e = some_same fresh_ring g e
is_fresh (suc n) (suc j) g e = is_fresh n j g e

pub free_name : (n j : ℕ) (o : Option Bound) → slice_get (frees n) j ≡ Some o → o ≡ None
free_name zero j o e = absurd (none_some o e)
free_name (suc n) zero o e = sym (some_same None o e)
free_name (suc n) (suc j) o e = free_name n j o e

length_fresh : (n : ℕ) → length (fresh_rings n) ≡ n
length_fresh zero = refl
length_fresh (suc n) = ap (λ (k : ℕ). suc k) (length_fresh n)

pub length_frees : (n : ℕ) → length (frees n) ≡ n
length_frees zero = refl
length_frees (suc n) = ap (λ (k : ℕ). suc k) (length_frees n)

pub named_before : (os : List (Option Bound)) (n i : ℕ) (b : Bound) → slice_get (os ++ frees n) i ≡ Some (Some b) → slice_get os i ≡ Some (Some b)
named_before os n i b e = elim (joined os (frees n) i (Some b) e) [
  | inl p ↦ p
  | inr p ↦ absurd (none_some b (sym (free_name n p.0 (Some b) p.2)))
]

file_ring : (trust : Bool) (fixed top i : ℕ) (g : Ring) (o : Option Bound) → IsSoundRing trust fixed top due.Nothing i g o → IsSoundRing trust fixed top due.Top i g o
file_ring trust fixed top i g None w = (w.0, λ h. ((w.1 h).0, refl), refl)
file_ring trust fixed top i g (Some b) w = w

grown : (trust : Bool) (s : Judged) (n : ℕ) → IsSound trust s → s.due ≡ due.Nothing →
    IsSound trust (record { rings = s.rings ++ fresh_rings n; names = s.names ++ frees n; fixed = s.fixed; top = s.top; due = due.Top })
grown trust s n h d =
    let many : length s.names ≡ length s.rings = h.many in
    let room : s.fixed ≤ length s.rings = h.room in
    let rings : length (s.rings ++ fresh_rings n) ≡ length s.rings + n = length-append s.rings (fresh_rings n) ∙ ap (λ (k : ℕ). length s.rings + k) (length_fresh n) in
    let names : length (s.names ++ frees n) ≡ length s.names + n = length-append s.names (frees n) ∙ ap (λ (k : ℕ). length s.names + k) (length_frees n) in
    record {
      many = omega arith;
      room = omega arith;
      counted = λ i g e. elim (joined s.rings (fresh_rings n) i g e) [
        | inl p ↦ h.counted i g p
        | inr p ↦ subst (λ (x : Ring). x.grants ≤ s.top) (is_fresh n p.0 g p.2) (omega arith)
      ];
      each = λ i g o e f. elim (joined s.rings (fresh_rings n) i g e) [
        | inl p ↦ elim (joined s.names (frees n) i o f) [
          | inl q ↦ file_ring trust s.fixed s.top i g o (subst (λ (x : Due). IsSoundRing trust s.fixed s.top x i g o) d (h.each i g o p q))
          | inr q ↦ let lt : i < length s.rings = slice_get_within s.rings i g p in let at : i ≡ length s.names + q.0 = q.1 in absurd (omega arith)
        ]
        | inr p ↦ elim (joined s.names (frees n) i o f) [
          | inl q ↦ let lt : i < length s.names = slice_get_within s.names i o q in let at : i ≡ length s.rings + p.0 = p.1 in absurd (omega arith)
          | inr q ↦
              let at : i ≡ length s.rings + p.0 = p.1 in
              subst (λ (x : Option Bound). IsSoundRing trust s.fixed s.top due.Top i g x) (sym (free_name n q.0 o q.2))
              (subst (λ (x : Ring). IsSoundRing trust s.fixed s.top due.Top i x None) (is_fresh n p.0 g p.2) (omega arith, λ h. never h, refl))
        ]
      ];
      once = λ j k b e x y same. h.once j k b e (named_before s.names n j b x) (named_before s.names n k e y) same;
      next = tt;
    }

abbrev file_names : Judged → ℕ → Due → Judged
file_names s n d = record { rings = s.rings ++ fresh_rings n; names = closed d s.names ++ frees n; fixed = s.fixed; top = s.top; due = due.Top }

sound_file : (trust : Bool) (s : Judged) (n : ℕ) → IsSound trust s → (s.due ≡ due.Nothing) ⊎ ((q : ℕ) × (s.due ≡ due.Handed q)) → IsSound trust (noted s (File n))
sound_file trust s n h (inl d) = subst (λ (x : Due). IsSound trust (file_names s (n - length s.rings) x)) (sym d) (grown trust s (n - length s.rings) h d)
sound_file trust s n h (inr (q, d)) =
    let places : (s.fixed ≤ q) × (q < length s.rings) = subst (λ (x : Due). IsSoundDue s.fixed s.rings x) d h.next in
    let w = there_is s.rings q places.1 in
    subst (λ (x : Due). IsSound trust (file_names s (n - length s.rings) x)) (sym d)
    (grown trust (noted s (Free q)) (n - length s.rings) (sound_free trust s q w.0 h d w.1) refl)

-- ---- all

pub sound_stays : (trust : Bool) (s : Judged) (e : Entry) → IsSound trust s → refusal s e ≡ None → IsSound trust (noted s e)
sound_stays trust s (Top n) h e = sound_top trust s n h (top_due s.due s.top n e)
sound_stays trust s (Bind r b) h e =
    let w = no_ring (refused_bind s.due s r b) (slice_get s.rings r) e in
    bound_by trust s r b w.0 h w.1 (may_bind trust s r b w.0 h w.1 w.2)
sound_stays trust s (Free r) h e =
    let w = no_ring (λ (g : Ring). refused_free s.due r) (slice_get s.rings r) e in
    sound_free trust s r w.0 h (free_due s.due r w.2) w.1
sound_stays trust s (Grant r) h e =
    let w = no_ring (refused_grant s.due s.fixed s.top r) (slice_get s.rings r) e in
    sound_grant trust s r w.0 h w.1 (grant_due s.due s.fixed s.top r w.0 w.2).0
sound_stays trust s (Repair r) h e =
    let w = no_ring (λ (g : Ring). refused_repair s.due s.top) (slice_get s.rings r) e in
    sound_repair trust s r w.0 h w.1 (repair_due s.due s.top w.2).0
sound_stays trust s (End r) h e =
    let w = no_ring (refused_end s.due) (slice_get s.rings r) e in
    let d = end_due s.due w.0 w.2 in
    sound_end trust s r w.0 h w.1 d.0 d.1
sound_stays trust s Other h e = h
sound_stays trust s (File n) h e = sound_file trust s n h (file_due s.due (length s.rings) n e).0

-- ---- as it is kept

put_by : (s : Judged) (r : ℕ) (b : Bound) (g : Ring) → IsSound true s → slice_get s.rings r ≡ Some g → MayBeBound s r b g → IsPut s.names r b
put_by s r b g h there (New n) =
    let w = name_at true s r g h there in
    let none : w.0 ≡ None = nameless true s.fixed s.top r g w.0 n.pool n.idle (subst (λ (x : Due). IsSoundRing true s.fixed s.top x r g w.0) n.nothing (h.each r g w.0 there w.1)) in
    inr (w.1 ∙ ap (λ (o : Option Bound). Some o) none, n.nobody)
put_by s r b g h there (Again d entry) = inl entry
put_by s r b g h there (Trusted d entry t) = inr (entry, t.nobody)

-- a name that may be bound may be put
pub may_put : (s : Judged) (r : ℕ) (b : Bound) (g : Ring) → IsSound true s → slice_get s.rings r ≡ Some g → refused_bind s.due s r b g ≡ None → IsPut s.names r b
may_put s r b g h there e = put_by s r b g h there (may_bind true s r b g h there e)

pub noted_sound : (s : Judged) (e : Entry) (t : Judged) → IsSound true s → IsNoted s e t → IsSound true t
noted_sound s e t h n = subst (λ (x : Judged). IsSound true x) (sym n.now) (sound_stays true s e h n.right)

pub refused_sound : (s : Judged) (e : Entry) (t : Judged) (why : Refused) → IsSound true s → IsRefused s e t why → IsSound true t
refused_sound s e t (refused.Wrong w) h r = subst (λ (x : Judged). IsSound true x) (sym r.1) h
refused_sound s e t refused.Memory h r = subst (λ (x : Judged). IsSound true x) (sym r.1) h

pub line_sound : {T : Type 0} (s : Judged) (e : Entry) (t : Judged) (r : Result T Refused) → IsSound true s → OnOk r (IsNoted s e t) → IfErr r (λ (why : Refused). IsRefused s e t why) → IsSound true t
line_sound s e t (Ok x) h ok err = noted_sound s e t h ok
line_sound s e t (Err why) h ok err = refused_sound s e t why h err

pub file_sound : {T : Type 0} (s : Judged) (e : Entry) (t : Judged) (r : Result T Refused) → IsSound true s → OnOk r (IsNoted s e t) → OnOk r (IsSound true t)
file_sound s e t (Ok x) h ok = noted_sound s e t h ok
file_sound s e t (Err why) h ok = tt

-- the ring of a hold that ended with the file
pub handed_within : (s : Judged) → IsSound true s → (q : ℕ) → s.due ≡ due.Handed q → q < length s.names
handed_within s h q d =
    let places : (s.fixed ≤ q) × (q < length s.rings) = subst (λ (x : Due). IsSoundDue s.fixed s.rings x) d h.next in
    let lt : q < length s.rings = places.1 in
    let many : length s.names ≡ length s.rings = h.many in
    omega arith

length_closed : (d : Due) (os : List (Option Bound)) → length (closed d os) ≡ length os
length_closed due.Nothing os = refl
length_closed due.Top os = refl
length_closed (due.Restated q) os = refl
length_closed (due.Granted q) os = refl
length_closed (due.Handed q) os = length-set os q None

pub file_noted : (s : Judged) (n : ℕ) (rings : List Ring) (mid names : List (Option Bound)) → IsSound true s → refusal s (File n) ≡ None → mid ≡ closed s.due s.names → names ≡ mid ++ frees (n - length mid) →
    rings ≡ s.rings ++ fresh_rings (n - length s.rings) → IsNoted s (File n) (record { rings = rings; names = names; fixed = s.fixed; top = s.top; due = due.Top })
file_noted s n rings mid names h r e f k =
    let size : length mid ≡ length s.rings = ap (λ (os : List (Option Bound)). length os) e ∙ length_closed s.due s.names ∙ h.many in
    record {
      right = r;
      now =
          ap (λ (os : List (Option Bound)). record { rings = rings; names = os; fixed = s.fixed; top = s.top; due = due.Top })
          (f ∙ ap (λ (os : List (Option Bound)). os ++ frees (n - length mid)) e ∙ ap (λ (m : ℕ). closed s.due s.names ++ frees (n - m)) size)
          ∙ ap (λ (gs : List Ring). record { rings = gs; names = closed s.due s.names ++ frees (n - length s.rings); fixed = s.fixed; top = s.top; due = due.Top }) k;
    }
