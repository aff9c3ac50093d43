-- What follows from it that a line is not refused.
use Rattle.std.proofs.Common.{◌≡◌, ℕ, ◌<◌, ◌≤◌, Bool, true, false, List, Option, None, Some, ◌⊎◌, inl, inr, refl, sym, ◌∙◌, ap, subst}
use Rattle.std.specs.Prelude.{nat_le, nat_lt, ◌==◌, ◌&&◌, if◌then◌else◌, slice_get, option_map}
use Rattle.std.specs.Str.{bytes_eq}
use Rattle.std.proofs.lemmas.Bool.{eqb-true, ltb-true, ltb-false, leb-true, leb-false, and_parts}
use Rattle.name_bindings.specs.Bindings.{Bound, token_in, found, ring_of}
use Rattle.name_bindings.proofs.Found.{same_name, none_some}
use Rattle.name_check.specs.declared.lines.Ring.{Ring}
use Rattle.name_check.specs.declared.lines.Due.{Due}
use Rattle.name_check.specs.declared.lines.Due.TheVariants as due
use Rattle.name_check.specs.declared.wrongs.Wrong.{Wrong}
use Rattle.name_check.specs.declared.wrongs.Wrong.TheVariants as why
use Rattle.name_check.specs.Entries.{Judged, is_held}
use Rattle.name_check.specs.Judged.{spent, most_grants, refused_top, taken, refused_new, same_bound, refused_trust, refused_again, refused_bind, refused_free, refused_grant, refused_repair, refused_end, refused_file, of_ring}

-- a refusal is none
pub some_none : {X : Type 0} (x : X) → ◌≡◌ {A = Option X} (Some x) None → ⊥
some_none x e = none_some x (sym e)

pub not_then : (q : Bool) (w : Wrong) (o : Option Wrong) → (if q then Some w else o) ≡ None → (q ≡ false) × (o ≡ None)
not_then true w o e = absurd (some_none w e)
not_then false w o e = (refl, e)

pub not_else : (q : Bool) (w : Wrong) (o : Option Wrong) → (if q then o else Some w) ≡ None → (q ≡ true) × (o ≡ None)
not_else true w o e = (refl, e)
not_else false w o e = absurd (some_none w e)

pub no_ring : (f : Ring → Option Wrong) (o : Option Ring) → of_ring f o ≡ None → (g : Ring) × (o ≡ Some g) × (f g ≡ None)
no_ring f None e = absurd (some_none why.NoRing e)
no_ring f (Some g) e = (g, refl, e)

pub few : (top : ℕ) → spent top ≡ None → top < most_grants
few top e = leb-false most_grants top (not_then (nat_le most_grants top) why.Full None e).0

-- ---- by what was due

pub top_due : (d : Due) (top n : ℕ) → refused_top d top n ≡ None → d ≡ due.Top
top_due due.Nothing top n e = absurd (some_none why.SecondTop e)
top_due due.Top top n e = refl
top_due (due.Restated q) top n e = absurd (some_none why.NotRestated e)
top_due (due.Granted q) top n e = absurd (some_none why.NoGrant e)
top_due (due.Handed q) top n e = absurd (some_none why.NotFreed e)

pub free_due : (d : Due) (r : ℕ) → refused_free d r ≡ None → d ≡ due.Handed r
free_due due.Nothing r e = absurd (some_none why.NotEnded e)
free_due due.Top r e = absurd (some_none why.NoTop e)
free_due (due.Restated q) r e = absurd (some_none why.NotRestated e)
free_due (due.Granted q) r e = absurd (some_none why.NoGrant e)
free_due (due.Handed q) r e = ap (λ (n : ℕ). due.Handed n) (sym (eqb-true r q (not_else (r == q) why.NotFreed None e).0))

pub repair_due : (d : Due) (top : ℕ) → refused_repair d top ≡ None → (d ≡ due.Nothing) × (top < most_grants)
repair_due due.Nothing top e = (refl, few top e)
repair_due due.Top top e = absurd (some_none why.NoTop e)
repair_due (due.Restated q) top e = absurd (some_none why.NotRestated e)
repair_due (due.Granted q) top e = absurd (some_none why.NoGrant e)
repair_due (due.Handed q) top e = absurd (some_none why.NotFreed e)

pub end_due : (d : Due) (g : Ring) → refused_end d g ≡ None → (d ≡ due.Nothing) × (is_held g ≡ true)
end_due due.Nothing g e = (refl, (not_else (is_held g) why.NotHeld None e).0)
end_due due.Top g e = absurd (some_none why.NoTop e)
end_due (due.Restated q) g e = absurd (some_none why.NotRestated e)
end_due (due.Granted q) g e = absurd (some_none why.NoGrant e)
end_due (due.Handed q) g e = absurd (some_none why.NotFreed e)

-- why a ring may be granted
pub data MayBeGranted (d : Due) (fixed r : ℕ) (g : Ring) : Type 0 where
  IsBound : d ≡ due.Granted r → MayBeGranted d fixed r g
  IsHanded : d ≡ due.Handed r → MayBeGranted d fixed r g
  IsFixed : d ≡ due.Nothing → is_held g ≡ false → r < fixed → MayBeGranted d fixed r g

pub grant_due : (d : Due) (fixed top r : ℕ) (g : Ring) → refused_grant d fixed top r g ≡ None → MayBeGranted d fixed r g × (top < most_grants)
grant_due due.Nothing fixed top r g e =
    let a = not_then (is_held g) why.GrantedTwice (if nat_lt r fixed then spent top else Some why.NoName) e in
    let b = not_else (nat_lt r fixed) why.NoName (spent top) a.1 in
    (IsFixed refl a.0 (ltb-true r fixed b.0), few top b.1)
grant_due due.Top fixed top r g e = absurd (some_none why.NoTop e)
grant_due (due.Restated q) fixed top r g e = absurd (some_none why.NotRestated e)
grant_due (due.Granted q) fixed top r g e =
    let a = not_else (r == q) why.NoGrant (spent top) e in
    (IsBound (ap (λ (n : ℕ). due.Granted n) (sym (eqb-true r q a.0))), few top a.1)
grant_due (due.Handed q) fixed top r g e =
    let a = not_else (r == q) why.NotFreed (spent top) e in
    (IsHanded (ap (λ (n : ℕ). due.Handed n) (sym (eqb-true r q a.0))), few top a.1)

-- where a file may end
pub file_due : (d : Due) (count n : ℕ) → refused_file d count n ≡ None → ((d ≡ due.Nothing) ⊎ ((q : ℕ) × (d ≡ due.Handed q))) × (count ≤ n)
file_due due.Nothing count n e = (inl refl, ltb-false n count (not_then (nat_lt n count) why.FewerRings None e).0)
file_due due.Top count n e = absurd (some_none why.NoTop e)
file_due (due.Restated q) count n e = absurd (some_none why.NotRestated e)
file_due (due.Granted q) count n e = absurd (some_none why.NoGrant e)
file_due (due.Handed q) count n e = (inr (q, refl), ltb-false n count (not_then (nat_lt n count) why.FewerRings None e).0)

-- ---- bindings

by_ring : (o : Option (ℕ × Bound)) (fixed : ℕ) → taken fixed (option_map (λ (p : ℕ × Bound). p.0) o) ≡ None → o ≡ None
by_ring None fixed e = refl
by_ring (Some p) fixed e = absurd (one (nat_lt p.0 fixed) e)
  where
    one : (q : Bool) → (if q then Some why.FixedName else Some why.BoundTwice) ≡ None → ⊥
    one true e = some_none why.FixedName e
    one false e = some_none why.BoundTwice e

pub unused : (fixed : ℕ) (x : List ℕ) (os : List (Option Bound)) → taken fixed (ring_of x os) ≡ None → found x os ≡ None
unused fixed x os e = by_ring (found x os) fixed e

pub bound_same : (b d : Bound) → same_bound b d ≡ true → b ≡ d
bound_same b d e =
    let p = and_parts (bytes_eq b.name d.name) ((b.before == d.before) && (b.floor == d.floor)) e in
    let q = and_parts (b.before == d.before) (b.floor == d.floor) p.1 in
    ap (λ (x : List ℕ). record { name = x; before = b.before; floor = b.floor }) (same_name b.name d.name p.0)
    ∙ ap (λ (n : ℕ). record { name = d.name; before = n; floor = b.floor }) (eqb-true b.before d.before q.0)
    ∙ ap (λ (n : ℕ). record { name = d.name; before = d.before; floor = n }) (eqb-true b.floor d.floor q.1)

-- a binding that is new
pub record IsNew (s : Judged) (r : ℕ) (b : Bound) (g : Ring) : Type 0 where
  pub nothing : s.due ≡ due.Nothing
  pub pool : s.fixed ≤ r
  pub idle : is_held g ≡ false
  pub before : b.before ≡ g.grants
  pub floor : b.floor ≡ s.top
  pub nobody : found b.name s.names ≡ None

-- a binding that is restated, or taken on trust
pub record IsTrusted (s : Judged) (b : Bound) (g : Ring) : Type 0 where
  pub before : b.before < g.grants
  pub token : token_in b g.grants ≤ s.top
  pub nobody : found b.name s.names ≡ None

pub data MayBeBound (s : Judged) (r : ℕ) (b : Bound) (g : Ring) : Type 0 where
  New : IsNew s r b g → MayBeBound s r b g
  Again : s.due ≡ due.Restated r → slice_get s.names r ≡ Some (Some b) → MayBeBound s r b g
  Trusted : s.due ≡ due.Restated r → slice_get s.names r ≡ Some None → IsTrusted s b g → MayBeBound s r b g

new_bind : (s : Judged) (r : ℕ) (b : Bound) (g : Ring) → s.due ≡ due.Nothing → refused_new s r b g ≡ None → IsNew s r b g
new_bind s r b g d e =
    let a = not_then (nat_lt r s.fixed) why.FixedRing
    (if is_held g then Some why.HeldRing else if b.before == g.grants then (if b.floor == s.top then taken s.fixed (ring_of b.name s.names) else Some why.WrongFloor) else Some why.WrongBefore) e in
    let h = not_then (is_held g) why.HeldRing
    (if b.before == g.grants then (if b.floor == s.top then taken s.fixed (ring_of b.name s.names) else Some why.WrongFloor) else Some why.WrongBefore) a.1 in
    let k = not_else (b.before == g.grants) why.WrongBefore (if b.floor == s.top then taken s.fixed (ring_of b.name s.names) else Some why.WrongFloor) h.1 in
    let m = not_else (b.floor == s.top) why.WrongFloor (taken s.fixed (ring_of b.name s.names)) k.1 in
    record {
      nothing = d;
      pool = ltb-false r s.fixed a.0;
      idle = h.0;
      before = eqb-true b.before g.grants k.0;
      floor = eqb-true b.floor s.top m.0;
      nobody = unused s.fixed b.name s.names m.1;
    }

trusted_bind : (s : Judged) (b : Bound) (g : Ring) → refused_trust s b g ≡ None → IsTrusted s b g
trusted_bind s b g e =
    let a = not_else (nat_lt b.before g.grants) why.WrongBefore (if nat_le (token_in b g.grants) s.top then taken s.fixed (ring_of b.name s.names) else Some why.WrongFloor) e in
    let k = not_else (nat_le (token_in b g.grants) s.top) why.WrongFloor (taken s.fixed (ring_of b.name s.names)) a.1 in
    record {
      before = ltb-true b.before g.grants a.0;
      token = leb-true (token_in b g.grants) s.top k.0;
      nobody = unused s.fixed b.name s.names k.1;
    }

again_bind : (s : Judged) (r : ℕ) (b : Bound) (g : Ring) → s.due ≡ due.Restated r → (o : Option Bound) → slice_get s.names r ≡ Some o → refused_again s b g (Some o) ≡ None → MayBeBound s r b g
again_bind s r b g d None f e = Trusted d f (trusted_bind s b g e)
again_bind s r b g d (Some k) f e =
    let same : b ≡ k = bound_same b k (not_else (same_bound b k) why.OtherBinding None e).0 in
    Again d (f ∙ ap (λ (x : Bound). Some (Some x)) (sym same))

restated_bind : (s : Judged) (r q : ℕ) (b : Bound) (g : Ring) (o : Option Bound) → slice_get s.names r ≡ Some o → s.due ≡ due.Restated q →
    (if r == q then refused_again s b g (slice_get s.names r) else Some why.NotRestated) ≡ None → MayBeBound s r b g
restated_bind s r q b g o f d e =
    let a = not_else (r == q) why.NotRestated (refused_again s b g (slice_get s.names r)) e in
    again_bind s r b g (d ∙ ap (λ (n : ℕ). due.Restated n) (sym (eqb-true r q a.0))) o f (subst (λ (x : Option (Option Bound)). refused_again s b g x ≡ None) f a.1)

pub bind_due : (s : Judged) (r : ℕ) (b : Bound) (g : Ring) (o : Option Bound) → slice_get s.names r ≡ Some o → (d : Due) → s.due ≡ d → refused_bind d s r b g ≡ None → MayBeBound s r b g
bind_due s r b g o f due.Nothing d e = New (new_bind s r b g d e)
bind_due s r b g o f due.Top d e = absurd (some_none why.NoTop e)
bind_due s r b g o f (due.Restated q) d e = restated_bind s r q b g o f d e
bind_due s r b g o f (due.Granted q) d e = absurd (some_none why.NoGrant e)
bind_due s r b g o f (due.Handed q) d e = absurd (some_none why.NotFreed e)
