-- A name's hold that is handed over: what is named right stays so.
use Rattle.std.proofs.Common.{◌≡◌, ◌≢◌, ℕ, zero, suc, ◌+◌, ◌<◌, ◌≤◌, Bool, true, false, List, [], ◌∷◌, map, length, Option, None, Some, inl, inr, refl, sym, ◌∙◌, ap, subst, arith}
use Rattle.std.specs.Prelude.{slice_get, slice_set, is_some, option_map, ◌==◌, if◌then◌else◌, ◌^◌}
use Rattle.std.proofs.lemmas.Bool.{cases_eq, eqb-true, eq-eqb, false≢true}
use Rattle.std.proofs.lemmas.List.{length-set, map-set}
use Rattle.std.proofs.lemmas.Option.{slice_get_within}
use Rattle.held_locks.specs.declared.answers.Holder.{Holder}
use Rattle.held_locks.specs.Queues.{Lock}
use Rattle.held_locks.specs.Locks.{Stats}
use Rattle.held_locks.specs.Promises.{AreRight}
use Rattle.held_locks.specs.Kept.{LockView, lock_of, locks_of}
use Rattle.held_locks.specs.Handed.{IsOpen, handed, IsHanded, CannotBeHanded}
use Rattle.held_locks.proofs.Standing.{get_set_same, get_set_other}
use Rattle.lock_names.specs.declared.table.Counts.{Counts}
use Rattle.lock_names.specs.Names.{Bound, Named, token_in, found}
use Rattle.lock_names.specs.Promises.{IsRightName, IsNamed}
use Rattle.name_bindings.specs.Bindings.{ring_of}
use Rattle.lock_names.specs.Kept.{NamedView, named_of, IsKeptNamed, bound_by, own_number, waiting}
use Rattle.lock_names.specs.Handed.{IsHandedByName, CannotBeHandedByName}
use Rattle.name_bindings.proofs.Found.{some_same, none_some, found_at}
use Rattle.lock_names.proofs.Fitting.{fits_found}
use Rattle.lock_names.proofs.Asking.{view_lock, lock_view, ready_within, ready_held}
use Rattle.lock_names.proofs.Taking.{numbers_of, ready_fits}

-- the same lock with another client, which has the hold
abbrev pub held_by : Lock → ℕ → ℕ → Lock
held_by l client token = record l { holder = Some (record { client = client; token = token }) }

renamed_lock : (fixed top i : ℕ) (l : Lock) (h : Holder) (client : ℕ) (o : Option Bound) → l.holder ≡ Some h → IsRightName fixed top i l o → IsRightName fixed top i (held_by l client h.token) o
renamed_lock fixed top i l h client None e r = absurd (none_some h (sym r.1 ∙ e))
renamed_lock fixed top i l h client (Some b) e r = (
  record {
    before = r.0.before;
    token = r.0.token;
    held = λ k f.
        let same : h.token ≡ k.token = ap (λ (x : Holder). x.token) (some_same (record { client = client; token = h.token }) k f) in
        let was = r.0.held h e in
        subst (λ (t : ℕ). (b.before < t) × (t ≤ l.ring.grants)) same was;
  },
  λ le. refl,
)

pub renamed : (s : Named) (i : ℕ) (l : Lock) (h : Holder) (client : ℕ) → IsNamed s → slice_get s.locks i ≡ Some l → l.holder ≡ Some h → AreRight (slice_set s.locks i (held_by l client h.token)) →
    IsNamed (record s { locks = slice_set s.locks i (held_by l client h.token) })
renamed s i l h client n at e right =
    let m = held_by l client h.token in record {
      right = right;
      many = n.many ∙ sym (length-set s.locks i m);
      each = λ j x o there named. elim (cases_eq j i) [
        | inl q ↦
            let here : slice_get (slice_set s.locks i m) i ≡ Some x = subst (λ (k : ℕ). slice_get (slice_set s.locks i m) k ≡ Some x) q there in
            let is : m ≡ x = some_same m x (sym (get_set_same s.locks i m l at) ∙ here) in
            let was = renamed_lock s.fixed s.top i l h client o e (n.each i l o at (subst (λ (k : ℕ). slice_get s.names k ≡ Some o) q named)) in
            subst (λ (k : ℕ). IsRightName s.fixed s.top k x o) (sym q) (subst (λ (y : Lock). IsRightName s.fixed s.top i y o) is was)
        | inr q ↦ n.each j x o (sym (get_set_other s.locks i j m q) ∙ there) named
      ];
      once = n.once;
    }

-- as many clients wait
pub waiting_set : (ls : List Lock) (i : ℕ) (l m : Lock) → slice_get ls i ≡ Some l → m.queue ≡ l.queue → waiting (slice_set ls i m) ≡ waiting ls
waiting_set [] i l m at e = refl
waiting_set (k ∷ ls) zero l m at e =
    ap (λ (q : List _). length q + waiting ls) (e ∙ ap (λ (x : Lock). x.queue) (sym (some_same k l at)))
waiting_set (k ∷ ls) (suc i) l m at e = ap (λ (n : ℕ). length k.queue + n) (waiting_set ls i l m at e)

-- ---- the number of the hold

own_by : (b : Bound) (token : ℕ) (h : Holder) (q : Bool) → (token == token_in b h.token) ≡ q → own_number b token (Some h) ≡ (if q then h.token else 0)
own_by b token h q e = ap (λ (z : Bool). if z then h.token else 0) e

-- a hold with the token has the number
pub own_is : (b : Bound) (token : ℕ) (h : Holder) → token ≡ token_in b h.token → own_number b token (Some h) ≡ h.token
own_is b token h e = own_by b token h true (eq-eqb token (token_in b h.token) e)

-- and one with the number has the token
pub token_is : (b : Bound) (token : ℕ) (h : Holder) (q : Bool) → (token == token_in b h.token) ≡ q → 0 < h.token → own_number b token (Some h) ≡ h.token → token ≡ token_in b h.token
token_is b token h true q some e = eqb-true token (token_in b h.token) q
token_is b token h false q some e = let none : 0 ≡ h.token = sym (own_by b token h false q) ∙ e in absurd (omega (arith, none, some))

-- ---- the ring of a name

pub name_entry : (v : NamedView) (x : List ℕ) (i : ℕ) (b : Bound) → found x v.names ≡ Some (i, b) → slice_get v.names i ≡ Some (Some b)
name_entry v x i b named = (found_at x v.names (i, b) named).entry

pub name_within : (v : NamedView) (x : List ℕ) (i : ℕ) (b : Bound) → found x v.names ≡ Some (i, b) → i < length v.names
name_within v x i b named = slice_get_within v.names i (Some b) (name_entry v x i b named)

name_lock : (v : NamedView) (x : List ℕ) (i : ℕ) (b : Bound) → IsKeptNamed v → found x v.names ≡ Some (i, b) → (l : LockView) × (slice_get v.locks i ≡ Some l)
name_lock v x i b kept named =
    let f = fits_found (named_of v) x (i, b) kept.named named in
    let w = lock_view v.locks i f.lock f.there in
    (w.0, w.1)

pub lock_within : (v : NamedView) (x : List ℕ) (i : ℕ) (b : Bound) → IsKeptNamed v → found x v.names ≡ Some (i, b) → i < length v.locks
lock_within v x i b kept named = let w = name_lock v x i b kept named in slice_get_within v.locks i w.0 w.1

-- the token of whoever holds it has 64 bits
pub token_fits : (v : NamedView) (x : List ℕ) (i : ℕ) (b : Bound) (k : Counts) (read : Option Holder) → IsKeptNamed v → found x v.names ≡ Some (i, b) → k ≡ numbers_of b →
    ((l : LockView) → slice_get v.locks i ≡ Some l → read ≡ l.holder) → (h : Holder) → read ≡ Some h → token_in (bound_by k) h.token < 2 ^ 64
token_fits v x i b k read kept named counts holder h e =
    let ready = ready_fits v i b k Stats kept (fits_found (named_of v) x (i, b) kept.named named) counts (λ q. absurd (false≢true q)) in
    let w = name_lock v x i b kept named in
    (ready_held v.locks v.top i (bound_by k) Stats w.0 h ready w.1 (sym (holder w.0 w.1) ∙ e)).1

-- the number of its hold, by what is read of its lock
module _ (v : NamedView) (x : List ℕ) (token client i : ℕ) (b : Bound) (k : Counts) (own : ℕ) (read : Option Holder) (kept : IsKeptNamed v) (named : found x v.names ≡ Some (i, b)) (counts : k ≡ numbers_of b)
    (holder : (l : LockView) → slice_get v.locks i ≡ Some l → read ≡ l.holder) (own_is_read : own ≡ own_number (bound_by k) token read) where
  own_of : (h : Holder) → read ≡ Some h → own ≡ own_number b token (Some h)
  own_of h r = own_is_read ∙ ap (λ (m : Counts). own_number (bound_by m) token read) counts ∙ ap (λ (o : Option Holder). own_number (bound_by (numbers_of b)) token o) r

  -- the hold of the ring is the name's with this token
  pub handed_by_name : (ws : List LockView) → IsHanded v.locks ws (record { lock = i; token = own; client = client }) →
      IsHandedByName v (record { locks = ws; names = v.names; fixed = v.fixed; top = v.top }) x token client
  handed_by_name ws g =
      let h : Holder = record { client = 0; token = own } in
      let right = kept.named.each i (lock_of g.lock) (Some b) (view_lock v.locks i g.lock g.there) (name_entry v x i b named) in
      let began : b.before < own = (right.0.held h g.held.held).0 in
      let is : own ≡ own_number b token (Some h) = own_of h (holder g.lock g.there ∙ g.held.held) in
      record {
        ring = i;
        bound = b;
        named = named;
        number = own;
        token_is = token_is b token h (token == token_in b own) refl (omega (arith, began)) (sym is);
        locks = g;
        names = refl;
        fixed = refl;
        top = refl;
      }

  -- no hold of the name with this token is open, since that of the ring is not
  pub not_handed_by_name : CannotBeHanded v.locks (record { lock = i; token = own; client = client }) → CannotBeHandedByName v x token
  not_handed_by_name cannot = λ ring number d l named_so there t free_hold.
      let same : ◌≡◌ {A = ℕ × Bound} (i, b) (ring, d) = some_same (i, b) (ring, d) (sym named ∙ named_so) in
      let at : slice_get v.locks i ≡ Some l = ap (λ (p : ℕ × Bound). slice_get v.locks p.0) same ∙ there in
      let h : Holder = record { client = 0; token = number } in
      let its : token ≡ token_in b number = t ∙ ap (λ (p : ℕ × Bound). token_in p.1 number) (sym same) in
      let is : own ≡ number = own_of h (holder l at ∙ free_hold.held) ∙ own_is b token h its in
      cannot l at (subst (λ (n : ℕ). IsOpen l n) (sym is) free_hold)

  -- what is named right stays so
  pub handed_kept : (ws : List LockView) → IsHanded v.locks ws (record { lock = i; token = own; client = client }) → AreRight (locks_of ws) → IsKeptNamed (record { locks = ws; names = v.names; fixed = v.fixed; top = v.top })
  handed_kept ws g right =
      let h : Holder = record { client = 0; token = own } in
      let l : Lock = lock_of g.lock in
      let at : slice_get (locks_of v.locks) i ≡ Some l = view_lock v.locks i g.lock g.there in
      let all : locks_of ws ≡ slice_set (locks_of v.locks) i (held_by l client own) =
      ap (λ (vs : List LockView). locks_of vs) g.new_is ∙ map-set lock_of v.locks i (handed g.lock (record { lock = i; token = own; client = client })) in
      let many : length ws ≡ length v.locks = ap (λ (vs : List LockView). length vs) g.new_is ∙ length-set v.locks i (handed g.lock (record { lock = i; token = own; client = client })) in
      let as_before : waiting (locks_of ws) ≡ waiting (locks_of v.locks) = ap (λ (ls : List Lock). waiting ls) all ∙ waiting_set (locks_of v.locks) i l (held_by l client own) at refl in
      let places = kept.places in
      let tokens = kept.tokens in
      record {
        named = subst (λ (ls : List Lock). IsNamed (record { locks = ls; names = v.names; fixed = v.fixed; top = v.top })) (sym all)
            (renamed (named_of v) i l h client kept.named at g.held.held (subst (λ (ls : List Lock). AreRight ls) all right));
        places = omega (arith, many, places);
        tokens = omega (arith, as_before, tokens);
      }

-- a name that no ring has
nowhere : (v : NamedView) (x : List ℕ) (token : ℕ) (o : Option (ℕ × Bound)) → found x v.names ≡ o → option_map (λ (p : ℕ × Bound). p.0) o ≡ None → CannotBeHandedByName v x token
nowhere v x token None e f = λ ring number b l named there t free_hold. none_some (ring, b) (sym e ∙ named)
nowhere v x token (Some p) e f = absurd (none_some p.0 (sym f))

pub none_named : (v : NamedView) (x : List ℕ) (token : ℕ) → ring_of x v.names ≡ None → CannotBeHandedByName v x token
none_named v x token e = nowhere v x token (found x v.names) refl e
