-- A client that waited for a lock may wait for it again, as far as the others do.
use Rattle.std.proofs.Common.{◌≡◌, ℕ, zero, suc, ◌≤◌, Bool, true, false, List, [], ◌∷◌, ◌++◌, length, Option, Some, None, inl, inr, refl, ap, sym, subst, ◌∙◌, arith}
use Rattle.std.specs.Prelude.{slice_get, ◌==◌, ◌||◌}
use Rattle.std.proofs.lemmas.Bool.{eqb-true, eq-eqb, or_cases, or_left, or_right, both_ways}
use Rattle.held_locks.specs.declared.answers.Waiter.{Waiter}
use Rattle.held_locks.specs.declared.answers.Holder.{Holder}
use Rattle.held_locks.specs.declared.answers.Answer.TheVariants as answer
use Rattle.held_locks.specs.declared.answers.Refusal.{Refusal}
use Rattle.held_locks.specs.Queues.{Lock, stands, is_held_by, waits_for, client_of, holder_of, comes_to}
use Rattle.held_locks.specs.Locks.{Acquire, acquired, joined, acquire_refusal, turn}
use Rattle.held_locks.specs.Promises.{AreApart, AreRight, comes, ComesToAnEnd}
use Rattle.held_locks.proofs.Answered.{circles_are_real}
use Rattle.held_locks.proofs.Circles.{whom}
use Rattle.held_locks.proofs.Standing.{waits_at, waits_there, nowhere_waits}

-- ---- a client that comes back to itself comes to no end

some_none : (c : ℕ) → ◌≡◌ {A = Option ℕ} (Some c) None → ⊥
some_none c e = cc

-- from here one comes to the client, and to an end: so from the client on one does, sooner
reached : (ls : List Lock) (c : ℕ) (steps n : ℕ) (at : Option ℕ) → comes steps ls at ≡ Some c → comes n ls at ≡ None → (m : ℕ) × (m ≤ n) × (comes m ls (Some c) ≡ None)
reached ls c steps n None p q = absurd (some_none c (sym p))
reached ls c zero n (Some d) p q = (n, omega arith, subst (λ (x : Option ℕ). comes n ls x ≡ None) p q)
reached ls c (suc steps) zero (Some d) p q = absurd (some_none d q)
reached ls c (suc steps) (suc n) (Some d) p q =
    let r = reached ls c steps n (whom ls d) p q in
    let le : r.0 ≤ n = r.1 in
    (r.0, omega (arith, le), r.2)

never : (ls : List Lock) (c steps : ℕ) → comes steps ls (whom ls c) ≡ Some c → (fuel n : ℕ) → n ≤ fuel → comes n ls (Some c) ≡ None → ⊥
never ls c steps back fuel zero le e = some_none c e
never ls c steps back zero (suc n) le e = absurd (omega (arith, le))
never ls c steps back (suc fuel) (suc n) le e =
    let r = reached ls c steps n (whom ls c) back e in
    let less : r.0 ≤ n = r.1 in
    never ls c steps back fuel r.0 (omega (arith, le, less)) r.2

no_way_round : (ls : List Lock) (c steps : ℕ) → ComesToAnEnd ls (Some c) → comes steps ls (whom ls c) ≡ Some c → ⊥
no_way_round ls c steps end back = never ls c steps back end.0 end.0 (omega arith) end.1

-- ---- locks in which a part of those wait who wait in others

-- each has the same holder, and the clients in its line are in the other's
abbrev pub ArePart : List Lock → List Lock → Type 0
ArePart ms ls = (i : ℕ) (m : Lock) → slice_get ms i ≡ Some m → (l : Lock) × (slice_get ls i ≡ Some l) × (m.holder ≡ l.holder) × ((c : ℕ) → stands c m.queue ≡ true → stands c l.queue ≡ true)

module _ (ls ms : List Lock) (right : AreRight ls) (part : ArePart ms ls) where
  -- a client that waits for somebody in the part does so in the whole
  by_wait : (d : ℕ) (w : Option Lock) → waits_for ms d ≡ w → (e : ℕ) → holder_of w ≡ Some e → whom ls d ≡ Some e
  by_wait d None p e q = absurd (some_none e (sym q))
  by_wait d (Some m) p e q =
      let at = waits_at ms d m p in
      let l = part at.at m at.lock in
      ap holder_of (waits_there ls d at.at l.0 right.once l.1 (l.3 d at.stands)) ∙ ap client_of (sym l.2) ∙ q

  comes_on : (c steps d : ℕ) (w : Option ℕ) → whom ms d ≡ w → comes steps ms w ≡ Some c → comes steps ls w ≡ Some c → comes steps ls (whom ls d) ≡ Some c
  comes_on c steps d None e p q = absurd (some_none c (sym p))
  comes_on c steps d (Some x) e p q = ap (λ (y : Option ℕ). comes steps ls y) (by_wait d (waits_for ms d) refl x e) ∙ q

  comes_so : (c steps : ℕ) (at : Option ℕ) → comes steps ms at ≡ Some c → comes steps ls at ≡ Some c
  comes_so c steps None p = absurd (some_none c (sym p))
  comes_so c zero (Some d) p = p
  comes_so c (suc steps) (Some d) p = comes_on c steps d (whom ms d) refl p (comes_so c steps (whom ms d) p)

-- ---- a client that waits in the whole, and not yet in the part

none_true : (b : Bool) → (b ≡ true → ⊥) → b ≡ false
none_true true h = absurd (h refl)
none_true false h = refl

stands_there : (front : List Waiter) (w : Waiter) (back : List Waiter) → stands w.client (front ++ w ∷ back) ≡ true
stands_there [] w back = or_left (w.client == w.client) (stands w.client back) (eq-eqb w.client w.client refl)
stands_there (x ∷ front) w back = or_right (x.client == w.client) (stands w.client (front ++ w ∷ back)) (stands_there front w back)

-- nobody before it is the same
not_before : (front : List Waiter) (w : Waiter) (back : List Waiter) → AreApart (front ++ w ∷ back) → stands w.client front ≡ false
not_before [] w back apart = refl
not_before (x ∷ front) w back apart = none_true (x.client == w.client || stands w.client front) (λ e. elim (or_cases (x.client == w.client) (stands w.client front) e) [
  | inl q ↦
      let same : x.client ≡ w.client = eqb-true x.client w.client q in
      both_ways (stands x.client (front ++ w ∷ back)) apart.0 (subst (λ (c : ℕ). stands c (front ++ w ∷ back) ≡ true) (sym same) (stands_there front w back))
  | inr q ↦ both_ways (stands w.client front) (not_before front w back apart.1) q
])

some_is : (l m : Lock) → ◌≡◌ {A = Option Lock} (Some l) (Some m) → l ≡ m
some_is l m e = cc

not_empty : (front : List Waiter) (w : Waiter) (back : List Waiter) → front ++ w ∷ back ≡ [] → ⊥
not_empty [] w back e = cc
not_empty (x ∷ front) w back e = cc

is_held : (c : ℕ) (h : Option Holder) → is_held_by c h ≡ true → client_of h ≡ Some c
is_held c None e = absurd cc
is_held c (Some h) e = ap (λ (x : ℕ). Some x) (eqb-true h.client c e)

module _ (ls ms : List Lock) (right : AreRight ls) (also : AreRight ms) (part : ArePart ms ls) (i : ℕ) (l m : Lock) (at : slice_get ls i ≡ Some l) (here : slice_get ms i ≡ Some m)
    (w : Waiter) (back : List Waiter) (line : l.queue ≡ m.queue ++ w ∷ back) (held : m.holder ≡ l.holder) where
  waits : stands w.client l.queue ≡ true
  waits = subst (λ (u : List Waiter). stands w.client u ≡ true) (sym line) (stands_there m.queue w back)

  whom_is : whom ls w.client ≡ client_of m.holder
  whom_is = ap holder_of (waits_there ls w.client i l right.once at waits) ∙ ap client_of (sym held)

  comes_none : (at : Option ℕ) → at ≡ Some w.client → comes 0 ls at ≡ Some w.client
  comes_none None e = e
  comes_none (Some d) e = e

  no_holder : is_held_by w.client m.holder ≡ false
  no_holder = none_true (is_held_by w.client m.holder) (λ e. no_way_round ls w.client 0 (right.ends w.client) (comes_none (whom ls w.client) (whom_is ∙ is_held w.client m.holder e)))

  nowhere : waits_for ms w.client ≡ None
  nowhere = nowhere_waits ms w.client (λ j x f. none_true (stands w.client x.queue) (λ s.
      let y = part j x f in
      let same : i ≡ j = right.once w.client i j l y.0 at y.1 waits (y.3 w.client s) in
      let is : x ≡ m = some_is x m (sym f ∙ ap (λ (k : ℕ). slice_get ms k) (sym same) ∙ here) in
      let apart : AreApart (m.queue ++ w ∷ back) = subst (λ (u : List Waiter). AreApart u) line (right.each i l at).apart in
      both_ways (stands w.client m.queue) (not_before m.queue w back apart) (subst (λ (z : Lock). stands w.client z.queue ≡ true) is s)))

  no_circle : comes_to (length ms) ms w.client (client_of m.holder) ≡ false
  no_circle = none_true (comes_to (length ms) ms w.client (client_of m.holder)) (λ e.
      let r = circles_are_real ms i m w.client also here e in
      let back_to : comes r.0 ls (client_of m.holder) ≡ Some w.client = comes_so ls ms right part w.client r.0 (client_of m.holder) r.1 in
      no_way_round ls w.client r.0 (right.ends w.client) (ap (λ (x : Option ℕ). comes r.0 ls x) whom_is ∙ back_to))

  -- it is refused for nothing
  not_refused : acquire_refusal ms m w.client ≡ None
  not_refused = rw (no_holder, nowhere, no_circle) refl

  some_holder : (h : Option Holder) → l.holder ≡ h → (x : Holder) × (h ≡ Some x)
  some_holder (Some x) e = (x, refl)
  some_holder None e =
      let none : m.queue ++ w ∷ back ≡ [] = sym line ∙ (right.each i l at).held e in
      absurd (not_empty m.queue w back none)

  -- and waits again, after those who wait
  pub waits_again : turn ms m w.client (Acquire w.label)
      ≡ record { lock = record m { queue = m.queue ++ w ∷ [] }; marks = []; answers = (w.client, answer.Waiting (length m.queue)) ∷ [] }
  waits_again =
      let h = some_holder l.holder refl in
      ap (λ (x : Option Refusal). acquired m w x) not_refused ∙ ap (λ (x : Option Holder). joined m w x) (held ∙ h.1)
