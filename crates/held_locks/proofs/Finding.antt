-- What the entries of waiting clients say.
use Rattle.std.proofs.Common.{◌≡◌, ℕ, zero, suc, ◌-◌, ◌<◌, ◌≤◌, Bool, true, false, List, length, get_or, refl, sym, ◌∙◌, ap, subst, inl, inr, arith, Option, Some, None, is_some}
use Rattle.std.specs.Prelude.{◌||◌, ◌==◌, slice_get, option_map}
use Rattle.std.proofs.lemmas.Bool.{cases_Bool, both_ways, eq-eqb, ne_eqb, false_from_ne_true}
use Rattle.std.proofs.lemmas.List.{length-map}
use Rattle.std.proofs.lemmas.Option.{slice_get-map, slice_get_within, slice_get_read}
use Rattle.held_locks.specs.declared.parts.LockParts.{LockParts}
use Rattle.held_locks.specs.Queues.{Lock, stands, is_held_by, waits_for, client_of, holder_of, comes_to}
use Rattle.held_locks.specs.declared.answers.Refusal.{Refusal}
use Rattle.held_locks.specs.declared.answers.Refusal.TheVariants as refusal
use Rattle.held_locks.specs.Locks.{acquire_refusal}
use Rattle.held_locks.specs.Promises.{AreRight}
use Rattle.held_locks.specs.Waiting.{lock_in, AreWaits}
use Rattle.held_locks.specs.Kept.{lock_of, locks_of, AreKept}
use Rattle.held_locks.specs.Parts.{view_of, views_of}
use Rattle.held_locks.proofs.Standing.{waits_there, nowhere_waits}
use Rattle.held_locks.proofs.Circles.{whom}

none_some : (i : ℕ) → ◌≡◌ {A = Option ℕ} None (Some i) → ⊥
none_some i e = cc

-- a client of no entry waits for nothing
pub no_entry : (ls : List Lock) (es : List (ℕ × ℕ)) (c : ℕ) → AreWaits ls es → lock_in es c ≡ None → waits_for ls c ≡ None
no_entry ls es c k e = nowhere_waits ls c (λ i l f. false_from_ne_true (stands c l.queue) (λ s. none_some i (sym e ∙ k.known c i l f s)))

-- and one of an entry waits for that lock
pub record HasEntry (ls : List Lock) (c i : ℕ) : Type 0 where
  pub lock : Lock
  pub there : slice_get ls i ≡ Some lock
  pub waits : waits_for ls c ≡ Some lock

pub entry_of : (ls : List Lock) (es : List (ℕ × ℕ)) (c i : ℕ) → AreRight ls → AreWaits ls es → lock_in es c ≡ Some i → HasEntry ls c i
entry_of ls es c i r k e =
    let t = k.there c i e in
    record { lock = t.0; there = t.1; waits = waits_there ls c i t.0 r.once t.1 t.2 }

known_is : (ls : List Lock) (es : List (ℕ × ℕ)) (c : ℕ) (o : Option ℕ) → AreRight ls → AreWaits ls es → lock_in es c ≡ o → is_some o ≡ is_some (waits_for ls c)
known_is ls es c None r k e = sym (ap (λ (x : Option Lock). is_some x) (no_entry ls es c k e))
known_is ls es c (Some i) r k e = sym (ap (λ (x : Option Lock). is_some x) (entry_of ls es c i r k e).waits)

pub waits_is : (ls : List Lock) (es : List (ℕ × ℕ)) (c : ℕ) (o : Option ℕ) → AreRight ls → AreWaits ls es → o ≡ lock_in es c → is_some o ≡ is_some (waits_for ls c)
waits_is ls es c o r k e = known_is ls es c o r k (sym e)

some_nat : (i j : ℕ) → ◌≡◌ {A = Option ℕ} (Some i) (Some j) → i ≡ j
some_nat i j e = cc

-- whether it waits for this lock
pub stands_is : (ls : List Lock) (es : List (ℕ × ℕ)) (c i j : ℕ) (l : Lock) → AreWaits ls es → slice_get ls i ≡ Some l → lock_in es c ≡ Some j → (j == i) ≡ stands c l.queue
stands_is ls es c i j l k at e = elim (cases_Bool (stands c l.queue)) [
  | inl s ↦ eq-eqb j i (some_nat j i (sym e ∙ k.known c i l at s)) ∙ sym s
  | inr s ↦
      let t = k.there c j e in
      ne_eqb j i (λ (q : j ≡ i).
      let p : ◌≡◌ {A = Option Lock} (Some t.0) (Some l) = sym t.1 ∙ ap (λ (n : ℕ). slice_get ls n) q ∙ at in
      let r : t.0 ≡ l = cc in
      both_ways (stands c l.queue) s (subst (λ (x : Lock). stands c x.queue ≡ true) r t.2)) ∙ sym s
]

pub stands_not : (ls : List Lock) (es : List (ℕ × ℕ)) (c i : ℕ) (l : Lock) → AreWaits ls es → slice_get ls i ≡ Some l → lock_in es c ≡ None → false ≡ stands c l.queue
stands_not ls es c i l k at e = sym (false_from_ne_true (stands c l.queue) (λ s. none_some i (sym e ∙ k.known c i l at s)))

-- ---- parts

pub part_there : (ps : List LockParts) (i : ℕ) (p : LockParts) → slice_get ps i ≡ Some p → slice_get (locks_of (views_of ps)) i ≡ Some (lock_of (view_of p))
part_there ps i p e =
    slice_get-map lock_of (views_of ps) i ∙ ap (λ x. option_map lock_of x) (slice_get-map view_of ps i ∙ ap (λ (x : Option LockParts). option_map view_of x) e)

pub entry_below : (ps : List LockParts) (es : List (ℕ × ℕ)) (c i : ℕ) → AreKept (views_of ps) es → lock_in es c ≡ Some i → i < length ps
entry_below ps es c i k e =
    let t = k.waits.there c i e in
    let n : length (locks_of (views_of ps)) ≡ length ps = length-map (views_of ps) lock_of ∙ length-map ps view_of in
    let l : i < length (locks_of (views_of ps)) = slice_get_within (locks_of (views_of ps)) i t.0 t.1 in
    omega arith

-- the holder of what a client waits for
pub awaited_is : (ps : List LockParts) (es : List (ℕ × ℕ)) (c i : ℕ) (p : LockParts) → AreKept (views_of ps) es → lock_in es c ≡ Some i → slice_get ps i ≡ Some p → client_of p.holder ≡ whom (locks_of (views_of ps)) c
awaited_is ps es c i p k e at =
    let h = entry_of (locks_of (views_of ps)) es c i k.right k.waits e in
    let q : ◌≡◌ {A = Option Lock} (Some (lock_of (view_of p))) (Some h.lock) = sym (part_there ps i p at) ∙ h.there in
    let r : lock_of (view_of p) ≡ h.lock = cc in
    ap (λ (x : Lock). client_of x.holder) r ∙ sym (ap holder_of h.waits)

pub nobody_awaited : (ps : List LockParts) (es : List (ℕ × ℕ)) (c : ℕ) → AreKept (views_of ps) es → lock_in es c ≡ None → None ≡ whom (locks_of (views_of ps)) c
nobody_awaited ps es c k e = sym (ap holder_of (no_entry (locks_of (views_of ps)) es c k.waits e))

-- ---- the way round

pub comes_step : (more : ℕ) (ls : List Lock) (asker c : ℕ) (next : Option ℕ) → 0 < more → (c == asker) ≡ false → next ≡ whom ls c → comes_to (more - 1) ls asker next ≡ comes_to more ls asker (Some c)
comes_step zero ls asker c next l e f = absurd (omega arith)
comes_step (suc more) ls asker c next l e f =
    let n : suc more - 1 ≡ more = omega arith in
    ap (λ (k : ℕ). comes_to k ls asker next) n ∙ ap (λ (x : Option ℕ). comes_to more ls asker x) f ∙ sym (ap (λ (b : Bool). b || comes_to more ls asker (whom ls c)) e)

pub comes_here : (more : ℕ) (ls : List Lock) (asker c : ℕ) → (c == asker) ≡ true → true ≡ comes_to more ls asker (Some c)
comes_here zero ls asker c e = refl
comes_here (suc more) ls asker c e = sym (ap (λ (b : Bool). b || comes_to more ls asker (whom ls c)) e)

pub comes_nowhere : (more : ℕ) (ls : List Lock) (asker : ℕ) → false ≡ comes_to more ls asker None
comes_nowhere zero ls asker = refl
comes_nowhere (suc more) ls asker = refl

pub comes_end : (more : ℕ) (ls : List Lock) (asker : ℕ) (at : Option ℕ) → more ≤ 0 → is_some at ≡ comes_to more ls asker at
comes_end zero ls asker None l = refl
comes_end zero ls asker (Some c) l = refl
comes_end (suc more) ls asker at l = absurd (omega arith)

-- ---- refusals

pub part_is : (ps : List LockParts) (i : ℕ) (p q : LockParts) → slice_get ps i ≡ Some p → i < length ps → q ≡ get_or ps i q → q ≡ p
part_is ps i p q e l f =
    let s : ◌≡◌ {A = Option LockParts} (Some q) (Some p) = sym (slice_get_read ps (length ps) i q refl l f) ∙ e in
    cc

pub refused_waits : (ls : List Lock) (l : Lock) (c : ℕ) → is_held_by c l.holder ≡ false → is_some (waits_for ls c) ≡ true → ◌≡◌ {A = Option Refusal} (Some refusal.Waits) (acquire_refusal ls l c)
refused_waits ls l c h w = rw (h, w) refl

pub refused_circle : (ls : List Lock) (l : Lock) (c : ℕ) → is_held_by c l.holder ≡ false → is_some (waits_for ls c) ≡ false → comes_to (length ls) ls c (client_of l.holder) ≡ true → ◌≡◌ {A = Option Refusal} (Some refusal.Circle) (acquire_refusal ls l c)
refused_circle ls l c h w b = rw (h, w, b) refl

pub refused_not : (ls : List Lock) (l : Lock) (c : ℕ) → is_held_by c l.holder ≡ false → is_some (waits_for ls c) ≡ false → comes_to (length ls) ls c (client_of l.holder) ≡ false → ◌≡◌ {A = Option Refusal} None (acquire_refusal ls l c)
refused_not ls l c h w b = rw (h, w, b) refl

pub many_locks : (ps : List LockParts) → length (locks_of (views_of ps)) ≡ length ps
many_locks ps = length-map (views_of ps) lock_of ∙ length-map ps view_of
