-- What is read of signs are the holds that they record.
use Rattle.std.proofs.Common.{◌≡◌, ◌≢◌, ℕ, ◌<◌, Bool, true, false, cond, List, [], ◌∷◌, ◌++◌, append_assoc, refl, sym, ◌∙◌, ap, subst, Option, Some, None, Result, Ok, Err, inl, inr}
use Rattle.std.specs.Prelude.{nat_lt, ◌==◌, ◌⊎◌}
use Rattle.ring_check.proofs.Booleans.{below}
use Rattle.chain_readers.specs.declared.holds.Grant.{Grant}
use Rattle.chain_readers.specs.declared.holds.End.{End}
use Rattle.chain_readers.specs.declared.holds.Hold.{Hold}
use Rattle.chain_readers.specs.declared.signs.Sign.{Sign}
use Rattle.chain_readers.specs.declared.signs.Sign.TheVariants.{Granted, Carried, Ended, Other, Wrong}
use Rattle.chain_readers.specs.declared.reader.Standing.{Standing}
use Rattle.chain_readers.specs.declared.reader.Standing.TheVariants.{Unknown, Free, Held}
use Rattle.chain_readers.specs.Holds.{is_within, IsOpen, IsEnded, AreHolds, IsCarried, AreLaterHolds}
use Rattle.chain_readers.specs.Known.{Known, on, step_at, read, all_holds, nobody_holds, nothing_known}

abbrev pub at_known : ℕ → Standing → List Hold → Known
at_known token s ended = record { token = token; standing = s; ended = ended }

-- ---- what was read

-- the other holds, from this state of the lock on
abbrev Told : ℕ → Standing → List (ℕ × Sign) → List Hold → Type 0
Told token Unknown signs hs = ⊥
Told token Free signs hs = AreHolds token hs signs
Told token (Held g) signs hs =
    (e : Option End)
    × (others : List Hold)
    × (hs ≡ record { token = token; grant = g; end = e } ∷ others)
    × (IsOpen (record { token = token; grant = g; end = e }) others signs ⊎ IsEnded (record { token = token; grant = g; end = e }) (AreHolds token others) signs)

abbrev IsTold : ℕ → Standing → List Hold → List (ℕ × Sign) → Known → Type 0
IsTold token s ended signs m = (hs : List Hold) × (all_holds m ≡ ended ++ hs) × Told token s signs hs

no_err : (p : ℕ) (m : Known) → ◌≡◌ {A = Result Known ℕ} (Err p) (Ok m) → ⊥
no_err p m e = cc

same_ok : (k m : Known) → ◌≡◌ {A = Result Known ℕ} (Ok k) (Ok m) → k ≡ m
same_ok k m e = cc

free_more : (at token : ℕ) (hs : List Hold) (ss : List (ℕ × Sign)) → AreHolds token hs ss → AreHolds token hs ((at, Other) ∷ ss)
free_more at token [] ss a = (refl, a)
free_more at token (h ∷ hs) ss a = (a.0, (at, Other) ∷ a.1, a.2, a.3, a.4, ap (λ (x : List (ℕ × Sign)). (at, Other) ∷ x) a.5, (refl, a.6), a.7)

within_more : (at token : ℕ) (s : Sign) (g : Option Grant) (hs : List Hold) (ss : List (ℕ × Sign)) → is_within token s ≡ true → Told token (Held g) ss hs → Told token (Held g) ((at, s) ∷ ss) hs
within_more at token s g hs ss w t = (t.0, t.1, t.2, go t.3)
  where
    go : (IsOpen (record { token = token; grant = g; end = t.0 }) t.1 ss ⊎ IsEnded (record { token = token; grant = g; end = t.0 }) (AreHolds token t.1) ss) →
        (IsOpen (record { token = token; grant = g; end = t.0 }) t.1 ((at, s) ∷ ss) ⊎ IsEnded (record { token = token; grant = g; end = t.0 }) (AreHolds token t.1) ((at, s) ∷ ss))
    go (inl o) = inl (o.0, o.1, (w, o.2))
    go (inr o) = inr (o.0, (at, s) ∷ o.1, o.2, o.3, ap (λ (x : List (ℕ × Sign)). (at, s) ∷ x) o.4, (w, o.5), o.6)

-- a hold begins with its grant
granted_more : (at token t label : ℕ) (hs : List Hold) (ss : List (ℕ × Sign)) → token < t → Told t (Held (Some (record { label = label; from = at }))) ss hs → AreHolds token hs ((at, Granted t label) ∷ ss)
granted_more at token t label hs ss lt told =
    subst (λ (x : List Hold). AreHolds token x ((at, Granted t label) ∷ ss)) (sym told.2) (record { label = label; from = at }, [], ss, refl, lt, refl, tt, told.3)

-- it ends
ended_more : (at token : ℕ) (left : Bool) (g : Option Grant) (hs : List Hold) (ss : List (ℕ × Sign)) → AreHolds token hs ss →
    Told token (Held g) ((at, Ended left) ∷ ss) (record { token = token; grant = g; end = Some (record { to = at; left = left }) } ∷ hs)
ended_more at token left g hs ss a = (Some (record { to = at; left = left }), hs, refl, inr (record { to = at; left = left }, [], ss, refl, refl, tt, a))

module _ (ss : List (ℕ × Sign)) (m : Known) (next : (token : ℕ) (s : Standing) (ended : List Hold) → s ≢ Unknown → read (at_known token s ended) ss ≡ Ok m → IsTold token s ended ss m) where
  free_not : Free ≢ Unknown
  free_not e = cc

  held_not : (g : Option Grant) → Held g ≢ Unknown
  held_not g e = cc

  pub grant_told : (at token t label : ℕ) (ended : List Hold) (b : Bool) → nat_lt token t ≡ b →
      on (cond b (Some (at_known t (Held (Some (record { label = label; from = at }))) ended)) None) at (λ (n : Known). read n ss) ≡ Ok m → IsTold token Free ended ((at, Granted t label) ∷ ss) m
  grant_told at token t label ended false is e = absurd (no_err at m e)
  grant_told at token t label ended true is e =
      let r = next t (Held (Some (record { label = label; from = at }))) ended (held_not (Some (record { label = label; from = at }))) e in
      (r.0, r.1, granted_more at token t label r.0 ss (below token t is) r.2)

  carry_told : (at token t : ℕ) (g : Option Grant) (ended : List Hold) (b : Bool) → (t == token) ≡ b →
      on (cond b (Some (at_known token (Held g) ended)) None) at (λ (n : Known). read n ss) ≡ Ok m → IsTold token (Held g) ended ((at, Carried t) ∷ ss) m
  carry_told at token t g ended false is e = absurd (no_err at m e)
  carry_told at token t g ended true is e =
      let r = next token (Held g) ended (held_not g) e in
      (r.0, r.1, within_more at token (Carried t) g r.0 ss is r.2)

  end_told : (at token : ℕ) (left : Bool) (g : Option Grant) (ended : List Hold) →
      read (at_known token Free (ended ++ record { token = token; grant = g; end = Some (record { to = at; left = left }) } ∷ [])) ss ≡ Ok m → IsTold token (Held g) ended ((at, Ended left) ∷ ss) m
  end_told at token left g ended e =
      let h : Hold = record { token = token; grant = g; end = Some (record { to = at; left = left }) } in
      let r = next token Free (ended ++ h ∷ []) free_not e in
      (h ∷ r.0, r.1 ∙ append_assoc ended (h ∷ []) r.0, ended_more at token left g r.0 ss r.2)

  one_told : (at token : ℕ) (s : Standing) (ended : List Hold) (sign : Sign) → s ≢ Unknown → on (step_at s (at_known token s ended) at sign) at (λ (n : Known). read n ss) ≡ Ok m → IsTold token s ended ((at, sign) ∷ ss) m
  one_told at token Unknown ended sign not e = absurd (not refl)
  one_told at token Free ended (Granted t label) not e = grant_told at token t label ended (nat_lt token t) refl e
  one_told at token Free ended (Carried t) not e = absurd (no_err at m e)
  one_told at token Free ended (Ended left) not e = absurd (no_err at m e)
  one_told at token Free ended Other not e = let r = next token Free ended not e in (r.0, r.1, free_more at token r.0 ss r.2)
  one_told at token Free ended Wrong not e = absurd (no_err at m e)
  one_told at token (Held g) ended (Granted t label) not e = absurd (no_err at m e)
  one_told at token (Held g) ended (Carried t) not e = carry_told at token t g ended (t == token) refl e
  one_told at token (Held g) ended (Ended left) not e = end_told at token left g ended e
  one_told at token (Held g) ended Other not e = let r = next token (Held g) ended not e in (r.0, r.1, within_more at token Other g r.0 ss refl r.2)
  one_told at token (Held g) ended Wrong not e = absurd (no_err at m e)

none_told : (token : ℕ) (s : Standing) (ended : List Hold) (m : Known) → s ≢ Unknown → at_known token s ended ≡ m → IsTold token s ended [] m
none_told token Unknown ended m not e = absurd (not refl)
none_told token Free ended m not e = ([], sym (ap all_holds e), tt)
none_told token (Held g) ended m not e =
    (record { token = token; grant = g; end = None } ∷ [], sym (ap all_holds e), (None, [], refl, inl (refl, refl, tt)))

pub told : (ss : List (ℕ × Sign)) (m : Known) (token : ℕ) (s : Standing) (ended : List Hold) → s ≢ Unknown → read (at_known token s ended) ss ≡ Ok m → IsTold token s ended ss m
told [] m token s ended not e = none_told token s ended m not (same_ok (at_known token s ended) m e)
told (x ∷ ss) m token s ended not e = one_told ss m (told ss m) x.0 token s ended x.1 not e

-- ---- from the first segment of all on, and from a later one

pub read_first : (signs : List (ℕ × Sign)) (k : Known) → read nobody_holds signs ≡ Ok k → AreHolds 0 (all_holds k) signs
read_first signs k e =
    let r = told signs k 0 Free [] (λ (x : Free ≡ Unknown). cc) e in subst (λ (hs : List Hold). AreHolds 0 hs signs) (sym r.1) r.2

carried_told : (at t : ℕ) (ss : List (ℕ × Sign)) (k : Known) (b : Bool) → nat_lt 0 t ≡ b →
    on (cond b (Some (at_known t (Held None) [])) None) at (λ (n : Known). read n ss) ≡ Ok k → AreLaterHolds (all_holds k) ((at, Carried t) ∷ ss)
carried_told at t ss k false is e = absurd (no_err at k e)
carried_told at t ss k true is e =
    let r = told ss k t (Held None) [] (λ (x : Held None ≡ Unknown). cc) e in
    inr (subst (λ (hs : List Hold). IsCarried hs ((at, Carried t) ∷ ss)) (sym (r.1 ∙ r.2.2)) (at, ss, refl, below 0 t is, refl, r.2.3))

later_one : (at : ℕ) (sign : Sign) (ss : List (ℕ × Sign)) (k : Known) → on (step_at Unknown nothing_known at sign) at (λ (n : Known). read n ss) ≡ Ok k → AreLaterHolds (all_holds k) ((at, sign) ∷ ss)
later_one at (Granted t label) ss k e = inl (read_first ((at, Granted t label) ∷ ss) k e)
later_one at (Carried t) ss k e = carried_told at t ss k (nat_lt 0 t) refl e
later_one at (Ended left) ss k e = absurd (no_err at k e)
later_one at Other ss k e = inl (read_first ((at, Other) ∷ ss) k e)
later_one at Wrong ss k e = absurd (no_err at k e)

pub read_later : (signs : List (ℕ × Sign)) (k : Known) → read nothing_known signs ≡ Ok k → AreLaterHolds (all_holds k) signs
read_later [] k e = inl (subst (λ (x : Known). AreHolds 0 (all_holds x) []) (same_ok nothing_known k e) tt)
read_later (x ∷ ss) k e = later_one x.0 x.1 ss k e
