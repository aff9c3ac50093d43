-- Signs that record holds are read.
use Rattle.std.proofs.Common.{◌≡◌, ℕ, Bool, true, false, cond, List, [], ◌∷◌, ◌++◌, append_assoc, refl, sym, ◌∙◌, ap, Option, Some, None, Result, Ok, Err, inl, inr}
use Rattle.std.specs.Prelude.{◌⊎◌}
use Rattle.ring_check.proofs.Booleans.{lt_true}
use Rattle.chain_readers.specs.declared.holds.Grant.{Grant}
use Rattle.chain_readers.specs.declared.holds.End.{End}
use Rattle.chain_readers.specs.declared.holds.Hold.{Hold}
use Rattle.chain_readers.specs.declared.signs.Sign.{Sign}
use Rattle.chain_readers.specs.declared.signs.Sign.TheVariants.{Granted, Carried, Ended, Other, Wrong}
use Rattle.chain_readers.specs.declared.reader.Standing.TheVariants.{Free, Held}
use Rattle.chain_readers.specs.Holds.{is_other, is_within, Each, IsOpen, IsEnded, AreHolds, IsCarried, AreLaterHolds}
use Rattle.chain_readers.specs.Known.{Known, step, read, all_holds, nobody_holds, nothing_known}
use Rattle.chain_readers.proofs.Reading.{read_ok, read_one}
use Rattle.chain_readers.proofs.Told.{at_known}

-- the signs are read, and these holds are known after them
pub record IsKnown (k : Known) (signs : List (ℕ × Sign)) (holds : List Hold) : Type 0 where
  pub behind : Known
  pub is : read k signs ≡ Ok behind
  pub all : all_holds behind ≡ holds

other_read : (token : ℕ) (ended : List Hold) (s : Sign) (at : ℕ) → is_other s ≡ true → step (at_known token Free ended) at s ≡ Some (at_known token Free ended)
other_read token ended (Granted t label) at e = absurd (no e)
  where
    no : false ≡ true → ⊥
    no e = cc
other_read token ended (Carried t) at e = absurd (no e)
  where
    no : false ≡ true → ⊥
    no e = cc
other_read token ended (Ended left) at e = absurd (no e)
  where
    no : false ≡ true → ⊥
    no e = cc
other_read token ended Other at e = refl
other_read token ended Wrong at e = absurd (no e)
  where
    no : false ≡ true → ⊥
    no e = cc

others_read : (ss : List (ℕ × Sign)) (token : ℕ) (ended : List Hold) → Each is_other ss → read (at_known token Free ended) ss ≡ Ok (at_known token Free ended)
others_read [] token ended a = refl
others_read (x ∷ ss) token ended a =
    read_one (at_known token Free ended) x.0 x.1 ss (at_known token Free ended) (other_read token ended x.1 x.0 a.0) ∙ others_read ss token ended a.1

within_read : (token : ℕ) (g : Option Grant) (ended : List Hold) (s : Sign) (at : ℕ) → is_within token s ≡ true → step (at_known token (Held g) ended) at s ≡ Some (at_known token (Held g) ended)
within_read token g ended (Granted t label) at e = absurd (no e)
  where
    no : false ≡ true → ⊥
    no e = cc
within_read token g ended (Carried t) at e = ap (λ (b : Bool). cond b (Some (at_known token (Held g) ended)) None) e
within_read token g ended (Ended left) at e = absurd (no e)
  where
    no : false ≡ true → ⊥
    no e = cc
within_read token g ended Other at e = refl
within_read token g ended Wrong at e = absurd (no e)
  where
    no : false ≡ true → ⊥
    no e = cc

withins_read : (ss : List (ℕ × Sign)) (token : ℕ) (g : Option Grant) (ended : List Hold) → Each (is_within token) ss → read (at_known token (Held g) ended) ss ≡ Ok (at_known token (Held g) ended)
withins_read [] token g ended a = refl
withins_read (x ∷ ss) token g ended a =
    read_one (at_known token (Held g) ended) x.0 x.1 ss (at_known token (Held g) ended) (within_read token g ended x.1 x.0 a.0) ∙ withins_read ss token g ended a.1

-- a hold and its parts
hold_is : (h : Hold) (e : Option End) → h.end ≡ e → record { token = h.token; grant = h.grant; end = e } ≡ h
hold_is h e same = ap (λ (x : Option End). record { token = h.token; grant = h.grant; end = x }) (sym same)

module _ (h : Hold) (others : List Hold) (next : (signs : List (ℕ × Sign)) (ended : List Hold) → AreHolds h.token others signs → IsKnown (at_known h.token Free ended) signs (ended ++ others)) where
  open_known : (signs : List (ℕ × Sign)) (ended : List Hold) → IsOpen h others signs → IsKnown (at_known h.token (Held h.grant) ended) signs (ended ++ h ∷ others)
  open_known signs ended o = record {
    behind = at_known h.token (Held h.grant) ended;
    is = withins_read signs h.token h.grant ended o.2;
    all = ap (λ (x : Hold). ended ++ x ∷ []) (hold_is h None o.0) ∙ ap (λ (x : List Hold). ended ++ h ∷ x) (sym o.1);
  }

  ended_known : (signs : List (ℕ × Sign)) (ended : List Hold) → IsEnded h (AreHolds h.token others) signs → IsKnown (at_known h.token (Held h.grant) ended) signs (ended ++ h ∷ others)
  ended_known signs ended o =
      let k : Known = at_known h.token (Held h.grant) ended in
      let r = next o.2 (ended ++ h ∷ []) o.6 in
      let step_is : step k o.0.to (Ended o.0.left) ≡ Some (at_known h.token Free (ended ++ h ∷ [])) =
      ap (λ (x : Hold). Some (at_known h.token Free (ended ++ x ∷ []))) (hold_is h (Some o.0) o.3) in
      record {
        behind = r.behind;
        is = ap (read k) o.4 ∙ read_ok k o.1 ((o.0.to, Ended o.0.left) ∷ o.2) k (withins_read o.1 h.token h.grant ended o.5)
            ∙ read_one k o.0.to (Ended o.0.left) o.2 (at_known h.token Free (ended ++ h ∷ [])) step_is ∙ r.is;
        all = r.all ∙ append_assoc ended (h ∷ []) others;
      }

  pub behind_known : (signs : List (ℕ × Sign)) (ended : List Hold) → (IsOpen h others signs ⊎ IsEnded h (AreHolds h.token others) signs) → IsKnown (at_known h.token (Held h.grant) ended) signs (ended ++ h ∷ others)
  behind_known signs ended (inl o) = open_known signs ended o
  behind_known signs ended (inr o) = ended_known signs ended o

nothing_more : (xs : List Hold) → xs ++ [] ≡ xs
nothing_more [] = refl
nothing_more (x ∷ xs) = ap (λ (y : List Hold). x ∷ y) (nothing_more xs)

pub known_free : (hs : List Hold) (token : ℕ) (signs : List (ℕ × Sign)) (ended : List Hold) → AreHolds token hs signs → IsKnown (at_known token Free ended) signs (ended ++ hs)
known_free [] token signs ended a = record {
  behind = at_known token Free ended;
  is = others_read signs token ended a;
  all = refl;
}
known_free (h ∷ hs) token signs ended a =
    let k : Known = at_known token Free ended in
    let r = behind_known h hs (known_free hs h.token) a.2 ended a.7 in
    let begins : step k a.0.from (Granted h.token a.0.label) ≡ Some (at_known h.token (Held h.grant) ended) =
    ap (λ (b : Bool). cond b (Some (at_known h.token (Held (Some a.0)) ended)) None) (lt_true token h.token a.4) ∙ ap (λ (g : Option Grant). Some (at_known h.token (Held g) ended)) (sym a.3) in
    record {
      behind = r.behind;
      is = ap (read k) a.5 ∙ read_ok k a.1 ((a.0.from, Granted h.token a.0.label) ∷ a.2) k (others_read a.1 token ended a.6)
          ∙ read_one k a.0.from (Granted h.token a.0.label) a.2 (at_known h.token (Held h.grant) ended) begins ∙ r.is;
      all = r.all;
    }

-- ---- from a later segment on

err_ok : (p : ℕ) (m : Known) → ◌≡◌ {A = Result Known ℕ} (Err p) (Ok m) → ⊥
err_ok p m e = cc

first_as_later : (at : ℕ) (sign : Sign) (ss : List (ℕ × Sign)) (m : Known) → read nobody_holds ((at, sign) ∷ ss) ≡ Ok m → read nothing_known ((at, sign) ∷ ss) ≡ Ok m
first_as_later at (Granted t label) ss m e = e
first_as_later at (Carried t) ss m e = absurd (err_ok at m e)
first_as_later at (Ended left) ss m e = absurd (err_ok at m e)
first_as_later at Other ss m e = e
first_as_later at Wrong ss m e = absurd (err_ok at m e)

later_known : (signs : List (ℕ × Sign)) (holds : List Hold) → IsKnown nobody_holds signs holds → IsKnown nothing_known signs holds
later_known [] holds k = record { behind = nothing_known; is = refl; all = ap all_holds (same (k.behind) k.is) ∙ k.all }
  where
    same : (m : Known) → ◌≡◌ {A = Result Known ℕ} (Ok nobody_holds) (Ok m) → nobody_holds ≡ m
    same m e = cc
later_known (x ∷ ss) holds k = record { behind = k.behind; is = first_as_later x.0 x.1 ss k.behind k.is; all = k.all }

carried_known : (holds : List Hold) (signs : List (ℕ × Sign)) → IsCarried holds signs → IsKnown nothing_known signs holds
carried_known [] signs c = absurd c
carried_known (h ∷ hs) signs c =
    let r = behind_known h hs (known_free hs h.token) c.1 [] c.5 in
    let begins : step nothing_known c.0 (Carried h.token) ≡ Some (at_known h.token (Held h.grant) []) =
    ap (λ (b : Bool). cond b (Some (at_known h.token (Held None) [])) None) (lt_true 0 h.token c.3) ∙ ap (λ (g : Option Grant). Some (at_known h.token (Held g) [])) (sym c.2) in
    record {
      behind = r.behind;
      is = ap (read nothing_known) c.4 ∙ read_one nothing_known c.0 (Carried h.token) c.1 (at_known h.token (Held h.grant) []) begins ∙ r.is;
      all = r.all;
    }

pub known_first : (holds : List Hold) (signs : List (ℕ × Sign)) → AreHolds 0 holds signs → IsKnown nobody_holds signs holds
known_first holds signs a = known_free holds 0 signs [] a

pub known_later : (holds : List Hold) (signs : List (ℕ × Sign)) → AreLaterHolds holds signs → IsKnown nothing_known signs holds
known_later holds signs (inl a) = later_known signs holds (known_first holds signs a)
known_later holds signs (inr c) = carried_known holds signs c

-- ---- so no others are, and where a reader refuses none are

pub not_refused : (k : Known) (signs : List (ℕ × Sign)) (holds : List Hold) (at : ℕ) → IsKnown k signs holds → read k signs ≡ Err at → ⊥
not_refused k signs holds at i e = err_ok at i.behind (sym e ∙ i.is)

pub one_list : (k : Known) (signs : List (ℕ × Sign)) (holds others : List Hold) → IsKnown k signs holds → IsKnown k signs others → holds ≡ others
one_list k signs holds others i j = sym i.all ∙ ap all_holds (same i.behind j.behind (sym i.is ∙ j.is)) ∙ j.all
  where
    same : (m n : Known) → ◌≡◌ {A = Result Known ℕ} (Ok m) (Ok n) → m ≡ n
    same m n e = cc
