-- A beginning in which no client holds a lock.
use Rattle.std.proofs.Common.{◌≡◌, ℕ, zero, suc, ◌<◌, ◌≤◌, List, [], ◌∷◌, length, Option, None, Some, refl, sym, ◌∙◌, ap, subst, arith}
use Rattle.std.specs.Prelude.{slice_get}
use Rattle.std.proofs.lemmas.Option.{slice_get_within}
use Rattle.held_locks.specs.declared.answers.Holder.{Holder}
use Rattle.held_locks.specs.Queues.{Lock, client_of}
use Rattle.lock_names.specs.Names.{Bound, total}
use Rattle.lock_names.specs.Promises.{IsRightName, begun, NamesBegin}
use Rattle.lock_names.specs.Alike.{OwnBegin}
use Rattle.name_bindings.proofs.Found.{some_same, none_some}

abbrev fixed_name : List ℕ → Bound
fixed_name x = record { name = x; before = 0; floor = 0 }

length_begun : (ns : List (List ℕ)) (ls : List Lock) → length (begun ns ls) ≡ length ls
length_begun [] [] = refl
length_begun (n ∷ ns) [] = refl
length_begun [] (l ∷ ls) = ap (λ (n : ℕ). suc n) (length_begun [] ls)
length_begun (n ∷ ns) (l ∷ ls) = ap (λ (n : ℕ). suc n) (length_begun ns ls)

in_total : (ls : List Lock) (i : ℕ) (l : Lock) → slice_get ls i ≡ Some l → l.ring.grants ≤ total ls
in_total [] i l e = absurd (none_some l e)
in_total (k ∷ ls) zero l e = let same : k.ring.grants ≡ l.ring.grants = ap (λ (x : Lock). x.ring.grants) (some_same k l e) in omega arith
in_total (k ∷ ls) (suc i) l e = let le : l.ring.grants ≤ total ls = in_total ls i l e in omega arith

-- the name of a ring
data NameOf (ns : List (List ℕ)) (i : ℕ) (o : Option Bound) : Type 0 where
  Free : o ≡ None → length ns ≤ i → NameOf ns i o
  Fixed : (x : List ℕ) → slice_get ns i ≡ Some x → o ≡ Some (fixed_name x) → NameOf ns i o

further_name : (x : List ℕ) (ns : List (List ℕ)) (i : ℕ) (o : Option Bound) → NameOf ns i o → NameOf (x ∷ ns) (suc i) o
further_name x ns i o (Free e le) = Free e (omega (arith, le))
further_name x ns i o (Fixed y e f) = Fixed y e f

later_name : (i : ℕ) (o : Option Bound) → NameOf [] i o → NameOf [] (suc i) o
later_name i o (Free e le) = Free e (omega arith)
later_name i o (Fixed y e f) = absurd (none_some y e)

name_of : (ns : List (List ℕ)) (ls : List Lock) (i : ℕ) (o : Option Bound) → slice_get (begun ns ls) i ≡ Some o → NameOf ns i o
name_of [] [] i o e = absurd (none_some o e)
name_of (n ∷ ns) [] i o e = absurd (none_some o e)
name_of [] (l ∷ ls) zero o e = Free (sym (some_same None o e)) (omega arith)
name_of [] (l ∷ ls) (suc i) o e = later_name i o (name_of [] ls i o e)
name_of (n ∷ ns) (l ∷ ls) zero o e = Fixed n refl (sym (some_same (Some (fixed_name n)) o e))
name_of (n ∷ ns) (l ∷ ls) (suc i) o e = further_name n ns i o (name_of ns ls i o e)

right_name : (ns : List (List ℕ)) (top i : ℕ) (l : Lock) (o : Option Bound) → l.holder ≡ None → l.ring.grants ≤ top → NameOf ns i o → IsRightName (length ns) top i l o
right_name ns top i l o h le (Free e f) = subst (λ (z : Option Bound). IsRightName (length ns) top i l z) (sym e) (f, h)
right_name ns top i l o h le (Fixed x e f) =
    let below : i < length ns = slice_get_within ns i x e in
    subst (λ (z : Option Bound). IsRightName (length ns) top i l z) (sym f) (
      record { before = omega arith; token = omega arith; held = λ k q. absurd (none_some k (sym h ∙ q)) },
      λ g. absurd (omega (arith, g)),
    )

bound_name : (ns : List (List ℕ)) (i : ℕ) (b : Bound) → NameOf ns i (Some b) → slice_get ns i ≡ Some b.name
bound_name ns i b (Free e f) = absurd (none_some b (sym e))
bound_name ns i b (Fixed x e f) = e ∙ ap (λ (z : Bound). Some z.name) (some_same (fixed_name x) b (sym f))

pub names_begin : NamesBegin
names_begin ns ls r h apart = record {
  right = r;
  many = length_begun ns ls;
  each = λ i l o e f. right_name ns (total ls) i l o (h i l e) (in_total ls i l e) (name_of ns ls i o f);
  once = λ i j b d e f same.
      apart i j d.name (bound_name ns i b (name_of ns ls i (Some b) e) ∙ ap (λ (x : List ℕ). Some x) same) (bound_name ns j d (name_of ns ls j (Some d) f));
}

pub own_begin : OwnBegin
own_begin fixed ns ls own r s h k apart many known = record {
  right = s;
  many = many;
  apart = apart;
  tokens = λ j m q e f. absurd (none_some q (sym (k j m e) ∙ f));
  known = λ i b e. known i b.name (bound_name fixed i b (name_of fixed ls i (Some b) e));
  used = λ j m i b l e f g d. (
    ap (λ (z : Option Holder). client_of z) (h i l d) ∙ sym (ap (λ (z : Option Holder). client_of z) (k j m f)),
    (r.each i l d).held (h i l d) ∙ sym ((s.each j m f).held (k j m f)),
  );
  unused = λ j x m e f g. (k j m f, (s.each j m f).held (k j m f));
}
