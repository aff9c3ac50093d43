-- The numbers of names in a table.
use Rattle.std.proofs.Common.{◌≡◌, ℕ, zero, suc, ◌<◌, ◌≤◌, Bool, true, false, List, [], ◌∷◌, ◌++◌, length, Option, Some, None, refl, sym, ap, subst, ◌∙◌, inl, inr, slice_get, get_or, map, ◌+◌, arith}
use Rattle.std.specs.Prelude.{if◌then◌else◌, unwrap_or}
use Rattle.std.specs.Option.{option_map}
use Rattle.std.specs.List.{AllByRecursion, list_any, IsDistinct}
use Rattle.std.specs.Str.{bytes_eq}
use Rattle.std.specs.Cmp.{IsEquivalence}
use Rattle.std.specs.HashMap as hash
use Rattle.std.specs.HashMap.{HashMap}
use Rattle.std.specs.Map.{KeepsOthers, lookup}
use Rattle.std.proofs.lemmas.Bool.{false≢true, cases_Bool}
use Rattle.std.proofs.lemmas.List.{map-append, length-map, length-append}
use Rattle.std.proofs.lemmas.Slice.Eq.{bytes_eq-Decides}
use Rattle.std.proofs.lemmas.Map.Keys.{IsDistinct-push, IsDistinct-head, IsDistinct-tail}
use Rattle.std.proofs.lemmas.Option.{slice_get-get_or}
use Rattle.held_locks.specs.Kept.{lock_limit}
use Rattle.lock_protocol.specs.Names.{IsName, Names, AreNames, lock_named, name_of}
use Rattle.lock_protocol.specs.Tables.{HasNumbers}

-- ---- bytes that are equal

by_test : (x y : List ℕ) (b : Bool) → bytes_eq y x ≡ b → bytes_eq x y ≡ b
by_test x y true h = (bytes_eq-Decides x y).1 (sym ((bytes_eq-Decides y x).0 h))
by_test x y false h = other (bytes_eq x y) refl
  where
    other : (b : Bool) → bytes_eq x y ≡ b → bytes_eq x y ≡ false
    other false e = e
    other true e = absurd (false≢true (sym h ∙ (bytes_eq-Decides y x).1 (sym ((bytes_eq-Decides x y).0 e))))

mirrored : (x y : List ℕ) → bytes_eq x y ≡ bytes_eq y x
mirrored x y = by_test x y (bytes_eq y x) refl

itself : (x : List ℕ) → bytes_eq x x ≡ true
itself x = (bytes_eq-Decides x x).1 refl

pub bytes_equiv : IsEquivalence bytes_eq
bytes_equiv = record {
  refl = itself;
  symm = mirrored;
  congr = λ x y z h. ap (λ (t : List ℕ). bytes_eq t z) ((bytes_eq-Decides x y).0 h);
}

-- ---- one name more

pub named_others : (names : Names) (x q : List ℕ) → bytes_eq q x ≡ false → lock_named (names ++ x ∷ []) q ≡ lock_named names q
named_others [] x q other = rw other refl
named_others (y ∷ ys) x q other = ap (λ (o : Option ℕ). if bytes_eq q y then Some 0 else option_map suc o) (named_others ys x q other)

-- a name that is not the first, and has no number among the others
later : (b : Bool) (o : Option ℕ) → ◌≡◌ {A = Option ℕ} (if b then Some 0 else option_map suc o) None → (b ≡ false) × (o ≡ None)
later true o e = absurd cc
later false None e = (refl, refl)
later false (Some n) e = absurd cc

pub named_last : (names : Names) (x : List ℕ) → lock_named names x ≡ None → lock_named (names ++ x ∷ []) x ≡ Some (length names)
named_last [] x e = rw (itself x) refl
named_last (y ∷ ys) x e =
    let l = later (bytes_eq x y) (lock_named ys x) e in
    rw l.0 (ap (λ (o : Option ℕ). option_map suc o) (named_last ys x l.1))

pub none_any : (names : Names) (x : List ℕ) → lock_named names x ≡ None → list_any (bytes_eq x) names ≡ false
none_any [] x e = refl
none_any (y ∷ ys) x e = let l = later (bytes_eq x y) (lock_named ys x) e in rw l.0 (none_any ys x l.1)

each_more : (names : Names) (x : List ℕ) → AllByRecursion IsName names → IsName x → AllByRecursion IsName (names ++ x ∷ [])
each_more [] x each is = (is, tt)
each_more (y ∷ ys) x each is = (each.0, each_more ys x each.1 is)

pub names_more : (names : Names) (x : List ℕ) → AreNames names → IsName x → lock_named names x ≡ None → AreNames (names ++ x ∷ [])
names_more names x are is none = record {
  each = each_more names x are.each is;
  apart = IsDistinct-push bytes_equiv names x are.apart (none_any names x none);
}

pub no_names : AreNames []
unfolding IsDistinct
no_names = record { each = tt; apart = tt }

-- ---- in a map

apart : (bs cs ks : List ℕ) → bytes_eq bs cs ≡ false → bytes_eq bs ks ≡ true → bytes_eq cs ks ≡ false
apart bs cs ks n y = mirrored cs ks ∙ (ap (λ (t : List ℕ). bytes_eq t cs) (sym ((bytes_eq-Decides bs ks).0 y)) ∙ n)

others_stay : {K : Type 0} (bytes : K → List ℕ) (key : K) (old new : List (K × ℕ)) (q : List ℕ) → bytes_eq (bytes key) q ≡ false → KeepsOthers (λ x y. bytes_eq (bytes x) (bytes y)) (λ y. bytes_eq (bytes key) (bytes y)) old new → lookup (λ k. bytes_eq q (bytes k)) new ≡ lookup (λ k. bytes_eq q (bytes k)) old
unfolding KeepsOthers
others_stay bytes key old new q other keeps = keeps (λ k. bytes_eq q (bytes k)) (λ x y. bytes_equiv.congr q (bytes x) (bytes y)) (λ k. apart (bytes key) q (bytes k) other)

pub numbers_more : {K S : Type 0} (bytes : K → List ℕ) (m n : HashMap K ℕ S) (names : Names) (key : K) → HasNumbers m bytes names → hash.Updates (λ x y. bytes_eq (bytes x) (bytes y)) m n key (Some (length names)) → lock_named names (bytes key) ≡ None → HasNumbers n bytes (names ++ bytes key ∷ [])
numbers_more bytes m n names key has changed none = λ q. elim (cases_Bool (bytes_eq (bytes key) q)) [
  | inl y ↦
      let same : bytes key ≡ q = (bytes_eq-Decides (bytes key) q).0 y in
      subst (λ (t : List ℕ). hash.get_by (λ k. bytes_eq t (bytes k)) n ≡ lock_named (names ++ bytes key ∷ []) t) same (changed.1 ∙ sym (named_last names (bytes key) none))
  | inr other ↦
      others_stay bytes key m.entries n.entries q other changed.3 ∙ (has q ∙ sym (named_others names (bytes key) q (mirrored q (bytes key) ∙ other)))
]

-- a table with one name more
pub table_more : {V K S : Type 0} (text : V → List ℕ) (bytes : K → List ℕ) (vs ws : List V) (m n : HashMap K ℕ S) (v : V) (key : K) (name : List ℕ) (lock : ℕ) → lock ≡ length vs → AreNames (map text vs) → HasNumbers m bytes (map text vs) → length vs < lock_limit → IsName name → text v ≡ name → bytes key ≡ name →
    ws ≡ vs ++ v ∷ [] → hash.Updates (λ x y. bytes_eq (bytes x) (bytes y)) m n key (Some lock) → lock_named (map text vs) name ≡ None → AreNames (map text ws) × HasNumbers n bytes (map text ws) × (length ws ≤ lock_limit)
table_more text bytes vs ws m n v key name lock last are has few is v_is key_is more changed none =
    let names : Names = map text vs in
    let all : map text ws ≡ names ++ name ∷ [] = ap (λ x. map text x) more ∙ (map-append text vs (v ∷ []) ∙ ap (λ (x : List ℕ). names ++ x ∷ []) v_is) in
    let many : lock ≡ length names = last ∙ sym (length-map vs text) in
    let missing : lock_named names (bytes key) ≡ None = ap (λ (x : List ℕ). lock_named names x) key_is ∙ none in
    let numbers : HasNumbers n bytes (names ++ bytes key ∷ []) = numbers_more bytes m n names key has (subst (λ (k : ℕ). hash.Updates (λ x y. bytes_eq (bytes x) (bytes y)) m n key (Some k)) many changed) missing in
    let long : length ws ≡ length vs + 1 = ap (λ x. length x) more ∙ length-append vs (v ∷ []) in
    subst (λ (x : Names). AreNames x × HasNumbers n bytes x × (length ws ≤ lock_limit)) (sym all) (names_more names name are is none, subst (λ (x : List ℕ). HasNumbers n bytes (names ++ x ∷ [])) key_is numbers, omega (arith, long, few))

-- ---- the name of a number

pub named_there : (names : Names) (x : List ℕ) (lock : ℕ) → lock_named names x ≡ Some lock → slice_get names lock ≡ Some x
named_there [] x lock e = absurd cc
named_there (y ∷ ys) x lock e = go (bytes_eq x y) refl (lock_named ys x) refl (named_there ys x) lock e
  where
    go : (b : Bool) → bytes_eq x y ≡ b → (o : Option ℕ) → lock_named ys x ≡ o → ((k : ℕ) → lock_named ys x ≡ Some k → slice_get ys k ≡ Some x) → (lock : ℕ) → ◌≡◌ {A = Option ℕ} (if b then Some 0 else option_map suc o) (Some lock) → slice_get (y ∷ ys) lock ≡ Some x
    go true same o f rest zero e = ap (λ (t : List ℕ). Some t) (sym ((bytes_eq-Decides x y).0 same))
    go true same o f rest (suc n) e = absurd cc
    go false same None f rest lock e = absurd cc
    go false same (Some n) f rest zero e = absurd cc
    go false same (Some n) f rest (suc k) e = let is : n ≡ k = cc in rest k (f ∙ ap (λ (m : ℕ). Some m) is)

-- a name that has a number is that of the number
pub name_is : (names : Names) (x : List ℕ) (lock : ℕ) → lock_named names x ≡ Some lock → name_of names lock ≡ x
name_is names x lock e = ap (λ (o : Option (List ℕ)). unwrap_or o []) (named_there names x lock e)

-- among names of which no two are the same each number is its name's
pub name_back : (names : Names) (lock : ℕ) (x : List ℕ) → IsDistinct bytes_eq names → slice_get names lock ≡ Some x → lock_named names x ≡ Some lock
name_back [] lock x apart e = absurd cc
name_back (y ∷ ys) zero x apart e = let same : y ≡ x = cc in rw ((bytes_eq-Decides x y).1 (sym same)) refl
name_back (y ∷ ys) (suc lock) x apart e =
    let rest : lock_named ys x ≡ Some lock = name_back ys lock x (IsDistinct-tail bytes_eq y ys apart) e in
    let other : bytes_eq x y ≡ false = mirrored x y ∙ away ys lock (IsDistinct-head bytes_eq y ys apart) e in
    rw (other, rest) refl
  where
    away : (zs : Names) (n : ℕ) → AllByRecursion (λ (z : List ℕ). bytes_eq y z ≡ false) zs → slice_get zs n ≡ Some x → bytes_eq y x ≡ false
    away [] n all e = absurd cc
    away (z ∷ zs) zero all e = let same : z ≡ x = cc in subst (λ (t : List ℕ). bytes_eq y t ≡ false) same all.0
    away (z ∷ zs) (suc n) all e = away zs n all.1 e

each_name : (names : Names) (lock : ℕ) (x : List ℕ) → AllByRecursion IsName names → slice_get names lock ≡ Some x → IsName x
each_name [] lock x all e = absurd cc
each_name (y ∷ ys) zero x all e = let same : y ≡ x = cc in subst (λ (t : List ℕ). IsName t) same all.0
each_name (y ∷ ys) (suc lock) x all e = each_name ys lock x all.1 e

-- the name of a lock is one, and finds the lock
pub name_there : (names : Names) (lock : ℕ) → AreNames names → lock < length names → IsName (name_of names lock) × (lock_named names (name_of names lock) ≡ Some lock)
name_there names lock are lt =
    let x : List ℕ = get_or names lock [] in
    let here : slice_get names lock ≡ Some x = slice_get-get_or names lock [] lt in
    let is : x ≡ name_of names lock = sym (ap (λ (o : Option (List ℕ)). unwrap_or o []) here) in
    subst (λ (t : List ℕ). IsName t × (lock_named names t ≡ Some lock)) is (each_name names lock x are.each here, name_back names lock x are.apart here)
