-- Names that were seen.
use lib.Pointwise.{pointwise}
use Rattle.std.proofs.Common.{◌≡◌, ◌∙◌, ◌<◌, ◌+◌, ◌≤◌, ℕ, List, [], ◌∷◌, ◌++◌, length, take, map, get_or, Bool, true, false, cond, nat_eq, Option, Some, None, refl, sym, ap, subst}
use Rattle.std.specs.Prelude.{◌||◌, slice_get}
use Rattle.std.specs.HashMap as hash
use Rattle.std.specs.HashMap.{HashMap}
use Rattle.std.specs.Cmp.{IsEquivalence}
use Rattle.std.specs.List.{take-map}
use Rattle.std.specs.Option.{is_some}
use Rattle.std.specs.List.{list_any, IsDistinct}
use Rattle.std.specs.Str.{bytes_eq}
use Rattle.std.specs.Borrow.{Bor}
use Rattle.std.proofs.lemmas.Bool.{false≢true}
use Rattle.std.proofs.lemmas.List.{take_all}
use Rattle.std.proofs.lemmas.List.Folds.{list_any-append}
use Rattle.std.proofs.lemmas.Map.Keys.{IsDistinct-push}
use Rattle.std.proofs.lemmas.Map.Text.{hash_map_updates_str, hash_map_str_same}
use Rattle.std.proofs.lemmas.Slice.Eq.{bytes_eq-Decides}
use Rattle.lock_protocol.specs.Names.{Names}
use Rattle.folder_of_locks.specs.declared.locks.ListedLock.{ListedLock}
use Rattle.folder_of_locks.specs.Lists.{Listed, listed, names_of}
use Rattle.folder_of_locks.proofs.Checked.{map-append, grown, got}

-- the keys of the map are just the names of these locks
abbrev pub HasNames : {S : Type 0} → HashMap (Bor (List ℕ)) ℕ S → List Listed → Type 0
HasNames m ls = (q : List ℕ) → is_some (hash.get_by (λ k. bytes_eq q k.now) m) ≡ list_any (bytes_eq q) (names_of ls)

joined : (e f a : Bool) (o : Option ℕ) (v : ℕ) → is_some o ≡ a → e ≡ f → is_some (cond e (Some v) o) ≡ (a || (f || false))
joined true true true o v h s = refl
joined true true false o v h s = refl
joined true false a o v h s = absurd (false≢true (sym s))
joined false true a o v h s = absurd (false≢true s)
joined false false true o v h s = h
joined false false false o v h s = h

by_test : (x y : List ℕ) (b : Bool) → bytes_eq y x ≡ b → bytes_eq x y ≡ b
by_test x y true h = (bytes_eq-Decides x y).1 (sym ((bytes_eq-Decides y x).0 h))
by_test x y false h = other (bytes_eq x y) refl
  where
    other : (b : Bool) → bytes_eq x y ≡ b → bytes_eq x y ≡ false
    other false e = e
    other true e = absurd (false≢true (sym h ∙ (bytes_eq-Decides y x).1 (sym ((bytes_eq-Decides x y).0 e))))

mirrored : (x y : List ℕ) → bytes_eq x y ≡ bytes_eq y x
mirrored x y = by_test x y (bytes_eq y x) refl

bytes_equiv : IsEquivalence bytes_eq
bytes_equiv = record {
  refl = λ x. (bytes_eq-Decides x x).1 refl;
  symm = mirrored;
  congr = λ x y z h. ap (λ (t : List ℕ). bytes_eq t z) ((bytes_eq-Decides x y).0 h);
}

names-more : (ls : List Listed) (l : Listed) → names_of (ls ++ l ∷ []) ≡ names_of ls ++ l.name ∷ []
names-more ls l = map-append (λ (x : Listed). x.name) ls (l ∷ [])

-- before the first lock no name was seen
pub none_seen : {S : Type 0} (m : HashMap (Bor (List ℕ)) ℕ S) → m.entries ≡ [] → HasNames m [] × IsDistinct bytes_eq []
unfolding IsDistinct
none_seen m none = (λ q. rw none refl, tt)

-- a name more
has_more : {S : Type 0} (m n : HashMap (Bor (List ℕ)) ℕ S) (ls : List Listed) (l : Listed) (key : Bor (List ℕ)) (v : ℕ) → HasNames m ls → hash.Updates (λ x y. bytes_eq x.now y.now) m n key (Some v) → key.now ≡ l.name →
    HasNames n (ls ++ l ∷ [])
has_more m n ls l key v before changed same = λ q.
    let now = hash_map_updates_str key.now m n (Some v) changed q in
    let names : list_any (bytes_eq q) (names_of (ls ++ l ∷ [])) ≡ (list_any (bytes_eq q) (names_of ls) || (bytes_eq q l.name || false)) =
    ap (list_any (bytes_eq q)) (names-more ls l) ∙ list_any-append (bytes_eq q) (names_of ls) (l.name ∷ []) in
    let asks : bytes_eq key.now q ≡ bytes_eq q l.name = mirrored key.now q ∙ ap (bytes_eq q) same in
    ap is_some now ∙ joined (bytes_eq key.now q) (bytes_eq q l.name) (list_any (bytes_eq q) (names_of ls)) (hash.get_by (λ k. bytes_eq q k.now) m) v (before q) asks ∙ sym names

-- what the map had at a name
asked : {S : Type 0} (m : HashMap (Bor (List ℕ)) ℕ S) (ls : List Listed) (key : Bor (List ℕ)) (o : Option ℕ) → HasNames m ls → o ≡ hash.get (λ x y. pointwise nat_eq x.now y.now) m key → list_any (bytes_eq key.now) (names_of ls) ≡ is_some o
asked m ls key o before is = sym (before key.now) ∙ ap is_some (sym (hash_map_str_same key key.now m.entries refl).0 ∙ sym is)

-- a lock more with a name of its own
pub seen_more : {S : Type 0} (m n : HashMap (Bor (List ℕ)) ℕ S) (locks : List ListedLock) (i : ℕ) (d : ListedLock) (v : ℕ) → i < length locks → HasNames m (map listed (take i locks)) × IsDistinct bytes_eq (names_of (map listed (take i locks))) →
    None ≡ hash.get (λ x y. pointwise nat_eq x.now y.now) m ((get_or locks i d).name) → hash.Updates (λ x y. bytes_eq x.now y.now) m n ((get_or locks i d).name) (Some v) →
    HasNames n (map listed (take (i + 1) locks)) × IsDistinct bytes_eq (names_of (map listed (take (i + 1) locks)))
seen_more m n locks i d v lt before none changed =
    let ls = map listed (take i locks) in
    let l = listed (get_or locks i d) in
    let key = (get_or locks i d).name in
    let named : HasNames n (ls ++ l ∷ []) = has_more m n ls l key v before.0 changed refl in
    let apart : IsDistinct bytes_eq (names_of ls ++ l.name ∷ []) = IsDistinct-push bytes_equiv (names_of ls) l.name before.1 (asked m ls key None before.0 none) in
    let both : HasNames n (ls ++ l ∷ []) × IsDistinct bytes_eq (names_of (ls ++ l ∷ [])) = (named, subst (IsDistinct bytes_eq) (sym (names-more ls l)) apart) in
    subst (λ (x : List Listed). HasNames n x × IsDistinct bytes_eq (names_of x)) (sym (grown locks i d lt)) both

taken : (locks : List ListedLock) (i : ℕ) → take i (map listed locks) ≡ map listed (take i locks)
taken locks i = take-map listed i locks

-- a lock with the name of one before it
pub seen_twice : {S : Type 0} (m : HashMap (Bor (List ℕ)) ℕ S) (locks : List ListedLock) (i : ℕ) (d : ListedLock) (v : ℕ) → i < length locks → HasNames m (map listed (take i locks)) × IsDistinct bytes_eq (names_of (map listed (take i locks))) →
    Some v ≡ hash.get (λ x y. pointwise nat_eq x.now y.now) m ((get_or locks i d).name) →
    (l : Listed) × (slice_get (map listed locks) i ≡ Some l) × (list_any (bytes_eq l.name) (names_of (take i (map listed locks))) ≡ true)
seen_twice m locks i d v lt before some = (
  listed (get_or locks i d),
  got locks i d lt,
  ap (λ (x : List Listed). list_any (bytes_eq (get_or locks i d).name.now) (names_of x)) (taken locks i) ∙ asked m (map listed (take i locks)) (get_or locks i d).name (Some v) before.0 some,
)

-- all locks have names of their own
pub all_apart : (locks : List ListedLock) (i : ℕ) → length locks ≤ i → IsDistinct bytes_eq (names_of (map listed (take i locks))) → IsDistinct bytes_eq (names_of (map listed locks))
all_apart locks i le h = subst (λ (x : List ListedLock). IsDistinct bytes_eq (names_of (map listed x))) (take_all i locks le) h

-- ---- the table of the names

pub names_next : (locks : List ListedLock) (i : ℕ) (d : ListedLock) (names more : Names) → i < length locks → names ≡ names_of (map listed (take i locks)) → more ≡ names ++ (get_or locks i d).name.now ∷ [] → more ≡ names_of (map listed (take (i + 1) locks))
names_next locks i d names more lt so_far e =
    let ls = map listed (take i locks) in
    let l = listed (get_or locks i d) in
    e ∙ (ap (λ (x : Names). x ++ l.name ∷ []) so_far ∙ (sym (names-more ls l) ∙ sym (ap (λ (x : List Listed). names_of x) (grown locks i d lt))))

pub names_all : (locks : List ListedLock) (i : ℕ) (names : Names) → length locks ≤ i → names ≡ names_of (map listed (take i locks)) → names ≡ names_of (map listed locks)
names_all locks i names le e = subst (λ (x : List ListedLock). names ≡ names_of (map listed x)) (take_all i locks le) e
