-- Files whose content is known stay known while a folder is locked, and a folder that is locked stays so.
use Rattle.std.proofs.Common.{◌≡◌, ◌∙◌, ℕ, List, [], Bool, true, false, Option, None, Some, refl, sym, ap, subst, ◌⊎◌, inl, inr}
use Rattle.std.specs.Prelude.{IsSome, IfSome}
use Rattle.std.specs.Io.KnownBytes.{Appends}
use Rattle.std.proofs.lemmas.Bool.{false≢true}
use Rattle.disks.specs.Held.{Held, Replaces, LetsGo, Creates, Locks}
use Rattle.tool_parts.specs.Locking.{lock_of, IsLocked, StandsLocked}

replaced_known : (was is : Option Held) (name : List ℕ) (contents : Option (List ℕ)) → Replaces was is name contents → IsSome was → IsSome is
replaced_known None is name contents r some = absurd (false≢true some)
replaced_known (Some was) None name contents r some = absurd r
replaced_known (Some was) (Some is) name contents r some = refl

created_known : (was is : Option Held) (name : List ℕ) (made : Bool) → Creates was is name made → IsSome was → IsSome is
created_known None is name made c some = absurd (false≢true some)
created_known (Some was) is name true c some = replaced_known (Some was) is name (Some []) c.1 some
created_known (Some was) is name false c some = subst (λ (x : Option Held). IsSome x) (sym c.0) refl

locking_known : (was is : Option Held) (name : List ℕ) → Locks was is name → IsSome was → IsSome is
locking_known None is name l some = absurd (false≢true some)
locking_known (Some was) None name l some = absurd l
locking_known (Some was) (Some is) name l some = refl

pub locked_known : (before there : Option Held) (folder : List ℕ) → IsLocked before there folder → IsSome before → IsSome there
locked_known before there folder l some = locking_known l.0 there (lock_of folder) l.2 (created_known before l.0 (lock_of folder) l.1.0 l.1.1 some)

-- ---- a folder that is locked stays so

locked_here : (was is : Option Held) (folder : List ℕ) → IsSome was → Locks was is (lock_of folder) → StandsLocked is folder
locked_here None is folder some l = absurd (false≢true some)
locked_here (Some was) None folder some l = absurd l
locked_here (Some was) (Some is) folder some l = (is, refl, l.here)

pub stands_locked : (before there : Option Held) (folder : List ℕ) → IsLocked before there folder → IsSome before → StandsLocked there folder
stands_locked before there folder l some = locked_here l.0 there folder (created_known before l.0 (lock_of folder) l.1.0 l.1.1 some) l.2

pub same_locked : (was is : Option Held) (folder : List ℕ) → is ≡ was → StandsLocked was folder → StandsLocked is folder
same_locked was is folder same l = (l.0, same ∙ l.1, l.2)

pub put_locked : (was is : Option Held) (folder name bytes : List ℕ) → Replaces was is name (Some bytes) → StandsLocked was folder → StandsLocked is folder
put_locked was is folder name bytes put l = after is (subst (λ (x : Option Held). Replaces x is name (Some bytes)) l.1 put)
  where
    after : (is : Option Held) → Replaces (Some l.0) is name (Some bytes) → StandsLocked is folder
    after None put = absurd put
    after (Some held) put = (held, refl, put.locks (held.place (lock_of folder)) ∙ ap (λ (p : List ℕ). l.0.locked p) (put.places (lock_of folder)) ∙ l.2)

-- of a writer whose bytes are known
pub settled_locked : (was is : Option Held) (folder name bytes : List ℕ) (contents : Option (List ℕ)) → contents ≡ Some bytes → Replaces was is name contents → StandsLocked was folder → StandsLocked is folder
settled_locked was is folder name bytes contents known put l = put_locked was is folder name bytes (subst (λ (x : Option (List ℕ)). Replaces was is name x) known put) l

-- of one that was let go
pub gone_locked : (was is : Option Held) (folder name bytes : List ℕ) (contents : Option (List ℕ)) → contents ≡ Some bytes → LetsGo was is name contents → StandsLocked was folder → StandsLocked is folder
gone_locked None is folder name bytes contents known gone l = same_locked None is folder gone l
gone_locked (Some was) is folder name bytes contents known (inl same) l = same_locked (Some was) is folder same l
gone_locked (Some was) is folder name bytes contents known (inr put) l = settled_locked (Some was) is folder name bytes contents known put l

pub is_known : (files : Option Held) (folder : List ℕ) → StandsLocked files folder → IsSome files
is_known files folder l = subst (λ (x : Option Held). IsSome x) (sym l.1) refl

-- ---- with a journal whose bytes are known

-- the folder is locked, and these bytes are known
abbrev pub Stands : Option Held → Option (List ℕ) → List ℕ → Type 0
Stands files journal folder = StandsLocked files folder × (bytes : List ℕ) × (journal ≡ Some bytes)

pub if_held : (files : Option Held) (folder : List ℕ) (P : Type 0) → StandsLocked files folder → IfSome files (λ (held : Held). P) → P
if_held None folder P l k = absurd (false≢true (is_known None folder l))
if_held (Some held) folder P l k = k

if_bytes : (j k : Option (List ℕ)) (m : List ℕ) → j ≡ Some m → IfSome j (λ (bytes : List ℕ). k ≡ Some bytes) → k ≡ Some m
if_bytes j k m e h = subst (λ (x : Option (List ℕ)). IfSome x (λ (bytes : List ℕ). k ≡ Some bytes)) e h

-- a file was settled, and the next one put there
pub ended_stand : (was between is : Option Held) (old new : Option (List ℕ)) (folder first next text said : List ℕ) → Replaces was between first old → Replaces between is next (Some text) → IfSome between (λ (held : Held). new ≡ Some said) → Stands was old folder → Stands is new folder
ended_stand was between is old new folder first next text said settled put begun (l, bytes, e) =
    let mid = settled_locked was between folder first bytes old e settled l in
    (put_locked between is folder next text put mid, said, if_held between folder (new ≡ Some said) mid begun)

-- a file stayed open, or was settled and opened again
pub kept_stand : (was is : Option Held) (old new : Option (List ℕ)) (folder name : List ℕ) → ((is ≡ was) × (new ≡ old)) ⊎ (Replaces was is name old × IfSome was (λ (held : Held). IfSome old (λ (bytes : List ℕ). new ≡ Some bytes))) → Stands was old folder → Stands is new folder
kept_stand was is old new folder name (inl k) (l, bytes, e) = (same_locked was is folder k.0 l, bytes, k.1 ∙ e)
kept_stand was is old new folder name (inr k) (l, bytes, e) = (
  settled_locked was is folder name bytes old e k.0 l,
  bytes,
  if_bytes old new bytes e (if_held was folder (IfSome old (λ (b : List ℕ). new ≡ Some b)) l k.1),
)

-- a file got more bytes
pub added_stand : (files : Option Held) (old new : Option (List ℕ)) (folder bytes : List ℕ) → Appends old new bytes → StandsLocked files folder → (m : List ℕ) → old ≡ Some m → Stands files new folder
added_stand files old new folder bytes a l m e =
    let now = has new (subst (λ (x : Option (List ℕ)). Appends x new bytes) e a) in
    (l, now.0, now.1)
  where
    has : (new : Option (List ℕ)) → Appends (Some m) new bytes → (n : List ℕ) × (new ≡ Some n)
    has None a = absurd a
    has (Some n) a = (n, refl)
