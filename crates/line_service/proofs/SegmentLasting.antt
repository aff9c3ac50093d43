-- What a loss of power leaves, step by step.
use Rattle.std.proofs.Common.{◌≡◌, ℕ, ◌+◌, List, [], Option, None, Some, refl, sym, ap, subst, ◌∙◌, ◌⊎◌, inl, inr}
use Rattle.std.specs.Prelude.{IfSome, IsSome}
use Rattle.std.specs.Io.KnownBytes.{Appends, Keeps}
use Rattle.std.proofs.lemmas.List.{append-nil}
use Rattle.std.proofs.lemmas.Bool.{false≢true}
use Rattle.sha2.specs.declared.Sha256.{Sha256}
use Rattle.disks.specs.Held.{Held, bytes_of, Replaces}
use Rattle.disks.specs.Lasting.{bytes_in, BeginsWith, HasFront, ChangesOnly, Leaves, MayLeave, LeavesFront}
use Rattle.line_service.specs.SegmentNames.{segment_file}
use Rattle.segment_files.specs.Spelling.{digest_of}
use Rattle.line_service.specs.Loop.{AllLasts}
use Rattle.line_service.specs.declared.segmented.EndFault.{EndFault}
use Rattle.line_service.specs.Digested.{hashed}
use Rattle.line_service.specs.Segmenting.{Segmenting}
use Rattle.line_service.specs.Segments.{Moment, IsReady}
use Rattle.line_service.specs.Lasting.{LeavesSegment}
use Rattle.line_service.proofs.Hashing.{is_hashed}
use Rattle.line_service.proofs.Changing.{kept_file}

-- ---- a journal that is known, and all of which lasts

none_some : (m : List ℕ) → None ≡ Some m → ⊥
none_some m e = cc

pub last_is : (j l : Option (List ℕ)) → AllLasts j l → l ≡ j
last_is None l h = absurd h
last_is (Some m) l h = h

pub known_is : (j l : Option (List ℕ)) → AllLasts j l → (m : List ℕ) × (j ≡ Some m)
known_is None l h = absurd h
known_is (Some m) l h = (m, refl)

pub all_lasts_of : (j l : Option (List ℕ)) (m : List ℕ) → j ≡ Some m → l ≡ Some m → AllLasts j l
all_lasts_of None l m p q = absurd (none_some m p)
all_lasts_of (Some x) l m p q = q ∙ sym p

-- of a writer whose bytes are hashed
pub inner_lasts : (c l : Option (List ℕ)) (h : Sha256) → AllLasts (hashed c h) l → l ≡ c
inner_lasts c l h all =
    let k = known_is (hashed c h) l all in
    last_is (hashed c h) l all ∙ (k.1 ∙ sym (is_hashed c h k.0 k.1).0)

pub opened_lasts : (c l c' l' : Option (List ℕ)) (h h' : Sha256) → AllLasts (hashed c h) l → (l ≡ c → l' ≡ c') → (m : List ℕ) → hashed c' h' ≡ Some m → AllLasts (hashed c' h') l'
opened_lasts c l c' l' h h' all keeps m e = all_lasts_of (hashed c' h') l' m e (keeps (inner_lasts c l h all) ∙ (is_hashed c' h' m e).0)

-- ---- what is known stays known

pub replaced_known : (was is : Option Held) (name : List ℕ) (contents : Option (List ℕ)) → Replaces was is name contents → IsSome was → IsSome is
replaced_known None is name contents r some = absurd (false≢true some)
replaced_known (Some was) None name contents r some = absurd r
replaced_known (Some was) (Some is) name contents r some = refl

pub if_some : (f : Option Held) (P : Type 0) → IsSome f → IfSome f (λ (h : Held). P) → P
if_some None P some k = absurd (false≢true some)
if_some (Some h) P some k = k

if_journal : (j x : Option (List ℕ)) (m : List ℕ) → j ≡ Some m → IfSome j (λ (bytes : List ℕ). x ≡ Some bytes) → x ≡ Some m
if_journal None x m e k = absurd (none_some m e)
if_journal (Some n) x m e k = k ∙ e

pub digest_known : (j : Option (List ℕ)) (m behind : List ℕ) → j ≡ Some m → IfSome j (λ (bytes : List ℕ). behind ≡ digest_of bytes) → behind ≡ digest_of m
digest_known j m behind e k = subst (λ (x : Option (List ℕ)). IfSome x (λ (bytes : List ℕ). behind ≡ digest_of bytes)) e k

pub appended_known : (j l : Option (List ℕ)) (m bytes : List ℕ) → j ≡ Some m → Appends j l bytes → (n : List ℕ) × (l ≡ Some n)
appended_known None l m bytes e h = absurd (none_some m e)
appended_known (Some x) None m bytes e h = absurd h
appended_known (Some x) (Some y) m bytes e h = (y, refl)

-- the file that was just put there
pub replaced_bytes : (was is : Option Held) (name bytes : List ℕ) → Replaces was is name (Some bytes) → IsSome was → bytes_in is name ≡ Some bytes
replaced_bytes None is name bytes r some = absurd (false≢true some)
replaced_bytes (Some was) None name bytes r some = absurd r
replaced_bytes (Some was) (Some is) name bytes r some = r.here name refl

abbrev pub Knows : {S : Type 0} → Moment S → Type 0
Knows b = IsSome b.files × (m : List ℕ) × (b.journal ≡ Some m)

kept_knows : {S : Type 0} (a b : Moment S) (name : List ℕ) → ((b.files ≡ a.files) × (b.journal ≡ a.journal)) ⊎ (Replaces a.files b.files name a.journal × IfSome a.files (λ (h : Held). IfSome a.journal (λ (bytes : List ℕ). b.journal ≡ Some bytes))) → IsSome a.files → (m : List ℕ) → a.journal ≡ Some m → Knows b
kept_knows a b name (inl k) some m e = (subst (λ (x : Option Held). IsSome x) (sym k.0) some, m, k.1 ∙ e)
kept_knows a b name (inr k) some m e = (
  replaced_known a.files b.files name a.journal k.0 some,
  m,
  if_journal a.journal b.journal m e (if_some a.files (IfSome a.journal (λ (bytes : List ℕ). b.journal ≡ Some bytes)) some k.1),
)

pub ready_knows : {S : Type 0} (G : Segmenting S) (folder : List ℕ) (kept : Option EndFault) (a b : Moment S) → IsReady G folder kept a b → IsSome a.files → (m : List ℕ) → a.journal ≡ Some m → Knows b
ready_knows G folder None a b (inl h) some m e = (subst (λ (x : Moment _). IsSome x.files) (sym h.1) some, m, subst (λ (x : Moment _). x.journal ≡ Some m) (sym h.1) e)
ready_knows G folder None a b (inr h) some m e =
    let f = h.1.file in
    let between = replaced_known a.files f.between (segment_file folder a.number) a.journal f.settled some in (
      replaced_known f.between b.files (segment_file folder (a.number + 1)) (Some (G.text b.service (a.number + 1) f.behind)) f.put between,
      G.text b.service b.number f.behind,
      if_some f.between (b.journal ≡ Some (G.text b.service b.number f.behind)) between h.1.journal,
    )
ready_knows G folder (Some why) a b h some m e = kept_knows a b (segment_file folder a.number) (kept_file G folder why a b h.1) some m e

-- ---- what a loss of power leaves

pub front_has : (was is : Option Held) (name : List ℕ) (lasting : Option (List ℕ)) → LeavesFront was is name lasting → IfSome is (λ (held : Held). HasFront held name lasting)
front_has None is name lasting e = subst (λ (x : Option Held). IfSome x (λ (held : Held). HasFront held name lasting)) (sym e) tt
front_has (Some was) None name lasting h = absurd h
front_has (Some was) (Some is) name lasting h = h.here name refl

-- of a writer that was given back, of which all lasts that lasted before
pub front_kept : (was is : Option Held) (name : List ℕ) (old new : Option (List ℕ)) → Keeps old new → LeavesFront was is name new → LeavesFront was is name old
front_kept None is name old new k h = h
front_kept (Some was) None name old new k h = absurd h
front_kept (Some was) (Some is) name None new k h = record { places = h.places; here = λ other one. tt; others = h.others }
front_kept (Some was) (Some is) name (Some x) None k h = absurd k
front_kept (Some was) (Some is) name (Some x) (Some y) k h = subst (λ (z : List ℕ). ChangesOnly was is name (λ (has : Option (List ℕ)). BeginsWith has (Some z))) k h

-- a file that is left with just these bytes begins with them
pub begins_all : (has : Option (List ℕ)) (bytes : List ℕ) → has ≡ Some bytes → BeginsWith has (Some bytes)
begins_all has bytes e = ([], e ∙ ap (λ (x : List ℕ). Some x) (sym (append-nil bytes)))

just_has : (was is : Option Held) (name bytes : List ℕ) → Leaves was is name (Some bytes) → IfSome is (λ (held : Held). HasFront held name (Some bytes))
just_has None is name bytes e = subst (λ (x : Option Held). IfSome x (λ (held : Held). HasFront held name (Some bytes))) (sym e) tt
just_has (Some was) None name bytes h = absurd h
just_has (Some was) (Some is) name bytes h = begins_all (bytes_of is name) bytes (h.here name refl)

just_front : (was is : Option Held) (name bytes : List ℕ) → Leaves was is name (Some bytes) → LeavesFront was is name (Some bytes)
just_front None is name bytes e = e
just_front (Some was) None name bytes h = absurd h
just_front (Some was) (Some is) name bytes h = record { places = h.places; here = λ other one. begins_all (bytes_of is other) bytes (h.here other one); others = h.others }

-- ---- a segment's writer, for whoever begins and closes the segment

-- all of a segment that was begun lasts
pub begun_lasts : (was : Option Held) (c l : Option (List ℕ)) (h : Sha256) (text : List ℕ) → IfSome was (λ (held : Held). hashed c h ≡ Some text) → IsSome was → l ≡ c → AllLasts (hashed c h) l
begun_lasts was c l h text begun some keeps =
    let e = if_some was (hashed c h ≡ Some text) some begun in
    all_lasts_of (hashed c h) l text e (keeps ∙ (is_hashed c h text e).0)

-- a file that was closed, all of which lasted, begins with that
pub whole_has : (was is : Option Held) (name : List ℕ) (c l : Option (List ℕ)) (h : Sha256) → Leaves was is name c → AllLasts (hashed c h) l → IfSome is (λ (held : Held). HasFront held name l)
whole_has was is name c l h left all =
    let k = known_is (hashed c h) l all in
    subst (λ (x : Option (List ℕ)). IfSome is (λ (held : Held). HasFront held name x)) (sym (last_is (hashed c h) l all ∙ k.1))
    (just_has was is name k.0 (subst (λ (x : Option (List ℕ)). Leaves was is name x) (is_hashed c h k.0 k.1).0 left))

-- the same of what is left then
pub whole_leaves : (was is : Option Held) (name : List ℕ) (c l : Option (List ℕ)) (h : Sha256) → Leaves was is name c → AllLasts (hashed c h) l → LeavesFront was is name l
whole_leaves was is name c l h left all =
    let k = known_is (hashed c h) l all in
    subst (λ (x : Option (List ℕ)). LeavesFront was is name x) (sym (last_is (hashed c h) l all ∙ k.1))
    (just_front was is name k.0 (subst (λ (x : Option (List ℕ)). Leaves was is name x) (is_hashed c h k.0 k.1).0 left))

-- ---- the segment, or the next one

-- the one file has these bytes, or the other has this text
abbrev pub Spares : List ℕ → List ℕ → List ℕ → List ℕ → Option Held → Type 0
Spares name other bytes text left = IfSome left (λ (held : Held). (bytes_of held name ≡ Some bytes) ⊎ (bytes_of held other ≡ Some text))

module _ (name other bytes text : List ℕ) where
  pub spares_settled : (was is : Option Held) → Leaves was is name (Some bytes) → Spares name other bytes text is
  spares_settled None is e = subst (λ (x : Option Held). Spares name other bytes text x) (sym e) tt
  spares_settled (Some was) None r = absurd r
  spares_settled (Some was) (Some is) r = inl (r.here name refl)

  pub spares_next : (was is : Option Held) → MayLeave was is other (Some text) → Spares name other bytes text was → Spares name other bytes text is
  spares_next None is e s = subst (λ (x : Option Held). Spares name other bytes text x) (sym e) tt
  spares_next (Some was) is (inl e) s = subst (λ (x : Option Held). Spares name other bytes text x) (sym e) s
  spares_next (Some was) None (inr r) s = absurd r
  spares_next (Some was) (Some is) (inr r) s = inr (r.here other refl)

  pub spares_same : (was is : Option Held) → MayLeave was is name (Some bytes) → Spares name other bytes text was → Spares name other bytes text is
  spares_same None is e s = subst (λ (x : Option Held). Spares name other bytes text x) (sym e) tt
  spares_same (Some was) is (inl e) s = subst (λ (x : Option Held). Spares name other bytes text x) (sym e) s
  spares_same (Some was) None (inr r) s = absurd r
  spares_same (Some was) (Some is) (inr r) s = inl (r.here name refl)

module _ {S : Type 0} (G : Segmenting S) (folder : List ℕ) (a : Moment S) where
  pub front_leaves : (left : Option Held) (name front : List ℕ) → name ≡ segment_file folder a.number → IfSome left (λ (held : Held). HasFront held name (Some front)) → LeavesSegment G folder a front left
  front_leaves None name front e h = tt
  front_leaves (Some held) name front e h = inl (subst (λ (n : List ℕ). HasFront held n (Some front)) e h)

  pub spares_leaves : (left : Option Held) (m behind text name other : List ℕ) (next : S) (n : ℕ) → name ≡ segment_file folder a.number → other ≡ segment_file folder n → n ≡ a.number + 1 → text ≡ G.text next n behind → behind ≡ digest_of m → G.IsNext a.service next → Spares name other m text left →
      LeavesSegment G folder a m left
  spares_leaves None m behind text name other next n named there counted spelled digest follows s = tt
  spares_leaves (Some held) m behind text name other next n named there counted spelled digest follows (inl e) = inl (begins_all (bytes_of held (segment_file folder a.number)) m (subst (λ (x : List ℕ). bytes_of held x ≡ Some m) named e))
  spares_leaves (Some held) m behind text name other next n named there counted spelled digest follows (inr e) =
      let found = subst (λ (t : List ℕ). bytes_of held (segment_file folder n) ≡ Some t) spelled (subst (λ (x : List ℕ). bytes_of held x ≡ Some text) there e) in
      let after = subst (λ (d : List ℕ). bytes_of held (segment_file folder n) ≡ Some (G.text next n d)) digest found in
      inr (next, follows, subst (λ (k : ℕ). bytes_of held (segment_file folder k) ≡ Some (G.text next k (digest_of m))) counted after)
