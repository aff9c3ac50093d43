-- Which lines are right (this project's own).
use Rattle.std.specs.Prelude.{◌≡◌, ℕ, suc, ◌+◌, ◌-◌, nat_le, nat_lt, ◌==◌, ◌&&◌, Bool, true, false, if◌then◌else◌, List, [], ◌∷◌, ◌++◌, length, slice_get, slice_set, Option, Some, None}
use Rattle.std.specs.Str.{bytes_eq}
use Rattle.name_bindings.specs.Bindings.{Bound, token_in, ring_of, frees}
use Rattle.name_check.specs.declared.lines.Ring.{Ring}
use Rattle.name_check.specs.declared.lines.Due.{Due}
use Rattle.name_check.specs.declared.lines.Due.TheVariants as due
use Rattle.name_check.specs.declared.wrongs.Wrong.{Wrong}
use Rattle.name_check.specs.declared.wrongs.Wrong.TheVariants as why
use Rattle.name_check.specs.Entries.{Entry, Top, Bind, Free, Grant, Repair, End, Other, File, Judged, fresh_rings, is_held}

-- ---- why a line is refused

-- what is wrong if something else had to come
abbrev pub owed : Due → Option Wrong
owed due.Nothing = None
owed due.Top = Some why.NoTop
owed (due.Restated r) = Some why.NotRestated
owed (due.Granted r) = Some why.NoGrant
owed (due.Handed r) = Some why.NotFreed

-- the most grants that can be counted
abbrev pub most_grants : ℕ
most_grants = 18446744073709551615

abbrev pub spent : ℕ → Option Wrong
spent top = if nat_le most_grants top then Some why.Full else None

-- the number of all grants begins a file, and nothing else does
abbrev pub refused_top : Due → ℕ → ℕ → Option Wrong
refused_top due.Top top n = if n == top then None else Some why.WrongTop
refused_top due.Nothing top n = Some why.SecondTop
refused_top d top n = owed d

-- the name is that of a fixed lock, or of another ring
abbrev pub taken : ℕ → Option ℕ → Option Wrong
taken fixed None = None
taken fixed (Some i) = if nat_lt i fixed then Some why.FixedName else Some why.BoundTwice

-- A new binding is of a ring of the pool that nobody holds and a name that no ring has, with the
-- grants of the ring and of all rings.
abbrev pub refused_new : Judged → ℕ → Bound → Ring → Option Wrong
refused_new s r b g =
    if nat_lt r s.fixed then Some why.FixedRing
    else if is_held g then Some why.HeldRing
    else if b.before == g.grants then (if b.floor == s.top then taken s.fixed (ring_of b.name s.names)
    else Some why.WrongFloor) else Some why.WrongBefore

abbrev pub same_bound : Bound → Bound → Bool
same_bound b d = bytes_eq b.name d.name && ((b.before == d.before) && (b.floor == d.floor))

-- A binding that was there before the first file is taken on trust, if it may be one: it began before
-- the ring's last grant, whose token is one that was counted.
abbrev pub refused_trust : Judged → Bound → Ring → Option Wrong
refused_trust s b g =
    if nat_lt b.before g.grants then (if nat_le (token_in b g.grants) s.top
    then taken s.fixed (ring_of b.name s.names) else Some why.WrongFloor) else Some why.WrongBefore

-- a binding is restated as it was
abbrev pub refused_again : Judged → Bound → Ring → Option (Option Bound) → Option Wrong
refused_again s b g (Some (Some d)) = if same_bound b d then None else Some why.OtherBinding
refused_again s b g o = refused_trust s b g

abbrev pub refused_bind : Due → Judged → ℕ → Bound → Ring → Option Wrong
refused_bind (due.Restated q) s r b g =
    if r == q then refused_again s b g (slice_get s.names r) else Some why.NotRestated
refused_bind due.Nothing s r b g = refused_new s r b g
refused_bind d s r b g = owed d

-- a ring loses its name only at the end of its hold
abbrev pub refused_free : Due → ℕ → Option Wrong
refused_free (due.Handed q) r = if r == q then None else Some why.NotFreed
refused_free due.Nothing r = Some why.NotEnded
refused_free d r = owed d

-- A grant of the pool comes after its binding, or hands a hold over.
abbrev pub refused_grant : Due → ℕ → ℕ → ℕ → Ring → Option Wrong
refused_grant (due.Granted q) fixed top r g = if r == q then spent top else Some why.NoGrant
refused_grant (due.Handed q) fixed top r g = if r == q then spent top else Some why.NotFreed
refused_grant due.Nothing fixed top r g =
    if is_held g then Some why.GrantedTwice
    else if nat_lt r fixed then spent top
    else Some why.NoName
refused_grant d fixed top r g = owed d

abbrev pub refused_repair : Due → ℕ → Option Wrong
refused_repair due.Nothing top = spent top
refused_repair d top = owed d

-- a hold ends only if there is one
abbrev pub refused_end : Due → Ring → Option Wrong
refused_end due.Nothing g = if is_held g then None else Some why.NotHeld
refused_end d g = owed d

-- A file may end after the end of a hold, but not between a binding and its grant.
abbrev pub refused_file : Due → ℕ → ℕ → Option Wrong
refused_file due.Nothing count n = if nat_lt n count then Some why.FewerRings else None
refused_file (due.Handed q) count n = if nat_lt n count then Some why.FewerRings else None
refused_file d count n = owed d

-- the ring has to be there
abbrev pub of_ring : (Ring → Option Wrong) → Option Ring → Option Wrong
of_ring f None = Some why.NoRing
of_ring f (Some g) = f g

-- why a line is refused, if it is
abbrev pub refusal : Judged → Entry → Option Wrong
refusal s (Top n) = refused_top s.due s.top n
refusal s (Bind r b) = of_ring (refused_bind s.due s r b) (slice_get s.rings r)
refusal s (Free r) = of_ring (λ (g : Ring). refused_free s.due r) (slice_get s.rings r)
refusal s (Grant r) = of_ring (refused_grant s.due s.fixed s.top r) (slice_get s.rings r)
refusal s (Repair r) = of_ring (λ (g : Ring). refused_repair s.due s.top) (slice_get s.rings r)
refusal s (End r) = of_ring (refused_end s.due) (slice_get s.rings r)
refusal s Other = None
refusal s (File n) = refused_file s.due (length s.rings) n

-- ---- what is known after a line

-- the first ring that is held, from this one on
abbrev pub first_held : ℕ → ℕ → List Ring → Option ℕ
first_held low at [] = None
first_held low at (g ∷ gs) =
    if nat_le low at && is_held g then Some at else first_held low (suc at) gs

-- its binding is due
abbrev pub restated : Option ℕ → Due
restated None = due.Nothing
restated (Some r) = due.Restated r

abbrev pub due_bound : Due → ℕ → List Ring → Due
due_bound (due.Restated q) r rings = restated (first_held (suc r) 0 rings)
due_bound d r rings = due.Granted r

-- a ring that is granted, is repaired, or whose hold ends: a grant's number is the token of its hold
abbrev pub passed : Option Ring → ℕ → List Ring → List Ring
passed None r rings = rings
passed (Some g) r rings =
    slice_set rings r (record { grants = g.grants + 1; held = Some (g.grants + 1) })

abbrev pub repaired : Option Ring → ℕ → List Ring → List Ring
repaired None r rings = rings
repaired (Some g) r rings =
    slice_set rings r (record { grants = g.grants + 1; held = g.held })

abbrev pub ended : Option Ring → ℕ → List Ring → List Ring
ended None r rings = rings
ended (Some g) r rings = slice_set rings r (record { grants = g.grants; held = None })

-- a ring whose hold ended with the file has no name any more
abbrev pub closed : Due → List (Option Bound) → List (Option Bound)
closed (due.Handed q) os = slice_set os q None
closed d os = os

-- what is known after a line
abbrev pub noted : Judged → Entry → Judged
noted s (Top n) = record {
  rings = s.rings;
  names = s.names;
  fixed = s.fixed;
  top = s.top;
  due = restated (first_held s.fixed 0 s.rings);
}
noted s (Bind r b) = record {
  rings = s.rings;
  names = slice_set s.names r (Some b);
  fixed = s.fixed;
  top = s.top;
  due = due_bound s.due r s.rings;
}
noted s (Free r) = record {
  rings = s.rings;
  names = slice_set s.names r None;
  fixed = s.fixed;
  top = s.top;
  due = due.Nothing;
}
noted s (Grant r) = record {
  rings = passed (slice_get s.rings r) r s.rings;
  names = s.names;
  fixed = s.fixed;
  top = s.top + 1;
  due = due.Nothing;
}
noted s (Repair r) = record {
  rings = repaired (slice_get s.rings r) r s.rings;
  names = s.names;
  fixed = s.fixed;
  top = s.top + 1;
  due = s.due;
}
noted s (End r) = record {
  rings = ended (slice_get s.rings r) r s.rings;
  names = s.names;
  fixed = s.fixed;
  top = s.top;
  due = if nat_lt r s.fixed then due.Nothing else due.Handed r;
}
noted s Other = s
noted s (File n) = record {
  rings = s.rings ++ fresh_rings (n - length s.rings);
  names = closed s.due s.names ++ frees (n - length s.rings);
  fixed = s.fixed;
  top = s.top;
  due = due.Top;
}

-- ---- lists of lines

-- each line is right
abbrev pub AreRight : Judged → List Entry → Type 0
AreRight s [] = Unit {0}
AreRight s (e ∷ es) = (refusal s e ≡ None) × AreRight (noted s e) es

-- what is known after them
abbrev pub noted_all : Judged → List Entry → Judged
noted_all s [] = s
noted_all s (e ∷ es) = noted_all (noted s e) es

-- they are right, and this is known after them
pub record AreSaid (s : Judged) (es : List Entry) (t : Judged) : Type 0 where
  pub right : AreRight s es
  pub now : noted_all s es ≡ t
