-- What a reader of a lock's history knows of its holds, and how a sign more changes that.
use Rattle.std.specs.Prelude.{◌≡◌, ℕ, ◌==◌, nat_lt, if◌then◌else◌, Bool, List, [], ◌∷◌, ◌++◌, Option, Some, None, Result, Ok, Err}
use Rattle.chain_readers.specs.declared.hold_errors.HoldError.{HoldError}
use Rattle.chain_readers.specs.declared.hold_errors.HoldError.TheVariants.{NoHold, OutOfMemory}
use Rattle.chain_readers.specs.declared.holds.Grant.{Grant}
use Rattle.chain_readers.specs.declared.holds.Hold.{Hold}
use Rattle.chain_readers.specs.declared.signs.Sign.{Sign}
use Rattle.chain_readers.specs.declared.signs.Sign.TheVariants.{Granted, Carried, Ended, Other, Wrong}
use Rattle.chain_readers.specs.declared.reader.Standing.{Standing}
use Rattle.chain_readers.specs.declared.reader.Standing.TheVariants.{Unknown, Free, Held}
use Rattle.chain_readers.specs.declared.reader.HoldReader.{HoldReader}

-- the newest token, 0 before the first; how the lock is; and the holds that have ended
pub record Known : Type 0 where
  pub token : ℕ
  pub standing : Standing
  pub ended : List Hold

abbrev pub known : HoldReader → Known
known r = record { token = r.token; standing = r.standing; ended = r.ended.items }

-- before the first segment of all, and before a later one
abbrev pub nobody_holds : Known
nobody_holds = record { token = 0; standing = Free; ended = [] }

abbrev pub nothing_known : Known
nothing_known = record { token = 0; standing = Unknown; ended = [] }

-- all holds: those that have ended, and the one that is open
abbrev pub open_of : ℕ → Standing → List Hold
open_of token Unknown = []
open_of token Free = []
open_of token (Held grant) = record { token = token; grant = grant; end = None } ∷ []

abbrev pub all_holds : Known → List Hold
all_holds k = k.ended ++ open_of k.token k.standing

-- a hold begins, if its token is a new one
abbrev pub begun : Known → ℕ → Option Grant → Option Known
begun k token grant =
    if nat_lt k.token token
    then Some (record { token = token; standing = Held grant; ended = k.ended })
    else None

-- the hold with the newest token ends
abbrev pub closed : Known → Option Grant → ℕ → Bool → Known
closed k grant at left = record {
  token = k.token;
  standing = Free;
  ended = k.ended
      ++ record { token = k.token; grant = grant; end = Some (record { to = at; left = left }) }
      ∷ [];
}

abbrev pub freed : Known → Known
freed k = record { token = k.token; standing = Free; ended = k.ended }

-- one sign more; none if it fits no hold
abbrev pub step_at : Standing → Known → ℕ → Sign → Option Known
step_at Unknown k at (Granted token label) =
    begun k token (Some (record { label = label; from = at }))
step_at Unknown k at (Carried token) = begun k token None
step_at Unknown k at (Ended left) = None
step_at Unknown k at Other = Some (freed k)
step_at Unknown k at Wrong = None
step_at Free k at (Granted token label) =
    begun k token (Some (record { label = label; from = at }))
step_at Free k at (Carried token) = None
step_at Free k at (Ended left) = None
step_at Free k at Other = Some k
step_at Free k at Wrong = None
step_at (Held grant) k at (Granted token label) = None
step_at (Held grant) k at (Carried token) = if token == k.token then Some k else None
step_at (Held grant) k at (Ended left) = Some (closed k grant at left)
step_at (Held grant) k at Other = Some k
step_at (Held grant) k at Wrong = None

abbrev pub step : Known → ℕ → Sign → Option Known
step k at sign = step_at k.standing k at sign

-- signs more, one after the other; or the place of the first that fits no hold
abbrev pub on : Option Known → ℕ → (Known → Result Known ℕ) → Result Known ℕ
on None at next = Err at
on (Some k) at next = next k

abbrev pub read : Known → List (ℕ × Sign) → Result Known ℕ
read k [] = Ok k
read k (s ∷ ss) = on (step k s.0 s.1) s.0 (λ (m : Known). read m ss)

-- ---- the answers

-- to one sign, and to signs; memory aside
abbrev pub IsStep : Known → ℕ → Sign → Result (Unit {0}) HoldError → Known → Type 0
IsStep k at sign (Ok u) new = step k at sign ≡ Some new
IsStep k at sign (Err (NoHold place)) new = (place ≡ at) × (step k at sign ≡ None)
IsStep k at sign (Err OutOfMemory) new = Unit {0}

abbrev pub IsBegun : Known → ℕ → ℕ → Option Grant → Result (Unit {0}) HoldError → Known → Type 0
IsBegun k at token grant (Ok u) new = begun k token grant ≡ Some new
IsBegun k at token grant (Err (NoHold place)) new = (place ≡ at) × (begun k token grant ≡ None)
IsBegun k at token grant (Err OutOfMemory) new = ⊥

abbrev pub IsRead : Known → List (ℕ × Sign) → Result (Unit {0}) HoldError → Known → Type 0
IsRead k signs (Ok u) new = read k signs ≡ Ok new
IsRead k signs (Err (NoHold place)) new = read k signs ≡ Err place
IsRead k signs (Err OutOfMemory) new = Unit {0}

abbrev pub IsSegmentRead : Known → List (ℕ × Sign) → Result HoldReader HoldError → Type 0
IsSegmentRead k signs (Ok r) = read k signs ≡ Ok (known r)
IsSegmentRead k signs (Err (NoHold place)) = read k signs ≡ Err place
IsSegmentRead k signs (Err OutOfMemory) = Unit {0}
