-- A ring that is opened for C, and why none is (this project's own).
use Rattle.std.specs.Prelude.{◌≡◌, ℕ, List, length}
use Rattle.ring_model.specs.Resources.{till}
use Rattle.ring_model.specs.History.{Works}
use Rattle.ring_state.specs.Sizes.{Size, IsSize}
use Rattle.ring_book.specs.BookView.{IsFresh}
use Rattle.ring_book.specs.IdleWorks.{idle}
use Rattle.one_thread_ring.specs.Rings.{RingView, IsOneThreadRing, IsSeatCount, IsOpenFault, AreFresh}
use Rattle.one_thread_ring.specs.declared.errors.OpenError.{OpenError}
use Rattle.ring_model.specs.Bases.{no_base}
use Rattle.endless_ring.specs.Files.{first_place, filed_at}
use Rattle.c_calls.specs.declared.kept.Kept.{Kept}
use Rattle.c_calls.specs.declared.kept.Kept.TheVariants.{Till, Idle}
use Rattle.c_calls.specs.Codes.{open_code}

-- a ring with no events that starts so, over the resource's first content, with n clients
-- that have empty logs
pub record IsOpened {C : Type 0} (w : Works C) (first : C) (n k : ℕ) (start : List ℕ) (seats : ℕ)
    (d : RingView C) : Type 0 where
  pub ring : IsOneThreadRing w first d
  pub fresh : IsFresh (record { k = k; values = start }) first d.book
  pub clients : AreFresh seats d.clients
  pub count : IsSeatCount seats
  pub size : IsSize (record { n = n; k = k })
  pub values : length start ≡ n

-- over a till its segment is the first file of a chain
abbrev pub IsOpenedTill : ℕ → ℕ → List ℕ → ℕ → Kept → Type 0
IsOpenedTill n k start seats (Till d) =
    (d ≡ filed_at first_place no_base d.ring.ring) × IsOpened till 0 n k start seats d.ring.ring
IsOpenedTill n k start seats (Idle d) = ⊥

-- over no till it has no file
abbrev pub IsOpenedIdle : ℕ → ℕ → List ℕ → ℕ → Kept → Type 0
IsOpenedIdle n k start seats (Idle d) = IsOpened idle (record {}) n k start seats d
IsOpenedIdle n k start seats (Till d) = ⊥

-- the code of the first fault of the numbers, and out of memory only where there is none
abbrev pub IsOpenRefused : Size → List ℕ → ℕ → ℕ → Type 0
IsOpenRefused size start seats code =
    (e : OpenError) × IsOpenFault size start seats e × (code ≡ open_code e)
