-- Flags of columns, one column after the other; and what is seen of one machine.
use Rattle.std.proofs.Common.{◌≡◌, ◌∙◌, ℕ, zero, suc, ◌+◌, ◌<◌, Bool, List, [], ◌∷◌, ◌++◌, length, get_or, length-append, refl, sym, ap, subst, arith}
use Rattle.saved_history.specs.Content.{Block}
use Rattle.history_picture.specs.Picture.{privileged_in}
use Rattle.history_motion.specs.Motion.{flags, hit_in, machine_with, machine_text}
use Rattle.history_motion.specs.Walks.{IsSeen, AreSeen}
use Rattle.history_motion.specs.declared.seen.Seen.{Seen}

-- with one column more
pub flags_more : (p : ℕ → Bool) (c : ℕ) (was is : List Bool) (b : Bool) → was ≡ flags p c → is ≡ was ++ b ∷ [] → b ≡ p c → is ≡ flags p (c + 1)
flags_more p c was is b before added holds =
    let next : suc c ≡ c + 1 = omega arith in
    added ∙ ap (λ (fs : List Bool). fs ++ b ∷ []) before ∙ ap (λ (x : Bool). flags p c ++ x ∷ []) holds ∙ ap (flags p) next

-- as many as columns
pub flags_many : (p : ℕ → Bool) (c : ℕ) → length (flags p c) ≡ c
flags_many p zero = refl
flags_many p (suc c) =
    let before = flags_many p c in
    rw length-append (omega (arith, before))

-- one of the machines that are seen
pub seen_at : (b : Block) (from columns : ℕ) (seen : List Seen) (i : ℕ) (s : Seen) → AreSeen b from columns seen → i < b.n → s ≡ get_or seen i s → IsSeen b from columns i s
seen_at b from columns seen i s are lt at = subst (λ (x : Seen). IsSeen b from columns i x) (sym at) (are.each i s lt)

-- it has a flag for each column
pub some_flags : (p : ℕ → Bool) (c : ℕ) (fs : List Bool) → 0 < c → fs ≡ flags p c → 0 < length fs
some_flags p c fs some is =
    let many : length fs ≡ c = ap length is ∙ flags_many p c in
    omega (arith, many, some)

-- and its text is that of the machine
pub text_is : (b : Block) (from columns i : ℕ) (privileged hit : List Bool) → privileged ≡ flags (privileged_in b from i) columns → hit ≡ flags (hit_in b from i) columns → machine_with b.n i privileged hit ≡ machine_text b from columns i
text_is b from columns i privileged hit on at =
    ap (λ (fs : List Bool). machine_with b.n i fs hit) on ∙ ap (machine_with b.n i (flags (privileged_in b from i) columns)) at
