-- Lines that are taken in, one after the other.
use Rattle.std.proofs.Common.{◌≡◌, ◌∙◌, ◌+◌, ℕ, List, [], ◌∷◌, ◌++◌, length, refl, sym, ap, subst, append_assoc, append-nil, length-append, arith}
use Rattle.segment_files.specs.Remarks.{lines_in}
use Rattle.name_remarks.specs.Bindings.{Bindings, IsTakenIn, AreTakenIn}
use Rattle.folder_of_locks.specs.declared.faults.StartFault.{StartFault}
use Rattle.folder_of_locks.specs.declared.faults.StartFault.TheVariants as fault
use Rattle.folder_of_locks.specs.Fronts.{IsLineFault, IsRemarkFault}

-- the first lines are taken in, and these are the others
pub record HasTaken (all : List (List ℕ)) (old now : Bindings) (place : ℕ) (rest : List (List ℕ))
    : Type 0 where
  pub front : List (List ℕ)
  pub parts : all ≡ front ++ rest
  pub many : length front ≡ place
  pub taken : AreTakenIn front old now

pub none_taken : (all : List (List ℕ)) (old : Bindings) → HasTaken all old old 0 all
none_taken all old = record { front = []; parts = refl; many = refl; taken = refl }

taken_more : (front : List (List ℕ)) (line : List ℕ) (old mid new : Bindings) → AreTakenIn front old mid → IsTakenIn line mid new → AreTakenIn (front ++ line ∷ []) old new
taken_more [] line old mid new are is = (new, (subst (λ (x : Bindings). IsTakenIn line x new) are is, refl))
taken_more (l ∷ front) line old mid new are is = (are.0, (are.1.0, taken_more front line are.0 mid new are.1.1 is))

pub taken_next : (all : List (List ℕ)) (old mid new : Bindings) (place : ℕ) (line : List ℕ) (rest back : List (List ℕ)) → HasTaken all old mid place rest → rest ≡ line ∷ back → IsTakenIn line mid new → HasTaken all old new (place + 1) back
taken_next all old mid new place line rest back h next is = record {
  front = h.front ++ line ∷ [];
  parts = h.parts ∙ (ap (λ (u : List (List ℕ)). h.front ++ u) next ∙ sym (append_assoc h.front (line ∷ []) back));
  many = length-append h.front (line ∷ []) ∙ ap (λ (n : ℕ). n + 1) h.many;
  taken = taken_more h.front line old mid new h.taken is;
}

pub empty_lines : (rest : List ℕ) → length rest ≡ 0 → lines_in rest ≡ []
unfolding lines_in
empty_lines [] e = refl
empty_lines (b ∷ rest) e = absurd (omega (arith, e))

pub all_taken : (all : List (List ℕ)) (old now : Bindings) (place : ℕ) (rest : List (List ℕ)) → HasTaken all old now place rest → rest ≡ [] → AreTakenIn all old now
all_taken all old now place rest h none =
    let whole : all ≡ h.front = h.parts ∙ (ap (λ (u : List (List ℕ)). h.front ++ u) none ∙ append-nil h.front) in
    subst (λ (u : List (List ℕ)). AreTakenIn u old now) (sym whole) h.taken

-- the first that is not
pub first_untaken : (n : ℕ) (all : List (List ℕ)) (old mid : Bindings) (place : ℕ) (line : List ℕ) (rest back : List (List ℕ)) (e : StartFault) → HasTaken all old mid place rest → rest ≡ line ∷ back → IsLineFault n (place + 1) line mid e → IsRemarkFault n all old e
first_untaken n all old mid place line rest back (fault.Remark m number why) h next is = (
  is.0,
  record {
    front = h.front;
    line = line;
    back = back;
    parts = h.parts ∙ ap (λ (u : List (List ℕ)). h.front ++ u) next;
    mid = mid;
    before = h.taken;
    untaken = is.2;
    number_is = is.1 ∙ ap (λ (n : ℕ). n + 1) (sym h.many);
  },
)
first_untaken n all old mid place line rest back fault.OutOfMemory h next is = tt
first_untaken n all old mid place line rest back (fault.Folder e) h next is = absurd is
first_untaken n all old mid place line rest back (fault.Word e) h next is = absurd is
first_untaken n all old mid place line rest back fault.NoLocks h next is = absurd is
first_untaken n all old mid place line rest back fault.NoLocksFile h next is = absurd is
first_untaken n all old mid place line rest back fault.UnreadLocks h next is = absurd is
first_untaken n all old mid place line rest back fault.BadLocks h next is = absurd is
first_untaken n all old mid place line rest back fault.ManyLocks h next is = absurd is
first_untaken n all old mid place line rest back (fault.OtherLock i) h next is = absurd is
first_untaken n all old mid place line rest back (fault.UnreadSegment m) h next is = absurd is
first_untaken n all old mid place line rest back (fault.Segment m e) h next is = absurd is
first_untaken n all old mid place line rest back (fault.OtherRing i) h next is = absurd is
first_untaken n all old mid place line rest back (fault.Full i) h next is = absurd is
first_untaken n all old mid place line rest back fault.NoPool h next is = absurd is
first_untaken n all old mid place line rest back (fault.Judged m why) h next is = absurd is
first_untaken n all old mid place line rest back (fault.Names why) h next is = absurd is
first_untaken n all old mid place line rest back (fault.Holder l) h next is = absurd is
first_untaken n all old mid place line rest back fault.Unsaved h next is = absurd is
