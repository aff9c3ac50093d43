-- What follows of a life of locks, in the answers that clients get.
use Rattle.std.proofs.Common.{◌≡◌, ℕ, Bool, true, false, List, [], ◌∷◌, ◌++◌, Option, Some, None, refl, sym, ◌∙◌, ap, subst, slice_get, append_assoc}
use Rattle.std.specs.Prelude.{◌==◌, if◌then◌else◌}
use Rattle.std.specs.List.{cons_option}
use Rattle.held_locks.specs.declared.answers.Answer.{Answer}
use Rattle.held_locks.specs.declared.answers.Holder.{Holder}
use Rattle.held_locks.specs.Queues.{Lock}
use Rattle.held_locks.specs.Locks.{Restart, step, Asked}
use Rattle.held_locks.specs.Promises.{locks_after, grants_in, Rise, grant_of}
use Rattle.held_locks.proofs.Shown.{locks_append}
use Rattle.held_locks.proofs.Tokens.{tokens_rise}
use Rattle.held_locks.proofs.Excluded.{exclusion}
use Rattle.lock_journal.proofs.Keeping.{nothing_told_is_lost}
use Rattle.lock_journal.specs.Told.{Telling}
use Rattle.lock_life.specs.Lawful.{granted, ToldGrantsAreGrants, ToldTokensRise, ToldHoldsExclude, ToldGrantsAreKept}
use Rattle.lock_life.specs.Life.{tellings, about}

granted_append : (at : ℕ) (xs ys : List Telling) → granted at (xs ++ ys) ≡ granted at xs ++ granted at ys
granted_append at [] ys = refl
granted_append at (x ∷ xs) ys =
    let one : List Holder = if x.lock == at then grants_in ((x.client, x.said) ∷ []) else [] in
    ap (λ (u : List Holder). one ++ u) (granted_append at xs ys) ∙ sym (append_assoc one (granted at xs) (granted at ys))

grants_append : (a : ℕ × Answer) (rest : List (ℕ × Answer)) → grants_in (a ∷ []) ++ grants_in rest ≡ grants_in (a ∷ rest)
grants_append a rest = go (grant_of a.0 a.1)
  where
    go : (o : Option Holder) → cons_option o [] ++ grants_in rest ≡ cons_option o (grants_in rest)
    go None = refl
    go (Some h) = refl

granted_about : (at i : ℕ) (answers : List (ℕ × Answer)) → granted at (about i answers) ≡ (if i == at then grants_in answers else [])
granted_about at i answers = go (i == at) refl answers
  where
    none : (more : List (ℕ × Answer)) → (i == at) ≡ false → granted at (about i more) ≡ []
    none [] e = refl
    none (a ∷ more) e = rw e (none more e)

    all : (more : List (ℕ × Answer)) → (i == at) ≡ true → granted at (about i more) ≡ grants_in more
    all [] e = refl
    all (a ∷ more) e = rw e (ap (λ (u : List Holder). grants_in (a ∷ []) ++ u) (all more e) ∙ grants_append a more)

    go : (b : Bool) → (i == at) ≡ b → (more : List (ℕ × Answer)) → granted at (about i more) ≡ (if b then grants_in more else [])
    go true e more = all more e
    go false e more = none more e

pub told_grants_are_grants : ToldGrantsAreGrants
told_grants_are_grants ls [] at = refl
told_grants_are_grants ls (Asked c i ask ∷ is) at =
    let now : List Lock = (step ls (Asked c i ask)).locks in
    granted_append at (about i (step ls (Asked c i ask)).answers) (tellings now is)
    ∙ (ap (λ (u : List Holder). u ++ granted at (tellings now is)) (granted_about at i (step ls (Asked c i ask)).answers)
    ∙ ap (λ (u : List Holder). (if i == at then grants_in (step ls (Asked c i ask)).answers else []) ++ u) (told_grants_are_grants now is at))
told_grants_are_grants ls (Restart ∷ is) at = told_grants_are_grants (step ls Restart).locks is at

pub told_tokens_rise : ToldTokensRise
told_tokens_rise ls is at l right e =
    let t = tokens_rise ls is at l right e in
    (t.0, t.1, subst (λ (u : List Holder). Rise l.ring.grants u t.0.ring.grants) (sym (told_grants_are_grants ls is at)) t.2)

pub told_holds_exclude : ToldHoldsExclude
told_holds_exclude ls before behind at l h e held none =
    let x = exclusion (locks_after ls before) behind at l h e held none in
    (told_grants_are_grants (locks_after ls before) behind at ∙ x.0, (x.1.0, ap (λ (u : List Lock). slice_get u at) (locks_append ls before behind) ∙ x.1.1, x.1.2))

pub told_grants_are_kept : ToldGrantsAreKept
told_grants_are_kept s k =
    nothing_told_is_lost s.terms s.start s.mid s.end k.entries s.told s.untold k.said k.noted k.unsaid k.notes s.journal k.no_more.0 k.begun k.answered k.more k.right (sym k.no_more.1) k.has_told
