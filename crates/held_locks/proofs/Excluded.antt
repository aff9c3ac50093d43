-- Exclusion: a hold continues until an input ends it.
use Rattle.std.proofs.Common.{◌≡◌, ℕ, zero, suc, Bool, true, false, List, [], ◌∷◌, ◌++◌, refl, sym, ◌∙◌, ap, subst, inl, inr, Option, Some, None}
use Rattle.std.specs.Prelude.{◌||◌, ◌&&◌, ◌==◌, if◌then◌else◌, slice_get, slice_set, option_map, ◌⊎◌}
use Rattle.std.proofs.lemmas.Bool.{eq-eqb, true≢false, or_left, or_right, both_ways, and_from}
use Rattle.ring_model.specs.History.{after}
use Rattle.ring_model.specs.Resources.{till}
use Rattle.held_locks.specs.declared.answers.Waiter.{Waiter}
use Rattle.held_locks.specs.declared.answers.Holder.{Holder}
use Rattle.held_locks.specs.declared.answers.Answer.{Answer}
use Rattle.held_locks.specs.declared.answers.Answer.TheVariants as answer
use Rattle.held_locks.specs.declared.answers.Refusal.TheVariants as refusal
use Rattle.held_locks.specs.Queues.{Lock, without, is_held_with}
use Rattle.held_locks.specs.Locks.{Ask, Release, Mark, Turn, told, ended, turn, joined, fault, Input, Asked, Step, step, step_at, restarted}
use Rattle.held_locks.specs.Promises.{locks_after, names, grant_of, grants_in, grants_of, ends_hold, NoneIs, GoesOn, Exclusion, OthersReleaseNothing}
use Rattle.held_locks.proofs.Moves.{Move, Stays, Waits, Gets, Ends, Drops, Faults, IsEnd, Released, Left, IsDrop, Cancelled, Gone, waiter, is_grant}
use Rattle.held_locks.proofs.Changes.{Change, Moves, Stands, Restarts, one_step}

pub none_some : (h : Holder) → ◌≡◌ {A = Option Holder} (Some h) None → ⊥
none_some h e = cc

pub some_same : (h k : Holder) → ◌≡◌ {A = Option Holder} (Some h) (Some k) → h ≡ k
some_same h k e = cc

-- ---- grants among answers

no_grant : (c : ℕ) (a : Answer) → is_grant a ≡ false → grant_of c a ≡ None
no_grant c (answer.Granted token) e = absurd (true≢false e)
no_grant c (answer.Waiting before) e = refl
no_grant c answer.Busy e = refl
no_grant c answer.Released e = refl
no_grant c answer.Cancelled e = refl
no_grant c (answer.Corrupted old) e = refl
no_grant c (answer.Stats stats) e = refl
no_grant c (answer.Refused why) e = refl

pub no_grants : (c : ℕ) (a : Answer) → is_grant a ≡ false → grants_in ((c, a) ∷ []) ≡ []
no_grants c a e = let q : grant_of c a ≡ None = no_grant c a e in rw q refl

-- the answers before the grant of the head of a queue are not grants
pub ended_grants : (l : Lock) (c : ℕ) (h : Holder) (ask : Ask) (seat : ℕ) (queue : List Waiter) (answers : List (ℕ × Answer)) → IsEnd l c h ask seat queue answers →
    (more : List (ℕ × Answer)) → grants_in (answers ++ more) ≡ grants_in more
ended_grants l c h ask seat queue answers (Released a b e f) more = ap (λ (x : List (ℕ × Answer)). grants_in (x ++ more)) f
ended_grants l c h ask seat queue answers (Left a b e f) more = ap (λ (x : List (ℕ × Answer)). grants_in (x ++ more)) f

pub drop_grants : (c : ℕ) (ask : Ask) (answers : List (ℕ × Answer)) → IsDrop c ask answers → grants_in answers ≡ []
drop_grants c ask answers (Cancelled a e) = ap (λ (x : List (ℕ × Answer)). grants_in x) e
drop_grants c ask answers (Gone a e) = ap (λ (x : List (ℕ × Answer)). grants_in x) e

-- ---- exclusion

same_goes_on : (h : Holder) (l m : Lock) → m.holder ≡ l.holder → GoesOn h l → GoesOn h m
same_goes_on h l m e g = record { now = g.now; held = e ∙ g.held; token = g.token; client = g.client }

pub record IsExcluded (h : Holder) (m : Lock) (answers : List (ℕ × Answer)) : Type 0 where
  pub goes_on : GoesOn h m
  pub nobody : grants_in answers ≡ []

-- it is who holds
own_client : (c : ℕ) (h k : Holder) → k.client ≡ c → (k.client ≡ h.client) ⊎ (k.client ≡ 0) → ((c == h.client) || (c == 0)) ≡ true
own_client c h k own (inl p) = or_left (c == h.client) (c == 0) (eq-eqb c h.client (sym own ∙ p))
own_client c h k own (inr p) = or_right (c == h.client) (c == 0) (eq-eqb c 0 (sym own ∙ p))

-- the hold would have ended
would_end : (at : ℕ) (l : Lock) (c : ℕ) (h k : Holder) (ask : Ask) (seat : ℕ) (queue : List Waiter) (answers : List (ℕ × Answer)) → IsEnd l c k ask seat queue answers → k.client ≡ c → k.token ≡ h.token →
    (k.client ≡ h.client) ⊎ (k.client ≡ 0) → ends_hold at h (Asked c at ask) ≡ true
would_end at l c h k ask seat queue answers (Released a b e f) own token client =
    subst (λ (x : Ask). ends_hold at h (Asked c at x) ≡ true) (sym a)
    (and_from (at == at) ((k.token == h.token) && ((c == h.client) || (c == 0))) (eq-eqb at at refl)
    (and_from (k.token == h.token) ((c == h.client) || (c == 0)) (eq-eqb k.token h.token token) (own_client c h k own client)))
would_end at l c h k ask seat queue answers (Left a b e f) own token client =
    subst (λ (x : Ask). ends_hold at h (Asked c at x) ≡ true) (sym a) (and_from (at == at) ((c == h.client) || (c == 0)) (eq-eqb at at refl) (own_client c h k own client))

excluded_move : (ls : List Lock) (at : ℕ) (l : Lock) (c : ℕ) (ask : Ask) (t : Turn) (h : Holder) → GoesOn h l → ends_hold at h (Asked c at ask) ≡ false → Move ls l c ask t → IsExcluded h t.lock t.answers
excluded_move ls at l c ask t h g n (Stays a q leave e) = subst (λ (x : Turn). IsExcluded h x.lock x.answers) (sym e) (record { goes_on = g; nobody = no_grants c a q })
excluded_move ls at l c ask t h g n (Waits order k a held other free back e) =
    subst (λ (x : Turn). IsExcluded h x.lock x.answers) (sym e) (record { goes_on = same_goes_on h l (joined l (waiter c order) (Some k)).lock refl g; nobody = refl })
excluded_move ls at l c ask t h g n (Gets order asking a e) = absurd (none_some g.now (sym g.held ∙ a))
excluded_move ls at l c ask t h g n (Ends k seat queue answers held own is e) =
    let same : k ≡ g.now = some_same k g.now (sym held ∙ g.held) in
    let token : k.token ≡ h.token = ap (λ (x : Holder). x.token) same ∙ g.token in
    let client : (k.client ≡ h.client) ⊎ (k.client ≡ 0) = subst (λ (x : Holder). (x.client ≡ h.client) ⊎ (x.client ≡ 0)) (sym same) g.client in
    absurd (both_ways (ends_hold at h (Asked c at ask)) n (would_end at l c h k ask seat queue answers is own token client))
excluded_move ls at l c ask t h g n (Drops answers is e) =
    subst (λ (x : Turn). IsExcluded h x.lock x.answers) (sym e) (record { goes_on = same_goes_on h l (record l { queue = without c l.queue }) refl g; nobody = drop_grants c ask answers is })
excluded_move ls at l c ask t h g n (Faults i v a lt lk e) =
    subst (λ (x : Turn). IsExcluded h x.lock x.answers) (sym e) (record { goes_on = same_goes_on h l (record l { ring = after till l.ring (fault l.ring i v) }) refl g; nobody = refl })

abbrev client_zero : Holder → Holder
client_zero h = record { client = 0; token = h.token }

restart_goes_on : (h : Holder) (l : Lock) → GoesOn h l → GoesOn h (restarted l)
restart_goes_on h l g = record {
  now = record { client = 0; token = g.now.token };
  held = ap (λ (x : Option Holder). option_map client_zero x) g.held;
  token = g.token;
  client = inr refl;
}

excluded_change : (ls : List Lock) (at : ℕ) (l : Lock) (i : Input) (m : Lock) (marks : List Mark) (answers : List (ℕ × Answer)) (h : Holder) → GoesOn h l → ends_hold at h i ≡ false →
    Change ls at l i m marks answers → IsExcluded h m answers
excluded_change ls at l i m marks answers h g n (Moves c ask t is move e f k) =
    let x = excluded_move ls at l c ask t h g (ap (λ (y : Input). ends_hold at h y) (sym is) ∙ n) move in
    record { goes_on = subst (λ (y : Lock). GoesOn h y) (sym e) x.goes_on; nobody = ap (λ (y : List (ℕ × Answer)). grants_in y) k ∙ x.nobody }
excluded_change ls at l i m marks answers h g n (Stands c j ask is other e f k) = record { goes_on = subst (λ (y : Lock). GoesOn h y) (sym e) g; nobody = ap (λ (y : List (ℕ × Answer)). grants_in y) k }
excluded_change ls at l i m marks answers h g n (Restarts is e f k) = record { goes_on = subst (λ (y : Lock). GoesOn h y) (sym e) (restart_goes_on h l g); nobody = ap (λ (y : List (ℕ × Answer)). grants_in y) k }

-- the grants of a step of a lock
pub grants_if : (b : Bool) (answers : List (ℕ × Answer)) → (if b then grants_in answers else []) ≡ grants_in (if b then answers else [])
grants_if true answers = refl
grants_if false answers = refl

excluded_from : (ls : List Lock) (is : List Input) (at : ℕ) (l : Lock) (h : Holder) → slice_get ls at ≡ Some l → GoesOn h l → NoneIs (ends_hold at h) is →
    (grants_of at ls is ≡ []) × ((m : Lock) × (slice_get (locks_after ls is) at ≡ Some m) × GoesOn h m)
excluded_from ls [] at l h e g n = (refl, (l, e, g))
excluded_from ls (i ∷ is) at l h e g n =
    let s = one_step ls at l i e in
    let x = excluded_change ls at l i s.lock (if names at i then (step ls i).marks else []) (if names at i then (step ls i).answers else []) h g n.0 s.change in
    let more = excluded_from (step ls i).locks is at s.lock h s.there x.goes_on n.1 in
    let front : (if names at i then grants_in (step ls i).answers else []) ≡ [] = grants_if (names at i) (step ls i).answers ∙ x.nobody in
    (ap (λ (y : List Holder). y ++ grants_of at (step ls i).locks is) front ∙ more.0, more.1)

pub exclusion : Exclusion
exclusion ls is at l h e held n = excluded_from ls is at l h e (record { now = h; held = held; token = refl; client = inl refl }) n

-- ---- releases of others

-- a lock that is put where it is
set_same : (ls : List Lock) (at : ℕ) (l : Lock) → slice_get ls at ≡ Some l → slice_set ls at l ≡ ls
set_same [] at l e = let p : ◌≡◌ {A = Option Lock} None (Some l) = e in absurd cc
set_same (x ∷ ls) zero l e = let p : ◌≡◌ {A = Option Lock} (Some x) (Some l) = e in cc
set_same (x ∷ ls) (suc at) l e = ap (λ (y : List Lock). x ∷ y) (set_same ls at l e)

-- a turn of which there is only an answer
abbrev told_step : List Lock → ℕ → Turn → Step
told_step ls at t = record { locks = slice_set ls at t.lock; marks = t.marks; answers = t.answers }

release_of : (b : Bool) (l : Lock) (c : ℕ) (t : Turn) → b ≡ false → (if b then t else told l c (answer.Refused refusal.Holder)) ≡ told l c (answer.Refused refusal.Holder)
release_of true l c t e = absurd (true≢false e)
release_of false l c t e = refl

pub others_release_nothing : OthersReleaseNothing
others_release_nothing ls at l c token e n =
    let found : step ls (Asked c at (Release token)) ≡ step_at ls c at (Release token) (Some l) = ap (λ (w : Option Lock). step_at ls c at (Release token) w) e in
    let turned : turn ls l c (Release token) ≡ told l c (answer.Refused refusal.Holder) = release_of (is_held_with c token l.holder) l c (ended l.ring l.queue 1 ((c, answer.Released) ∷ [])) n in
    found ∙ ap (λ (t : Turn). told_step ls at t) turned
    ∙ ap (λ (ys : List Lock). record { locks = ys; marks = []; answers = (c, answer.Refused refusal.Holder) ∷ [] }) (set_same ls at l e)
