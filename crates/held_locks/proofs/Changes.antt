-- What an input does to one lock of them: it moves it, leaves it as it is, or restarts it.
use Rattle.std.proofs.Common.{◌≡◌, ◌≢◌, ℕ, true, false, List, [], refl, sym, ◌∙◌, ap, subst, inl, inr, Option, Some, None}
use Rattle.std.specs.Prelude.{◌==◌, if◌then◌else◌, slice_get, option_map}
use Rattle.std.proofs.lemmas.Bool.{cases_eq, eq-eqb, ne_eqb}
use Rattle.std.proofs.lemmas.Option.{slice_get-map}
use Rattle.held_locks.specs.declared.answers.Answer.{Answer}
use Rattle.held_locks.specs.Queues.{Lock}
use Rattle.held_locks.specs.Locks.{Ask, Mark, Turn, turn, Input, Asked, Restart, Step, step, step_at, restarted}
use Rattle.held_locks.specs.Promises.{names}
use Rattle.held_locks.proofs.Moves.{Move, move_of}
use Rattle.held_locks.proofs.Standing.{get_set_same, get_set_other}

pub data Change (ls : List Lock) (at : ℕ) (l : Lock) (i : Input) (m : Lock) (marks : List Mark) (answers : List (ℕ × Answer)) : Type 0 where
  Moves : (c : ℕ) (ask : Ask) (t : Turn) → i ≡ Asked c at ask → Move ls l c ask t → m ≡ t.lock → marks ≡ t.marks → answers ≡ t.answers → Change ls at l i m marks answers
  Stands : (c j : ℕ) (ask : Ask) → i ≡ Asked c j ask → j ≢ at → m ≡ l → marks ≡ [] → answers ≡ [] → Change ls at l i m marks answers
  Restarts : i ≡ Restart → m ≡ restarted l → marks ≡ [] → answers ≡ [] → Change ls at l i m marks answers

-- the same, of a step
pub record OneStep (ls : List Lock) (at : ℕ) (l : Lock) (i : Input) (s : Step) : Type 0 where
  pub lock : Lock
  pub there : slice_get s.locks at ≡ Some lock
  pub change : Change ls at l i lock (if names at i then s.marks else []) (if names at i then s.answers else [])

here : (ls : List Lock) (at : ℕ) (l : Lock) (c : ℕ) (ask : Ask) → slice_get ls at ≡ Some l → OneStep ls at l (Asked c at ask) (step_at ls c at ask (Some l))
here ls at l c ask e =
    let own : (at == at) ≡ true = eq-eqb at at refl in record {
      lock = (turn ls l c ask).lock;
      there = get_set_same ls at (turn ls l c ask).lock l e;
      change = Moves c ask (turn ls l c ask) refl (move_of ls l c ask) refl (rw own refl) (rw own refl);
    }

elsewhere : (ls : List Lock) (at : ℕ) (l : Lock) (c j : ℕ) (ask : Ask) (w : Option Lock) → slice_get ls at ≡ Some l → j ≢ at → OneStep ls at l (Asked c j ask) (step_at ls c j ask w)
elsewhere ls at l c j ask None e n =
    let other : (j == at) ≡ false = ne_eqb j at n in
    record { lock = l; there = e; change = Stands c j ask refl n refl (rw other refl) (rw other refl) }
elsewhere ls at l c j ask (Some x) e n =
    let other : (j == at) ≡ false = ne_eqb j at n in record {
      lock = l;
      there = get_set_other ls j at (turn ls x c ask).lock (λ q. n (sym q)) ∙ e;
      change = Stands c j ask refl n refl (rw other refl) (rw other refl);
    }

pub one_step : (ls : List Lock) (at : ℕ) (l : Lock) (i : Input) → slice_get ls at ≡ Some l → OneStep ls at l i (step ls i)
one_step ls at l (Asked c j ask) e = elim (cases_eq j at) [
  | inl q ↦
      let own : OneStep ls at l (Asked c at ask) (step ls (Asked c at ask)) = subst (λ (w : Option Lock). OneStep ls at l (Asked c at ask) (step_at ls c at ask w)) (sym e) (here ls at l c ask e) in
      subst (λ (k : ℕ). OneStep ls at l (Asked c k ask) (step ls (Asked c k ask))) (sym q) own
  | inr n ↦ elsewhere ls at l c j ask (slice_get ls j) e n
]
one_step ls at l Restart e = record {
  lock = restarted l;
  there = slice_get-map restarted ls at ∙ ap (λ (w : Option Lock). option_map restarted w) e;
  change = Restarts refl refl refl refl;
}
