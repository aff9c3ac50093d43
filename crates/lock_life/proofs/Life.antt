-- Runs of locks are one life: one list of inputs, with a restart between runs.
use Rattle.std.proofs.Common.{◌≡◌, ℕ, Bool, true, false, List, [], ◌∷◌, ◌++◌, map, length, refl, sym, ◌∙◌, ap, subst, inl, arith, ◌<◌, ◌^◌, append_assoc}
use Rattle.std.specs.Prelude.{if◌then◌else◌}
use Rattle.std.specs.List.{AllByRecursion}
use Rattle.std.proofs.lemmas.List.{append-nil, append_cancel_left}
use Rattle.saved_history.specs.Content.{Content}
use Rattle.journal.specs.Spelling.{journal_head}
use Rattle.journal.specs.Recovery.{IsRecovered}
use Rattle.journal.proofs.Cutting.{one_recovered}
use Rattle.ring_service.specs.Standings.{Standing}
use Rattle.ring_service.specs.Saved.{content_of, IsRight}
use Rattle.ring_service.specs.Segments.{bases_of}
use Rattle.ring_service.proofs.Recovering.{lines_of}
use Rattle.held_locks.specs.Queues.{Lock}
use Rattle.held_locks.specs.Locks.{Restart, restarted, Input}
use Rattle.held_locks.specs.Promises.{locks_after, AreRight}
use Rattle.held_locks.specs.Kept.{LockView, locks_of, lock_of}
use Rattle.held_locks.specs.Cuts.{AreNext}
use Rattle.held_locks.proofs.Shown.{locks_append}
use Rattle.lock_protocol.specs.Names.{Names}
use Rattle.lock_service.proofs.SameNames.{all_names_stay}
use Rattle.lock_journal.proofs.Chains.{chain_many}
use Rattle.lock_journal.proofs.LockLines.{AreBounded, IsNotedSo}
use Rattle.lock_journal.proofs.Longer.{bounded_all, noted_lines}
use Rattle.lock_journal.proofs.Recovering.{begun_right, begun_few, followed_begun, kept_bounded, recovered_of}
use Rattle.lock_journal.proofs.Restarting.{locks_back, return_all}
use Rattle.lock_journal.specs.Recovered.{AreMadeOf}
use Rattle.lock_journal.specs.Segments.{rings_of}
use Rattle.lock_life.proofs.CutLines.{cut_lines}
use Rattle.lock_life.proofs.Cutting.{cut_behind}
use Rattle.lock_life.proofs.Inputs.{heard_lines}
use Rattle.lock_life.specs.Life.{Stage, AreFound, AreStages, IsStage, IsLockLife, AreHeard, IsLockRun, behind, Follows, RunsAreALife}

-- ---- one run

-- its inputs, and the locks that are found after them
pub record IsRunSo (s : Stage) : Type 0 where
  pub inputs : List Input
  pub run : IsLockRun (locks_of s.start.locks) s inputs
  pub found : (next : List LockView) → AreFound s.start.locks s.journal next → locks_of next ≡ locks_after (locks_of s.start.locks) (inputs ++ Restart ∷ [])

module _ (s : Stage) (k : IsStage s) where
  abbrev rings : List Standing
  rings = rings_of s.start.locks

  abbrev head : List ℕ
  head = journal_head (content_of rings)

  few : length rings < 2 ^ 32
  few = begun_few s.start.locks k.begun

  all_right : AllByRecursion IsRight rings
  all_right = begun_right s.start.locks k.begun

  most : AreBounded s.end.locks
  most = kept_bounded s.end.locks k.entries k.right

  pub run_so : IsRunSo s
  run_so =
      let ls : List Lock = locks_of s.start.locks in
      let lost : List ℕ = k.no_more.0 in
      let extra : List ℕ = k.has_told.0 in
      let one = noted_lines s.terms rings s.start s.mid s.told k.said k.noted few (followed_begun s.start.locks k.begun) k.answered.noting k.answered.answers (bounded_all s.terms s.mid s.end s.untold k.unsaid k.notes k.more.answers most) in
      let size : length one.notes.behind ≡ length rings = chain_many rings one.notes.behind one.notes.calls one.notes.chain in
      let few_after : length one.notes.behind < 2 ^ 32 = omega (arith, few, size) in
      let after : extra ++ lost ≡ k.notes = append_cancel_left (head ++ k.noted) (extra ++ lost) k.notes
      (sym (append_assoc (head ++ k.noted) extra lost) ∙ (ap (λ (u : List ℕ). u ++ lost) (sym k.has_told.1) ∙ (sym k.no_more.1 ∙ sym (append_assoc head k.noted k.notes)))) in
      let h = heard_lines s.terms s.start s.mid s.told k.said k.noted k.answered.answers in
      let named : s.mid.names ≡ s.start.names = all_names_stay s.terms s.start s.mid s.told k.said k.noted k.answered.answers in
      let c = cut_lines s.terms one.notes.behind s.mid s.end s.untold k.unsaid k.notes few_after one.notes.followed k.more.noting k.plain k.more.answers most extra lost after in
      let w = cut_behind rings ls s.mid.locks h.inputs c.taken.inputs k.noted extra (k.noted ++ extra) one.notes h.locks c.cut refl in
      let n : IsNotedSo rings w.locks w.notes = w.noted in
      let text : s.journal ≡ head ++ (lines_of n.calls ++ w.torn) =
      k.has_told.1 ∙ (append_assoc head k.noted extra ∙ (ap (λ (u : List ℕ). head ++ u) w.is ∙ ap (λ (u : List ℕ). head ++ (u ++ w.torn)) n.lines)) in
      let whole : IsRecovered s.journal (content_of n.behind) = subst (λ (u : List ℕ). IsRecovered u (content_of n.behind)) (sym text) (recovered_of rings n.behind n.calls w.torn all_right k.begun.text n.chain w.none) in record {
        inputs = h.inputs ++ c.cut.kept;
        run = record {
          heard = h.inputs;
          said = k.said;
          asked = c.taken.inputs;
          unsaid = k.unsaid;
          kept = c.cut.kept;
          told_so = h.heard;
          out_is = k.out_is;
          untold_so = subst (λ (x : Names). AreHeard x (locks_after ls h.inputs) s.untold k.unsaid c.taken.inputs) named (subst (λ (x : List Lock). AreHeard s.mid.names x s.untold k.unsaid c.taken.inputs) h.locks c.taken.heard);
          kept_so = c.cut.kept_so;
          inputs = refl;
        };
        found = λ next f.
            let same : f.history ≡ content_of n.behind = one_recovered s.journal f.history (content_of n.behind) f.recovered whole in
            let made : AreMadeOf (bases_of rings) (content_of n.behind).rings f.rings = subst (λ (x : Content). AreMadeOf (bases_of rings) x.rings f.rings) same f.made in
            let back : locks_of next ≡ map restarted (locks_of w.locks) = locks_back 0 n.behind (bases_of rings) w.locks f.rings [] next (return_all s.start.locks w.locks w.notes n) made f.added in
            back
            ∙ (ap (λ (x : List Lock). map restarted x) w.behind ∙ sym (locks_append ls (h.inputs ++ c.cut.kept) (Restart ∷ [])));
      }

  -- all of it was delivered, and the next segment began
  pub run_through : s.untold ≡ [] → (next : List LockView) → AreNext s.mid.locks next → (is : List Input) × IsLockRun (locks_of s.start.locks) s is × (locks_of next ≡ locks_after (locks_of s.start.locks) is)
  run_through none next n =
      let ls : List Lock = locks_of s.start.locks in
      let h = heard_lines s.terms s.start s.mid s.told k.said k.noted k.answered.answers in (
        h.inputs,
        record {
          heard = h.inputs;
          said = k.said;
          asked = [];
          unsaid = [];
          kept = [];
          told_so = h.heard;
          out_is = k.out_is;
          untold_so = subst (λ (x : List (List ℕ)). AreHeard s.start.names (locks_after ls h.inputs) x [] []) (sym none) (refl, refl);
          kept_so = inl ([], refl);
          inputs = sym (append-nil h.inputs);
        },
        same_next s.mid.locks next n ∙ h.locks,
      )
    where
      same_next : (vs ws : List LockView) → AreNext vs ws → locks_of ws ≡ locks_of vs
      same_next [] ws e = ap locks_of e
      same_next (v ∷ vs) [] e = absurd e
      same_next (v ∷ vs) (x ∷ ws) e = ap (λ (l : Lock). l ∷ locks_of ws) e.0.same ∙ ap (λ (ls : List Lock). lock_of v ∷ ls) (same_next vs ws e.1)

-- ---- the life

-- what comes after a run, and the locks that the next begins with
pub record IsPassedOn (s next : Stage) : Type 0 where
  pub inputs : List Input
  pub run : IsLockRun (locks_of s.start.locks) s inputs
  pub locks : locks_of next.start.locks ≡ locks_after (locks_of s.start.locks) (inputs ++ behind s)

pub passed_on : (s next : Stage) → IsStage s → Follows s.killed s next → IsPassedOn s next
passed_on s next k f = go s.killed refl f
  where
    go : (b : Bool) → s.killed ≡ b → Follows b s next → IsPassedOn s next
    go true e g =
        let r = run_so s k in record {
          inputs = r.inputs;
          run = r.run;
          locks = r.found next.start.locks g ∙ ap (λ (b : Bool). locks_after (locks_of s.start.locks) (r.inputs ++ (if b then Restart ∷ [] else []))) (sym e);
        }
    go false e g =
        let r = run_through s k g.0 next.start.locks g.1 in record {
          inputs = r.0;
          run = r.1;
          locks = r.2 ∙ (ap (λ (x : List Input). locks_after (locks_of s.start.locks) x) (sym (append-nil r.0)) ∙ ap (λ (b : Bool). locks_after (locks_of s.start.locks) (r.0 ++ (if b then Restart ∷ [] else []))) (sym e));
        }

lives : (s : Stage) (more : List Stage) (ls : List Lock) → locks_of s.start.locks ≡ ls → AreStages s more → (is : List Input) × IsLockLife ls s more is
lives s [] ls e k = let r = run_so s k in (r.inputs, (e, subst (λ (x : List Lock). IsLockRun x s r.inputs) e r.run))
lives s (next ∷ more) ls e k =
    let p = passed_on s next k.0 k.1 in
    let m = lives next more (locks_after ls (p.inputs ++ behind s)) (p.locks ∙ ap (λ (x : List Lock). locks_after x (p.inputs ++ behind s)) e) k.2 in
    (p.inputs ++ (behind s ++ m.0), (e, (p.inputs, m.0, subst (λ (x : List Lock). IsLockRun x s p.inputs) e p.run, refl, m.1)))

first_begun : (s : Stage) (more : List Stage) → AreStages s more → AreRight (locks_of s.start.locks)
first_begun s [] k = k.begun.kept.right
first_begun s (next ∷ more) k = k.0.begun.kept.right

pub runs_are_a_life : RunsAreALife
runs_are_a_life s more k = let m = lives s more (locks_of s.start.locks) refl k in (m.0, first_begun s more k, m.1)
