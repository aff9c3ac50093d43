-- Equal lines about names give equal answers.
use Rattle.std.proofs.Common.{◌≡◌, ℕ, ◌-◌, Bool, true, false, cond, List, [], ◌∷◌, ◌++◌, length, map, Option, Some, None, inl, inr, refl, sym, ap, subst, ◌∙◌}
use Rattle.std.specs.Prelude.{is_some, option_map, nat_le, nat_lt, ◌==◌, not, ◌||◌, ◌&&◌}
use Rattle.std.proofs.lemmas.Bool.{true≢false}
use Rattle.disks.specs.Held.{Held}
use Rattle.line_service.specs.Stands.{Stand, stand}
use Rattle.held_locks.specs.declared.answers.Answer.TheVariants as answer
use Rattle.held_locks.specs.declared.answers.Refusal.TheVariants as refusal
use Rattle.held_locks.specs.declared.answers.HoldEnd.{HoldEnd}
use Rattle.held_locks.specs.declared.answers.Left.{Left}
use Rattle.held_locks.specs.Locks.{Ask, Acquire, Try, Release, Cancel, Corrupt, Stats, Asked, step}
use Rattle.held_locks.specs.Kept.{LockView, locks_of}
use Rattle.text_lines.specs.LongNumbers.{in_32_bits}
use Rattle.lock_protocol.specs.Asks as lines
use Rattle.lock_protocol.specs.Views.{Input}
use Rattle.lock_protocol.specs.Views as input
use Rattle.lock_protocol.proofs.Whole.{one_reading}
use Rattle.lock_journal.specs.declared.stages.Stage.{Stage}
use Rattle.lock_journal.specs.Asking.{one_ask, is_off}
use Rattle.lock_journal.specs.Due.{has_short}
use Rattle.lock_journal.specs.Counting.{count_about, count_of_all}
use Rattle.lock_journal.specs.Noting.{end_line, note_about, note_of_left}
use Rattle.lock_journal.specs.Stages.{stage_after}
use Rattle.lock_journal.specs.Equal.{AreEqualLocks}
use Rattle.lock_journal.proofs.EqualLocks.{as_many_equal, lines_equal, short_equal, note_equal, count_equal, count_left_equal, done_alike, left_alike}
use Rattle.lock_journal.proofs.Following.{as_many, step_many}
use Rattle.lock_names.specs.declared.replies.Reply.{Reply}
use Rattle.lock_names.specs.declared.replies.Reply.TheVariants as reply
use Rattle.lock_names.specs.declared.replies.NameAnswers.{NameAnswers}
use Rattle.lock_names.specs.Names.{Bound, Named, Of, Said, of_ring, found, free, step_named, named_after, leave_each}
use Rattle.lock_names.specs.Kept.{NamedView, named_of, reached, IsRecorded, IsTaken, IsWanting}
use Rattle.lock_names.specs.Leaves.{told_left, said_left}
use Rattle.lock_names.proofs.Taking.{same_named}
use Rattle.name_service.specs.declared.service.NameTerms.{NameTerms}
use Rattle.name_service.specs.declared.service.NameService.{NameService}
use Rattle.name_service.specs.Naming.{NamingView, IsNameCounted, count_at, is_no_lock, is_wanting, reply_told, is_name_lack}
use Rattle.name_service.specs.Noting.{lines_of_said, note_of_new, note_of_free, note_at, is_freed, notes_of_names_left}
use Rattle.name_service.specs.Serving.{own_told, IsOnlySaid, IsNameToldOf, IsNameToldIf, IsNameToldOfLeave, IsNameTold, IsNameAnsweredIf, IsNameInputAnswered, IsNameLineAnswered, IsNameServed, is_name_past}
use Rattle.name_service.specs.Life.{as_told_while}
use Rattle.name_service.specs.NameEqual.{AreEqualNames, AreEqualServices, EqualNameLinesGiveEqualAnswers}
use Rattle.name_service.proofs.Heard.{said_told}

-- ---- what the machine sees

named_equal : (a b : NamingView) → AreEqualNames a b → named_of b.named ≡ named_of a.named
named_equal a b e = same_named (locks_of b.named.locks) (locks_of a.named.locks) b.named.names a.named.names b.named.fixed a.named.fixed b.named.top a.named.top e.locks.locks e.names e.fixed e.top

wanting_equal : (most : ℕ) (a b : NamingView) → AreEqualNames a b → is_wanting most b.named ≡ is_wanting most a.named
wanting_equal most a b e =
    ap (λ (os : List (Option Bound)). not (is_some (free os)) && nat_lt (length b.named.locks - b.named.fixed) most) e.names
    ∙ (ap (λ (n : ℕ). not (is_some (free a.named.names)) && nat_lt (n - b.named.fixed) most) (as_many_equal a.named.locks b.named.locks e.locks)
    ∙ ap (λ (n : ℕ). not (is_some (free a.named.names)) && nat_lt (length a.named.locks - n) most) e.fixed)

no_lock_equal : (most : ℕ) (a b : NamingView) (x : List ℕ) (ask : Ask) → AreEqualNames a b → is_no_lock most b.named x ask ≡ is_no_lock most a.named x ask
no_lock_equal most a b x ask e =
    ap (λ (s : Named). not (is_some (reached s x ask)) && (most == 0 && nat_le (length b.named.locks) b.named.fixed)) (named_equal a b e)
    ∙ (ap (λ (n : ℕ). not (is_some (reached (named_of a.named) x ask)) && (most == 0 && nat_le n b.named.fixed)) (as_many_equal a.named.locks b.named.locks e.locks)
    ∙ ap (λ (n : ℕ). not (is_some (reached (named_of a.named) x ask)) && (most == 0 && nat_le (length a.named.locks) n)) e.fixed)

counted_equal : (a b c d : NamingView) (m n : ℕ) → AreEqualNames a b → AreEqualLocks c.named.locks d.named.locks → named_of d.named ≡ named_of c.named → n ≡ m → IsNameCounted a c m → IsNameCounted b d n → AreEqualNames c d
counted_equal a b c d m n e f named same p q = record {
  locks = f;
  names = ap (λ (s : Named). s.names) named;
  fixed = ap (λ (s : Named). s.fixed) named;
  top = ap (λ (s : Named). s.top) named;
  remaining = q.remaining ∙ (ap (λ (x : ℕ). x - n) e.remaining ∙ (ap (λ (x : ℕ). a.remaining - x) same ∙ sym p.remaining));
  short = q.short ∙ (ap (λ (x : Bool). x || has_short d.named.locks) e.short ∙ (ap (λ (x : Bool). a.short || x) (short_equal c.named.locks d.named.locks f) ∙ sym p.short));
}

-- ---- an ask

-- on strict terms nobody lacks room or memory
not_wanting : (w : Bool) (old new : NamedView) (x : List ℕ) (ask : Ask) (r : NameAnswers) → IsWanting old new x ask r → is_name_lack (option_map (reply_told w) r.own) ≡ false → ⊥
not_wanting w old new x ask r k given = elim k.why [
  | inl p ↦ true≢false (sym (ap (λ (o : Option Reply). is_name_lack (option_map (reply_told w) o)) p.0 ∙ told_full w) ∙ given)
  | inr p ↦ true≢false (sym (ap (λ (o : Option Reply). is_name_lack (option_map (reply_told w) o)) p ∙ told_memory w) ∙ given)
]
  where
    told_full : (w : Bool) → is_name_lack (Some (reply_told w (reply.Lock (answer.Refused refusal.Full)))) ≡ true
    told_full true = refl
    told_full false = refl

    told_memory : (w : Bool) → is_name_lack (Some (reply_told w (reply.Lock (answer.Refused refusal.Memory)))) ≡ true
    told_memory true = refl
    told_memory false = refl

module _ (terms : NameTerms) (c : ℕ) (x : List ℕ) (ask : Ask) (old new : NamingView) (said noted : List ℕ) (t : IsNameToldOf terms c x ask old said noted new) (strict : terms.lines.strict ≡ true) where
  given : is_name_lack (own_told terms old t.answers) ≡ false
  given = sym (ap (λ (q : Bool). q && is_name_lack (own_told terms old t.answers)) strict) ∙ t.given

  pub taken_is : IsTaken old.named new.named c x ask t.answers
  taken_is = elim t.done.answer [
    | inl k ↦ k
    | inr w ↦ absurd (not_wanting (is_wanting terms.most old.named) old.named new.named x ask t.answers w given)
  ]

  pub said_is : said ≡ lines_of_said (map (as_told_while (is_wanting terms.most old.named)) (step_named (named_of old.named) (Of c x ask)).said)
  said_is =
      let w : Bool = is_wanting terms.most old.named in
      t.says ∙ (ap (λ (ds : List Said). lines_of_said ds) (said_told w c x t.answers.own t.answers.granted) ∙ ap (λ (ds : List Said). lines_of_said (map (as_told_while w) ds)) taken_is.said)

-- the rings after it, and the end of a hold
record IsAlike (c d : NamedView) (r s : NameAnswers) : Type 0 where
  locks : AreEqualLocks c.locks d.locks
  ended : s.ended ≡ r.ended

alike_at : (a b c d : NamedView) (client : ℕ) (ask : Ask) (r s : NameAnswers) (o : Option (ℕ × Bound)) → AreEqualLocks a.locks b.locks → IsRecorded a.locks c.locks client ask r o → IsRecorded b.locks d.locks client ask s o → IsAlike c d r s
alike_at a b c d client ask r s None e p q = record {
  locks = subst (λ (vs : List LockView). AreEqualLocks vs d.locks) (sym p.0) (subst (λ (vs : List LockView). AreEqualLocks a.locks vs) (sym q.0) e);
  ended = q.1 ∙ sym p.1;
}
alike_at a b c d client ask r s (Some (i, k)) e p q =
    let n : length c.locks ≡ length a.locks = as_many a.locks c.locks (step (locks_of a.locks) (Asked client i (of_ring k ask))).locks p.1.locks (step_many (locks_of a.locks) client i (of_ring k ask)) in
    let m : length d.locks ≡ length b.locks = as_many b.locks d.locks (step (locks_of b.locks) (Asked client i (of_ring k ask))).locks q.1.locks (step_many (locks_of b.locks) client i (of_ring k ask)) in
    let z = done_alike a.locks b.locks c.locks d.locks e client i (of_ring k ask) p.0 q.0 p.1 q.1 n m in
    record { locks = z.locks; ended = q.2 ∙ (z.ended ∙ sym p.2) }

notes_alike : (a b c d : NamedView) (x : List ℕ) (r s : NameAnswers) (o : Option ℕ) → named_of b ≡ named_of a → AreEqualLocks a.locks b.locks → IsAlike c d r s → s.fresh ≡ r.fresh → s.freed ≡ r.freed → note_at o b d x s ≡ note_at o a c x r
notes_alike a b c d x r s None n e k f g = refl
notes_alike a b c d x r s (Some i) n e k f g =
    ap (λ (z : Named). note_of_new z x i s.fresh ++ (note_about i b.locks d.locks s.ended ++ note_of_free i s.freed)) n
    ∙ (ap (λ (q : Bool). note_of_new (named_of a) x i q ++ (note_about i b.locks d.locks s.ended ++ note_of_free i s.freed)) f
    ∙ (ap (λ (h : Option HoldEnd). note_of_new (named_of a) x i r.fresh ++ (note_about i b.locks d.locks h ++ note_of_free i s.freed)) k.ended
    ∙ (ap (λ (u : List ℕ). note_of_new (named_of a) x i r.fresh ++ (u ++ note_of_free i s.freed)) (note_equal a.locks b.locks c.locks d.locks e k.locks i r.ended)
    ∙ ap (λ (q : Bool). note_of_new (named_of a) x i r.fresh ++ (note_about i a.locks c.locks r.ended ++ note_of_free i q)) g)))

counts_alike : (a b c d : NamedView) (r s : NameAnswers) (o : Option ℕ) → AreEqualLocks a.locks b.locks → IsAlike c d r s → count_at o b d s ≡ count_at o a c r
counts_alike a b c d r s None e k = refl
counts_alike a b c d r s (Some i) e k = ap (λ (h : Option HoldEnd). count_about i b.locks d.locks h) k.ended ∙ count_equal a.locks b.locks c.locks d.locks e k.locks i r.ended

-- ---- a line

module _ (terms : NameTerms) (strict : terms.lines.strict ≡ true) (a b c d : NamingView) (e : AreEqualNames a b) (said noted told kept : List ℕ) where
  pub record AreAlike : Type 0 where
    pub said_same : told ≡ said
    pub noted_same : kept ≡ noted
    pub segment : AreEqualNames c d

  only_alike : (text : List ℕ) → IsOnlySaid text a said noted c → IsOnlySaid text b told kept d → AreAlike
  only_alike text p q = record {
    said_same = q.says ∙ sym p.says;
    noted_same = q.notes ∙ sym p.notes;
    segment = subst (λ (v : NamingView). AreEqualNames v d) (sym p.leaves) (subst (λ (v : NamingView). AreEqualNames a v) (sym q.leaves) e);
  }

  told_alike : (client : ℕ) (x : List ℕ) (ask : Ask) → IsNameToldOf terms client x ask a said noted c → IsNameToldOf terms client x ask b told kept d → AreAlike
  told_alike client x ask p q =
      let n : named_of b.named ≡ named_of a.named = named_equal a b e in
      let t = taken_is terms client x ask a c said noted p strict in
      let u = taken_is terms client x ask b d told kept q strict in
      let after : named_of d.named ≡ named_of c.named = u.named ∙ (ap (λ (s : Named). (step_named s (Of client x ask)).named) n ∙ sym t.named) in
      let reach : reached (named_of b.named) x ask ≡ reached (named_of a.named) x ask = ap (λ (s : Named). reached s x ask) n in
      let k = alike_at a.named b.named c.named d.named client ask p.answers q.answers (reached (named_of a.named) x ask) e.locks t.recorded (subst (λ (o : Option (ℕ × Bound)). IsRecorded b.named.locks d.named.locks client ask q.answers o) reach u.recorded) in
      let ring : q.answers.ring ≡ p.answers.ring = q.done.ring ∙ (ap (λ (o : Option (ℕ × Bound)). option_map (λ (z : ℕ × Bound). z.0) o) reach ∙ sym p.done.ring) in
      let names : d.named.names ≡ c.named.names = ap (λ (s : Named). s.names) after in
      let fresh : q.answers.fresh ≡ p.answers.fresh =
      u.fresh ∙ (ap (λ (os : List (Option Bound)). not (is_some (found x os)) && is_some (found x d.named.names)) e.names ∙ (ap (λ (os : List (Option Bound)). not (is_some (found x a.named.names)) && is_some (found x os)) names ∙ sym t.fresh)) in
      let freed : q.answers.freed ≡ p.answers.freed =
      u.freed ∙ (ap (λ (os : List (Option Bound)). is_some (found x os) && not (is_some (found x d.named.names))) e.names ∙ (ap (λ (os : List (Option Bound)). is_some (found x a.named.names) && not (is_some (found x os))) names ∙ sym t.freed)) in
      let note : note_at q.answers.ring b.named d.named x q.answers ≡ note_at p.answers.ring a.named c.named x p.answers =
      ap (λ (o : Option ℕ). note_at o b.named d.named x q.answers) ring ∙ notes_alike a.named b.named c.named d.named x p.answers q.answers p.answers.ring n e.locks k fresh freed in
      let count : count_at q.answers.ring b.named d.named q.answers ≡ count_at p.answers.ring a.named c.named p.answers =
      ap (λ (o : Option ℕ). count_at o b.named d.named q.answers) ring ∙ counts_alike a.named b.named c.named d.named p.answers q.answers p.answers.ring e.locks k in
      let w : Bool = is_wanting terms.most a.named in
      record {
        said_same =
            said_is terms client x ask b d told kept q strict
            ∙ (ap (λ (v : Bool). lines_of_said (map (as_told_while v) (step_named (named_of b.named) (Of client x ask)).said)) (wanting_equal terms.most a b e)
            ∙ (ap (λ (s : Named). lines_of_said (map (as_told_while w) (step_named s (Of client x ask)).said)) n ∙ sym (said_is terms client x ask a c said noted p strict)));
        noted_same = q.notes ∙ (ap (λ (u : List ℕ). cond terms.lines.noting u []) note ∙ sym p.notes);
        segment = counted_equal a b c d (count_at p.answers.ring a.named c.named p.answers) (count_at q.answers.ring b.named d.named q.answers) e k.locks after count p.counted q.counted;
      }

  left_notes : (fixed : ℕ) (f : AreEqualLocks c.named.locks d.named.locks) (ls : List Left) → notes_of_names_left fixed d.named.locks ls ≡ notes_of_names_left fixed c.named.locks ls
  left_notes fixed f [] = refl
  left_notes fixed f (l ∷ ls) =
      ap (λ (u : List ℕ). ((end_line l.lock (Some l.ended) ++ u) ++ note_of_free l.lock (is_freed fixed l)) ++ notes_of_names_left fixed d.named.locks ls) (lines_equal c.named.locks d.named.locks f l.lock l.ended.survey.position l.lock)
      ∙ ap (λ (u : List ℕ). (note_of_left c.named.locks l ++ note_of_free l.lock (is_freed fixed l)) ++ u) (left_notes fixed f ls)

  leave_alike : (client : ℕ) → IsNameToldOfLeave terms.lines.noting client a said noted c → IsNameToldOfLeave terms.lines.noting client b told kept d → AreAlike
  leave_alike client p q =
      let n : named_of b.named ≡ named_of a.named = named_equal a b e in
      let r = left_alike a.named.locks b.named.locks c.named.locks d.named.locks client p.done.raw q.done.raw e.locks p.done.locks q.done.locks in
      let after : named_of d.named ≡ named_of c.named = q.done.named ∙ (ap (λ (s : Named). named_after s (leave_each client s.names)) n ∙ sym p.done.named) in
      let left : d.left ≡ c.left = q.done.told ∙ (ap (λ (ls : List Left). map (told_left b.named.names) ls) r.1 ∙ (ap (λ (os : List (Option Bound)). map (told_left os) p.done.raw) e.names ∙ sym p.done.told)) in
      let noting : Bool = terms.lines.noting in
      record {
        said_same = q.says ∙ (ap (λ (os : List (Option Bound)). lines_of_said (said_left os d.left)) e.names ∙ (ap (λ (ls : List Left). lines_of_said (said_left a.named.names ls)) left ∙ sym p.says));
        noted_same =
            q.notes
            ∙ (ap (λ (m : ℕ). cond noting (notes_of_names_left m d.named.locks d.left) []) e.fixed
            ∙ (ap (λ (ls : List Left). cond noting (notes_of_names_left a.named.fixed d.named.locks ls) []) left
            ∙ (ap (λ (u : List ℕ). cond noting u []) (left_notes a.named.fixed r.0 c.left) ∙ sym p.notes)));
        segment = counted_equal a b c d (count_of_all c.named.locks c.left) (count_of_all d.named.locks d.left) e r.0 after
            (ap (λ (ls : List Left). count_of_all d.named.locks ls) left ∙ count_left_equal c.named.locks d.named.locks r.0 c.left) p.counted q.counted;
      }

  if_lock_alike : (q : Bool) (client : ℕ) (x : List ℕ) (ask : Ask) → IsNameToldIf q terms client x ask a said noted c → IsNameToldIf q terms client x ask b told kept d → AreAlike
  if_lock_alike true client x ask p q = only_alike _ p q
  if_lock_alike false client x ask p q = told_alike client x ask p q

  named_alike : (client : ℕ) (x : List ℕ) (ask : Ask) → IsNameTold terms client (Some (x, ask)) a said noted c → IsNameTold terms client (Some (x, ask)) b told kept d → AreAlike
  named_alike client x ask p q =
      if_lock_alike (is_no_lock terms.most a.named x ask) client x ask p (subst (λ (z : Bool). IsNameToldIf z terms client x ask b told kept d) (no_lock_equal terms.most a b x ask e) q)

  asked_alike : (client : ℕ) (ask : lines.Ask) → IsNameTold terms client (one_ask ask) a said noted c → IsNameTold terms client (one_ask ask) b told kept d → AreAlike
  asked_alike client (lines.acquire name label) p q = named_alike client name (Acquire label) p q
  asked_alike client (lines.try name label) p q = named_alike client name (Try label) p q
  asked_alike client (lines.release name token) p q = named_alike client name (Release token) p q
  asked_alike client (lines.cancel name) p q = named_alike client name Cancel p q
  asked_alike client lines.leave p q = leave_alike client p q
  asked_alike client (lines.corrupt name machine value) p q = named_alike client name (Corrupt (in_32_bits machine) (in_32_bits value)) p q
  asked_alike client (lines.stats name) p q = named_alike client name Stats p q

  if_alike : (off : Bool) (client : ℕ) (ask : lines.Ask) → IsNameAnsweredIf off terms client ask a said noted c → IsNameAnsweredIf off terms client ask b told kept d → AreAlike
  if_alike true client ask p q = only_alike _ p q
  if_alike false client ask p q = asked_alike client ask p q

  input_alike : (i : Input) → IsNameInputAnswered terms i a said noted c → IsNameInputAnswered terms i b told kept d → AreAlike
  input_alike (input.Asked client ask) p q = if_alike (is_off terms.lines.faults ask) client ask p q
  input_alike (input.Refused client why) p q = only_alike _ p q
  input_alike input.Nobody p q = only_alike _ p q

  pub line_alike : (line : List ℕ) → IsNameLineAnswered terms a line said noted c → IsNameLineAnswered terms b line told kept d → AreAlike
  line_alike line p q = input_alike p.0 p.2 (subst (λ (i : Input). IsNameInputAnswered terms i b told kept d) (one_reading line q.0 p.0 q.1 p.1) q.2)

-- ---- the service

past_alike : (terms : NameTerms) (a b : NamingView) → AreEqualNames a b → is_name_past terms b ≡ is_name_past terms a
past_alike terms a b e = let m = e.remaining in let s = e.short in let w = wanting_equal terms.most a b e in rw (m, s, w) refl

pub record IsServedAlike (said noted told kept : List ℕ) (c d : NameService) : Type 0 where
  pub said_same : told ≡ said
  pub noted_same : kept ≡ noted
  pub equal : AreEqualServices c d

served_alike : (a b c d : NameService) (before after was is : Option Held) (line said noted told kept : List ℕ) → a.terms.lines.strict ≡ true → AreEqualServices a b → IsNameServed a before line said noted c after → IsNameServed b was line told kept d is →
    IsServedAlike said noted told kept c d
served_alike a b c d before after was is line said noted told kept strict e p q =
    let there : IsNameLineAnswered a.terms b.segment line told kept d.segment = subst (λ (t : NameTerms). IsNameLineAnswered t b.segment line told kept d.segment) e.terms q.answered in
    let r = line_alike a.terms strict a.segment b.segment c.segment d.segment e.segment said noted told kept line p.answered there in
    let past : is_name_past b.terms d.segment ≡ is_name_past a.terms c.segment = ap (λ (t : NameTerms). is_name_past t d.segment) e.terms ∙ past_alike a.terms c.segment d.segment r.segment in
    record {
      said_same = r.said_same;
      noted_same = r.noted_same;
      equal = record {
        segment = r.segment;
        terms = q.terms ∙ (e.terms ∙ sym p.terms);
        stage = q.stage ∙ (ap (λ (x : Stage). stage_after x (is_name_past b.terms d.segment)) e.stage ∙ (ap (λ (x : Bool). stage_after a.stage x) past ∙ sym p.stage));
      };
    }

ended_alike : (a b c d : NameService) (before after was is : Option Held) → AreEqualServices a b → stand c after ≡ stand a before → stand d is ≡ stand b was → AreEqualServices c d
ended_alike a b c d before after was is e p q =
    subst (λ (x : NameService). AreEqualServices x d) (sym (ap (λ (s : Stand NameService). s.service) p)) (subst (λ (x : NameService). AreEqualServices a x) (sym (ap (λ (s : Stand NameService). s.service) q)) e)

pub equal_name_lines : EqualNameLinesGiveEqualAnswers
equal_name_lines a b c d before after was is [] said noted told kept strict e p q = (q.0 ∙ sym p.0, q.1 ∙ sym p.1, ended_alike a b c d before after was is e p.2 q.2)
equal_name_lines a b c d before after was is (line ∷ lines) said noted told kept strict e p q =
    let r = served_alike a b p.0.service q.0.service before p.0.files was q.0.files line p.1 p.3 q.1 q.3 strict e p.5 q.5 in
    let still : p.0.service.terms.lines.strict ≡ true = ap (λ (t : NameTerms). t.lines.strict) p.5.terms ∙ strict in
    let more = equal_name_lines p.0.service q.0.service c d p.0.files after q.0.files is lines p.2 p.4 q.2 q.4 still r.equal p.8 q.8 in (
      q.6 ∙ (ap (λ (x : List ℕ). x ++ q.2) r.said_same ∙ (ap (λ (x : List ℕ). p.1 ++ x) more.0 ∙ sym p.6)),
      q.7 ∙ (ap (λ (x : List ℕ). x ++ q.4) r.noted_same ∙ (ap (λ (x : List ℕ). p.3 ++ x) more.1 ∙ sym p.7)),
      more.2,
    )
