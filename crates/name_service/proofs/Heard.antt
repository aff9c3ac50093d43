-- Lines about names are inputs of the machine with names.
use Rattle.std.proofs.Common.{◌≡◌, ◌≤◌, length, ℕ, Bool, true, false, List, [], ◌∷◌, ◌++◌, map, Option, None, Some, ◌⊎◌, inl, inr, refl, sym, ap, subst, ◌∙◌, append-nil}
use Rattle.std.specs.Prelude.{not, ◌&&◌, ◌==◌, nat_le, is_some, option_map}
use Rattle.std.proofs.lemmas.Bool.{false≢true, leb-true}
use Rattle.std.proofs.lemmas.List.{length-map}
use Rattle.line_service.specs.Answering.{Answers}
use Rattle.held_locks.specs.Locks.{Ask}
use Rattle.held_locks.specs.declared.answers.Holder.{Holder}
use Rattle.held_locks.specs.declared.answers.Answer.TheVariants as answer
use Rattle.held_locks.specs.declared.answers.Refusal.{Refusal}
use Rattle.held_locks.specs.declared.answers.Refusal.TheVariants as refusal
use Rattle.lock_protocol.specs.declared.answers.Denial.{Denial}
use Rattle.lock_protocol.specs.declared.answers.Denial.TheVariants as denial
use Rattle.lock_protocol.specs.Asks as lines
use Rattle.lock_protocol.specs.Views.{Input}
use Rattle.lock_protocol.specs.Views as input
use Rattle.lock_protocol.specs.Inputs.{IsReadAs}
use Rattle.lock_protocol.specs.Answers.{answer_line, denial_line}
use Rattle.lock_names.specs.declared.replies.Reply.{Reply}
use Rattle.lock_names.specs.declared.replies.Reply.TheVariants as reply
use Rattle.held_locks.specs.Kept.{lock_of}
use Rattle.lock_names.specs.Names.{Bound, Named, NamedInput, Of, Said, step_named, named_after, said_after, leave_each}
use Rattle.lock_names.specs.Promises.{AreAllowed}
use Rattle.lock_names.specs.Kept.{NamedView, named_of, reached, own_said, grant_said, IsTaken, IsWanting}
use Rattle.lock_names.proofs.LeftNames.{leaves_allowed}
use Rattle.lock_journal.specs.Asking.{one_ask, is_off}
use Rattle.lock_journal.specs.Answering.{denial_of}
use Rattle.name_service.specs.declared.service.NameTerms.{NameTerms}
use Rattle.name_service.specs.Naming.{NamingView, reply_told, has_no_pool, is_no_lock, is_wanting}
use Rattle.name_service.specs.Noting.{lines_of_said}
use Rattle.name_service.specs.Serving.{IsOnlySaid, IsNameToldOf, IsNameToldIf, IsNameTold, IsNameAnsweredIf, IsNameInputAnswered, IsNameLineAnswered}
use Rattle.name_service.specs.Life.{inputs_of, as_told_while, IsHeard, IsUnheard, AreHeard, NameLinesAreHeard}

-- ---- lists of inputs

pub after_both : (s : Named) (is js : List NamedInput) → named_after s (is ++ js) ≡ named_after (named_after s is) js
after_both s [] js = refl
after_both s (i ∷ is) js = after_both (step_named s i).named is js

pub allowed_both : (s : Named) (is js : List NamedInput) → AreAllowed s is → AreAllowed (named_after s is) js → AreAllowed s (is ++ js)
allowed_both s [] js a b = b
allowed_both s (i ∷ is) js a b = (a.0, allowed_both (step_named s i).named is js a.1 b)

-- ---- what is said

pub said_told : (w : Bool) (c : ℕ) (x : List ℕ) (own : Option Reply) (g : Option Holder) → own_said c x (option_map (reply_told w) own) ++ grant_said x g ≡ map (as_told_while w) (own_said c x own ++ grant_said x g)
said_told true c x None None = refl
said_told false c x None None = refl
said_told true c x None (Some h) = refl
said_told false c x None (Some h) = refl
said_told true c x (Some r) None = refl
said_told false c x (Some r) None = refl
said_told true c x (Some r) (Some h) = refl
said_told false c x (Some r) (Some h) = refl

told_same : (ds : List Said) → map (as_told_while false) ds ≡ ds
told_same [] = refl
told_same (d ∷ ds) = ap (λ (xs : List Said). d ∷ xs) (told_same ds)

-- a client is refused for lack of room or of memory
lacking : (w : Bool) (c : ℕ) (x : List ℕ) (why : Refusal) (own : Option Reply) (g : Option Holder) → own ≡ Some (reply.Lock (answer.Refused why)) → g ≡ None → lines_of_said (own_said c x (option_map (reply_told w) own) ++ grant_said x g) ≡ answer_line c x (answer.Refused why)
lacking w c x why own g e f =
    ap (λ (o : Option Reply). lines_of_said (own_said c x (option_map (reply_told w) o) ++ grant_said x g)) e
    ∙ (ap (λ (h : Option Holder). lines_of_said (own_said c x (Some (reply_told w (reply.Lock (answer.Refused why)))) ++ grant_said x h)) f
    ∙ either w)
  where
    either : (w : Bool) → lines_of_said (own_said c x (Some (reply_told w (reply.Lock (answer.Refused why)))) ++ []) ≡ answer_line c x (answer.Refused why)
    either true = append-nil (answer_line c x (answer.Refused why))
    either false = append-nil (answer_line c x (answer.Refused why))

-- ---- a list without a pool

no_more : (q : Bool) (o : Option (ℕ × Bound)) → (not (is_some o) && q) ≡ true → (o ≡ None) × (q ≡ true)
no_more q None e = (refl, e)
no_more q (Some p) e = absurd (false≢true e)

both_so : (p q : Bool) → (p && q) ≡ true → q ≡ true
both_so true q e = e
both_so false q e = absurd (false≢true e)

none_reached : (most : ℕ) (v : NamedView) (x : List ℕ) (a : Ask) → is_no_lock most v x a ≡ true → reached (named_of v) x a ≡ None
none_reached most v x a e = (no_more (has_no_pool most v) (reached (named_of v) x a) e).0

no_ring_more : (most : ℕ) (v : NamedView) (x : List ℕ) (a : Ask) → is_no_lock most v x a ≡ true → length (named_of v).locks ≤ v.fixed
no_ring_more most v x a e =
    let le : length v.locks ≤ v.fixed = leb-true (length v.locks) v.fixed (both_so (most == 0) (nat_le (length v.locks) v.fixed) (no_more (has_no_pool most v) (reached (named_of v) x a) e).1) in
    subst (λ (n : ℕ). n ≤ v.fixed) (sym (length-map v.locks lock_of)) le

-- ---- a line

-- what the machine took of a line, and what it has then
record IsLineHeard (s : Named) (line said : List ℕ) (after : Named) : Type 0 where
  pub is : List NamedInput
  pub heard : IsHeard s line said is ⊎ (IsUnheard s line said × (is ≡ []))
  pub ends : after ≡ named_after s is
  pub allowed : AreAllowed s is

module _ (terms : NameTerms) (old new : NamingView) (line said noted : List ℕ) where
  abbrev Heard : Type 0
  Heard = IsLineHeard (named_of old.named) line said (named_of new.named)

  same : new ≡ old → named_of new.named ≡ named_of old.named
  same e = ap (λ (v : NamingView). named_of v.named) e

  unheard : IsUnheard (named_of old.named) line said → named_of new.named ≡ named_of old.named → Heard
  unheard u e = record { is = []; heard = inr (u, refl); ends = e; allowed = tt }

  denied : (c : ℕ) (why : Denial) → IsOnlySaid (denial_line c why) old said noted new → Heard
  denied c why t = unheard (inr (inl (c, why, t.says))) (same t.leaves)

  taken : (c : ℕ) (ask : lines.Ask) (x : List ℕ) (a : Ask) → IsReadAs line (input.Asked c ask) → one_ask ask ≡ Some (x, a) → (t : IsNameToldOf terms c x a old said noted new) → IsTaken old.named new.named c x a t.answers → Heard
  taken c ask x a r one t k =
      let s : Named = named_of old.named in
      let w : Bool = is_wanting terms.most old.named in
      let is : List NamedInput = Of c x a ∷ [] in record {
        is = is;
        heard = inl (record {
          client = c;
          ask = ask;
          read = r;
          inputs = ap (λ (o : Option (List ℕ × Ask)). inputs_of s c o) (sym one);
          wanting = w;
          says =
              t.says
              ∙ (ap (λ (ds : List Said). lines_of_said ds) (said_told w c x t.answers.own t.answers.granted)
              ∙ (ap (λ (ds : List Said). lines_of_said (map (as_told_while w) ds)) k.said
              ∙ ap (λ (ds : List Said). lines_of_said (map (as_told_while w) ds)) (sym (append-nil (step_named s (Of c x a)).said))));
        });
        ends = k.named;
        allowed = (tt, tt);
      }

  wanting_is : (c : ℕ) (x : List ℕ) (a : Ask) → (t : IsNameToldOf terms c x a old said noted new) → IsWanting old.named new.named x a t.answers → Heard
  wanting_is c x a t k =
      let w : Bool = is_wanting terms.most old.named in
      let stays : named_of new.named ≡ named_of old.named = ap (λ (v : NamedView). named_of v) k.same in
      elim k.why [
        | inl p ↦ unheard (inr (inr (inr (c, x, refusal.Full, inl refl, t.says ∙ lacking w c x refusal.Full t.answers.own t.answers.granted p.0 k.none.1)))) stays
        | inr p ↦ unheard (inr (inr (inr (c, x, refusal.Memory, inr refl, t.says ∙ lacking w c x refusal.Memory t.answers.own t.answers.granted p k.none.1)))) stays
      ]

  unknown : (c : ℕ) (ask : lines.Ask) (x : List ℕ) (a : Ask) → IsReadAs line (input.Asked c ask) → one_ask ask ≡ Some (x, a) → is_no_lock terms.most old.named x a ≡ true →
      IsOnlySaid (answer_line c x (answer.Refused refusal.Lock)) old said noted new → Heard
  unknown c ask x a r one none t = unheard (inr (inr (inl (record {
    client = c;
    ask = ask;
    read = r;
    name = x;
    of = a;
    one = one;
    pool = no_ring_more terms.most old.named x a none;
    none = none_reached terms.most old.named x a none;
    says = t.says;
  })))) (same t.leaves)

  of_name : (q : Bool) (c : ℕ) (ask : lines.Ask) (x : List ℕ) (a : Ask) → IsReadAs line (input.Asked c ask) → one_ask ask ≡ Some (x, a) → is_no_lock terms.most old.named x a ≡ q → IsNameToldIf q terms c x a old said noted new → Heard
  of_name true c ask x a r one none t = unknown c ask x a r one none t
  of_name false c ask x a r one none t = elim t.done.answer [
    | inl k ↦ taken c ask x a r one t k
    | inr k ↦ wanting_is c x a t k
  ]

  asked : (c : ℕ) (ask : lines.Ask) (o : Option (List ℕ × Ask)) → IsReadAs line (input.Asked c ask) → one_ask ask ≡ o → IsNameTold terms c o old said noted new → Heard
  asked c ask None r one t =
      let s : Named = named_of old.named in
      let is : List NamedInput = leave_each c old.named.names in record {
        is = is;
        heard = inl (record {
          client = c;
          ask = ask;
          read = r;
          inputs = ap (λ (o : Option (List ℕ × Ask)). inputs_of s c o) (sym one);
          wanting = false;
          says = t.says ∙ (ap (λ (ds : List Said). lines_of_said ds) t.done.said ∙ ap (λ (ds : List Said). lines_of_said ds) (sym (told_same (said_after s is))));
        });
        ends = t.done.named;
        allowed = leaves_allowed s c old.named.names;
      }
  asked c ask (Some (x, a)) r one t = of_name (is_no_lock terms.most old.named x a) c ask x a r one refl t

  answered_if : (off : Bool) (c : ℕ) (ask : lines.Ask) → IsReadAs line (input.Asked c ask) → IsNameAnsweredIf off terms c ask old said noted new → Heard
  answered_if true c ask r t = denied c denial.Off t
  answered_if false c ask r t = asked c ask (one_ask ask) r refl t

  of_input : (i : Input) → IsReadAs line i → IsNameInputAnswered terms i old said noted new → Heard
  of_input (input.Asked c ask) r t = answered_if (is_off terms.lines.faults ask) c ask r t
  of_input (input.Refused c why) r t = denied c (denial_of why) t
  of_input input.Nobody r t = unheard (inl (r, t.says)) (same t.leaves)

  of_line : IsNameLineAnswered terms old line said noted new → Heard
  of_line a = of_input a.0 a.1 a.2

-- ---- lines

-- the same of lines
pub record AreLinesHeard (s : Named) (all : List (List ℕ)) (said : List ℕ) (after : Named) : Type 0 where
  pub is : List NamedInput
  pub heard : AreHeard s all said is
  pub ends : after ≡ named_after s is
  pub allowed : AreAllowed s is

pub lines_heard : (terms : NameTerms) (old new : NamingView) (all : List (List ℕ)) (said noted : List ℕ) → Answers (IsNameLineAnswered terms) old all said noted new → AreLinesHeard (named_of old.named) all said (named_of new.named)
lines_heard terms old new [] said noted a = record { is = []; heard = (a.0, refl); ends = ap (λ (v : NamingView). named_of v.named) a.2; allowed = tt }
lines_heard terms old new (line ∷ all) said noted a =
    let s : Named = named_of old.named in
    let one = of_line terms old a.0 line a.1 a.3 a.5 in
    let rest = subst (λ (n : Named). AreLinesHeard n all a.2 (named_of new.named)) one.ends (lines_heard terms a.0 new all a.2 a.4 a.8) in record {
      is = one.is ++ rest.is;
      heard = (a.1, a.2, one.is, rest.is, one.heard, a.6, refl, rest.heard);
      ends = rest.ends ∙ sym (after_both s one.is rest.is);
      allowed = allowed_both s one.is rest.is one.allowed rest.allowed;
    }

pub name_lines_are_heard : NameLinesAreHeard
name_lines_are_heard terms old new all said noted a = let h = lines_heard terms old new all said noted a in (h.is, h.heard, h.ends)
