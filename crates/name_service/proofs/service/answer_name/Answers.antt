use Rattle.std.proofs.Common.{◌≡◌, ℕ, Bool, List, [], ◌++◌, cond, Option, Result, refl, sym, ap, ◌∙◌, subst}
use Rattle.std.specs.Prelude.{◌&&◌, not, is_some, true, false, Some, None, option_map}
use Rattle.std.proofs.lemmas.Bool.{false≢true, true≢false}
use Rattle.held_locks.specs.Asked.{asked}
use Rattle.line_service.specs.declared.pending.Pending.{Pending}
use Rattle.lock_names.specs.declared.replies.Reply.{Reply}
use Rattle.lock_names.specs.declared.replies.NameAnswers.{NameAnswers}
use Rattle.lock_names.specs.Names.{Bound}
use Rattle.lock_names.specs.Kept.{NamedView, named_of, reached, own_said, grant_said, IsAsked}
use Rattle.lock_protocol.specs.Answers.{answer_line}
use Rattle.held_locks.specs.Locks.{Ask}
use Rattle.held_locks.specs.declared.answers.Answer.TheVariants as answer
use Rattle.held_locks.specs.declared.answers.Refusal.TheVariants as refusal
use Rattle.lock_journal.specs.declared.untold.Untold.{Untold}
use Rattle.lock_journal.specs.Answering.{Leaves}
use Rattle.lock_journal.proofs.Telling.{on_ok, put_leaves, said_leaves}
use Rattle.name_service.specs.declared.service.NameTerms.{NameTerms}
use Rattle.name_service.specs.Naming.{reply_told, is_name_lack, has_no_pool, is_no_lock, is_wanting}
use Rattle.name_service.specs.Noting.{lines_of_said, note_at, note_since}
use Rattle.name_service.specs.Serving.{own_told, IsNameToldOf, IsNameToldIf, IsNameTold}
use Rattle.name_service.proofs.Lacking.{told_lack, is_both}
use Rattle.name_service.proofs.NotedSame.{noted_same}
use Rattle.name_service.proofs.service.answer_name.Goals as goal

abbrev in_ring : Option (ℕ × Bound) → Option ℕ
in_ring o = option_map (λ (p : ℕ × Bound). p.0) o

some_ring : (o : Option (ℕ × Bound)) → is_some (in_ring o) ≡ is_some o
some_ring None = refl
some_ring (Some p) = refl

both_so : (p q : Bool) → (not p && q) ≡ true → p ≡ false
both_so true q e = absurd (false≢true e)
both_so false q e = refl

no_ring : (o : Option ℕ) → is_some o ≡ false → o ≡ None
no_ring None e = refl
no_ring (Some i) e = absurd (true≢false e)

-- whether there is such a lock, by the ring that was asked
lock_is : (most : ℕ) (old new : NamedView) (c : ℕ) (x : List ℕ) (a : Ask) (r : NameAnswers) (listed : Bool) → IsAsked old new c x a r → listed ≡ has_no_pool most old → (not (is_some r.ring) && listed) ≡ is_no_lock most old x a
lock_is most old new c x a r listed d e =
    ap (λ (o : Option ℕ). not (is_some o) && listed) d.ring
    ∙ (ap (λ (q : Bool). not q && listed) (some_ring (reached (named_of old) x a))
    ∙ ap (λ (q : Bool). not (is_some (reached (named_of old) x a)) && q) e)

pub returns-then-is_no_lock : goal.returns-then-is_no_lock
returns-then-is_no_lock c =
    let old = c.args.segment.now in
    let new = c.ask-done.new.self in
    let terms = c.args.terms in
    let r = c.ask-done.result.answers in
    let x = c.args.name.now in
    let a = asked c.args.ask in
    let done : IsAsked old.named new.named c.args.client x a r = subst (λ (y : List ℕ). IsAsked old.named new.named c.args.client y a r) c.text_of.ensures c.ask-done.ensures.answer in
    let listed : c.has_no_pool-listed.result ≡ has_no_pool terms.most old.named = c.has_no_pool-listed.ensures ∙ ap (λ (v : NamedView). has_no_pool terms.most v) c.names-names.ensures in
    let both : (not (is_some r.ring) && c.has_no_pool-listed.result) ≡ true = sym c.is_no_lock.ensures ∙ c.if-is_no_lock.true in
    let there : is_no_lock terms.most old.named x a ≡ true = sym (lock_is terms.most old.named new.named c.args.client x a r c.has_no_pool-listed.result done listed) ∙ both in
    let same : new ≡ old = c.ask-done.ensures.unreached (no_ring r.ring (both_so (is_some r.ring) c.has_no_pool-listed.result both)) in
    let said : List ℕ = answer_line c.args.client x (answer.Refused refusal.Lock) in
    said_leaves c.put_answer.result c.put.result (λ s n. IsNameTold terms c.args.client (Some (x, a)) old s n new) (new ≡ old) c.args.pending.now (record { answers = c.put_answer.new.text; notes = c.args.pending.now.notes }) said c.put.ensures
    (subst (λ (q : Bool). IsNameToldIf q terms c.args.client x a old said [] new) (sym there) (record { says = refl; notes = refl; leaves = same }))
    c.put_answer.ensures.ok refl

-- there is, or the list has a pool
lock_there : (terms : NameTerms) (old new : NamedView) (c : ℕ) (x y : List ℕ) (a : Ask) (r : NameAnswers) (v : NamedView) (listed q : Bool) → y ≡ x → IsAsked old new c y a r → v ≡ old → listed ≡ has_no_pool terms.most v → q ≡ (not (is_some r.ring) && listed) → q ≡ false → is_no_lock terms.most old x a ≡ false
lock_there terms old new c x y a r v listed q e d f g h i =
    let done : IsAsked old new c x a r = subst (λ (z : List ℕ). IsAsked old new c z a r) e d in
    sym (lock_is terms.most old new c x a r listed done (g ∙ ap (λ (w : NamedView). has_no_pool terms.most w) f)) ∙ (sym h ∙ i)

pub returns-then-is_stop : goal.returns-then-is_stop
returns-then-is_stop c =
    let own = c.own_told-own.result in
    let lack : is_name_lack own ≡ true = is_both c.args.terms.lines.strict (is_name_lack own) (sym c.is_stop.ensures ∙ c.if-is_stop.true) in
    c.ask-done.ensures.lack (told_lack c.is_wanting-wanting.result c.ask-done.result.answers.own (ap (λ (o : Option Reply). is_name_lack o) (sym c.own_told-own.ensures) ∙ lack))

pub returns-in-Ok : goal.returns-in-Ok
returns-in-Ok c =
    let old = c.args.segment.now in
    let new = c.ask-done.new.self in
    let terms = c.args.terms in
    let r = c.ask-done.result.answers in
    let x = c.args.name.now in
    let done : IsAsked old.named new.named c.args.client x (asked c.args.ask) r = subst (λ (y : List ℕ). IsAsked old.named new.named c.args.client y (asked c.args.ask) r) c.text_of.ensures c.ask-done.ensures.answer in
    let own : c.own_told-own.result ≡ own_told terms old r =
    c.own_told-own.ensures ∙ ap (λ (w : Bool). option_map (reply_told w) r.own) (c.is_wanting-wanting.ensures ∙ ap (λ (v : NamedView). is_wanting terms.most v) c.names-names.ensures) in
    let given : (terms.lines.strict && is_name_lack (own_told terms old r)) ≡ false =
    sym (ap (λ (o : Option Reply). terms.lines.strict && is_name_lack o) own) ∙ sym c.is_stop.ensures ∙ c.if-is_stop.false in
    let said : List ℕ = lines_of_said (own_said c.args.client x (own_told terms old r) ++ grant_said x r.granted) in
    let noted : List ℕ = cond terms.lines.noting (note_at r.ring old.named new.named x r) [] in
    let told : IsNameToldOf terms c.args.client x (asked c.args.ask) old said noted new = record { answers = r; done = done; given = given; says = refl; notes = refl; counted = c.ask-done.ensures.counted } in
    let pending : Pending = record { answers = c.tell_name.new.text; notes = c.note_name_if.new.notes } in
    let says = c.in-Ok.ensures ∙ ap (λ (o : Option Reply). c.args.pending.now.answers.items ++ lines_of_said (own_said c.args.client x o ++ grant_said x r.granted)) own in
    let text : cond terms.lines.noting (note_since r.ring c.ask-done.result.before c.names.result.now r) [] ≡ noted =
    ap (λ (v : NamedView). cond terms.lines.noting (note_since r.ring c.ask-done.result.before v r) []) c.names.ensures
    ∙ ap (λ (u : List ℕ). cond terms.lines.noting u []) (noted_same old.named new.named c.args.client x (asked c.args.ask) r done c.ask-done.result.before c.ask-done.ensures.events.before) in
    let there : is_no_lock terms.most old.named x (asked c.args.ask) ≡ false =
    lock_there terms old.named new.named c.args.client x c.text_of.result.now (asked c.args.ask) r c.names-names.result.now c.has_no_pool-listed.result c.is_no_lock.result c.text_of.ensures c.ask-done.ensures.answer c.names-names.ensures c.has_no_pool-listed.ensures c.is_no_lock.ensures c.if-is_no_lock.false in
    subst (λ (q : Bool). Leaves c.put-in-Ok.result (λ s n. IsNameToldIf q terms c.args.client x (asked c.args.ask) old s n new) (new ≡ old) c.args.pending.now pending) (sym there)
    (subst (λ (z : Result (Unit {0}) Untold). Leaves z (λ s n. IsNameToldOf terms c.args.client x (asked c.args.ask) old s n new) (new ≡ old) c.args.pending.now pending) (sym c.put-in-Ok.ensures)
    (put_leaves c.note_name_if.result (λ s n. IsNameToldOf terms c.args.client x (asked c.args.ask) old s n new) (new ≡ old) c.args.pending.now pending said noted told
    (on_ok c.note_name_if.result _ _ c.note_name_if.ensures (λ n. (says, n ∙ ap (λ (t : List ℕ). c.args.pending.now.notes.items ++ t) text)))))

pub returns-in-Err : goal.returns-in-Err
returns-in-Err c =
    let old = c.args.segment.now in
    let new = c.ask-done.new.self in
    let terms = c.args.terms in
    let r = c.ask-done.result.answers in
    let x = c.args.name.now in
    let done : IsAsked old.named new.named c.args.client x (asked c.args.ask) r = subst (λ (y : List ℕ). IsAsked old.named new.named c.args.client y (asked c.args.ask) r) c.text_of.ensures c.ask-done.ensures.answer in
    let own : c.own_told-own.result ≡ own_told terms old r =
    c.own_told-own.ensures ∙ ap (λ (w : Bool). option_map (reply_told w) r.own) (c.is_wanting-wanting.ensures ∙ ap (λ (v : NamedView). is_wanting terms.most v) c.names-names.ensures) in
    let given : (terms.lines.strict && is_name_lack (own_told terms old r)) ≡ false =
    sym (ap (λ (o : Option Reply). terms.lines.strict && is_name_lack o) own) ∙ sym c.is_stop.ensures ∙ c.if-is_stop.false in
    let there : is_no_lock terms.most old.named x (asked c.args.ask) ≡ false =
    lock_there terms old.named new.named c.args.client x c.text_of.result.now (asked c.args.ask) r c.names-names.result.now c.has_no_pool-listed.result c.is_no_lock.result c.text_of.ensures c.ask-done.ensures.answer c.names-names.ensures c.has_no_pool-listed.ensures c.is_no_lock.ensures c.if-is_no_lock.false in (
      lines_of_said (own_said c.args.client x (own_told terms old r) ++ grant_said x r.granted),
      cond terms.lines.noting (note_at r.ring old.named new.named x r) [],
      subst (λ (q : Bool). IsNameToldIf q terms c.args.client x (asked c.args.ask) old (lines_of_said (own_said c.args.client x (own_told terms old r) ++ grant_said x r.granted)) (cond terms.lines.noting (note_at r.ring old.named new.named x r) []) new) (sym there)
          (record { answers = r; done = done; given = given; says = refl; notes = refl; counted = c.ask-done.ensures.counted }),
    )
