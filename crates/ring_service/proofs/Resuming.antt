-- A ring more that resumes.
use Rattle.std.proofs.Common.{◌≡◌, ℕ, suc, ◌+◌, ◌<◌, List, [], ◌∷◌, ◌++◌, length, take, get_or, Some, refl, sym, ap, subst, arith, ◌∙◌}
use Rattle.std.proofs.lemmas.List.{take_more, length-take-le}
use Rattle.std.proofs.lemmas.Option.{slice_get-get_or}
use Rattle.ring_model.specs.Limits.{event_limit}
use Rattle.saved_history.specs.declared.saved.SavedRing.{SavedRing}
use Rattle.ring_service.specs.Standings.{Standing}
use Rattle.ring_model.specs.declared.bases.Base.{Base}
use Rattle.ring_service.specs.Starting.{IsResumed, AreResumed, IsResumedAfter, AreResumedAfter, IsStartFault}
use Rattle.ring_service.specs.declared.starting.StartError.{StartError}
use Rattle.ring_service.specs.declared.starting.StartError.TheVariants as start

resumed_push : (rs : List Standing) (saved : List SavedRing) (r : Standing) (s : SavedRing) → AreResumed rs saved → IsResumed r s → AreResumed (rs ++ r ∷ []) (saved ++ s ∷ [])
resumed_push [] saved r s a i = subst (λ (x : List SavedRing). AreResumed (r ∷ []) (x ++ s ∷ [])) (sym a) (i, refl)
resumed_push (x ∷ rs) [] r s a i = absurd a
resumed_push (x ∷ rs) (y ∷ saved) r s a i = (a.0, resumed_push rs saved r s a.1 i)

pub resumed_more : (rs rs' : List Standing) (saved : List SavedRing) (n : ℕ) (r : Standing) (s : SavedRing) → n < length saved → s ≡ get_or saved n s → AreResumed rs (take n saved) → IsResumed r s → rs' ≡ rs ++ r ∷ [] → AreResumed rs' (take (n + 1) saved)
resumed_more rs rs' saved n r s l e a i grown =
    let more : take n saved ++ s ∷ [] ≡ take (n + 1) saved = ap (λ (x : SavedRing). take n saved ++ x ∷ []) e ∙ sym (take_more saved n s l) in
    subst (λ (x : List Standing). AreResumed x (take (n + 1) saved)) (sym grown) (subst (λ (x : List SavedRing). AreResumed (rs ++ r ∷ []) x) more (resumed_push rs (take n saved) r s a i))

as_many : (bs : List Base) (rs : List Standing) (saved : List SavedRing) → AreResumedAfter bs rs saved → length rs ≡ length saved
as_many bs [] saved a = sym (ap (λ (x : List SavedRing). length x) a)
as_many [] (r ∷ rs) [] a = absurd a
as_many (b ∷ bs) (r ∷ rs) [] a = absurd a
as_many [] (r ∷ rs) (s ∷ saved) a = absurd a
as_many (b ∷ bs) (r ∷ rs) (s ∷ saved) a = ap suc (as_many bs rs saved a.1)

after_push : (bs : List Base) (rs : List Standing) (saved : List SavedRing) (b : Base) (r : Standing) (s : SavedRing) → AreResumedAfter bs rs saved → length rs < length bs → b ≡ get_or bs (length rs) b → IsResumedAfter b r s → AreResumedAfter bs (rs ++ r ∷ []) (saved ++ s ∷ [])
after_push [] [] saved b r s a l e i = absurd (omega (arith, l))
after_push (x ∷ bs) [] saved b r s a l e i =
    subst (λ (y : List SavedRing). AreResumedAfter (x ∷ bs) (r ∷ []) (y ++ s ∷ [])) (sym a) (subst (λ (y : Base). IsResumedAfter y r s) e i, refl)
after_push [] (y ∷ rs) saved b r s a l e i = absurd (omega (arith, l))
after_push (x ∷ bs) (y ∷ rs) [] b r s a l e i = absurd a
after_push (x ∷ bs) (y ∷ rs) (z ∷ saved) b r s a l e i = (a.0, after_push bs rs saved b r s a.1 (omega (arith, l)) e i)

pub segments_more : (bs : List Base) (rs rs' : List Standing) (saved : List SavedRing) (n : ℕ) (b : Base) (r : Standing) (s : SavedRing) → n < length saved → length bs ≡ length saved → s ≡ get_or saved n s → b ≡ get_or bs n b → AreResumedAfter bs rs (take n saved) → IsResumedAfter b r s → rs' ≡ rs ++ r ∷ [] → AreResumedAfter bs rs' (take (n + 1) saved)
segments_more bs rs rs' saved n b r s l many e eb a i grown =
    let more : take n saved ++ s ∷ [] ≡ take (n + 1) saved = ap (λ (x : SavedRing). take n saved ++ x ∷ []) e ∙ sym (take_more saved n s l) in
    let at : length rs ≡ n = as_many bs rs (take n saved) a ∙ length-take-le n saved (omega (arith, l)) in
    let within : length rs < length bs = subst (λ (m : ℕ). m < length bs) (sym at) (subst (λ (m : ℕ). n < m) (sym many) l) in
    let found : b ≡ get_or bs (length rs) b = eb ∙ ap (λ (m : ℕ). get_or bs m b) (sym at) in
    subst (λ (x : List Standing). AreResumedAfter bs x (take (n + 1) saved)) (sym grown) (subst (λ (x : List SavedRing). AreResumedAfter bs (rs ++ r ∷ []) x) more (after_push bs rs (take n saved) b r s a within found i))

-- why a ring does not resume is why they all do not
pub start_fault : (rings : List SavedRing) (n : ℕ) (ring : SavedRing) (e : StartError) → n < length rings → ring ≡ get_or rings n ring → ((m : ℕ) → e ≡ start.Full m → (m ≡ n) × (event_limit < length ring.events.items)) → IsStartFault rings e
start_fault rings n ring (start.Full m) l at full =
    (n, ring, slice_get-get_or rings n ring l ∙ ap (λ (x : SavedRing). Some x) (sym at), (full m refl).0, (full m refl).1)
start_fault rings n ring start.OutOfMemory l at full = tt
