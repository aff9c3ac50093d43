-- The next segments of rings, and the chain that they make.
use Rattle.std.proofs.Common.{◌≡◌, ℕ, ◌+◌, ◌<◌, List, [], ◌∷◌, ◌++◌, length, map, take, get_or, Option, refl, sym, ap, subst, ◌∙◌, arith}
use Rattle.std.specs.List.{AllByRecursion}
use Rattle.std.specs.Option.{option_map}
use Rattle.std.proofs.lemmas.Option.{slice_get_read, slice_get-map}
use Rattle.ring_model.specs.Bases.{IsBase}
use Rattle.std.proofs.lemmas.List.{take_more, map-append}
use Rattle.ring_model.specs.Ring.{Ring}
use Rattle.ring_model.specs.History.{State}
use Rattle.ring_model.specs.declared.bases.Base.{Base}
use Rattle.ring_model.specs.Chains.{Segment, IsChainFrom, chain_history, IsSurveyAfter}
use Rattle.ring_model.proofs.ChainHistories.{Stands, stands, replies_are_right}
use Rattle.ring_model.proofs.Seen.{front_size}
use Rattle.endless_ring.specs.Endless.{EndlessView, IsEndless}
use Rattle.endless_ring.specs.Endless as endless
use Rattle.endless_ring.proofs.Segments.{surveys_now_are_right}
use Rattle.endless_ring.proofs.Segments as ends
use Rattle.ring_service.specs.Standings.{Standing, standing_of, shifted_survey_now}
use Rattle.ring_service.specs.Turns.{answer_of}
use Rattle.ring_service.specs.declared.answers.Answer.TheVariants as answer
use Rattle.ring_service.specs.Segments.{segment_of, IsNext, AreNext, HasRoom, IsFull, EndsChain, ChainsGrow, AnswersAreOfChains, BlocksAreOfChains, SurveysAreOfChains}
use Rattle.ring_service.proofs.Making.{state_is}

-- ---- the next ones, ring by ring

pub next_is : (e n : EndlessView) → IsEndless e → endless.IsNextRing e n → IsNext (standing_of e) (standing_of n)
next_is e n k x = record { base = x.base; start = x.start ∙ ap (λ (s : State ℕ). s.ring) (sym (state_is e k)); history = x.history; clients = x.clients }

next_push : (rs ss : List Standing) (r s : Standing) → AreNext rs ss → IsNext r s → AreNext (rs ++ r ∷ []) (ss ++ s ∷ [])
next_push [] ss r s a i = subst (λ (x : List Standing). AreNext (r ∷ []) (x ++ s ∷ [])) (sym a) (i, refl)
next_push (x ∷ rs) [] r s a i = absurd a
next_push (x ∷ rs) (y ∷ ss) r s a i = (a.0, next_push rs ss r s a.1 i)

pub next_more : (rings : List EndlessView) (n : ℕ) (e : EndlessView) (ss ss' : List Standing) (s : Standing) → n < length rings → e ≡ get_or rings n e →
    AreNext (map standing_of (take n rings)) ss → IsNext (standing_of e) s → ss' ≡ ss ++ s ∷ [] → AreNext (map standing_of (take (n + 1) rings)) ss'
next_more rings n e ss ss' s l is a i grown =
    let more : map standing_of (take (n + 1) rings) ≡ map standing_of (take n rings) ++ standing_of e ∷ [] =
    ap (λ (x : List EndlessView). map standing_of x) (take_more rings n e l ∙ ap (λ (x : EndlessView). take n rings ++ x ∷ []) (sym is)) ∙ map-append standing_of (take n rings) (e ∷ []) in
    subst (λ (x : List Standing). AreNext (map standing_of (take (n + 1) rings)) x) (sym grown)
    (subst (λ (x : List Standing). AreNext x (ss ++ s ∷ [])) (sym more) (next_push (map standing_of (take n rings)) ss (standing_of e) s a i))

-- ---- room for them

room_push : (rs : List Standing) (r : Standing) → AllByRecursion HasRoom rs → HasRoom r → AllByRecursion HasRoom (rs ++ r ∷ [])
room_push [] r a h = (h, tt)
room_push (x ∷ rs) r a h = (a.0, room_push rs r a.1 h)

pub room_more : (rings : List EndlessView) (n : ℕ) (e : EndlessView) → n < length rings → e ≡ get_or rings n e → AllByRecursion HasRoom (map standing_of (take n rings)) → HasRoom (standing_of e) → AllByRecursion HasRoom (map standing_of (take (n + 1) rings))
room_more rings n e l is a h =
    let more : map standing_of (take (n + 1) rings) ≡ map standing_of (take n rings) ++ standing_of e ∷ [] =
    ap (λ (x : List EndlessView). map standing_of x) (take_more rings n e l ∙ ap (λ (x : EndlessView). take n rings ++ x ∷ []) (sym is)) ∙ map-append standing_of (take n rings) (e ∷ []) in
    subst (λ (x : List Standing). AllByRecursion HasRoom x) (sym more) (room_push (map standing_of (take n rings)) (standing_of e) a h)

-- the next one is there, so there was room for it
pub next_room : (e n : EndlessView) → endless.IsNextRing e n → IsEndless n → HasRoom (standing_of e)
next_room e n x k = subst IsBase x.base k.base

pub full_at : (rings : List EndlessView) (n : ℕ) (e : EndlessView) → n < length rings → e ≡ get_or rings n e → ¬ HasRoom (standing_of e) → IsFull (map standing_of rings)
full_at rings n e l is h =
    (n, standing_of e, slice_get-map standing_of rings n ∙ ap (λ (x : Option EndlessView). option_map standing_of x) (slice_get_read rings (length rings) n e refl l is), h)

-- ---- the chain

-- the same of a ring and of what contracts see of it
further : (b : Base) (r : Ring) (before : List Segment) (e n : EndlessView) → IsEndless e → IsEndless n → IsNext (standing_of e) (standing_of n) →
    IsChainFrom b r (before ++ segment_of (standing_of e) ∷ []) → IsChainFrom b r ((before ++ segment_of (standing_of e) ∷ []) ++ segment_of (standing_of n) ∷ [])
further b r before e n k j x c = ends.goes_further b r before e n k j (record { base = x.base; start = x.start ∙ ap (λ (s : State ℕ). s.ring) (state_is e k); history = x.history; clients = x.clients }) c

pub chains_grow : ChainsGrow
chains_grow b r before old new i j c x = (
  c.0,
  subst (λ (o : Standing). IsNext o new → IsChainFrom b r (before ++ segment_of o ∷ []) → IsChainFrom b r ((before ++ segment_of o ∷ []) ++ segment_of new ∷ [])) i.2
      (subst (λ (n : Standing). IsNext (standing_of i.0) n → IsChainFrom b r (before ++ segment_of (standing_of i.0) ∷ []) → IsChainFrom b r ((before ++ segment_of (standing_of i.0) ∷ []) ++ segment_of n ∷ [])) j.2
      (further b r before i.0 j.0 i.1 j.1)) x c.1,
)

pub answers_are_of_chains : AnswersAreOfChains
answers_are_of_chains b r before s ring seat o c = ap answer_of (replies_are_right b r before (segment_of s) o c.0 c.1)

pub blocks_are_of_chains : BlocksAreOfChains
blocks_are_of_chains b r before s ring seat order machines c =
    let at : Stands b r before (segment_of s) = stands b r before (segment_of s) [] c.0 c.1 in
    let size : length (chain_history (before ++ segment_of s ∷ [])) ≡ length (chain_history before) + length s.history = front_size before (segment_of s) in
    let counted : s.base.events ≡ b.events + length (chain_history before) = at.events in
    let first : s.base.events + length s.history ≡ b.events + length (chain_history (before ++ segment_of s ∷ [])) = omega (arith, size, counted) in
    ap (λ (n : ℕ). answer.Block n (length machines)) first

pub surveys_are_of_chains : SurveysAreOfChains
surveys_are_of_chains b r before s i c =
    subst (λ (x : Standing). EndsChain b r before x → IsSurveyAfter b r (chain_history (before ++ segment_of x ∷ [])) (shifted_survey_now x)) i.2
    (λ d. surveys_now_are_right b r before i.0 d.0 i.1 d.1) c
