-- An answered call is in the history of the chain.
use Rattle.std.proofs.Common.{◌≡◌, ℕ, ◌+◌, List, [], ◌∷◌, ◌++◌, length, length-append, map, sym, ap, ◌∙◌, append_assoc, arith}
use Rattle.std.proofs.lemmas.List.{map-append, length-map}
use Rattle.ring_model.specs.declared.events.Event.{Event}
use Rattle.ring_model.specs.declared.bases.Base.{Base}
use Rattle.ring_model.specs.Bases.{shifted, shifted_event}
use Rattle.ring_model.specs.Chains.{chain_history}
use Rattle.ring_model.proofs.ChainHistories.{Stands, stands, history_append}
use Rattle.ring_service.specs.declared.answers.Answer.{Answer}
use Rattle.ring_service.specs.declared.answers.Answer.TheVariants as answer
use Rattle.ring_service.specs.Standings.{Standing}
use Rattle.ring_service.specs.Segments.{segment_of}
use Rattle.ring_service.specs.Recovered.{IsAnswerTo}
use Rattle.ring_service.specs.InChains.{IsReplyAt, CallsAreInChains}

one_shifted : (b : Base) (es : List Event) (e : Event) → es ≡ e ∷ [] → shifted b es ≡ shifted_event b e ∷ []
one_shifted b es e s = ap (λ (x : List Event). shifted b x) s

many_shifted : (b : Base) (es : List Event) → length (shifted b es) ≡ length es
many_shifted b es = length-map es (λ (e : Event). shifted_event b e)

told_shifted : (was : Standing) (es : List Event) (position : ℕ) (given : Answer) → was.base.events + length was.history ≡ position → IsAnswerTo was es given → IsReplyAt position (shifted was.base es) given
told_shifted was es position (answer.Block first count) p t = (t.0 ∙ p, t.1 ∙ sym (many_shifted was.base es))
told_shifted was es position (answer.Granted number result) p t = (shifted_event was.base t.0, one_shifted was.base es t.0 t.1, t.2)
told_shifted was es position answer.Waits p t = (shifted_event was.base t.0, one_shifted was.base es t.0 t.1, t.2)
told_shifted was es position (answer.Corrupted old) p t = (shifted_event was.base t.0, one_shifted was.base es t.0 t.1, t.2)
told_shifted was es position (answer.Survey s) p t = (shifted_event was.base t.0, one_shifted was.base es t.0 t.1, t.2)
told_shifted was es position answer.Saved p t = (shifted_event was.base t.0, one_shifted was.base es t.0 t.1, t.2)
told_shifted was es position (answer.Refused why) p t = (shifted_event was.base t.0, one_shifted was.base es t.0 t.1, t.2)

-- the parts of a segment's events, shifted
parts_shifted : (b : Base) (xs ys zs h : List Event) → h ≡ (xs ++ ys) ++ zs → shifted b h ≡ shifted b xs ++ (shifted b ys ++ shifted b zs)
parts_shifted b xs ys zs h e =
    let f : Event → Event = λ e. shifted_event b e in
    ap (λ (x : List Event). map f x) e
    ∙ (map-append f (xs ++ ys) zs ∙ (ap (λ (x : List Event). x ++ map f zs) (map-append f xs ys) ∙ append_assoc (map f xs) (map f ys) (map f zs)))

-- a piece of a text that is in the middle
nested : (a x y z m : List Event) → a ++ ((x ++ (y ++ z)) ++ m) ≡ (a ++ x) ++ (y ++ (z ++ m))
nested a x y z m =
    ap (λ (u : List Event). a ++ u) (append_assoc x (y ++ z) m ∙ ap (λ (u : List Event). x ++ u) (append_assoc y z m))
    ∙ sym (append_assoc a x (y ++ (z ++ m)))

pub calls_are_in_chains : CallsAreInChains
calls_are_in_chains b r before more old rings ring es given has amount chain =
    let was : Standing = has.was in
    let is : Standing = has.is in
    let later : List Event = has.grown.history.0 in
    let same : is.base ≡ was.base = has.grown.base in
    let at : Stands b r before (segment_of is) = stands b r before (segment_of is) more amount chain in
    let counted : is.base.events ≡ b.events + length (chain_history before) = at.events in
    let cut : shifted is.base is.history ≡ shifted was.base was.history ++ (shifted was.base es ++ shifted was.base later) =
    ap (λ (x : Base). shifted x is.history) same ∙ parts_shifted was.base was.history es later is.history has.grown.history.1 in
    let front : List Event = chain_history before ++ shifted was.base was.history in
    let long : length front ≡ length (chain_history before) + length was.history =
    length-append (chain_history before) (shifted was.base was.history) ∙ ap (λ (n : ℕ). length (chain_history before) + n) (many_shifted was.base was.history) in
    let first : was.base.events ≡ is.base.events = ap (λ (x : Base). x.events) (sym same) in
    record {
      front = front;
      back = shifted was.base later ++ chain_history more;
      parts =
          history_append before (segment_of is ∷ more)
          ∙ (ap (λ (x : List Event). chain_history before ++ (x ++ chain_history more)) cut
          ∙ nested (chain_history before) (shifted was.base was.history) (shifted was.base es) (shifted was.base later) (chain_history more));
      told = told_shifted was es (b.events + length front) given (omega (arith, first, counted, long)) has.told;
    }
