-- The first study that is refused.
use Rattle.std.proofs.Common.{◌≡◌, ℕ, ◌+◌, ◌<◌, ◌≤◌, List, [], ◌∷◌, ◌++◌, length, map, take, drop, get_or, sym, ◌∙◌, ap, subst, arith}
use Rattle.std.specs.List.{All}
use Rattle.std.proofs.lemmas.List.Elements.{All-push}
use Rattle.std.proofs.lemmas.List.{take-append-drop, take_more, drop_more, take_all, map-append, length-take, length-map}
use Rattle.ring_repairs.specs.Studies.{StudyData, IsStudy}
use Rattle.tool_parts.specs.declared.requests.RingSize.{RingSize}
use Rattle.tool_parts.specs.declared.faults.ToolError.TheVariants as tool
use Rattle.repair_requests.specs.declared.words.RepairsWords.{RepairsWords}
use Rattle.repair_requests.specs.declared.refusals.Refusal.{Refusal}
use Rattle.repair_requests.specs.declared.refusals.Refusal.TheVariants as refusal
use Rattle.repair_commands.specs.Wanted.{studies_given, IsStudyRefusal, IsFirstRefused, IsWordsRefusal}

-- the studies of the first sizes
pub record Made (f : RingSize → StudyData) (sizes : List RingSize) (i : ℕ) (studies : List StudyData) : Type 0 where
  pub are : studies ≡ map f (take i sizes)
  pub all : All IsStudy (map f (take i sizes))

map_more : (f : RingSize → StudyData) (sizes : List RingSize) (i : ℕ) (d : RingSize) → i < length sizes →
    map f (take (i + 1) sizes) ≡ map f (take i sizes) ++ f (get_or sizes i d) ∷ []
map_more f sizes i d l =
    ap (λ (x : List RingSize). map f x) (take_more sizes i d l) ∙ map-append f (take i sizes) (get_or sizes i d ∷ [])

pub none_made : (f : RingSize → StudyData) (sizes : List RingSize) (studies : List StudyData) → studies ≡ [] → Made f sizes 0 studies
none_made f sizes studies e = record { are = e; all = λ k d l. absurd (omega arith) }

made_next : (f : RingSize → StudyData) (sizes : List RingSize) (i : ℕ) (d : RingSize) (s : StudyData) (studies studies' : List StudyData) →
    i < length sizes → Made f sizes i studies → s ≡ f (get_or sizes i d) → IsStudy (f (get_or sizes i d)) → studies' ≡ studies ++ s ∷ [] →
    Made f sizes (i + 1) studies'
made_next f sizes i d s studies studies' l inv is ok new =
    let step = map_more f sizes i d l in
    record {
      are =
          new ∙ ap (λ (x : StudyData). studies ++ x ∷ []) is ∙ ap (λ (x : List StudyData). x ++ f (get_or sizes i d) ∷ []) inv.are ∙ sym step;
      all =
          subst (λ (x : List StudyData). All IsStudy x) (sym step)
          (All-push IsStudy (map f (take i sizes)) (f (get_or sizes i d)) inv.all ok);
    }

-- of the same sizes in another list
pub one_made : (f : RingSize → StudyData) (ys sizes : List RingSize) (i : ℕ) (d : RingSize) (s : StudyData) (studies studies' : List StudyData) →
    ys ≡ sizes → i < length ys → Made f sizes i studies → s ≡ f (get_or ys i d) → IsStudy (f (get_or ys i d)) → studies' ≡ studies ++ s ∷ [] →
    Made f sizes (i + 1) studies'
one_made f ys sizes i d s studies studies' same l inv is ok new =
    made_next f sizes i d s studies studies' (subst (λ (x : List RingSize). i < length x) same l) inv
    (subst (λ (x : List RingSize). s ≡ f (get_or x i d)) same is) (subst (λ (x : List RingSize). IsStudy (f (get_or x i d))) same ok) new

pub all_made : (f : RingSize → StudyData) (sizes : List RingSize) (i : ℕ) (studies : List StudyData) → length sizes ≤ i → Made f sizes i studies →
    (studies ≡ map f sizes) × All IsStudy (map f sizes)
all_made f sizes i studies l inv =
    let whole = take_all i sizes l in
    (inv.are ∙ ap (λ (x : List RingSize). map f x) whole, subst (λ (x : List RingSize). All IsStudy (map f x)) whole inv.all)

refused_at : (f : RingSize → StudyData) (sizes : List RingSize) (i : ℕ) (d : RingSize) (studies : List StudyData) (e : Refusal) →
    i < length sizes → Made f sizes i studies → IsStudyRefusal i (f (get_or sizes i d)) e → IsFirstRefused (map f sizes) e
refused_at f sizes i d studies e l inv h =
    let size : RingSize = get_or sizes i d in
    let split : sizes ≡ take i sizes ++ size ∷ drop (i + 1) sizes =
    sym (take-append-drop i sizes) ∙ ap (λ (x : List RingSize). take i sizes ++ x) (drop_more sizes i d l) in
    let long : length (map f (take i sizes)) ≡ i = simp (length-map, length-take) (omega arith) in (
      map f (take i sizes),
      f size,
      map f (drop (i + 1) sizes),
      ap (λ (x : List RingSize). map f x) split ∙ map-append f (take i sizes) (size ∷ drop (i + 1) sizes),
      inv.all,
      subst (λ (x : ℕ). IsStudyRefusal x (f size) e) (sym long) h,
    )

pub first_refused : (f : RingSize → StudyData) (ys sizes : List RingSize) (i : ℕ) (d : RingSize) (studies : List StudyData) (e : Refusal) →
    ys ≡ sizes → i < length ys → Made f sizes i studies → IsStudyRefusal i (f (get_or ys i d)) e → IsFirstRefused (map f sizes) e
first_refused f ys sizes i d studies e same l inv h =
    refused_at f sizes i d studies e (subst (λ (x : List RingSize). i < length x) same l) inv
    (subst (λ (x : List RingSize). IsStudyRefusal i (f (get_or x i d)) e) same h)

-- a refusal of a study is one of the words
pub words_refused : (words : RepairsWords) (e : Refusal) → IsFirstRefused (studies_given words) e → IsWordsRefusal words e
words_refused words (refusal.Tool (tool.NoRing p)) f = absurd f.5
words_refused words (refusal.Tool tool.OutOfMemory) f = tt
words_refused words e f = f
