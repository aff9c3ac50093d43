-- A ring with its clients after a call.
use Rattle.std.proofs.Common.{◌≡◌, ℕ, ◌+◌, ◌-◌, ◌<◌, ◌≤◌, List, [], ◌∷◌, ◌++◌, length, length-append, get_or, take, drop, subst, ap, sym, ◌∙◌, refl, arith, inl, inr, get_or-set_same, get_or-set_other}
use Rattle.std.proofs.lemmas.Bool.{cases_eq, cases_lt}
use Rattle.std.proofs.lemmas.List.{length-map, length-set, get_or-map, get_or_append_left, get_or-append_right, take_all}
use Rattle.std.proofs.lemmas.List.Elements.{All-append, All-cons}
use Rattle.ring_model.specs.Ring.{Ring}
use Rattle.ring_model.specs.Limits.{seat_limit}
use Rattle.ring_model.specs.History.{Works, opening}
use Rattle.ring_model.specs.Groups.{move_order, AreMembers, left_after}
use Rattle.ring_model.specs.Logs.{Fits}
use Rattle.ring_model.specs.Surveys.{survey_at}
use Rattle.ring_model.specs.declared.events.Event.{Event}
use Rattle.ring_model.specs.declared.events.Survey.{Survey}
use Rattle.ring_model.specs.declared.events.Receipt.{Receipt}
use Rattle.ring_model.specs.declared.events.Op.{Op}
use Rattle.ring_model.specs.declared.events.Entry.{Entry}
use Rattle.ring_model.specs.declared.events.Entry.TheVariants as entry
use Rattle.ring_model.proofs.Wholes.{whole_left}
use Rattle.ring_book.specs.BookView.{BookView, IsBook, IsFresh, IsRecorded}
use Rattle.ring_book.specs.GroupView.{IsGroupRecorded}
use Rattle.ring_book.specs.declared.books.groups.GroupReceipt.{GroupReceipt}
use Rattle.ring_logs.specs.LogView.{LogView}
use Rattle.ring_logs.specs.Seats.{receipts_from}
use Rattle.ring_logs.specs.Seats.{AreOfSeats}
use Rattle.ring_logs.proofs.Groups.{group_events}
use Rattle.one_thread_ring.specs.Clients.{ClientView, told_of, told_all, with_survey_at, StandInOrder, AllStandInOrder, AreNew}
use Rattle.one_thread_ring.specs.Rings.{IsClient, IsOneThreadRing, IsKeptBy, grown, told_more, AreFresh}
use Rattle.one_thread_ring.proofs.Growing.{AreOf, own_fits, other_fits, survey_fits}
use Rattle.one_thread_ring.proofs.Telling.{AreNumbered, told_grown, told_surveyed, order_surveyed, all_longer}

of_seats_all : (n seat : ℕ) (es : List Event) → seat < n → AreOf seat es → AreOfSeats n es
of_seats_all n seat [] l o = λ k d m. absurd (omega arith)
of_seats_all n seat (e ∷ es) l o = All-cons (λ (x : Event). x.seat < n) e es (subst (λ (k : ℕ). k < n) (sym o.0) l) (of_seats_all n seat es l o.1)

-- one client at its place, before and after
each_client : {C : Type 0} (w : Works C) (first : C) (b b' : BookView C) (cs : List LogView) (seat : ℕ) (es : List Event) (log : List Entry) →
    seat < length cs → AreOf seat es → b'.start ≡ b.start → b'.history ≡ b.history ++ es → log ≡ receipts_from (length b.history) es →
    ((i : ℕ) (c : LogView) → i < length cs → IsClient w first b i (get_or cs i c)) →
    (i : ℕ) (c : LogView) → i < length (told_more cs seat log) → IsClient w first b' i (get_or (told_more cs seat log) i c)
each_client w first b b' cs seat es log within o start grew is each i c l =
    let nobody : LogView = record { number = seat; log = [] } in
    let size : length (told_more cs seat log) ≡ length cs = length-set cs seat (grown (get_or cs seat nobody) log) in
    let l' : i < length cs = omega (arith, size) in
    elim (cases_eq i seat) [
      | inl same ↦
          let was : IsClient w first b seat (get_or cs seat nobody) = each seat nobody within in
          let there : get_or (told_more cs seat log) i c ≡ grown (get_or cs seat nobody) log =
          ap (λ (k : ℕ). get_or (told_more cs seat log) k c) same ∙ get_or-set_same cs seat (grown (get_or cs seat nobody) log) c within in
          let fits : Fits w (opening b'.start first) b'.history seat ((get_or cs seat nobody).log ++ log) =
          subst (λ (r : Ring). Fits w (opening r first) b'.history seat ((get_or cs seat nobody).log ++ log)) (sym start)
          (subst (λ (h : List Event). Fits w (opening b.start first) h seat ((get_or cs seat nobody).log ++ log)) (sym grew)
          (subst (λ (t : List Entry). Fits w (opening b.start first) (b.history ++ es) seat ((get_or cs seat nobody).log ++ t)) (sym is)
          (own_fits w (opening b.start first) b.history es seat (get_or cs seat nobody).log o was.fits))) in
          subst (λ (x : LogView). IsClient w first b' i x) (sym there)
          (subst (λ (k : ℕ). IsClient w first b' k (grown (get_or cs seat nobody) log)) (sym same) (record { number = was.number; fits = fits }))
      | inr ne ↦
          let was : IsClient w first b i (get_or cs i c) = each i c l' in
          let there : get_or (told_more cs seat log) i c ≡ get_or cs i c = get_or-set_other cs seat i (grown (get_or cs seat nobody) log) c ne in
          let fits : Fits w (opening b'.start first) b'.history i (get_or cs i c).log =
          subst (λ (r : Ring). Fits w (opening r first) b'.history i (get_or cs i c).log) (sym start)
          (subst (λ (h : List Event). Fits w (opening b.start first) h i (get_or cs i c).log) (sym grew)
          (other_fits w (opening b.start first) b.history es seat i (get_or cs i c).log ne o was.fits)) in
          subst (λ (x : LogView). IsClient w first b' i x) (sym there) (record { number = was.number; fits = fits })
    ]

-- a ring whose history grew by events of one seat, which has their receipts
grew_ring : {C : Type 0} (w : Works C) (first : C) (b b' : BookView C) (cs : List LogView) (seat : ℕ) (es : List Event) (log : List Entry) →
    IsOneThreadRing w first (record { book = b; clients = cs }) → IsBook w first b' → seat < length cs → AreOf seat es → b'.start ≡ b.start → b'.history ≡ b.history ++ es → log ≡ receipts_from (length b.history) es →
    IsOneThreadRing w first (record { book = b'; clients = told_more cs seat log })
grew_ring w first b b' cs seat es log d book within o start grew is =
    let nobody : LogView = record { number = seat; log = [] } in
    let size : length (told_more cs seat log) ≡ length cs = length-set cs seat (grown (get_or cs seat nobody) log) in
    record {
      book = book;
      few = subst (λ (n : ℕ). n ≤ seat_limit) (sym size) d.few;
      of_seats = subst (λ (n : ℕ). AreOfSeats n b'.history) (sym size)
          (subst (λ (h : List Event). AreOfSeats (length cs) h) (sym grew)
          (All-append (λ (e : Event). e.seat < length cs) b.history es d.of_seats (of_seats_all (length cs) seat es within o)));
      each = each_client w first b b' cs seat es log within o start grew is d.each;
    }

-- after a call
pub called_ring : {C : Type 0} (w : Works C) (first : C) (b b' : BookView C) (cs : List LogView) (seat : ℕ) (op : Op) (r : Receipt) →
    IsOneThreadRing w first (record { book = b; clients = cs }) → IsBook w first b' → seat < length cs → IsRecorded w b b' seat op r →
    IsOneThreadRing w first (record { book = b'; clients = told_more cs seat (entry.Receipt r ∷ []) })
called_ring w first b b' cs seat op r d book within rec =
    grew_ring w first b b' cs seat (r.event ∷ []) (entry.Receipt r ∷ []) d book within (rec.of_seat, tt) rec.same_start rec.grown
    (ap (λ (n : ℕ). entry.Receipt (record { position = n; event = r.event }) ∷ []) rec.position)

members_are : (seat order : ℕ) (ms : List ℕ) (es : List Event) → AreMembers seat order ms es → AreOf seat es
members_are seat order [] es m = subst (λ (x : List Event). AreOf seat x) (sym m) tt
members_are seat order (k ∷ ms) [] m = absurd m
members_are seat order (k ∷ ms) (e ∷ es) m = (m.0, members_are seat order ms es m.2)

-- after a group
pub grouped_ring : {C : Type 0} (w : Works C) (first : C) (b b' : BookView C) (cs : List LogView) (seat order : ℕ) (machines : List ℕ) (r : GroupReceipt) →
    IsOneThreadRing w first (record { book = b; clients = cs }) → IsBook w first b' → seat < length cs → IsGroupRecorded w b b' seat order machines r →
    IsOneThreadRing w first (record { book = b'; clients = told_more cs seat (receipts_from r.first (drop r.first b'.history)) })
grouped_ring w first b b' cs seat order machines r d book within g =
    let cut : drop r.first b'.history ≡ g.moved.events = group_events w b b' seat order machines r g in
    grew_ring w first b b' cs seat g.moved.events (receipts_from r.first (drop r.first b'.history)) d book within
    (members_are seat order (move_order machines) g.moved.events g.moved.block.members) g.moved.same_start g.moved.grown
    (ap (λ (es : List Event). receipts_from r.first es) cut ∙ ap (λ (n : ℕ). receipts_from n g.moved.events) g.first)

-- after a survey
pub surveyed_ring : {C : Type 0} (w : Works C) (first : C) (b : BookView C) (cs : List LogView) (seat : ℕ) (s : Survey) →
    IsOneThreadRing w first (record { book = b; clients = cs }) → seat < length cs → s ≡ survey_at w (opening b.start first) b.history (length b.history) →
    IsOneThreadRing w first (record { book = b; clients = told_more cs seat (entry.Survey s ∷ []) })
surveyed_ring w first b cs seat s d within is =
    let nobody : LogView = record { number = seat; log = [] } in
    let log : List Entry = entry.Survey s ∷ [] in
    let size : length (told_more cs seat log) ≡ length cs = length-set cs seat (grown (get_or cs seat nobody) log) in
    let whole : take (length b.history) b.history ≡ b.history = take_all (length b.history) b.history (omega arith) in
    let none : left_after (take (length b.history) b.history) ≡ 0 = ap (λ (h : List Event). left_after h) whole ∙ whole_left (length b.start.values) b.history d.book.whole in
    record {
      book = d.book;
      few = subst (λ (n : ℕ). n ≤ seat_limit) (sym size) d.few;
      of_seats = subst (λ (n : ℕ). AreOfSeats n b.history) (sym size) d.of_seats;
      each = λ i c l. elim (cases_eq i seat) [
        | inl same ↦
            let was : IsClient w first b seat (get_or cs seat nobody) = d.each seat nobody within in
            let there : get_or (told_more cs seat log) i c ≡ grown (get_or cs seat nobody) log =
            ap (λ (k : ℕ). get_or (told_more cs seat log) k c) same ∙ get_or-set_same cs seat (grown (get_or cs seat nobody) log) c within in
            subst (λ (x : LogView). IsClient w first b i x) (sym there)
            (subst (λ (k : ℕ). IsClient w first b k (grown (get_or cs seat nobody) log)) (sym same)
            (record { number = was.number; fits = survey_fits w (opening b.start first) b.history seat (get_or cs seat nobody).log s is none was.fits }))
        | inr ne ↦
            let there : get_or (told_more cs seat log) i c ≡ get_or cs i c = get_or-set_other cs seat i (grown (get_or cs seat nobody) log) c ne in
            subst (λ (x : LogView). IsClient w first b i x) (sym there) (d.each i c (omega (arith, size)))
      ];
    }

-- a client more with an empty log
pub new_more : (n : ℕ) (cs : List ClientView) → AreNew n cs → AreNew (n + 1) (cs ++ record { number = n; surveys = [] } ∷ [])
new_more n cs f =
    let count = f.0 in
    let one : List ClientView = record { number = n; surveys = [] } ∷ [] in (
      omega (arith, length-append cs one),
      λ i c l. elim (cases_lt i n) [
        | inl lt ↦ get_or_append_left cs one c i (omega arith) ∙ f.1 i c lt
        | inr ge ↦
            let same : i ≡ n = omega arith in
            let nothing : n - n ≡ 0 = omega arith in
            subst (λ (k : ℕ). get_or (cs ++ one) k c ≡ record { number = k; surveys = [] }) (sym same)
            (get_or-append_right cs one n n c count (omega arith) ∙ ap (λ (k : ℕ). get_or one k c) nothing)
      ],
    )

-- clients with no surveys have empty logs while there is no history
pub new_fresh : (n : ℕ) (h : List Event) (cs : List ClientView) → h ≡ [] → AreNew n cs → AreFresh n (told_all h cs)
new_fresh n h cs none f = (
  length-map cs (told_of h) ∙ f.0,
  λ i c l.
      let count = f.0 in
      let nobody : ClientView = record { number = i; surveys = [] } in
      get_or-map (told_of h) cs i nobody c (omega (arith, l, count))
      ∙ (ap (told_of h) (f.1 i nobody l) ∙ ap (λ (h : List Event). told_of h nobody) none),
)

new_in_order : (n end : ℕ) (cs : List ClientView) → AreNew n cs → AllStandInOrder end cs
new_in_order n end cs f = λ k d l.
    let count = f.0 in
    subst (λ (c : ClientView). StandInOrder 0 end c.surveys) (sym (f.1 k d (omega (arith, l, count)))) (omega arith)

-- a ring that is opened
pub fresh_ring : {C : Type 0} (w : Works C) (first : C) (start : Ring) (b : BookView C) (cs : List LogView) (seats : ℕ) → seats ≤ seat_limit → IsBook w first b → IsFresh start first b → AreFresh seats cs →
    IsOneThreadRing w first (record { book = b; clients = cs })
fresh_ring w first start b cs seats most book fresh f =
    let count = f.0 in
    let none : b.history ≡ [] = fresh.2 in
    record {
      book = book;
      few = omega arith;
      of_seats = subst (λ (h : List Event). AreOfSeats (length cs) h) (sym none) (λ k d l. absurd (omega arith));
      each = λ i c l.
          let is : get_or cs i c ≡ record { number = i; log = [] } = f.1 i c (omega arith) in
          subst (λ (x : LogView). IsClient w first b i x) (sym is)
          (record { number = refl; fits = subst (λ (h : List Event). Fits w (opening b.start first) h i []) (sym none) (record { calls = refl; entries = tt }) });
    }

-- ---- a ring that is kept by its clients

pub numbered : {C : Type 0} (w : Works C) (first : C) (b : BookView C) (cs : List ClientView) → IsKeptBy w first b cs → AreNumbered cs
numbered w first b cs k i c l =
    let nobody : LogView = record { number = i; log = [] } in
    let there : get_or (told_all b.history cs) i nobody ≡ told_of b.history (get_or cs i c) = get_or-map (told_of b.history) cs i c nobody l in
    sym (ap (λ (t : LogView). t.number) there) ∙ (k.ring.each i nobody (subst (λ (n : ℕ). i < n) (sym (length-map cs (told_of b.history))) l)).number

module _ {C : Type 0} (w : Works C) (first : C) (b b' : BookView C) (cs : List ClientView) (seat : ℕ) (es : List Event) (log : List Entry)
    (k : IsKeptBy w first b cs) (book : IsBook w first b') (within : seat < length cs) (of : AreOf seat es)
    (start : b'.start ≡ b.start) (grew : b'.history ≡ b.history ++ es) (is : log ≡ receipts_from (length b.history) es) where
  grew_told : told_all b'.history cs ≡ told_more (told_all b.history cs) seat log
  grew_told =
      ap (λ (h : List Event). told_all h cs) grew ∙ (told_grown b.history es cs seat (numbered w first b cs k) within of k.in_order
      ∙ ap (λ (more : List Entry). told_more (told_all b.history cs) seat more) (sym is))

  grew_kept : IsKeptBy w first b' cs
  grew_kept =
      let long : length b'.history ≡ length b.history + length es = ap length grew ∙ length-append b.history es in
      let inside : seat < length (told_all b.history cs) = subst (λ (n : ℕ). seat < n) (sym (length-map cs (told_of b.history))) within in
      record {
        ring = subst (λ (ts : List LogView). IsOneThreadRing w first (record { book = b'; clients = ts })) (sym grew_told)
            (grew_ring w first b b' (told_all b.history cs) seat es log k.ring book inside of start grew is);
        in_order = all_longer (length b.history) (length b'.history) cs (omega (arith, long)) k.in_order;
      }

-- after a call
module _ {C : Type 0} (w : Works C) (first : C) (b b' : BookView C) (cs : List ClientView) (seat : ℕ) (op : Op) (r : Receipt)
    (k : IsKeptBy w first b cs) (book : IsBook w first b') (within : seat < length cs) (rec : IsRecorded w b b' seat op r) where
  receipt_is : entry.Receipt r ∷ [] ≡ receipts_from (length b.history) (r.event ∷ [])
  receipt_is = ap (λ (n : ℕ). entry.Receipt (record { position = n; event = r.event }) ∷ []) rec.position

  pub called_told : told_all b'.history cs ≡ told_more (told_all b.history cs) seat (entry.Receipt r ∷ [])
  called_told = grew_told w first b b' cs seat (r.event ∷ []) (entry.Receipt r ∷ []) k book within (rec.of_seat, tt) rec.same_start rec.grown receipt_is

  pub called_kept : IsKeptBy w first b' cs
  called_kept = grew_kept w first b b' cs seat (r.event ∷ []) (entry.Receipt r ∷ []) k book within (rec.of_seat, tt) rec.same_start rec.grown receipt_is

-- after a group
module _ {C : Type 0} (w : Works C) (first : C) (b b' : BookView C) (cs : List ClientView) (seat order : ℕ) (machines : List ℕ) (r : GroupReceipt)
    (k : IsKeptBy w first b cs) (book : IsBook w first b') (within : seat < length cs) (g : IsGroupRecorded w b b' seat order machines r) where
  abbrev block : List Entry
  block = receipts_from r.first (drop r.first b'.history)

  block_is : block ≡ receipts_from (length b.history) g.moved.events
  block_is = ap (λ (es : List Event). receipts_from r.first es) (group_events w b b' seat order machines r g) ∙ ap (λ (n : ℕ). receipts_from n g.moved.events) g.first

  by_seat : AreOf seat g.moved.events
  by_seat = members_are seat order (move_order machines) g.moved.events g.moved.block.members

  pub grouped_told : told_all b'.history cs ≡ told_more (told_all b.history cs) seat block
  grouped_told = grew_told w first b b' cs seat g.moved.events block k book within by_seat g.moved.same_start g.moved.grown block_is

  pub grouped_kept : IsKeptBy w first b' cs
  grouped_kept = grew_kept w first b b' cs seat g.moved.events block k book within by_seat g.moved.same_start g.moved.grown block_is

-- after a survey
module _ {C : Type 0} (w : Works C) (first : C) (b : BookView C) (cs : List ClientView) (seat : ℕ) (s : Survey)
    (k : IsKeptBy w first b cs) (within : seat < length cs) (is : s ≡ survey_at w (opening b.start first) b.history (length b.history)) where
  at_end : s.position ≡ length b.history
  at_end = ap (λ (x : Survey). x.position) is

  pub surveyed_told : told_all b.history (with_survey_at cs seat s) ≡ told_more (told_all b.history cs) seat (entry.Survey s ∷ [])
  surveyed_told = told_surveyed b.history cs seat s within at_end k.in_order

  pub surveyed_kept : IsKeptBy w first b (with_survey_at cs seat s)
  surveyed_kept =
      let inside : seat < length (told_all b.history cs) = subst (λ (n : ℕ). seat < n) (sym (length-map cs (told_of b.history))) within in
      record {
        ring = subst (λ (ts : List LogView). IsOneThreadRing w first (record { book = b; clients = ts })) (sym surveyed_told)
            (surveyed_ring w first b (told_all b.history cs) seat s k.ring inside is);
        in_order = order_surveyed b.history cs seat s within at_end k.in_order;
      }

-- a ring that is opened
pub opened_kept : {C : Type 0} (w : Works C) (first : C) (start : Ring) (b : BookView C) (cs : List ClientView) (seats : ℕ) → seats ≤ seat_limit → IsBook w first b → IsFresh start first b → AreNew seats cs →
    IsKeptBy w first b cs
opened_kept w first start b cs seats most book fresh f = record {
  ring = fresh_ring w first start b (told_all b.history cs) seats most book fresh (new_fresh seats b.history cs fresh.2 f);
  in_order = new_in_order seats (length b.history) cs f;
}
