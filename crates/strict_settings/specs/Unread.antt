-- The members of a settings document that nothing reads.
use Rattle.std.specs.Prelude.{ℕ, ◌&&◌, List, [], ◌∷◌, Bool, true, false, not, cond, codes, Option, None, Some}
use Rattle.std.specs.List.{list_any}
use Rattle.std.specs.Str.{bytes_eq}
use Rattle.json.specs.Json.{Json, null, boolean, number, string, array, object, Items, no_items, item, Members, no_members, member}

-- some member has this name
abbrev pub has_member : List ℕ → Members → Bool
has_member name no_members = false
has_member name (member k j ms) = cond (bytes_eq k name) true (has_member name ms)

-- one of these names
abbrev pub is_one_of : List (List ℕ) → List ℕ → Bool
is_one_of names k = list_any (λ name. bytes_eq k name) names

-- the member is read, where these names are: it has one of them, and no later member has it too, which
-- would count
abbrev pub is_read : List (List ℕ) → List ℕ → Members → Bool
is_read names k later = is_one_of names k && not (has_member k later)

-- the name that is found first, if one is
abbrev pub first_of : Option (List ℕ) → Option (List ℕ) → Option (List ℕ)
first_of None later = later
first_of (Some name) later = Some name

-- the first member of an object that is not read; what is inside a member that is read comes before the
-- members after it
abbrev pub unread_among : List (List ℕ) → (List ℕ → Json → Option (List ℕ)) → Members
    → Option (List ℕ)
unread_among names inside no_members = None
unread_among names inside (member k j ms) =
    cond (is_read names k ms)
    (first_of (inside k j) (unread_among names inside ms))
    (Some k)

-- members in which none is
abbrev pub plain : List ℕ → Json → Option (List ℕ)
plain k j = None

-- the first one of the entries of an array
abbrev pub unread_in_items : (Json → Option (List ℕ)) → Items → Option (List ℕ)
unread_in_items entry no_items = None
unread_in_items entry (item j js) = first_of (entry j) (unread_in_items entry js)

-- in an array of such entries; another value has none
abbrev pub unread_in_array : (Json → Option (List ℕ)) → Json → Option (List ℕ)
unread_in_array entry (array js) = unread_in_items entry js
unread_in_array entry null = None
unread_in_array entry (boolean b) = None
unread_in_array entry (number s) = None
unread_in_array entry (string s) = None
unread_in_array entry (object ms) = None

-- in an object, by the members that it may have; another value has none
abbrev pub unread_in_object : (Members → Option (List ℕ)) → Json → Option (List ℕ)
unread_in_object members (object ms) = members ms
unread_in_object members null = None
unread_in_object members (boolean b) = None
unread_in_object members (number s) = None
unread_in_object members (string s) = None
unread_in_object members (array js) = None

-- what is read of a ring
abbrev pub ring_names : List (List ℕ)
ring_names = codes "n" ∷ codes "k" ∷ codes "start" ∷ []

abbrev pub unread_in_ring : Json → Option (List ℕ)
unread_in_ring = unread_in_object (unread_among ring_names plain)

-- what is read of a seat: its script, or else what is drawn
abbrev pub seat_names : Members → List (List ℕ)
seat_names ms =
    cond (has_member (codes "script") ms)
    (codes "script" ∷ [])
    (codes "seed" ∷ codes "actions" ∷ [])

abbrev pub unread_in_seat : Json → Option (List ℕ)
unread_in_seat = unread_in_object (λ ms. unread_among (seat_names ms) plain ms)

-- what is read of the whole
abbrev pub top_names : List (List ℕ)
top_names = codes "rings" ∷ codes "workers" ∷ codes "injector" ∷ []

-- inside a member of the whole: rings and workers are arrays, and the injector is a seat
abbrev pub unread_in_top : List ℕ → Json → Option (List ℕ)
unread_in_top k j =
    cond (bytes_eq k (codes "rings")) (unread_in_array unread_in_ring j)
    (cond (bytes_eq k (codes "workers")) (unread_in_array unread_in_seat j) (unread_in_seat j))

-- the first member, in the order of the text, that nothing reads
abbrev pub unread_in : Json → Option (List ℕ)
unread_in = unread_in_object (unread_among top_names unread_in_top)
