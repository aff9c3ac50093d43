-- Worked values, found by hand from the definitions.
use Rattle.std.proofs.Common.{◌≡◌, [], ◌∷◌, true, false, refl}
use Rattle.ring_model.specs.Runs.{after_passes, granted_passes}
use Rattle.ring_model.specs.RepairLaws.{copies_left, passes_left, longest_repair}
use Rattle.ring_model.specs.Surveys.{survey_at}
use Rattle.ring_model.specs.Resources.{till}
use Rattle.ring_model.specs.Replay.{till_state}
use Rattle.ring_model.specs.Groups.{move_order}
use Rattle.ring_model.specs.GroupLaws.{block_of}
use Rattle.ring_model.specs.declared.events.Op.TheVariants.{Member}
use Rattle.ring_model.specs.declared.events.Reply.TheVariants.{Granted}
use Rattle.ring_model.specs.Ring.{ring_with, is_privileged, privileged_count, first_privileged, is_settled, moved, weight, first_value_is_prefix, lead, rest, bound}

-- three machines with three values: machine 0 of (0,2,0) steps on, machine 1 of (1,2,0) copies, only machine 2 of (1,1,0) is
-- privileged
step_of_zero : moved (ring_with 3 (0 ∷ 2 ∷ 0 ∷ [])) 0 ≡ ring_with 3 (1 ∷ 2 ∷ 0 ∷ [])
step_of_zero = refl

copy_of_one : moved (ring_with 3 (1 ∷ 2 ∷ 0 ∷ [])) 1 ≡ ring_with 3 (1 ∷ 1 ∷ 0 ∷ [])
copy_of_one = refl

step_round : moved (ring_with 3 (2 ∷ 2 ∷ 2 ∷ [])) 0 ≡ ring_with 3 (0 ∷ 2 ∷ 2 ∷ [])
step_round = refl

counts : privileged_count (0 ∷ 2 ∷ 0 ∷ []) ≡ 3
counts = refl

first_of_settled : first_privileged (1 ∷ 1 ∷ 0 ∷ []) ≡ 2
first_of_settled = refl

rest_of_020 : rest (ring_with 3 (0 ∷ 2 ∷ 0 ∷ [])) ≡ 6
rest_of_020 = refl

rest_of_120 : rest (ring_with 3 (1 ∷ 2 ∷ 0 ∷ [])) ≡ 3
rest_of_120 = refl

rest_of_110 : rest (ring_with 3 (1 ∷ 1 ∷ 0 ∷ [])) ≡ 0
rest_of_110 = refl

-- four machines with four values
weight_of_0210 : weight (0 ∷ 2 ∷ 1 ∷ 0 ∷ []) ≡ 6
weight_of_0210 = refl

lead_of_0210 : lead (ring_with 4 (0 ∷ 2 ∷ 1 ∷ 0 ∷ [])) ≡ 3
lead_of_0210 = refl

rest_of_0210 : rest (ring_with 4 (0 ∷ 2 ∷ 1 ∷ 0 ∷ [])) ≡ 18
rest_of_0210 = refl

weight_of_1210 : weight (1 ∷ 2 ∷ 1 ∷ 0 ∷ []) ≡ 6
weight_of_1210 = refl

lead_of_1210 : lead (ring_with 4 (1 ∷ 2 ∷ 1 ∷ 0 ∷ [])) ≡ 2
lead_of_1210 = refl

rest_of_1210 : rest (ring_with 4 (1 ∷ 2 ∷ 1 ∷ 0 ∷ [])) ≡ 14
rest_of_1210 = refl

settled_1110 : is_settled (1 ∷ 1 ∷ 1 ∷ 0 ∷ []) ≡ true
settled_1110 = refl

prefix_of_3310 : first_value_is_prefix (3 ∷ 3 ∷ 1 ∷ 0 ∷ []) ≡ true
prefix_of_3310 = refl

rest_of_3310 : rest (ring_with 4 (3 ∷ 3 ∷ 1 ∷ 0 ∷ [])) ≡ 3
rest_of_3310 = refl

no_prefix_of_1011 : first_value_is_prefix (1 ∷ 0 ∷ 1 ∷ 1 ∷ []) ≡ false
no_prefix_of_1011 = refl

rest_of_1011 : rest (ring_with 4 (1 ∷ 0 ∷ 1 ∷ 1 ∷ [])) ≡ 9
rest_of_1011 = refl

bound_of_2 : bound 2 ≡ 3
bound_of_2 = refl

bound_of_3 : bound 3 ≡ 9
bound_of_3 = refl

bound_of_4 : bound 4 ≡ 18
bound_of_4 = refl

-- 3 * 256 * 255 / 2
bound_of_256 : bound 256 ≡ 97920
bound_of_256 = refl

-- 3 * 65536 * 65535 / 2, past 32 bits
bound_of_65536 : bound 65536 ≡ 6442352640
bound_of_65536 = refl

-- where the first privileged machine passes each time: (0,2,1,0), (1,2,1,0), (1,1,1,0)
passes_of_0210 : passes_left (ring_with 4 (0 ∷ 2 ∷ 1 ∷ 0 ∷ [])) ≡ 2
passes_of_0210 = refl

-- (0,2,2,0), (1,2,2,0), (1,1,2,0), (1,1,1,0)
passes_of_0220 : passes_left (ring_with 4 (0 ∷ 2 ∷ 2 ∷ 0 ∷ [])) ≡ 3
passes_of_0220 = refl

-- (1,0,1,1), (2,0,1,1), (2,2,1,1): machine 2 keeps its value, since no other comes after it
passes_of_1011 : passes_left (ring_with 4 (1 ∷ 0 ∷ 1 ∷ 1 ∷ [])) ≡ 2
passes_of_1011 = refl

copies_of_2011 : copies_left (2 ∷ 0 ∷ 1 ∷ 1 ∷ []) ≡ 1
copies_of_2011 = refl

-- settled
passes_of_1110 : passes_left (ring_with 4 (1 ∷ 1 ∷ 1 ∷ 0 ∷ [])) ≡ 0
passes_of_1110 = refl

-- 2 * 13 / 2, 3 * 16 / 2, 8 * 31 / 2
longest_of_4 : longest_repair 4 ≡ 13
longest_of_4 = refl

longest_of_5 : longest_repair 5 ≡ 24
longest_of_5 = refl

longest_of_10 : longest_repair 10 ≡ 124
longest_of_10 = refl

-- four machines with four values in the state (0,2,1,0) over a till: the group 0, 1, 3 with order 2
order_of_013 : move_order (0 ∷ 1 ∷ 3 ∷ []) ≡ 1 ∷ 0 ∷ 3 ∷ []
order_of_013 = refl

order_of_013_in_turn : granted_passes (ring_with 4 (0 ∷ 2 ∷ 1 ∷ 0 ∷ [])) (1 ∷ 0 ∷ 3 ∷ []) ≡ 1 ∷ 0 ∷ 3 ∷ []
order_of_013_in_turn = refl

state_after_013 : after_passes (ring_with 4 (0 ∷ 2 ∷ 1 ∷ 0 ∷ [])) (1 ∷ 0 ∷ 3 ∷ []) ≡ ring_with 4 (1 ∷ 0 ∷ 1 ∷ 1 ∷ [])
state_after_013 = refl

members_of_013 : block_of till (till_state (ring_with 4 (0 ∷ 2 ∷ 1 ∷ 0 ∷ [])) 0 0) 0 2 (1 ∷ 0 ∷ 3 ∷ []) ≡
    record { seat = 0; op = Member 1 2 2; reply = Granted 1 2 }
    ∷ record { seat = 0; op = Member 0 2 1; reply = Granted 2 4 }
    ∷ record { seat = 0; op = Member 3 2 0; reply = Granted 3 6 } ∷ []
members_of_013 = refl

survey_after_013 : survey_at till (till_state (ring_with 4 (0 ∷ 2 ∷ 1 ∷ 0 ∷ [])) 0 0) (block_of till (till_state (ring_with 4 (0 ∷ 2 ∷ 1 ∷ 0 ∷ [])) 0 0) 0 2 (1 ∷ 0 ∷ 3 ∷ [])) 3 ≡
    record { position = 3; privileged = 3; first = 0; calm = 3; rest = 9 }
survey_after_013 = refl

-- machine 3 of (1,0,1,1) is not privileged
no_group_23 : is_privileged (1 ∷ 0 ∷ 1 ∷ 1 ∷ []) 3 ≡ false
no_group_23 = refl
