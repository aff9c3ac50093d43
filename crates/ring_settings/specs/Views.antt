-- The types of this crate as data.
use Rattle.std.specs.Prelude.{List}
use Rattle.ring_settings.specs.Contents.{RingData, SeatData, script, drawing}
use Rattle.ring_settings.specs.declared.actions.Action.{Action}
use Rattle.ring_settings.specs.declared.actions.Plan.{Plan}
use Rattle.ring_settings.specs.declared.contents.RingSetting.{RingSetting}
use Rattle.ring_settings.specs.declared.contents.SeatSetting.{SeatSetting}
use Rattle.ring_settings.specs.declared.contents.SeatSetting.TheVariants.{Script, Drawn}

-- a ring's size and start values
abbrev pub ring_data : RingSetting → RingData
ring_data ring = record { size = ring.params; start = ring.start.items }

-- a seat's script, or what is to be drawn for it
abbrev pub seat_data : SeatSetting → SeatData
seat_data (Script actions) = script actions.items
seat_data (Drawn role seed actions) = drawing role seed actions

-- a plan's actions
abbrev pub plan_actions : Plan → List Action
plan_actions plan = plan.actions.items
