use Rattle.lock_life.proofs.Stages.{parts_are_stages, runs_follow}
use Rattle.lock_life.proofs.PutSegments.{put_segments_are_stages}
use Rattle.lock_life.proofs.RunsGoOn.{runs_go_on}
use Rattle.lock_life.proofs.laws.parts_are_stages.Goals as goal

pub returns : goal.returns
returns c = record { parts = parts_are_stages; runs = runs_follow; put = put_segments_are_stages; go_on = runs_go_on }
