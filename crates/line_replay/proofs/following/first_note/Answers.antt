use Rattle.std.proofs.Common.{refl}
use Rattle.line_replay.proofs.Looking.{note_here, no_note_here, no_note_end}
use Rattle.line_replay.proofs.following.first_note.Goals as goal

pub returns-in-Some-read_note : goal.returns-in-Some-read_note
returns-in-Some-read_note c =
    note_here c.in-Some.first.now c.in-Some.rest.now c.args.bytes.now c.in-Some-read_note.note.count c.in-Some-read_note.note.line.now
    c.in-Some.ensures.split c.in-Some.ensures.line c.in-Some-read_note.ensures

pub returns-in-None-read_note : goal.returns-in-None-read_note
returns-in-None-read_note c = no_note_here c.in-Some.first.now c.in-Some.rest.now c.args.bytes.now c.in-Some.ensures.split c.in-Some.ensures.line c.in-None-read_note.ensures

pub returns-in-None : goal.returns-in-None
returns-in-None c = no_note_end c.args.bytes.now (c.in-None.ensures.none refl)
