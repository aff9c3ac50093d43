use Rattle.bad_lines.proofs.put.put_wrong.Goals as goal

pub returns-in-Size : goal.returns-in-Size
returns-in-Size g c = rw c.in-Size.is c.put_size.ensures

pub returns-in-Number : goal.returns-in-Number
returns-in-Number g c = rw c.in-Number.is c.put_pair.ensures

pub returns-in-Limit : goal.returns-in-Limit
returns-in-Limit g c = rw c.in-Limit.is c.put_pair-in-Limit.ensures

pub returns-in-Replied : goal.returns-in-Replied
returns-in-Replied g c = rw c.in-Replied.is c.put_replies.ensures

pub returns-in-Unfinished : goal.returns-in-Unfinished
returns-in-Unfinished g c = rw c.in-Unfinished.is c.put_between.ensures

pub returns-in-Disordered : goal.returns-in-Disordered
returns-in-Disordered g c = rw c.in-Disordered.is c.put.ensures

pub returns-in-Early : goal.returns-in-Early
returns-in-Early g c = rw c.in-Early.is c.put_early.ensures

pub returns-in-Inside : goal.returns-in-Inside
returns-in-Inside g c = rw c.in-Inside.is c.put_between-in-Inside.ensures

pub returns-in-Surveyed : goal.returns-in-Surveyed
returns-in-Surveyed g c = rw c.in-Surveyed.is c.put_surveys.ensures
