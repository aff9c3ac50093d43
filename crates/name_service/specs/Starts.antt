-- A line that is too long is answered as its start is.
use Rattle.line_service.specs.Answering.{cut, IsByStart}
use Rattle.line_service.specs.Stands.{by_stand}
use Rattle.lock_protocol.proofs.Whole.{long_reads}
use Rattle.name_service.specs.Serving.{IsNameServed}

pub by_start : IsByStart (by_stand IsNameServed)
unfolding cut
by_start old new full said noted long a =
    let i = a.answered in record {
      goes = a.goes;
      answered = (i.0, long_reads full i.0 long i.1, i.2);
      terms = a.terms;
      stage = a.stage;
      files = a.files;
      kept = a.kept;
    }
