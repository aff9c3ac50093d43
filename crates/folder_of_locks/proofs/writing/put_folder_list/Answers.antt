use Rattle.std.proofs.Common.{List, map, Err, subst}
use Rattle.std.specs.Io.KnownBytes.{Appends}
use Rattle.text_lines.specs.Writing.{Writes}
use Rattle.text_lines.proofs.Writing.{writes_then, writes_err}
use Rattle.folder_of_locks.specs.declared.locks.ListedLock.{ListedLock}
use Rattle.folder_of_locks.specs.Lists.{listed, file_text}
use Rattle.folder_of_locks.specs.Pools.{pool_line}
use Rattle.folder_of_locks.proofs.writing.put_folder_list.Goals as goal

pub returns-in-Ok : goal.returns-in-Ok
returns-in-Ok g c =
    writes_then (g.W.Write.contents c.args.out.now) (g.W.Write.contents c.put_list.new.out) (g.W.Write.contents c.put_pool.new.out) c.put_pool.result (file_text (map listed c.args.list.now.locks.items)) (pool_line c.args.list.now.pool)
    (subst (λ (x : List ListedLock). Appends (g.W.Write.contents c.args.out.now) (g.W.Write.contents c.put_list.new.out) (file_text (map listed x))) c.deref.ensures.value c.in-Ok.ensures) c.put_pool.ensures

pub returns-in-Err : goal.returns-in-Err
returns-in-Err g c =
    writes_err (g.W.Write.contents c.args.out.now) (g.W.Write.contents c.put_list.new.out) c.in-Err.fault (file_text (map listed c.args.list.now.locks.items)) (pool_line c.args.list.now.pool)
    (subst (λ (x : List ListedLock). Writes (g.W.Write.contents c.args.out.now) (g.W.Write.contents c.put_list.new.out) (Err c.in-Err.fault) (file_text (map listed x))) c.deref.ensures.value c.in-Err.ensures)
