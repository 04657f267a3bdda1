use Rattle.pg_disk.proofs.ContentLemmas.{no_contents}
use Rattle.pg_disk.proofs.crash.Remains.new.Goals as goal

pub returns : goal.returns
returns c = record {
  read = no_contents c.new.result c.new.ensures.empty;
  left = no_contents c.new-2.result c.new-2.ensures.empty;
  told = c.new-3.ensures.items;
}
