use Rattle.pg_records.proofs.Appending.{put_parts}
use Rattle.pg_records.proofs.encoding.put_entry.Goals as goal

pub returns : goal.returns
returns c = put_parts c.put_behind_head.result c.args.entry.now c.args.out.now c.put_head.new.out c.put_behind_head.new.out c.in_ok-put_head.ensures c.put_behind_head.ensures
