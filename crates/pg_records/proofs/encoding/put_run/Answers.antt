use Rattle.std.specs.Int.{to_be_bytes, w32, w64}
use Rattle.pg_records.proofs.Appending.{put_three}
use Rattle.pg_records.proofs.encoding.put_run.Goals as goal

pub returns : goal.returns
returns c = put_three _ _ _ _ _ (to_be_bytes w64 c.args.page) (to_be_bytes w32 c.args.from) (to_be_bytes w32 c.args.to) c.in_ok-put_u64.ensures.ok c.in_ok-put_u32.ensures.ok c.put_u32-2.ensures.ok
