use Rattle.std.specs.Int.{to_be_bytes, w32, w64}
use Rattle.pg_records.proofs.Appending.{put_two}
use Rattle.pg_records.proofs.encoding.put_place.Goals as goal

pub returns : goal.returns
returns c = put_two _ _ _ _ (to_be_bytes w64 c.args.page) (to_be_bytes w32 c.args.index) c.in_ok-put_u64.ensures.ok c.put_u32.ensures.ok
