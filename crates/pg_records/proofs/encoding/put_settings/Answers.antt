use Rattle.std.specs.Int.{to_be_bytes, w32, w64}
use Rattle.pg_records.proofs.Appending.{put_four}
use Rattle.pg_records.proofs.encoding.put_settings.Goals as goal

pub returns : goal.returns
returns c =
    put_four _ _ _ _ _ _ (to_be_bytes w64 c.args.max) (to_be_bytes w64 c.args.page) (to_be_bytes w64 c.args.ahead) (to_be_bytes w32 c.args.dup)
    c.in_ok-put_u64.ensures.ok c.in_ok-put_u64-2.ensures.ok c.in_ok-put_u64-3.ensures.ok c.put_u32.ensures.ok
