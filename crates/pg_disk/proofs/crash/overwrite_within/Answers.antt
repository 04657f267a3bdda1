use Rattle.std.specs.BTreeMap as tree
use Rattle.pg_disk.specs.Files.{file_cmp}
use Rattle.pg_disk.proofs.ContentLemmas.{ok_then}
use Rattle.pg_disk.proofs.RedoLemmas.{clip_within, clip_is, comes_within}
use Rattle.pg_disk.proofs.crash.overwrite_within.Goals as goal

pub overwrite_in-requires : goal.overwrite_in-requires
overwrite_in-requires c = clip_within (tree.get file_cmp c.args.contents.now c.args.file) c.args.at c.length_in-length.result c.min.result c.min.ensures c.length_in-length.ensures

pub returns : goal.returns
returns c =
    let m = c.args.contents.now in
    let f = c.args.file in
    ok_then c.overwrite_in.result
    (comes_within m c.overwrite_in.new.contents f c.args.at c.min.result c.args.bytes.now c.args.done (clip_is (tree.get file_cmp m f) c.args.at c.length_in-length.result c.min.result c.min.ensures c.length_in-length.ensures))
    c.overwrite_in.ensures.ok
