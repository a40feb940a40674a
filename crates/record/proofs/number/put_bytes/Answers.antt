use Rattle.std.proofs.Common.{arith}
use Rattle.record.proofs.Puts.{put-part}
use Rattle.record.proofs.number.put_bytes.Goals as goal

pub returns : goal.returns
returns c =
    put-part c.args.at _ c.args.out.now c.args.bytes.now _ c.copy_from_slice.ensures.after (omega arith)
