use Rattle.std.proofs.Common.{rules}
use Rattle.record.proofs.Unknown.{decode-unknown}
use Rattle.record.proofs.reader.unpack.Goals as goal

pub returns-in_err-try_from : goal.returns-in_err-try_from
returns-in_err-try_from c =
    let unknown = decode-unknown c.args.kind c.args.body.now c.in_err-try_from.ensures.1 in
    record { value = search rules; borrowed = search rules }
