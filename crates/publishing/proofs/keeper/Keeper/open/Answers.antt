use Rattle.std.proofs.Common.{Option, sym, ap}
use Rattle.std.proofs.lemmas.Result.{err_from_is_err_and}
use Rattle.fault.specs.Told.{Told, told}
use Rattle.runs.specs.Model as model
use Rattle.station.specs.View.{view_of}
use Rattle.publishing.specs.Whole.{opened_record, unless}
use Rattle.publishing.proofs.Calls.{refusal-told}
use Rattle.publishing.proofs.keeper.Keeper.open.Goals as goal

pub returns-in_err-hold-clause-reply : goal.returns-in_err-hold-clause-reply
returns-in_err-hold-clause-reply g c =
    let p = err_from_is_err_and c.from_residual.result c.from_residual.ensures.1 in
    let s = view_of g.P.Plan.back g.T.Tape.cells g.F.Finisher.says c.args.self.now.station in
    let call = model.opens c.args.horizon in
    let r = refusal-told s call (told c.in_err-hold.field-0.0) c.in_err-hold.ensures.answer in
    rw (p.1, p.2) (sym (ap (λ (o : Option Told). unless o (opened_record (model.next s call))) r))
