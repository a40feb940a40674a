use Rattle.std.proofs.Common.{◌≡◌, ℕ, Result, sym, subst}
use Rattle.fault.specs.Told.{Told}
use Rattle.record.specs.Kinds.{Entry}
use Rattle.record.specs.Seen.{entry_of}
use Rattle.runs.specs.Model as model
use Rattle.publishing.specs.Whole.{record_for, reply_of}
use Rattle.publishing.proofs.Going.{FewClasses}
use Rattle.publishing.proofs.Rooms.{Fits, reply-fits}
use Rattle.publishing.proofs.keeper.Keeper.answer_reading.Goals as goal

-- the record of an answer
fits : (event : ℕ) (s : model.Station) (e : Entry) (r : Result Entry Told) → r ≡ reply_of s e → FewClasses s → Fits (record_for event r)
fits event s e r is few = subst (λ (r : Result Entry Told). Fits (record_for event r)) (sym is) (reply-fits event s few.0 few.1 e)

pub put_record-requires-clause-kind : goal.put_record-requires-clause-kind
put_record-requires-clause-kind g c = (fits c.args.event _ (entry_of c.in-Found.record) _ c.in-Ok.ensures.reply c.args.self.now.station.table.some).kind

pub put_record-requires-clause-counts : goal.put_record-requires-clause-counts
put_record-requires-clause-counts g c =
    let f = fits c.args.event _ (entry_of c.in-Found.record) _ c.in-Ok.ensures.reply c.args.self.now.station.table.some in
    (f.some, f.few)
