-- A record and a reading of the code, as entries.
use Rattle.std.specs.Prelude.{◌≡◌, ℕ, List, drop, Ok, Err, Result}
use Rattle.fault.specs.declared.Fault.{Fault}
use Rattle.fault.specs.Told.{told}
use Rattle.record.specs.declared.kinds.Record.{Record}
use Rattle.record.specs.declared.kinds.Record.TheVariants.{SetUp, Open, Step, Close, Opened, Published, Closed, Refused, End}
use Rattle.record.specs.declared.reader.Reading.{Reading}
use Rattle.record.specs.declared.reader.Reading.TheVariants.{Found, Nothing, Faulty}
use Rattle.record.specs.Kinds.{Entry, set_up, opening, stepping, closing, opened, published, closed, refused, ended, row_in, tally_in}
use Rattle.record.specs.Reads.{Answer, found, nothing, faulty, decode}

abbrev pub entry_of : Record → Entry
entry_of (SetUp s k p g) = set_up s k p g
entry_of (Open t) = opening t
entry_of (Step row) = stepping (row_in row.bytes.now)
entry_of Close = closing
entry_of (Opened e t h) = opened e t h
entry_of (Published e t tally) = published e t (tally_in tally.bytes.now)
entry_of (Closed e t s) = closed e t s
entry_of (Refused n l p e) = refused n l p e
entry_of (End n) = ended n

abbrev pub seen : Reading → Answer
seen (Found r) = found (entry_of r)
seen Nothing = nothing
seen (Faulty f) = faulty (told f)

-- a record or its refusal, as a reading
abbrev pub reading_of : Result Record Fault → Reading
reading_of (Ok r) = Found r
reading_of (Err f) = Faulty f

-- the counts that a record borrows are its body's, byte for byte
abbrev pub RecordBorrows : Record → List ℕ → Type 0
RecordBorrows (SetUp s k p g) body = Unit {0}
RecordBorrows (Open t) body = Unit {0}
RecordBorrows (Step row) body = row.bytes.now ≡ body
RecordBorrows Close body = Unit {0}
RecordBorrows (Opened e t h) body = Unit {0}
RecordBorrows (Published e t tally) body = tally.bytes.now ≡ drop 6 body
RecordBorrows (Closed e t s) body = Unit {0}
RecordBorrows (Refused n l p e) body = Unit {0}
RecordBorrows (End n) body = Unit {0}

abbrev pub Borrows : Reading → List ℕ → Type 0
Borrows (Found r) body = RecordBorrows r body
Borrows Nothing body = Unit {0}
Borrows (Faulty f) body = Unit {0}

-- what a body of the kind with a number is unpacked as
pub record Unpacked (kind : ℕ) (body : List ℕ) (unpacked : Result Record Fault) : Type 0 where
  pub value : seen (reading_of unpacked) ≡ decode kind body
  pub borrowed : Borrows (reading_of unpacked) body
