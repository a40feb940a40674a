-- A publication in work: how many bytes of an output are written, and how many records they are.
use Rattle.std.specs.Prelude.{◌≡◌, ℕ, ◌+◌, ◌-◌, min, Bool, cond, ◌&&◌, List, ◌++◌, take, drop, Ok, Err, Result, nat_le}
use Rattle.fault.specs.declared.Fault.{Fault}
use Rattle.fault.specs.Told.{Told, told}
use Rattle.record.specs.Kinds.{Entry, kind_of, refused}
use Rattle.record.specs.Writes.{write_of, output_after}
use Rattle.publication.specs.declared.work.InWork.{InWork}
use Rattle.publication.specs.declared.work.Ended.{Ended}

-- what a 32-bit field of a record can hold
abbrev pub capped : ℕ → ℕ
capped n = min n 4294967295

-- the record of a refusal at an event record
abbrev pub refused_by : Told → ℕ → Entry
refused_by t event = refused t.number t.layer (capped t.place) (capped event)

-- so many bytes more, or the refusal
abbrev pub grown : ℕ → Result ℕ Told → Result ℕ Told
grown written (Ok size) = Ok (written + size)
grown written (Err t) = Err t

-- the bytes written with one record more in an output of some length; refused as by the writer of records
abbrev pub written_with : ℕ → Entry → ℕ → Result ℕ Told
written_with written e size = grown written (write_of e (size - written))

-- the kinds of records that a publication in work takes: all of a publication but the end record
abbrev pub taken : ℕ → Bool
taken kind = nat_le 33 kind && nat_le kind 36

-- a record of another kind is refused before all else
abbrev pub kind_not_taken : ℕ → Told
kind_not_taken kind = record { number = 17; layer = 1; place = kind }

abbrev pub added_with : ℕ → Entry → ℕ → Result ℕ Told
added_with written e size = cond (taken (kind_of e)) (written_with written e size) (Err (kind_not_taken (kind_of e)))

-- the output then: the bytes that were written stay
abbrev pub output_with : ℕ → Entry → List ℕ → List ℕ
output_with written e out = take written out ++ output_after e (drop written out)

abbrev pub output_added : ℕ → Entry → List ℕ → List ℕ
output_added written e out = cond (taken (kind_of e)) (output_with written e out) out

abbrev pub added_as : Result InWork (Fault × InWork) → Result ℕ Told
added_as (Ok w) = Ok w.written
added_as (Err (f, w)) = Err (told f)

abbrev pub ended_as : Result Ended (Fault × InWork) → Result ℕ Told
ended_as (Ok e) = Ok e.written
ended_as (Err (f, w)) = Err (told f)

-- one record more; a refusal hands the publication back as it was
abbrev pub Counted : InWork → Result InWork (Fault × InWork) → Type 0
Counted given (Ok w) = w.records ≡ capped (given.records + 1)
Counted given (Err (f, w)) = w ≡ given

abbrev pub HandedBack : InWork → Result Ended (Fault × InWork) → Type 0
HandedBack given (Ok e) = Unit {0}
HandedBack given (Err (f, w)) = w ≡ given
