-- A publication: which records a sequence of event bytes gives, with a tape and so many bytes of output.
use Rattle.std.specs.Prelude.{ℕ, zero, suc, ◌-◌, Bool, cond, not, ◌&&◌, List, [], ◌∷◌, ◌++◌, map, length, drop, ℤ, Some, None, Ok, Err, Option, Result, ◌==◌, nat_le, nat_lt}
use Rattle.std.specs.List.{range_with_len}
use Rattle.fault.specs.Told.{Told}
use Rattle.record.specs.Kinds.{Entry, set_up, opening, stepping, closing, opened, published, closed, refused, ended, kind_of, bytes_of}
use Rattle.record.specs.Reads.{Answer, found, nothing, faulty, announced, rest_after}
use Rattle.tape.specs.Tapes.{byte_cells}
use Rattle.plan.specs.Known.{single, dyadic}
use Rattle.finisher.specs.Kinds.{plain, none_held, rising}
use Rattle.publication.specs.Events.{event_in}
use Rattle.publication.specs.Works.{capped, refused_by}
use Rattle.publication.specs.declared.event.Stage.TheVariants.{First, Later}
use Rattle.runs.specs.Model as station
use Rattle.runs.specs.Model.{tell}

-- an event record is looked at only with this much room in the output
abbrev pub least_room : ℕ
least_room = 120

-- a kind of record that may not stand here
abbrev pub misplaced : Entry → Told
misplaced e = tell 17 1 (kind_of e)

-- The set-up

-- what it is refused for, in the order in which it is looked at
abbrev pub set_up_checks : ℕ → ℕ → ℕ → List (Bool × Told)
set_up_checks classes plan grant =
    (not (nat_le 1 classes && nat_le classes 8), tell 1 2 classes)
    ∷ (not (plan == 1) && not (plan == 2), tell 1 4 plan)
    ∷ (nat_lt 1000000 grant, tell 1 3 grant)
    ∷ []

abbrev pub back_for : ℕ → ℕ → ℕ
back_for plan = cond (plan == 1) single dyadic

-- the station that it makes, on the cells of a tape
abbrev pub station_for : ℕ → ℕ → ℕ → ℕ → List ℤ → station.Station
station_for number classes plan grant cells =
    station.made (record { number = number; classes = classes; grant = grant }) (back_for plan) cells (rising plain none_held)

-- The records of an epoch, by the station

-- the newest published counts, as a read of each class answers them
abbrev pub published_counts : station.Station → List ℤ
published_counts s = map (λ class. (station.lane_at s class).published) (range_with_len 0 s.setting.classes)

abbrev pub opened_record : station.Station → Entry
opened_record s = opened s.serial (station.epoch_of s.phase) (station.units_of s.phase)

abbrev pub record_of_published : station.Station → Entry
record_of_published s = published s.serial s.steps (published_counts s)

abbrev pub closed_record : station.Station → Entry
closed_record s = closed s.serial s.steps (station.units_spent s)

-- A later event record: a call of the station

-- a record, unless the call is refused
abbrev pub unless : Option Told → Entry → Result Entry Told
unless None e = Ok e
unless (Some told) e = Err told

-- the close of the epoch that is open here
abbrev pub close_here : station.Station → station.Call
close_here s = station.closes s.setting.number s.serial

-- the record that answers it, or its refusal. A close record is refused as a step is where no epoch is open
abbrev pub reply_of : station.Station → Entry → Result Entry Told
reply_of s (opening t) = unless (station.refusal s (station.opens t)) (opened_record (station.next s (station.opens t)))
reply_of s (stepping cs) = unless (station.refusal s (station.steps cs)) (record_of_published (station.next s (station.steps cs)))
reply_of s closing = cond (station.is_open s.phase) (Ok (closed_record s)) (Err (tell 6 2 0))
reply_of s (set_up n k p g) = Err (misplaced (set_up n k p g))
reply_of s (opened e t h) = Err (misplaced (opened e t h))
reply_of s (published e t cs) = Err (misplaced (published e t cs))
reply_of s (closed e t u) = Err (misplaced (closed e t u))
reply_of s (refused n l p e) = Err (misplaced (refused n l p e))
reply_of s (ended n) = Err (misplaced (ended n))

-- the station after it
abbrev pub station_after : station.Station → Entry → station.Station
station_after s (opening t) = station.next s (station.opens t)
station_after s (stepping cs) = station.next s (station.steps cs)
station_after s closing = station.next s (close_here s)
station_after s (set_up n k p g) = s
station_after s (opened e t h) = s
station_after s (published e t cs) = s
station_after s (closed e t u) = s
station_after s (refused n l p e) = s
station_after s (ended n) = s

-- The records of a publication

-- what is next in event bytes, with so much room: with too little, a refusal
abbrev pub next_in : ℕ → List ℕ → Answer
next_in room bs = cond (nat_lt room least_room) (faulty (tell 19 7 room)) (event_in Later bs)

-- the event bytes after it. Too little room and a record that is cut short are stops: no event follows
abbrev pub rest_in : ℕ → List ℕ → List ℕ
rest_in room bs = cond (nat_lt room least_room) [] (cond (nat_le (announced bs) (length bs)) (rest_after bs) [])

-- the record for a reply to an event, by the event's number
abbrev pub record_for : ℕ → Result Entry Told → Entry
record_for event (Ok e) = e
record_for event (Err told) = refused_by told event

-- what an event gives, and the station after it
abbrev pub given : ℕ → station.Station → Answer → List Entry
given event s nothing = []
given event s (found e) = record_for event (reply_of s e) ∷ []
given event s (faulty told) = refused_by told event ∷ []

abbrev pub station_by : station.Station → Answer → station.Station
station_by s nothing = s
station_by s (found e) = station_after s e
station_by s (faulty told) = s

-- an epoch that is open at the end is closed
abbrev pub closing_of : station.Station → List Entry
closing_of s = cond (station.is_open s.phase) (closed_record s ∷ []) []

-- the bytes of records, one after the other
abbrev pub bytes_in : List Entry → List ℕ
bytes_in [] = []
bytes_in (e ∷ es) = bytes_of e ++ bytes_in es

-- records, and then those that follow with the room that they leave
abbrev pub and_then : List Entry → ℕ → (ℕ → List Entry) → List Entry
and_then es room more = es ++ more (room - length (bytes_in es))

-- the records from an event on, with so much room: at most n events. Each takes four bytes or more, or is a stop, so as
-- many as there are bytes are enough
abbrev pub records_from : ℕ → ℕ → ℕ → station.Station → List ℕ → List Entry
records_from zero room event s bs = closing_of s
records_from (suc n) room event s bs =
    cond (length bs == 0) (closing_of s)
    (and_then (given event s (next_in room bs)) room (λ left. records_from n left (suc event) (station_by s (next_in room bs)) (rest_in room bs)))

-- those after a set-up that is refused, or is not
abbrev pub records_after : Option Told → ℕ → station.Station → List ℕ → List Entry
records_after (Some told) room s bs = refused_by told 1 ∷ []
records_after None room s bs = records_from (length bs) room 2 s bs

-- a first event record that is refused gives its refusal, and an accepted set-up nothing
abbrev pub records_first : Answer → ℕ → List ℤ → List ℕ → List Entry
records_first nothing room cells bs = []
records_first (faulty told) room cells bs = refused_by told 1 ∷ []
records_first (found (set_up number classes plan grant)) room cells bs =
    records_after (station.first_told (set_up_checks classes plan grant)) room (station_for number classes plan grant cells) bs
records_first (found (opening t)) room cells bs = refused_by (misplaced (opening t)) 1 ∷ []
records_first (found (stepping cs)) room cells bs = refused_by (misplaced (stepping cs)) 1 ∷ []
records_first (found closing) room cells bs = refused_by (misplaced closing) 1 ∷ []
records_first (found (opened e t h)) room cells bs = refused_by (misplaced (opened e t h)) 1 ∷ []
records_first (found (published e t cs)) room cells bs = refused_by (misplaced (published e t cs)) 1 ∷ []
records_first (found (closed e t u)) room cells bs = refused_by (misplaced (closed e t u)) 1 ∷ []
records_first (found (refused n l p e)) room cells bs = refused_by (misplaced (refused n l p e)) 1 ∷ []
records_first (found (ended n)) room cells bs = refused_by (misplaced (ended n)) 1 ∷ []

-- all records but the last
abbrev pub records : List ℕ → List ℕ → ℕ → List Entry
records events tape room = records_first (event_in First events) room (byte_cells tape) (rest_after events)

-- The publication

-- records and the end record with their number
abbrev pub whole : List Entry → List ℕ
whole es = bytes_in es ++ bytes_of (ended (capped (length es)))

abbrev pub publication : List ℕ → List ℕ → ℕ → List ℕ
publication events tape size = whole (records events tape size)

-- what publishing answers with so many bytes of output: the bytes written, or a refusal
abbrev pub publishing : List ℕ → List ℕ → ℕ → Result ℕ Told
publishing events tape size = cond (nat_lt size least_room) (Err (tell 19 7 size)) (Ok (length (publication events tape size)))

-- the output then: the publication at its start, and what stood behind it
abbrev pub output_with : List ℕ → List ℕ → List ℕ → List ℕ
output_with events tape out =
    cond (nat_lt (length out) least_room) out
    (publication events tape (length out) ++ drop (length (publication events tape (length out))) out)
