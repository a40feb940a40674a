-- A publication, as it was defined first; `publish` answers by `Whole.antt` beside it. Which records a sequence of event
-- bytes gives, with a tape and so many bytes of room. An output with less room than an event record asks for is refused as
-- a whole; what is defined here is of an output with at least that much.
use Rattle.std.specs.Prelude.{ℕ, zero, suc, ◌-◌, Bool, cond, not, ◌&&◌, List, [], ◌∷◌, ◌++◌, map, length, ℤ, Some, None, Option, ◌==◌, nat_le, nat_lt}
use Rattle.fault.specs.Told.{Told}
use Rattle.record.specs.Kinds.{Entry, set_up, opening, stepping, closing, opened, published, closed, refused, ended, bytes_of}
use Rattle.record.specs.Reads.{Answer, found, nothing, faulty, rest_after}
use Rattle.tape.specs.Tapes.{byte_cells}
use Rattle.plan.specs.Known.{single, dyadic}
use Rattle.finisher.specs.Kinds.{plain, none_held, rising}
use Rattle.publication.specs.Events.{event_in}
use Rattle.publication.specs.Works.{capped, refused_by}
use Rattle.publication.specs.declared.event.Stage.TheVariants.{First, Later}
use Rattle.runs.specs.Model as station

-- an event record is looked at only with this much room
abbrev pub least_room : ℕ
least_room = 120

-- The first event record

-- what a set-up is refused for, in the order in which it is looked at
abbrev pub set_up_checks : ℕ → ℕ → ℕ → List (Bool × Told)
set_up_checks classes plan grant =
    (not (nat_le 1 classes && nat_le classes 8), station.tell 1 2 classes)
    ∷ (not (plan == 1) && not (plan == 2), station.tell 1 4 plan)
    ∷ (nat_lt 1000000 grant, station.tell 1 3 grant)
    ∷ []

abbrev pub back_of : ℕ → ℕ → ℕ
back_of plan = cond (plan == 1) single dyadic

abbrev pub station_for : ℕ → ℕ → ℕ → ℕ → List ℤ → station.Station
station_for number classes plan grant cells =
    station.made (record { number = number; classes = classes; grant = grant }) (back_of plan) cells (rising plain none_held)

-- What an event does: it stops the publication by a refusal, or goes on with a record or none and with a station

pub data Outcome : Type 0 where
  stops : Told → Outcome
  goes : List Entry → Option station.Station → Outcome

abbrev pub published_counts : station.Station → List ℤ
published_counts s = map (λ (lane : station.Lane). lane.published) s.lanes

-- the record that answers a call, by the station after it; reads and balances give none, and stand here with an end
abbrev pub record_of : station.Station → station.Answer → ℕ → Entry
record_of s (station.opened number serial) event = opened serial (station.epoch_of s.phase) (station.units_of s.phase)
record_of s (station.stepped step) event = published s.serial step (published_counts s)
record_of s (station.closed steps units) event = closed s.serial steps units
record_of s (station.published count) event = ended 0
record_of s (station.balance grant spent held) event = ended 0
record_of s (station.refused told) event = refused_by told event

-- a call of the station, answered by one record
abbrev pub served : station.Station → station.Call → ℕ → Outcome
served s call event = goes (record_of (station.next s call) (station.answer s call) event ∷ []) (Some (station.next s call))

-- a refusal that does not stop
abbrev pub passed : Told → ℕ → station.Station → Outcome
passed told event s = goes (refused_by told event ∷ []) (Some s)

abbrev pub on_set_up : Option Told → station.Station → Outcome
on_set_up (Some told) s = stops told
on_set_up None s = goes [] (Some s)

-- the first event record, with the cells of the tape; only a set-up is found there
abbrev pub first_event : List ℤ → Answer → Outcome
first_event cells (found (set_up number classes plan grant)) =
    on_set_up (station.first_told (set_up_checks classes plan grant)) (station_for number classes plan grant cells)
first_event cells (found (opening t)) = stops (station.tell 17 1 2)
first_event cells (found (stepping cs)) = stops (station.tell 17 1 3)
first_event cells (found closing) = stops (station.tell 17 1 4)
first_event cells (found (opened e t h)) = stops (station.tell 17 1 33)
first_event cells (found (published e t cs)) = stops (station.tell 17 1 34)
first_event cells (found (closed e t s)) = stops (station.tell 17 1 35)
first_event cells (found (refused n l p e)) = stops (station.tell 17 1 36)
first_event cells (found (ended n)) = stops (station.tell 17 1 37)
first_event cells nothing = goes [] None
first_event cells (faulty told) = stops told

-- a later one, where only opens, steps and closes are found. A close record closes the open epoch
abbrev pub later_event : station.Station → ℕ → Answer → Outcome
later_event s event (found (opening t)) = served s (station.opens t) event
later_event s event (found (stepping cs)) = served s (station.steps cs) event
later_event s event (found closing) =
    cond (station.is_open s.phase) (served s (station.closes s.setting.number s.serial) event) (passed (station.tell 6 2 0) event s)
later_event s event (found (set_up n k p g)) = passed (station.tell 17 1 1) event s
later_event s event (found (opened e t h)) = passed (station.tell 17 1 33) event s
later_event s event (found (published e t cs)) = passed (station.tell 17 1 34) event s
later_event s event (found (closed e t u)) = passed (station.tell 17 1 35) event s
later_event s event (found (refused n l p e)) = passed (station.tell 17 1 36) event s
later_event s event (found (ended n)) = passed (station.tell 17 1 37) event s
later_event s event nothing = goes [] (Some s)
later_event s event (faulty told) = cond (told.number == 16) (stops told) (passed told event s)

-- The whole

-- an epoch that is open at the end is closed
abbrev pub closing_of : station.Station → List Entry
closing_of s =
    cond (station.is_open s.phase) (record_of (station.next s (station.closes s.setting.number s.serial)) (station.answer s (station.closes s.setting.number s.serial)) 0 ∷ []) []

-- the bytes of records, one after the other
abbrev pub bytes_in : List Entry → List ℕ
bytes_in [] = []
bytes_in (e ∷ es) = bytes_of e ++ bytes_in es

-- a stop, or what goes on with less room
abbrev pub records_by : ℕ → ℕ → station.Station → Outcome → (ℕ → station.Station → List Entry) → List Entry
records_by room event s (stops told) more = refused_by told event ∷ closing_of s
records_by room event s (goes es (Some t)) more = es ++ more (room - length (bytes_in es)) t
records_by room event s (goes es None) more = es

-- the records from an event on, with so many bytes of room: at most n events. Before one is read, too little room stops
abbrev pub records_from : ℕ → ℕ → ℕ → station.Station → List ℕ → List Entry
records_from zero room event s rest = closing_of s
records_from (suc n) room event s rest =
    cond (length rest == 0) (closing_of s)
    (cond (nat_lt room least_room) (refused_by (station.tell 19 7 room) event ∷ closing_of s)
    (records_by room event s (later_event s event (event_in Later rest)) (λ less t. records_from n less (suc event) t (rest_after rest))))

-- the first event record makes the station, or stops
abbrev pub records_after_first : ℕ → List ℕ → Outcome → List Entry
records_after_first room events (stops told) = refused_by told 1 ∷ []
records_after_first room events (goes es None) = []
records_after_first room events (goes es (Some s)) = records_from (length events) room 2 s (rest_after events)

-- all records but the last
abbrev pub records : List ℕ → List ℕ → ℕ → List Entry
records events tape room =
    cond (length events == 0) [] (records_after_first room events (first_event (byte_cells tape) (event_in First events)))

-- the publication: those, and the end record with their number
abbrev pub publication : List ℕ → List ℕ → ℕ → List ℕ
publication events tape room =
    bytes_in (records events tape room) ++ bytes_of (ended (capped (length (records events tape room))))
