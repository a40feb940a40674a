-- A publication on its way: the records written so far, and those to come.
use Rattle.std.proofs.Common.{◌≡◌, ℕ, zero, suc, ◌+◌, ◌-◌, ◌<◌, ◌≤◌, Bool, true, false, cond, eqb, leb, List, [], ◌∷◌, ◌++◌, length, Ok, Err, Result, sym, refl, ap, ◌∙◌, subst, ⊎_elim, arith}
use Rattle.std.proofs.lemmas.List.{append_assoc, append-nil}
use Rattle.std.proofs.lemmas.Bool.{cases_lt, eq-eqb, lt-ltb, ne_eqb}
use Rattle.fault.specs.Told.{Told}
use Rattle.record.specs.Kinds.{Entry, bytes_of, closing}
use Rattle.record.specs.Reads.{Answer, announced, faulty, found, nothing, rest_after}
use Rattle.publication.specs.Events.{event_in}
use Rattle.publication.specs.declared.event.Stage.TheVariants.{Later}
use Rattle.publication.specs.declared.work.InWork.{InWork}
use Rattle.runs.specs.Model as station
use Rattle.publishing.specs.Whole.{bytes_in, closed_record, closing_of, given, least_room, next_in, record_for, records_from, reply_of, rest_in, station_by}
use Rattle.publishing.specs.Written.{Wrote}
use Rattle.publishing.proofs.Rooms.{reply-fits}
use Rattle.publishing.proofs.Stops.{rest-shorter}
use Rattle.publishing.proofs.Writing.{wrote-more, wrote_none}

-- What an event gives, with so much room

one-long : (e : Entry) → length (bytes_in (e ∷ [])) ≡ length (bytes_of e)
one-long e = ap length (append-nil (bytes_of e))

-- of a station with 1 to 8 classes
abbrev pub FewClasses : station.Station → Type 0
FewClasses s = (1 ≤ s.setting.classes) × (s.setting.classes ≤ 8)

given-short : (event : ℕ) (s : station.Station) (a : Answer) → FewClasses s → length (bytes_in (given event s a)) ≤ 74
given-short event s nothing few = omega arith
given-short event s (found e) (some, few) = let f = reply-fits event s some few e in let l = one-long (record_for event (reply_of s e)) in let m = f.short in omega arith
given-short event s (faulty t) few = omega arith

-- with too little room, only a refused record; and then no event
module _ (event room : ℕ) (s : station.Station) (bs : List ℕ) (few : FewClasses s) where
  low-given : room < least_room → length (bytes_in (given event s (next_in room bs))) ≡ 16
  low-given h = ap (λ (b : Bool). length (bytes_in (given event s (cond b (faulty (station.tell 19 7 room)) (event_in Later bs))))) (lt-ltb room least_room h)

  low-rest : room < least_room → length (rest_in room bs) ≡ 0
  low-rest h = ap (λ (b : Bool). length (cond b [] (cond (leb (announced bs) (length bs)) (rest_after bs) []))) (lt-ltb room least_room h)

  -- the record fits, and leaves room for a close and the end; for a refused record too, where an event follows
  pub given-fits : 46 ≤ room → length (bytes_in (given event s (next_in room bs))) + 30 ≤ room
  given-fits h =
      ⊎_elim (λ (l : room < least_room). let g = low-given l in omega arith)
      (λ (l : least_room ≤ room). let g = given-short event s (next_in room bs) few in omega arith) (cases_lt room least_room)

  pub given-more : 46 ≤ room → 0 < length (rest_in room bs) → length (bytes_in (given event s (next_in room bs))) + 46 ≤ room
  given-more h some =
      ⊎_elim (λ (l : room < least_room). let g = low-rest l in absurd (omega arith))
      (λ (l : least_room ≤ room). let g = given-short event s (next_in room bs) few in omega arith) (cases_lt room least_room)

-- the records from an event on
from-none : (n room event : ℕ) (s : station.Station) (bs : List ℕ) → length bs ≡ 0 → records_from n room event s bs ≡ closing_of s
from-none zero room event s bs e = refl
from-none (suc n) room event s bs e = rw (eq-eqb (length bs) 0 e)

from_more : (n room event : ℕ) (s : station.Station) (bs : List ℕ) → 0 < length bs
    → records_from (suc n) room event s bs ≡ given event s (next_in room bs) ++ records_from n (room - length (bytes_in (given event s (next_in room bs)))) (suc event) (station_by s (next_in room bs)) (rest_in room bs)
from_more n room event s bs h = let none : eqb (length bs) 0 ≡ false = ne_eqb (length bs) 0 (λ e. omega (arith, e)) in rw none

-- from the start to a turn of the loop: the records so far, and enough events for those to come
pub record Going (start : station.Station) (work : InWork) (out events : List ℕ) (s : station.Station) (then : InWork) (done rest : List ℕ) (event : ℕ) : Type 0 where
  pub es : List Entry
  pub wrote : Wrote es work out then done
  pub to-come : records_from (length events) (length out - work.written) 2 start events ≡ es ++ records_from (length events + 2 - event) (length out - then.written) event s rest
  pub long : length done ≡ length out
  pub room : then.written + 30 ≤ length out
  pub more : 0 < length rest → then.written + 46 ≤ length out
  pub count : event + length rest ≤ length events + 2

pub going_start : (s : station.Station) (work : InWork) (out events : List ℕ) → work.written + 120 ≤ length out → Going s work out events s work out events 2
going_start s work out events room =
    record {
      es = [];
      wrote = wrote_none work out;
      to-come = ap (λ (n : ℕ). records_from n (length out - work.written) 2 s events) (omega arith);
      long = refl;
      room = omega arith;
      more = λ _. omega arith;
      count = omega arith;
    }

module _ {start : station.Station} {work : InWork} {out events : List ℕ} {s : station.Station} {then : InWork} {done rest : List ℕ} {event : ℕ}
    (going : Going start work out events s then done rest event) where
  written-room : work.written + length (bytes_in going.es) ≤ length out
  written-room = let w = going.wrote.written in let r = going.room in omega arith

  -- a turn
  module _ (few : FewClasses s) (some : 0 < length rest) (left : ℕ) (is : left ≡ length done - then.written) where
    left-room : 46 ≤ left
    left-room = let m = going.more some in let l = going.long in omega arith

    abbrev news : List Entry
    news = given event s (next_in left rest)

    pub turn-room : then.written + length (bytes_in news) ≤ length done
    turn-room = let f = given-fits event left s rest few left-room in omega arith

    come-by : (n : ℕ) → length rest ≤ n → records_from n left event s rest ≡ news ++ records_from (n - 1) (left - length (bytes_in news)) (suc event) (station_by s (next_in left rest)) (rest_in left rest)
    come-by zero h = absurd (omega arith)
    come-by (suc n) h =
        from_more n left event s rest some
        ∙ ap (λ (m : ℕ). news ++ records_from m (left - length (bytes_in news)) (suc event) (station_by s (next_in left rest)) (rest_in left rest)) (omega arith)

    module _ (last : InWork) (end tail : List ℕ) (after : station.Station)
        (wrote : Wrote news then done last end) (long : length end ≡ length done) (next : after ≡ station_by s (next_in left rest)) (rests : tail ≡ rest_in left rest) where
      written-news : last.written ≡ then.written + length (bytes_in news)
      written-news = wrote.written

      tail-long : length tail ≡ length (rest_in left rest)
      tail-long = ap length rests

      come : records_from (length events) (length out - work.written) 2 start events ≡ (going.es ++ news) ++ records_from (length events + 2 - (event + 1)) (length out - last.written) (event + 1) after tail
      come =
          let count = going.count in
          let f : length events + 2 - event - 1 ≡ length events + 2 - (event + 1) = omega arith in
          let r : length out - then.written ≡ left = let l = going.long in omega arith in
          let m : left - length (bytes_in news) ≡ length out - last.written = let l = going.long in let w = written-news in omega arith in
          let k : suc event ≡ event + 1 = omega arith in
          going.to-come
          ∙ ap (λ (n : ℕ). going.es ++ records_from (length events + 2 - event) n event s rest) r
          ∙ ap (λ (xs : List Entry). going.es ++ xs) (come-by (length events + 2 - event) (omega arith))
          ∙ ap (λ (n : ℕ). going.es ++ (news ++ records_from n (left - length (bytes_in news)) (suc event) (station_by s (next_in left rest)) (rest_in left rest))) f
          ∙ ap (λ (n : ℕ). going.es ++ (news ++ records_from (length events + 2 - (event + 1)) n (suc event) (station_by s (next_in left rest)) (rest_in left rest))) m
          ∙ ap (λ (n : ℕ). going.es ++ (news ++ records_from (length events + 2 - (event + 1)) (length out - last.written) n (station_by s (next_in left rest)) (rest_in left rest))) k
          ∙ ap (λ (x : station.Station). going.es ++ (news ++ records_from (length events + 2 - (event + 1)) (length out - last.written) (event + 1) x (rest_in left rest))) (sym next)
          ∙ ap (λ (xs : List ℕ). going.es ++ (news ++ records_from (length events + 2 - (event + 1)) (length out - last.written) (event + 1) after xs)) (sym rests)
          ∙ sym (append_assoc going.es news (records_from (length events + 2 - (event + 1)) (length out - last.written) (event + 1) after tail))

      pub going_on : Going start work out events after last end tail (event + 1)
      going_on =
          let shorter = rest-shorter rest left some in
          let fits = given-fits event left s rest few left-room in
          let w = written-news in
          let l = going.long in
          let t = tail-long in
          record {
            es = going.es ++ news;
            wrote = wrote-more going.es news work then last out done end written-room going.wrote wrote;
            to-come = come;
            long = long ∙ going.long;
            room = omega arith;
            more = λ h. let m = given-more event left s rest few left-room (omega arith) in omega arith;
            count = let c = going.count in omega arith;
          }

  -- the end
  pub going_end : (last : InWork) (end : List ℕ) → length rest ≡ 0 → Wrote (closing_of s) then done last end
      → Wrote (records_from (length events) (length out - work.written) 2 start events) work out last end
  going_end last end none wrote =
      let come : records_from (length events) (length out - work.written) 2 start events ≡ going.es ++ closing_of s =
      going.to-come ∙ ap (λ (xs : List Entry). going.es ++ xs) (from-none (length events + 2 - event) (length out - then.written) event s rest none) in
      subst (λ (xs : List Entry). Wrote xs work out last end) (sym come) (wrote-more going.es (closing_of s) work then last out done end written-room going.wrote wrote)

-- the record that closes an epoch, where one is open
closed-by : (b : Bool) (e x : Entry) (t : Told) → ◌≡◌ {A = Result Entry Told} (Ok x) (cond b (Ok e) (Err t)) → x ∷ [] ≡ cond b (e ∷ []) []
closed-by true e x t h = cc
closed-by false e x t h = let z : ◌≡◌ {A = ℕ} 0 1 = cc in absurd (omega arith)

pub closing-wrote : (s : station.Station) (x : Entry) (work then : InWork) (out done : List ℕ) → Ok x ≡ reply_of s closing → Wrote (x ∷ []) work out then done → Wrote (closing_of s) work out then done
closing-wrote s x work then out done h wrote =
    subst (λ (es : List Entry). Wrote es work out then done) (closed-by (station.is_open s.phase) (closed_record s) x _ h) wrote
