-- How long the record of a reply is.
use Rattle.std.proofs.Common.{ℕ, ◌≤◌, Bool, true, false, cond, List, map, length, ℤ, Some, None, Ok, Err, Option, arith, w64, of_z}
use Rattle.std.proofs.lemmas.List.FromFn.{length-map-range_with_len}
use Rattle.std.proofs.lemmas.List.{length-map}
use Rattle.fault.specs.Told.{Told}
use Rattle.record.specs.Kinds.{Entry, set_up, opening, stepping, closing, opened, published, closed, refused, ended, bytes_of, kind_of}
use Rattle.record.specs.Writes.{number_of_counts}
use Rattle.record.proofs.Digits.{length-spread}
use Rattle.runs.specs.Model as station
use Rattle.publishing.specs.Whole.{closed_record, misplaced, opened_record, record_of_published, record_for, reply_of, unless}

-- what adding a record asks of it
pub record Fits (e : Entry) : Type 0 where
  pub kind : (33 ≤ kind_of e) × (kind_of e ≤ 36)
  pub some : 1 ≤ number_of_counts e
  pub few : number_of_counts e ≤ 8
  pub short : length (bytes_of e) ≤ 74

fits_told : (t : Told) (event : ℕ) → Fits (record_for event (Err t))
fits_told t event = record { kind = (omega arith, omega arith); some = omega arith; few = omega arith; short = omega arith }

fits-published : (serial step : ℕ) (counts : List ℤ) → 1 ≤ length counts → length counts ≤ 8 → Fits (published serial step counts)
fits-published serial step counts some few =
    let l = length-spread 8 (map (of_z w64) counts) in
    let m = length-map counts (of_z w64) in
    record { kind = (omega arith, omega arith); some = some; few = few; short = omega arith }

fits-opened : (event : ℕ) (r : Option Told) (s : station.Station) → Fits (record_for event (unless r (opened_record s)))
fits-opened event None s = record { kind = (omega arith, omega arith); some = omega arith; few = omega arith; short = omega arith }
fits-opened event (Some t) s = fits_told t event

module _ (event : ℕ) (s : station.Station) (some : 1 ≤ s.setting.classes) (few : s.setting.classes ≤ 8) where
  fits-stepped : (cs : List ℕ) (r : Option Told) → Fits (record_for event (unless r (record_of_published (station.station_by r s (station.steps cs)))))
  fits-stepped cs (Some t) = fits_told t event
  fits-stepped cs None =
      let after = station.after_row s cs in
      let l = length-map-range_with_len (λ class. (station.lane_at (station.after_row s cs) class).published) 0 s.setting.classes in
      fits-published after.serial after.steps _ (omega arith) (omega arith)

  fits-closed : (b : Bool) → Fits (record_for event (cond b (Ok (closed_record s)) (Err (station.tell 6 2 0))))
  fits-closed true = record { kind = (omega arith, omega arith); some = omega arith; few = omega arith; short = omega arith }
  fits-closed false = fits_told (station.tell 6 2 0) event

  -- of a station with 1 to 8 classes
  pub reply-fits : (e : Entry) → Fits (record_for event (reply_of s e))
  reply-fits (opening t) = fits-opened event (station.refusal s (station.opens t)) (station.next s (station.opens t))
  reply-fits (stepping cs) = fits-stepped cs (station.refusal s (station.steps cs))
  reply-fits closing = fits-closed (station.is_open s.phase)
  reply-fits (set_up n k p g) = fits_told (misplaced (set_up n k p g)) event
  reply-fits (opened e t h) = fits_told (misplaced (opened e t h)) event
  reply-fits (published e t cs) = fits_told (misplaced (published e t cs)) event
  reply-fits (closed e t u) = fits_told (misplaced (closed e t u)) event
  reply-fits (refused n l p e) = fits_told (misplaced (refused n l p e)) event
  reply-fits (ended n) = fits_told (misplaced (ended n)) event
