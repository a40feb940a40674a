-- What reading record after record comes to.
use Rattle.std.specs.Prelude.{ℕ, zero, suc, ◌+◌, ◌-◌, Bool, true, false, cond, not, List, length, ◌==◌}
use Rattle.record.specs.Reads.{Answer, found, nothing, faulty, answer_to, rest_after}
use Rattle.listing.specs.declared.Summary.{Summary}

abbrev pub none : Summary
none = record { records = 0; faults = 0; bytes = 0 }

abbrev pub plus : Summary → Summary → Summary
plus a b = record { records = a.records + b.records; faults = a.faults + b.faults; bytes = a.bytes + b.bytes }

-- one reading that takes up n bytes
abbrev pub counted : Answer → ℕ → Summary
counted (found e) n = record { records = 1; faults = 0; bytes = n }
counted nothing n = none
counted (faulty t) n = record { records = 0; faults = 1; bytes = n }

-- nothing follows the last record, and nothing can be read behind one that is cut short
abbrev pub goes_on : Answer → Bool
goes_on (found e) = true
goes_on nothing = false
goes_on (faulty t) = not (t.number == 16)

-- the totals of at most k readings
abbrev pub totals_in : ℕ → List ℕ → Summary
totals_in zero bs = none
totals_in (suc k) bs =
    plus (counted (answer_to bs) (length bs - length (rest_after bs)))
    (cond (goes_on (answer_to bs)) (totals_in k (rest_after bs)) none)

-- the totals of all of them: each record takes up a byte at least
abbrev pub totals : List ℕ → Summary
totals bs = totals_in (length bs) bs
