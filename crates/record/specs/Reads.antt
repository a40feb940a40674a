-- What the reader answers to any bytes.
use Rattle.std.specs.Prelude.{ℕ, ◌+◌, ◌-◌, ◌/◌, ◌%◌, Bool, cond, ◌&&◌, List, length, take, drop, ◌==◌, nat_le}
use Rattle.fault.specs.Told.{Told}
use Rattle.record.specs.Little.{field}
use Rattle.record.specs.Kinds.{Entry, set_up, opening, stepping, closing, opened, published, closed, refused, ended, row_in, tally_in}

pub data Answer : Type 0 where
  found : Entry → Answer
  nothing : Answer
  faulty : Told → Answer

-- the refusals of the record layer
abbrev pub refusal : ℕ → ℕ → Answer
refusal number place = faulty (record { number = number; layer = 1; place = place })

-- one to eight counts of w bytes
abbrev pub has_few_counts : ℕ → ℕ → Bool
has_few_counts w n = n % w == 0 && (nat_le 1 (n / w) && nat_le (n / w) 8)

-- the entry, where the body's length suits its kind
abbrev pub suited : Bool → List ℕ → Entry → Answer
suited fits body e = cond fits (found e) (refusal 18 (length body))

-- a body by its kind
abbrev pub decode : ℕ → List ℕ → Answer
decode kind b =
    cond (kind == 1) (suited (length b == 12) b (set_up (field 0 4 b) (field 4 2 b) (field 6 2 b) (field 8 4 b)))
    (cond (kind == 2) (suited (length b == 2) b (opening (field 0 2 b)))
    (cond (kind == 3) (suited (has_few_counts 2 (length b)) b (stepping (row_in b)))
    (cond (kind == 4) (suited (length b == 0) b closing)
    (cond (kind == 33) (suited (length b == 10) b (opened (field 0 4 b) (field 4 2 b) (field 6 4 b)))
    (cond (kind == 34) (suited (nat_le 6 (length b) && has_few_counts 8 (length b - 6)) b (published (field 0 4 b) (field 4 2 b) (tally_in (drop 6 b))))
    (cond (kind == 35) (suited (length b == 10) b (closed (field 0 4 b) (field 4 2 b) (field 6 4 b)))
    (cond (kind == 36) (suited (length b == 12) b (refused (field 0 2 b) (field 2 2 b) (field 4 4 b) (field 8 4 b)))
    (cond (kind == 37) (suited (length b == 4) b (ended (field 0 4 b)))
    (refusal 17 kind)))))))))

-- the length of the record that the bytes announce, header and body
abbrev pub announced : List ℕ → ℕ
announced bs = 4 + field 0 2 bs

-- the body that they announce
abbrev pub body_in : List ℕ → List ℕ
body_in bs = take (field 0 2 bs) (drop 4 bs)

-- the first record
abbrev pub answer_to : List ℕ → Answer
answer_to bs =
    cond (length bs == 0) nothing
    (cond (nat_le (announced bs) (length bs)) (decode (field 2 2 bs) (body_in bs))
    (refusal 16 (length bs)))

-- the bytes that follow it; those of a record that is cut short stay
abbrev pub rest_after : List ℕ → List ℕ
rest_after bs = cond (nat_le (announced bs) (length bs)) (drop (announced bs) bs) bs
