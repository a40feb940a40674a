-- What the writer answers and stores, and the two laws that tie it to the reader.
use Rattle.std.specs.Prelude.{◌≡◌, ℕ, ◌+◌, cond, ◌&&◌, List, ◌++◌, length, take, drop, is_ok, Ok, Err, Result, IfOk, nat_le}
use Rattle.fault.specs.Told.{Told}
use Rattle.record.specs.Kinds.{Entry, set_up, opening, stepping, closing, opened, published, closed, refused, ended, bytes_of}
use Rattle.record.specs.Reads.{found, answer_to, rest_after}

-- how many counts an entry has; a kind that has none is never refused for them, and stands here with 1
abbrev pub number_of_counts : Entry → ℕ
number_of_counts (set_up s k p g) = 1
number_of_counts (opening t) = 1
number_of_counts (stepping cs) = length cs
number_of_counts closing = 1
number_of_counts (opened e t h) = 1
number_of_counts (published e t cs) = length cs
number_of_counts (closed e t s) = 1
number_of_counts (refused n l p e) = 1
number_of_counts (ended n) = 1

-- the bytes stored, or the refusal, with this many bytes of room
abbrev pub write_of : Entry → ℕ → Result ℕ Told
write_of e room =
    cond (nat_le 1 (number_of_counts e) && nat_le (number_of_counts e) 8)
    (cond (nat_le (length (bytes_of e)) room) (Ok (length (bytes_of e))) (Err (record { number = 19; layer = 7; place = room })))
    (Err (record { number = 18; layer = 1; place = number_of_counts e }))

-- the output after it: the record at its start, or nothing changed
abbrev pub output_after : Entry → List ℕ → List ℕ
output_after e out = cond (is_ok (write_of e (length out))) (bytes_of e ++ drop (length (bytes_of e)) out) out

-- a list with ys laid over it from a place on
abbrev pub put : {A : Type 0} → ℕ → List A → List A → List A
put at ys xs = take at xs ++ ys ++ drop (at + length ys) xs

-- the bytes read back as the entry, whatever follows them
abbrev pub ReadsBack : List ℕ → Entry → Type 0
ReadsBack bytes e = (tail : List ℕ) → (answer_to (bytes ++ tail) ≡ found e) × (rest_after (bytes ++ tail) ≡ tail)

-- what a write of an entry answers and stores, and that it reads back
pub record Stored (e : Entry) (old : List ℕ) (answer : Result ℕ Told) (new : List ℕ) : Type 0 where
  pub value : answer ≡ write_of e (length old)
  pub after : new ≡ output_after e old
  pub reads_back : IfOk answer (λ n. ReadsBack (take n new) e)
