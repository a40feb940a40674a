-- The nine kinds of records, and how each is written.
use Rattle.std.specs.Prelude.{ℕ, ◌/◌, List, [], ◌++◌, map, length, ℤ}
use Rattle.std.proofs.Common.{to_z, of_z}
use Rattle.std.specs.Int.{w64}
use Rattle.record.specs.Little.{little, numbers, spread}

pub data Entry : Type 0 where
  set_up : (station classes plan grant : ℕ) → Entry
  opening : (horizon : ℕ) → Entry
  stepping : (counts : List ℕ) → Entry
  closing : Entry
  opened : (serial horizon held : ℕ) → Entry
  published : (serial step : ℕ) (counts : List ℤ) → Entry
  closed : (serial steps spent : ℕ) → Entry
  refused : (number layer place event : ℕ) → Entry
  ended : (records : ℕ) → Entry

-- counts of two bytes; a byte over is ignored
abbrev pub row_in : List ℕ → List ℕ
row_in bs = numbers 2 (length bs / 2) bs

-- signed counts of eight bytes, in two's complement; bytes over are ignored
abbrev pub tally_in : List ℕ → List ℤ
tally_in bs = map (to_z w64) (numbers 8 (length bs / 8) bs)

abbrev pub kind_of : Entry → ℕ
kind_of (set_up s k p g) = 1
kind_of (opening t) = 2
kind_of (stepping cs) = 3
kind_of closing = 4
kind_of (opened e t h) = 33
kind_of (published e t cs) = 34
kind_of (closed e t s) = 35
kind_of (refused n l p e) = 36
kind_of (ended n) = 37

abbrev pub body_of : Entry → List ℕ
body_of (set_up s k p g) = little 4 s ++ little 2 k ++ little 2 p ++ little 4 g
body_of (opening t) = little 2 t
body_of (stepping cs) = spread 2 cs
body_of closing = []
body_of (opened e t h) = little 4 e ++ little 2 t ++ little 4 h
body_of (published e t cs) = little 4 e ++ little 2 t ++ spread 8 (map (of_z w64) cs)
body_of (closed e t s) = little 4 e ++ little 2 t ++ little 4 s
body_of (refused n l p e) = little 2 n ++ little 2 l ++ little 4 p ++ little 4 e
body_of (ended n) = little 4 n

-- a record's bytes: body length, kind, body
abbrev pub bytes_of : Entry → List ℕ
bytes_of r = little 2 (length (body_of r)) ++ little 2 (kind_of r) ++ body_of r
