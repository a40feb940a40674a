-- The counts of a row or a tally fit their bytes.
use Rattle.std.proofs.Common.{ℕ, ◌/◌, ◌^◌, ◌<◌, List, length, arith, w64, SFits, to_z}
use mir.ValLaws.{to_z-Fits}
use Rattle.std.specs.List.{AllByRecursion}
use Rattle.std.proofs.ByRecursion.{All-map, All-weaker}
use Rattle.record.specs.Little.{numbers}
use Rattle.record.specs.Kinds.{row_in, tally_in}
use Rattle.record.specs.Counted.{Bytes, numbers-lt, tally-bits}

module _ (bs : List ℕ) (all : Bytes bs) where
  pub row_fits : AllByRecursion (λ n. n < 2 ^ 16) (row_in bs)
  row_fits = numbers-lt 2 (length bs / 2) bs (omega arith) all

  pub tally-fits : AllByRecursion (SFits w64) (tally_in bs)
  tally-fits = All-map (SFits w64) (to_z w64) (numbers 8 (length bs / 8) bs) (All-weaker (λ n. n < 2 ^ 64) (λ n. SFits w64 (to_z w64 n)) (λ n h. to_z-Fits w64 n (record { fits = h })) (numbers 8 (length bs / 8) bs) (tally-bits bs all))
