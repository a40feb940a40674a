-- A record that the writer accepts.
use Rattle.std.proofs.Common.{◌≡◌, ℕ, ◌+◌, ◌≤◌, true, ◌&&◌, leb, List, length, take, drop, Ok, refl, sym, ap, ◌∙◌, subst, zero-add, le-leb}
use Rattle.std.proofs.lemmas.List.{take_at}
use Rattle.record.specs.Kinds.{Entry, bytes_of}
use Rattle.record.specs.Writes.{number_of_counts, write_of, output_after, put, ReadsBack, Stored}
use Rattle.record.proofs.Puts.{Begun}
use Rattle.record.proofs.ReadBack.{Lawful, reads-back}

module _ (e : Entry) (xs : List ℕ) (some : 1 ≤ number_of_counts e) (few : number_of_counts e ≤ 8) (room : length (bytes_of e) ≤ length xs) where
  counted : (leb 1 (number_of_counts e) && leb (number_of_counts e) 8) ≡ true
  counted = rw (le-leb 1 (number_of_counts e) some, le-leb (number_of_counts e) 8 few)

  roomy : leb (length (bytes_of e)) (length xs) ≡ true
  roomy = le-leb (length (bytes_of e)) (length xs) room

  pub write-accepts : write_of e (length xs) ≡ Ok (length (bytes_of e))
  write-accepts = rw (counted, roomy)

  pub output-accepted : output_after e xs ≡ put 0 (bytes_of e) xs
  output-accepted = rw (counted, roomy, zero-add)

  pub wrote : {n : ℕ} {new : List ℕ} → Lawful e → n ≡ length (bytes_of e) → Begun (bytes_of e) xs new → Stored e xs (Ok n) new
  wrote {n} {new} lawful size begun =
      let front : take n new ≡ bytes_of e =
      ap (λ (k : ℕ). take k new) size ∙ (ap (λ (ys : List ℕ). take (length (bytes_of e)) ys) begun.is ∙ take_at (bytes_of e) (drop (0 + length (bytes_of e)) xs) (length (bytes_of e)) refl) in
      record {
        value = ap (λ (k : ℕ). Ok k) size ∙ sym write-accepts;
        after = begun.is ∙ sym output-accepted;
        reads_back = subst (λ (ys : List ℕ). ReadsBack ys e) (sym front) (reads-back e lawful);
      }
