-- A field's number by its bytes.
use Rattle.std.proofs.Common.{◌≡◌, ℕ, suc, ◌+◌, ◌*◌, ◌<◌, ◌≤◌, List, length, get_or, take, refl, ap, ◌∙◌, arith}
use Rattle.std.proofs.lemmas.List.{drop_more}
use Rattle.record.specs.Little.{value, field}

field-more : (i j w : ℕ) (bs : List ℕ) → i < length bs → i + 1 ≡ j → field i (suc w) bs ≡ get_or bs i 0 + 256 * field j w bs
field-more i j w bs h e =
    ap (λ (xs : List ℕ). value (take (suc w) xs)) (drop_more bs i 0 h) ∙ ap (λ (k : ℕ). get_or bs i 0 + 256 * field k w bs) e

pub field-2 : (i : ℕ) (bs : List ℕ) → i + 2 ≤ length bs → field i 2 bs ≡ get_or bs i 0 + get_or bs (i + 1) 0 * 256
field-2 i bs h =
    omega (arith, field-more i (i + 1) 1 bs (omega arith) refl, field-more (i + 1) (i + 2) 0 bs (omega arith) (omega arith))
