use Rattle.std.proofs.Common.{get_or, pos, ◌-ℤ◌, ap, ◌∙◌, arith, w32, rules}
use lib.Count.{ones, ones-le}
use Rattle.std.proofs.lemmas.Int.{ints, to_z-of_z}
use Rattle.tape.proofs.Cells.{eight-coins, less-32}
use Rattle.tape.proofs.coin_cell.Goals as goal

pub overflow_sub-result : goal.overflow_sub-result
overflow_sub-result c =
    omega (arith, ints, ones-le 64 c.from_le_bytes.result c.from_le_bytes.type_inv)

pub returns : goal.returns
returns c =
    to_z-of_z w32 _ (overflow_sub-result c) ∙ less-32 c.from_le_bytes.result c.from_le_bytes.type_inv
    ∙ ap (λ n. pos n -ℤ pos 32)
    (ap ones c.from_le_bytes.ensures
    ∙ eight-coins (get_or c.args.eight 0 0) (get_or c.args.eight 1 0) (get_or c.args.eight 2 0) (get_or c.args.eight 3 0) (get_or c.args.eight 4 0) (get_or c.args.eight 5 0) (get_or c.args.eight 6 0) (get_or c.args.eight 7 0)
    (search rules) (search rules) (search rules) (search rules) (search rules) (search rules) (search rules) (search rules))
