-- Which event records a publication takes, and when.
use Rattle.std.specs.Prelude.{ℕ, Bool, cond, not, ◌&&◌, List, length, ◌==◌, nat_le}
use Rattle.record.specs.Little.{field}
use Rattle.record.specs.Reads.{Answer, announced, answer_to, refusal}
use Rattle.publication.specs.declared.event.Stage.{Stage}
use Rattle.publication.specs.declared.event.Stage.TheVariants.{First, Later}

-- a set-up first, then opens, steps and closes
abbrev pub allowed : Stage → ℕ → Bool
allowed First kind = kind == 1
allowed Later kind = nat_le 2 kind && nat_le kind 4

-- a whole record of a kind that is not allowed is refused for its kind, whatever its length; to all else the reader answers
abbrev pub event_in : Stage → List ℕ → Answer
event_in stage bs =
    cond (nat_le (announced bs) (length bs) && not (allowed stage (field 2 2 bs))) (refusal 17 (field 2 2 bs)) (answer_to bs)
