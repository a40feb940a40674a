use Rattle.std.proofs.Common.{◌≡◌, ℕ, List, [], ◌∷◌, map, ◌++◌, ℤ, ap, ◌∙◌, arith, w64, to_z, of_z, SFits}
use Rattle.std.proofs.lemmas.Int.{to_z-of_z}
use Rattle.std.specs.List.{range_with_len}
use Rattle.arrayvec.specs.ArrayVec.{array_vec_len}
use Rattle.record.specs.Little.{little}
use Rattle.runs.specs.Model as model
use Rattle.station.specs.View.{view_of}
use Rattle.publishing.proofs.Calls.{read-ok, same-ok}
use Rattle.publishing.proofs.Tallies.{little-eight, stored-all, stored-long, stored_more}
use Rattle.publishing.proofs.keeper.Keeper.published.Goals as goal

pub push-requires : goal.push-requires
push-requires g c =
    let s = view_of g.P.Plan.back g.T.Tape.cells g.F.Finisher.says c.args.self.now.station in
    let few = c.args.self.now.station.table.some.1 in
    let all = c.requires.all in
    let long = stored-long (λ class. (model.lane_at s class).published) c.loop-class.class c.loop-class.counts.items c.loop-class.invariant in
    omega arith

pub loop-class-preserved : goal.loop-class-preserved
loop-class-preserved g c =
    let s = view_of g.P.Plan.back g.T.Tape.cells g.F.Finisher.says c.args.self.now.station in
    let count = c.unwrap-count.result in
    let class = c.loop-class.class in
    let parts = c.loop-class.counts.items in
    let all = c.requires.all in
    let fits : SFits w64 count = record { sfits = c.unwrap-count.type_inv } in
    let eight : c.to_le_bytes.result ≡ little 8 (of_z w64 count) =
    c.to_le_bytes.ensures ∙ (little-eight (of_z w64 (to_z w64 (of_z w64 count))) ∙ ap (λ (z : ℤ). little 8 (of_z w64 z)) (to_z-of_z w64 count fits)) in
    stored_more (λ class. (model.lane_at s class).published) class parts c.push.new.self.items count fits
    (same-ok c.read.result count _ c.unwrap-count.ensures (read-ok s class c.read.result (omega arith) c.requires.stepped c.read.ensures))
    c.loop-class.invariant
    (c.push.ensures.items ∙ ap (λ (x : List ℕ). parts ++ x ∷ []) eight)

pub returns : goal.returns
returns g c =
    let s = view_of g.P.Plan.back g.T.Tape.cells g.F.Finisher.says c.args.self.now.station in
    let all = c.requires.all in
    let same : c.loop-class.class ≡ c.args.self.now.station.table.classes = omega arith in
    stored-all (λ class. (model.lane_at s class).published) c.loop-class.class c.loop-class.counts.items c.loop-class.invariant
    ∙ ap (λ (n : ℕ). map (λ class. (model.lane_at s class).published) (range_with_len 0 n)) same
