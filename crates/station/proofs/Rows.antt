-- All classes: with no step taken, and a row taken, class after class.
use Rattle.std.proofs.Common.{◌≡◌, ℕ, suc, ◌+◌, ◌<◌, ◌≤◌, List, [], ◌∷◌, ◌++◌, map, length, get_or, take, drop, set, replicate, ℤ, pos, sym, refl, ap, ◌∙◌, append_assoc, append-nil, add-one, subst, arith}
use Rattle.std.proofs.Math.Seq.{take-append_seam}
use Rattle.std.specs.List.{All}
use Rattle.std.proofs.lemmas.List.{length-take-le, drop_more, drop-set-lt, map_push, take_more_set, drop_all, take_all}
use Rattle.std.proofs.lemmas.List.Elements.{All-head, All-push, All-rest, All-same, All-tail}
use Rattle.finisher.specs.Finishers.{Says, after, finishes}
use Rattle.tape.specs.Tapes.{undrawn}
use Rattle.runs.specs.Model as model
use Rattle.runs.specs.Model.{advance, all_advanced, release, says_after}
use Rattle.station.specs.declared.table.Lane.{Lane}
use Rattle.station.specs.Lanes.{advanced_by, lane_of, lanes_of, published_by}

-- what is written over the first places of a list stands at its front
pub written-front : (k : ℕ) (lanes new : List Lane) → k ≤ length lanes → length new ≡ length (take k lanes) → take k (new ++ drop k lanes) ≡ new
written-front k lanes new h e = subst (λ (n : ℕ). take n (new ++ drop k lanes) ≡ new) (e ∙ length-take-le k lanes h) (take-append_seam new (drop k lanes))

-- Classes with no step taken

abbrev pub Fresh : Lane → Type 0
Fresh lane = lane_of lane ≡ model.empty_lane

pub fresh-lanes : (lanes : List Lane) → All Fresh lanes → lanes_of lanes ≡ replicate (length lanes) model.empty_lane
fresh-lanes [] all = refl
fresh-lanes (lane ∷ lanes) all =
    let here : lane_of lane ≡ model.empty_lane = All-head Fresh lane lanes all in
    let more : lanes_of lanes ≡ replicate (length lanes) model.empty_lane = fresh-lanes lanes (All-tail Fresh lane lanes all) in
    cc

-- A row

-- the classes from one on, with the row and the next cells taken
abbrev pub ahead : ℕ → ℕ → List Lane → List ℕ → List ℤ → List model.Lane
ahead back class lanes row cells = all_advanced back (lanes_of (drop class lanes)) (drop class row) cells

ahead-more : (back class : ℕ) (lanes : List Lane) (row : List ℕ) (cells : List ℤ) (none : Lane) → class < length lanes → class < length row → 0 < length cells
    → ahead back class lanes row cells
    ≡ advance back (lane_of (get_or lanes class none)) (get_or row class 0) (get_or cells 0 (pos 0)) ∷ ahead back (class + 1) lanes row (undrawn cells)
ahead-more back class lanes row [] none a b c = absurd (omega arith)
ahead-more back class lanes row (z ∷ cells) none a b c = rw (drop_more lanes class none a, drop_more row class 0 b) refl

-- the classes below one are published, and the others still to come, as all of them and the finisher will be
abbrev pub Comes : List model.Lane → Says → Says → List Lane → ℕ → List model.Lane → Type 0
Comes whole ended says lanes class rest =
    (whole ≡ lanes_of (take class lanes) ++ published_by says class rest) × (ended ≡ says_after says class (map release rest))

pub comes-more : (whole : List model.Lane) (ended says later : Says) (back class : ℕ) (lanes : List Lane) (row : List ℕ) (cells left : List ℤ) (taken : model.Lane) (none new : Lane)
    → class < length lanes → class < length row → 0 < length cells
    → taken ≡ advance back (lane_of (get_or lanes class none)) (get_or row class 0) (get_or cells 0 (pos 0))
    → new.count ≡ taken.count → new.noise.items ≡ taken.noise → new.published ≡ says [] class (release taken)
    → later ≡ after (finishes class (release taken)) says → left ≡ undrawn cells
    → Comes whole ended says lanes class (ahead back class lanes row cells)
    → Comes whole ended later (set lanes class new) (class + 1) (ahead back (class + 1) (set lanes class new) row left)
comes-more whole ended says later back class lanes row cells left taken none new a b c e count noise published saying moved h =
    let peel : ahead back class lanes row cells ≡ taken ∷ ahead back (class + 1) lanes row (undrawn cells) =
    ahead-more back class lanes row cells none a b c ∙ ap (λ (x : model.Lane). x ∷ ahead back (class + 1) lanes row (undrawn cells)) (sym e) in
    let done : lanes_of (take (class + 1) (set lanes class new)) ≡ lanes_of (take class lanes) ++ lane_of new ∷ [] =
    ap lanes_of (take_more_set lanes class new a) ∙ map_push lane_of (take class lanes) new in
    let rest : drop (class + 1) (set lanes class new) ≡ drop (class + 1) lanes = drop-set-lt (class + 1) lanes class new (omega arith) in
    let here : lane_of new ≡ record { count = taken.count; noise = taken.noise; published = says [] class (release taken) } = cc in
    let next : class + 1 ≡ suc class = add-one class in (
      h.0 ∙ rw (peel, done, rest, here, saying, moved, append_assoc, next) refl,
      h.1 ∙ rw (peel, rest, saying, moved, next) refl,
    )

-- the cells past the last class do not matter
advanced-taken : (back : ℕ) (lanes : List model.Lane) (row : List ℕ) (cells : List ℤ) → all_advanced back lanes row (take (length row) cells) ≡ all_advanced back lanes row cells
advanced-taken back [] row cells = refl
advanced-taken back (lane ∷ lanes) [] cells = refl
advanced-taken back (lane ∷ lanes) (count ∷ row) [] = refl
advanced-taken back (lane ∷ lanes) (count ∷ row) (z ∷ cells) = ap (λ (more : List model.Lane). advance back lane count z ∷ more) (advanced-taken back lanes row cells)

pub comes-all : (begun says : Says) (back class : ℕ) (old lanes : List Lane) (row : List ℕ) (cells left : List ℤ) → length lanes ≤ class
    → Comes (published_by begun 0 (all_advanced back (lanes_of old) row cells)) (says_after begun 0 (map release (all_advanced back (lanes_of old) row cells))) says lanes class (ahead back class lanes row left)
    → (lanes_of lanes ≡ published_by begun 0 (advanced_by back old row cells))
    × (says ≡ says_after begun 0 (map release (advanced_by back old row cells)))
comes-all begun says back class old lanes row cells left h e =
    let none : drop class lanes ≡ [] = drop_all class lanes h in
    let whole : take class lanes ≡ lanes = take_all class lanes h in (
      rw (advanced-taken back (lanes_of old) row cells) (sym (rw (none, whole, append-nil) at e.0)),
      rw (advanced-taken back (lanes_of old) row cells) (sym (rw none at e.1)),
    )

-- so many steps
abbrev pub Stepped : ℕ → Lane → Type 0
Stepped steps lane = length lane.noise.items ≡ steps

-- the classes that have taken the row have one step more than the others
abbrev pub Uneven : ℕ → ℕ → List Lane → Type 0
Uneven steps class lanes = All (Stepped (steps + 1)) (take class lanes) × All (Stepped steps) (drop class lanes)

pub uneven-at : (steps class : ℕ) (lanes : List Lane) (lane : Lane) → class < length lanes → Uneven steps class lanes → length (get_or lanes class lane).noise.items ≡ steps
uneven-at steps class lanes lane a h =
    All-head (Stepped steps) _ _ (All-same (Stepped steps) _ _ (sym (drop_more lanes class lane a)) h.1)

pub uneven-all : (steps class : ℕ) (lanes : List Lane) → length lanes ≤ class → Uneven steps class lanes → All (Stepped (steps + 1)) lanes
uneven-all steps class lanes h all = All-same (Stepped (steps + 1)) _ _ (sym (take_all class lanes h)) all.0

pub uneven-more : (steps class : ℕ) (lanes : List Lane) (lane new : Lane) → class < length lanes → Stepped (steps + 1) new → Uneven steps class lanes → Uneven steps (class + 1) (set lanes class new)
uneven-more steps class lanes lane new a here h = (
  All-same (Stepped (steps + 1)) _ _ (take_more_set lanes class new a) (All-push (Stepped (steps + 1)) (take class lanes) new h.0 here),
  All-same (Stepped steps) _ _ (drop-set-lt (class + 1) lanes class new (omega arith)) (All-rest (Stepped steps) _ _ _ (drop_more lanes class lane a) h.1),
)
