-- Every published count is near its true count.
use Rattle.std.proofs.Common.{◌≡◌, ℕ, suc, ◌*◌, ◌^◌, ◌<◌, ◌≤◌, min, true, false, eqb, leb, List, [], ◌∷◌, ◌++◌, length, ℤ, Some, None, Option, sym, refl, ap, ◌∙◌, subst, mul-le-mul_right, mul-le-mul, mul-le-mul_left, arith, ne_eqb}
use borrow.Author.Tests.{lt-leb}
use Rattle.std.specs.List.{AllByRecursion}
use Rattle.std.proofs.lemmas.Int.{ints}
use Rattle.fault.specs.Told.{Told}
use Rattle.plan.specs.Plans.{horizon, breadth, cover}
use Rattle.plan.specs.Covers.{breadth-le, cover-breadth}
use Rattle.finisher.specs.Finishers.{Stands, Keeps, Within, count_limit}
use Rattle.finisher.specs.Finishers as finisher
use Rattle.runs.specs.Model.{Setting, Station, is_open, steps, reads, Answer, stepped, published, refusal, answer_by, station_by, answer, after_row, after_close, lane_at}
use Rattle.runs.specs.Runs.{answers, station_after, epoch_rows, true_count}
use Rattle.runs.specs.Law.{Making, LawfulMaking, Accurate, make}
use Rattle.runs.proofs.Facts.{step-facts}
use Rattle.runs.proofs.Lanes.{AllFrom, all-from-at}
use Rattle.runs.proofs.Noise.{NoiseBound, within-zero}
use Rattle.runs.proofs.Standing.{Stand, Quiet}
use Rattle.runs.proofs.Track.{few-by, narrow-rows, row_cells, stand-open, stand-step}
use Rattle.runs.proofs.Follow.{Carried, Keeping, keep, answers_push, station-push, answer-is}

pub stepped_by : (s : Station) (row : List ℕ) (step : ℕ) (o : Option Told) → answer_by o s (steps row) ≡ stepped step → (o ≡ None) × (suc s.steps ≡ step)
stepped_by s row step (Some told) e = let z : ◌≡◌ {A = ℕ} 0 1 = cc in absurd (omega arith)
stepped_by s row step None e = (refl, cc)

-- a read of a class there is, after a step
pub read_by : (s : Station) (class : ℕ) → class < s.setting.classes → (s.steps ≡ 0 → ⊥) → answer s (reads class) ≡ published (lane_at s class).published
read_by s class h n =
    let a : leb s.setting.classes class ≡ false = lt-leb s.setting.classes class h in
    let b : eqb s.steps 0 ≡ false = ne_eqb s.steps 0 n in
    rw (a, b)

min-within : (a b : ℕ) (cells : List ℤ) → AllByRecursion (λ cell. Within a cell 0) cells → AllByRecursion (λ cell. Within b cell 0) cells → AllByRecursion (λ cell. Within (min a b) cell 0) cells
min-within a b [] h k = tt
min-within a b (c ∷ cells) (h, hs) (k, ks) =
    ((omega (arith, ints, h.0, h.1, k.0, k.1), omega (arith, ints, h.0, h.1, k.0, k.1)), min-within a b cells hs ks)

within_more : (b c n : ℕ) (z : ℤ) → b ≤ c → Within b z n → Within c z n
within_more b c n z h w = (omega (arith, ints, w.0, w.1), omega (arith, ints, w.0, w.1))

module _ (p : Making) (lawful : LawfulMaking p) (stands : Stands) (keeps : Keeps p.says stands) where
  -- where the finisher stands while an epoch is open
  abbrev Steady : List finisher.Call → Station → Type 0
  Steady l s = is_open s.phase ≡ true → AllFrom (Stand p.says stands keeps l) 0 s.lanes

  never-open : (l : List finisher.Call) (s : Station) → is_open s.phase ≡ false → Steady l s
  never-open l s h o = let z : ◌≡◌ {A = ℕ} 0 1 = cc in absurd (omega arith)

  steady : Carried p Steady
  steady =
      record {
        at-start = never-open [] (make p) refl;
        at_open = λ s n rows l t epoch _. stand-open p lawful s n rows l t stands keeps epoch;
        at-step = λ s n rows l t row f h q _. stand-step p lawful s n rows l t row f h stands keeps (q f.inside);
        at-close = λ s l q. never-open l (after_close s) refl;
      }

  abbrev Following : Station → ℕ → List (List ℕ) → Type 0
  Following = Keeping p lawful Steady steady

  -- a class of a station that has an open epoch
  near-class : (s : Station) (n : ℕ) (rows : List (List ℕ)) (a class : ℕ) → Following s n rows → is_open s.phase ≡ true → s.steps ≤ horizon → AllByRecursion (λ cell. Within a cell 0) (row_cells p n (length rows)) → class < s.setting.classes → Within (a * breadth p.back s.steps) (lane_at s class).published (true_count class rows)
  near-class s n rows a class f inside few w h =
      let a' = min a (2 ^ 31) in
      let w' = min-within a (2 ^ 31) (row_cells p n (length rows)) w (narrow-rows p lawful n (length rows)) in
      let lanes-long = f.sound.lanes-long in
      let c : class < length s.lanes = omega arith in
      let noise = all-from-at (λ _ lane. NoiseBound a' p.back lane.noise) 0 s.lanes class c (f.track.noise a' w') in
      let long = all-from-at (λ _ lane. length lane.noise ≡ s.steps) 0 s.lanes class c f.sound.noise-long in
      let count = all-from-at (λ k lane. lane.count ≡ true_count k rows) 0 s.lanes class c f.track.counts in
      let stand = all-from-at (Stand p.says stands keeps f.calls) 0 s.lanes class c (f.fact inside) in
      let wide = breadth-le p.back s.steps in
      let e = a' * breadth p.back s.steps in
      let le1 : a' ≤ 2 ^ 31 = omega arith in
      let le2 : breadth p.back s.steps ≤ 1024 = omega arith in
      let bound : e ≤ 2 ^ 31 * 1024 = mul-le-mul le1 le2 in
      let quiet : Quiet e (lane_at s class).noise = λ i k. within-zero (a' * length (cover p.back i)) e _ (mul-le-mul_left a' (cover-breadth p.back s.steps i (omega arith))) (noise i k) in
      let near = (stand e (omega arith) quiet).1 in
      let counted : (lane_at s class).count ≡ true_count class rows = count ∙ ap (λ (k : ℕ). true_count k rows) (omega arith) in
      within_more e (a * breadth p.back s.steps) (true_count class rows) _ (mul-le-mul_right (breadth p.back s.steps) (omega arith)) (subst (λ (k : ℕ). Within e (lane_at s class).published k) counted near)

  pub accurate : Accurate p
  accurate calls row step a class told w h =
      let s = station_after (make p) calls in
      let t = station_after (make p) (calls ++ steps row ∷ []) in
      let by = stepped_by s row step (refusal s (steps row)) (answer-is (make p) calls (steps row) (stepped step) told) in
      let facts = step-facts s row by.0 in
      let is : t ≡ after_row s row = station-push (make p) calls (steps row) ∙ ap (λ (o : Option Told). station_by o s (steps row)) by.0 in
      let before = keep p lawful Steady steady calls in
      let f = keep p lawful Steady steady (calls ++ steps row ∷ []) in
      let at-step : t.steps ≡ step = ap (λ (x : Station). x.steps) is ∙ by.1 in
      let inside : is_open t.phase ≡ true = ap (λ (x : Station). is_open x.phase) is ∙ facts.inside in
      let few = few-by s.back s.held s.steps s.phase facts.more before.sound.phase-sound in
      let some : class < t.setting.classes = subst (λ (x : Setting). class < x.classes) (sym f.track.setting) h in
      let near = near-class t _ _ a class f inside (omega (arith, at-step, by.1)) w some in (
        (lane_at t class).published,
        answers_push (make p) (calls ++ steps row ∷ []) (reads class) ∙ ap (λ (x : Answer). answers (make p) (calls ++ steps row ∷ []) ++ x ∷ []) (read_by t class some (λ z. omega (arith, at-step, by.1))),
        subst (λ (k : ℕ). Within (a * breadth p.back k) (lane_at t class).published (true_count class (epoch_rows [] (calls ++ steps row ∷ []) (answers (make p) (calls ++ steps row ∷ []))))) at-step near,
      )
