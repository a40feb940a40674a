-- What is published is the finisher's answer to the true count plus the noise of the cover.
use Rattle.std.proofs.Common.{◌≡◌, ℕ, zero, suc, ◌+◌, ◌-◌, ◌*◌, ◌<◌, ◌≤◌, min, true, List, [], ◌∷◌, ◌++◌, map, length, get_or, take, replicate, ℤ, pos, ◌+ℤ◌, Some, None, Option, sym, refl, ap, ◌∙◌, subst, ⊎_elim, arith}
use Rattle.std.specs.List.{range_with_len}
use Rattle.std.proofs.lemmas.List.{append-nil, append_assoc, get_or-take, get_or-drop, length_push, length-map, length-take}
use Rattle.fault.specs.Told.{Told}
use Rattle.plan.specs.Plans.{horizon, cover, back_asked, depth, depth_asked}
use Rattle.plan.proofs.Asked.{asked, back-asked}
use Rattle.plan.specs.Covers.{cover-suc, cover-zero}
use Rattle.plan.specs.Parts.{depth-grows}
use Rattle.finisher.specs.Finishers.{Says, after}
use Rattle.finisher.specs.Finishers as finisher
use Rattle.runs.specs.Model.{Setting, Station, Lane, Phase, idle, running, is_open, units_of, Call, opens, steps, closes, reads, balances, Answer, stepped, closed, published, refusal, answer_by, station_by, answer, next, noise_after, advance, all_advanced, advanced, release, answers_to, all_published, empty_lane, lane_at, after_open, after_row, after_close}
use Rattle.runs.specs.Runs.{answers, station_after, rows_taken, epoch_after, epoch_rows, true_count}
use Rattle.runs.specs.Law.{Making, LawfulMaking, make, cell_at, cover_noise, release_of, row_finishes, finishes_for, finisher_calls, Published, SpendsDepth}
use Rattle.runs.proofs.Facts.{le-or-gt, Steps, step-facts, open-facts, close_facts}
use Rattle.runs.proofs.Lanes.{AllFrom, all-from-both, all-from-weaker, publish-all, length-answers}
use Rattle.runs.proofs.Noise.{noise-old, noise-new}
use Rattle.runs.proofs.Sound.{Sound, PhaseSound, sound-made, sound-open, sound-step, sound-close, advanced-long}
use Rattle.runs.proofs.Standing.{finishes_of}
use Rattle.runs.proofs.Track.{Track, track-made, track-open, track-close, track-step, few-by, counts-now, long-now}
use Rattle.runs.proofs.Follow.{answers_push, station-push, answer-is, rows-taken-more}
use Rattle.runs.proofs.Accuracy.{stepped_by, read_by}

-- each noise of a class is that of a cover
abbrev Covered : Making → ℕ → ℕ → Lane → Type 0
Covered p before class lane = (i : ℕ) → i ≤ length lane.noise → noise_after lane.noise i ≡ cover_noise p before class (cover p.back i)

new-covered : (p : Making) (before class n : ℕ) → AllFrom (Covered p before) class (replicate n empty_lane)
new-covered p before class zero = tt
new-covered p before class (suc n) = (first-noise, new-covered p before (suc class) n)
  where
    first-noise : Covered p before class empty_lane
    first-noise zero h = ap (cover_noise p before class) (sym (cover-zero p.back))
    first-noise (suc i) h = absurd (omega arith)

-- cells by their classes
abbrev AllCells : (ℕ → ℤ → Type 0) → ℕ → List ℤ → Type 0
AllCells S class [] = Unit {0}
AllCells S class (c ∷ cells) = S class c × AllCells S (suc class) cells

cells-from : (S : ℕ → ℤ → Type 0) (class : ℕ) (cells : List ℤ) → ((i : ℕ) → i < length cells → S (class + i) (get_or cells i (pos 0))) → AllCells S class cells
cells-from S class [] f = tt
cells-from S class (c ∷ cells) f = (
  subst (λ (k : ℕ). S k c) (omega arith) (f 0 (omega arith)),
  cells-from S (suc class) cells (λ i h. subst (λ (k : ℕ). S k (get_or cells i (pos 0))) (omega arith) (f (suc i) (omega arith))),
)

advance-cells : (P Q : ℕ → Lane → Type 0) (S : ℕ → ℤ → Type 0) (back : ℕ) → ((class : ℕ) (lane : Lane) (x : ℕ) (cell : ℤ) → P class lane → S class cell → Q class (advance back lane x cell)) → (class : ℕ) (lanes : List Lane) (row : List ℕ) (cells : List ℤ) → AllFrom P class lanes → AllCells S class cells → AllFrom Q class (all_advanced back lanes row cells)
advance-cells P Q S back f class [] row cells h s = tt
advance-cells P Q S back f class (lane ∷ lanes) [] cells h s = tt
advance-cells P Q S back f class (lane ∷ lanes) (x ∷ row) [] h s = tt
advance-cells P Q S back f class (lane ∷ lanes) (x ∷ row) (c ∷ cells) (h, hs) (s, ss) =
    (f class lane x c h s, advance-cells P Q S back f (suc class) lanes row cells hs ss)

-- one step more of a class
module _ (p : Making) (lawful : LawfulMaking p) (before t : ℕ) (few : suc t ≤ horizon) where
  covered_more : (class : ℕ) (lane : Lane) (x : ℕ) (cell : ℤ) → Covered p before class lane × (length lane.noise ≡ t) → cell ≡ cell_at p (p.setting.classes * (before + t) + class) → Covered p before class (advance (back_asked p.back (suc t)) lane x cell)
  covered_more class lane x cell (h, long) e i k =
      let noise = lane.noise in
      let b = back-asked p.back (suc t) (omega arith) few in
      let f = lawful.falls (suc t) (omega arith) few in
      let m = cell +ℤ noise_after noise (back_asked p.back (suc t)) in
      let n = length_push noise m in
      ⊎_elim
      (λ (le : i ≤ t). noise-old noise m i (omega arith) ∙ h i (omega arith))
      (λ (gt : t < i).
      let is : i ≡ suc t = omega arith in
      let c = cover-suc p.back horizon lawful.falls t few in
      let old : noise_after noise (back_asked p.back (suc t)) ≡ cover_noise p before class (cover p.back (p.back (suc t))) = ap (noise_after noise) b ∙ h (p.back (suc t)) (omega arith) in
      let head : cell ≡ cell_at p (p.setting.classes * (before + (suc t - 1)) + class) = e ∙ ap (λ (j : ℕ). cell_at p (p.setting.classes * (before + j) + class)) (omega arith) in
      let newest : noise_after (noise ++ m ∷ []) (suc t) ≡ cover_noise p before class (cover p.back (suc t)) =
      noise-new noise m t long ∙ (ap (λ (z : ℤ). z +ℤ noise_after noise (back_asked p.back (suc t))) head ∙ (ap (λ (z : ℤ). cell_at p (p.setting.classes * (before + (suc t - 1)) + class) +ℤ z) old ∙ ap (cover_noise p before class) (sym c))) in
      subst (λ (j : ℕ). noise_after (noise ++ m ∷ []) j ≡ cover_noise p before class (cover p.back j)) (sym is) newest)
      (le-or-gt i t)

-- the finishes of a row, by its releases
finishes-same : (f : ℕ → ℤ) (class : ℕ) (lanes : List Lane) → AllFrom (λ c lane. release lane ≡ f c) class lanes → finishes_of class (map release lanes) ≡ map (λ c. finisher.finishes c (f c)) (range_with_len class (length lanes))
finishes-same f class [] h = refl
finishes-same f class (lane ∷ lanes) (h, hs) =
    let a : finisher.finishes class (release lane) ≡ finisher.finishes class (f class) = ap (finisher.finishes class) h in
    let e : suc class ≡ class + 1 = omega arith in
    let b : finishes_of (suc class) (map release lanes) ≡ map (λ c. finisher.finishes c (f c)) (range_with_len (class + 1) (length lanes)) =
    finishes-same f (suc class) lanes hs ∙ ap (λ (k : ℕ). map (λ c. finisher.finishes c (f c)) (range_with_len k (length lanes))) e in
    cc

answer_at : (says : Says) (k : ℕ) (zs : List ℤ) (c : ℕ) → c < length zs → get_or (answers_to says k zs) c (pos 0) ≡ says (take c (finishes_of k zs)) (k + c) (get_or zs c (pos 0))
answer_at says k [] c h = absurd (omega arith)
answer_at says k (z ∷ zs) zero h = ap (λ (n : ℕ). says [] n z) (omega arith)
answer_at says k (z ∷ zs) (suc c) h =
    answer_at (after (finisher.finishes k z) says) (suc k) zs c (omega arith) ∙ ap (λ (n : ℕ). says (finisher.finishes k z ∷ take c (finishes_of (suc k) zs)) n (get_or zs c (pos 0))) (omega arith)

published-at : (lanes : List Lane) (zs : List ℤ) (c : ℕ) → length zs ≡ length lanes → c < length lanes → (get_or (all_published lanes zs) c empty_lane).published ≡ get_or zs c (pos 0)
published-at [] zs c n h = absurd (omega arith)
published-at (lane ∷ lanes) [] c n h = absurd (omega arith)
published-at (lane ∷ lanes) (z ∷ zs) zero n h = refl
published-at (lane ∷ lanes) (z ∷ zs) (suc c) n h = published-at lanes zs c (omega arith) (omega arith)

release-at : (f : ℕ → ℤ) (class : ℕ) (lanes : List Lane) (c : ℕ) → c < length lanes → AllFrom (λ k lane. release lane ≡ f k) class lanes → get_or (map release lanes) c (pos 0) ≡ f (class + c)
release-at f class [] c h a = absurd (omega arith)
release-at f class (lane ∷ lanes) zero h (a, as') = a ∙ ap f (omega arith)
release-at f class (lane ∷ lanes) (suc c) h (a, as') = release-at f (suc class) lanes c (omega arith) as' ∙ ap f (omega arith)

-- a run so far, with the finisher's calls as the transcript has them
record Exact (p : Making) (s : Station) (n : ℕ) (rows : List (List ℕ)) (l : List finisher.Call) : Type 0 where
  track : Track p s n rows l
  sound : Sound s
  covers : AllFrom (Covered p (n - length rows)) 0 s.lanes

module _ (p : Making) (lawful : LawfulMaking p) where
  -- one row more
  module _ (s : Station) (n : ℕ) (rows : List (List ℕ)) (l : List finisher.Call) (x : Exact p s n rows l) (row : List ℕ) (f : Steps s row) where
    t : Track p s n rows l
    t = x.track

    few : suc s.steps ≤ horizon
    few = few-by s.back s.held s.steps s.phase f.more x.sound.phase-sound

    same-classes : s.setting.classes ≡ p.setting.classes
    same-classes = ap (λ (y : Setting). y.classes) x.track.setting

    all-drawn : (n - length rows) + s.steps ≡ n
    all-drawn = let a = x.track.rows_long in let b = x.track.rows_few in omega arith

    own-cells : AllCells (λ class cell. cell ≡ cell_at p (p.setting.classes * ((n - length rows) + s.steps) + class)) 0 (take s.setting.classes s.cells)
    own-cells =
        cells-from (λ class cell. cell ≡ cell_at p (p.setting.classes * ((n - length rows) + s.steps) + class)) 0 (take s.setting.classes s.cells)
        (λ i h.
        let k = length-take s.setting.classes s.cells in
        get_or-take s.setting.classes s.cells i (pos 0) (omega arith)
        ∙ (ap (λ (xs : List ℤ). get_or xs i (pos 0)) x.track.cells
        ∙ (get_or-drop (p.setting.classes * n) p.cells i (pos 0)
        ∙ ap (λ (m : ℕ). get_or p.cells m (pos 0)) (ap (λ (m : ℕ). p.setting.classes * m + i) (sym all-drawn) ∙ ap (λ (m : ℕ). p.setting.classes * ((n - length rows) + s.steps) + m) (omega arith)))))

    covers-now : AllFrom (Covered p (n - length rows)) 0 (advanced s row)
    covers-now =
        advance-cells (λ class lane. Covered p (n - length rows) class lane × (length lane.noise ≡ s.steps)) (Covered p (n - length rows)) (λ class cell. cell ≡ cell_at p (p.setting.classes * ((n - length rows) + s.steps) + class)) _
        (λ class lane c cell h e. subst (λ (b : ℕ → ℕ). Covered p (n - length rows) class (advance (back_asked b (suc s.steps)) lane c cell)) (sym x.track.back) (covered_more p lawful (n - length rows) s.steps few class lane c cell h e))
        0 s.lanes row _ (all-from-both (Covered p (n - length rows)) (λ _ lane. length lane.noise ≡ s.steps) 0 s.lanes x.covers x.sound.noise-long) own-cells

    next-track : Track p (after_row s row) (suc n) (rows ++ row ∷ []) (l ++ finishes_of 0 (map release (advanced s row)))
    next-track = track-step p lawful s n rows l x.track row f x.sound

    rows_more : length (rows ++ row ∷ []) ≡ suc (length rows)
    rows_more = length_push rows row ∙ omega arith

    before_same : suc n - length (rows ++ row ∷ []) ≡ n - length rows
    before_same = let a = rows_more in omega arith

    unpublished : AllFrom (λ class lane. lane.count ≡ true_count class (rows ++ row ∷ [])) 0 (advanced s row)
    unpublished = counts-now p lawful s n rows l x.track row f x.sound

    longer : AllFrom (λ _ lane. length lane.noise ≡ suc s.steps) 0 (advanced s row)
    longer = long-now p lawful s n rows l x.track row f x.sound

    releases : AllFrom (λ class lane. release lane ≡ release_of p (n - length rows) (rows ++ row ∷ []) class) 0 (advanced s row)
    releases =
        let ab = all-from-both (λ class lane. lane.count ≡ true_count class (rows ++ row ∷ [])) (λ _ lane. length lane.noise ≡ suc s.steps) 0 (advanced s row) unpublished longer in
        let abc = all-from-both (λ class lane. (lane.count ≡ true_count class (rows ++ row ∷ [])) × (length lane.noise ≡ suc s.steps)) (Covered p (n - length rows)) 0 (advanced s row) ab covers-now in
        all-from-weaker (λ class lane. ((lane.count ≡ true_count class (rows ++ row ∷ [])) × (length lane.noise ≡ suc s.steps)) × Covered p (n - length rows) class lane) (λ class lane. release lane ≡ release_of p (n - length rows) (rows ++ row ∷ []) class)
        (λ class lane h.
        let long : length lane.noise ≡ length (rows ++ row ∷ []) = h.0.1 ∙ (ap suc (sym x.track.rows_long) ∙ sym rows_more) in
        ap (λ (c : ℕ). pos c +ℤ noise_after lane.noise (length lane.noise)) h.0.0 ∙ ap (λ (z : ℤ). pos (true_count class (rows ++ row ∷ [])) +ℤ z) (h.1 (length lane.noise) (omega arith) ∙ ap (λ (k : ℕ). cover_noise p (n - length rows) class (cover p.back k)) long))
        0 (advanced s row) abc

    classes-long : length (advanced s row) ≡ p.setting.classes
    classes-long = advanced-long s row f x.sound ∙ (x.sound.lanes-long ∙ same-classes)

    row-calls : finishes_of 0 (map release (advanced s row)) ≡ row_finishes p (n - length rows) (rows ++ row ∷ [])
    row-calls =
        finishes-same (release_of p (n - length rows) (rows ++ row ∷ [])) 0 (advanced s row) releases
        ∙ ap (λ (k : ℕ). map (λ c. finisher.finishes c (release_of p (n - length rows) (rows ++ row ∷ []) c)) (range_with_len 0 k)) classes-long

    exact-step : Exact p (after_row s row) (suc n) (rows ++ row ∷ []) (l ++ row_finishes p (n - length rows) (rows ++ row ∷ []))
    exact-step =
        record {
          track = subst (λ (k : List finisher.Call). Track p (after_row s row) (suc n) (rows ++ row ∷ []) (l ++ k)) row-calls next-track;
          sound = sound-step s row f x.sound;
          covers = subst (λ (b : ℕ). AllFrom (Covered p b) 0 (after_row s row).lanes) (sym before_same) (publish-all (Covered p (n - length rows)) (Covered p (n - length rows)) (λ _ _ _ h. h) 0 (advanced s row) _ covers-now);
        }

    -- the published count of a class
    read-row : (class : ℕ) → class < p.setting.classes → (lane_at (after_row s row) class).published ≡ p.says (l ++ take class (row_finishes p (n - length rows) (rows ++ row ∷ []))) class (release_of p (n - length rows) (rows ++ row ∷ []) class)
    read-row class h =
        let zs = map release (advanced s row) in
        let m = length-map (advanced s row) release in
        let k = classes-long in
        published-at (advanced s row) (answers_to s.says 0 zs) class (length-answers s.says 0 zs ∙ length-map (advanced s row) release) (omega arith)
        ∙ (answer_at s.says 0 zs class (omega arith)
        ∙ (ap (λ (q : ℕ → ℤ → ℤ). q (0 + class) (get_or zs class (pos 0))) (x.track.says (take class (finishes_of 0 zs)))
        ∙ (ap (λ (q : List finisher.Call). p.says (l ++ take class q) (0 + class) (get_or zs class (pos 0))) row-calls
        ∙ (ap (λ (z : ℤ). p.says (l ++ take class (row_finishes p (n - length rows) (rows ++ row ∷ []))) (0 + class) z) (release-at (release_of p (n - length rows) (rows ++ row ∷ [])) 0 (advanced s row) class (omega arith) releases)
        ∙ ap (λ (c : ℕ). p.says (l ++ take class (row_finishes p (n - length rows) (rows ++ row ∷ []))) c (release_of p (n - length rows) (rows ++ row ∷ []) c)) (omega arith)))))

  -- nothing for the finisher
  same-exact : (s : Station) (n : ℕ) (rows : List (List ℕ)) (l : List finisher.Call) → Exact p s n rows l → Exact p s (0 + n) rows (l ++ [])
  same-exact s n rows l x = subst (λ (k : ℕ). Exact p s k rows (l ++ [])) (omega arith) (subst (λ (m : List finisher.Call). Exact p s n rows m) (sym (append-nil l)) x)

  exact-by : (s : Station) (n : ℕ) (rows : List (List ℕ)) (l : List finisher.Call) (call : Call) (o : Option Told) → refusal s call ≡ o → Exact p s n rows l → Exact p (station_by o s call) (rows_taken (answer_by o s call ∷ []) + n) (epoch_after rows call (answer_by o s call)) (l ++ finishes_for p n rows call (answer_by o s call))
  exact-by s n rows l call (Some told) e x = same-exact s n rows l x
  exact-by s n rows l (opens t) None e x =
      subst (λ (k : ℕ). Exact p (after_open s t) k [] (l ++ finisher.begins ∷ [])) (omega arith)
      (record { track = track-open p lawful s n rows l x.track t; sound = sound-open s t (open-facts s t e) x.sound; covers = new-covered p (n - 0) 0 s.setting.classes })
  exact-by s n rows l (steps row) None e x =
      subst (λ (k : ℕ). Exact p (after_row s row) k (rows ++ row ∷ []) (l ++ row_finishes p (n - length rows) (rows ++ row ∷ []))) (omega arith) (exact-step s n rows l x row (step-facts s row e))
  exact-by s n rows l (closes number serial) None e x =
      same-exact (after_close s) n rows l (record { track = track-close p lawful s n rows l x.track; sound = sound-close s x.sound; covers = x.covers })
  exact-by s n rows l (reads class) None e x = same-exact s n rows l x
  exact-by s n rows l balances None e x = same-exact s n rows l x

  exact-from : (calls : List Call) (s : Station) (n : ℕ) (rows : List (List ℕ)) (l : List finisher.Call) → Exact p s n rows l → Exact p (station_after s calls) (rows_taken (answers s calls) + n) (epoch_rows rows calls (answers s calls)) (l ++ finisher_calls p n rows calls (answers s calls))
  exact-from [] s n rows l x = same-exact s n rows l x
  exact-from (call ∷ calls) s n rows l x =
      let a = answer s call in
      let rest = exact-from calls (next s call) _ _ _ (exact-by s n rows l call (refusal s call) refl x) in
      let m = finisher_calls p (rows_taken (a ∷ []) + n) (epoch_after rows call a) calls (answers (next s call) calls) in
      subst (λ (k : ℕ). Exact p (station_after (next s call) calls) k (epoch_rows (epoch_after rows call a) calls (answers (next s call) calls)) (l ++ (finishes_for p n rows call a ++ m))) (omega (arith, rows-taken-more a (answers (next s call) calls)))
      (subst (λ (q : List finisher.Call). Exact p (station_after (next s call) calls) (rows_taken (answers (next s call) calls) + (rows_taken (a ∷ []) + n)) (epoch_rows (epoch_after rows call a) calls (answers (next s call) calls)) q) (append_assoc l (finishes_for p n rows call a) m) rest)

  exact : (calls : List Call) → Exact p (station_after (make p) calls) (rows_taken (answers (make p) calls)) (epoch_rows [] calls (answers (make p) calls)) (finisher_calls p 0 [] calls (answers (make p) calls))
  exact calls =
      subst (λ (k : ℕ). Exact p (station_after (make p) calls) k (epoch_rows [] calls (answers (make p) calls)) (finisher_calls p 0 [] calls (answers (make p) calls))) (omega arith)
      (exact-from calls (make p) 0 [] [] (record { track = track-made p; sound = sound-made p.setting p.back p.cells p.says; covers = new-covered p (0 - 0) 0 p.setting.classes }))

  pub published-counts : Published p
  published-counts calls row step class told h =
      let s = station_after (make p) calls in
      let t = station_after (make p) (calls ++ steps row ∷ []) in
      let by = stepped_by s row step (refusal s (steps row)) (answer-is (make p) calls (steps row) (stepped step) told) in
      let is : t ≡ after_row s row = station-push (make p) calls (steps row) ∙ ap (λ (o : Option Told). station_by o s (steps row)) by.0 in
      let x = exact calls in
      let some : class < t.setting.classes = subst (λ (y : Station). class < y.setting.classes) (sym is) (subst (λ (y : Setting). class < y.classes) (sym x.track.setting) h) in
      let later : t.steps ≡ step = ap (λ (y : Station). y.steps) is ∙ by.1 in
      answers_push (make p) (calls ++ steps row ∷ []) (reads class)
      ∙ ap (λ (a : Answer). answers (make p) (calls ++ steps row ∷ []) ++ a ∷ []) (read_by t class some (λ z. omega (arith, later, by.1)) ∙ ap published (ap (λ (y : Station). (lane_at y class).published) is ∙ read-row s _ _ _ x row (step-facts s row by.0) class h))

  closed-by : (s : Station) (number serial taken units : ℕ) (o : Option Told) → refusal s (closes number serial) ≡ o → answer_by o s (closes number serial) ≡ closed taken units → (is_open s.phase ≡ true) × (s.steps ≡ taken) × (min (depth_asked s.back s.steps) (units_of s.phase) ≡ units)
  closed-by s number serial taken units (Some told) e a = let z : ◌≡◌ {A = ℕ} 0 1 = cc in absurd (omega arith)
  closed-by s number serial taken units None e a = (close_facts s number serial e, cc, cc)

  depth-by : (back : ℕ → ℕ) (held t : ℕ) (phase : Phase) → is_open phase ≡ true → PhaseSound back held t phase → min (depth_asked back t) (units_of phase) ≡ depth back t
  depth-by back held t idle o h = let z : ◌≡◌ {A = ℕ} 0 1 = cc in absurd (omega arith)
  depth-by back held t (running e u) o (a, b, c, d, f) =
      let y = depth-grows back t e f in
      let z = asked e (depth back e) d in
      let w = asked t (depth back t) (omega arith) in
      let v : depth_asked back t ≤ u = omega arith in omega arith

  pub spends-depth : SpendsDepth p
  spends-depth calls number serial taken units told =
      let s = station_after (make p) calls in
      let c = closed-by s number serial taken units (refusal s (closes number serial)) refl (answer-is (make p) calls (closes number serial) (closed taken units) told) in
      let x = exact calls in
      let d = depth-by s.back s.held s.steps s.phase c.0 x.sound.phase-sound in (
        sym c.1 ∙ sym x.track.rows_long,
        sym c.2 ∙ (d ∙ (ap (λ (b : ℕ → ℕ). depth b s.steps) x.track.back ∙ ap (depth p.back) c.1)),
      )
