-- A station and the calls that it has had: its cells, true counts and noise by the rows accepted, and where its finisher stands.
use Rattle.std.proofs.Common.{◌≡◌, ℕ, zero, suc, ◌+◌, ◌-◌, ◌*◌, ◌^◌, ◌<◌, ◌≤◌, List, [], ◌∷◌, ◌++◌, map, length, get_or, take, drop, replicate, ℤ, pos, negsuc, ◌+ℤ◌, sym, refl, ap, ◌∙◌, subst, mul-le-mul_left, mul-zero, mul-suc, arith, take-add, w32, w64, SFits}
use Rattle.std.specs.List.{AllByRecursion}
use Rattle.std.proofs.ByRecursion.{All-append, All-take, All-drop, All-weaker}
use Rattle.std.proofs.lemmas.List.{append_assoc, drop-drop, length-map, length_push, get_or_at}
use Rattle.std.proofs.lemmas.Int.{ints}
use Rattle.plan.specs.Plans.{horizon, cover, back_asked}
use Rattle.plan.specs.Covers.{cover-length}
use Rattle.finisher.specs.Finishers.{Call, begins, Stands, Keeps, Lawful, LawfulCall, Within, class_limit, count_limit}
use Rattle.runs.specs.Model.{Setting, Station, Lane, Phase, idle, running, epoch_of, noise_after, advanced, release, empty_lane, after_open, after_row, after_close}
use Rattle.runs.specs.Runs.{true_count}
use Rattle.runs.specs.Law.{Making, LawfulMaking, make}
use Rattle.runs.proofs.Facts.{Steps}
use Rattle.runs.proofs.Lanes.{AllFrom, AllCounts, all-from-weaker, all-from-both, advance-all, all-counts, every-cell, publish-all}
use Rattle.runs.proofs.Sound.{Sound, PhaseSound, advanced-long}
use Rattle.runs.proofs.Noise.{NoiseBound, noise-none, noise-more, within-zero}
use Rattle.runs.proofs.Standing.{finishes_of, lawful-finishes, Stand, Ready, stand-new, ready-next, stand-all, says-after}

-- the cells of the last r of n rows
abbrev pub row_cells : Making → ℕ → ℕ → List ℤ
row_cells p n r = take (p.setting.classes * r) (drop (p.setting.classes * n - p.setting.classes * r) p.cells)

pub record Track (p : Making) (s : Station) (n : ℕ) (rows : List (List ℕ)) (l : List Call) : Type 0 where
  pub setting : s.setting ≡ p.setting
  pub back : s.back ≡ p.back
  pub says : (m : List Call) → s.says m ≡ p.says (l ++ m)
  pub lawful : Lawful l
  pub cells : s.cells ≡ drop (p.setting.classes * n) p.cells
  pub rows_long : length rows ≡ s.steps
  pub rows_few : length rows ≤ n
  pub counts : AllFrom (λ class lane. lane.count ≡ true_count class rows) 0 s.lanes
  pub small : AllFrom (λ _ lane. lane.count ≤ 1000 * s.steps) 0 s.lanes
  pub noise : (a : ℕ) → AllByRecursion (λ cell. Within a cell 0) (row_cells p n (length rows)) → AllFrom (λ _ lane. NoiseBound a p.back lane.noise) 0 s.lanes

-- new classes, none past the limit
new-below : (P : ℕ → Lane → Type 0) (limit : ℕ) → ((class : ℕ) → class < limit → P class empty_lane) → (class n : ℕ) → class + n ≤ limit → AllFrom P class (replicate n empty_lane)
new-below P limit f class zero h = tt
new-below P limit f class (suc n) h = (f class (omega arith), new-below P limit f (suc class) n (omega arith))

new-all : (P : ℕ → Lane → Type 0) → ((class : ℕ) → P class empty_lane) → (class n : ℕ) → AllFrom P class (replicate n empty_lane)
new-all P f class zero = tt
new-all P f class (suc n) = (f class, new-all P f (suc class) n)

all-parts : {X : Type 0} (P : X → Type 0) (xs ys : List X) → AllByRecursion P (xs ++ ys) → AllByRecursion P xs × AllByRecursion P ys
all-parts P [] ys h = (tt, h)
all-parts P (x ∷ xs) ys (h, hs) = let r = all-parts P xs ys hs in ((h, r.0), r.1)

all-map-from : (P : ℤ → Type 0) (f : Lane → ℤ) (class : ℕ) (lanes : List Lane) → AllFrom (λ _ lane. P (f lane)) class lanes → AllByRecursion P (map f lanes)
all-map-from P f class [] h = tt
all-map-from P f class (lane ∷ lanes) (h, hs) = (h, all-map-from P f (suc class) lanes hs)

-- each count of a row is the one of its class
own-counts : (before row : List ℕ) → AllCounts (λ class x. x ≡ get_or (before ++ row) class 0) (length before) row
own-counts before [] = tt
own-counts before (x ∷ row) = (
  sym (get_or_at before x row 0 (length before) refl),
  subst (λ (k : ℕ). AllCounts (λ class y. y ≡ get_or (before ++ x ∷ row) class 0) k row) (length_push before x ∙ omega arith) (subst (λ (xs : List ℕ). AllCounts (λ class y. y ≡ get_or xs class 0) (length (before ++ x ∷ [])) row) (append_assoc before (x ∷ []) row) (own-counts (before ++ x ∷ []) row)),
)

count-more : (class : ℕ) (rows : List (List ℕ)) (row : List ℕ) → true_count class (rows ++ row ∷ []) ≡ true_count class rows + get_or row class 0
count-more class [] row = omega arith
count-more class (r ∷ rows) row = let e = count-more class rows row in omega arith

narrow-cell : (z : ℤ) → SFits w32 z → Within (2 ^ 31) z 0
narrow-cell (pos n) f = let l : n < 2 ^ 31 = f.sfits in (omega (arith, ints), omega (arith, ints))
narrow-cell (negsuc n) f = let l : n < 2 ^ 31 = f.sfits in (omega (arith, ints), omega (arith, ints))

fits-within : (z : ℤ) (b : ℕ) → b < 2 ^ 63 → Within b z 0 → SFits w64 z
fits-within (pos n) b l w = record { sfits = omega (arith, ints, w.0, w.1) }
fits-within (negsuc n) b l w = record { sfits = omega (arith, ints, w.0, w.1) }

release-fits : (p : ℕ → ℕ) (t : ℕ) (lane : Lane) → t ≤ horizon → length lane.noise ≡ t → lane.count ≤ 1000 * t → NoiseBound (2 ^ 31) p lane.noise → SFits w64 (release lane)
release-fits p t lane few long c n =
    let b = n (length lane.noise) (omega arith) in
    let k = cover-length p (length lane.noise) in
    let e : 2 ^ 31 * length (cover p (length lane.noise)) ≤ 2 ^ 42 = omega arith in
    let w = within-zero (2 ^ 31 * length (cover p (length lane.noise))) (2 ^ 42) (noise_after lane.noise (length lane.noise)) e b in
    fits-within (release lane) (2 ^ 43) (omega arith) (omega (arith, ints, w.0, w.1), omega (arith, ints, w.0, w.1))

pub track-made : (p : Making) → Track p (make p) 0 [] []
track-made p =
    record {
      setting = refl;
      back = refl;
      says = λ m. refl;
      lawful = tt;
      cells = ap (λ (k : ℕ). drop k p.cells) (sym (mul-zero p.setting.classes));
      rows_long = refl;
      rows_few = omega arith;
      counts = new-all (λ class lane. lane.count ≡ 0) (λ _. refl) 0 p.setting.classes;
      small = new-all (λ _ lane. lane.count ≤ 1000 * 0) (λ _. omega arith) 0 p.setting.classes;
      noise = λ a _. new-all (λ _ lane. NoiseBound a p.back lane.noise) (λ _. noise-none a p.back) 0 p.setting.classes;
    }

module _ (p : Making) (lawful-parts : LawfulMaking p) (s : Station) (n : ℕ) (rows : List (List ℕ)) (l : List Call) (t : Track p s n rows l) where
  pub track-open : (epoch : ℕ) → Track p (after_open s epoch) n [] (l ++ begins ∷ [])
  track-open epoch =
      record {
        setting = t.setting;
        back = t.back;
        says = λ m. t.says (begins ∷ m) ∙ ap p.says (sym (append_assoc l (begins ∷ []) m));
        lawful = All-append LawfulCall l (begins ∷ []) t.lawful (tt, tt);
        cells = t.cells;
        rows_long = refl;
        rows_few = omega arith;
        counts = new-all (λ class lane. lane.count ≡ 0) (λ _. refl) 0 s.setting.classes;
        small = new-all (λ _ lane. lane.count ≤ 1000 * 0) (λ _. omega arith) 0 s.setting.classes;
        noise = λ a _. new-all (λ _ lane. NoiseBound a p.back lane.noise) (λ _. noise-none a p.back) 0 s.setting.classes;
      }

  classes : s.setting.classes ≡ p.setting.classes
  classes = ap (λ (x : Setting). x.classes) t.setting

  pub stand-open : (stands : Stands) (keeps : Keeps p.says stands) (epoch : ℕ) → AllFrom (Stand p.says stands keeps (l ++ begins ∷ [])) 0 (after_open s epoch).lanes
  stand-open stands keeps epoch =
      new-below (Stand p.says stands keeps (l ++ begins ∷ [])) class_limit (stand-new p.says stands keeps l t.lawful) 0 s.setting.classes (let f = lawful-parts.few in omega (arith, classes))

  pub track-close : Track p (after_close s) n rows l
  track-close =
      record {
        setting = t.setting;
        back = t.back;
        says = t.says;
        lawful = t.lawful;
        cells = t.cells;
        rows_long = t.rows_long;
        rows_few = t.rows_few;
        counts = t.counts;
        small = t.small;
        noise = t.noise;
      }

pub narrow-rows : (p : Making) → LawfulMaking p → (m r : ℕ) → AllByRecursion (λ cell. Within (2 ^ 31) cell 0) (row_cells p m r)
narrow-rows p lawful-parts m r =
    All-take (λ cell. Within (2 ^ 31) cell 0) (p.setting.classes * r) _ (All-drop (λ cell. Within (2 ^ 31) cell 0) (p.setting.classes * m - p.setting.classes * r) p.cells (All-weaker (SFits w32) (λ cell. Within (2 ^ 31) cell 0) narrow-cell p.cells lawful-parts.narrow))

pub few-by : (back : ℕ → ℕ) (held taken : ℕ) (phase : Phase) → taken < epoch_of phase → PhaseSound back held taken phase → suc taken ≤ horizon
few-by back held taken idle h q = absurd (omega arith)
few-by back held taken (running e u) h (a, b, c, d, f) = omega arith

-- one row more
module _ (p : Making) (lawful-parts : LawfulMaking p) (s : Station) (n : ℕ) (rows : List (List ℕ)) (l : List Call) (t : Track p s n rows l) (row : List ℕ) (f : Steps s row) (h : Sound s) where
  same-classes : s.setting.classes ≡ p.setting.classes
  same-classes = classes p lawful-parts s n rows l t

  few-steps : suc s.steps ≤ horizon
  few-steps = few-by s.back s.held s.steps s.phase f.more h.phase-sound

  -- the cells drawn now are the next of the tape
  now-cells : take s.setting.classes s.cells ≡ take p.setting.classes (drop (p.setting.classes * n) p.cells)
  now-cells = ap (λ (k : ℕ). take k s.cells) same-classes ∙ ap (take p.setting.classes) t.cells

  more-cells : row_cells p (suc n) (suc (length rows)) ≡ row_cells p n (length rows) ++ take s.setting.classes s.cells
  more-cells =
      let r = length rows in
      let c = p.setting.classes in
      let m1 = mul-suc p.setting.classes n in
      let m2 = mul-suc p.setting.classes (length rows) in
      let le = mul-le-mul_left p.setting.classes t.rows_few in
      let start : c * suc n - c * suc r ≡ c * n - c * r = omega arith in
      let over : (c * n - c * r) + c * r ≡ c * n = omega arith in
      ap (λ (k : ℕ). take (c * suc r) (drop k p.cells)) start
      ∙ (ap (λ (k : ℕ). take k (drop (c * n - c * r) p.cells)) m2
      ∙ (take-add (c * r) c (drop (c * n - c * r) p.cells)
      ∙ ap (λ (xs : List ℤ). row_cells p n r ++ xs) (ap (take c) (drop-drop (c * r) (c * n - c * r) p.cells ∙ ap (λ (k : ℕ). drop k p.cells) over) ∙ sym now-cells)))

  back-now : back_asked s.back (suc s.steps) ≡ back_asked p.back (suc s.steps)
  back-now = ap (λ (b : ℕ → ℕ). back_asked b (suc s.steps)) t.back

  pub counts-now : AllFrom (λ class lane. lane.count ≡ true_count class (rows ++ row ∷ [])) 0 (advanced s row)
  counts-now =
      advance-all (λ class lane. lane.count ≡ true_count class rows) (λ class lane. lane.count ≡ true_count class (rows ++ row ∷ [])) (λ class x. x ≡ get_or row class 0) (λ _. Unit {0}) _
      (λ class lane x cell c e _. let m = count-more class rows row in omega arith)
      0 s.lanes row _ t.counts (own-counts [] row) (every-cell (take s.setting.classes s.cells))

  small-now : AllFrom (λ _ lane. lane.count ≤ 1000 * suc s.steps) 0 (advanced s row)
  small-now =
      advance-all (λ _ lane. lane.count ≤ 1000 * s.steps) (λ _ lane. lane.count ≤ 1000 * suc s.steps) (λ _ x. x ≤ 1000) (λ _. Unit {0}) _
      (λ class lane x cell c e _. omega arith)
      0 s.lanes row _ t.small (all-counts (λ x. x ≤ 1000) 0 row f.small) (every-cell (take s.setting.classes s.cells))

  pub long-now : AllFrom (λ _ lane. length lane.noise ≡ suc s.steps) 0 (advanced s row)
  long-now =
      advance-all (λ _ lane. length lane.noise ≡ s.steps) (λ _ lane. length lane.noise ≡ suc s.steps) (λ _ x. x ≤ 1000) (λ _. Unit {0}) _
      (λ class lane x cell c e _. length_push lane.noise _ ∙ omega arith)
      0 s.lanes row _ h.noise-long (all-counts (λ x. x ≤ 1000) 0 row f.small) (every-cell (take s.setting.classes s.cells))

  noise-now : (a : ℕ) → AllByRecursion (λ cell. Within a cell 0) (row_cells p (suc n) (suc (length rows))) → AllFrom (λ _ lane. NoiseBound a p.back lane.noise) 0 (advanced s row)
  noise-now a w =
      let parts = all-parts (λ cell. Within a cell 0) (row_cells p n (length rows)) (take s.setting.classes s.cells) (subst (AllByRecursion (λ cell. Within a cell 0)) more-cells w) in
      let before = all-from-both (λ _ lane. NoiseBound a p.back lane.noise) (λ _ lane. length lane.noise ≡ s.steps) 0 s.lanes (t.noise a parts.0) h.noise-long in
      advance-all (λ _ lane. NoiseBound a p.back lane.noise × (length lane.noise ≡ s.steps)) (λ _ lane. NoiseBound a p.back lane.noise) (λ _ x. x ≤ 1000) (λ cell. Within a cell 0) _
      (λ class lane x cell b e w'. subst (λ (k : ℕ). NoiseBound a p.back (lane.noise ++ (cell +ℤ noise_after lane.noise k) ∷ [])) (sym back-now) (noise-more a p.back lawful-parts.falls lane.noise cell s.steps b.1 few-steps w' b.0))
      0 s.lanes row _ before (all-counts (λ x. x ≤ 1000) 0 row f.small) parts.1

  fits-now : AllFrom (λ _ lane. SFits w64 (release lane)) 0 (advanced s row)
  fits-now =
      let a = noise-now (2 ^ 31) (narrow-rows p lawful-parts (suc n) (suc (length rows))) in
      let ab = all-from-both (λ _ lane. NoiseBound (2 ^ 31) p.back lane.noise) (λ _ lane. length lane.noise ≡ suc s.steps) 0 (advanced s row) a long-now in
      let abc = all-from-both (λ _ lane. NoiseBound (2 ^ 31) p.back lane.noise × (length lane.noise ≡ suc s.steps)) (λ _ lane. lane.count ≤ 1000 * suc s.steps) 0 (advanced s row) ab small-now in
      all-from-weaker (λ _ lane. (NoiseBound (2 ^ 31) p.back lane.noise × (length lane.noise ≡ suc s.steps)) × (lane.count ≤ 1000 * suc s.steps)) (λ _ lane. SFits w64 (release lane)) (λ class lane x. release-fits p.back (suc s.steps) lane few-steps x.0.1 x.1 x.0.0) 0 (advanced s row) abc

  pub releases-fit : AllByRecursion (SFits w64) (map release (advanced s row))
  releases-fit = all-map-from (SFits w64) release 0 (advanced s row) fits-now

  pub lawful-row : Lawful (finishes_of 0 (map release (advanced s row)))
  lawful-row = lawful-finishes 0 (map release (advanced s row)) (let k = lawful-parts.few in let m = length-map (advanced s row) release in let a = advanced-long s row f h in let b = h.lanes-long in omega (arith, same-classes)) releases-fit

  pub track-step : Track p (after_row s row) (suc n) (rows ++ row ∷ []) (l ++ finishes_of 0 (map release (advanced s row)))
  track-step =
      let longer = length_push rows row in
      record {
        setting = t.setting;
        back = t.back;
        says = λ m. says-after s.says 0 (map release (advanced s row)) m ∙ (t.says (finishes_of 0 (map release (advanced s row)) ++ m) ∙ ap p.says (sym (append_assoc l (finishes_of 0 (map release (advanced s row))) m)));
        lawful = All-append LawfulCall l (finishes_of 0 (map release (advanced s row))) t.lawful lawful-row;
        cells = ap (λ (k : ℕ). drop k s.cells) same-classes ∙ (ap (drop p.setting.classes) t.cells ∙ (drop-drop p.setting.classes (p.setting.classes * n) p.cells ∙ ap (λ (k : ℕ). drop k p.cells) (sym (mul-suc p.setting.classes n))));
        rows_long = longer ∙ omega (arith, t.rows_long);
        rows_few = omega (arith, t.rows_few);
        counts = publish-all (λ class lane. lane.count ≡ true_count class (rows ++ row ∷ [])) (λ class lane. lane.count ≡ true_count class (rows ++ row ∷ [])) (λ _ _ _ x. x) 0 (advanced s row) _ counts-now;
        small = publish-all (λ _ lane. lane.count ≤ 1000 * suc s.steps) (λ _ lane. lane.count ≤ 1000 * suc s.steps) (λ _ _ _ x. x) 0 (advanced s row) _ small-now;
        noise = λ a w. publish-all (λ _ lane. NoiseBound a p.back lane.noise) (λ _ lane. NoiseBound a p.back lane.noise) (λ _ _ _ x. x) 0 (advanced s row) _ (noise-now a (subst (λ (k : ℕ). AllByRecursion (λ cell. Within a cell 0) (row_cells p (suc n) k)) (longer ∙ omega arith) w));
      }

  pub stand-step : (stands : Stands) (keeps : Keeps p.says stands) → AllFrom (Stand p.says stands keeps l) 0 s.lanes → AllFrom (Stand p.says stands keeps (l ++ finishes_of 0 (map release (advanced s row)))) 0 (after_row s row).lanes
  stand-step stands keeps st =
      let before = all-from-both (Stand p.says stands keeps l) (λ _ lane. length lane.noise ≡ s.steps) 0 s.lanes st h.noise-long in
      let ready = advance-all (λ class lane. Stand p.says stands keeps l class lane × (length lane.noise ≡ s.steps)) (Ready p.says stands keeps l) (λ _ x. x ≤ 1000) (λ _. Unit {0}) _ (λ class lane x cell b e _. ready-next p.says stands keeps l _ s.steps class lane x cell b.1 b.0) 0 s.lanes row _ before (all-counts (λ x. x ≤ 1000) 0 row f.small) (every-cell (take s.setting.classes s.cells)) in
      let limits = all-from-weaker (λ _ lane. lane.count ≤ 1000 * suc s.steps) (λ _ lane. lane.count ≤ count_limit) (λ _ lane x. let k = few-steps in omega arith) 0 (advanced s row) small-now in
      stand-all p.says stands keeps 0 (advanced s row) l s.says t.says t.lawful (let k = lawful-parts.few in let a = advanced-long s row f h in let b = h.lanes-long in omega (arith, same-classes)) releases-fit limits ready
