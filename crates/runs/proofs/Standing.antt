-- A row, finished class after class: each class stands at its true count, with the bound of its noise.
use Rattle.std.proofs.Common.{◌≡◌, ℕ, suc, ◌+◌, ◌<◌, ◌≤◌, List, [], ◌∷◌, ◌++◌, map, length, ℤ, ◌+ℤ◌, sym, refl, ap, ◌∙◌, subst, arith, w64, SFits}
use Rattle.std.specs.List.{AllByRecursion}
use Rattle.std.proofs.ByRecursion.{All-append}
use Rattle.std.proofs.lemmas.List.{append-nil, append_assoc, length-map, length_push}
use Rattle.std.proofs.lemmas.Int.{ints}
use Rattle.finisher.specs.Finishers.{Call, begins, finishes, after, Says, Stands, Keeps, Lawful, LawfulCall, Within, class_limit, count_limit}
use Rattle.runs.specs.Model.{Lane, noise_after, advance, release, answers_to, says_after, all_published, empty_lane}
use Rattle.runs.proofs.Lanes.{AllFrom, publish}
use Rattle.runs.proofs.Noise.{noise-old}

-- one finish for each release, from a class on
abbrev pub finishes_of : ℕ → List ℤ → List Call
finishes_of class [] = []
finishes_of class (z ∷ zs) = finishes class z ∷ finishes_of (suc class) zs

pub lawful-finishes : (class : ℕ) (zs : List ℤ) → class + length zs ≤ class_limit → AllByRecursion (SFits w64) zs → Lawful (finishes_of class zs)
lawful-finishes class [] h f = tt
lawful-finishes class (z ∷ zs) h (f, fs) = ((omega arith, f), lawful-finishes (suc class) zs (omega arith) fs)

-- no noise of the epoch is above a bound
abbrev pub Quiet : ℕ → List ℤ → Type 0
Quiet e noise = (i : ℕ) → i ≤ length noise → Within e (noise_after noise i) 0

module _ (says : Says) (stands : Stands) (keeps : Keeps says stands) where
  -- a class stands at its true count with every bound of its noise, and is published as near
  abbrev pub Stand : List Call → ℕ → Lane → Type 0
  Stand l class lane =
      (e : ℕ) → e ≤ count_limit → Quiet e lane.noise → stands l class e lane.count × Within e lane.published lane.count

  -- it stands at an older count, and the new release is near the new one
  abbrev pub Ready : List Call → ℕ → Lane → Type 0
  Ready l class lane =
      (e : ℕ) → e ≤ count_limit → Quiet e lane.noise → (old : ℕ) × stands l class e old × (old ≤ lane.count) × Within e (release lane) lane.count

  pub stand-new : (l : List Call) → Lawful l → (class : ℕ) → class < class_limit → Stand (l ++ begins ∷ []) class empty_lane
  stand-new l lawful class h e le q = (keeps.fresh l class e lawful h le, (omega (arith, ints), omega (arith, ints)))

  pub ready-next : (l : List Call) (back t class : ℕ) (lane : Lane) (x : ℕ) (cell : ℤ) → length lane.noise ≡ t → Stand l class lane → Ready l class (advance back lane x cell)
  ready-next l back t class lane x cell long st e le q =
      let n = cell +ℤ noise_after lane.noise back in
      let longer = length_push lane.noise (cell +ℤ noise_after lane.noise back) in
      let old-quiet : Quiet e lane.noise = λ i h. subst (λ (z : ℤ). Within e z 0) (noise-old lane.noise n i h) (q i (omega arith)) in
      let s = st e le old-quiet in
      let newest = q (length (lane.noise ++ n ∷ [])) (omega arith) in
      (lane.count, s.0, omega arith, (omega (arith, ints, newest.0, newest.1), omega (arith, ints, newest.0, newest.1)))

  -- finishes of later classes leave a class where it stands
  others-on : (class c e a : ℕ) (zs : List ℤ) (l : List Call) → c < class → Lawful l → Lawful (finishes_of class zs) → stands l c e a → stands (l ++ finishes_of class zs) c e a
  others-on class c e a [] l h lawful f s = subst (λ (k : List Call). stands k c e a) (sym (append-nil l)) s
  others-on class c e a (z ∷ zs) l h lawful (f, fs) s =
      let one = (keeps.others l class z c e a lawful f (λ q. omega arith)).0 s in
      let rest = others-on (suc class) c e a zs (l ++ finishes class z ∷ []) (omega arith) (All-append LawfulCall l (finishes class z ∷ []) lawful (f, tt)) fs one in
      subst (λ (k : List Call). stands k c e a) (append_assoc l (finishes class z ∷ []) (finishes_of (suc class) zs)) rest

  ready-later : (class from : ℕ) (z : ℤ) (l : List Call) → Lawful l → LawfulCall (finishes class z) → class < from → (lanes : List Lane) → AllFrom (Ready l) from lanes → AllFrom (Ready (l ++ finishes class z ∷ [])) from lanes
  ready-later class from z l lawful f h [] r = tt
  ready-later class from z l lawful f h (lane ∷ lanes) (r, rs) = (
    λ e le q. let o = r e le q in (o.0, (keeps.others l class z from e o.0 lawful f (λ eq. omega arith)).0 o.1, o.2, o.3),
    ready-later class (suc from) z l lawful f (omega arith) lanes rs,
  )

  pub stand-all : (class : ℕ) (lanes : List Lane) (l : List Call) (now : Says) → ((m : List Call) → now m ≡ says (l ++ m)) → Lawful l → class + length lanes ≤ class_limit → AllByRecursion (SFits w64) (map release lanes) → AllFrom (λ _ lane. lane.count ≤ count_limit) class lanes → AllFrom (Ready l) class lanes → AllFrom (Stand (l ++ finishes_of class (map release lanes))) class (all_published lanes (answers_to now class (map release lanes)))
  stand-all class [] l now same lawful h f k r = tt
  stand-all class (lane ∷ lanes) l now same lawful h (f, fs) (k, ks) (r, rs) =
      let z = release lane in
      let fits : LawfulCall (finishes class (release lane)) = (omega arith, f) in
      let lawful-next = All-append LawfulCall l (finishes class z ∷ []) lawful (fits, tt) in
      let after_next : (m : List Call) → now (finishes class (release lane) ∷ m) ≡ says ((l ++ finishes class (release lane) ∷ []) ++ m) =
      λ m. same (finishes class z ∷ m) ∙ ap says (sym (append_assoc l (finishes class z ∷ []) m)) in
      let later-fits = lawful-finishes (suc class) (map release lanes) (simp length-map (omega arith)) fs in
      let rest = stand-all (suc class) lanes (l ++ finishes class z ∷ []) (after (finishes class z) now) after_next lawful-next (omega arith) fs ks (ready-later class (suc class) z l lawful fits (omega arith) lanes rs) in
      let head : Stand (l ++ finishes_of class (map release (lane ∷ lanes))) class (publish lane (now [] class (release lane))) =
      λ e le q.
      let o = r e le q in
      let n = keeps.near l class z e o.0 lane.count lawful fits o.1 o.2 k le o.3 in
      let stood = others-on (suc class) class e lane.count (map release lanes) (l ++ finishes class z ∷ []) (omega arith) lawful-next later-fits n.1 in
      let said : says l class z ≡ now [] class z = ap (λ (k : List Call). says k class z) (sym (append-nil l)) ∙ ap (λ (g : ℕ → ℤ → ℤ). g class z) (sym (same [])) in (
        subst (λ (k : List Call). stands k class e lane.count) (append_assoc l (finishes class z ∷ []) (finishes_of (suc class) (map release lanes))) stood,
        subst (λ (y : ℤ). Within e y lane.count) said n.0,
      ) in
      (head, subst (λ (k : List Call). AllFrom (Stand k) (suc class) (all_published lanes (answers_to (after (finishes class z) now) (suc class) (map release lanes)))) (append_assoc l (finishes class z ∷ []) (finishes_of (suc class) (map release lanes))) rest)

-- what the finisher says after a row
pub says-after : (says : Says) (class : ℕ) (zs : List ℤ) (m : List Call) → says_after says class zs m ≡ says (finishes_of class zs ++ m)
says-after says class [] m = refl
says-after says class (z ∷ zs) m = says-after (after (finishes class z) says) (suc class) zs m
