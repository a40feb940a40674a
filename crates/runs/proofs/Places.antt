-- Pairs alike have the same cells moved.
use Rattle.std.proofs.Common.{◌≡◌, ℕ, zero, suc, ◌<◌, ◌≤◌, cond, ◌&&◌, eqb, ltb, leb, ◌↔◌, List, [], ◌∷◌, ◌++◌, map, length, get_or, ℤ, pos, ◌-ℤ◌, Some, None, Option, sym, refl, ap, ◌∙◌, subst, ⊎_elim, arith}
use Rattle.std.specs.List.{range_with_len}
use Rattle.std.proofs.lemmas.List.{get_or_past, length-drop}
use Rattle.std.proofs.lemmas.Int.{ints}
use Rattle.fault.specs.Told.{Told}
use Rattle.plan.specs.Plans.{horizon, AgreeTo, holds, depth_asked}
use Rattle.runs.specs.Model.{Setting, Station, Call, opens, steps, closes, reads, balances, Answer, opened, stepped, closed, published, balance, refused, first_told, refusal, answer_by, station_by, answer, next}
use Rattle.runs.specs.Runs.{Joint, first, Change, Sight, unseen, sight_after, shift_of, shifts_at, shifts, moved_by, answers}
use Rattle.runs.specs.Law.{Making, Pair, make, firsts, cell_at}
use Rattle.runs.proofs.Facts.{le-or-gt, step-facts}
use Rattle.runs.proofs.Sound.{Sound, sound-made, sound-next}
use Rattle.runs.proofs.Track.{few-by}
use Rattle.runs.proofs.Linked.{Level, checks-same, depth-alike}

-- an answer but for a published count
abbrev shape : Answer → Answer
shape (opened number serial) = opened number serial
shape (stepped step) = stepped step
shape (closed taken units) = closed taken units
shape (published count) = published (pos 0)
shape (balance grant spent held) = balance grant spent held
shape (refused told) = refused told

sight-shape : (v : Sight) (j : Joint) (a : Answer) → sight_after v j a ≡ sight_after v j (shape a)
sight-shape v j (opened number serial) = refl
sight-shape v j (stepped step) = refl
sight-shape v j (closed taken units) = refl
sight-shape v j (published count) = refl
sight-shape v j (balance grant spent held) = refl
sight-shape v j (refused told) = refl

shifts-shape : (back : ℕ → ℕ) (k : ℕ) (change : Option Change) (a : Answer) → shifts_at back k change a ≡ shifts_at back k change (shape a)
shifts-shape back k change (opened number serial) = refl
shifts-shape back k change (stepped step) = refl
shifts-shape back k change (closed taken units) = refl
shifts-shape back k change (published count) = refl
shifts-shape back k change (balance grant spent held) = refl
shifts-shape back k change (refused told) = refl

-- a step that is answered lies within the horizon
abbrev InRange : Answer → Type 0
InRange (opened number serial) = Unit {0}
InRange (stepped step) = (1 ≤ step) × (step ≤ horizon)
InRange (closed taken units) = Unit {0}
InRange (published count) = Unit {0}
InRange (balance grant spent held) = Unit {0}
InRange (refused told) = Unit {0}

range-by : (s : Station) (call : Call) (o : Option Told) → refusal s call ≡ o → Sound s → InRange (answer_by o s call)
range-by s call (Some told) e h = tt
range-by s (opens epoch) None e h = tt
range-by s (steps row) None e h = (omega arith, few-by s.back s.held s.steps s.phase (step-facts s row e).more h.phase-sound)
range-by s (closes number serial) None e h = tt
range-by s (reads class) None e h = tt
range-by s balances None e h = tt

holds_same : (p q : ℕ → ℕ) (t s : ℕ) → p t ≡ q t → holds p t s ≡ holds q t s
unfolding holds
holds_same p q t s e = ap (λ (b : ℕ). cond (ltb b s) (cond (leb s t) 1 0) 0) e

shift_same : (p q : ℕ → ℕ) (change : Option Change) (t class : ℕ) → p t ≡ q t → shift_of p change t class ≡ shift_of q change t class
shift_same p q None t class e = refl
shift_same p q (Some c) t class e = ap (λ (h : ℕ). cond (eqb class c.class && eqb h 1) c.by (pos 0)) (holds_same p q t c.step e)

map_same : (f g : ℕ → ℤ) → ((c : ℕ) → f c ≡ g c) → (xs : List ℕ) → map f xs ≡ map g xs
map_same f g h [] = refl
map_same f g h (x ∷ xs) = let a = h x in let b = map_same f g h xs in cc

module _ (p q : ℕ → ℕ) (agree : AgreeTo horizon p q) (k : ℕ) where
  shifts-agree : (change : Option Change) (a : Answer) → InRange a → shifts_at p k change a ≡ shifts_at q k change a
  shifts-agree change (opened number serial) h = refl
  shifts-agree change (stepped step) (one, few) = map_same (shift_of p change step) (shift_of q change step) (λ c. shift_same p q change step c (agree step one few)) (range_with_len 0 k)
  shifts-agree change (closed taken units) h = refl
  shifts-agree change (published count) h = refl
  shifts-agree change (balance grant spent held) h = refl
  shifts-agree change (refused told) h = refl

-- Level stations answer in the same shape, and stay level.

module _ (s t : Station) (l : Level s t) where
  shape-by : (call : Call) (o : Option Told) → shape (answer_by o t call) ≡ shape (answer_by o s call)
  shape-by call (Some told) = refl
  shape-by (opens epoch) None = let a = l.setting in let b = l.serial in cc
  shape-by (steps row) None = let a = l.taken in cc
  shape-by (closes number serial) None =
      let a = l.taken in let b = l.phase in
      let f : depth_asked t.back t.steps ≡ depth_asked s.back s.steps = sym (depth-alike s.back t.back l.plan t.steps) ∙ ap (depth_asked s.back) (sym a) in cc
  shape-by (reads class) None = refl
  shape-by balances None = let a = l.setting in let b = l.spent in let c = l.held in cc

  same-refusal : (call : Call) → refusal t call ≡ refusal s call
  same-refusal call = ap first_told (sym (checks-same s t l call))

  same_shape : (call : Call) → shape (answer t call) ≡ shape (answer s call)
  same_shape call = ap (λ (o : Option Told). shape (answer_by o t call)) (same-refusal call) ∙ shape-by call (refusal s call)

  level_by : (call : Call) (o : Option Told) → Level (station_by o s call) (station_by o t call)
  level_by call (Some told) = l
  level_by (opens epoch) None =
      let d = depth-alike s.back t.back l.plan epoch in
      record {
        setting = l.setting;
        plan = l.plan;
        tape = l.tape;
        spent = l.spent;
        held = let a = l.held in cc;
        serial = ap suc l.serial;
        taken = refl;
        phase = cc;
      }
  level_by (steps row) None =
      let c = ap (λ (x : Setting). x.classes) l.setting in
      let a = l.tape in
      record {
        setting = l.setting;
        plan = l.plan;
        tape = length-drop s.setting.classes s.cells ∙ (omega arith ∙ sym (length-drop t.setting.classes t.cells));
        spent = l.spent;
        held = l.held;
        serial = l.serial;
        taken = ap suc l.taken;
        phase = l.phase;
      }
  level_by (closes number serial) None =
      let a = l.taken in let b = l.phase in
      let d : depth_asked s.back s.steps ≡ depth_asked t.back t.steps = depth-alike s.back t.back l.plan s.steps ∙ ap (depth_asked t.back) a in
      record {
        setting = l.setting;
        plan = l.plan;
        tape = l.tape;
        spent = let c = l.spent in cc;
        held = let c = l.held in cc;
        serial = l.serial;
        taken = l.taken;
        phase = refl;
      }
  level_by (reads class) None = l
  level_by balances None = l

  level-next : (call : Call) → Level (next s call) (next t call)
  level-next call = subst (λ (o : Option Told). Level (next s call) (station_by o t call)) (sym (same-refusal call)) (level_by call (refusal s call))

module _ (p q : ℕ → ℕ) (agree : AgreeTo horizon p q) (k : ℕ) where
  shifts-level : (js : List Joint) (s t : Station) (v : Sight) → Level s t → Sound s → shifts p k v js (answers s (firsts js)) ≡ shifts q k v js (answers t (firsts js))
  shifts-level [] s t v l h = refl
  shifts-level (j ∷ js) s t v l h =
      let a = answer s (first j) in
      let b = answer t (first j) in
      let e = same_shape s t l (first j) in
      let v-same : sight_after v j a ≡ sight_after v j b = sight-shape v j a ∙ (ap (sight_after v j) (sym e) ∙ sym (sight-shape v j b)) in
      let here : shifts_at p k (sight_after v j a).change a ≡ shifts_at q k (sight_after v j b).change b =
      shifts-agree p q agree k (sight_after v j a).change a (range-by s (first j) (refusal s (first j)) refl h)
      ∙ (shifts-shape q k (sight_after v j a).change a ∙ (ap (shifts_at q k (sight_after v j a).change) (sym e) ∙ (sym (shifts-shape q k (sight_after v j a).change b) ∙ ap (λ (w : Sight). shifts_at q k w.change b) v-same))) in
      let rest = shifts-level js (next s (first j)) (next t (first j)) (sight_after v j a) (level-next s t l (first j)) (sound-next s (first j) h) in
      let more = rest ∙ ap (λ (w : Sight). shifts q k w js (answers (next t (first j)) (firsts js))) v-same in
      ap (λ (zs : List ℤ). zs ++ shifts p k (sight_after v j a) js (answers (next s (first j)) (firsts js))) here ∙ ap (λ (zs : List ℤ). shifts_at q k (sight_after v j b).change b ++ zs) more

-- Cells by position

moved_length : (xs zs : List ℤ) → length (moved_by xs zs) ≡ length xs
moved_length [] zs = refl
moved_length (x ∷ xs) [] = refl
moved_length (x ∷ xs) (z ∷ zs) = ap suc (moved_length xs zs)

less_zero : (x : ℤ) → x ≡ x -ℤ pos 0
less_zero x = omega (arith, ints)

moved_at : (xs zs : List ℤ) (i : ℕ) → i < length xs → get_or (moved_by xs zs) i (pos 0) ≡ get_or xs i (pos 0) -ℤ get_or zs i (pos 0)
moved_at [] zs i h = absurd (omega arith)
moved_at (x ∷ xs) [] i h = less_zero (get_or (x ∷ xs) i (pos 0))
moved_at (x ∷ xs) (z ∷ zs) zero h = refl
moved_at (x ∷ xs) (z ∷ zs) (suc i) h = moved_at xs zs i (omega arith)

zero-from : (x z : ℤ) → x ≡ x -ℤ z → z ≡ pos 0
zero-from x z h = omega (arith, ints, h)

place-one : (xs ys zs : List ℤ) (i : ℕ) → length xs ≡ length ys → get_or xs i (pos 0) ≡ get_or (moved_by xs zs) i (pos 0) → get_or ys i (pos 0) ≡ get_or (moved_by ys zs) i (pos 0)
place-one xs ys zs i n h =
    ⊎_elim
    (λ (past : length ys ≤ i). get_or_past ys i (pos 0) past ∙ sym (get_or_past (moved_by ys zs) i (pos 0) (let m = moved_length ys zs in omega arith)))
    (λ (here : i < length ys).
    let z = zero-from (get_or xs i (pos 0)) (get_or zs i (pos 0)) (h ∙ moved_at xs zs i (omega arith)) in
    less_zero (get_or ys i (pos 0)) ∙ (ap (λ (y : ℤ). get_or ys i (pos 0) -ℤ y) (sym z) ∙ sym (moved_at ys zs i here)))
    (le-or-gt (length ys) i)

pub same-places : (p q p' q' : Making) (js : List Joint) → Pair p q js → Pair p' q' js → p.setting ≡ p'.setting → AgreeTo horizon p.back p'.back → length p.cells ≡ length p'.cells → (position : ℕ) → (cell_at p position ≡ cell_at q position) ↔ (cell_at p' position ≡ cell_at q' position)
same-places p q p' q' js r r' setting plan tape i =
    let level : Level (make p) (make p') =
    record { setting = setting; plan = plan; tape = tape; spent = refl; held = refl; serial = refl; taken = refl; phase = refl } in
    let k = p.setting.classes in
    let zs = shifts p.back k unseen js (answers (make p) (firsts js)) in
    let e = shifts-level p.back p'.back plan k js (make p) (make p') unseen level (sound-made p.setting p.back p.cells p.says) in
    let first' : q'.cells ≡ moved_by p'.cells zs =
    r'.moved ∙ ap (moved_by p'.cells) (ap (λ (x : Setting). shifts p'.back x.classes unseen js (answers (make p') (firsts js))) (sym setting) ∙ sym e) in (
      λ h. place-one p.cells p'.cells zs i tape (h ∙ ap (λ (xs : List ℤ). get_or xs i (pos 0)) r.moved) ∙ ap (λ (xs : List ℤ). get_or xs i (pos 0)) (sym first'),
      λ h. place-one p'.cells p.cells zs i (sym tape) (h ∙ ap (λ (xs : List ℤ). get_or xs i (pos 0)) first') ∙ ap (λ (xs : List ℤ). get_or xs i (pos 0)) (sym r.moved),
    )
