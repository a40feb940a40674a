-- Two stations side by side: they refuse and answer alike, call after call.
use Rattle.std.proofs.Common.{◌≡◌, ℕ, zero, suc, ◌≤◌, Bool, true, false, cond, ltb, leb, List, [], ◌∷◌, length, get_or, set, Some, None, Option, sym, refl, ap, ◌∙◌, le-ltb, leb-true}
use Rattle.std.proofs.lemmas.List.{length-set}
use Rattle.fault.specs.Told.{Told}
use Rattle.plan.specs.Plans.{horizon, AgreeTo, back_asked, depth, depth_asked}
use Rattle.plan.proofs.Agree.{depth_same}
use Rattle.plan.proofs.Asked.{back-asked}
use Rattle.finisher.specs.Finishers.{Alike}
use Rattle.runs.specs.Model.{Station, Lane, Call, opens, steps, closes, reads, balances, published, first_above, first_told, checks, refusal, accepted, answer_by, answer, empty_lane}
use Rattle.runs.specs.Runs.{Joint, same, apart, first, second, Change, Sight, MayDiffer, other_count}
use Rattle.runs.proofs.Pairs.{LaneLinked, Paired}
use Rattle.runs.proofs.Carry.{Seen}

-- what an observer cannot tell the two stations apart by
pub record Linked (s t : Station) (v : Sight) : Type 0 where
  pub setting : s.setting ≡ t.setting
  pub plan : AgreeTo horizon s.back t.back
  pub says : Alike s.says t.says
  pub tape : length s.cells ≡ length t.cells
  pub spent : s.spent ≡ t.spent
  pub held : s.held ≡ t.held
  pub serial : s.serial ≡ t.serial
  pub taken : s.steps ≡ t.steps
  pub phase : s.phase ≡ t.phase
  pub lanes : Paired (LaneLinked v.change) 0 s.lanes t.lanes
  pub seen : Seen v.change s.steps
  pub unused : v.used ≡ false → v.change ≡ None

-- the part of it that decides what is refused
pub record Level (s t : Station) : Type 0 where
  pub setting : s.setting ≡ t.setting
  pub plan : AgreeTo horizon s.back t.back
  pub tape : length s.cells ≡ length t.cells
  pub spent : s.spent ≡ t.spent
  pub held : s.held ≡ t.held
  pub serial : s.serial ≡ t.serial
  pub taken : s.steps ≡ t.steps
  pub phase : s.phase ≡ t.phase

level-of : (s t : Station) (v : Sight) → Linked s t v → Level s t
level-of s t v l =
    record {
      setting = l.setting;
      plan = l.plan;
      tape = l.tape;
      spent = l.spent;
      held = l.held;
      serial = l.serial;
      taken = l.taken;
      phase = l.phase;
    }

-- Plans that agree answer alike.

within_by : (k a b : ℕ) (c : Bool) → (c ≡ true → a ≡ b) → cond c a 0 ≡ cond c b 0
within_by k a b true f = f refl
within_by k a b false f = refl

module _ (p q : ℕ → ℕ) (agree : AgreeTo horizon p q) where
  pub depth-alike : (k : ℕ) → depth_asked p k ≡ depth_asked q k
  depth-alike k = within_by k (depth p k) (depth q k) (leb k horizon) (λ h. depth_same p q horizon agree k (leb-true k horizon h))

  pub back-alike : (k : ℕ) → 1 ≤ k → k ≤ horizon → back_asked p k ≡ back_asked q k
  back-alike k a b = back-asked p k a b ∙ (agree k a b ∙ sym (back-asked q k a b))

-- Rows that differ in counts up to 1,000 are looked at alike.

over-head : (x : ℕ) (n : ℕ) → x ≤ 1000 → cond (ltb 1000 x) 0 n ≡ n
over-head x n h = rw (le-ltb 1000 x h)

over-set : (row : List ℕ) (j y : ℕ) → get_or row j 0 ≤ 1000 → y ≤ 1000 → first_above (set row j y) ≡ first_above row
over-set [] j y h k = refl
over-set (x ∷ row) zero y h k = over-head y (suc (first_above row)) k ∙ sym (over-head x (suc (first_above row)) h)
over-set (x ∷ row) (suc j) y h k = ap (λ (n : ℕ). cond (ltb 1000 x) 0 (suc n)) (over-set row j y h k)

-- Refusals

module _ (s t : Station) (l : Level s t) where
  pub checks-same : (call : Call) → checks s call ≡ checks t call
  checks-same (opens epoch) =
      let a = l.setting in let b = l.spent in let c = l.held in let d = l.serial in let e = l.phase in
      let f = depth-alike s.back t.back l.plan epoch in cc
  checks-same (steps row) = let a = l.setting in let b = l.tape in let c = l.taken in let e = l.phase in cc
  checks-same (closes number serial) = let a = l.setting in let d = l.serial in let e = l.phase in cc
  checks-same (reads class) = let a = l.setting in let c = l.taken in cc
  checks-same balances = refl

  checks-apart : (row row' : List ℕ) → length row ≡ length row' → first_above row ≡ first_above row' → checks s (steps row) ≡ checks t (steps row')
  checks-apart row row' n o = let a = l.setting in let b = l.tape in let c = l.taken in let e = l.phase in cc

module _ (s t : Station) (v : Sight) (l : Linked s t v) where
  pub refusal-linked : (j : Joint) → MayDiffer v j → refusal t (second j) ≡ refusal s (first j)
  refusal-linked (same call) h = ap first_told (sym (checks-same s t (level-of s t v l) call))
  refusal-linked (apart row class more) (a, b, c, d, e, f) =
      ap first_told (sym (checks-apart s t (level-of s t v l) row (set row class (other_count more (get_or row class 0))) (sym (length-set row class (other_count more (get_or row class 0)))) (sym (over-set row class (other_count more (get_or row class 0)) d e))))

  published-same : (change : Option Change) (class k : ℕ) (as' bs : List Lane) → Paired (LaneLinked change) k as' bs → (get_or as' class empty_lane).published ≡ (get_or bs class empty_lane).published
  published-same change class k [] [] q = refl
  published-same change class k (a ∷ as') [] q = absurd q
  published-same change class k [] (b ∷ bs) q = absurd q
  published-same change zero k (a ∷ as') (b ∷ bs) (q, qs) = q.published
  published-same change (suc class) k (a ∷ as') (b ∷ bs) (q, qs) = published-same change class (suc k) as' bs qs

  accepted-linked : (j : Joint) → accepted t (second j) ≡ accepted s (first j)
  accepted-linked (same (opens epoch)) = let a = l.setting in let b = l.serial in cc
  accepted-linked (same (steps row)) = let a = l.taken in cc
  accepted-linked (same (closes number serial)) =
      let a = l.taken in let b = l.phase in
      let f : depth_asked t.back t.steps ≡ depth_asked s.back s.steps = sym (depth-alike s.back t.back l.plan t.steps) ∙ ap (depth_asked s.back) (sym a) in cc
  accepted-linked (same (reads class)) = ap published (sym (published-same v.change class 0 s.lanes t.lanes l.lanes))
  accepted-linked (same balances) = let a = l.setting in let b = l.spent in let c = l.held in cc
  accepted-linked (apart row class more) = let a = l.taken in cc

  answered-by : (j : Joint) (o : Option Told) → answer_by o t (second j) ≡ answer_by o s (first j)
  answered-by j (Some told) = refl
  answered-by j None = accepted-linked j

  pub answer-linked : (j : Joint) → MayDiffer v j → answer t (second j) ≡ answer s (first j)
  answer-linked j h = ap (λ (o : Option Told). answer_by o t (second j)) (refusal-linked j h) ∙ answered-by j (refusal s (first j))
