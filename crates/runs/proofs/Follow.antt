-- Any list of calls, followed from the making.
use Rattle.std.proofs.Common.{◌≡◌, ℕ, ◌+◌, List, [], ◌∷◌, ◌++◌, map, Some, None, Option, sym, refl, ap, ◌∙◌, subst, arith}
use Rattle.std.proofs.lemmas.List.{append_cancel_left}
use Rattle.fault.specs.Told.{Told}
use Rattle.finisher.specs.Finishers as finisher
use Rattle.runs.specs.Model.{Station, Call, opens, steps, closes, reads, balances, Answer, opened, stepped, closed, published, balance, refused, refusal, answer_by, station_by, answer, next, advanced, release, after_row, after_open, after_close}
use Rattle.runs.specs.Runs.{answers, station_after, rows_taken, epoch_after, epoch_rows}
use Rattle.runs.specs.Law.{Making, LawfulMaking, make}
use Rattle.runs.proofs.Facts.{open-facts, Steps, step-facts}
use Rattle.runs.proofs.Sound.{Sound, sound-made, sound-open, sound-step, sound-close}
use Rattle.runs.proofs.Standing.{finishes_of}
use Rattle.runs.proofs.Track.{Track, track-made, track-open, track-close, track-step}

pub answers_push : (s : Station) (calls : List Call) (call : Call) → answers s (calls ++ call ∷ []) ≡ answers s calls ++ answer (station_after s calls) call ∷ []
answers_push s [] call = refl
answers_push s (c ∷ calls) call = ap (λ (xs : List Answer). answer s c ∷ xs) (answers_push (next s c) calls call)

pub station-push : (s : Station) (calls : List Call) (call : Call) → station_after s (calls ++ call ∷ []) ≡ next (station_after s calls) call
station-push s [] call = refl
station-push s (c ∷ calls) call = station-push (next s c) calls call

same-last : (a b : Answer) → ◌≡◌ {A = List Answer} (a ∷ []) (b ∷ []) → a ≡ b
same-last a b e = cc

pub answer-is : (s : Station) (calls : List Call) (call : Call) (a : Answer) → answers s (calls ++ call ∷ []) ≡ answers s calls ++ a ∷ [] → answer (station_after s calls) call ≡ a
answer-is s calls call a e =
    same-last (answer (station_after s calls) call) a (append_cancel_left (answers s calls) (answer (station_after s calls) call ∷ []) (a ∷ []) (sym (answers_push s calls call) ∙ e))

-- a fact of the finisher's calls and the station that every call carries on
pub record Carried (p : Making) (Q : List finisher.Call → Station → Type 0) : Type 0 where
  pub at-start : Q [] (make p)
  pub at_open : (s : Station) (n : ℕ) (rows : List (List ℕ)) (l : List finisher.Call) → Track p s n rows l → (epoch : ℕ) → Q (l ++ finisher.begins ∷ []) (after_open s epoch)
  pub at-step : (s : Station) (n : ℕ) (rows : List (List ℕ)) (l : List finisher.Call) → Track p s n rows l → (row : List ℕ) → Steps s row → Sound s → Q l s → Q (l ++ finishes_of 0 (map release (advanced s row))) (after_row s row)
  pub at-close : (s : Station) (l : List finisher.Call) → Q l s → Q l (after_close s)

pub rows-taken-more : (a : Answer) (rest : List Answer) → rows_taken (a ∷ rest) ≡ rows_taken (a ∷ []) + rows_taken rest
rows-taken-more (opened number serial) rest = omega arith
rows-taken-more (stepped step) rest = omega arith
rows-taken-more (closed taken units) rest = omega arith
rows-taken-more (published count) rest = omega arith
rows-taken-more (balance grant spent held) rest = omega arith
rows-taken-more (refused told) rest = omega arith

module _ (p : Making) (lawful : LawfulMaking p) (Q : List finisher.Call → Station → Type 0) (carried : Carried p Q) where
  pub record Keeping (s : Station) (n : ℕ) (rows : List (List ℕ)) : Type 0 where
    pub calls : List finisher.Call
    pub track : Track p s n rows calls
    pub sound : Sound s
    pub fact : Q calls s

  pub keep-made : Keeping (make p) 0 []
  keep-made =
      record { calls = []; track = track-made p; sound = sound-made p.setting p.back p.cells p.says; fact = carried.at-start }

  pub keep-by : (s : Station) (n : ℕ) (rows : List (List ℕ)) (call : Call) (o : Option Told) → refusal s call ≡ o → Keeping s n rows → Keeping (station_by o s call) (rows_taken (answer_by o s call ∷ []) + n) (epoch_after rows call (answer_by o s call))
  keep-by s n rows call (Some told) e f = subst (λ (k : ℕ). Keeping s k rows) (omega arith) f
  keep-by s n rows (opens t) None e f =
      subst (λ (k : ℕ). Keeping (after_open s t) k []) (omega arith)
      (record {
        calls = f.calls ++ finisher.begins ∷ [];
        track = track-open p lawful s n rows f.calls f.track t;
        sound = sound-open s t (open-facts s t e) f.sound;
        fact = carried.at_open s n rows f.calls f.track t;
      })
  keep-by s n rows (steps row) None e f =
      let g = step-facts s row e in
      subst (λ (k : ℕ). Keeping (after_row s row) k (rows ++ row ∷ [])) (omega arith)
      (record {
        calls = f.calls ++ finishes_of 0 (map release (advanced s row));
        track = track-step p lawful s n rows f.calls f.track row g f.sound;
        sound = sound-step s row g f.sound;
        fact = carried.at-step s n rows f.calls f.track row g f.sound f.fact;
      })
  keep-by s n rows (closes number serial) None e f =
      subst (λ (k : ℕ). Keeping (after_close s) k rows) (omega arith)
      (record {
        calls = f.calls;
        track = track-close p lawful s n rows f.calls f.track;
        sound = sound-close s f.sound;
        fact = carried.at-close s f.calls f.fact;
      })
  keep-by s n rows (reads class) None e f = subst (λ (k : ℕ). Keeping s k rows) (omega arith) f
  keep-by s n rows balances None e f = subst (λ (k : ℕ). Keeping s k rows) (omega arith) f

  keep-from : (calls : List Call) (s : Station) (n : ℕ) (rows : List (List ℕ)) → Keeping s n rows → Keeping (station_after s calls) (rows_taken (answers s calls) + n) (epoch_rows rows calls (answers s calls))
  keep-from [] s n rows f = subst (λ (k : ℕ). Keeping s k rows) (omega arith) f
  keep-from (call ∷ calls) s n rows f =
      let one = keep-by s n rows call (refusal s call) refl f in
      let rest = keep-from calls (next s call) _ _ one in
      subst (λ (k : ℕ). Keeping (station_after (next s call) calls) k (epoch_rows (epoch_after rows call (answer s call)) calls (answers (next s call) calls))) (omega (arith, rows-taken-more (answer s call) (answers (next s call) calls))) rest

  pub keep : (calls : List Call) → Keeping (station_after (make p) calls) (rows_taken (answers (make p) calls)) (epoch_rows [] calls (answers (make p) calls))
  keep calls = subst (λ (k : ℕ). Keeping (station_after (make p) calls) k (epoch_rows [] calls (answers (make p) calls))) (omega arith) (keep-from calls (make p) 0 [] keep-made)

-- with no fact besides

abbrev pub NothingMore : List finisher.Call → Station → Type 0
NothingMore l s = Unit {0}

pub none-carried : (p : Making) → Carried p NothingMore
none-carried p = record { at-start = tt; at_open = λ s n rows l t e. tt; at-step = λ s n rows l t row f h q. tt; at-close = λ s l q. tt }

module _ (p : Making) (lawful : LawfulMaking p) where
  abbrev pub Following : Station → ℕ → List (List ℕ) → Type 0
  Following = Keeping p lawful NothingMore (none-carried p)

  pub follow-made : Following (make p) 0 []
  follow-made = keep-made p lawful NothingMore (none-carried p)

  pub follow-by : (s : Station) (n : ℕ) (rows : List (List ℕ)) (call : Call) (o : Option Told) → refusal s call ≡ o → Following s n rows → Following (station_by o s call) (rows_taken (answer_by o s call ∷ []) + n) (epoch_after rows call (answer_by o s call))
  follow-by = keep-by p lawful NothingMore (none-carried p)

  pub follow : (calls : List Call) → Following (station_after (make p) calls) (rows_taken (answers (make p) calls)) (epoch_rows [] calls (answers (make p) calls))
  follow = keep p lawful NothingMore (none-carried p)
