-- Records added where there is room for them.
use Rattle.std.proofs.Common.{◌≡◌, ℕ, ◌+◌, ◌-◌, ◌≤◌, List, [], ◌∷◌, ◌++◌, length, take, drop, Ok, Result, sym, refl, ap, ◌∙◌, subst, add-zero, zero-add, arith}
use Rattle.std.proofs.lemmas.List.{append_assoc, append-nil, drop-drop, drop_at, length-append, length-drop, length-take-le, take-append-drop, take_at}
use Rattle.fault.specs.declared.Fault.{Fault}
use Rattle.fault.specs.Told.{Told}
use Rattle.record.specs.Kinds.{Entry, bytes_of, ended}
use Rattle.record.specs.Writes.{number_of_counts, put, write_of}
use Rattle.record.proofs.Written.{write-accepts, output-accepted}
use Rattle.publication.specs.Works.{added_as, capped, Counted, ended_as, grown, output_with, written_with}
use Rattle.publication.specs.declared.work.Ended.{Ended}
use Rattle.publication.specs.declared.work.InWork.{InWork}
use Rattle.publishing.specs.Whole.{bytes_in, whole}
use Rattle.publishing.specs.Written.{Wrote}

-- a record that fits behind the bytes that are written
module _ (e : Entry) (at : ℕ) (out : List ℕ) (some : 1 ≤ number_of_counts e) (few : number_of_counts e ≤ 8) (room : at + length (bytes_of e) ≤ length out) where
  long : length (drop at out) ≡ length out - at
  long = length-drop at out

  fits : length (bytes_of e) ≤ length (drop at out)
  fits = omega (arith, long)

  pub written-fits : written_with at e (length out) ≡ Ok (at + length (bytes_of e))
  written-fits = ap (grown at) (ap (write_of e) (sym long) ∙ write-accepts e (drop at out) some few fits)

  pub output-fits : output_with at e out ≡ put at (bytes_of e) out
  output-fits =
      ap (λ (xs : List ℕ). take at out ++ xs) (output-accepted e (drop at out) some few fits)
      ∙ ap (λ (xs : List ℕ). take at out ++ (bytes_of e ++ xs)) (ap (λ (n : ℕ). drop n (drop at out)) (zero-add (length (bytes_of e))) ∙ drop-drop (length (bytes_of e)) at out)
      ∙ sym (append_assoc (take at out) (bytes_of e) (drop (at + length (bytes_of e)) out))

ok-same : (m n : ℕ) (r : Result ℕ Told) → ◌≡◌ {A = Result ℕ Told} (Ok m) r → r ≡ Ok n → m ≡ n
ok-same m n r p q = cc

-- a record that is added where there is room for it
module _ (e : Entry) (work : InWork) (out : List ℕ) (some : 1 ≤ number_of_counts e) (few : number_of_counts e ≤ 8) (room : work.written + length (bytes_of e) ≤ length out)
    (r : Result InWork (Fault × InWork)) (answer : added_as r ≡ written_with work.written e (length out)) where
  pub wrote-one : (then : InWork) (done : List ℕ) → r ≡ Ok then → Counted work r → done ≡ output_with work.written e out → Wrote (e ∷ []) work out then done
  wrote-one then done is counted after =
      let nil = append-nil (bytes_of e) in
      let size : ◌≡◌ {A = Result ℕ Told} (Ok then.written) (written_with work.written e (length out)) = ap added_as (sym is) ∙ answer in
      let count : then.records ≡ capped (work.records + 1) = subst (Counted work) is counted in
      record {
        written = ok-same then.written (work.written + length (bytes_of e)) _ size (written-fits e work.written out some few room) ∙ ap (λ (xs : List ℕ). work.written + length xs) (sym nil);
        records = λ n h. omega (arith, count);
        output = after ∙ output-fits e work.written out some few room ∙ ap (λ (xs : List ℕ). put work.written xs out) (sym nil);
      }

-- the end record
module _ (work : InWork) (out : List ℕ) (room : work.written + 8 ≤ length out) (r : Result Ended (Fault × InWork)) (answer : ended_as r ≡ written_with work.written (ended work.records) (length out)) where
  pub end-size : (end : Ended) → r ≡ Ok end → end.written ≡ work.written + 8
  end-size end is = ok-same end.written (work.written + 8) _ (ap ended_as (sym is) ∙ answer) (written-fits (ended work.records) work.written out (omega arith) (omega arith) room)

-- no record
pub wrote_none : (work : InWork) (out : List ℕ) → Wrote [] work out work out
wrote_none work out =
    record {
      written = omega arith;
      records = λ n h. omega (arith, h);
      output = sym (ap (λ (xs : List ℕ). xs ++ drop (work.written + 0) out) (append-nil (take work.written out)) ∙ ap (λ (n : ℕ). take work.written out ++ drop n out) (add-zero work.written) ∙ take-append-drop work.written out);
    }

put-put : (at : ℕ) (xs ys out : List ℕ) → at + length xs ≤ length out → put (at + length xs) ys (put at xs out) ≡ put at (xs ++ ys) out
put-put at xs ys out room =
    let start : length (take at out) ≡ at = length-take-le at out (omega arith) in
    let long : length (take at out ++ xs) ≡ at + length xs = length-append (take at out) xs ∙ omega arith in
    let front : take (at + length xs) (put at xs out) ≡ take at out ++ xs = take_at (take at out ++ xs) (drop (at + length xs) out) (at + length xs) long in
    let back : drop (at + length xs + length ys) (put at xs out) ≡ drop (at + length (xs ++ ys)) out =
    sym (drop-drop (length ys) (at + length xs) (put at xs out))
    ∙ ap (drop (length ys)) (drop_at (take at out ++ xs) (drop (at + length xs) out) (at + length xs) long)
    ∙ drop-drop (length ys) (at + length xs) out
    ∙ ap (λ (n : ℕ). drop n out) (omega (arith, length-append xs ys)) in
    ap (λ (zs : List ℕ). zs ++ ys ++ drop (at + length xs + length ys) (put at xs out)) front
    ∙ ap (λ (zs : List ℕ). take at out ++ xs ++ ys ++ zs) back
    ∙ ap (λ (zs : List ℕ). zs ++ drop (at + length (xs ++ ys)) out) (append_assoc (take at out) xs ys)

pub bytes-append : (es fs : List Entry) → bytes_in (es ++ fs) ≡ bytes_in es ++ bytes_in fs
bytes-append [] fs = refl
bytes-append (e ∷ es) fs = ap (λ (xs : List ℕ). bytes_of e ++ xs) (bytes-append es fs) ∙ sym (append_assoc (bytes_of e) (bytes_in es) (bytes_in fs))

-- records, and then more
pub wrote-more : (es fs : List Entry) (work then last : InWork) (out done end : List ℕ)
    → work.written + length (bytes_in es) ≤ length out
    → Wrote es work out then done → Wrote fs then done last end → Wrote (es ++ fs) work out last end
wrote-more es fs work then last out done end room one two =
    let bytes = bytes-append es fs in
    let long = length-append (bytes_in es) (bytes_in fs) in
    record {
      written = two.written ∙ (ap (λ (n : ℕ). n + length (bytes_in fs)) one.written ∙ (omega (arith, long) ∙ ap (λ (xs : List ℕ). work.written + length xs) (sym bytes)));
      records = λ n h. two.records (n + length es) (one.records n h) ∙ ap capped (omega (arith, length-append es fs));
      output =
          two.output
          ∙ ap (λ (n : ℕ). put n (bytes_in fs) done) one.written
          ∙ ap (put (work.written + length (bytes_in es)) (bytes_in fs)) one.output
          ∙ put-put work.written (bytes_in es) (bytes_in fs) out room
          ∙ ap (λ (xs : List ℕ). put work.written xs out) (sym bytes);
    }

-- all records and the end record behind them
module _ (es : List Entry) (work then : InWork) (out done end : List ℕ) (start : work.written ≡ 0) (none : work.records ≡ 0)
    (wrote : Wrote es work out then done) (room : then.written + 8 ≤ length done) (long : length done ≡ length out)
    (ending : end ≡ put then.written (bytes_of (ended then.records)) done) where
  at-end : then.written ≡ length (bytes_in es)
  at-end = let w = wrote.written in omega arith

  counted : then.records ≡ capped (length es)
  counted = wrote.records 0 (none ∙ omega arith) ∙ ap capped (zero-add (length es))

  whole_long : then.written + 8 ≡ length (whole es)
  whole_long = let a = at-end in omega (arith, length-append (bytes_in es) (bytes_of (ended (capped (length es)))))

  whole-output : end ≡ whole es ++ drop (length (whole es)) out
  whole-output =
      let fits : 0 + length (bytes_in es) ≤ length out = let a = at-end in omega arith in
      ending
      ∙ ap (λ (n : ℕ). put then.written (bytes_of (ended n)) done) counted
      ∙ ap (λ (n : ℕ). put n (bytes_of (ended (capped (length es)))) done) (at-end ∙ sym (zero-add (length (bytes_in es))))
      ∙ ap (put (0 + length (bytes_in es)) (bytes_of (ended (capped (length es))))) (wrote.output ∙ ap (λ (n : ℕ). put n (bytes_in es) out) start)
      ∙ put-put 0 (bytes_in es) (bytes_of (ended (capped (length es)))) out fits
      ∙ ap (λ (n : ℕ). whole es ++ drop n out) (zero-add (length (whole es)))

  -- how long the publication is, and what the output is then
  pub ended-whole : (then.written + 8 ≡ length (whole es)) × (end ≡ whole es ++ drop (length (whole es)) out)
  ended-whole = (whole_long, whole-output)
