use Rattle.std.proofs.Common.{◌≡◌, ℕ, ◌-◌, ◌<◌, ◌≤◌, List, ◌++◌, length, sym, ap, ◌∙◌, subst, rules}
use Rattle.std.proofs.ByRecursion.{All-from_get_or}
use Rattle.record.specs.Little.{field}
use Rattle.record.specs.Kinds.{bytes_of}
use Rattle.record.specs.declared.reader.Reading.{Reading}
use Rattle.record.specs.Reads.{body_in}
use Rattle.record.specs.Seen.{Borrows, reading_of, seen}
use Rattle.record.proofs.Numbers.{field-2}
use Rattle.record.proofs.SameBytes.{same_bytes}
use Rattle.record.proofs.Whole.{answer-cut, body-cut, rest-cut}
use Rattle.record.proofs.reader.read_record.Goals as goal

pub returns-else-length-tail : goal.returns-else-length-tail
returns-else-length-tail c =
    let h : 4 ≤ length c.args.bytes.now = search rules in
    let e : c.from_le_bytes-length.result ≡ field 0 2 c.args.bytes.now = search (rules, field-2) in
    let f : c.from_le_bytes-kind.result ≡ field 2 2 c.args.bytes.now = search (rules, field-2) in
    let l : c.from_le_bytes-length.result ≤ length c.args.bytes.now - 4 = search rules in
    let read = c.from-reading.ensures in
    let value = ap seen read ∙ (c.unpack.ensures.value ∙ sym (answer-cut c.args.bytes.now _ _ h e f l)) in
    let rest = sym (rest-cut c.args.bytes.now _ _ h e f l) in
    let all = All-from_get_or (λ b. b < 256) c.args.bytes.now 0 (λ i _. (c.type_inv.bytes i).fits) in
    let borrowed : Borrows (reading_of c.unpack.result) (body_in c.args.bytes.now) = subst (λ (xs : List ℕ). Borrows (reading_of c.unpack.result) xs) (body-cut c.args.bytes.now _ _ h e f l) c.unpack.ensures.borrowed in
    record { value = value; rest = rest; borrowed = subst (λ (r : Reading). Borrows r (body_in c.args.bytes.now)) (sym read) borrowed; same_bytes = λ x q. ap (λ (tail : List ℕ). bytes_of x ++ tail) rest ∙ same_bytes c.args.bytes.now all x (sym value ∙ q) }
