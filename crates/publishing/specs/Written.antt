-- Records written one after the other.
use Rattle.std.specs.Prelude.{◌≡◌, ℕ, ◌+◌, List, length}
use Rattle.record.specs.Kinds.{Entry}
use Rattle.record.specs.Writes.{put}
use Rattle.publication.specs.Works.{capped}
use Rattle.publication.specs.declared.work.InWork.{InWork}
use Rattle.publishing.specs.Whole.{bytes_in}

-- a publication and its output, before and after some records
pub record Wrote (es : List Entry) (work : InWork) (out : List ℕ) (then : InWork) (done : List ℕ) : Type 0 where
  pub written : then.written ≡ work.written + length (bytes_in es)
  pub records : (n : ℕ) → work.records ≡ capped n → then.records ≡ capped (n + length es)
  pub output : done ≡ put work.written (bytes_in es) out
