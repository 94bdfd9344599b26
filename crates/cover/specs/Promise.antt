-- What two sequences cover at every minimum (02, U1), for any input: "Run a pair at minimum 1 and fill a lent buffer whose entry k, from
-- 0 to 255, holds the covered count at minimum k + 1."
use Rattle.std.specs.Prelude.{ℕ, ◌+◌, ◌≡◌, List, ltb, length}
use Rattle.refusal.specs.Refusal.{refuse, outcome}
use Rattle.buffer.specs.Buffer.{onto, tabulate}
use Rattle.tiling.specs.Listing.{listing, covered}
use Rattle.tiling.specs.Comparing.{fast_checks}
use Rattle.tiling.specs.Answer.{Compares}
use Rattle.tiling.specs.declared.Compared.{Compared}

-- "a buffer below 256 words is 11, after the comparison's own checks at minimum 1", where the cause 3 never holds. Sequences, bucket count and
-- first search length; then how many words workspace, tile buffer and this buffer have.
abbrev pub cover_refusal : List ℕ → List ℕ → ℕ → ℕ → ℕ → ℕ → ℕ → ℕ
cover_refusal first second buckets start workspace tiles entries =
    fast_checks first second 1 buckets start workspace tiles (refuse (ltb entries 256) 11 0)

-- Entry k: "the covered count at minimum k + 1".
abbrev pub cover_at : List ℕ → List ℕ → ℕ → ℕ
cover_at first second k = covered (listing first second (k + 1))

-- "Entries past 255 keep their values." After a refusal, number r, all do.
abbrev pub cover_buffer : ℕ → List ℕ → List ℕ → List ℕ → List ℕ
cover_buffer r first second buffer = outcome r (onto (tabulate (cover_at first second) 256) buffer) buffer

-- A call was lent the workspace ws, the tile buffer b and the buffer e for the entries; it answers a and leaves ws', b' and e'. "The tile buffer
-- and the reply are that run's."
pub record EveryMinimum (first second : List ℕ) (buckets start : ℕ) (ws b e : List ℕ) (a : Compared) (ws' b' e' : List ℕ) : Type 0 where
  pub compares : Compares (cover_refusal first second buckets start (length ws) (length b) (length e)) first second 1 ws b a ws' b'
  pub entries : e' ≡ cover_buffer (cover_refusal first second buckets start (length ws) (length b) (length e)) first second e
