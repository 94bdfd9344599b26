-- From one stretch of free words to the one before it. The word before a stretch is not free, so the stretch before it ends at a marked word.
-- Assumes nothing.
use Prim.Native.Nat.{ℕ, ◌-◌, ◌≤◌, ◌<◌}
use native.Mathlib.Decide.{dec_lt, ℕ_discrete}
use native.Mathlib.Omega.{arith}
use mathlib.Core.Path.{◌≡◌}
use mathlib.Core.List.{List}
use lib.ListN.{length, get_or-eq_default}
use Rattle.chain.specs.Chain.{Free}
use Rattle.chain.specs.Stretches.{StretchBefore}
use Rattle.index.specs.Built.{AllFree, Stretched}
use Rattle.index.proofs.Free.{Busy, busy_by, not_free}

-- Where a walk over the stretches stands: before this position nothing was visited. It is the end of the sequence, or a stretch begins there.
pub record Walk (xs : List ℕ) (end : ℕ) : Type 0 where
  pub within : end ≤ length xs
  pub edge : 0 < end → end < length xs → Free xs (end - 1) → ⊥

-- No window begins between two stretches that is free.
pub busy_between : (s : ℕ) (xs : List ℕ) (end from to : ℕ) → 1 ≤ s → StretchBefore xs end from to → (q : ℕ) → to ≤ q → q < end → Busy s xs q
busy_between s xs end from to least b q k l = busy_by s xs q q (omega arith) (omega arith) (b.past q k l)

-- Past the end no word is free.
pub end_marked : (xs : List ℕ) (i : ℕ) → length xs ≤ i → Free xs i → ⊥
end_marked xs i h free = free (get_or-eq_default xs 0 {n = i} h)

-- A free window begins within its sequence.
pub free_within : (s : ℕ) (xs : List ℕ) (q : ℕ) → 1 ≤ s → AllFree s xs q → q < length xs
free_within s xs q least free = go (dec_lt q (length xs))
  where
    go : Dec (q < length xs) → q < length xs
    go (yes l) = l
    go (no l) = absurd (not_free s xs q (busy_by s xs q q (omega arith) (omega arith) (end_marked xs q (omega (arith, l)))) free)

pub walk_first : (xs : List ℕ) (end : ℕ) → end ≡ length xs → Walk xs end
walk_first xs end e = record { within = omega arith; edge = λ some l. absurd (omega (arith, e, l)) }

module _ (xs : List ℕ) (end from to : ℕ) (w : Walk xs end) (b : StretchBefore xs end from to) where
  -- The word at the end of a stretch is not free, for the stretch behind it begins later.
  pub walk_here : 0 < to → Stretched xs from to
  walk_here some =
      record {
        some = b.some some;
        within = omega (arith, b.within, w.within);
        free = b.free;
        closed = closed (ℕ_discrete to end) (dec_lt end (length xs));
      }
    where
      closed : Dec (to ≡ end) → Dec (end < length xs) → Free xs to → ⊥
      closed (yes d) (yes l) free =
          let e : to - 1 ≡ end - 1 = omega (arith, d) in
          w.edge (omega (arith, d)) l (rw e at (b.free (to - 1) (omega (arith, b.some some)) (omega arith)))
      closed (yes d) (no l) free = end_marked xs to (omega (arith, d, l)) free
      closed (no d) l free = b.past to (omega arith) (omega (arith, d, b.within)) free
