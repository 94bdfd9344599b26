-- What a tile takes from the free stretches: its own words, and those of what is left of its stretch on either side, where that is shorter than
-- the minimum. So free stretches have room for every tile that is still to come.
-- Assumes nothing.
use Prim.Native.Nat.{ℕ, zero, suc, ◌+◌, ◌≤◌, ◌<◌}
use native.Mathlib.Decide.{dec_le}
use native.Mathlib.Nat.{not-suc-le-zero, le_of_suc-le-suc}
use native.Mathlib.Omega.{arith}
use mathlib.Core.Path.{◌≡◌, refl, ◌∙◌, ap}
use mathlib.Core.List.{List, [], ◌∷◌}
use borrow.Author.Tests.{le-leb, lt-leb}
use lib.ListN.{length, take, drop, get_or}
use Rattle.tiling.specs.Run.{mark}
use Rattle.tiling.specs.Stretch.{stretches_after, if_long, sum_long, fillable, free_first}
use Rattle.stretch.specs.Sides.{free_last, if_short}

-- ---- one length
pub long_is : (minimum len : ℕ) → minimum ≤ len → len ≡ if_long minimum len
unfolding if_long
long_is minimum len h = rw (if_long, le-leb minimum len h) refl

pub short_is : (minimum len : ℕ) → len < minimum → 0 ≡ if_long minimum len
unfolding if_long
short_is minimum len h = rw (if_long, lt-leb minimum len h) refl

-- A length counts whole or not at all.
pub long_or_short : (minimum len : ℕ) → if_long minimum len + if_short minimum len ≡ len
unfolding if_long if_short
long_or_short minimum len = go (dec_le minimum len)
  where
    go : Dec (minimum ≤ len) → if_long minimum len + if_short minimum len ≡ len
    go (yes h) = rw (if_long, if_short, le-leb minimum len h) (omega arith)
    go (no h) = let l : len < minimum = omega (arith, h) in rw (if_long, if_short, lt-leb minimum len l) (omega arith)

no_words : (minimum : ℕ) → if_long minimum 0 ≡ 0
no_words minimum = omega (arith, long_or_short minimum 0)

module _ (minimum : ℕ) where
  -- The sum, where so many free words stand right before the list.
  abbrev sum : ℕ → List ℕ → ℕ
  sum before ws = sum_long minimum (stretches_after before ws)

  -- What stands before a list counts with the free words that it begins with.
  sum_before : (a c : ℕ) (ws : List ℕ) → sum a ws + if_long minimum (c + free_first ws) ≡ if_long minimum (a + free_first ws) + sum c ws
  unfolding sum_long stretches_after free_first
  sum_before a c [] = let x : a + 0 ≡ a = omega arith in let y : c + 0 ≡ c = omega arith in rw (x, y) (omega arith)
  sum_before a c (zero ∷ ws) = let x : a + 0 ≡ a = omega arith in let y : c + 0 ≡ c = omega arith in rw (x, y) (omega arith)
  sum_before a c (suc w ∷ ws) =
      let x : a + suc (free_first ws) ≡ suc a + free_first ws = omega arith in
      let y : c + suc (free_first ws) ≡ suc c + free_first ws = omega arith in
      rw (x, y) (sum_before (suc a) (suc c) ws)

  -- Free words add to what stands before the rest; marked words leave nothing before it.
  sum_free : (a n : ℕ) (ws : List ℕ) → n ≤ length ws → ((i : ℕ) → i < n → get_or ws i 0 ≡ 0 → ⊥) → sum a ws ≡ sum (a + n) (drop n ws)
  unfolding sum_long stretches_after
  sum_free a zero ws h free = let x : a + 0 ≡ a = omega arith in rw x refl
  sum_free a (suc n) [] h free = absurd (not-suc-le-zero h)
  sum_free a (suc n) (zero ∷ ws) h free = absurd (free 0 (omega arith) refl)
  sum_free a (suc n) (suc w ∷ ws) h free =
      let x : a + suc n ≡ suc a + n = omega arith in
      rw x (sum_free (suc a) n ws (le_of_suc-le-suc h) (λ i l. free (suc i) (omega arith)))

  sum_marked : (n : ℕ) (ws : List ℕ) → n ≤ length ws → sum 0 (mark 0 n ws) ≡ sum 0 (drop n ws)
  unfolding sum_long stretches_after mark
  sum_marked zero [] h = refl
  sum_marked zero (w ∷ ws) h = refl
  sum_marked (suc n) [] h = absurd (not-suc-le-zero h)
  sum_marked (suc n) (w ∷ ws) h = omega (arith, no_words minimum, sum_marked n ws (le_of_suc-le-suc h))

  -- A tile at the start of a list.
  sum_here : (a n : ℕ) (ws : List ℕ) → 1 ≤ n → minimum ≤ n → n ≤ length ws → ((i : ℕ) → i < n → get_or ws i 0 ≡ 0 → ⊥) → n + if_short minimum a + if_short minimum (free_first (drop n ws)) + sum a (mark 0 n ws) ≡ sum a ws
  unfolding sum_long stretches_after mark
  sum_here a zero ws one least h free = absurd (omega arith)
  sum_here a (suc n) [] one least h free = absurd (not-suc-le-zero h)
  sum_here a (suc n) (w ∷ ws) one least h free =
      let rest = drop (suc n) (w ∷ ws) in
      let y : 0 + free_first rest ≡ free_first rest = omega arith in
      let x : a + suc n + free_first rest ≡ if_long minimum (a + suc n + free_first rest) = long_is minimum (a + suc n + free_first rest) (omega arith) in
      omega (
        arith,
        sum_free a (suc n) (w ∷ ws) h free,
        sum_before (a + suc n) 0 rest,
        ap (if_long minimum) y,
        x,
        sum_marked n ws (le_of_suc-le-suc h),
        long_or_short minimum a,
        long_or_short minimum (free_first rest),
      )

  -- A tile further on.
  sum_tile : (a p n : ℕ) (ws : List ℕ) → 1 ≤ n → minimum ≤ n → p + n ≤ length ws → ((i : ℕ) → i < n → get_or ws (p + i) 0 ≡ 0 → ⊥) → n + if_short minimum (free_last a (take p ws)) + if_short minimum (free_first (drop (p + n) ws)) + sum a (mark p n ws) ≡ sum a ws
  unfolding sum_long stretches_after mark free_last
  sum_tile a zero n ws one least h free =
      let e : 0 + n ≡ n = omega arith in
      rw e (sum_here a n ws one least (omega arith) (λ i l z. free i l (let k : 0 + i ≡ i = omega arith in rw k z)))
  sum_tile a (suc p) n [] one least h free = absurd (omega arith)
  sum_tile a (suc p) n (zero ∷ ws) one least h free =
      let e : suc p + n ≡ suc (p + n) = omega arith in
      rw e (omega (arith, sum_tile 0 p n ws one least (omega arith) (λ i l z. free i l (let k : suc p + i ≡ suc (p + i) = omega arith in rw k z))))
  sum_tile a (suc p) n (suc w ∷ ws) one least h free =
      let e : suc p + n ≡ suc (p + n) = omega arith in
      rw e (sum_tile (suc a) p n ws one least (omega arith) (λ i l z. free i l (let k : suc p + i ≡ suc (p + i) = omega arith in rw k z)))

  -- So this is what a tile takes.
  pub tile_takes : (p n : ℕ) (ws : List ℕ) → 1 ≤ n → minimum ≤ n → p + n ≤ length ws → ((i : ℕ) → i < n → get_or ws (p + i) 0 ≡ 0 → ⊥) → n + if_short minimum (free_last 0 (take p ws)) + if_short minimum (free_first (drop (p + n) ws)) + fillable minimum (mark p n ws) ≡ fillable minimum ws
  tile_takes = sum_tile 0

  -- There is no more than all words, and that is what there is where all are free.
  sum_most : (a : ℕ) (ws : List ℕ) → sum a ws ≤ a + length ws
  unfolding sum_long stretches_after
  sum_most a [] = omega (arith, long_or_short minimum a)
  sum_most a (zero ∷ ws) = omega (arith, long_or_short minimum a, sum_most 0 ws)
  sum_most a (suc w ∷ ws) = omega (arith, sum_most (suc a) ws)

  pub fillable_most : (ws : List ℕ) → fillable minimum ws ≤ length ws
  fillable_most ws = omega (arith, sum_most 0 ws)

  sum_all : (a : ℕ) (ws : List ℕ) → ((i : ℕ) → i < length ws → get_or ws i 0 ≡ 0 → ⊥) → sum a ws ≡ if_long minimum (a + length ws)
  unfolding sum_long stretches_after
  sum_all a [] free = let x : a + 0 ≡ a = omega arith in rw x (omega arith)
  sum_all a (zero ∷ ws) free = absurd (free 0 (omega arith) refl)
  sum_all a (suc w ∷ ws) free =
      let x : a + suc (length ws) ≡ suc a + length ws = omega arith in
      rw x (sum_all (suc a) ws (λ i l. free (suc i) (omega arith)))

  pub fillable_all : (ws : List ℕ) → ((i : ℕ) → i < length ws → get_or ws i 0 ≡ 0 → ⊥) → fillable minimum ws ≡ if_long minimum (length ws)
  fillable_all ws free = let e : 0 + length ws ≡ length ws = omega arith in sum_all 0 ws free ∙ ap (if_long minimum) e
