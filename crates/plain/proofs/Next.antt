-- Looking for the positions of the text that have two words, so far on each. Those of a part of the text are looked at together: the words
-- near each of them are one part of the text, and the words far from them another, of the same length.
-- Assumes nothing.
use Prim.Native.Nat.{ℕ, ◌+◌, ◌-◌, ◌≤◌, ◌<◌, min}
use native.Mathlib.Omega.{arith}
use mathlib.Core.Path.{◌≡◌, ◌∙◌}
use mathlib.Core.List.{List}
use lib.ListN.{length, take, drop, get_or, length-take}
use lib.Seq.{get_or-take, get_or-drop}
use Rattle.tiling.proofs.Leading.{leading_within}
use Rattle.measure.specs.Before.{other_than, before}
use Rattle.measure.proofs.Before.{before_passes}
use Rattle.chain.specs.First.{Passing}
use Rattle.plain.specs.Pair.{SideBySide}

-- A part of so many words from a position on.
abbrev part : List ℕ → ℕ → ℕ → List ℕ
part ts from count = take (from + count - from) (drop from ts)

part_word : (ts : List ℕ) (from count i : ℕ) → i < count → get_or (part ts from count) i 0 ≡ get_or ts (from + i) 0
part_word ts from count i h = get_or-take (from + count - from) (drop from ts) i 0 (omega arith) ∙ get_or-drop from ts i 0

module _ (ts : List ℕ) (at near far a b count n : ℕ) (e : n ≡ before a b (part ts (at + near) count) (part ts (at + far) count)) where
  -- No more positions are passed than the part has.
  pub passed_few : n ≤ count
  passed_few =
      omega (arith, e, leading_within (other_than a b) (part ts (at + near) count) (part ts (at + far) count), length-take (at + near + count - (at + near)) (drop (at + near) ts))

  -- None of the positions that are passed has both words.
  pub pair_passed : (size : ℕ) → at + far < length ts → count ≡ min size (length ts - (at + far)) → Passing (SideBySide ts near far a b) at (length ts - far) (at + n)
  pair_passed size inside most = record { least = omega arith; within = omega (arith, passed_few); none = none }
    where
      none : (k : ℕ) → at ≤ k → k < at + n → SideBySide ts near far a b k → ⊥
      none k l m s =
          let i = k - at in
          let first : at + near + i ≡ k + near = omega arith in
          let second : at + far + i ≡ k + far = omega arith in
          before_passes a b (part ts (at + near) count) (part ts (at + far) count) i (omega (arith, e))
          (part_word ts (at + near) count i (omega (arith, passed_few)) ∙ rw first s.here)
          (part_word ts (at + far) count i (omega (arith, passed_few)) ∙ rw second s.beyond)
