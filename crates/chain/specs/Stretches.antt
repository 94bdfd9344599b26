-- Stretches of free words. No reader of the engines' contracts needs these.
use Rattle.std.specs.Prelude.{ℕ, ◌+◌, ◌-◌, ◌≤◌, ◌<◌, ◌≡◌, Bool, true, List, length, get_or}
use Rattle.chain.specs.Chain.{Free, before_of}

-- The last 16 words are all 0, or not.
pub record Zeros (ws : List ℕ) (r : Bool) : Type 0 where
  pub all : r ≡ true → (i : ℕ) → length ws ≤ i + 16 → i < length ws → get_or ws i 0 ≡ 0
  pub only : ((i : ℕ) → length ws ≤ i + 16 → i < length ws → get_or ws i 0 ≡ 0) → r ≡ true

-- All words from r on are 0.
pub record ZeroTail (ws : List ℕ) (r : ℕ) : Type 0 where
  pub within : r ≤ length ws
  pub zero : (i : ℕ) → r ≤ i → i < length ws → get_or ws i 0 ≡ 0

-- The same, and the word before is not.
pub record ZerosFrom (ws : List ℕ) (r : ℕ) : Type 0 where
  pub within : r ≤ length ws
  pub zero : (i : ℕ) → r ≤ i → i < length ws → get_or ws i 0 ≡ 0
  pub other : 0 < r → Free ws (r - 1)

-- The words from r on are joined to the last one: it has its neighbour for the previous word, and all between have both neighbours. The
-- first has not, unless it is the first of all.
pub record Joined (es : List ℕ) (last r : ℕ) : Type 0 where
  pub low : r ≤ last
  pub here : r < last → before_of es last ≡ last
  pub zero : (i : ℕ) → r < i → i < last → get_or es i 0 ≡ 0
  pub alone : 0 < r → r ≡ last → before_of es last ≡ last → ⊥
  pub other : 0 < r → r < last → Free es r

-- The stretch from `from` up to `to` is the last one before a position: all its words are free, none after it is, and the one before it is not.
pub record StretchBefore (xs : List ℕ) (end from to : ℕ) : Type 0 where
  pub ordered : from ≤ to
  pub within : to ≤ end
  pub some : 0 < to → from < to
  pub free : (k : ℕ) → from ≤ k → k < to → Free xs k
  pub past : (k : ℕ) → to ≤ k → k < end → Free xs k → ⊥
  pub edge : 0 < from → Free xs (from - 1) → ⊥
