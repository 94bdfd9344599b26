-- "hold each side's free words as a chain in which each points to the next and the previous" (02, U7).
use Rattle.std.specs.Prelude.{ℕ, ◌+◌, ◌-◌, ◌*◌, ◌/◌, ◌%◌, ◌≤◌, ◌<◌, ◌≡◌, List, length, get_or}

-- A word of a sequence is free where it is not marked with 0. A no-call is free.
abbrev pub Free : List ℕ → ℕ → Type 0
Free xs i = get_or xs i 0 ≡ 0 → ⊥

-- The entry of a position holds two numbers: how many words are passed over on the way to the next free word, and how many on the way back to
-- the previous one. It is 0 where both stand right beside it.
abbrev pub gap_after : List ℕ → ℕ → ℕ
gap_after es i = get_or es i 0 % 65536

abbrev pub gap_before : List ℕ → ℕ → ℕ
gap_before es i = get_or es i 0 / 65536

-- So the next free word is at this position, or the sequence ends there; and this is one past the previous one, or 0 where there is none.
unfoldable pub next_of : List ℕ → ℕ → ℕ
next_of es i = i + 1 + gap_after es i

unfoldable pub before_of : List ℕ → ℕ → ℕ
before_of es i = i - gap_before es i

-- The entry that says so.
unfoldable pub entry : ℕ → ℕ → ℕ → ℕ
entry i before next = next - i - 1 + 65536 * (i - before)

-- No entry leads outside.
pub record Ranged (es : List ℕ) : Type 0 where
  pub short : length es ≤ 2048
  pub ahead : (i : ℕ) → i < length es → next_of es i ≤ length es
  pub back : (i : ℕ) → i < length es → gap_before es i ≤ i

-- "the chain holds exactly the unmarked places in rising order": the entry of any word passes over no free one, either way, and that of a free
-- word leads to a free one. So the words that are reached from a free one are all the free ones after it, in rising order, and all before
-- it, in falling order; and from a marked one the chain can be entered.
pub record Chained (xs es : List ℕ) : Type 0 where
  pub ranged : Ranged es
  pub each : length es ≡ length xs
  pub passed : (i k : ℕ) → i < length xs → i < k → k < next_of es i → Free xs k → ⊥
  pub next : (i : ℕ) → i < length xs → Free xs i → next_of es i < length xs → Free xs (next_of es i)
  pub passed_back : (i k : ℕ) → i < length xs → before_of es i ≤ k → k < i → Free xs k → ⊥
  pub before : (i : ℕ) → i < length xs → Free xs i → 0 < before_of es i → Free xs (before_of es i - 1)
