-- What a word is, which codes are retired, and when two words match. A word is a number; every definition is total, so it says what
-- holds of any 32 bits.
use Rattle.std.specs.Prelude.{ℕ, ◌+◌, ◌-◌, ◌/◌, ◌%◌, ◌^◌, ◌≤◌, ◌<◌, Bool, true, false, ◌&&◌, ◌||◌, List, [], ◌∷◌, eqb, leb, ltb, get_or}

-- "A word has 32 bits. Its top two bits are its kind."
unfoldable pub kind : ℕ → ℕ
kind w = w / 2 ^ 30

-- Bits 29 to 0.
unfoldable pub low : ℕ → ℕ
low w = w % 2 ^ 30

-- "Kind 1, call: bits 15 to 0 a motif code, bits 29 to 16 zero."
unfoldable pub is_call : ℕ → Bool
is_call w = eqb (kind w) 1 && ltb (low w) (2 ^ 16)

-- The same as a range of numbers.
pub record Call (w : ℕ) : Type 0 where
  pub least : 2 ^ 30 ≤ w
  pub most : w < 2 ^ 30 + 2 ^ 16

-- The call of a motif code, and the code of a call.
abbrev pub call : ℕ → ℕ
call c = 2 ^ 30 + c

unfoldable pub code : ℕ → ℕ
code w = w % 2 ^ 16

-- "Kind 2, no-call: bits 29 to 0 zero."
unfoldable pub is_no_call : ℕ → Bool
is_no_call w = eqb (kind w) 2 && eqb (low w) 0

-- The one word that is a no-call.
abbrev pub no_call : ℕ
no_call = 2 ^ 31

-- A word that may stand in a sequence: "each a call or a no-call".
unfoldable pub is_sound : ℕ → Bool
is_sound w = is_call w || is_no_call w

-- Retired codes. "Codes 65,000 to 65,015 stand, in that order, for 11, 14, 14, 27, 30, 52, 52, 52, 101, 118, 240, 241, 300, 512, 777 and
-- 1,024." (02, U4)
unfoldable pub replacements : List ℕ
replacements = 11 ∷ 14 ∷ 14 ∷ 27 ∷ 30 ∷ 52 ∷ 52 ∷ 52 ∷ 101 ∷ 118 ∷ 240 ∷ 241 ∷ 300 ∷ 512 ∷ 777 ∷ 1024 ∷ []

-- A call of a retired code. No other word is one, whatever its lower bits.
unfoldable pub is_retired : ℕ → Bool
is_retired w = is_call w && (leb 65000 (code w) && leb (code w) 65015)

-- The word as it is compared and hashed: a call of a retired code is a call of the code that this stands for, and any other word is itself.
unfoldable pub replaced : ℕ → ℕ
replaced w = elim (is_retired w) [ true ↦ 2 ^ 30 + get_or replacements (code w - 65000) 0 | false ↦ w ]

-- "Two words match when both are calls with equal codes. A no-call matches nothing, another no-call included." (01) Of words as they stand.
unfoldable pub equal_calls : ℕ → ℕ → Bool
equal_calls a b = (is_call a && is_call b) && eqb (code a) (code b)

-- "Two calls match when their codes are equal after this replacement." (02, U4) A replaced call is a call, and no other word becomes one.
unfoldable pub matches : ℕ → ℕ → Bool
matches a b = equal_calls (replaced a) (replaced b)
