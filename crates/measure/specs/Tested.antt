-- A test of two words that is handed in as a closure. No reader of the engines' contracts needs these.
use Rattle.std.specs.Prelude.{ℕ, ◌≡◌, Bool}

-- What a call answers, by the two words and the answer, is what the test says of them.
abbrev pub Tests : (ℕ → ℕ → Bool → Type 0) → (ℕ → ℕ → Bool) → Type 0
Tests answers test = (x y : ℕ) (r : Bool) → answers x y r → r ≡ test x y

-- P holds of each test that the calls are answered by.
abbrev pub Tested : (ℕ → ℕ → Bool → Type 0) → ((ℕ → ℕ → Bool) → Type 0) → Type 0
Tested answers P = (test : ℕ → ℕ → Bool) → Tests answers test → P test
