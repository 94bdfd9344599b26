-- How the causes of 01's table are put in order, and what a call gives after acceptance and after a refusal.
use Rattle.std.specs.Prelude.{ℕ, zero, suc, Bool, true, false}
use Rattle.refusal.specs.declared.Counted.{Counted}

-- The number n if the cause holds, else what the later causes give; a chain ends in 0, for no refusal.
-- "A number is returned when its cause holds and no earlier one does, and at no other time."
abbrev pub refuse : Bool → ℕ → ℕ → ℕ
refuse true n later = n
refuse false n later = later

-- What an answer or a buffer is where the refusal's number is r: `new` after acceptance, `old` after a refusal.
-- "Returned: number, every other number 0. Left as it was: everything lent."
abbrev pub outcome : {A : Type 0} → ℕ → A → A → A
outcome zero new old = new
outcome (suc r) new old = old

-- The answer that is a count or a refusal's number.
abbrev pub counted : ℕ → ℕ → Counted
counted r n = record { refusal = r; count = outcome r n 0 }
