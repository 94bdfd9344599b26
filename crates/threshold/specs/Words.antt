-- The threshold as a number of covered words. No reader of the service's contract needs these.
use Rattle.std.specs.Prelude.{ℕ, zero, suc, ◌+◌, ◌*◌, ◌/◌, false}
use Rattle.sweep.specs.declared.Goal.{Goal}

-- The fewest covered words, of sequences with total words together, that score at least the threshold. Of two empty sequences nothing is
-- covered, and they score 0.
unfoldable pub words_for : ℕ → ℕ → ℕ
words_for threshold zero = threshold
words_for threshold (suc total) = (threshold * suc total + 1999) / 2000

-- The goal of a comparison that stops when it is told.
abbrev pub goal_for : ℕ → ℕ → Goal
goal_for threshold total = record { listed = false; enough = words_for threshold total; needed = words_for threshold total }
