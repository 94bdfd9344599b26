-- The first tiles of a list, as many as are laid until a test holds.
use Rattle.std.specs.Prelude.{ℕ, ◌+◌, Bool, true, false, List, [], ◌∷◌}
use Rattle.tiling.specs.Run.{mark}
use Rattle.tiling.specs.Choice.{first_is_pattern, pattern_of}
use Rattle.tiling.specs.Listing.{Entry, start_on_pattern, listing}

-- How far a comparison has come: how many words its tiles cover, and the pattern with these marked.
pub record Far : Type 0 where
  pub covered : ℕ
  pub pattern : List ℕ

-- "all words start unmarked"
abbrev pub unlaid : List ℕ → Far
unlaid pattern = record { covered = 0; pattern = pattern }

-- One tile further: where it starts on the pattern, and its length.
abbrev pub further : Far → ℕ → ℕ → Far
further f p len = record { covered = f.covered + len; pattern = mark p len f.pattern }

-- No tile where the test holds at once; all of them where it never does.
module _ {K : Type 0} (at size : K → ℕ) (stop : Far → Bool) where
  unfoldable pub until : Far → List K → List K
  until f [] = []
  until f (k ∷ ks) = elim (stop f) [ true ↦ [] | false ↦ k ∷ until (further f (at k) (size k)) ks ]

-- The first tiles of the listing of two sequences.
abbrev pub first_listed : (Far → Bool) → List ℕ → List ℕ → ℕ → List Entry
first_listed stop first second minimum =
    until (start_on_pattern (first_is_pattern first second)) (λ e. e.len) stop (unlaid (pattern_of first second)) (listing first second minimum)
