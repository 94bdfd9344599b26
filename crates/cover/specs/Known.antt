-- The first entries of some of the known pairs, as one list of cases, and the test that each comes out as written.
use Rattle.std.specs.Prelude.{ℕ, Bool, true, ◌&&◌, List, [], ◌∷◌, length}
use Rattle.buffer.specs.Buffer.{tabulate, same}
use Rattle.symbol.specs.Word.{no_call}
use Rattle.tiling.specs.Known.{a, b, c, d, e, shorter, longer}
use Rattle.cover.specs.Promise.{cover_at}

-- A pair, and what it covers at minimum 1, 2, 3 and so on.
pub record Case : Type 0 where
  pub first : List ℕ
  pub second : List ℕ
  pub entries : List ℕ

unfoldable pub holds : Case → Bool
holds k = same (tabulate (cover_at k.first k.second) (length k.entries)) k.entries

unfoldable pub all_hold : List Case → Bool
all_hold [] = true
all_hold (k ∷ ks) = holds k && all_hold ks

unfoldable pub cases : List Case
cases =
    record { first = []; second = []; entries = 0 ∷ 0 ∷ [] }
    ∷ record { first = shorter; second = longer; entries = 7 ∷ 5 ∷ 5 ∷ 5 ∷ 5 ∷ 0 ∷ 0 ∷ [] }  -- K5, K6: tiles of 5, 1 and 1 words
    ∷ record { first = longer; second = shorter; entries = 7 ∷ 5 ∷ 5 ∷ 5 ∷ 5 ∷ 0 ∷ 0 ∷ [] }  -- the same, exchanged
    ∷ record { first = a ∷ b ∷ []; second = b ∷ a ∷ []; entries = 2 ∷ 0 ∷ 0 ∷ [] }  -- K7
    ∷ record { first = a ∷ b ∷ c ∷ d ∷ e ∷ []; second = c ∷ d ∷ e ∷ a ∷ b ∷ []; entries = 5 ∷ 5 ∷ 3 ∷ 0 ∷ [] }  -- K11: tiles of 3 and 2 words
    ∷ record { first = a ∷ no_call ∷ a ∷ a ∷ []; second = a ∷ no_call ∷ a ∷ a ∷ []; entries = 3 ∷ 2 ∷ 0 ∷ [] }
    ∷ []
