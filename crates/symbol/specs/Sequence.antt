-- Sequences of words. A sequence (01: strand) is "0 to 2,048 words, each a call or a no-call".
use Rattle.std.specs.Prelude.{ℕ, ◌≡◌, Bool, true, not, ◌&&◌, List, [], ◌∷◌, map, ltb, length}
use Rattle.symbol.specs.Word.{is_sound, is_retired, replaced}

-- Each word of a list passes a test.
unfoldable pub every : (ℕ → Bool) → List ℕ → Bool
every test [] = true
every test (w ∷ ws) = test w && every test ws

abbrev pub all_sound : List ℕ → Bool
all_sound = every is_sound

-- A list of words too long for a sequence.
abbrev pub too_long : List ℕ → Bool
too_long s = ltb 2048 (length s)

-- A word that is no call of a retired code, and a list of such words.
abbrev pub is_current : ℕ → Bool
is_current w = not (is_retired w)

abbrev pub none_retired : List ℕ → Bool
none_retired = every is_current

-- Words that are replaced already: replacing them changes nothing.
abbrev pub Current : List ℕ → Type 0
Current ws = map replaced ws ≡ ws
