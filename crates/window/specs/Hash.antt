-- The hash of a window of words.
use Rattle.std.specs.Prelude.{ℕ, ◌+◌, ◌*◌, ◌%◌, ◌^◌, List, [], ◌∷◌, map, length}
use Rattle.symbol.specs.Word.{replaced}

-- "For multiplier B and window w0 .. w(s-1), the hash is w0 × B^(s-1) + .. + w(s-1)"; the library's B ^ 0 is 1, also for B = 0.
unfoldable pub weigh : ℕ → List ℕ → ℕ
weigh B [] = 0
weigh B (w ∷ ws) = w * B ^ length ws + weigh B ws

-- "modulo 2^32, over whole words": of words as they stand.
unfoldable pub words_hash : ℕ → List ℕ → ℕ
words_hash B window = weigh B window % 2 ^ 32

-- "U3's body and the hash take the replaced words." (02, U4)
abbrev pub hash : ℕ → List ℕ → ℕ
hash B window = words_hash B (map replaced window)

-- "The bucket is the hash modulo the bucket count."
unfoldable pub bucket : ℕ → ℕ → ℕ
bucket buckets h = h % buckets
