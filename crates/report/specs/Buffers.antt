-- The pair program's buffers: how long they have to be, and what of a stream is in one.
use Rattle.std.specs.Prelude.{ℕ, ◌+◌, ◌*◌, ◌≡◌, List, length, take}

-- What can matter of the input: a minimum word and two records of at most 2,050 words.
abbrev pub input_words : ℕ
input_words = 1 + 2 * 2050

-- "each word is four bytes"
abbrev pub input_bytes : ℕ
input_bytes = 4 * input_words

-- A report has at most 63 bytes before the tiles, 45 for each of at most 2,048 tiles, and 61 after them.
abbrev pub report_bytes : ℕ
report_bytes = 63 + 2048 * 45 + 61

-- The n bytes at the start of the buffer were read from the stream: its first bytes, and all of them unless the buffer is full.
abbrev pub ReadFrom : List ℕ → ℕ → List ℕ → Type 0
ReadFrom stream n buffer = take n buffer ≡ take (length buffer) stream
