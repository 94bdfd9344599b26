-- The record format. A record (01: strip) is "a heading, a strand and a closing word": here a header, a sequence and a trailer.
use Rattle.std.specs.Prelude.{ℕ, ◌+◌, ◌*◌, ◌/◌, ◌%◌, ◌^◌, List, [], ◌∷◌, ◌++◌, length}
use Rattle.symbol.specs.Word.{low}

-- "Kind 0, heading: bits 29 to 14 the fish number (0 to 65,535), bits 13 to 0 the count of words that follow before the closing word."
-- The id is 01's fish number.
unfoldable pub header : ℕ → ℕ → ℕ
header id count = id * 2 ^ 14 + count

unfoldable pub id_of : ℕ → ℕ
id_of h = low h / 2 ^ 14

unfoldable pub count_of : ℕ → ℕ
count_of h = h % 2 ^ 14

-- "the sum, modulo 2^30, of the low 30 bits of the heading and of every strand word"
unfoldable pub sum_low : List ℕ → ℕ
sum_low [] = 0
sum_low (w ∷ ws) = low w + sum_low ws

unfoldable pub checksum : List ℕ → ℕ
checksum ws = sum_low ws % 2 ^ 30

-- "Kind 3, closing: bits 29 to 0 the sum". The trailer of a header and a sequence.
unfoldable pub trailer : List ℕ → ℕ
trailer ws = 3 * 2 ^ 30 + checksum ws

-- The whole record of an id and a sequence.
unfoldable pub encode : ℕ → List ℕ → List ℕ
encode id s = header id (length s) ∷ s ++ (trailer (header id (length s) ∷ s) ∷ [])
