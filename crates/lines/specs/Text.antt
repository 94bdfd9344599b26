-- Text as bytes: words, decimal numbers, and lines of them.
use Rattle.std.specs.Prelude.{ℕ, zero, suc, ◌+◌, ◌/◌, ◌%◌, true, false, List, [], ◌∷◌, ◌++◌, ltb, ℤ, pos, negsuc}
use Prim.Native.Char.{code}
use Prim.Native.String.{String, [] as empty, ◌∷◌ as ◌then◌}

-- The codes of a text's characters.
unfoldable pub ascii : String → List ℕ
ascii empty = []
ascii (c then s) = code c ∷ ascii s

-- "Numbers are decimal." All digits but the last are those of the tenth part; the number itself is fuel enough.
unfoldable pub digits : ℕ → ℕ → List ℕ
digits zero n = []
digits (suc fuel) n =
    elim (ltb n 10)
    [ true ↦ (48 + n) ∷ [] | false ↦ digits fuel (n / 10) ++ ((48 + n % 10) ∷ []) ]

unfoldable pub decimal : ℕ → List ℕ
decimal n = digits (suc n) n

-- The same with a minus in front where the number is below zero: 01 prints a shift with its sign.
unfoldable pub signed : ℤ → List ℕ
signed (pos n) = decimal n
signed (negsuc n) = ascii "-" ++ decimal (suc n)

-- Numbers, each after a space.
unfoldable pub spaced : List ℕ → List ℕ
spaced [] = []
spaced (n ∷ ns) = ascii " " ++ (decimal n ++ spaced ns)

-- A word and numbers, and the same as a line.
abbrev pub phrase : List ℕ → List ℕ → List ℕ
phrase word numbers = word ++ spaced numbers

abbrev pub line : List ℕ → List ℕ → List ℕ
line word numbers = phrase word numbers ++ ascii "\n"
