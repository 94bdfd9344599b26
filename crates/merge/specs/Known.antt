-- Some words, records and refusals with what comes of merging them, as one list of cases, and the test that each comes out as written.
use Rattle.std.specs.Prelude.{ℕ, Bool, true, ◌&&◌, List, [], ◌∷◌, eqb}
use Rattle.symbol.specs.Word.{call, no_call}
use Rattle.buffer.specs.Buffer.{same}
use Rattle.merge.specs.Word.{merged_word}
use Rattle.merge.specs.Merging.{merge_refusal, merge_buffer}

-- Two words, and the merged one. Two slices and a buffer, and the buffer afterwards. Two slices and a buffer's length, and the refusal's
-- number.
pub data Case : Type 0 where
  words : (a b w : ℕ) → Case
  merges : (first second buffer after : List ℕ) → Case
  refuses : (first second : List ℕ) (room number : ℕ) → Case

unfoldable pub holds : Case → Bool
holds (words a b w) = eqb (merged_word a b) w
holds (merges first second buffer after) = same (merge_buffer first second buffer) after
holds (refuses first second room number) = eqb (merge_refusal first second room) number

unfoldable pub all_hold : List Case → Bool
all_hold [] = true
all_hold (k ∷ ks) = holds k && all_hold ks

-- Fish 12 typed twice, with codes 3 1 ? 11 and 3 2 4 65000, of which the last stands for 11; and fish 12 and 13 without a word.
unfoldable pub typed : List ℕ
typed = 0x0003_0004 ∷ 0x4000_0003 ∷ 0x4000_0001 ∷ 0x8000_0000 ∷ 0x4000_000b ∷ 0xc003_0013 ∷ []

unfoldable pub again : List ℕ
again = 0x0003_0004 ∷ 0x4000_0003 ∷ 0x4000_0002 ∷ 0x4000_0004 ∷ 0x4000_fde8 ∷ 0xc003_fdf5 ∷ []

unfoldable pub empty : List ℕ
empty = 0x0003_0000 ∷ 0xc003_0000 ∷ []

unfoldable pub other : List ℕ
other = 0x0003_4000 ∷ 0xc003_4000 ∷ []

unfoldable pub cases : List Case
cases =
    -- The nine kinds of pairs: a call, another call, a no-call.
    words (call 1) (call 1) (call 1)
    ∷ words (call 1) (call 2) no_call
    ∷ words (call 1) no_call (call 1)
    ∷ words (call 2) (call 1) no_call
    ∷ words (call 2) (call 2) (call 2)
    ∷ words (call 2) no_call (call 2)
    ∷ words no_call (call 1) (call 1)
    ∷ words no_call (call 2) (call 2)
    ∷ words no_call no_call no_call
    -- Retired codes: the first's word as it stands.
    ∷ words (call 65000) (call 11) (call 65000)
    ∷ words (call 11) (call 65000) (call 11)
    ∷ words (call 65001) (call 65002) (call 65001)
    ∷ words (call 65000) no_call (call 65000)
    ∷ words no_call (call 65015) (call 65015)
    ∷ words (call 65000) (call 14) no_call
    -- Agreed, in conflict, filled in, and agreed by a retired code; the trailer is the result's own, and the rest of the buffer stays.
    ∷ merges typed again (1 ∷ 2 ∷ 3 ∷ 4 ∷ 5 ∷ 6 ∷ 7 ∷ []) (0x0003_0004 ∷ 0x4000_0003 ∷ 0x8000_0000 ∷ 0x4000_0004 ∷ 0x4000_000b ∷ 0xc003_0016 ∷ 7 ∷ [])
    ∷ merges again typed (1 ∷ 2 ∷ 3 ∷ 4 ∷ 5 ∷ 6 ∷ []) (0x0003_0004 ∷ 0x4000_0003 ∷ 0x8000_0000 ∷ 0x4000_0004 ∷ 0x4000_fde8 ∷ 0xc003_fdf3 ∷ [])
    ∷ merges again again (1 ∷ 2 ∷ 3 ∷ 4 ∷ 5 ∷ 6 ∷ []) again
    ∷ merges empty empty (1 ∷ 2 ∷ []) empty
    ∷ merges typed again (1 ∷ 2 ∷ 3 ∷ 4 ∷ 5 ∷ []) (1 ∷ 2 ∷ 3 ∷ 4 ∷ 5 ∷ [])
    -- The first's checks, the second's, then 13, 14, 11.
    ∷ refuses [] [] 0 8
    ∷ refuses (0xc000_0000 ∷ []) [] 0 9
    ∷ refuses typed [] 0 8
    ∷ refuses empty (0x0003_4001 ∷ 0 ∷ 0xc003_4001 ∷ []) 0 2
    ∷ refuses empty (0x0003_4000 ∷ 0xc003_4001 ∷ []) 0 10
    ∷ refuses typed other 0 13
    ∷ refuses typed empty 0 14
    ∷ refuses typed again 5 11
    ∷ refuses typed again 6 0
    ∷ []
