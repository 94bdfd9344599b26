-- The pairs K1 to K11 and the windows K12 of 01 as one list of cases, and the test that each comes out as written. The cases after them
-- are ours: the shifts of 01's worked example, a pair that would come out otherwise if the text were not marked, pairs of equal length,
-- in which the words choose the pattern, choices by themselves, matches of words at the ends of each kind, and retired codes.
use Rattle.std.specs.Prelude.{ℕ, ◌+◌, ◌^◌, Bool, true, false, not, ◌&&◌, List, [], ◌∷◌, eqb, ℤ, pos, negsuc, neg_ℤ, length}
use Rattle.symbol.specs.Word.{call, no_call, replaced, matches}
use Rattle.buffer.specs.Buffer.{same}
use Rattle.window.specs.HashList.{hashes}
use Rattle.tiling.specs.Choice.{first_is_pattern}
use Rattle.tiling.specs.Listing.{Entry, listing, tile_words, covered, score, shift}

-- "Writing a to d for calls of codes 1 to 4 .. e is code 5, ? a no-call."
abbrev pub a : ℕ
a = call 1

abbrev pub b : ℕ
b = call 2

abbrev pub c : ℕ
c = call 3

abbrev pub d : ℕ
d = call 4

abbrev pub e : ℕ
e = call 5

-- A pair with its minimum: the words of its tile buffer, covered and score, or the shifts of its tiles. Words with a multiplier and a
-- window length: the hashes of their windows. A pair: whether its first sequence is the pattern. Two words: whether they match. A word, and
-- what it is replaced by.
pub data Case : Type 0 where
  pair : (first second : List ℕ) (minimum : ℕ) (tiles : List ℕ) (covered score : ℕ) → Case
  moved : (first second : List ℕ) (minimum : ℕ) (shifts : List ℤ) → Case
  hashed : (multiplier window : ℕ) (words found : List ℕ) → Case
  chosen : (first second : List ℕ) (first-is-pattern : Bool) → Case
  matched : (x y : ℕ) (they-match : Bool) → Case
  stands_for : (x y : ℕ) → Case

unfoldable pub sameℤ : ℤ → ℤ → Bool
sameℤ (pos m) (pos n) = eqb m n
sameℤ (pos m) (negsuc n) = false
sameℤ (negsuc m) (pos n) = false
sameℤ (negsuc m) (negsuc n) = eqb m n

unfoldable pub shifted : List Entry → List ℤ → Bool
shifted [] [] = true
shifted [] (z ∷ zs) = false
shifted (k ∷ ks) [] = false
shifted (k ∷ ks) (z ∷ zs) = sameℤ (shift k) z && shifted ks zs

unfoldable pub holds : Case → Bool
holds (pair first second minimum tiles sum points) =
    same (tile_words (listing first second minimum)) tiles
    && (eqb (covered (listing first second minimum)) sum
    && eqb (score (covered (listing first second minimum)) (length first + length second)) points)
holds (moved first second minimum shifts) = shifted (listing first second minimum) shifts
holds (hashed multiplier window words found) = same (hashes multiplier window words) found
holds (chosen first second true) = first_is_pattern first second
holds (chosen first second false) = not (first_is_pattern first second)
holds (matched x y true) = matches x y
holds (matched x y false) = not (matches x y)
holds (stands_for x y) = eqb (replaced x) y

unfoldable pub all_hold : List Case → Bool
all_hold [] = true
all_hold (k ∷ ks) = holds k && all_hold ks

-- The strings of 000: caabaad and baadcaaaabaa.
unfoldable pub shorter : List ℕ
shorter = c ∷ a ∷ a ∷ b ∷ a ∷ a ∷ d ∷ []

unfoldable pub longer : List ℕ
longer = b ∷ a ∷ a ∷ d ∷ c ∷ a ∷ a ∷ a ∷ a ∷ b ∷ a ∷ a ∷ []

unfoldable pub cases : List Case
cases =
    pair [] [] 1 [] 0 0  -- K1
    ∷ pair (a ∷ []) (a ∷ []) 1 (0 ∷ 0 ∷ 1 ∷ []) 1 1000  -- K2
    ∷ pair (a ∷ []) (a ∷ []) 2 [] 0 0  -- K3
    ∷ pair (no_call ∷ []) (no_call ∷ []) 1 [] 0 0  -- K4
    ∷ pair shorter longer 2 (1 ∷ 7 ∷ 5 ∷ []) 5 526  -- K5
    ∷ pair shorter longer 1 (1 ∷ 7 ∷ 5 ∷ 0 ∷ 4 ∷ 1 ∷ 6 ∷ 3 ∷ 1 ∷ []) 7 736  -- K6
    ∷ pair (a ∷ b ∷ []) (b ∷ a ∷ []) 1 (0 ∷ 1 ∷ 1 ∷ 1 ∷ 0 ∷ 1 ∷ []) 2 1000  -- K7
    ∷ pair (a ∷ a ∷ a ∷ a ∷ []) (a ∷ a ∷ []) 1 (0 ∷ 0 ∷ 2 ∷ []) 2 666  -- K8
    ∷ pair (a ∷ a ∷ a ∷ []) (a ∷ a ∷ a ∷ []) 3 (0 ∷ 0 ∷ 3 ∷ []) 3 1000  -- K9
    ∷ pair (a ∷ b ∷ a ∷ []) (a ∷ b ∷ b ∷ a ∷ []) 2 (0 ∷ 0 ∷ 2 ∷ []) 2 571  -- K10
    ∷ pair (a ∷ b ∷ c ∷ d ∷ e ∷ []) (c ∷ d ∷ e ∷ a ∷ b ∷ []) 2 (2 ∷ 0 ∷ 3 ∷ 0 ∷ 3 ∷ 2 ∷ []) 5 1000  -- K11
    ∷ hashed 10 3 (1 ∷ 2 ∷ 3 ∷ 4 ∷ []) (123 ∷ 234 ∷ [])  -- K12: "123 at B = 10, then 234 after 4 comes in"
    ∷ hashed (2 ^ 31) 3 (1 ∷ 2 ∷ 3 ∷ []) (3 ∷ [])  -- K12: 2^31
    ∷ hashed 0 3 (1 ∷ 2 ∷ 3 ∷ []) (3 ∷ [])  -- K12: 0
    ∷ pair (a ∷ a ∷ []) (a ∷ b ∷ []) 1 (0 ∷ 0 ∷ 1 ∷ []) 1 500  -- the text is marked too
    ∷ moved shorter longer 1 (pos 6 ∷ pos 4 ∷ neg_ℤ (pos 3) ∷ [])  -- the shifts of K6
    ∷ pair (b ∷ a ∷ []) (a ∷ b ∷ []) 1 (1 ∷ 0 ∷ 1 ∷ 0 ∷ 1 ∷ 1 ∷ []) 2 1000  -- K7 exchanged: its sides exchanged
    ∷ pair (b ∷ b ∷ a ∷ b ∷ []) (a ∷ b ∷ b ∷ b ∷ []) 2 (2 ∷ 0 ∷ 2 ∷ 0 ∷ 2 ∷ 2 ∷ []) 4 1000  -- the smaller word chooses the second
    ∷ pair (a ∷ b ∷ b ∷ b ∷ []) (b ∷ b ∷ a ∷ b ∷ []) 2 (0 ∷ 2 ∷ 2 ∷ 2 ∷ 0 ∷ 2 ∷ []) 4 1000  -- the same exchanged
    ∷ pair (no_call ∷ a ∷ b ∷ []) (no_call ∷ b ∷ a ∷ []) 1 (1 ∷ 2 ∷ 1 ∷ 2 ∷ 1 ∷ 1 ∷ []) 2 666  -- no-calls do not match, nor differ
    ∷ pair (no_call ∷ b ∷ b ∷ a ∷ b ∷ []) (a ∷ b ∷ b ∷ b ∷ no_call ∷ []) 2 (3 ∷ 0 ∷ 2 ∷ 1 ∷ 2 ∷ 2 ∷ []) 4 800  -- a no-call is greater
    ∷ pair (a ∷ b ∷ no_call ∷ a ∷ []) (no_call ∷ b ∷ no_call ∷ a ∷ []) 1 (0 ∷ 3 ∷ 1 ∷ 1 ∷ 1 ∷ 1 ∷ []) 2 500  -- it alone differs
    ∷ pair (a ∷ a ∷ no_call ∷ a ∷ a ∷ []) (a ∷ a ∷ no_call ∷ a ∷ a ∷ []) 1 (0 ∷ 0 ∷ 2 ∷ 3 ∷ 3 ∷ 2 ∷ []) 4 800  -- equal: equal starts
    ∷ chosen (a ∷ b ∷ a ∷ []) (a ∷ b ∷ b ∷ []) true  -- they differ at the last position only
    ∷ chosen (a ∷ b ∷ b ∷ []) (a ∷ b ∷ a ∷ []) false
    ∷ chosen (a ∷ c ∷ a ∷ []) (a ∷ b ∷ b ∷ []) false  -- the first difference counts, not the last
    ∷ chosen (a ∷ no_call ∷ []) (a ∷ no_call ∷ []) true  -- none differs: the first
    ∷ chosen (c ∷ []) (a ∷ b ∷ []) true  -- the shorter one, whatever its words
    ∷ matched 0x4000_0000 0x4000_0000 true  -- the calls of the first and of the last code
    ∷ matched 0x4000_ffff 0x4000_ffff true
    ∷ matched 0x4000_0000 0x4000_ffff false
    ∷ matched 0x4001_0001 0x4001_0001 false  -- bits 29 to 16 of a call are zero
    ∷ matched 0x4000_0001 0x4001_0001 false
    ∷ matched 0x7fff_ffff 0x7fff_ffff false
    ∷ matched 0x8000_0000 0x8000_0000 false  -- two no-calls
    ∷ matched 0x3fff_ffff 0x3fff_ffff false  -- the words of another kind on either side
    ∷ matched 0x8000_0001 0x8000_0001 false
    ∷ matched 0xffff_ffff 0xffff_ffff false
    ∷ matched 0 0 false  -- two marked words
    ∷ stands_for (call 64999) (call 64999)  -- the codes on either side are not retired
    ∷ stands_for (call 65000) (call 11)
    ∷ stands_for (call 65015) (call 1024)
    ∷ stands_for (call 65016) (call 65016)
    ∷ stands_for 0x4001_fde8 0x4001_fde8  -- words with the lower bits of 65,000 that are no calls
    ∷ stands_for 0x0000_fde8 0x0000_fde8
    ∷ stands_for 0x8000_fde8 0x8000_fde8
    ∷ matched (call 65000) (call 11) true
    ∷ matched (call 1024) (call 65015) true
    ∷ matched (call 65000) (call 65000) true
    ∷ matched (call 65000) (call 65001) false
    ∷ matched (call 65001) (call 65002) true  -- both stand for 14
    ∷ matched (call 65005) (call 65007) true  -- both stand for 52
    ∷ matched (call 65007) (call 65008) false
    ∷ matched 0x8000_fde8 (call 11) false
    ∷ chosen (call 65000 ∷ call 12 ∷ []) (call 12 ∷ call 11 ∷ []) false  -- the words as handed in choose: [65000 12] and [12 11]
    ∷ pair (call 65000 ∷ call 12 ∷ []) (call 12 ∷ call 11 ∷ []) 1 (1 ∷ 0 ∷ 1 ∷ 0 ∷ 1 ∷ 1 ∷ []) 2 1000
    ∷ pair (a ∷ call 65000 ∷ call 65001 ∷ call 52 ∷ []) (call 11 ∷ call 65002 ∷ call 65007 ∷ []) 3 (1 ∷ 0 ∷ 3 ∷ []) 3 857
    ∷ hashed 10 2 (call 65000 ∷ call 11 ∷ call 64999 ∷ call 65005 ∷ []) (3221225593 ∷ 3221290581 ∷ 3221875514 ∷ [])
    ∷ []
