-- What demand 3 says of the tiles listed for two sequences, and what else holds of them.
use Rattle.std.specs.Prelude.{ℕ, zero, suc, ◌+◌, ◌≤◌, ◌<◌, ◌^◌, min, ◌≡◌, Bool, true, ◌&&◌, List, [], ◌∷◌, map, eqb, pos, neg_ℤ, ◌≤ℤ◌, length, get_or, drop}
use Rattle.symbol.specs.Word.{is_call, code, replaced, matches}
use Rattle.tiling.specs.Each.{Each, Pairs}
use Rattle.tiling.specs.Tally.{tally}
use Rattle.tiling.specs.Listing.{Entry, covered, score, shift}
use Rattle.tiling.specs.declared.Compared.{Compared}

-- A tile of this length covers position j of the sequence on which it starts here.
pub record Covers (start len j : ℕ) : Type 0 where
  pub least : start ≤ j
  pub most : j < start + len

-- "A word is free when no listed tile covers it on its strand." Which sequence is meant is said by which start is taken.
abbrev pub Free : {K : Type 0} → (K → ℕ) → (K → ℕ) → List K → ℕ → Type 0
Free start len tiles j = Each (λ k. Covers (start k) (len k) j → ⊥) tiles

-- What stands at j in ys, which is xs with the words of the tiles marked: "its words on both strands are marked", and no others.
pub record Left {K : Type 0} (start len : K → ℕ) (tiles : List K) (xs ys : List ℕ) (j : ℕ) : Type 0 where
  pub kept : Free start len tiles j → get_or ys j 0 ≡ get_or xs j 0
  pub zero : (Free start len tiles j → ⊥) → get_or ys j 0 ≡ 0

-- No position is covered by both tiles.
abbrev pub Apart : {K : Type 0} → (K → ℕ) → (K → ℕ) → K → K → Type 0
Apart start len k l = (j : ℕ) → Covers (start k) (len k) j → Covers (start l) (len l) j → ⊥

abbrev pub on_first : Entry → ℕ
on_first e = e.first

abbrev pub on_second : Entry → ℕ
on_second e = e.second

abbrev pub long : Entry → ℕ
long e = e.len

-- "A free matching run of the minimum length is a place on each strand from which that many words, all free, match one by one."
pub record FreeRun (first second : List ℕ) (tiles : List Entry) (n i j : ℕ) : Type 0 where
  pub in_first : i + n ≤ length first
  pub in_second : j + n ≤ length second
  pub first_free : (x : ℕ) → x < n → Free on_first long tiles (i + x)
  pub second_free : (x : ℕ) → x < n → Free on_second long tiles (j + x)
  pub matching : (x : ℕ) → x < n → matches (get_or first (i + x) 0) (get_or second (j + x) 0) ≡ true

-- A tile lies within both sequences, and its words match one by one.
pub record Stands (first second : List ℕ) (e : Entry) : Type 0 where
  pub in_first : e.first + e.len ≤ length first
  pub in_second : e.second + e.len ≤ length second
  pub matching : (i : ℕ) → i < e.len → matches (get_or first (e.first + i) 0) (get_or second (e.second + i) 0) ≡ true

-- "The shift of a tile is .. a signed number from -2,047 to 2,047."
pub record Shifted (e : Entry) : Type 0 where
  pub least : neg_ℤ (pos 2047) ≤ℤ shift e
  pub most : shift e ≤ℤ pos 2047

-- "A code's number of calls on a strand counts the words there that are calls with it." (01) "the count of calls at minimum 1 goes by replaced
-- codes." (02, U4)
abbrev pub is_call_with : ℕ → ℕ → Bool
is_call_with c w = is_call w && eqb (code (replaced w)) c

abbrev pub calls_with : ℕ → List ℕ → ℕ
calls_with c s = tally (is_call_with c) s

-- "the sum, over all codes, of the smaller of its numbers of calls on the two strands": over the codes below n.
unfoldable pub smaller_counts : ℕ → List ℕ → List ℕ → ℕ
smaller_counts zero first second = 0
smaller_counts (suc n) first second = min (calls_with n first) (calls_with n second) + smaller_counts n first second

-- What holds of the tiles listed at a minimum, whichever engine lists them.
pub record Tiled (first second : List ℕ) (minimum : ℕ) (tiles : List Entry) : Type 0 where
  -- "After either engine no matching run of the minimum length is free on both strands."
  pub no_free_run : (i j : ℕ) → FreeRun first second tiles minimum i j → ⊥
  -- "At minimum 1, covered = the sum, over all codes, of the smaller of its numbers of calls on the two strands." A code has 16 bits.
  pub at_one : minimum ≡ 1 → covered tiles ≡ smaller_counts (2 ^ 16) first second
  -- Each tile lies in both sequences, its words match, and it has at least the minimum.
  pub stands : Each (Stands first second) tiles
  pub each_long : Each (λ e. minimum ≤ e.len) tiles
  -- No tile is longer than an earlier one, and no two overlap on either sequence.
  pub falling : Pairs (λ d e. e.len ≤ d.len) tiles
  pub apart_first : Pairs (Apart on_first long) tiles
  pub apart_second : Pairs (Apart on_second long) tiles
  -- Covered is at most each length.
  pub within_first : covered tiles ≤ length first
  pub within_second : covered tiles ≤ length second

-- "Exchanging sides swaps the two starts of each tile and leaves the rest of it and its place in the list."
abbrev pub exchanged : Entry → Entry
exchanged e = record { first = e.second; second = e.first; len = e.len }

-- A tile that starts at one position of both sequences: what every tile of a sequence with itself does.
abbrev pub EqualStarts : Entry → Type 0
EqualStarts e = e.first ≡ e.second

-- The first n tiles of a tile buffer. "A tile is three words in the tile buffer: start on the first strand, start on the second
-- strand, length."
unfoldable pub tiles_in : ℕ → List ℕ → List Entry
tiles_in zero buffer = []
tiles_in (suc n) buffer = record { first = get_or buffer 0 0; second = get_or buffer 1 0; len = get_or buffer 2 0 } ∷ tiles_in n (drop 3 buffer)

-- The tiles that a comparison lists: "the words of the tile buffer through the last tile".
abbrev pub tiles_of : Compared → List ℕ → List Entry
tiles_of a buffer = tiles_in a.tiles buffer

-- What holds of the answer of an accepted comparison and of the tiles that it lists, whichever engine made it.
pub record Demands (first second : List ℕ) (minimum : ℕ) (a : Compared) (buffer : List ℕ) : Type 0 where
  pub tiled : Tiled first second minimum (tiles_of a buffer)
  pub shifted : Each Shifted (tiles_of a buffer)
  -- "the three answers are its number of tiles, covered and score."
  pub tiles : a.tiles ≡ length (tiles_of a buffer)
  pub covered : a.covered ≡ covered (tiles_of a buffer)
  pub score : a.score ≡ score a.covered (length first + length second)
  -- "At minimum 1, covered = the sum, over all codes, of the smaller of its numbers of calls on the two strands."
  pub at_one : minimum ≡ 1 → a.covered ≡ smaller_counts (2 ^ 16) first second
  pub within_first : a.covered ≤ length first
  pub within_second : a.covered ≤ length second

-- Two comparisons of which the second had the sequences exchanged: "only exchanges the sides of each tile: order, lengths, tile count,
-- covered and score are equal." Where one is accepted, so is the other.
pub record Exchanges (a : Compared) (buffer : List ℕ) (a' : Compared) (buffer' : List ℕ) : Type 0 where
  pub refusal : a'.refusal ≡ a.refusal
  pub sides : tiles_of a' buffer' ≡ map exchanged (tiles_of a buffer)
  pub tiles : a'.tiles ≡ a.tiles
  pub covered : a'.covered ≡ a.covered
  pub score : a'.score ≡ a.score
