-- Where the parts of the workspace lie: the working pattern of n words, the working text of m, n + m words for window hashes, a bound
-- for each row of the pattern, m words for links, and n + m for the chains of free words.
use Rattle.std.specs.Prelude.{ℕ, ◌+◌, ◌-◌, ◌*◌, ◌≤◌, ◌<◌, ◌≡◌, List, ◌++◌, length, take, drop, get_or}
use Rattle.tiling.specs.Run.{mark}
use Rattle.tiling.specs.Tiling.{State, AllCurrent}
use Rattle.chain.specs.Chain.{Chained}
use Rattle.chain.specs.Unlinked.{unlinked}
use Rattle.bounds.specs.declared.Job.{Job}

-- The two sequences with the words marked so far.
abbrev pub state : Job → List ℕ → State
state j ws = record { pattern = take j.n ws; text = take j.m (drop j.n ws) }

-- A row is a position of the pattern; its bound is a length that no run of it exceeds.
abbrev pub bounds_from : Job → ℕ
bounds_from j = 2 * (j.n + j.m)

abbrev pub bound : Job → List ℕ → ℕ → ℕ
bound j ws p = get_or ws (bounds_from j + p) 0

-- The chains: an entry for each word of the pattern, then one for each word of the text.
abbrev pub chains_from : Job → ℕ
chains_from j = 3 * (j.n + j.m)

abbrev pub pattern_chain : Job → List ℕ → List ℕ
pattern_chain j ws = take j.n (drop (chains_from j) ws)

abbrev pub text_chain : Job → List ℕ → List ℕ
text_chain j ws = take j.m (drop (chains_from j + j.n) ws)

-- What the checks leave of the lengths; no word of the sequences is a retired call, since they were replaced when they were copied in; the chains
-- hold the free words of either sequence; and a row that is covered has no bound.
pub record Space (j : Job) (ws : List ℕ) : Type 0 where
  pub short_pattern : j.n ≤ 2048
  pub short_text : j.m ≤ 2048
  pub roomy : 4 * (j.n + j.m) ≤ length ws
  pub current : AllCurrent (state j ws)
  pub of_pattern : Chained (state j ws).pattern (pattern_chain j ws)
  pub of_text : Chained (state j ws).text (text_chain j ws)
  pub covered : (q : ℕ) → q < j.n → get_or ws q 0 ≡ 0 → bound j ws q ≡ 0

-- The workspace after a tile: its words are marked on both sequences, and the bounds of the rows that it covers are 0; and it is taken out of
-- both chains.
abbrev pub marked : Job → ℕ → ℕ → ℕ → List ℕ → List ℕ
marked j p t len ws = mark (bounds_from j + p) len (mark (j.n + t) len (mark p len ws))

abbrev pub unlinked_in : ℕ → ℕ → ℕ → ℕ → List ℕ → List ℕ
unlinked_in from to at len ws = take from ws ++ (unlinked at len (take (to - from) (drop from ws)) ++ drop to ws)

abbrev pub laid : Job → ℕ → ℕ → ℕ → List ℕ → List ℕ
laid j p t len ws =
    unlinked_in (chains_from j + j.n) (4 * (j.n + j.m)) t len (unlinked_in (chains_from j) (chains_from j + j.n) p len (marked j p t len ws))
