-- What searching a row promises, and what is known of one without a search. No reader of the engines' contracts needs these: they tie the functions
-- of the engines together.
use Rattle.std.specs.Prelude.{ℕ, zero, suc, ◌-◌, ◌*◌, ◌≤◌, ◌<◌, min, Bool, true, false, not, ◌&&◌, ◌≡◌, List, leb, ltb, eqb, drop, get_or}
use Rattle.std.specs.Int.Bits.{bit_and}
use Rattle.symbol.specs.Word.{is_call}
use Rattle.tile.specs.declared.TextAt.{TextAt}
use Rattle.tiling.specs.Run.{run}
use Rattle.bounds.specs.Workspace.{state, bound}
use Rattle.sweep.specs.declared.Found.{Found}
use Rattle.bounds.specs.declared.Job.{Job}

-- The longest run from the start of ps to a position of ts, and the first position that has it, if it is longer than the floor. No case
-- for "none": what is found is then the floor.
pub record Row (ps ts : List ℕ) (floor : ℕ) (f : Found) : Type 0 where
  pub least : floor ≤ f.len
  pub most : (u : ℕ) → run ps (drop u ts) ≤ f.len
  pub long : floor < f.len → run ps (drop f.t.0 ts) ≡ f.len
  pub first : floor < f.len → (u : ℕ) → u < f.t.0 → run ps (drop u ts) < f.len

-- The longer of what was found and a run of len words at t; of equal ones, what was found.
unfoldable pub better : Found → TextAt → ℕ → Found
better f t len = elim (ltb f.len len) [ true ↦ record { t = t; len = len } | false ↦ f ]

-- What row q tells of row p, of which no run exceeds cap: q's bound, where it is below cap and both rows begin with the same calls for more
-- words than that; else cap.
unfoldable pub alike_bound : Job → List ℕ → ℕ → ℕ → ℕ → ℕ
alike_bound j ws p q cap =
    elim (ltb (bound j ws q) cap && ltb (bound j ws q) (run (drop p (state j ws).pattern) (drop q (state j ws).pattern)))
    [ true ↦ bound j ws q | false ↦ cap ]

-- A row before `from`, or past the pattern, tells nothing.
unfoldable pub bound_by : Job → List ℕ → ℕ → ℕ → ℕ → ℕ → ℕ
bound_by j ws p q from cap = elim (leb from q && ltb q j.n) [ true ↦ alike_bound j ws p q cap | false ↦ cap ]

-- The words of row p, cap at the most, where the last of them is a call; else how many calls it begins with, which are those that match
-- themselves.
unfoldable pub free_words : Job → List ℕ → ℕ → ℕ → ℕ
free_words j ws p cap =
    let row = drop p (state j ws).pattern in
    let len = min cap (j.n - p) in
    elim (is_call (get_or row (len - 1) 0)) [ true ↦ len | false ↦ run row row ]

-- How many positions after one with a run of len words have a shorter one, where the row begins with the same word again and again, c
-- times after the first: the run ends at a word of the text that is none of these, and so does every one that begins within it.
unfoldable pub passed_over : ℕ → ℕ → ℕ
passed_over c len = elim (leb len c) [ true ↦ len | false ↦ 0 ]

-- The position just before t in a text of m words; m where there is none.
unfoldable pub before : ℕ → ℕ → ℕ
before zero m = m
before (suc t) m = min t m

-- What is taken over from a row whose run began at position t: where that is 0, a length of at least twice s that is no power of 2.
unfoldable pub taken_over : ℕ → ℕ → ℕ → Bool
taken_over t s cap = (eqb t 0 && leb (2 * s) cap) && not (eqb (bit_and cap (cap - 1)) 0)
