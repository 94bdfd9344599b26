-- Blocks of 32 rows and the greatest bound of each. No reader of the engines' contracts needs these.
use Rattle.std.specs.Prelude.{ℕ, ◌+◌, ◌-◌, ◌*◌, ◌/◌, ◌≤◌, ◌<◌, min, ◌≡◌, Bool, true, false, ◌&&◌, List, eqb, ltb, get_or, set}
use Rattle.bounds.specs.Workspace.{bound}
use Rattle.bounds.specs.Greatest.{Greatest}
use Rattle.bounds.specs.declared.Job.{Job}

-- How many blocks there are.
abbrev pub block_count : Job → ℕ
block_count j = (j.n + 31) / 32

-- The number is the greatest bound of block b. The last block may have fewer rows than the others.
abbrev pub Tops : Job → List ℕ → ℕ → ℕ → Type 0
Tops j ws b r = Greatest (λ i. bound j ws (32 * b + i)) (min (32 * b + 32) j.n - 32 * b) r

-- The greatest bound of one block was set anew.
pub record BlockSet (j : Job) (ws : List ℕ) (b : ℕ) (bs bs' : List ℕ) : Type 0 where
  pub top : ℕ
  pub tops : Tops j ws b top
  pub stored : bs' ≡ set bs b top
  pub here : get_or bs' b 0 ≡ top

-- Those of the blocks from one up to another were, and the others are as they were.
pub record Refreshed (j : Job) (ws : List ℕ) (from to : ℕ) (bs bs' : List ℕ) : Type 0 where
  pub anew : (b : ℕ) → from ≤ b → b < to → Tops j ws b (get_or bs' b 0)
  pub before : (b : ℕ) → b < from → get_or bs' b 0 ≡ get_or bs b 0
  pub after : (b : ℕ) → to ≤ b → get_or bs' b 0 ≡ get_or bs b 0

-- Row q stands in the block of row p and has the level for its bound.
abbrev pub in_level : Job → List ℕ → ℕ → ℕ → ℕ → Bool
in_level j ws level p q = ltb q j.n && (eqb (q / 32) (p / 32) && eqb (bound j ws q) level)

-- Where some rows from p on end.
abbrev pub rows_end : Job → ℕ → ℕ → ℕ
rows_end j p rows = p + min rows (j.n - p)

-- The blocks of the rows from one up to another were set anew, unless the row after them is in the level.
pub record Renewed (j : Job) (ws : List ℕ) (level from to : ℕ) (bs bs' : List ℕ) : Type 0 where
  pub kept : in_level j ws level from to ≡ true → bs' ≡ bs
  pub anew : in_level j ws level from to ≡ false → Refreshed j ws (from / 32) ((to + 31) / 32) bs bs'

-- No bound of a row exceeds what stands for its block. It may be less: bounds fall before their blocks are set anew.
pub record Covering (j : Job) (ws bs : List ℕ) : Type 0 where
  pub most : (q : ℕ) → q < j.n → bound j ws q ≤ get_or bs (q / 32) 0

-- No bound rises.
pub record Falling (j : Job) (ws ws' : List ℕ) : Type 0 where
  pub falls : (q : ℕ) → q < j.n → bound j ws' q ≤ bound j ws q
