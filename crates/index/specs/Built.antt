-- The index of a pass as it is built. No reader of the engines' contracts needs it.
use Rattle.std.specs.Prelude.{ℕ, zero, suc, ◌+◌, ◌-◌, ◌≤◌, ◌<◌, ◌≡◌, Bool, true, false, ◌&&◌, List, leb, ltb, eqb, length, take, drop, get_or, set}
use Rattle.tiling.specs.Run.{run}
use Rattle.tiling.specs.Stretch.{free_first}
use Rattle.chain.specs.Chain.{Free}
use Rattle.window.specs.Hash.{words_hash, bucket}
use Rattle.window.specs.HashList.{hash_at}
use Rattle.bounds.specs.Workspace.{Space, state, bounds_from}
use Rattle.bounds.specs.declared.Job.{Job}
use Rattle.index.specs.Indexed.{pattern_hash, text_hash, link, slot, Indexed, Filtered}
use Rattle.index.specs.declared.pass.Pass.{Pass}

-- How many calls stand in the text from t on without a gap: a word matches itself just when it is a call.
abbrev pub free_at : Job → List ℕ → ℕ → ℕ
free_at j ws t = run (drop t (state j ws).text) (drop t (state j ws).text)

-- The first of the n numbers from `from` on that passes a test; 2,048 where none does. And whether one does.
unfoldable pub first_of : (ℕ → Bool) → ℕ → ℕ → ℕ
first_of test from zero = 2048
first_of test from (suc n) = elim (test from) [ true ↦ from | false ↦ first_of test (suc from) n ]

abbrev pub some_of : (ℕ → Bool) → ℕ → ℕ → Bool
some_of test from n = ltb (first_of test from n) 2048

-- s words from p on are free; and that as a test of the pattern's window at p.
abbrev pub AllFree : ℕ → List ℕ → ℕ → Type 0
AllFree s xs p = (k : ℕ) → k < s → Free xs (p + k)

abbrev pub free_row : Pass → List ℕ → ℕ → Bool
free_row x ws p = leb x.s (free_first (drop p (state x.job ws).pattern))

-- The pattern's window at p is free and has entry i of the filter; and a window from p on does.
abbrev pub raises : Pass → List ℕ → ℕ → ℕ → Bool
raises x ws i p = free_row x ws p && eqb (slot (pattern_hash x.job ws p)) i

abbrev pub raised_from : Pass → List ℕ → ℕ → ℕ → Bool
raised_from x ws i p = some_of (raises x ws i) p (x.job.n - p)

-- The text's window at t is linked: its words are free calls, and the pattern has a free window with its entry of the filter. And it is linked in bucket b.
abbrev pub listed : Pass → List ℕ → ℕ → Bool
listed x ws t = leb x.s (free_at x.job ws t) && raised_from x ws (slot (text_hash x.job ws t)) 0

abbrev pub in_bucket : Pass → List ℕ → ℕ → ℕ → Bool
in_bucket x ws b t = listed x ws t && eqb (bucket x.buckets (text_hash x.job ws t)) b

-- The first position of the text from t on whose window is linked in bucket b; 2,048 where there is none.
abbrev pub next_in : Pass → List ℕ → ℕ → ℕ → ℕ
next_in x ws b t = first_of (in_bucket x ws b) t (x.job.m - t)

-- A window of the text from t on is linked that has entry i of the filter.
abbrev pub linked_from : Pass → List ℕ → ℕ → ℕ → Bool
linked_from x ws i t = some_of (λ u. listed x ws u && eqb (slot (text_hash x.job ws u)) i) t (x.job.m - t)

-- An entry of the filter: 0, 1 where the pattern has a free window with it, 2 where a window of the text is linked with it too.
abbrev pub entry_of : Bool → Bool → ℕ
entry_of false linked = 0
entry_of true false = 1
entry_of true true = 2

-- The windows of `count` words from `from` on were hashed, and all else is as it was.
pub record PartHashed (x : Pass) (from count : ℕ) (ws ws' : List ℕ) : Type 0 where
  pub room : length ws' ≡ length ws
  pub before : (i : ℕ) → i < x.job.n + x.job.m + from → get_or ws' i 0 ≡ get_or ws i 0
  pub after : (i : ℕ) → x.job.n + x.job.m + from + count < i + x.s → get_or ws' i 0 ≡ get_or ws i 0
  pub hashed : (k : ℕ) → k + x.s ≤ count → get_or ws' (x.job.n + x.job.m + (from + k)) 0 ≡ words_hash x.multiplier (take x.s (drop (from + k) ws))

-- A stretch of free words that a marked word or the end of the sequence follows.
pub record Stretched (xs : List ℕ) (from to : ℕ) : Type 0 where
  pub some : from < to
  pub within : to ≤ length xs
  pub free : (k : ℕ) → from ≤ k → k < to → Free xs k
  pub closed : Free xs to → ⊥

-- The pattern's free windows from p on set their entries.
pub record RaisedFrom (x : Pass) (ws filter : List ℕ) (p : ℕ) : Type 0 where
  pub within : p ≤ x.job.n
  pub entries : (i : ℕ) → i < 4096 → get_or filter i 0 ≡ entry_of (raised_from x ws i p) false

-- They were hashed and did.
pub record RowsFrom (x : Pass) (ws filter : List ℕ) (p : ℕ) : Type 0 where
  pub space : Space x.job ws
  pub hashed : (q : ℕ) → p ≤ q → AllFree x.s (state x.job ws).pattern q → pattern_hash x.job ws q ≡ hash_at x.multiplier x.s (state x.job ws).pattern q
  pub raised : RaisedFrom x ws filter p

abbrev pub when : {A : Type 0} → Bool → A → A → A
when true new old = new
when false new old = old

-- Whether a window is linked, from which on `free` calls stand without a gap, with this entry of the filter.
abbrev pub takes : Pass → ℕ → ℕ → Bool
takes x free entry = leb x.s free && ltb 0 entry

-- The window at t was dealt with: where it is linked it points on to the head of its bucket, becomes the head, and sets its entry.
pub record Entered (x : Pass) (t free : ℕ) (ws hs fs ws' hs' fs' : List ℕ) : Type 0 where
  pub words : ws' ≡ when (takes x free (get_or fs (slot (text_hash x.job ws t)) 0)) (set ws (bounds_from x.job + x.job.n + t) (get_or hs (bucket x.buckets (text_hash x.job ws t)) 0)) ws
  pub heads : hs' ≡ when (takes x free (get_or fs (slot (text_hash x.job ws t)) 0)) (set hs (bucket x.buckets (text_hash x.job ws t)) t) hs
  pub filter : fs' ≡ when (takes x free (get_or fs (slot (text_hash x.job ws t)) 0)) (set fs (slot (text_hash x.job ws t)) 2) fs
  pub known : takes x free (get_or fs (slot (text_hash x.job ws t)) 0) ≡ true → get_or fs' (slot (text_hash x.job ws t)) 0 ≡ 2

-- The windows of the text from t on are linked. Each head is the first linked window of its bucket, and each link of a linked window the next
-- one.
pub record LinkedFrom (x : Pass) (ws hs fs : List ℕ) (t : ℕ) : Type 0 where
  pub within : t ≤ x.job.m
  pub heads : (b : ℕ) → b < 1024 → get_or hs b 0 ≡ next_in x ws b t
  pub links : (u : ℕ) → t ≤ u → u < x.job.m → listed x ws u ≡ true → link x.job ws u ≡ next_in x ws (bucket x.buckets (text_hash x.job ws u)) (u + 1)
  pub entries : (i : ℕ) → i < 4096 → get_or fs i 0 ≡ entry_of (raised_from x ws i 0) (linked_from x ws i t)

-- Those of a stretch that begins at t were, and the hashes are as they were.
pub record Linked (x : Pass) (ws ws' hs fs : List ℕ) (t : ℕ) : Type 0 where
  pub space : Space x.job ws'
  pub same : state x.job ws' ≡ state x.job ws
  pub of_pattern : (p : ℕ) → p < x.job.n → pattern_hash x.job ws' p ≡ pattern_hash x.job ws p
  pub of_text : (u : ℕ) → u < x.job.m → text_hash x.job ws' u ≡ text_hash x.job ws u
  pub linked : LinkedFrom x ws' hs fs t

-- The pattern's free windows are hashed, and the text's from t on are hashed and linked.
pub record TextsFrom (x : Pass) (ws hs fs : List ℕ) (t : ℕ) : Type 0 where
  pub space : Space x.job ws
  pub of_pattern : (p : ℕ) → AllFree x.s (state x.job ws).pattern p → pattern_hash x.job ws p ≡ hash_at x.multiplier x.s (state x.job ws).pattern p
  pub of_text : (u : ℕ) → t ≤ u → AllFree x.s (state x.job ws).text u → text_hash x.job ws u ≡ hash_at x.multiplier x.s (state x.job ws).text u
  pub linked : LinkedFrom x ws hs fs t

-- The index was built, and the sequences are as they were. The hashes are 01's, of the free windows of s words and for this multiplier. Where a
-- window is not free, what stands in the place of its hash is left open; only free windows are linked, and equal hashes are only a reason
-- to look at the words.
pub record Built (x : Pass) (ws ws' hs fs : List ℕ) : Type 0 where
  pub space : Space x.job ws'
  pub same : state x.job ws' ≡ state x.job ws
  pub of_pattern : (p : ℕ) → AllFree x.s (state x.job ws).pattern p → pattern_hash x.job ws' p ≡ hash_at x.multiplier x.s (state x.job ws).pattern p
  pub of_text : (t : ℕ) → AllFree x.s (state x.job ws).text t → text_hash x.job ws' t ≡ hash_at x.multiplier x.s (state x.job ws).text t
  pub heads : (b : ℕ) → b < 1024 → get_or hs b 0 ≡ next_in x ws' b 0
  pub links : (t : ℕ) → t < x.job.m → listed x ws' t ≡ true → link x.job ws' t ≡ next_in x ws' (bucket x.buckets (text_hash x.job ws' t)) (t + 1)
  pub entries : (i : ℕ) → i < 4096 → get_or fs i 0 ≡ entry_of (raised_from x ws' i 0) (linked_from x ws' i 0)
  pub indexed : Indexed x ws' hs
  pub filtered : Filtered x ws' fs
