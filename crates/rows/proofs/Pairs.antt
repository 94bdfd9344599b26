-- Visiting a pair of positions. A run longer than what was found begins with a window of s words, so the hashes at the pair are equal; it
-- goes on beyond what was found, so those of the windows that end there are equal too, and the words at every offset before are equal calls.
-- Where any of these differ, no run is longer.
-- Assumes nothing.
use Prim.Native.Nat.{ℕ, ◌+◌, ◌-◌, ◌≤◌, ◌<◌, min}
use native.Mathlib.Decide.{dec_lt}
use native.Mathlib.Omega.{arith}
use mathlib.Core.Path.{◌≡◌, refl, ◌∙◌, ap}
use mathlib.Core.Bool.{Bool, true, false, ◌&&◌, true≢false}
use mathlib.Core.List.{List}
use borrow.Author.Tests.{eqb-false, le-leb, lt-leb}
use lib.Dec.{eqb}
use lib.ListN.{take, drop, get_or, length-drop}
use lib.Seq.{drop-drop, get_or-drop, get_or-take}
use Rattle.symbol.specs.Word.{equal_calls}
use Rattle.symbol.proofs.Sequence.{current_drop}
use Rattle.buffer.proofs.Buffer.{rest_of_front}
use Rattle.tiling.specs.Run.{equal_run}
use Rattle.tiling.specs.Tiling.{run_at}
use Rattle.tiling.proofs.Leading.{leading_most}
use Rattle.tiling.proofs.Run.{run_within}
use Rattle.tiling.proofs.Replaced.{run_current}
use Rattle.tile.specs.declared.TextAt.{TextAt}
use Rattle.measure.specs.Block.{counted}
use Rattle.measure.proofs.Longer.{counted_most}
use Rattle.bounds.specs.Workspace.{Space, state}
use Rattle.sweep.specs.Row.{better, passed_over}
use Rattle.sweep.specs.declared.Found.{Found}
use Rattle.bounds.specs.declared.Job.{Job}
use Rattle.sweep.proofs.Bounds.{run_further}
use Rattle.bounds.proofs.Workspace.{pattern_length, text_length}
use Rattle.index.specs.Indexed.{pattern_hash, text_hash}
use Rattle.index.specs.declared.pass.Pass.{Pass}
use Rattle.rows.specs.Reached.{Alike, may_be_longer, after_run, visited}
use Rattle.rows.specs.declared.Walk.{Walk}

-- The run of the two parts that begin at the positions.
pub run_of_parts : (j : Job) (ws : List ℕ) (p t best r : ℕ) → Space j ws → r ≡ counted best (equal_run (take (j.n - p) (drop p ws)) (take (j.n + j.m - (j.n + t)) (drop (j.n + t) ws))) → r ≡ counted best (run_at (state j ws) p t)
run_of_parts j ws p t best r s e =
    let k : j.n + j.m - (j.n + t) ≡ j.m - t = omega arith in
    let ps = drop p (state j ws).pattern in
    let ts = drop t (state j ws).text in
    let same : equal_run ps ts ≡ run_at (state j ws) p t = run_current ps ts (current_drop p _ s.current.of_pattern) (current_drop t _ s.current.of_text) in
    rw (rest_of_front p j.n ws, k, ← drop-drop t j.n ws, rest_of_front t j.m (drop j.n ws), same) at e

-- Two hashes that were read.
pub alike_is : (j : Job) (ws : List ℕ) (p t x y : ℕ) → x ≡ text_hash j ws t → y ≡ pattern_hash j ws p → eqb x y ≡ eqb (text_hash j ws t) (pattern_hash j ws p)
alike_is j ws p t x y a b = rw (a, b) refl

-- The row's first word, again and again.
pub row_repeats : (j : Job) (ws : List ℕ) (p r : ℕ) → r ≡ equal_run (take (j.n - p) (drop p ws)) (drop 1 (take (j.n - p) (drop p ws))) → r ≡ equal_run (drop p (state j ws).pattern) (drop 1 (drop p (state j ws).pattern))
row_repeats j ws p r e = rw (rest_of_front p j.n ws) at e

-- A run is no longer than the row.
pub run_small : (j : Job) (ws : List ℕ) (p t best r : ℕ) → Space j ws → r ≡ counted best (run_at (state j ws) p t) → r ≤ 2048
run_small j ws p t best r s e =
    omega (arith, e, counted_most best (run_at (state j ws) p t), run_within (drop p (state j ws).pattern) (drop t (state j ws).text), length-drop p (state j ws).pattern, pattern_length j ws s, s.short_pattern)

pub after_is : (w : Walk) (a : TextAt) (len ended skip : ℕ) (g : Found) → g ≡ better w.found a len → ended ≡ min len w.found.len → skip ≡ passed_over w.again len → record { found = g; ended = ended; again = w.again; past = a.0 + 1 + skip } ≡ after_run w a len
unfolding after_run
after_is w a len ended skip g eg ee es = rw (eg, ee, es) refl

-- ---- what the code tests in turn
module _ (x : Pass) (ws : List ℕ) (p t : ℕ) (w : Walk) (a : Bool) (ea : a ≡ eqb (text_hash x.job ws t) (pattern_hash x.job ws p)) where
  pub may_unlike : a ≡ false → false ≡ may_be_longer x ws p t w
  unfolding may_be_longer
  may_unlike z = rw (may_be_longer, ← ea, z) refl

  module _ (za : a ≡ true) (b : Bool) (eb : b ≡ eqb (text_hash x.job ws (t + (w.found.len + 1 - x.s))) (pattern_hash x.job ws (p + (w.found.len + 1 - x.s)))) where
    pub may_ended : b ≡ false → false ≡ may_be_longer x ws p t w
    unfolding may_be_longer
    may_ended z = rw (may_be_longer, ← ea, za, ← eb, z) refl

    pub may_words : b ≡ true → (c : Bool) → c ≡ equal_calls (get_or ws (p + w.ended) 0) (get_or ws (x.job.n + t + w.ended) 0) → c ≡ may_be_longer x ws p t w
    unfolding may_be_longer
    may_words zb c ec = ec ∙ rw (may_be_longer, ← ea, za, ← eb, zb) refl

module _ (x : Pass) (ws : List ℕ) (p : ℕ) (t : TextAt) (w : Walk) where
  pub visit_passed : t.0 < w.past → w ≡ visited x ws p t w
  unfolding visited
  visit_passed h = rw (visited, lt-leb w.past t.0 h) refl

  module _ (h : w.past ≤ t.0) (b : Bool) (e : b ≡ may_be_longer x ws p t.0 w) where
    pub visit_dismissed : b ≡ false → w ≡ visited x ws p t w
    unfolding visited
    visit_dismissed z = rw (visited, le-leb w.past t.0 h, ← e, z) refl

    pub visit_measured : b ≡ true → (len : ℕ) → len ≡ counted w.found.len (run_at (state x.job ws) p t.0) → (v : Walk) → v ≡ after_run w t len → v ≡ visited x ws p t w
    unfolding visited
    visit_measured z len k v q = q ∙ rw (k, visited, le-leb w.past t.0 h, ← e, z) refl

-- ---- what it tells of the run
module _ (x : Pass) (ws : List ℕ) (p t : ℕ) (w : Walk) (space : Space x.job ws) where
  abbrev j : Job
  j = x.job

  abbrev s : ℕ
  s = x.s

  abbrev len : ℕ
  len = w.found.len

  abbrev ended : ℕ
  ended = w.ended

  abbrev ps : List ℕ
  ps = drop p (state j ws).pattern

  abbrev ts : List ℕ
  ts = drop t (state j ws).text

  -- Words that are no equal calls end every run that comes to them.
  stopped : equal_calls (get_or ws (p + ended) 0) (get_or ws (j.n + t + ended) 0) ≡ false → run_at (state j ws) p t ≤ ended
  stopped e = go (dec_lt (p + ended) j.n) (dec_lt (t + ended) j.m)
    where
      go : Dec (p + ended < j.n) → Dec (t + ended < j.m) → run_at (state j ws) p t ≤ ended
      go (yes h) (yes k) =
          let first : get_or ps ended 0 ≡ get_or ws (p + ended) 0 = get_or-drop p (state j ws).pattern ended 0 ∙ get_or-take j.n ws (p + ended) 0 h in
          let further : j.n + (t + ended) ≡ j.n + t + ended = omega arith in
          let second : get_or ts ended 0 ≡ get_or ws (j.n + t + ended) 0 =
          get_or-drop t (state j ws).text ended 0 ∙ (get_or-take j.m (drop j.n ws) (t + ended) 0 k ∙ (get_or-drop j.n ws (t + ended) 0 ∙ ap (λ (i : ℕ). get_or ws i 0) further)) in
          let same : equal_run ps ts ≡ run_at (state j ws) p t = run_current ps ts (current_drop p _ space.current.of_pattern) (current_drop t _ space.current.of_text) in
          let test : equal_calls (get_or ps ended 0) (get_or ts ended 0) ≡ false = rw (first, second) e in
          omega (arith, same, leading_most equal_calls ps ts ended test)
      go (no h) d = omega (arith, h, run_within ps ts, length-drop p (state j ws).pattern, pattern_length j ws space)
      go (yes h) (no k) = omega (arith, k, run_within ps ts, length-drop t (state j ws).text, text_length j ws space)

  module _ (alike : Alike x ws) (least : s ≤ len + 1) (order : ended ≤ len) where
    unlike_here : (text_hash j ws t ≡ pattern_hash j ws p → ⊥) → run_at (state j ws) p t ≤ len
    unlike_here d = go (dec_lt len (run_at (state j ws) p t))
      where
        go : Dec (len < run_at (state j ws) p t) → run_at (state j ws) p t ≤ len
        go (yes h) = absurd (d (alike p t (omega arith)))
        go (no h) = omega (arith, h)

    unlike_further : (d : ℕ) → d ≡ len + 1 - s → (text_hash j ws (t + d) ≡ pattern_hash j ws (p + d) → ⊥) → run_at (state j ws) p t ≤ len
    unlike_further d e n = go (dec_lt len (run_at (state j ws) p t))
      where
        go : Dec (len < run_at (state j ws) p t) → run_at (state j ws) p t ≤ len
        go (yes h) = absurd (n (alike (p + d) (t + d) (run_further (state j ws) p t d s (omega arith))))
        go (no h) = omega (arith, h)

    -- Where nothing speaks for a longer run, there is none.
    pub not_longer : may_be_longer x ws p t w ≡ false → run_at (state j ws) p t ≤ len
    unfolding may_be_longer
    not_longer z = go (eqb (text_hash j ws t) (pattern_hash j ws p)) (eqb (text_hash j ws (t + (len + 1 - s))) (pattern_hash j ws (p + (len + 1 - s)))) (equal_calls (get_or ws (p + ended) 0) (get_or ws (j.n + t + ended) 0)) refl refl refl z
      where
        go : (a b c : Bool) → eqb (text_hash j ws t) (pattern_hash j ws p) ≡ a → eqb (text_hash j ws (t + (len + 1 - s))) (pattern_hash j ws (p + (len + 1 - s))) ≡ b → equal_calls (get_or ws (p + ended) 0) (get_or ws (j.n + t + ended) 0) ≡ c → (a && (b && c)) ≡ false → run_at (state j ws) p t ≤ len
        go true true true ea eb ec y = absurd (true≢false y)
        go true true false ea eb ec y = omega (arith, stopped ec)
        go true false c ea eb ec y = unlike_further (len + 1 - s) refl (eqb-false _ _ eb)
        go false b c ea eb ec y = unlike_here (eqb-false _ _ ea)
