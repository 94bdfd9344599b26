-- Rows alike. Where two rows begin with the same calls for more words than the bound of one of them, a run of the other that exceeds that bound
-- would be one of the first as well.
-- Assumes nothing.
use Prim.Native.Nat.{ℕ, zero, suc, ◌+◌, ◌-◌, ◌*◌, ◌≤◌, ◌<◌, min, max}
use native.Mathlib.Decide.{dec_lt}
use native.Mathlib.Omega.{arith}
use mathlib.Core.Path.{◌≡◌, refl, sym, ◌∙◌, ap, subst}
use mathlib.Core.Bool.{Bool, true, false, not, ◌&&◌}
use mathlib.Core.List.{List, map}
use borrow.Author.Tests.{leb-true, ltb-true, le-leb, lt-leb, lt-ltb, le-ltb}
use lib.Bits.{bit_and}
use lib.Dec.{leb, ltb, eqb}
use lib.ListN.{length, take, drop, get_or, length-drop}
use lib.Seq.{take-take, get_or-take, get_or-drop}
use Rattle.symbol.specs.Word.{replaced, is_call}
use Rattle.symbol.proofs.Retired.{match_both, match_call, match_self, no_match_left}
use Rattle.symbol.proofs.Sequence.{current_take, current_drop}
use Rattle.buffer.proofs.Buffer.{rest_of_front}
use Rattle.tiling.specs.Run.{run, equal_run}
use Rattle.tiling.specs.Tiling.{State, run_at}
use Rattle.tiling.proofs.Run.{run_within, run_match, run_least, run_most}
use Rattle.tiling.proofs.Replaced.{run_current}
use Rattle.bounds.specs.Workspace.{Space, state, bound}
use Rattle.sweep.specs.Row.{alike_bound, bound_by, free_words, before, taken_over}
use Rattle.sweep.specs.Progress.{UpperFrom, RowBound}
use Rattle.bounds.specs.declared.Job.{Job}
use Rattle.bounds.proofs.Workspace.{pattern_length}

-- ---- the first words of two rows
-- Of two lists cut after the same number of words.
cut_match : (ps qs : List ℕ) (len : ℕ) → len < run (take (len + 1) ps) (take (len + 1) qs) → len < run ps qs
cut_match ps qs len h =
    omega (
      arith,
      run_least ps qs (len + 1) (λ i l.
          rw (get_or-take (len + 1) ps i 0 l, get_or-take (len + 1) qs i 0 l) at (run_match (take (len + 1) ps) (take (len + 1) qs) i (omega arith))),
    )

match_cut : (ps qs : List ℕ) (len : ℕ) → len < run ps qs → len < run (take (len + 1) ps) (take (len + 1) qs)
match_cut ps qs len h =
    omega (
      arith,
      run_least (take (len + 1) ps) (take (len + 1) qs) (len + 1) (λ i l.
          rw (get_or-take (len + 1) ps i 0 l, get_or-take (len + 1) qs i 0 l) (run_match ps qs i (omega arith))),
    )

module _ (j : Job) (ws : List ℕ) (s : Space j ws) where
  abbrev row : ℕ → List ℕ
  row a = drop a (state j ws).pattern

  row_length_lem : (a : ℕ) → length (row a) ≡ j.n - a
  row_length_lem a = length-drop a (state j ws).pattern ∙ omega (arith, pattern_length j ws s)

  -- The part of the workspace that the code cuts out.
  part_is : (a len : ℕ) → len < j.n - a → take (a + len + 1 - a) (drop a ws) ≡ take (len + 1) (row a)
  part_is a len h =
      let k : a + len + 1 - a ≡ len + 1 = omega arith in
      rw (k, ← rest_of_front a j.n ws) (sym (take-take (len + 1) (j.n - a) (drop a ws) (omega arith)))

  pub alike_short : (a b len : ℕ) → j.n - a ≤ len → false ≡ ltb len (run (row a) (row b))
  alike_short a b len h = sym (le-ltb len (run (row a) (row b)) (omega (arith, run_within (row a) (row b), row_length_lem a)))

  pub alike_short_other : (a b len : ℕ) → j.n - b ≤ len → false ≡ ltb len (run (row a) (row b))
  alike_short_other a b len h = sym (le-ltb len (run (row a) (row b)) (omega (arith, run_within (row a) (row b), row_length_lem b)))

  pub alike_is : (a b len r : ℕ) → len < j.n - a → len < j.n - b → r ≡ max len (equal_run (take (a + len + 1 - a) (drop a ws)) (take (b + len + 1 - b) (drop b ws))) → ltb len r ≡ ltb len (run (row a) (row b))
  alike_is a b len r h l e = go (dec_lt len (run (row a) (row b)))
    where
      current : (c : ℕ) → map replaced (take (len + 1) (row c)) ≡ take (len + 1) (row c)
      current c = current_take (len + 1) (row c) (current_drop c (state j ws).pattern s.current.of_pattern)

      measured : r ≡ max len (run (take (len + 1) (row a)) (take (len + 1) (row b)))
      measured = rw (part_is a len h, part_is b len l, run_current (take (len + 1) (row a)) (take (len + 1) (row b)) (current a) (current b)) at e

      go : Dec (len < run (row a) (row b)) → ltb len r ≡ ltb len (run (row a) (row b))
      go (yes m) = lt-ltb len r (omega (arith, measured, match_cut (row a) (row b) len m)) ∙ sym (lt-ltb len (run (row a) (row b)) m)
      go (no m) = le-ltb len r (short (dec_lt len (run (take (len + 1) (row a)) (take (len + 1) (row b))))) ∙ sym (le-ltb len (run (row a) (row b)) (omega (arith, m)))
        where
          short : Dec (len < run (take (len + 1) (row a)) (take (len + 1) (row b))) → r ≤ len
          short (yes n) = absurd (m (cut_match (row a) (row b) len n))
          short (no n) = omega (arith, measured, n)

-- ---- what a row tells of another
module _ (j : Job) (ws : List ℕ) (p q cap : ℕ) where
  abbrev same : ℕ
  same = run (drop p (state j ws).pattern) (drop q (state j ws).pattern)

  module _ (len : ℕ) (e : len ≡ bound j ws q) where
    pub by_cap : cap ≤ len → cap ≡ alike_bound j ws p q cap
    unfolding alike_bound
    by_cap h = let l : cap ≤ bound j ws q = omega (arith, e) in rw (alike_bound, le-ltb (bound j ws q) cap l) refl

    module _ (low : len < cap) (b : Bool) (k : b ≡ ltb len same) where
      below : bound j ws q < cap
      below = omega (arith, e)

      pub by_unlike : b ≡ false → cap ≡ alike_bound j ws p q cap
      unfolding alike_bound
      by_unlike z = let m : ltb (bound j ws q) same ≡ false = rw (← e) (sym k ∙ z) in rw (alike_bound, lt-ltb (bound j ws q) cap below, m) refl

      pub by_alike : b ≡ true → len ≡ alike_bound j ws p q cap
      unfolding alike_bound
      by_alike z = let m : ltb (bound j ws q) same ≡ true = rw (← e) (sym k ∙ z) in e ∙ rw (alike_bound, lt-ltb (bound j ws q) cap below, m) refl

  module _ (from : ℕ) where
    pub by_before : q < from → cap ≡ bound_by j ws p q from cap
    unfolding bound_by
    by_before h = rw (bound_by, lt-leb from q h) refl

    pub by_past : from ≤ q → j.n ≤ q → cap ≡ bound_by j ws p q from cap
    unfolding bound_by
    by_past least h = rw (bound_by, le-leb from q least, le-ltb q j.n h) refl

    pub by_row : from ≤ q → q < j.n → (r : ℕ) → r ≡ alike_bound j ws p q cap → r ≡ bound_by j ws p q from cap
    unfolding bound_by
    by_row least inside r e = e ∙ rw (bound_by, le-leb from q least, lt-ltb q j.n inside) refl

  -- A run of p that exceeds q's bound would be one of q.
  shared : (s : State) (len t : ℕ) → ((u : ℕ) → run_at s q u ≤ len) → len < run (drop p s.pattern) (drop q s.pattern) → Dec (len < run_at s p t) → run_at s p t ≤ len
  shared s len t upper alike (no h) = omega (arith, h)
  shared s len t upper alike (yes h) =
      let ps = drop p s.pattern in
      let qs = drop q s.pattern in
      let ts = drop t s.text in
      absurd (omega (arith, upper t, run_least qs ts (len + 1) (λ i l. match_both (get_or ps i 0) (get_or qs i 0) (get_or ts i 0) (run_match ps qs i (omega arith)) (run_match ps ts i (omega arith)))))

-- What it tells holds where the rows from `from` on have their bounds.
pub record Telling (j : Job) (ws : List ℕ) (p cap r : ℕ) : Type 0 where
  pub within : r ≤ cap
  pub most : r < cap → (t : ℕ) → run_at (state j ws) p t ≤ r
  pub inside : r < cap → p + r ≤ j.n

pub telling_none : (j : Job) (ws : List ℕ) (p cap : ℕ) → Telling j ws p cap cap
telling_none j ws p cap = record { within = omega arith; most = λ l. absurd (omega arith); inside = λ l. absurd (omega arith) }

module _ (j : Job) (ws : List ℕ) (p q cap : ℕ) (space : Space j ws) where
  alike_tells : ((u : ℕ) → run_at (state j ws) q u ≤ bound j ws q) → (a b : Bool) → ltb (bound j ws q) cap ≡ a → ltb (bound j ws q) (same j ws p q cap) ≡ b → Telling j ws p cap (elim (a && b) [ true ↦ bound j ws q | false ↦ cap ])
  alike_tells upper true true e k =
      record {
        within = omega (arith, ltb-true (bound j ws q) cap e);
        most = λ l t. shared j ws p q cap (state j ws) (bound j ws q) t upper (ltb-true (bound j ws q) (same j ws p q cap) k) (dec_lt (bound j ws q) (run_at (state j ws) p t));
        inside = λ l. omega (arith, ltb-true (bound j ws q) (same j ws p q cap) k, run_within (drop p (state j ws).pattern) (drop q (state j ws).pattern), length-drop p (state j ws).pattern, pattern_length j ws space);
      }
  alike_tells upper true false e k = telling_none j ws p cap
  alike_tells upper false b e k = telling_none j ws p cap

  by_tells : (from : ℕ) → UpperFrom j ws from → (a b : Bool) → leb from q ≡ a → ltb q j.n ≡ b → Telling j ws p cap (elim (a && b) [ true ↦ alike_bound j ws p q cap | false ↦ cap ])
  unfolding alike_bound
  by_tells from upper true true e k =
      alike_tells (λ u. upper q u (leb-true from q e) (ltb-true q j.n k)) (ltb (bound j ws q) cap) (ltb (bound j ws q) (same j ws p q cap)) refl refl
  by_tells from upper true false e k = telling_none j ws p cap
  by_tells from upper false b e k = telling_none j ws p cap

  pub bound_tells : (from r : ℕ) → UpperFrom j ws from → r ≡ bound_by j ws p q from cap → Telling j ws p cap r
  unfolding bound_by
  bound_tells from r upper e = subst (λ x. Telling j ws p cap x) (sym e) (by_tells from upper (leb from q) (ltb q j.n) refl refl)

-- ---- the words that are free
module _ (j : Job) (ws : List ℕ) (p cap len : ℕ) (s : Space j ws) (inside : p < j.n) (some : 1 ≤ cap) (e : len ≡ min cap (j.n - p)) where
  abbrev own : List ℕ
  own = drop p (state j ws).pattern

  -- The last of them, as the code reads it.
  last_word : get_or ws (p + (len - 1)) 0 ≡ get_or own (min cap (j.n - p) - 1) 0
  last_word =
      rw (← e) (sym (get_or-drop p (state j ws).pattern (len - 1) 0 ∙ get_or-take j.n ws (p + (len - 1)) 0 (omega (arith, e))))

  module _ (b : Bool) (k : b ≡ is_call (get_or ws (p + (len - 1)) 0)) where
    asked : is_call (get_or own (min cap (j.n - p) - 1) 0) ≡ b
    asked = sym (k ∙ ap is_call last_word)

    pub free_all : b ≡ true → len ≡ free_words j ws p cap
    unfolding free_words
    free_all z = rw (free_words, asked, z) e

    pub free_some : b ≡ false → (r : ℕ) → r ≡ max 0 (equal_run (take (j.n - p) (drop p ws)) (take (j.n - p) (drop p ws))) → r ≡ free_words j ws p cap
    unfolding free_words
    free_some z r w =
        let c = current_drop p (state j ws).pattern s.current.of_pattern in
        let m : r ≡ max 0 (run own own) = rw (rest_of_front p j.n ws, run_current own own c c) at w in
        rw (free_words, asked, z) (omega (arith, m))

-- No run of a row is longer than the row, or than the calls that it begins with.
pub free_tells : (j : Job) (ws : List ℕ) (p cap r : ℕ) → Space j ws → p < j.n → 1 ≤ cap → r ≡ free_words j ws p cap → Telling j ws p cap r
unfolding free_words
free_tells j ws p cap r s inside some e = subst (λ x. Telling j ws p cap x) (sym e) (go (is_call (get_or row (len - 1) 0)) refl)
  where
    row : List ℕ
    row = drop p (state j ws).pattern

    len : ℕ
    len = min cap (j.n - p)

    row_words : length row ≡ j.n - p
    row_words = row_length_lem j ws s p

    calls : (t : ℕ) → run_at (state j ws) p t ≤ run row row
    calls t = let ts = drop t (state j ws).text in run_least row row (run row ts) (λ i l. match_self (get_or row i 0) (match_call (get_or row i 0) (get_or ts i 0) (run_match row ts i l)))

    go : (b : Bool) → is_call (get_or row (len - 1) 0) ≡ b → Telling j ws p cap (elim b [ true ↦ len | false ↦ run row row ])
    go true k =
        record {
          within = omega arith;
          most = λ l t. omega (arith, run_within row (drop t (state j ws).text), row_words);
          inside = λ l. omega arith;
        }
    go false k =
        record {
          within = omega (arith, run_most row row (len - 1) (no_match_left (get_or row (len - 1) 0) (get_or row (len - 1) 0) k));
          most = λ l t. calls t;
          inside = λ l. omega (arith, run_within row row, row_words);
        }

-- What is told of a row by its free words and then by another.
pub telling_both : (j : Job) (ws : List ℕ) (p cap free r : ℕ) → Telling j ws p cap free → Telling j ws p free r → Telling j ws p cap r
telling_both j ws p cap free r a b = record { within = omega (arith, a.within, b.within); most = λ l. most l (dec_lt r free); inside = λ l. inside l (dec_lt r free) }
  where
    most : r < cap → Dec (r < free) → (t : ℕ) → run_at (state j ws) p t ≤ r
    most l (yes h) t = b.most h t
    most l (no h) t = omega (arith, b.within, h, a.most (omega (arith, b.within, h)) t)

    inside : r < cap → Dec (r < free) → p + r ≤ j.n
    inside l (yes h) = b.inside h
    inside l (no h) = omega (arith, b.within, h, a.inside (omega (arith, b.within, h)))

-- A bound that is told, and one that is not.
pub bound_told : (j : Job) (ws : List ℕ) (p cap r : ℕ) → RowBound j (state j ws) p cap → Telling j ws p cap r → RowBound j (state j ws) p r
bound_told j ws p cap r c t = record { most = λ u. most u (dec_lt r cap); within = within (dec_lt r cap) }
  where
    most : (u : ℕ) → Dec (r < cap) → run_at (state j ws) p u ≤ r
    most u (yes l) = t.most l u
    most u (no l) = omega (arith, c.most u, l)

    within : Dec (r < cap) → p + r ≤ j.n
    within (yes l) = omega (arith, t.inside l)
    within (no l) = omega (arith, t.within, c.within)

pub taken_is : (t s cap : ℕ) → (eqb t 0 && leb (2 * s) cap) && not (eqb (bit_and cap (cap - 1)) 0) ≡ taken_over t s cap
unfolding taken_over
taken_is t s cap = refl

-- ---- the position before another
pub before_first : (t m : ℕ) → t ≡ 0 → m ≡ before t m
unfolding before
before_first t m e = rw e refl

pub before_next : (t m r : ℕ) → (t ≡ 0 → ⊥) → r ≡ min (t - 1) m → r ≡ before t m
unfolding before
before_next zero m r d e = absurd (d refl)
before_next (suc t) m r d e = let k : suc t - 1 ≡ t = omega arith in rw k at e

pub before_some : (t m : ℕ) → before t m < m → 1 ≤ t
unfolding before
before_some zero m l = absurd (omega arith)
before_some (suc t) m l = omega arith
