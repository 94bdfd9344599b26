-- Searching a row. What was found so far is the longest of the runs before t, or the floor. A longer run at u has the pattern's word at that
-- offset and at any before, so the positions that lack either of two can be passed over; and where too few words are left, no run is longer.
-- Assumes nothing.
use Prim.Native.Nat.{ℕ, ◌+◌, ◌-◌, ◌≤◌, ◌<◌, min, max}
use native.Mathlib.Decide.{dec_le, dec_lt, ℕ_discrete}
use native.Mathlib.Omega.{arith}
use mathlib.Core.Path.{◌≡◌, refl, sym, ◌∙◌, subst}
use mathlib.Core.Bool.{false}
use mathlib.Core.List.{List}
use lib.ListN.{length, drop, get_or, length-drop}
use lib.Seq.{get_or-drop}
use Rattle.symbol.specs.Word.{equal_calls}
use Rattle.symbol.specs.Sequence.{Current}
use Rattle.symbol.proofs.Word.{call_below, no_call_right}
use Rattle.symbol.proofs.Retired.{match_equal}
use Rattle.symbol.proofs.Sequence.{current_at, current_drop}
use Rattle.tiling.specs.Run.{run, equal_run}
use Rattle.tiling.proofs.Leading.{leading_within, leading_most}
use Rattle.tiling.proofs.Run.{run_within, run_match, run_most, zero_right}
use Rattle.tiling.proofs.Replaced.{run_current}
use Rattle.tile.specs.declared.TextAt.{TextAt}
use Rattle.measure.specs.Block.{counted}
use Rattle.measure.proofs.Longer.{counted_longer, counted_most}
use Rattle.sweep.specs.Row.{Row, better, passed_over}
use Rattle.chain.specs.First.{First, Passing}
use Rattle.chain.specs.Chain.{Free}
use Rattle.sweep.specs.declared.Found.{Found}
use Rattle.plain.specs.Pair.{SideBySide}
use Rattle.sweep.proofs.Row.{better_new, better_old}
use Rattle.sweep.proofs.Passed.{passed_most, passed_shorter}

-- ---- words that are not free
pub free_run : (ps ts : List ℕ) (u : ℕ) → get_or ts u 0 ≡ 0 → run ps (drop u ts) ≡ 0
free_run ps ts u e =
    let at : u + 0 ≡ u = omega arith in
    let word : get_or (drop u ts) 0 0 ≡ 0 = get_or-drop u ts 0 0 ∙ rw at e in
    omega (arith, run_most ps (drop u ts) 0 (rw word (zero_right (get_or ps 0 0))))

pub unfree_run : (ps ts : List ℕ) (u : ℕ) → (Free ts u → ⊥) → run ps (drop u ts) ≡ 0
unfree_run ps ts u d = go (ℕ_discrete (get_or ts u 0) 0)
  where
    go : Dec (get_or ts u 0 ≡ 0) → run ps (drop u ts) ≡ 0
    go (yes e) = free_run ps ts u e
    go (no e) = absurd (d e)

-- No run begins at such a word.
counted_zero : (best n : ℕ) → n ≡ 0 → 0 ≡ counted best n
counted_zero best n e = omega (arith, counted_most best n)

pub run_marked : (ps ts : List ℕ) (best at : ℕ) → get_or ts at 0 ≡ 0 → 0 ≡ counted best (equal_run ps (drop at ts))
run_marked ps ts best at e =
    let here : at + 0 ≡ at = omega arith in
    let word : get_or (drop at ts) 0 0 ≡ 0 = get_or-drop at ts 0 0 ∙ rw here e in
    let other : equal_calls (get_or ps 0 0) (get_or (drop at ts) 0 0) ≡ false = rw word (no_call_right (get_or ps 0 0) 0 (call_below 0 (omega arith))) in
    counted_zero best (equal_run ps (drop at ts)) (omega (arith, leading_most equal_calls ps (drop at ts) 0 other))

-- So many that they can be counted.
pub counted_small : (ps xs : List ℕ) (best len : ℕ) → length ps ≤ 2048 → len ≡ counted best (equal_run ps xs) → len ≤ 2048
counted_small ps xs best len h e = omega (arith, e, counted_most best (equal_run ps xs), leading_within equal_calls ps xs)

pub passed_small : (c len skip : ℕ) → len ≤ 2048 → skip ≡ passed_over c len → skip ≤ 2048
passed_small c len skip h k = omega (arith, passed_most c len skip k)

-- What is known of the two parts.
pub record Parts (ps ts : List ℕ) : Type 0 where
  pub short_pattern : length ps ≤ 2048
  pub short_text : length ts ≤ 2048
  pub current_pattern : Current ps
  pub current_text : Current ts

pub record Seen (ps ts : List ℕ) (floor t : ℕ) (f : Found) : Type 0 where
  pub parts : Parts ps ts
  pub within : t ≤ length ts
  pub small : f.len ≤ 2048
  pub least : floor ≤ f.len
  pub most : (u : ℕ) → u < t → run ps (drop u ts) ≤ f.len
  pub long : floor < f.len → run ps (drop f.t.0 ts) ≡ f.len
  pub first : floor < f.len → (u : ℕ) → u < f.t.0 → run ps (drop u ts) < f.len

pub seen_none : (ps ts : List ℕ) (floor t : ℕ) (a : TextAt) → floor ≤ 2048 → length ps ≤ 2048 → length ts ≤ 2048 → Current ps → Current ts → First (Free ts) 0 (length ts) t → Seen ps ts floor t (record { t = a; len = floor })
seen_none ps ts floor t a h p l c d f =
    record {
      parts = record { short_pattern = p; short_text = l; current_pattern = c; current_text = d };
      within = f.within;
      small = h;
      least = omega arith;
      most = λ u b. omega (arith, unfree_run ps ts u (f.none u (omega arith) b));
      long = λ l. absurd (omega arith);
      first = λ l. absurd (omega arith);
    }

-- ---- the end
-- No run is longer: the pattern has no more words, or too few of the text's are left from t on.
seen_end : (ps ts : List ℕ) (floor t : ℕ) (f : Found) → Seen ps ts floor t f → ((u : ℕ) → t ≤ u → run ps (drop u ts) ≤ f.len) → Row ps ts floor f
seen_end ps ts floor t f s later = record { least = s.least; most = λ u. go u (dec_lt u t); long = s.long; first = s.first }
  where
    go : (u : ℕ) → Dec (u < t) → run ps (drop u ts) ≤ f.len
    go u (yes h) = s.most u h
    go u (no h) = later u (omega (arith, h))

pub seen_pattern : (ps ts : List ℕ) (floor t : ℕ) (f : Found) → Seen ps ts floor t f → length ps ≤ f.len → Row ps ts floor f
seen_pattern ps ts floor t f s h = seen_end ps ts floor t f s (λ u l. omega (arith, run_within ps (drop u ts)))

pub seen_text : (ps ts : List ℕ) (floor t : ℕ) (f : Found) → Seen ps ts floor t f → length ts ≤ t + f.len → Row ps ts floor f
seen_text ps ts floor t f s h = seen_end ps ts floor t f s (λ u l. omega (arith, run_within ps (drop u ts), length-drop u ts))

-- ---- one more run
-- It is measured at r, before which nothing longer begins.
module _ (ps ts : List ℕ) (floor r : ℕ) (f : Found) (again len : ℕ) (a : TextAt) (s : Seen ps ts floor r f) (at : a.0 ≡ r) (e : len ≡ counted f.len (equal_run ps (drop r ts))) (ea : again ≡ equal_run ps (drop 1 ps)) (next : ℕ) (en : First (Free ts) (min (r + 1 + passed_over again len) (length ts)) (length ts) next) where
  abbrev skip : ℕ
  skip = passed_over again len

  counted_run : len ≡ counted f.len (run ps (drop r ts))
  counted_run = rw (run_current ps (drop r ts) s.parts.current_pattern (current_drop r ts s.parts.current_text)) at e

  here : max f.len len ≡ max f.len (run ps (drop r ts))
  here = rw counted_run (counted_longer f.len (run ps (drop r ts)))

  skipped : (u : ℕ) → r < u → u < r + 1 + skip → run ps (drop u ts) < len
  skipped = passed_shorter ps ts s.parts.current_pattern again ea r f.len len counted_run skip refl

  -- Those after them that are passed over are not free.
  reached : (n : ℕ) → f.len ≤ n → run ps (drop r ts) ≤ n → len ≤ n → (u : ℕ) → u < next → run ps (drop u ts) ≤ n
  reached n l m o u b = go (ℕ_discrete u r) (dec_lt u r) (dec_lt u (r + 1 + skip))
    where
      go : Dec (u ≡ r) → Dec (u < r) → Dec (u < r + 1 + skip) → run ps (drop u ts) ≤ n
      go (yes q) c k = rw q m
      go (no d) (yes c) k = omega (arith, s.most u c)
      go (no d) (no c) (yes k) = omega (arith, skipped u (omega (arith, c, d)) k)
      go (no d) (no c) (no k) = omega (arith, unfree_run ps ts u (en.none u (omega (arith, k)) b))

  seen_better : Seen ps ts floor next (better f a len)
  seen_better = go (dec_lt f.len len)
    where
      go : Dec (f.len < len) → Seen ps ts floor next (better f a len)
      go (yes l) =
          subst (λ g. Seen ps ts floor next g) (better_new f a len l)
          (record {
            parts = s.parts;
            within = en.within;
            small = omega (arith, here, run_within ps (drop r ts), s.parts.short_pattern);
            least = omega (arith, s.least);
            most = reached len (omega arith) (omega (arith, here)) (omega arith);
            long = λ m. rw at (omega (arith, here));
            first = λ m u b. omega (arith, s.most u (omega (arith, at)));
          })
      go (no l) =
          subst (λ g. Seen ps ts floor next g) (better_old f a len (omega (arith, l)))
          (record {
            parts = s.parts;
            within = en.within;
            small = s.small;
            least = s.least;
            most = reached f.len (omega arith) (omega (arith, l, here)) (omega (arith, l));
            long = s.long;
            first = s.first;
          })

-- ---- one turn
module _ (ps ts : List ℕ) (floor t : ℕ) (f : Found) (near r : ℕ) (s : Seen ps ts floor t f) (order : near ≤ f.len) (c : Passing (SideBySide ts near f.len (get_or ps near 0) (get_or ps f.len 0)) t (length ts - f.len) r) where
  -- A run longer than what was found has both words.
  both : (u : ℕ) → f.len < run ps (drop u ts) → SideBySide ts near f.len (get_or ps near 0) (get_or ps f.len 0) u
  both u l = record { here = word near (omega arith); beyond = word f.len l }
    where
      word : (i : ℕ) → i < run ps (drop u ts) → get_or ts (u + i) 0 ≡ get_or ps i 0
      word i m =
          let same = match_equal (get_or ps i 0) (get_or (drop u ts) i 0) (run_match ps (drop u ts) i m) in
          sym (get_or-drop u ts i 0)
          ∙ (sym (current_at (drop u ts) (current_drop u ts s.parts.current_text) i) ∙ (sym same ∙ current_at ps s.parts.current_pattern i))

  -- So nothing longer begins before r.
  seen_past : Seen ps ts floor r f
  seen_past =
      record {
        parts = s.parts;
        within = omega (arith, c.within);
        small = s.small;
        least = s.least;
        most = λ u l. go u l (dec_lt u t) (dec_le (run ps (drop u ts)) f.len);
        long = s.long;
        first = s.first;
      }
    where
      go : (u : ℕ) → u < r → Dec (u < t) → Dec (run ps (drop u ts) ≤ f.len) → run ps (drop u ts) ≤ f.len
      go u l (yes m) d = s.most u m
      go u l (no m) (yes d) = d
      go u l (no m) (no d) = absurd (c.none u (omega (arith, m)) l (both u (omega (arith, d))))

  pub seen_more : (again len : ℕ) (a : TextAt) → a.0 ≡ r → len ≡ counted f.len (equal_run ps (drop r ts)) → again ≡ equal_run ps (drop 1 ps) → (next : ℕ) → First (Free ts) (min (r + 1 + passed_over again len) (length ts)) (length ts) next → (g : Found) → g ≡ better f a len → Seen ps ts floor next g
  seen_more again len a at e ea next en g q =
      subst (λ x. Seen ps ts floor next x) (sym q) (seen_better ps ts floor r f again len a seen_past at e ea next en)

  -- Where too few words are left from r on, the search ends.
  pub seen_last : length ts ≤ r + f.len → Row ps ts floor f
  seen_last h = seen_text ps ts floor r f seen_past h
