-- Counting the free words on either side of a position, from there outwards: as far as they go, or as far as was asked.
-- Assumes nothing.
use Prim.Native.Nat.{ℕ, zero, suc, ◌+◌, ◌-◌, ◌^◌, ◌≤◌, ◌<◌, min}
use native.Mathlib.Decide.{dec_le, dec_lt}
use native.Mathlib.Omega.{arith}
use mathlib.Core.Path.{◌≡◌, refl, sym, ◌∙◌, ap}
use mathlib.Core.Bool.{Bool, true, not}
use mathlib.Core.List.{List, [], ◌∷◌}
use borrow.Author.Tests.{le-leb, lt-leb, eqb-true, ne_eqb, not-false}
use lib.Dec.{eqb}
use lib.ListN.{length, take, drop, get_or, length-drop, get_or-eq_default}
use lib.Seq.{get_or-drop, take_all}
use Rattle.std.specs.Prelude.{reverse}
use Rattle.std.specs.List.{prefix_len, suffix_len, take_while}
use Rattle.std.proofs.lemmas.List.{length-reverse, get_or-reverse}
use Rattle.std.proofs.lemmas.List.Folds.{length-prefix_len}
use Rattle.std.proofs.lemmas.List.Sums.{prefix_len_passes, prefix_len_stops, suffix_len-le-length}
use Rattle.buffer.proofs.Buffer.{tail_is}
use Rattle.tiling.specs.Run.{mark}
use Rattle.tiling.specs.Stretch.{fillable, free_first}
use Rattle.tiling.proofs.Stretch.{free_most}
use Rattle.stretch.specs.Sides.{free_last, if_short, OnFree}
use Rattle.stretch.proofs.Fillable.{tile_takes}

-- ---- from the end
last_most : (a : ℕ) (ws : List ℕ) → free_last a ws ≤ a + length ws
unfolding free_last
last_most a [] = omega arith
last_most a (zero ∷ ws) = omega (arith, last_most 0 ws)
last_most a (suc w ∷ ws) = omega (arith, last_most (suc a) ws)

last_least : (a : ℕ) (ws : List ℕ) → ((i : ℕ) → i < length ws → get_or ws i 0 ≡ 0 → ⊥) → a + length ws ≤ free_last a ws
unfolding free_last
last_least a [] free = omega arith
last_least a (zero ∷ ws) free = absurd (free 0 (omega arith) refl)
last_least a (suc w ∷ ws) free = omega (arith, last_least (suc a) ws (λ i l. free (suc i) (omega arith)))

-- The end decides.
last_from : (k a : ℕ) (ws : List ℕ) → free_last a ws ≡ free_last (free_last a (take k ws)) (drop k ws)
unfolding free_last
last_from zero a ws = refl
last_from (suc k) a [] = refl
last_from (suc k) a (zero ∷ ws) = last_from k 0 ws
last_from (suc k) a (suc w ∷ ws) = last_from k (suc a) ws

last_enough : (ws : List ℕ) (n : ℕ) → n ≤ length ws → ((i : ℕ) → i < n → get_or ws (length ws - 1 - i) 0 ≡ 0 → ⊥) → n ≤ free_last 0 ws
last_enough ws n h free =
    let k = length ws - n in
    let rest = drop k ws in
    let m : length rest ≡ n = omega (arith, length-drop k ws) in
    let all : (i : ℕ) → i < length rest → get_or rest i 0 ≡ 0 → ⊥ =
    (λ i l z.
    let e : length ws - 1 - (n - 1 - i) ≡ k + i = omega (arith, m) in
    free (n - 1 - i) (omega (arith, m)) (rw e (sym (get_or-drop k ws i 0) ∙ z))) in
    omega (arith, last_from k 0 ws, last_least (free_last 0 (take k ws)) rest all, m)

marked_first : (a : ℕ) (ws : List ℕ) (n : ℕ) → length ws ≡ suc n → get_or ws 0 0 ≡ 0 → free_last a ws ≤ n
unfolding free_last
marked_first a [] n e z = absurd (omega arith)
marked_first a (zero ∷ ws) n e z = omega (arith, last_most 0 ws)
marked_first a (suc w ∷ ws) n e z = absurd (omega (arith, z))

last_cut : (ws : List ℕ) (n : ℕ) → n < length ws → get_or ws (length ws - 1 - n) 0 ≡ 0 → free_last 0 ws ≤ n
last_cut ws n h z =
    let k = length ws - 1 - n in
    let e : k + 0 ≡ k = omega arith in
    let m : length (drop k ws) ≡ suc n = omega (arith, length-drop k ws) in
    omega (arith, last_from k 0 ws, marked_first (free_last 0 (take k ws)) (drop k ws) n m (get_or-drop k ws 0 0 ∙ rw e z))

-- ---- the two counts: of the first n words, and of the last n, so many pass the test one after another
abbrev pub free_word : ℕ → Bool
free_word w = not (eqb w 0)

first_front : (n : ℕ) (ws : List ℕ) → prefix_len free_word (take n ws) ≡ min n (free_first ws)
unfolding free_first
first_front zero ws = omega arith
first_front (suc n) [] = omega arith
first_front (suc n) (zero ∷ ws) = omega arith
first_front (suc n) (suc w ∷ ws) = rw (ne_eqb (suc w) 0 (λ e. absurd (omega arith)), first_front n ws) (omega arith)

module _ (n : ℕ) (ws : List ℕ) (h : n ≤ length ws) where
  abbrev part : List ℕ
  part = drop (length ws - n) ws

  long : length part ≡ n
  long = omega (arith, length-drop (length ws - n) ws)

  from_end : (i : ℕ) → i < n → get_or (reverse part) i 0 ≡ get_or ws (length ws - 1 - i) 0
  from_end i l =
      let e : length ws - n + (length part - 1 - i) ≡ length ws - 1 - i = omega (arith, long) in
      get_or-reverse part i 0 (omega (arith, long)) ∙ (get_or-drop (length ws - n) ws (length part - 1 - i) 0 ∙ rw e refl)

  last_front : suffix_len free_word part ≡ min n (free_last 0 ws)
  last_front = go (dec_lt m n)
    where
      m : ℕ
      m = suffix_len free_word part

      few : m ≤ n
      few = omega (arith, suffix_len-le-length free_word part, long)

      enough : m ≤ free_last 0 ws
      enough =
          last_enough ws m (omega (arith, few))
          (λ i l z. let e : get_or (reverse part) i 0 ≡ 0 = from_end i (omega (arith, few)) ∙ z in
          let t : free_word 0 ≡ true = rw e at (prefix_len_passes free_word (reverse part) i 0 l) in
          cc)

      go : Dec (m < n) → m ≡ min n (free_last 0 ws)
      go (no d) = omega (arith, d, few, enough)
      go (yes d) =
          let t = prefix_len_stops free_word (reverse part) 0 (omega (arith, d, length-reverse part, long)) in
          omega (arith, enough, last_cut ws m (omega (arith, d)) (sym (from_end m d) ∙ eqb-true (get_or (reverse part) m 0) 0 (not-false _ t)))

-- So counts the code, of a part of the words.
pub first_count : (ws : List ℕ) (most n r : ℕ) → n ≡ min most (length ws) → r ≡ length (take_while free_word (take n ws)) → r ≡ min most (free_first ws)
first_count ws most n r e k =
    let f : r ≡ min n (free_first ws) = k ∙ (length-prefix_len free_word (take n ws) ∙ first_front n ws) in
    omega (arith, e, f, free_most ws (length ws) (get_or-eq_default ws 0 {n = length ws} (omega arith)))

pub last_count : (ws : List ℕ) (most n r : ℕ) → n ≡ min most (length ws) → r ≡ length (take_while free_word (reverse (take (length ws - (length ws - n)) (drop (length ws - n) ws)))) → r ≡ min most (free_last 0 ws)
last_count ws most n r e k =
    let f : r ≡ min n (free_last 0 ws) =
    k ∙ (rw (tail_is (length ws - n) ws) (length-prefix_len free_word (reverse (part n ws (omega (arith, e)))) ∙ last_front n ws (omega (arith, e)))) in
    omega (arith, e, f, last_most 0 ws)

-- ---- both sides of a tile
pub counts_not : (minimum len : ℕ) → minimum ≤ len → 0 ≡ if_short minimum len
unfolding if_short
counts_not minimum len h = rw (if_short, le-leb minimum len h) refl

pub counts_all : (minimum len : ℕ) → len < minimum → len ≡ if_short minimum len
unfolding if_short
counts_all minimum len h = rw (if_short, lt-leb minimum len h) refl

-- To count as far as the minimum is enough.
short_capped : (minimum len : ℕ) → if_short minimum (min minimum len) ≡ if_short minimum len
short_capped minimum len = go (dec_le minimum len)
  where
    go : Dec (minimum ≤ len) → if_short minimum (min minimum len) ≡ if_short minimum len
    go (yes h) = sym (counts_not minimum (min minimum len) (omega arith)) ∙ counts_not minimum len h
    go (no h) = let e : min minimum len ≡ len = omega (arith, h) in ap (if_short minimum) e

short_below : (minimum len : ℕ) → if_short minimum len ≤ minimum
short_below minimum len = go (dec_le minimum len)
  where
    go : Dec (minimum ≤ len) → if_short minimum len ≤ minimum
    go (yes h) = omega (arith, counts_not minimum len h)
    go (no h) = omega (arith, counts_all minimum len (omega (arith, h)), h)

module _ (minimum p len : ℕ) (pattern : List ℕ) (tile : OnFree minimum p len pattern) where
  -- The sums are small.
  module _ (short : length pattern ≤ 2048) (a x : ℕ) (ex : x ≡ if_short minimum a) where
    pub one_fits : len + x < 2 ^ 64
    one_fits = omega (arith, ex, short_below minimum a, tile.within, tile.long)

    pub both_fit : (b y : ℕ) → y ≡ if_short minimum b → len + x + y < 2 ^ 64
    both_fit b y ey = omega (arith, ex, ey, short_below minimum a, short_below minimum b, tile.within, tile.long)

  pub taken_all : (a b x y : ℕ) → a ≡ min minimum (free_last 0 (take (p - 0) (drop 0 pattern))) → b ≡ min minimum (free_first (take (length pattern - (p + len)) (drop (p + len) pattern))) → x ≡ if_short minimum a → y ≡ if_short minimum b → len + x + y + fillable minimum (mark p len pattern) ≡ fillable minimum pattern
  taken_all a b x y ea eb ex ey =
      let front : take (p - 0) (drop 0 pattern) ≡ take p pattern = let e : p - 0 ≡ p = omega arith in rw e refl in
      let back : take (length pattern - (p + len)) (drop (p + len) pattern) ≡ drop (p + len) pattern = take_all (length pattern - (p + len)) (drop (p + len) pattern) (omega (arith, length-drop (p + len) pattern)) in
      let u : x ≡ if_short minimum (free_last 0 (take p pattern)) = ex ∙ (rw (ea, front) (short_capped minimum (free_last 0 (take p pattern)))) in
      let v : y ≡ if_short minimum (free_first (drop (p + len) pattern)) = ey ∙ (rw (eb, back) (short_capped minimum (free_first (drop (p + len) pattern)))) in
      omega (arith, u, v, tile_takes minimum p len pattern (omega (arith, tile.least, tile.long)) tile.long tile.within tile.free)
