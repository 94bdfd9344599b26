-- Which length is taken: by how many of some windows differ, and by what is left after a pass.
-- Assumes nothing.
use Prim.Native.Nat.{ℕ, zero, suc, ◌+◌, ◌-◌, ◌*◌, ◌/◌, ◌%◌, ◌^◌, ◌≤◌, ◌<◌, min, max}
use native.Mathlib.Nat.{pow-suc}
use native.Mathlib.Numerals.{add-one}
use native.Mathlib.Decide.{dec_lt}
use native.Mathlib.Omega.{arith}
use mathlib.Core.Path.{◌≡◌, refl, sym, ◌∙◌, ap}
use mathlib.Core.Bool.{Bool, true, false, ◌&&◌, ◌||◌}
use mathlib.Core.List.{List}
use borrow.Author.Tests.{lt-ltb, le-ltb, le-leb, lt-leb, leb-true, ltb-true}
use lib.Dec.{ltb, leb, eqb}
use lib.ListN.{length, take, drop}
use Rattle.bounds.specs.Workspace.{Space, state}
use Rattle.bounds.specs.declared.Job.{Job}
use Rattle.bounds.proofs.Workspace.{pattern_length}
use Rattle.lengths.specs.Lengths.{different, worthwhile, short_length, climbed, tried_first, longer_length, at_once, enough, first_length, longest, left, part_of}
use Rattle.lengths.proofs.Samples.{different_fits}

-- A length that a pass may have, and a smaller one that is at least the minimum.
pub record Between (minimum s : ℕ) : Type 0 where
  pub least : minimum ≤ s
  pub most : s ≤ 2048

pub record Next (minimum s r : ℕ) : Type 0 where
  pub least : minimum ≤ r
  pub less : r < s

-- ---- doubling
doubled : (n : ℕ) → 2 ^ (n + 1) ≡ 2 ^ n * 2
doubled n = rw (add-one n) (pow-suc 2 n)

-- ---- a short length
pub pays_not : (ws : List ℕ) (b s : ℕ) → 8 < s → false ≡ worthwhile ws b s
unfolding worthwhile
pays_not ws b s h = rw (worthwhile, lt-leb s 8 h) refl

pub pays_by : (ws : List ℕ) (b s d : ℕ) → s ≤ 8 → d ≡ different ws b s → leb 52 d ≡ worthwhile ws b s
unfolding worthwhile
pays_by ws b s d h e = rw (worthwhile, le-leb s 8 h, e) refl

-- What is tried from s on, with so many tries left, is what was to be tried from the start.
pub record Trying (ws : List ℕ) (b given i s : ℕ) : Type 0 where
  pub some : 1 ≤ s
  pub small : s ≤ 4096 * 2 ^ i
  pub same : short_length ws b s (3 - i) ≡ short_length ws b given 3

module _ (ws : List ℕ) (b given i s : ℕ) (c : Trying ws b given i s) where
  pub trying_done : 3 ≤ i → 0 ≡ short_length ws b given 3
  unfolding short_length
  trying_done h = let e : 3 - i ≡ 0 = omega arith in rw e at c.same

  module _ (more : i < 3) (x : Bool) (ex : x ≡ worthwhile ws b s) where
    tried : short_length ws b s (suc (3 - (i + 1))) ≡ short_length ws b given 3
    tried = let e : 3 - i ≡ suc (3 - (i + 1)) = omega arith in rw e at c.same

    pub trying_found : x ≡ true → s ≡ short_length ws b given 3
    unfolding short_length
    trying_found h = let k : worthwhile ws b s ≡ true = sym ex ∙ h in let e : short_length ws b s (suc (3 - (i + 1))) ≡ s = rw (short_length, k) refl in sym e ∙ tried

    pub trying_more : x ≡ false → Trying ws b given (i + 1) (s * 2)
    unfolding short_length
    trying_more h =
        let k : worthwhile ws b s ≡ false = sym ex ∙ h in
        let e : short_length ws b s (suc (3 - (i + 1))) ≡ short_length ws b (s * 2) (3 - (i + 1)) = rw (short_length, k) refl in
        record { some = omega (arith, c.some); small = omega (arith, c.small, doubled i); same = sym e ∙ tried }

-- ---- the first length
-- One try.
module _ (ws : List ℕ) (b minimum s few n : ℕ) where
  try_found : leb 44 (different ws b s) ≡ true → climbed ws b minimum s few (suc n) ≡ s
  unfolding climbed
  try_found k = rw (climbed, k) refl

  try_over : leb 44 (different ws b s) ≡ false → leb (different ws b s) few ≡ true → climbed ws b minimum s few (suc n) ≡ minimum
  unfolding climbed
  try_over k l = rw (climbed, k, l) refl

  try_more : leb 44 (different ws b s) ≡ false → leb (different ws b s) few ≡ false → climbed ws b minimum s few (suc n) ≡ climbed ws b minimum (s * 2) (different ws b s) n
  unfolding climbed
  try_more k l = rw (climbed, k, l) refl

-- What is tried from s on, with so many tries left, is what was to be tried from the start.
pub record Climbing (ws : List ℕ) (b minimum given few i s before : ℕ) : Type 0 where
  pub within : i ≤ 3
  pub some : 1 ≤ s
  pub small : s ≤ 2048 * 2 ^ i
  pub same : climbed ws b minimum s before (3 - i) ≡ climbed ws b minimum given few 3

module _ (ws : List ℕ) (b minimum given few i s before : ℕ) (c : Climbing ws b minimum given few i s before) where
  pub climbing_done : 3 ≤ i → (l r : ℕ) → l ≡ min (s / 4) 2048 → r ≡ max minimum l → r ≡ climbed ws b minimum given few 3
  unfolding climbed
  climbing_done h l r el er = let e : 3 - i ≡ 0 = omega arith in er ∙ (ap (max minimum) el ∙ rw e at c.same)

  module _ (more : i < 3) (d : ℕ) (ed : d ≡ different ws b s) where
    tries : 3 - i ≡ suc (3 - (i + 1))
    tries = omega arith

    opened : climbed ws b minimum s before (suc (3 - (i + 1))) ≡ climbed ws b minimum given few 3
    opened = rw tries at c.same

    pub climbing_found : 44 ≤ d → s ≡ climbed ws b minimum given few 3
    climbing_found h = let k : leb 44 (different ws b s) ≡ true = rw (← ed) (le-leb 44 d h) in sym (try_found ws b minimum s before (3 - (i + 1)) k) ∙ opened

    module _ (low : d < 44) where
      not_many : leb 44 (different ws b s) ≡ false
      not_many = rw (← ed) (lt-leb 44 d low)

      pub climbing_over : d ≤ before → minimum ≡ climbed ws b minimum given few 3
      climbing_over h = let k : leb (different ws b s) before ≡ true = rw (← ed) (le-leb d before h) in sym (try_over ws b minimum s before (3 - (i + 1)) not_many k) ∙ opened

      pub climbing_more : before < d → Climbing ws b minimum given few (i + 1) (s * 2) d
      climbing_more h =
          let k : leb (different ws b s) before ≡ false = rw (← ed) (lt-leb d before h) in
          record { within = omega arith; some = omega (arith, c.some); small = omega (arith, c.small, doubled i); same = ap (λ z. climbed ws b minimum (s * 2) z (3 - (i + 1))) ed ∙ (sym (try_more ws b minimum s before (3 - (i + 1)) not_many k) ∙ opened) }

module _ (ws : List ℕ) (b minimum given few short : ℕ) (es : short ≡ short_length ws b (2 * minimum) 3) where
  pub longer_short : 0 < short → short ≡ longer_length ws b minimum given few
  unfolding longer_length
  longer_short h =
      let k : ltb 0 (short_length ws b (2 * minimum) 3) ≡ true = rw (← es) (lt-ltb 0 short h) in
      es ∙ rw (longer_length, k) refl

  module _ (none : short ≤ 0) where
    no_short : ltb 0 (short_length ws b (2 * minimum) 3) ≡ false
    no_short = rw (← es) (le-ltb 0 short none)

    pub longer_none : length ws ≤ 256 → minimum ≡ longer_length ws b minimum given few
    unfolding longer_length
    longer_none h = rw (longer_length, no_short, le-leb (length ws) 256 h) refl

    pub longer_climbed : 256 < length ws → (cut from r : ℕ) → cut ≡ max 20 (min given 64) → from ≡ max minimum cut → r ≡ climbed ws b from from few 3 → r ≡ longer_length ws b minimum given few
    unfolding longer_length
    longer_climbed h cut from r el ef w =
        let same : cut ≡ min (max given 20) 64 = omega (arith, el) in
        w ∙ rw (longer_length, no_short, lt-leb (length ws) 256 h, ef, same) refl

-- How many are enough.
pub enough_short : (n : ℕ) → n ≤ 256 → 12 ≡ enough n
unfolding enough
enough_short n h = rw (enough, le-leb n 256 h) refl

pub enough_long : (n : ℕ) → 256 < n → 44 ≡ enough n
unfolding enough
enough_long n h = rw (enough, lt-leb n 256 h) refl

pub at_once_is : (n minimum b : ℕ) → ((leb n 64 || (leb n 256 && ltb 2 minimum)) || eqb (b % 2) 0) ≡ at_once n minimum b
unfolding at_once
at_once_is n minimum b = refl

module _ (j : Job) (ws : List ℕ) (b given : ℕ) (s : Space j ws) where
  words : take (j.n - 0) (drop 0 ws) ≡ (state j ws).pattern
  words = let e : j.n - 0 ≡ j.n = omega arith in rw e refl

  pub first_short : (x : Bool) → x ≡ at_once j.n j.minimum b → x ≡ true → j.minimum ≡ first_length (state j ws).pattern b j.minimum given
  unfolding first_length
  first_short x e h = let k : at_once j.n j.minimum b ≡ true = sym e ∙ h in rw (first_length, pattern_length j ws s, k) refl

  module _ (x : Bool) (ex : x ≡ at_once j.n j.minimum b) (long : x ≡ false) (few : ℕ) (e : few ≡ different (take (j.n - 0) (drop 0 ws)) b j.minimum) (wanted : ℕ) (ew : wanted ≡ enough j.n) where
    not_short : at_once (length (state j ws).pattern) j.minimum b ≡ false
    not_short = rw (pattern_length j ws s) (sym ex ∙ long)

    counted : few ≡ different (state j ws).pattern b j.minimum
    counted = e ∙ rw words refl

    pub first_many : wanted ≤ few → j.minimum ≡ first_length (state j ws).pattern b j.minimum given
    unfolding first_length
    first_many h =
        let k : leb (enough (length (state j ws).pattern)) (different (state j ws).pattern b j.minimum) ≡ true = rw (pattern_length j ws s, ← counted, ← ew) (le-leb wanted few h) in
        rw (first_length, not_short, k) refl

    pub first_longer : few < wanted → (r : ℕ) → r ≡ longer_length (take (j.n - 0) (drop 0 ws)) b j.minimum given few → r ≡ first_length (state j ws).pattern b j.minimum given
    unfolding first_length
    first_longer h r w =
        let k : leb (enough (length (state j ws).pattern)) (different (state j ws).pattern b j.minimum) ≡ false = rw (pattern_length j ws s, ← counted, ← ew) (lt-leb wanted few h) in
        w ∙ rw (first_length, not_short, k, words, ← counted) refl

-- It is at least the minimum, and no longer than a sequence may be.
between_least : (minimum : ℕ) → minimum ≤ 2048 → Between minimum minimum
between_least minimum h = record { least = omega arith; most = h }

climbed_between : (ws : List ℕ) (b first : ℕ) → length ws ≤ 2048 → first ≤ 2048 → (n s few : ℕ) → first ≤ s → Between first (climbed ws b first s few n)
unfolding climbed
climbed_between ws b first l h zero s few g = record { least = omega arith; most = omega arith }
climbed_between ws b first l h (suc n) s few g =
    go (leb 44 (different ws b s)) refl (leb (different ws b s) few) (climbed_between ws b first l h n (s * 2) (different ws b s) (omega arith))
  where
    go : (c : Bool) → leb 44 (different ws b s) ≡ c → (d : Bool) → Between first (climbed ws b first (s * 2) (different ws b s) n) → Between first (elim c [ true ↦ s | false ↦ elim d [ true ↦ first | false ↦ climbed ws b first (s * 2) (different ws b s) n ] ])
    go true e d later = record { least = g; most = omega (arith, different_fits ws b s (omega (arith, leb-true 44 (different ws b s) e))) }
    go false e true later = between_least first h
    go false e false later = later

pays_short : (ws : List ℕ) (b s : ℕ) → worthwhile ws b s ≡ true → s ≤ 8
unfolding worthwhile
pays_short ws b s = go (leb s 8) refl
  where
    go : (c : Bool) → leb s 8 ≡ c → (c && leb 52 (different ws b s)) ≡ true → s ≤ 8
    go true e h = leb-true s 8 e
    go false e h = absurd (let z : ◌≡◌ {A = ℕ} 0 1 = cc in omega arith)

short_between : (ws : List ℕ) (b minimum n s : ℕ) → minimum ≤ s → 0 < short_length ws b s n → Between minimum (short_length ws b s n)
unfolding short_length
short_between ws b minimum zero s g h = absurd (omega arith)
short_between ws b minimum (suc n) s g h = go (worthwhile ws b s) refl (short_between ws b minimum n (s * 2) (omega arith)) h
  where
    go : (c : Bool) → worthwhile ws b s ≡ c → (0 < short_length ws b (s * 2) n → Between minimum (short_length ws b (s * 2) n)) → 0 < elim c [ true ↦ s | false ↦ short_length ws b (s * 2) n ] → Between minimum (elim c [ true ↦ s | false ↦ short_length ws b (s * 2) n ])
    go true e later h = record { least = g; most = omega (arith, pays_short ws b s e) }
    go false e later h = later h

pub first_between : (pattern : List ℕ) (b minimum given s : ℕ) → length pattern ≤ 2048 → minimum ≤ given → given ≤ 2048 → s ≡ first_length pattern b minimum given → Between minimum s
unfolding first_length longer_length
first_between pattern b minimum given s l h m e =
    rw e (go (at_once (length pattern) minimum b) (leb (enough (length pattern)) (different pattern b minimum)) (leb (length pattern) 256) (ltb 0 (short_length pattern b (2 * minimum) 3)) refl)
  where
    go : (c d f g : Bool) → ltb 0 (short_length pattern b (2 * minimum) 3) ≡ g → Between minimum (elim c [ true ↦ minimum | false ↦ elim d [ true ↦ minimum | false ↦ elim g [ true ↦ short_length pattern b (2 * minimum) 3 | false ↦ elim f [ true ↦ minimum | false ↦ climbed pattern b (tried_first minimum given) (tried_first minimum given) (different pattern b minimum) 3 ] ] ] ])
    go true d f g k = between_least minimum (omega arith)
    go false true f g k = between_least minimum (omega arith)
    go false false f true k = short_between pattern b minimum 3 (2 * minimum) (omega arith) (ltb-true 0 (short_length pattern b (2 * minimum) 3) k)
    go false false true false k = between_least minimum (omega arith)
    go false false false false k =
        let c = climbed_between pattern b (tried_first minimum given) l (omega arith) 3 (tried_first minimum given) (different pattern b minimum) (omega arith) in
        record { least = omega (arith, c.least); most = c.most }

-- ---- what is left
pub left_none : (pattern : List ℕ) (minimum s : ℕ) → s ≤ minimum → 0 ≡ left pattern minimum s
unfolding left
left_none pattern minimum s h = rw (left, le-leb s minimum h) refl

pub left_longest : (j : Job) (ws : List ℕ) (s r : ℕ) → j.minimum < s → r ≡ longest (state j ws).pattern → r ≡ left (state j ws).pattern j.minimum s
unfolding left
left_longest j ws s r h e = rw (left, lt-leb s j.minimum h) e

-- Where something is left, another pass comes; and where it is below the minimum, the last pass was at the minimum or no stretch is longer.
pub left_more : (pattern : List ℕ) (minimum s r : ℕ) → r ≡ left pattern minimum s → 1 ≤ r → minimum < s
unfolding left
left_more pattern minimum s r e h = go (dec_lt minimum s)
  where
    go : Dec (minimum < s) → minimum < s
    go (yes l) = l
    go (no l) = let z : leb s minimum ≡ true = le-leb s minimum (omega (arith, l)) in absurd (let y : r ≡ 0 = e ∙ rw (left, z) refl in omega arith)

pub left_all : (pattern : List ℕ) (minimum s r : ℕ) → r ≡ left pattern minimum s → minimum < s → r ≡ longest pattern
unfolding left
left_all pattern minimum s r e h = e ∙ rw (left, lt-leb s minimum h) refl

-- ---- the next length
pub part_quarter : (s covered n : ℕ) → 2 * n < 3 * covered → s / 4 ≡ part_of s covered n
unfolding part_of
part_quarter s covered n h = rw (part_of, lt-ltb (2 * n) (3 * covered) h) refl

pub part_half : (s covered n : ℕ) → 3 * covered ≤ 2 * n → s / 2 ≡ part_of s covered n
unfolding part_of
part_half s covered n h = rw (part_of, le-ltb (2 * n) (3 * covered) h) refl

part_less : (s covered n : ℕ) → 1 ≤ s → part_of s covered n < s
unfolding part_of
part_less s covered n h = go (ltb (2 * n) (3 * covered))
  where
    go : (c : Bool) → elim c [ true ↦ s / 4 | false ↦ s / 2 ] < s
    go true = omega arith
    go false = omega arith

pub next_between : (minimum s covered n stretch r : ℕ) → r ≡ max minimum (min (part_of s covered n) stretch) → minimum < s → Next minimum s r
next_between minimum s covered n stretch r e h = record { least = omega (arith, e); less = omega (arith, e, part_less s covered n (omega arith)) }
