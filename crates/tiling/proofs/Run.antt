-- Runs and marking, word by word. A run is as long as the words match, so each word of it matches and the next pair does not; marking
-- writes zeros over a stretch and touches nothing else, and a zero matches nothing.
-- Assumes nothing.
use Prim.Native.Nat.{ℕ, zero, suc, ◌+◌, ◌≤◌, ◌<◌, min}
use native.Mathlib.Nat.{not-suc-le-zero, le_of_suc-le-suc}
use native.Mathlib.Decide.{dec_le, dec_lt}
use native.Mathlib.Omega.{arith}
use mathlib.Core.Path.{◌≡◌, refl, sym, ◌∙◌, ap}
use mathlib.Core.Bool.{true, false}
use mathlib.Core.List.{List, [], ◌∷◌, map}
use lib.ListN.{length, take, get_or, get_or-eq_default}
use Rattle.symbol.specs.Word.{replaced, matches}
use Rattle.symbol.proofs.Word.{call_below}
use Rattle.symbol.proofs.Retired.{no_match_left, no_match_right, match_equal, match_swap}
use Rattle.tiling.specs.Run.{run, mark}
use Rattle.tiling.specs.Demand.{Covers}
use Rattle.tiling.proofs.Leading.{leading_within, leading_passes, leading_stops, leading_most}

-- ---- the word 0
pub zero_left : (w : ℕ) → matches 0 w ≡ false
zero_left w = no_match_left 0 w (call_below 0 (omega arith))

pub zero_right : (w : ℕ) → matches w 0 ≡ false
zero_right w = no_match_right w 0 (call_below 0 (omega arith))

-- So words that match are no zeros.
pub not_zero_left : (a b : ℕ) → matches a b ≡ true → a ≡ 0 → ⊥
not_zero_left a b m z = let f : true ≡ false = sym m ∙ rw z (zero_left b) in let e : ◌≡◌ {A = ℕ} 0 1 = cc in omega arith

pub not_zero_right : (a b : ℕ) → matches a b ≡ true → b ≡ 0 → ⊥
not_zero_right a b m = not_zero_left b a (match_swap a b m)

-- ---- the run of two lists
-- A run stays within both lists.
pub run_within : (ps ts : List ℕ) → run ps ts ≤ min (length ps) (length ts)
run_within = leading_within matches

-- Each pair of words of a run matches, and the pair after it does not (past an end stands 0).
pub run_match : (ps ts : List ℕ) (i : ℕ) → i < run ps ts → matches (get_or ps i 0) (get_or ts i 0) ≡ true
run_match = leading_passes matches

pub run_stops : (ps ts : List ℕ) → matches (get_or ps (run ps ts) 0) (get_or ts (run ps ts) 0) ≡ false
run_stops ps ts = go (dec_lt (run ps ts) (length ps)) (dec_lt (run ps ts) (length ts))
  where
    go : Dec (run ps ts < length ps) → Dec (run ps ts < length ts) → matches (get_or ps (run ps ts) 0) (get_or ts (run ps ts) 0) ≡ false
    go (yes a) (yes b) = leading_stops matches ps ts (omega arith)
    go (no a) b = rw (get_or-eq_default ps 0 {n = run ps ts} (omega (arith, a))) (zero_left (get_or ts (run ps ts) 0))
    go (yes a) (no b) = rw (get_or-eq_default ts 0 {n = run ps ts} (omega (arith, b))) (zero_right (get_or ps (run ps ts) 0))

-- So a stretch in which every pair matches is no longer than the run.
pub run_least : (ps ts : List ℕ) (n : ℕ) → ((i : ℕ) → i < n → matches (get_or ps i 0) (get_or ts i 0) ≡ true) → n ≤ run ps ts
run_least ps ts n h = go (dec_le n (run ps ts))
  where
    go : Dec (n ≤ run ps ts) → n ≤ run ps ts
    go (yes k) = k
    go (no k) = let f : false ≡ true = sym (run_stops ps ts) ∙ h (run ps ts) (omega (arith, k)) in let z : ◌≡◌ {A = ℕ} 0 1 = cc in omega arith

-- It ends where two words do not match, at the latest.
pub run_most : (ps ts : List ℕ) (i : ℕ) → matches (get_or ps i 0) (get_or ts i 0) ≡ false → run ps ts ≤ i
run_most = leading_most matches

-- Words that match one by one are the same once they are replaced.
pub match_words : (ps ts : List ℕ) (n : ℕ) → n ≤ length ps → n ≤ length ts → ((i : ℕ) → i < n → matches (get_or ps i 0) (get_or ts i 0) ≡ true) → map replaced (take n ps) ≡ map replaced (take n ts)
match_words ps ts zero h k m = refl
match_words [] ts (suc n) h k m = absurd (not-suc-le-zero h)
match_words (p ∷ ps) [] (suc n) h k m = absurd (not-suc-le-zero k)
match_words (p ∷ ps) (t ∷ ts) (suc n) h k m =
    let rest = match_words ps ts n (le_of_suc-le-suc h) (le_of_suc-le-suc k) (λ i l. m (suc i) (omega arith)) in
    rw (match_equal p t (m 0 (omega arith)), rest) refl

pub run_words : (ps ts : List ℕ) (n : ℕ) → n ≤ run ps ts → map replaced (take n ps) ≡ map replaced (take n ts)
run_words ps ts n h = match_words ps ts n (omega (arith, run_within ps ts)) (omega (arith, run_within ps ts)) (λ i l. run_match ps ts i (omega arith))

-- ---- marking
pub length_mark : (i n : ℕ) (xs : List ℕ) → length (mark i n xs) ≡ length xs
unfolding mark
length_mark i n [] = refl
length_mark (suc i) n (x ∷ xs) = ap suc (length_mark i n xs)
length_mark zero zero (x ∷ xs) = refl
length_mark zero (suc n) (x ∷ xs) = ap suc (length_mark zero n xs)

-- A word before the stretch, in it, after it, and outside it.
pub mark_before : (i n : ℕ) (xs : List ℕ) (j : ℕ) → j < i → get_or (mark i n xs) j 0 ≡ get_or xs j 0
unfolding mark
mark_before i n [] j h = refl
mark_before zero n (x ∷ xs) j h = absurd (not-suc-le-zero h)
mark_before (suc i) n (x ∷ xs) zero h = refl
mark_before (suc i) n (x ∷ xs) (suc j) h = mark_before i n xs j (le_of_suc-le-suc h)

pub mark_inside : (i n : ℕ) (xs : List ℕ) (j : ℕ) → i ≤ j → j < i + n → get_or (mark i n xs) j 0 ≡ 0
unfolding mark
mark_inside i n [] j h k = refl
mark_inside (suc i) n (x ∷ xs) zero h k = absurd (not-suc-le-zero h)
mark_inside (suc i) n (x ∷ xs) (suc j) h k = mark_inside i n xs j (le_of_suc-le-suc h) (omega arith)
mark_inside zero zero (x ∷ xs) j h k = let z : j < 0 = omega arith in absurd (not-suc-le-zero z)
mark_inside zero (suc n) (x ∷ xs) zero h k = refl
mark_inside zero (suc n) (x ∷ xs) (suc j) h k = mark_inside zero n xs j (omega arith) (omega arith)

pub mark_after : (i n : ℕ) (xs : List ℕ) (j : ℕ) → i + n ≤ j → get_or (mark i n xs) j 0 ≡ get_or xs j 0
unfolding mark
mark_after i n [] j h = refl
mark_after (suc i) n (x ∷ xs) zero h = let z : suc i ≤ 0 = omega arith in absurd (not-suc-le-zero z)
mark_after (suc i) n (x ∷ xs) (suc j) h = mark_after i n xs j (omega arith)
mark_after zero zero (x ∷ xs) j h = refl
mark_after zero (suc n) (x ∷ xs) zero h = let z : suc n ≤ 0 = omega arith in absurd (not-suc-le-zero z)
mark_after zero (suc n) (x ∷ xs) (suc j) h = mark_after zero n xs j (omega arith)

pub mark_outside : (i n : ℕ) (xs : List ℕ) (j : ℕ) → (Covers i n j → ⊥) → get_or (mark i n xs) j 0 ≡ get_or xs j 0
mark_outside i n xs j d = before (dec_lt j i)
  where
    after : Dec (j < i + n) → (j < i → ⊥) → get_or (mark i n xs) j 0 ≡ get_or xs j 0
    after (yes k) l = absurd (d record { least = omega (arith, l); most = k })
    after (no k) l = mark_after i n xs j (omega (arith, k))

    before : Dec (j < i) → get_or (mark i n xs) j 0 ≡ get_or xs j 0
    before (yes k) = mark_before i n xs j k
    before (no k) = after (dec_lt j (i + n)) k

-- So a word after marking that is not 0 is the word that stood there.
pub mark_kept : (i n : ℕ) (xs : List ℕ) (j : ℕ) → (get_or (mark i n xs) j 0 ≡ 0 → ⊥) → get_or (mark i n xs) j 0 ≡ get_or xs j 0
mark_kept i n xs j h = mark_outside i n xs j (λ c. h (mark_inside i n xs j c.least c.most))
