-- The tiles that tell are a beginning of the listing, and equally many whichever sequence is handed in first: pattern and text are the same.
-- Assumes nothing.
use Prim.Native.Nat.{ℕ, ◌+◌, ◌≤◌}
use native.Mathlib.Omega.{arith}
use mathlib.Core.Logic.{◌⊎◌, inl, inr}
use mathlib.Core.Path.{◌≡◌, refl, sym, ◌∙◌, ap}
use mathlib.Core.Bool.{Bool, true, false, not}
use mathlib.Core.List.{List}
use lib.Dec.{leb}
use lib.ListN.{length, length-append, length-map}
use Rattle.tiling.specs.Tiling.{start, size, on_pattern, tiling}
use Rattle.tiling.specs.Choice.{first_is_pattern, pattern_of, text_of}
use Rattle.tiling.specs.Listing.{start_on_pattern, listing}
use Rattle.tiling.specs.Until.{unlaid, until}
use Rattle.tiling.proofs.Choice.{pattern_turn}
use Rattle.tiling.proofs.Demand.{exchange_score}
use Rattle.tiling.proofs.Until.{until_begins}
use Rattle.tile.specs.Listed.{listed}
use Rattle.ends.proofs.Ending.{first_listed_is}
use Rattle.threshold.specs.Promise.{told, told_tiles, is_reached}

-- ---- a beginning of the listing
pub told_within : (first second : List ℕ) (minimum threshold : ℕ) → length (told_tiles first second minimum threshold) ≤ length (listing first second minimum)
told_within first second minimum threshold =
    let b = until_begins (start_on_pattern (first_is_pattern first second)) (λ e. e.len) (told threshold (length first + length second) minimum) (unlaid (pattern_of first second)) (listing first second minimum) in
    omega (arith, ap length b.whole, length-append (told_tiles first second minimum threshold) b.rest)

-- ---- exchanging the sequences
-- What is chosen of two sequences by which is the pattern, so that exchanging both changes nothing, is the same.
same_side : (side : Bool → List ℕ → List ℕ → List ℕ) → ((t : Bool) (xs ys : List ℕ) → side (not t) ys xs ≡ side t xs ys) → (first second : List ℕ) → side (first_is_pattern second first) second first ≡ side (first_is_pattern first second) first second
same_side side turned first second = go (pattern_turn first second)
  where
    go : (first_is_pattern second first ≡ not (first_is_pattern first second)) ⊎ (first ≡ second) → side (first_is_pattern second first) second first ≡ side (first_is_pattern first second) first second
    go (inl e) = ap (λ t. side t second first) e ∙ turned (first_is_pattern first second) first second
    go (inr e) = rw e refl

same_pattern : (first second : List ℕ) → pattern_of second first ≡ pattern_of first second
unfolding pattern_of
same_pattern = same_side (λ t xs ys. elim t [ true ↦ xs | false ↦ ys ]) turned
  where
    turned : (t : Bool) (xs ys : List ℕ) → ◌≡◌ {A = List ℕ} (elim (not t) [ true ↦ ys | false ↦ xs ]) (elim t [ true ↦ xs | false ↦ ys ])
    turned true xs ys = refl
    turned false xs ys = refl

same_text : (first second : List ℕ) → text_of second first ≡ text_of first second
unfolding text_of
same_text = same_side (λ t xs ys. elim t [ true ↦ ys | false ↦ xs ]) turned
  where
    turned : (t : Bool) (xs ys : List ℕ) → ◌≡◌ {A = List ℕ} (elim (not t) [ true ↦ xs | false ↦ ys ]) (elim t [ true ↦ ys | false ↦ xs ])
    turned true xs ys = refl
    turned false xs ys = refl

-- How many tell, by pattern and text alone.
counted : (first second : List ℕ) (minimum threshold : ℕ) → length (told_tiles first second minimum threshold) ≡ length (until on_pattern size (told threshold (length first + length second) minimum) (unlaid (pattern_of first second)) (tiling minimum (start (pattern_of first second) (text_of first second))))
counted first second minimum threshold =
    let stop = told threshold (length first + length second) minimum in
    let laid = until on_pattern size stop (unlaid (pattern_of first second)) (tiling minimum (start (pattern_of first second) (text_of first second))) in
    ap length (first_listed_is stop first second minimum) ∙ length-map laid (listed (first_is_pattern first second))

pub told_exchange : (first second : List ℕ) (minimum threshold : ℕ) → length (told_tiles second first minimum threshold) ≡ length (told_tiles first second minimum threshold)
told_exchange first second minimum threshold =
    let total : length second + length first ≡ length first + length second = omega arith in
    counted second first minimum threshold
    ∙ (ap (λ n. length (until on_pattern size (told threshold n minimum) (unlaid (pattern_of second first)) (tiling minimum (start (pattern_of second first) (text_of second first))))) total
    ∙ (ap (λ p. length (until on_pattern size (told threshold (length first + length second) minimum) (unlaid p) (tiling minimum (start p (text_of second first))))) (same_pattern first second)
    ∙ (ap (λ t. length (until on_pattern size (told threshold (length first + length second) minimum) (unlaid (pattern_of first second)) (tiling minimum (start (pattern_of first second) t)))) (same_text first second)
    ∙ sym (counted first second minimum threshold))))

pub reached_exchange : (first second : List ℕ) (minimum threshold : ℕ) → is_reached second first minimum threshold ≡ is_reached first second minimum threshold
reached_exchange first second minimum threshold = ap (leb threshold) (exchange_score first second minimum)
