-- What holds of the answers of the service that is asked for a threshold: yes exactly when either engine's score is at least that, after no more
-- tiles than the engine lays; and the same whichever sequence is handed in first and however the search is set.
-- Assumes nothing.
use Prim.Native.Nat.{ℕ, ◌+◌, ◌*◌, ◌≤◌}
use native.Mathlib.Omega.{arith}
use mathlib.Core.Path.{◌≡◌, refl, sym, ◌∙◌, ap, subst}
use mathlib.Core.List.{List}
use borrow.Author.Tests.{le-leb, le-ltb, leb-true}
use mathlib.Core.Bool.{Bool, true, false}
use lib.Dec.{leb}
use lib.ListN.{length}
use Rattle.tiling.specs.Tally.{one}
use Rattle.tiling.specs.Comparing.{Comparable, InRange}
use Rattle.tiling.specs.Listing.{listing, covered, score}
use Rattle.tiling.specs.declared.Compared.{Compared}
use Rattle.tiling.proofs.Comparing.{comparable, comparable_exchange, search_passes}
use Rattle.tiling.proofs.Answers.{answers_covered, answers_listed}
use Rattle.threshold.specs.Promise.{is_reached, told_tiles, told_answer, threshold_refusal, AtLeast}
use Rattle.threshold.specs.declared.Told.{Told}
use Rattle.threshold.proofs.Refusal.{accepted_threshold}
use Rattle.threshold.proofs.Exchange.{told_within, told_exchange, reached_exchange}
use Rattle.engines.specs.Engine.{Engine, Promise}
use Rattle.engines.specs.Threshold.{ThresholdExchanges}
use Rattle.engines.proofs.Laws.{engine_demands}

module _ {first second : List ℕ} {minimum : ℕ} (buckets start : ℕ) {threshold : ℕ} {ws : List ℕ} {a : Told} {ws' : List ℕ} (c : AtLeast first second minimum buckets start threshold ws a ws') (z : a.refusal ≡ 0) where
  number : threshold_refusal first second minimum buckets start threshold (length ws) ≡ 0
  number = sym (ap (λ x. x.refusal) c.answer) ∙ z

  answer_is : a ≡ told_answer 0 first second minimum threshold
  answer_is = subst (λ n. a ≡ told_answer n first second minimum threshold) number c.answer

  can : Comparable first second minimum
  can = comparable first second minimum _ number

  low : threshold ≤ 1000
  low = accepted_threshold first second minimum buckets start threshold (length ws) number

  pub threshold_reached : a.reached ≡ one (is_reached first second minimum threshold)
  threshold_reached = ap (λ x. x.reached) answer_is

  pub threshold_tiles : a.tiles ≡ length (told_tiles first second minimum threshold)
  threshold_tiles = ap (λ x. x.tiles) answer_is

  -- "say yes exactly when the full comparison's score is at least the line", whichever engine makes that comparison, however it is set.
  pub threshold_engine : (e : Engine) {ws₁ b₁ : List ℕ} {a₁ : Compared} {ws₁' b₁' : List ℕ} → Promise e first second minimum ws₁ b₁ a₁ ws₁' b₁' → a₁.refusal ≡ 0 → a.reached ≡ one (leb threshold a₁.score)
  threshold_engine e {a₁ = a₁} c₁ z₁ =
      let s : a₁.score ≡ score (covered (listing first second minimum)) (length first + length second) =
      (engine_demands e c₁ z₁).score ∙ ap (λ n. score n (length first + length second)) (answers_covered c₁ z₁) in
      threshold_reached ∙ ap (λ n. one (leb threshold n)) (sym s)

  -- The tiles laid are no more than that comparison's: they are its first.
  pub threshold_within : (e : Engine) {ws₁ b₁ : List ℕ} {a₁ : Compared} {ws₁' b₁' : List ℕ} → Promise e first second minimum ws₁ b₁ a₁ ws₁' b₁' → a₁.refusal ≡ 0 → a.tiles ≤ a₁.tiles
  threshold_within e c₁ z₁ =
      omega (arith, threshold_tiles, told_within first second minimum threshold, (engine_demands e c₁ z₁).tiles, ap length (answers_listed c₁ z₁))

-- Yes at a threshold is yes at every lower one.
yes_lower : (s t t' : ℕ) → t' ≤ t → one (leb t s) ≡ 1 → one (leb t' s) ≡ 1
yes_lower s t t' h e = go (leb t s) refl
  where
    go : (b : Bool) → leb t s ≡ b → one (leb t' s) ≡ 1
    go true k = rw (le-leb t' s (omega (arith, leb-true t s k))) refl
    go false k = let f : one (leb t s) ≡ 0 = ap one k in absurd (omega (arith, e, f))

pub threshold_lower : {first second : List ℕ} {minimum : ℕ} (buckets buckets' start start' : ℕ) {threshold threshold' : ℕ} {ws ws₁ : List ℕ} {a a' : Told} {ws' ws₁' : List ℕ} → AtLeast first second minimum buckets start threshold ws a ws' → AtLeast first second minimum buckets' start' threshold' ws₁ a' ws₁' → a.refusal ≡ 0 → a'.refusal ≡ 0 → threshold' ≤ threshold → a.reached ≡ 1 → a'.reached ≡ 1
threshold_lower {first} {second} {minimum} buckets buckets' start start' {threshold} {threshold'} c c' z z' h e =
    threshold_reached buckets' start' c' z'
    ∙ yes_lower (score (covered (listing first second minimum)) (length first + length second)) threshold threshold' h (sym (threshold_reached buckets start c z) ∙ e)

-- With the sequences exchanged: the call is accepted wherever there is room and its settings are in range, and its answer is the same.
pub threshold_exchange : {first second : List ℕ} {minimum : ℕ} (buckets buckets' start start' : ℕ) {threshold : ℕ} {ws ws₁ : List ℕ} {a a' : Told} {ws' ws₁' : List ℕ} → AtLeast first second minimum buckets start threshold ws a ws' → AtLeast second first minimum buckets' start' threshold ws₁ a' ws₁' → a.refusal ≡ 0 → InRange minimum buckets' start' → 4 * (length second + length first) ≤ length ws₁ → ThresholdExchanges a a'
threshold_exchange {first} {second} {minimum} buckets buckets' start start' {threshold} {ws₁ = ws₁} {a' = a'} c c' z i room =
    let n : threshold_refusal second first minimum buckets' start' threshold (length ws₁) ≡ 0 =
    search_passes second first minimum buckets' start' _ (comparable_exchange (can buckets start c z)) i
    ∙ (rw (le-ltb (length ws₁) (4 * (length second + length first)) room, le-ltb 1000 threshold (low buckets start c z)) refl) in
    let z' : a'.refusal ≡ 0 = ap (λ x. x.refusal) c'.answer ∙ n in
    record {
      refusal = z' ∙ sym z;
      reached = threshold_reached buckets' start' c' z' ∙ (ap one (reached_exchange first second minimum threshold) ∙ sym (threshold_reached buckets start c z));
      tiles = threshold_tiles buckets' start' c' z' ∙ (told_exchange first second minimum threshold ∙ sym (threshold_tiles buckets start c z));
    }
