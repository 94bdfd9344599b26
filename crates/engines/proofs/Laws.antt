-- What holds of the answers of either engine. Each promises the one record `Compares` with the number of its refusal, and what it accepts is
-- known to be comparable; so the laws of the tiling hold of the tiles in its buffer, however it is set, and two calls can be held against each
-- other whichever engines made them. The numbers of the refusals differ only by the causes 4 and 5, the search's own settings.
-- Assumes nothing.
use Prim.Native.Nat.{ℕ, ◌+◌, ◌≤◌}
use mathlib.Core.Logic.{inl, inr}
use mathlib.Core.Path.{◌≡◌, refl, sym, ◌∙◌, ap, subst}
use mathlib.Core.Bool.{Bool, true, false, not}
use mathlib.Core.List.{List}
use lib.Dec.{eqb, ltb}
use lib.ListN.{length}
use Rattle.symbol.specs.Sequence.{all_sound, too_long}
use Rattle.refusal.specs.Refusal.{refuse}
use Rattle.tiling.specs.Each.{Each}
use Rattle.tiling.specs.Greedy.{Begins}
use Rattle.tiling.specs.Comparing.{sequences, minimums, room, plain_refusal, fast_refusal, Comparable, Roomy}
use Rattle.tiling.specs.Listing.{outside_listing}
use Rattle.tiling.specs.Answer.{Compares}
use Rattle.tiling.specs.Demand.{long, tiles_of, EqualStarts, Demands, Exchanges}
use Rattle.tiling.specs.declared.Compared.{Compared}
use Rattle.tiling.proofs.Comparing.{comparable, search_in_range, in_range_passes, plain_accepts, fast_passes, comparable_exchange, plain_refusal_exchange, fast_checks_exchange}
use Rattle.tiling.proofs.Demand.{covered_falls, score_falls}
use Rattle.tiling.proofs.Answers.{answers_number, answers_covered, answers_demands, answers_outside, answers_equal, answers_exchange, answers_begin}
use Rattle.plain.specs.Promise.{Plain}
use Rattle.search.specs.Promise.{Fast}
use Rattle.engines.specs.Engine.{Engine, plain, fast, Promise, refusal_by, OwnRefusal, SetFor}
use Rattle.engines.specs.Equal.{Equal}

-- ---- the promise of an engine is its contract
pub plain_promise : {first second : List ℕ} {minimum : ℕ} {ws b : List ℕ} {a : Compared} {ws' b' : List ℕ} → Plain first second minimum ws b a ws' b' → Promise plain first second minimum ws b a ws' b'
plain_promise c = c

pub fast_promise : {first second : List ℕ} {minimum : ℕ} (buckets start : ℕ) {ws b : List ℕ} {a : Compared} {ws' b' : List ℕ} → Fast first second minimum buckets start ws b a ws' b' → Promise (fast buckets start) first second minimum ws b a ws' b'
fast_promise buckets start c = c

-- ---- an engine's refusals
-- What it accepts can be compared; and what can be compared it accepts, where there is room and its settings are in range.
number_comparable : (e : Engine) (first second : List ℕ) (minimum workspace tiles : ℕ) → refusal_by e first second minimum workspace tiles ≡ 0 → Comparable first second minimum
number_comparable plain first second minimum workspace tiles z = comparable first second minimum _ z
number_comparable (fast buckets start) first second minimum workspace tiles z = comparable first second minimum _ z

accepts : (e : Engine) (first second : List ℕ) (minimum workspace tiles : ℕ) → Comparable first second minimum → Roomy (length first) (length second) minimum workspace tiles → SetFor e minimum → refusal_by e first second minimum workspace tiles ≡ 0
accepts plain first second minimum workspace tiles c r s = plain_accepts first second minimum workspace tiles c r
accepts (fast buckets start) first second minimum workspace tiles c r s = fast_passes first second minimum workspace tiles c r buckets start 0 s

set_known : (e : Engine) (first second : List ℕ) (minimum workspace tiles : ℕ) → refusal_by e first second minimum workspace tiles ≡ 0 → SetFor e minimum
set_known plain first second minimum workspace tiles z = tt
set_known (fast buckets start) first second minimum workspace tiles z = search_in_range first second minimum buckets start _ z

refusal_exchange : (e : Engine) (first second : List ℕ) (minimum workspace tiles : ℕ) → refusal_by e first second minimum workspace tiles ≡ refusal_by e second first minimum workspace tiles
refusal_exchange plain first second minimum workspace tiles = plain_refusal_exchange first second minimum workspace tiles
refusal_exchange (fast buckets start) first second minimum workspace tiles = fast_checks_exchange first second minimum buckets start workspace tiles 0

-- ---- an accepted call
module _ (e : Engine) {first second : List ℕ} {minimum : ℕ} {ws b : List ℕ} {a : Compared} {ws' b' : List ℕ} (c : Promise e first second minimum ws b a ws' b') (accepted : a.refusal ≡ 0) where
  number : refusal_by e first second minimum (length ws) (length b) ≡ 0
  number = answers_number c accepted

  -- The sequences can be compared at this minimum.
  pub accepted_comparable : Comparable first second minimum
  accepted_comparable = number_comparable e first second minimum (length ws) (length b) number

  -- All that demand 3 and 01 say of the answer and of the tiles listed.
  pub engine_demands : Demands first second minimum a b'
  engine_demands = answers_demands c accepted accepted_comparable

  -- The tiles are those of an outside comparison, which knows no retired code, of the words replaced beforehand, except for the choice of
  -- pattern.
  pub engine_outside : tiles_of a b' ≡ outside_listing first second minimum
  engine_outside = answers_outside c accepted

-- A sequence with itself, handed in twice: each tile has equal starts.
pub engine_equal_starts : (e : Engine) {s : List ℕ} {minimum : ℕ} {ws b : List ℕ} {a : Compared} {ws' b' : List ℕ} → Promise e s s minimum ws b a ws' b' → Each EqualStarts (tiles_of a b')
engine_equal_starts e c = answers_equal c

-- ---- two calls on equal input, by any two engines
-- A record that gives everything outright has one solution.
only : {r r' : ℕ} {first second : List ℕ} {minimum : ℕ} {ws b : List ℕ} {a a' : Compared} {ws' b' ws₁ b₁ : List ℕ} → r' ≡ r → Compares r first second minimum ws b a ws' b' → Compares r' first second minimum ws b a' ws₁ b₁ → Equal a ws' b' a' ws₁ b₁
only {first = first} {second = second} {minimum = minimum} {ws = ws} {b = b} {a' = a'} {ws₁ = ws₁} {b₁ = b₁} e c c' =
    let d = subst (λ n. Compares n first second minimum ws b a' ws₁ b₁) e c' in
    record { answer = c.answer ∙ sym d.answer; workspace = c.workspace ∙ sym d.workspace; tiles = c.tiles ∙ sym d.tiles }

-- Two numbers that are equal, unless the first is a refusal of the search's settings.
abbrev Agree : ℕ → ℕ → Type 0
Agree x y = (x ≡ 4 → ⊥) → (x ≡ 5 → ⊥) → x ≡ y

-- A cause of both engines, asked before numbers that agree; and causes of the search alone.
agree_both : (t : Bool) (n : ℕ) {x y : ℕ} → Agree x y → Agree (refuse t n x) (refuse t n y)
agree_both true n h = λ four five. refl
agree_both false n h = h

agree_four : (t : Bool) {x y : ℕ} → Agree x y → Agree (refuse t 4 x) y
agree_four true h = λ four five. absurd (four refl)
agree_four false h = h

agree_five : (t : Bool) {x y : ℕ} → Agree x y → Agree (refuse t 5 x) y
agree_five true h = λ four five. absurd (five refl)
agree_five false h = h

refusals_agree : (first second : List ℕ) (minimum buckets start workspace tiles : ℕ) → Agree (fast_refusal first second minimum buckets start workspace tiles) (plain_refusal first second minimum workspace tiles)
refusals_agree first second minimum buckets start workspace tiles =
    agree_both (too_long first) 1
    (agree_both (too_long second) 1
    (agree_both (not (all_sound first)) 2
    (agree_both (not (all_sound second)) 2
    (agree_both (eqb minimum 0) 3
    (agree_both (ltb 256 minimum) 3
    (agree_four (eqb buckets 0)
    (agree_four (ltb 1024 buckets)
    (agree_five (ltb start minimum)
    (agree_five (ltb 2048 start) (λ four five. refl))))))))))

-- So the number of any engine is the plain engine's, where it does not refuse its own settings.
plain_number : (e : Engine) (first second : List ℕ) (minimum workspace tiles n : ℕ) → n ≡ refusal_by e first second minimum workspace tiles → (OwnRefusal e n → ⊥) → refusal_by e first second minimum workspace tiles ≡ plain_refusal first second minimum workspace tiles
plain_number plain first second minimum workspace tiles n k own = refl
plain_number (fast buckets start) first second minimum workspace tiles n k own =
    refusals_agree first second minimum buckets start workspace tiles (λ d. own (inl (k ∙ d))) (λ d. own (inr (k ∙ d)))

number_of : (e : Engine) {first second : List ℕ} {minimum : ℕ} {ws b : List ℕ} {a : Compared} {ws' b' : List ℕ} → Promise e first second minimum ws b a ws' b' → (OwnRefusal e a.refusal → ⊥) → refusal_by e first second minimum (length ws) (length b) ≡ plain_refusal first second minimum (length ws) (length b)
number_of e {first} {second} {minimum} {ws} {b} {a} c own = plain_number e first second minimum (length ws) (length b) a.refusal (ap (λ x. x.refusal) c.answer) own

-- With settings in range the number is that of the plain engine.
set_number : (e : Engine) (first second : List ℕ) (minimum workspace tiles : ℕ) → SetFor e minimum → refusal_by e first second minimum workspace tiles ≡ plain_refusal first second minimum workspace tiles
set_number plain first second minimum workspace tiles s = refl
set_number (fast buckets start) first second minimum workspace tiles s =
    ap (λ k. sequences first second (minimums minimum k)) (in_range_passes minimum buckets start (room (length first) (length second) minimum workspace tiles 0) s)

module _ (e e' : Engine) {first second : List ℕ} {minimum : ℕ} {ws b : List ℕ} {a a' : Compared} {ws' b' ws₁ b₁ : List ℕ} (c : Promise e first second minimum ws b a ws' b') (c' : Promise e' first second minimum ws b a' ws₁ b₁) where
  -- Accepted, or refused for any other cause than an engine's own settings: the two calls cannot be told apart.
  pub engines_equal : (OwnRefusal e a.refusal → ⊥) → (OwnRefusal e' a'.refusal → ⊥) → Equal a ws' b' a' ws₁ b₁
  engines_equal own own' = only (number_of e' c' own' ∙ sym (number_of e c own)) c c'

  -- Settings in range are never the cause, so there the two cannot be told apart, accepted or refused.
  pub in_range_equal : SetFor e minimum → SetFor e' minimum → Equal a ws' b' a' ws₁ b₁
  in_range_equal s s' =
      only (set_number e' first second minimum (length ws) (length b) s' ∙ sym (set_number e first second minimum (length ws) (length b) s)) c c'

  -- What one engine accepts any engine accepts whose settings are in range, with equal answers and equal words.
  pub accepted_equal : a.refusal ≡ 0 → SetFor e' minimum → Equal a ws' b' a' ws₁ b₁
  accepted_equal z = in_range_equal (set_known e first second minimum (length ws) (length b) (number e c z))

-- ---- the sequences exchanged
module _ (e e' : Engine) {first second : List ℕ} {minimum : ℕ} {ws b ws₁ b₁ : List ℕ} {a a' : Compared} {ws' b' ws₁' b₁' : List ℕ} (c : Promise e first second minimum ws b a ws' b') (c' : Promise e' second first minimum ws₁ b₁ a' ws₁' b₁') where
  -- What one engine accepts any engine accepts exchanged, wherever it has room and its settings are in range; and it only has the sides of each
  -- tile exchanged.
  pub engines_exchange : a.refusal ≡ 0 → SetFor e' minimum → Roomy (length second) (length first) minimum (length ws₁) (length b₁) → Exchanges a b' a' b₁'
  engines_exchange z s r =
      answers_exchange c c'
      (accepts e' second first minimum (length ws₁) (length b₁) (comparable_exchange (accepted_comparable e c z)) r s ∙ sym (number e c z))

-- The same engine with the same settings, and a workspace and a tile buffer of the same sizes, refuses for the same cause, too.
pub exchange_alike : (e : Engine) {first second : List ℕ} {minimum : ℕ} {ws b ws₁ b₁ : List ℕ} {a a' : Compared} {ws' b' ws₁' b₁' : List ℕ} → Promise e first second minimum ws b a ws' b' → Promise e second first minimum ws₁ b₁ a' ws₁' b₁' → length ws₁ ≡ length ws → length b₁ ≡ length b → Exchanges a b' a' b₁'
exchange_alike e {first} {second} {minimum} {ws} {b} c c' w t =
    answers_exchange c c' (rw (w, t) (refusal_exchange e second first minimum (length ws) (length b)))

-- ---- a greater minimum
-- "the tiles at a greater minimum are exactly the first tiles at a smaller one, down to the last tile long enough", whichever engines laid them.
pub engines_begin : (e e' : Engine) {first second : List ℕ} {minimum longer : ℕ} {ws b ws₁ b₁ : List ℕ} {a a' : Compared} {ws' b' ws₁' b₁' : List ℕ} → Promise e first second minimum ws b a ws' b' → Promise e' first second longer ws₁ b₁ a' ws₁' b₁' → a.refusal ≡ 0 → a'.refusal ≡ 0 → minimum ≤ longer → Begins long longer (tiles_of a' b₁') (tiles_of a b')
engines_begin e e' c c' z z' h = answers_begin c c' z z' (accepted_comparable e c z).least h

-- So neither covered nor the score rises with the minimum.
module _ (e e' : Engine) {first second : List ℕ} {minimum longer : ℕ} {ws b ws₁ b₁ : List ℕ} {a a' : Compared} {ws' b' ws₁' b₁' : List ℕ} (c : Promise e first second minimum ws b a ws' b') (c' : Promise e' first second longer ws₁ b₁ a' ws₁' b₁') (z : a.refusal ≡ 0) (z' : a'.refusal ≡ 0) (h : minimum ≤ longer) where
  pub engines_covered_falls : a'.covered ≤ a.covered
  engines_covered_falls =
      rw (answers_covered c z, answers_covered c' z') (covered_falls first second minimum longer (accepted_comparable e c z).least h)

  pub engines_score_falls : a'.score ≤ a.score
  engines_score_falls =
      rw ((engine_demands e c z).score, (engine_demands e' c' z').score) (score_falls a'.covered a.covered (length first + length second) engines_covered_falls)
