-- What the engine answered for two sequences of at most 2,048 words: workspace and tile buffer suffice, so it is refused for the
-- comparison's other causes alone, and an accepted one has laid tiles that lie in the sequences.
-- Assumes nothing.
use Rattle.std.specs.Prelude.{Ok, Err}
use Prim.Native.Nat.{ℕ, zero, suc, ◌+◌, ◌*◌, ◌/◌, ◌≤◌, min, max}
use native.Mathlib.Nat.{div-le_self}
use native.Mathlib.Omega.{arith}
use mathlib.Core.Path.{◌≡◌, refl, sym, ◌∙◌, ap}
use mathlib.Core.List.{List}
use lib.ListN.{length}
use borrow.Author.Tests.{le-ltb}
use Rattle.refusal.specs.Number.{number}
use Rattle.refusal.specs.declared.Refusal.{Refusal}
use Rattle.refusal.proofs.Causes.{outcome_refused, outcome_accepted}
use Rattle.refusal.proofs.Number.{number_some}
use Rattle.tiling.specs.Each.{Each}
use Rattle.tiling.specs.Comparing.{fast_refusal}
use Rattle.tiling.specs.Listing.{Entry, listing}
use Rattle.tiling.specs.Demand.{Stands, tiles_in}
use Rattle.tiling.specs.Outcome.{compared_as}
use Rattle.tiling.specs.declared.Compared.{Compared}
use Rattle.tiling.specs.declared.Summary.{Summary}
use Rattle.tiling.proofs.Comparing.{comparable}
use Rattle.tiling.proofs.Each.{each_both}
use Rattle.tiling.proofs.Answers.{answers_number, answers_listed, answers_demands}
use Rattle.tiling.proofs.Demand.{tiles_fit}
use Rattle.search.specs.Promise.{Fast}
use Rattle.report.specs.Pair.{refused_line, comparing, pair_lines, from_pair}
use Rattle.report.specs.Written.{Written, Starts, Laid, Searched}

-- The room is never the cause.
room_enough : (first second : List ℕ) (minimum : ℕ) → length first ≤ 2048 → length second ≤ 2048 → fast_refusal first second minimum 256 (max 20 minimum) 16384 6144 ≡ comparing first second minimum
room_enough first second zero f s = refl
room_enough first second (suc m) f s =
    let n = min (length first) (length second) in
    let few : 3 * (n / suc m) ≤ 6144 = omega (arith, div-le_self n (suc m)) in
    rw (le-ltb 16384 (4 * (length first + length second)) (omega arith), le-ltb 6144 (3 * (n / suc m)) few) refl

-- A tile that lies in both sequences and has a word or more starts below their lengths.
starts_below : {first second : List ℕ} {minimum : ℕ} {tiles : List Entry} → length first ≤ 2048 → length second ≤ 2048 → 1 ≤ minimum → Each (Stands first second) tiles → Each (λ e. minimum ≤ e.len) tiles → Each Starts tiles
starts_below f s one = each_both (λ e x y. record { first = omega (arith, x.in_first); second = omega (arith, x.in_second) })

-- ---- the search with the program's settings
module _ {first second : List ℕ} {minimum start : ℕ} {ws b : List ℕ} {a : Compared} {ws' b' : List ℕ} (fast : Fast first second minimum 256 start ws b a ws' b') (f : length first ≤ 2048) (s : length second ≤ 2048) (start_is : start ≡ max 20 minimum) (work : length ws ≡ 16384) (space : length b ≡ 6144) (same : length b' ≡ length b) where
  number_is : a.refusal ≡ comparing first second minimum
  number_is =
      let n : a.refusal ≡ fast_refusal first second minimum 256 start (length ws) (length b) = ap (λ x. x.refusal) fast.answer in
      let m : a.refusal ≡ fast_refusal first second minimum 256 (max 20 minimum) 16384 6144 = rw (start_is, work, space) at n in
      m ∙ room_enough first second minimum f s

  laid : a.refusal ≡ 0 → Laid (length first) (length second) a b'
  laid z =
      let known = comparable first second minimum _ (answers_number fast z) in
      let one = known.least in
      let d = answers_demands fast z known in
      let n = min (length first) (length second) in
      let counted : a.tiles ≡ length (listing first second minimum) = d.tiles ∙ ap length (answers_listed fast z) in
      let few : a.tiles ≤ 2048 = omega (arith, tiles_fit first second minimum one, div-le_self n minimum, counted) in
      record {
        few = few;
        room = omega arith;
        starts = starts_below f s one d.tiled.stands d.tiled.each_long;
        covered = d.covered;
        score = d.score;
      }

  pub searched : Searched first second minimum a b'
  searched = record { refusal = number_is; laid = laid; listed = λ z. answers_listed fast z }

-- ---- what is written
module _ (first second : List ℕ) (minimum i j : ℕ) (tiles o : List ℕ) (r : ℕ) (o' : List ℕ) where
  pub compared_accepted : (s : Summary) → Searched first second minimum (compared_as (Ok s)) tiles → Written (pair_lines i j minimum (length first) (length second) (tiles_in s.tiles tiles)) o r o' → Written (from_pair i j minimum first second) o r o'
  unfolding from_pair
  compared_accepted s e w =
      let text = pair_lines i j minimum (length first) (length second) (listing first second minimum) in
      let w' : Written text o r o' = rw (e.listed refl) at w in
      rw (outcome_accepted (comparing first second minimum) text (refused_line (comparing first second minimum)) (sym e.refusal)) w'

  pub compared_refused : (x : Refusal) → Searched first second minimum (compared_as (Err x)) tiles → Written (refused_line (number x)) o r o' → Written (from_pair i j minimum first second) o r o'
  unfolding from_pair
  compared_refused x e w =
      let text = pair_lines i j minimum (length first) (length second) (listing first second minimum) in
      rw (← e.refusal, outcome_refused (number x) text (refused_line (number x)) (number_some x)) w
