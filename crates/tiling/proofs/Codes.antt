-- Calls counted code by code, by replaced codes. The tiles take the same calls from both sequences; a code of which a call is left on both sides is a run
-- of length 1; so at minimum 1 the tiles take the smaller number of each code, and all codes together are all words that they take.
-- Assumes nothing.
use Prim.Native.Nat.{ℕ, zero, suc, ◌+◌, ◌≤◌, ◌<◌, ◌^◌, min}
use native.Mathlib.Decide.{dec_le}
use native.Mathlib.Omega.{arith}
use mathlib.Core.Path.{◌≡◌, refl, sym, ◌∙◌}
use mathlib.Core.Bool.{Bool, true, false, ◌&&◌, and-true, and-false}
use mathlib.Core.List.{List, map}
use borrow.Author.Tests.{eq-eqb, eqb-true, lt-ltb, le-ltb, ne_eqb}
use lib.Dec.{eqb, ltb}
use lib.ListN.{drop, get_or}
use lib.Seq.{get_or-drop}
use Rattle.symbol.specs.Word.{is_call, code, replaced, equal_calls, matches}
use Rattle.symbol.proofs.Word.{and_both, and_left, and_right}
use Rattle.symbol.proofs.Retired.{replaced_twice, call_replaced}
use Rattle.tiling.specs.Tally.{one, tally}
use Rattle.tiling.specs.Greedy.{after}
use Rattle.tiling.specs.Tiling.{State, run_at, lay, tiling}
use Rattle.tiling.specs.Listing.{straight, covered}
use Rattle.tiling.specs.Demand.{is_call_with, calls_with, smaller_counts}
use Rattle.tiling.proofs.Run.{run_least}
use Rattle.tiling.proofs.Tally.{Passes, tally_some, tally_none, tally_same, tally_add}
use Rattle.tiling.proofs.Tiling.{zero_no_call}
use Rattle.tiling.proofs.Left.{tiling_complete, tiling_takes}

-- ---- the sum over the codes
pub smaller_same : (f s f' s' : List ℕ) → ((c : ℕ) → min (calls_with c f) (calls_with c s) ≡ min (calls_with c f') (calls_with c s')) → (n : ℕ) → smaller_counts n f s ≡ smaller_counts n f' s'
unfolding smaller_counts
smaller_same f s f' s' h zero = refl
smaller_same f s f' s' h (suc n) = rw (h n, smaller_same f s f' s' h n) refl

-- A sequence with itself: all calls with a code below n.
abbrev below : ℕ → ℕ → Bool
below n w = is_call w && ltb (code (replaced w)) n

one_more : (n c : ℕ) (b : Bool) → one (b && eqb c n) + one (b && ltb c n) ≡ one (b && ltb c (suc n))
one_more n c false = refl
one_more n c true = low (dec_le c n) (dec_le n c)
  where
    low : Dec (c ≤ n) → Dec (n ≤ c) → one (eqb c n) + one (ltb c n) ≡ one (ltb c (suc n))
    low (yes h) (yes k) = rw (eq-eqb c n (omega (arith, h, k)), le-ltb c n k, lt-ltb c (suc n) (omega (arith, h))) refl
    low (yes h) (no k) = rw (ne_eqb c n (λ e. k (omega (arith, e))), lt-ltb c n (omega (arith, k)), lt-ltb c (suc n) (omega (arith, h))) refl
    low (no h) k = rw (ne_eqb c n (λ e. h (omega (arith, e))), le-ltb c n (omega (arith, h)), le-ltb c (suc n) (omega (arith, h))) refl

calls_below : (n : ℕ) (ws : List ℕ) → smaller_counts n ws ws ≡ tally (below n) ws
unfolding smaller_counts
calls_below zero ws = sym (tally_none (λ w. rw (le-ltb (code (replaced w)) 0 (omega arith)) (and-false (is_call w))) ws)
calls_below (suc n) ws = omega (arith, calls_below n ws, tally_add (is_call_with n) (below n) (below (suc n)) (λ w. one_more n (code (replaced w)) (is_call w)) ws)

all_calls : (n : ℕ) → ((w : ℕ) → code w < n) → (ws : List ℕ) → smaller_counts n ws ws ≡ tally is_call ws
all_calls n h ws = calls_below n ws ∙ tally_same (λ w. rw (lt-ltb (code (replaced w)) n (h (replaced w))) (and-true (is_call w))) ws

-- ---- no code is left on both sides where no run is left
same_code : (c a b : ℕ) → is_call_with c a ≡ true → is_call_with c b ≡ true → matches a b ≡ true
unfolding matches equal_calls
same_code c a b x y =
    let e : code (replaced a) ≡ code (replaced b) = eqb-true _ _ (and_right (is_call a) _ x) ∙ sym (eqb-true _ _ (and_right (is_call b) _ y)) in
    and_both
    (and_both (call_replaced a ∙ and_left (is_call a) _ x) (call_replaced b ∙ and_left (is_call b) _ y))
    (eq-eqb (code (replaced a)) (code (replaced b)) e)

-- Counting goes by replaced words, as matching does.
pub with_replaced : (c w : ℕ) → is_call_with c (replaced w) ≡ is_call_with c w
with_replaced c w = rw (replaced_twice w, call_replaced w) refl

module _ (s : State) (no_run : (p t : ℕ) → run_at s p t < 1) (c : ℕ) where
  clash : Passes (is_call_with c) s.pattern → Passes (is_call_with c) s.text → ⊥
  clash x y =
      let i = x.position in
      let j = y.position in
      let a = get_or s.pattern i 0 in
      let b = get_or s.text j 0 in
      let m : matches a b ≡ true = same_code c a b x.passes y.passes in
      let l = run_least (drop i s.pattern) (drop j s.text) 1 (λ z h.
      let f : i + z ≡ i = omega arith in
      let g : j + z ≡ j = omega arith in
      rw (get_or-drop i s.pattern z 0, get_or-drop j s.text z 0, f, g) m) in
      omega (arith, l, no_run i j)

  none_left : min (calls_with c s.pattern) (calls_with c s.text) ≡ 0
  none_left = go (dec_le 1 (calls_with c s.pattern)) (dec_le 1 (calls_with c s.text))
    where
      go : Dec (1 ≤ calls_with c s.pattern) → Dec (1 ≤ calls_with c s.text) → min (calls_with c s.pattern) (calls_with c s.text) ≡ 0
      go (yes h) (yes k) = absurd (clash (tally_some (is_call_with c) s.pattern h) (tally_some (is_call_with c) s.text k))
      go (yes h) (no k) = omega (arith, k)
      go (no h) k = omega (arith, h)

-- ---- at minimum 1
pub at_one : (n : ℕ) → ((w : ℕ) → code w < n) → (s : State) → covered (map straight (tiling 1 s)) ≡ smaller_counts n s.pattern s.text
at_one n h s =
    let r = tiling_takes 1 (omega arith) s in
    let l = after lay s (tiling 1 s) in
    sym r.whole ∙ (sym (all_calls n h r.words) ∙
    smaller_same r.words r.words s.pattern s.text
    (λ c.
    let z : is_call_with c 0 ≡ false = rw zero_no_call refl in
    omega (arith, r.from_pattern (is_call_with c) z, r.from_text (is_call_with c) z (with_replaced c), none_left l (tiling_complete 1 (omega arith) s) c))
    n)

pub code_below : (w : ℕ) → code w < 2 ^ 16
unfolding code
code_below w = omega arith
