-- Numbers after spaces, one after another, and what stands before and after them in a line.
-- Assumes nothing.
use Prim.Native.Nat.{ℕ, ◌+◌, ◌*◌, ◌≤◌, ◌<◌}
use native.Mathlib.Omega.{arith}
use native.Mathlib.Numerals.{add-one}
use mathlib.Core.Path.{◌≡◌, refl, ◌∙◌}
use mathlib.Core.List.{List, [], ◌∷◌, ◌++◌, append_assoc, append-nil}
use lib.ListN.{length, take, get_or}
use lib.Seq.{take-suc}
use Rattle.lines.specs.Text.{ascii, decimal, spaced}
use Rattle.lines.specs.Appended.{Appended}
use Rattle.lines.proofs.Appended.{both, nothing}

pub spaced_append : (ms ns : List ℕ) → spaced (ms ++ ns) ≡ spaced ms ++ spaced ns
unfolding spaced
spaced_append [] ns = refl
spaced_append (m ∷ ms) ns =
    rw (spaced_append ms ns, append_assoc (ascii " ") (decimal m ++ spaced ms) (spaced ns), append_assoc (decimal m) (spaced ms) (spaced ns)) refl

pub spaced_one : (n at at₁ at₂ : ℕ) (b b₁ b₂ : List ℕ) → Appended 1 (32 ∷ []) at b at₁ b₁ → Appended 10 (decimal n) at₁ b₁ at₂ b₂ → Appended 11 (spaced (n ∷ [])) at b at₂ b₂
unfolding spaced ascii
spaced_one n at at₁ at₂ b b₁ b₂ p q = rw (append-nil (decimal n)) (both p q)

-- ---- the loop of spaced_numbers: the first i numbers are written
pub record Spaced (numbers : List ℕ) (at : ℕ) (b₀ : List ℕ) (end : ℕ) (b : List ℕ) (i : ℕ) : Type 0 where
  pub within : i ≤ length numbers
  pub room : at + 11 * length numbers ≤ length b₀
  pub held : Appended (11 * i) (spaced (take i numbers)) at b₀ end b
  pub same : length b ≡ length b₀
  pub next : end ≤ at + 11 * i

pub spaced_none : (numbers b : List ℕ) (at : ℕ) → at + 11 * length numbers ≤ length b → Spaced numbers at b at b 0
unfolding spaced
spaced_none [] b at h = record { within = omega arith; room = h; held = nothing at b (omega arith); same = refl; next = omega arith }
spaced_none (n ∷ numbers) b at h = record { within = omega arith; room = h; held = nothing at b (omega arith); same = refl; next = omega arith }

pub spaced_more : (numbers b₀ b b' : List ℕ) (at end end' i : ℕ) → Spaced numbers at b₀ end b i → i < length numbers → Appended 11 (spaced (get_or numbers i 0 ∷ [])) end b end' b' → length b' ≡ length b → Spaced numbers at b₀ end' b' (i + 1)
spaced_more numbers b₀ b b' at end end' i r h a k =
    let e : spaced (take (i + 1) numbers) ≡ spaced (take i numbers) ++ spaced (get_or numbers i 0 ∷ []) =
    rw (add-one i, take-suc numbers i 0 h) (spaced_append (take i numbers) (get_or numbers i 0 ∷ [])) in
    let m : 11 * (i + 1) ≡ 11 * i + 11 = omega arith in
    record {
      within = omega arith;
      room = r.room;
      held = rw (e, m) (both r.held a);
      same = k ∙ r.same;
      next = omega (arith, a.next, a.few, r.next);
    }
