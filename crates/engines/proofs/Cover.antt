-- What holds of the answers of the service that covers at every minimum. Accepted, it is a call of the fast engine at minimum 1, so that all
-- laws of the engines hold of its reply and its tiles; and each entry is what either engine answers at that minimum.
-- Assumes nothing.
use Prim.Native.Nat.{ℕ, ◌+◌, ◌≤◌, ◌<◌}
use native.Mathlib.Omega.{arith}
use mathlib.Core.Path.{◌≡◌, refl, sym, ◌∙◌, ap, subst}
use mathlib.Core.List.{List}
use lib.ListN.{length, get_or, drop, get_or-append}
use borrow.Author.Tests.{le-ltb}
use Rattle.buffer.specs.Buffer.{onto, tabulate}
use Rattle.buffer.proofs.Buffer.{length_tabulate, get_or_tabulate}
use Rattle.tiling.specs.Listing.{listing, covered}
use Rattle.tiling.specs.Comparing.{InRange, Roomy}
use Rattle.tiling.specs.Answer.{Compares}
use Rattle.tiling.specs.declared.Compared.{Compared}
use Rattle.tiling.proofs.Comparing.{comparable_exchange, fast_passes}
use Rattle.tiling.proofs.Demand.{covered_falls, exchange_covered}
use Rattle.tiling.proofs.Answers.{answers_number, answers_covered, answers_exchange}
use Rattle.cover.specs.Promise.{cover_refusal, cover_at, cover_buffer, EveryMinimum}
use Rattle.cover.proofs.Accepted.{Accepted, accepted}
use Rattle.engines.specs.Engine.{Engine, fast, Promise}
use Rattle.engines.specs.Cover.{CoverExchanges}

-- An entry of a buffer that was filled.
entry_of : (first second es es' : List ℕ) → es' ≡ onto (tabulate (cover_at first second) 256) es → (k : ℕ) → k < 256 → get_or es' k 0 ≡ covered (listing first second (k + 1))
entry_of first second es es' e k h =
    let front = tabulate (cover_at first second) 256 in
    let n : length front ≡ 256 = length_tabulate (cover_at first second) 256 in
    rw e (get_or-append front (drop (length front) es) 0 k (rw n h) ∙ get_or_tabulate (cover_at first second) 256 k 0 h)

module _ {first second : List ℕ} (buckets start : ℕ) {ws b es : List ℕ} {a : Compared} {ws' b' es' : List ℕ} (c : EveryMinimum first second buckets start ws b es a ws' b' es') (z : a.refusal ≡ 0) where
  number : cover_refusal first second buckets start (length ws) (length b) (length es) ≡ 0
  number = answers_number c.compares z

  accepted_here : Accepted first second buckets start (length ws) (length b) (length es)
  accepted_here = accepted first second buckets start (length ws) (length b) (length es) (sym number)

  -- "The tile buffer and the reply are that run's": it is a call of the fast engine at minimum 1.
  pub cover_promise : Promise (fast buckets start) first second 1 ws b a ws' b'
  cover_promise =
      let k = accepted_here in
      let n = fast_passes first second 1 (length ws) (length b) k.can k.room buckets start 0 k.set in
      subst (λ m. Compares m first second 1 ws b a ws' b') (number ∙ sym n) c.compares

  -- Entry k is the covered count of the listing at minimum k + 1.
  pub cover_entry : (k : ℕ) → k < 256 → get_or es' k 0 ≡ covered (listing first second (k + 1))
  cover_entry = entry_of first second es es' (subst (λ n. es' ≡ cover_buffer n first second es) number c.entries)

  -- So it is what either engine answers at that minimum, however it is set.
  pub cover_engine : (e : Engine) (k : ℕ) → k < 256 → {ws₁ b₁ : List ℕ} {a₁ : Compared} {ws₁' b₁' : List ℕ} → Promise e first second (k + 1) ws₁ b₁ a₁ ws₁' b₁' → a₁.refusal ≡ 0 → get_or es' k 0 ≡ a₁.covered
  cover_engine e k h c₁ z₁ = cover_entry k h ∙ sym (answers_covered c₁ z₁)

  -- Entry 0 is the reply's covered.
  pub cover_first : get_or es' 0 0 ≡ a.covered
  cover_first = cover_entry 0 (omega arith) ∙ sym (answers_covered c.compares z)

  -- "The entries therefore never rise."
  pub cover_falls : (i j : ℕ) → i ≤ j → j < 256 → get_or es' j 0 ≤ get_or es' i 0
  cover_falls i j h l =
      rw (cover_entry i (omega arith), cover_entry j l) (covered_falls first second (i + 1) (j + 1) (omega arith) (omega arith))

-- With the sequences exchanged: the call is accepted wherever there is room and its settings are in range, and its entries are the same.
pub cover_exchange : {first second : List ℕ} (buckets buckets' start start' : ℕ) {ws b es ws₁ b₁ es₁ : List ℕ} {a a' : Compared} {ws' b' es' ws₁' b₁' es₁' : List ℕ} → EveryMinimum first second buckets start ws b es a ws' b' es' → EveryMinimum second first buckets' start' ws₁ b₁ es₁ a' ws₁' b₁' es₁' → a.refusal ≡ 0 → InRange 1 buckets' start' → Roomy (length second) (length first) 1 (length ws₁) (length b₁) → 256 ≤ length es₁ → CoverExchanges a b' es' a' b₁' es₁'
cover_exchange {first} {second} buckets buckets' start start' {ws₁ = ws₁} {b₁ = b₁} {es₁ = es₁} {a' = a'} c c' z i r room =
    let k = accepted_here buckets start c z in
    let n : cover_refusal second first buckets' start' (length ws₁) (length b₁) (length es₁) ≡ 0 =
    fast_passes second first 1 (length ws₁) (length b₁) (comparable_exchange k.can) r buckets' start' _ i ∙ rw (le-ltb (length es₁) 256 room) refl in
    let z' : a'.refusal ≡ 0 = ap (λ x. x.refusal) c'.compares.answer ∙ n in
    record {
      exchanges = answers_exchange c.compares c'.compares (n ∙ sym (number buckets start c z));
      entries = λ k h. cover_entry buckets' start' c' z' k h ∙ (exchange_covered first second (k + 1) ∙ sym (cover_entry buckets start c z k h));
    }
