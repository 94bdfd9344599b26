-- The words of bytes, four by four, and the loop that stores them.
-- Assumes nothing.
use Prim.Native.Nat.{ℕ, zero, suc, ◌+◌, ◌*◌, ◌/◌, ◌≤◌, ◌<◌, min}
use native.Mathlib.Omega.{arith}
use native.Mathlib.Numerals.{add-one}
use mathlib.Core.Path.{◌≡◌, refl, ◌∙◌, ap}
use mathlib.Core.List.{List, [], ◌∷◌}
use lib.ListN.{length, get_or, take, set, length-take}
use lib.Seq.{take-suc, length-take-le}
use Rattle.std.proofs.lemmas.List.{take_min}
use Rattle.buffer.specs.Buffer.{onto}
use Rattle.buffer.proofs.Buffer.{onto_more, length_onto}
use Rattle.report.specs.Words.{word, words_of, word_at}

-- ---- how many words there are, and which
pub words_least : (bytes : List ℕ) → 4 * length (words_of bytes) ≤ length bytes
unfolding words_of
words_least (a ∷ b ∷ c ∷ d ∷ bytes) = omega (arith, words_least bytes)
words_least (a ∷ b ∷ c ∷ []) = omega arith
words_least (a ∷ b ∷ []) = omega arith
words_least (a ∷ []) = omega arith
words_least [] = omega arith

pub words_most : (bytes : List ℕ) → length bytes < 4 * length (words_of bytes) + 4
unfolding words_of
words_most (a ∷ b ∷ c ∷ d ∷ bytes) = omega (arith, words_most bytes)
words_most (a ∷ b ∷ c ∷ []) = omega arith
words_most (a ∷ b ∷ []) = omega arith
words_most (a ∷ []) = omega arith
words_most [] = omega arith

four : (k : ℕ) → 4 * suc k ≡ suc (suc (suc (suc (4 * k))))
four k = omega arith

pub word_at_lem : (bytes : List ℕ) (i : ℕ) → 4 * i + 4 ≤ length bytes → get_or (words_of bytes) i 0 ≡ word_at bytes i
unfolding words_of
word_at_lem (a ∷ b ∷ c ∷ d ∷ bytes) zero h = refl
word_at_lem (a ∷ b ∷ c ∷ d ∷ bytes) (suc i) h =
    let n1 : 4 * suc i + 1 ≡ suc (suc (suc (suc (4 * i + 1)))) = omega arith in
    let n2 : 4 * suc i + 2 ≡ suc (suc (suc (suc (4 * i + 2)))) = omega arith in
    let n3 : 4 * suc i + 3 ≡ suc (suc (suc (suc (4 * i + 3)))) = omega arith in
    rw (n1, n2, n3, four i) (word_at_lem bytes i (omega arith))
word_at_lem (a ∷ b ∷ c ∷ []) i h = absurd (omega arith)
word_at_lem (a ∷ b ∷ []) i h = absurd (omega arith)
word_at_lem (a ∷ []) i h = absurd (omega arith)
word_at_lem [] i h = absurd (omega arith)

-- The words of the first 4 * k bytes are the first k words.
pub words_cut : (k : ℕ) (bytes : List ℕ) → words_of (take (4 * k) bytes) ≡ take k (words_of bytes)
unfolding words_of
words_cut zero bytes = refl
words_cut (suc k) (a ∷ b ∷ c ∷ d ∷ bytes) = rw (four k) (ap (λ ws. word a b c d ∷ ws) (words_cut k bytes))
words_cut (suc k) (a ∷ b ∷ c ∷ []) = rw (four k) refl
words_cut (suc k) (a ∷ b ∷ []) = rw (four k) refl
words_cut (suc k) (a ∷ []) = rw (four k) refl
words_cut (suc k) [] = rw (four k) refl

-- ---- the loop of store_words: the first i words are stored
pub record Stored (bytes w₀ w : List ℕ) (i : ℕ) : Type 0 where
  pub fits : i ≤ length w₀
  pub whole : i ≤ length (words_of bytes)
  pub span : 4 * i ≤ length bytes
  pub held : w ≡ onto (take i (words_of bytes)) w₀
  pub same : length w ≡ length w₀

pub stored_more : (bytes w₀ w : List ℕ) (count i x : ℕ) → Stored bytes w₀ w i → count ≡ min (length w₀) (length bytes / 4) → i < count → x ≡ word_at bytes i → Stored bytes w₀ (set w i x) (i + 1)
stored_more bytes w₀ w count i x r c more e =
    let ws = words_of bytes in
    let less : i < length ws = omega (arith, words_most bytes) in
    let n : length (take i ws) ≡ i = length-take-le i ws (omega arith) in
    let fits : length (take i ws) < length w₀ = omega (arith, r.same) in
    let held : set w i x ≡ onto (take (i + 1) ws) w₀ =
    rw (e, ← word_at_lem bytes i (omega arith), add-one i, take-suc ws i 0 less, ← onto_more (take i ws) w₀ (get_or ws i 0) fits, r.held, n) refl in
    record {
      fits = omega (arith, r.same);
      whole = omega arith;
      span = omega arith;
      held = held;
      same = ap length held ∙ length_onto (take (i + 1) ws) w₀ (omega (arith, length-take (i + 1) ws, r.same));
    }

-- In the end the buffer is full or the bytes are used up.
pub stored_count : (bytes w₀ : List ℕ) (count : ℕ) → count ≡ min (length w₀) (length bytes / 4) → count ≡ length (take (length w₀) (words_of bytes))
stored_count bytes w₀ count c = omega (arith, length-take (length w₀) (words_of bytes), words_least bytes, words_most bytes)

pub stored_all : (bytes w₀ w : List ℕ) (count i : ℕ) → Stored bytes w₀ w i → count ≡ min (length w₀) (length bytes / 4) → count ≤ i → w ≡ onto (take (length w₀) (words_of bytes)) w₀
stored_all bytes w₀ w count i r c h =
    let e : i ≡ min (length w₀) (length (words_of bytes)) = omega (arith, r.fits, r.whole, words_least bytes, words_most bytes) in
    rw (e, take_min (length w₀) (words_of bytes)) at r.held
