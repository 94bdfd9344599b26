-- The hash of a window of words as they stand, word by word. One more word multiplies what is there by B and adds the word (Horner's rule); the
-- first word's share is the word times a power of B, so it can be taken out again; and since sums and products keep
-- congruence, each step may wrap.
-- Assumes nothing.
use Rattle.std.proofs.Common.{◌≡◌, ℕ, zero, suc, ◌+◌, ◌-◌, ◌*◌, ◌%◌, ◌^◌, ◌<◌, ◌≤◌, List, [], ◌∷◌, ◌++◌, fold, map, length, get_or, take, sym, refl, ◌∙◌, add_assoc, mul_assoc, add-mul, add_comm, pow-suc, mul-one, add-one, arith, length-append, take_all, take-suc}
use native.Mathlib.Nat.{pow-zero}
use Rattle.std.proofs.lemmas.Grind.{fold-append}
use lib.ListN.{length-map}
use Rattle.symbol.specs.Word.{replaced}
use Rattle.window.specs.Hash.{weigh, words_hash, hash}
use Rattle.window.proofs.Congruence.{Congruent, congruent_refl, congruent_sym, congruent_trans, congruent_mod, congruent_add, congruent_mul, congruent_cancel}

-- ---- one more word
weigh_more : (B : ℕ) (ws : List ℕ) (x : ℕ) → weigh B (ws ++ (x ∷ [])) ≡ weigh B ws * B + x
unfolding weigh
weigh_more B [] x = rw (pow-zero B, mul-one x) (omega arith)
weigh_more B (w ∷ ws) x =
    let n : length (ws ++ (x ∷ [])) ≡ suc (length ws) = simp length-append (add-one (length ws)) in
    rw (n, pow-suc B (length ws), weigh_more B ws x, add-mul, mul_assoc, add_assoc)

hash_more : (B : ℕ) (ws : List ℕ) (h x : ℕ) → Congruent (2 ^ 32) h (weigh B ws) → words_hash B (ws ++ (x ∷ [])) ≡ (h * B + x) % 2 ^ 32
unfolding words_hash
hash_more B ws h x e = rw (weigh_more B ws x) (congruent_add (congruent_mul (congruent_sym e) congruent_refl) congruent_refl).same

pub horner : (B : ℕ) (ws : List ℕ) (x : ℕ) → words_hash B (ws ++ (x ∷ [])) ≡ (words_hash B ws * B + x) % 2 ^ 32
unfolding words_hash
horner B ws x = hash_more B ws (words_hash B ws) x (congruent_mod refl)

-- ---- the window one position on: the first word's share is taken out, and what is left is congruent to what the other words weigh
taken_out : (h share : ℕ) → h < 2 ^ 32 → share < 2 ^ 32 → ((h + (2 ^ 32 - share)) % 2 ^ 32 + share) % 2 ^ 32 ≡ h
taken_out h share l k = omega arith

pub rolled : (B : ℕ) (ws : List ℕ) (h outgoing power incoming r : ℕ) → h < 2 ^ 32 → r ≡ ((h + (2 ^ 32 - (outgoing * power) % 2 ^ 32)) % 2 ^ 32 * B + incoming) % 2 ^ 32 → h ≡ words_hash B (outgoing ∷ ws) → power ≡ B ^ length ws % 2 ^ 32 → r ≡ words_hash B (ws ++ (incoming ∷ []))
unfolding words_hash weigh
rolled B ws h outgoing power incoming r small su e q =
    let first = outgoing * B ^ length ws in
    let share = (outgoing * power) % 2 ^ 32 in
    let rest = (h + (2 ^ 32 - share)) % 2 ^ 32 in
    let taken : Congruent (2 ^ 32) share first = congruent_trans (congruent_mod refl) (congruent_mul congruent_refl (congruent_mod q)) in
    let whole : Congruent (2 ^ 32) (rest + share) (first + weigh B ws) =
    congruent_trans (congruent_sym (congruent_mod (sym (taken_out h share small (omega arith))))) (congruent_mod e) in
    let swapped : Congruent (2 ^ 32) (rest + first) (weigh B ws + first) =
    congruent_trans (congruent_add congruent_refl (congruent_sym taken)) (rw (add_comm (weigh B ws) first) whole) in
    su ∙ sym (hash_more B ws rest incoming (congruent_cancel (2 ^ 32) first swapped))

-- ---- the loop of power: p is the i-th power, and the next turn gives the one after it
pub power_more : (B i p : ℕ) → p ≡ B ^ i % 2 ^ 32 → (p * B) % 2 ^ 32 ≡ B ^ (i + 1) % 2 ^ 32
power_more B i p e = rw (add-one i, pow-suc B i) (congruent_mul (congruent_mod e) congruent_refl).same

-- ---- a fold: word after word is taken into the hash
abbrev with_word : ℕ → ℕ → ℕ → ℕ
with_word B h w = (h * B + w) % 2 ^ 32

folded : (B : ℕ) (ws : List ℕ) (n : ℕ) → n ≤ length ws → fold (with_word B) 0 (take n ws) ≡ words_hash B (take n ws)
unfolding words_hash weigh
folded B ws zero h = refl
folded B ws (suc n) h =
    rw (
      take-suc ws n 0 (omega arith),
      fold-append (with_word B) 0 (take n ws) (get_or ws n 0 ∷ []),
      horner B (take n ws) (get_or ws n 0),
      folded B ws n (omega arith),
    )
    refl

pub hashed : (B r : ℕ) (ws : List ℕ) → r ≡ fold (λ h w. (h * B + w) % 2 ^ 32) 0 ws → r ≡ words_hash B ws
hashed B r ws e = let l : length ws ≤ length ws = omega arith in e ∙ (rw take_all at (folded B ws (length ws) l))

-- ---- a walk along the words of a window: h is the hash of those before i, so at the end it is that of the window; here of replaced words
pub record Hashed (B : ℕ) (ws : List ℕ) (h i : ℕ) : Type 0 where
  pub within : i ≤ length ws
  pub held : h ≡ words_hash B (take i ws)

pub hashed_all : (B : ℕ) (ws : List ℕ) (h i : ℕ) → Hashed B ws h i → length ws ≤ i → h ≡ words_hash B ws
hashed_all B ws h i inv all = rw (take_all i ws all) at inv.held

pub replaced_hash_lem : (B : ℕ) (ws : List ℕ) (h i : ℕ) → Hashed B (map replaced ws) h i → length ws ≤ i → h ≡ hash B ws
replaced_hash_lem B ws h i inv all = hashed_all B (map replaced ws) h i inv (rw (length-map ws replaced) all)
