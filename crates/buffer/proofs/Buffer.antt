-- Laws of a buffer that is written from its start, one word after another.
-- Assumes nothing.
use Prim.Native.Nat.{ℕ, zero, suc, ◌+◌, ◌-◌, ◌≤◌, ◌<◌}
use native.Mathlib.Nat.{not-suc-le-zero, le_of_suc-le-suc, eq-or-lt_of_le}
use native.Mathlib.Decide.{dec_lt, ℕ_discrete}
use native.Mathlib.Omega.{arith}
use native.Mathlib.Numerals.{add-one}
use mathlib.Core.Logic.{⊎_elim}
use mathlib.Core.Path.{◌≡◌, refl, sym, ◌∙◌, ap}
use mathlib.Core.List.{List, [], ◌∷◌, ◌++◌, append_assoc, append-nil}
use lib.ListN.{length, take, drop, get_or, set, length-append, length-drop, length-take, length-set, drop_of_length-le, get_or-append}
use lib.Seq.{take-nil, drop-cons, take-suc, take_all, set_at, length-take-le, get_or_at, get_or-append-add, get_or-drop, get_or-set_same, get_or-set_other, ext_get_or, take_at, drop_at, drop-drop}
use Rattle.buffer.specs.Buffer.{onto, tabulate}

-- A part from p to n is the rest, from p on, of the part up to n.
pub rest_of_front : (p n : ℕ) (xs : List ℕ) → take (n - p) (drop p xs) ≡ drop p (take n xs)
rest_of_front zero n xs = let e : n - 0 ≡ n = omega arith in rw e refl
rest_of_front (suc p) zero xs = let e : 0 - suc p ≡ 0 = omega arith in rw e refl
rest_of_front (suc p) (suc n) [] = take-nil {A = ℕ} (suc n - suc p)
rest_of_front (suc p) (suc n) (x ∷ xs) = let e : suc n - suc p ≡ n - p = omega arith in rw e (rest_of_front p n xs)

pub length_onto : (front b : List ℕ) → length front ≤ length b → length (onto front b) ≡ length b
length_onto front b h = simp (length-append, length-drop) (omega arith)

-- One more word after those written.
pub onto_more : (front b : List ℕ) (v : ℕ) → length front < length b → set (onto front b) (length front) v ≡ onto (front ++ (v ∷ [])) b
onto_more front b v h =
    let n : length (front ++ (v ∷ [])) ≡ suc (length front) = simp length-append (add-one (length front)) in
    rw (drop-cons b (length front) 0 h, set_at front (get_or b (length front) 0) (drop (suc (length front)) b) v (length front) refl, n, append_assoc) refl

-- Words copied to the part that begins after those written.
pub onto_part : (front s b : List ℕ) (k : ℕ) → length front ≡ k → take k (onto front b) ++ (onto s (take (length s) (drop k (onto front b))) ++ drop (length s) (drop k (onto front b))) ≡ onto (front ++ s) b
onto_part front s b k e =
    let none : drop (length s) (take (length s) (drop (length front) b)) ≡ [] =
    drop_of_length-le (take (length s) (drop (length front) b)) {i = length s} (simp length-take (omega arith)) in
    rw (
      take_at front (drop (length front) b) k e,
      drop_at front (drop (length front) b) k e,
      none,
      drop-drop (length s) (length front) b,
      append-nil s,
      length-append front s,
      append_assoc,
    )
    refl

-- ---- copying: the first i words stand in the buffer
pub record Copied (words b₀ b : List ℕ) (i : ℕ) : Type 0 where
  pub within : i ≤ length words
  pub room : length words ≤ length b₀
  pub held : b ≡ onto (take i words) b₀
  pub same : length b ≡ length b₀

pub copied_more : (words b₀ b : List ℕ) (i : ℕ) → Copied words b₀ b i → i < length words → Copied words b₀ (set b i (get_or words i 0)) (i + 1)
copied_more words b₀ b i r h =
    let n : length (take i words) ≡ i = length-take-le i words (omega arith) in
    let less : length (take i words) < length b₀ = omega (arith, r.room) in
    let e : set b i (get_or words i 0) ≡ onto (take (i + 1) words) b₀ =
    rw (add-one i, take-suc words i 0 h, ← onto_more (take i words) b₀ (get_or words i 0) less, r.held, n) refl in
    record {
      within = omega arith;
      room = r.room;
      held = e;
      same = ap length e ∙ length_onto (take (i + 1) words) b₀ (omega (arith, length-take (i + 1) words, r.room));
    }

pub copied_all : (words b₀ b : List ℕ) (i : ℕ) → Copied words b₀ b i → length words ≤ i → b ≡ onto words b₀
copied_all words b₀ b i r h = rw (take_all i words h) at r.held

-- ---- a list by its entries
pub length_tabulate : (f : ℕ → ℕ) (n : ℕ) → length (tabulate f n) ≡ n
unfolding tabulate
length_tabulate f zero = refl
length_tabulate f (suc n) = simp (length-append, length_tabulate f n) (add-one n)

pub get_or_tabulate : (f : ℕ → ℕ) (n i d : ℕ) → i < n → get_or (tabulate f n) i d ≡ f i
unfolding tabulate
get_or_tabulate f zero i d h = absurd (not-suc-le-zero h)
get_or_tabulate f (suc n) i d h =
    ⊎_elim
    (λ e. rw e (get_or_at (tabulate f n) (f n) [] d n (length_tabulate f n)))
    (λ l. get_or-append (tabulate f n) (f n ∷ []) d i (rw (length_tabulate f n) l) ∙ get_or_tabulate f n i d l)
    (eq-or-lt_of_le (le_of_suc-le-suc h))

pub tabulate_same : (f g : ℕ → ℕ) → ((i : ℕ) → f i ≡ g i) → (n : ℕ) → tabulate f n ≡ tabulate g n
unfolding tabulate
tabulate_same f g e zero = refl
tabulate_same f g e (suc n) = rw (tabulate_same f g e n, e n) refl

-- ---- a buffer by its words
-- Words at its start, and beyond them what stood there.
pub onto_words : (front b b' : List ℕ) → length front ≤ length b → length b' ≡ length b → ((i : ℕ) → i < length front → get_or b' i 0 ≡ get_or front i 0) → ((i : ℕ) → length front ≤ i → get_or b' i 0 ≡ get_or b i 0) → b' ≡ onto front b
onto_words front b b' room same written kept = ext_get_or 0 b' (onto front b) (same ∙ sym (length_onto front b room)) (λ i h. go i (dec_lt i (length front)))
  where
    go : (i : ℕ) → Dec (i < length front) → get_or b' i 0 ≡ get_or (onto front b) i 0
    go i (yes l) = written i l ∙ sym (get_or-append front (drop (length front) b) 0 i l)
    go i (no n) =
        let beyond = i - length front in
        let e : length front + beyond ≡ i = omega (arith, n) in
        let there : get_or (onto front b) (length front + beyond) 0 ≡ get_or b (length front + beyond) 0 =
        get_or-append-add front (drop (length front) b) beyond 0 ∙ get_or-drop (length front) b beyond 0 in
        kept i (omega (arith, n)) ∙ sym (rw e at there)

-- Filled from the last of n words to the first: those from k on stand there.
pub record Filling (f : ℕ → ℕ) (n : ℕ) (b₀ b : List ℕ) (k : ℕ) : Type 0 where
  pub room : n ≤ length b₀
  pub same : length b ≡ length b₀
  pub within : k ≤ n
  pub filled : (i : ℕ) → k ≤ i → i < n → get_or b i 0 ≡ f i
  pub kept : (i : ℕ) → n ≤ i → get_or b i 0 ≡ get_or b₀ i 0

pub filling_none : (f : ℕ → ℕ) (n : ℕ) (b : List ℕ) → n ≤ length b → Filling f n b b n
filling_none f n b h = record { room = h; same = refl; within = omega arith; filled = λ i k l. absurd (omega arith); kept = λ i l. refl }

module _ (f : ℕ → ℕ) (n : ℕ) (b₀ b : List ℕ) (k : ℕ) (r : Filling f n b₀ b k) where
  pub filling_more : 0 < k → (v : ℕ) → v ≡ f (k - 1) → Filling f n b₀ (set b (k - 1) v) (k - 1)
  filling_more some v e =
      record {
        room = r.room;
        same = length-set b (k - 1) v ∙ r.same;
        within = omega (arith, r.within);
        filled = λ i h l. go i h l (ℕ_discrete i (k - 1));
        kept = λ i l. get_or-set_other b (k - 1) i v 0 (λ d. absurd (omega (arith, d, r.within))) ∙ r.kept i l;
      }
    where
      go : (i : ℕ) → k - 1 ≤ i → i < n → Dec (i ≡ k - 1) → get_or (set b (k - 1) v) i 0 ≡ f i
      go i h l (yes d) = rw d (get_or-set_same b (k - 1) v 0 (omega (arith, r.within, r.room, r.same)) ∙ e)
      go i h l (no d) = get_or-set_other b (k - 1) i v 0 d ∙ r.filled i (omega (arith, d)) l

  pub filling_all : k ≡ 0 → b ≡ onto (tabulate f n) b₀
  filling_all z =
      let count : length (tabulate f n) ≡ n = length_tabulate f n in
      onto_words (tabulate f n) b₀ b (rw count r.room) r.same
      (λ i l. r.filled i (omega (arith, z)) (rw count at l) ∙ sym (get_or_tabulate f n i 0 (rw count at l)))
      (λ i l. r.kept i (rw count at l))

-- The part of a list from a position to its end is the list's tail.
pub tail_is : (at : ℕ) (xs : List ℕ) → take (length xs - at) (drop at xs) ≡ drop at xs
tail_is at xs = take_all (length xs - at) (drop at xs) (omega (arith, length-drop at xs))
