-- The list of hashes as the code makes it, of words as they stand and of replaced words: the hashes before i stand in the buffer, and rolling
-- the hash at i gives that at i + 1.
-- Assumes nothing.
use Rattle.std.proofs.Common.{◌≡◌, ℕ, zero, suc, ◌+◌, ◌-◌, ◌*◌, ◌/◌, ◌%◌, ◌^◌, ◌<◌, ◌≤◌, List, [], ◌∷◌, ◌++◌, map, length, get_or, take, drop, set, sym, refl, ap, ◌∙◌, add-zero, add-one, arith, length-drop, length-set, take-append-drop, length-take-le, get_or-drop, drop-cons, get_or-set_other, get_or-take, take-suc, get_or-set_same, take-take}
use native.Mathlib.Nat.{mul-div-le}
use native.Mathlib.Decide.{dec_lt, ℕ_discrete}
use lib.ListN.{length-map}
use lib.Seq.{take-set-le}
use Rattle.symbol.specs.Word.{replaced}
use Rattle.symbol.specs.Sequence.{Current}
use Rattle.symbol.proofs.Sequence.{get_or_replaced, take_replaced, drop_replaced}
use Rattle.buffer.specs.Buffer.{onto, tabulate}
use Rattle.buffer.proofs.Buffer.{rest_of_front, length_tabulate, onto_more, onto_words, get_or_tabulate, tabulate_same}
use Rattle.window.specs.Hash.{words_hash, hash}
use Rattle.window.specs.HashList.{windows, hash_at, hashes_by, hashes}

-- The hash of the words of a window as they stand.
abbrev pub at_window : ℕ → ℕ → List ℕ → ℕ → ℕ
at_window B s words i = words_hash B (take s (drop i words))

pub length_hashes : (B s : ℕ) (words : List ℕ) → length (hashes_by (words_hash B) s words) ≡ windows s (length words)
length_hashes B s words = length_tabulate (at_window B s words) (windows s (length words))

pub get_or_hashes : (B s : ℕ) (words : List ℕ) (i : ℕ) → i + s ≤ length words → get_or (hashes_by (words_hash B) s words) i 0 ≡ words_hash B (take s (drop i words))
get_or_hashes B s words i h = get_or_tabulate (at_window B s words) (windows s (length words)) i 0 (omega arith)

-- ---- a window of k + 1 words and the next: they share all but the first word of the one and the last of the other
module _ (k i : ℕ) (words : List ℕ) (fits : i + suc k < length words) where
  shared : length (take k (drop (suc i) words)) ≡ k
  shared = length-take-le k (drop (suc i) words) (simp length-drop (omega arith))

  window_first : take (suc k) (drop i words) ≡ get_or words i 0 ∷ take k (drop (suc i) words)
  window_first = rw (drop-cons words i 0 (omega arith))

  window_last : take (suc k) (drop (suc i) words) ≡ take k (drop (suc i) words) ++ (get_or words (i + suc k) 0 ∷ [])
  window_last =
      let at : suc i + k ≡ i + suc k = omega arith in
      rw (take-suc (drop (suc i) words) k 0 (simp length-drop (omega arith)), get_or-drop (suc i) words k 0, at)

-- What `roll` promises of its result.
abbrev pub Rolls : ℕ → ℕ → ℕ → ℕ → ℕ → ℕ → Type 0
Rolls B p h outgoing incoming r = (ws : List ℕ) → h ≡ words_hash B (outgoing ∷ ws) → p ≡ B ^ length ws % 2 ^ 32 → r ≡ words_hash B (ws ++ (incoming ∷ []))

hash_next : (B s : ℕ) (words : List ℕ) (p h r i : ℕ) → 1 ≤ s → p ≡ B ^ (s - 1) % 2 ^ 32 → i + s < length words → h ≡ at_window B s words i → Rolls B p h (get_or words i 0) (get_or words (i + s) 0) r → r ≡ at_window B s words (i + 1)
hash_next B zero words p h r i least q less e roll = absurd (omega arith)
hash_next B (suc k) words p h r i least q less e roll =
    let one : suc k - 1 ≡ k = omega arith in
    let rest = take k (drop (suc i) words) in
    rw (add-one i, window_last k i words less) (roll rest (rw (← window_first k i words less) e) (rw (shared k i words less, ← one) q))

-- ---- the loop of fill_hashes: the hashes before i stand in the buffer, and h is the hash at i
pub record Filled (B s : ℕ) (words b₀ b : List ℕ) (h i : ℕ) : Type 0 where
  pub within : i + s ≤ length words
  pub room : windows s (length words) ≤ length b₀
  pub held : b ≡ onto (tabulate (at_window B s words) i) b₀
  pub same : length b ≡ length b₀
  pub current : h ≡ at_window B s words i

pub none_fits : (f : List ℕ → ℕ) (s : ℕ) (words b : List ℕ) → length words < s → b ≡ onto (hashes_by f s words) b
unfolding tabulate
none_fits f s words b h = let none : windows s (length words) ≡ 0 = omega arith in rw none refl

pub filled_none : (B s : ℕ) (words b : List ℕ) (h : ℕ) → s ≤ length words → windows s (length words) ≤ length b → h ≡ words_hash B (take s words) → Filled B s words b b h 0
unfolding tabulate
filled_none B s words b h w r e = record { within = omega arith; room = r; held = refl; same = refl; current = e }

module _ (B s : ℕ) (words b₀ b : List ℕ) (h i : ℕ) (inv : Filled B s words b₀ b h i) where
  stored : set b i h ≡ onto (tabulate (at_window B s words) (suc i)) b₀
  unfolding tabulate
  stored =
      let front = tabulate (at_window B s words) i in
      let n : length front ≡ i = length_tabulate (at_window B s words) i in
      let less : length front < length b₀ = omega (arith, inv.within, inv.room) in
      rw (← onto_more front b₀ (at_window B s words i) less, inv.held, inv.current, n) refl

  pub filled_all : length words ≤ i + s → set b i h ≡ onto (hashes_by (words_hash B) s words) b₀
  filled_all all = let last : windows s (length words) ≡ suc i = omega (arith, inv.within) in rw last stored

  pub filled_more : (p r : ℕ) → 1 ≤ s → p ≡ B ^ (s - 1) % 2 ^ 32 → i + s < length words → Rolls B p h (get_or words i 0) (get_or words (i + s) 0) r → Filled B s words b₀ (set b i h) r (i + 1)
  filled_more p r least q less roll =
      record {
        within = omega arith;
        room = inv.room;
        held = rw (add-one i) stored;
        same = length-set b i h ∙ inv.same;
        current = hash_next B s words p h r i least q less inv.current roll;
      }

-- ---- the same for words as handed in: the hashes are those of the replaced words
pub hash_at_lem : (B s : ℕ) (words : List ℕ) (i : ℕ) → at_window B s (map replaced words) i ≡ hash_at B s words i
hash_at_lem B s words i = ap (words_hash B) (ap (take s) (drop_replaced i words) ∙ take_replaced s (drop i words))

pub hashes_are : (B s : ℕ) (words : List ℕ) → hashes_by (words_hash B) s (map replaced words) ≡ hashes B s words
hashes_are B s words = rw (length-map words replaced) (tabulate_same (at_window B s (map replaced words)) (hash_at B s words) (hash_at_lem B s words) (windows s (length words)))

-- Of words that are replaced already, the hashes are those of the words as they stand.
pub hash_current : (B s : ℕ) (words : List ℕ) → Current words → (i : ℕ) → at_window B s words i ≡ hash_at B s words i
hash_current B s words c i = ap (λ ws. at_window B s ws i) (sym c) ∙ hash_at_lem B s words i

pub replaced_fits : (B s : ℕ) (words b : List ℕ) (h : ℕ) → s ≤ length words → windows s (length words) ≤ length b → h ≡ hash B (take s words) → Filled B s (map replaced words) b b h 0
replaced_fits B s words b h w r e =
    filled_none B s (map replaced words) b h (rw (length-map words replaced) w) (rw (length-map words replaced) r) (rw (take_replaced s words) e)

module _ (B s : ℕ) (words b₀ b : List ℕ) (h i : ℕ) (inv : Filled B s (map replaced words) b₀ b h i) where
  pub replaced_more : (p outgoing incoming r : ℕ) → 1 ≤ s → p ≡ B ^ (s - 1) % 2 ^ 32 → i < length words - s → outgoing ≡ replaced (get_or words i 0) → incoming ≡ replaced (get_or words (i + s) 0) → Rolls B p h outgoing incoming r → Filled B s (map replaced words) b₀ (set b i h) r (i + 1)
  replaced_more p outgoing incoming r least q less x y roll =
      filled_more B s (map replaced words) b₀ b h i inv p r least q (omega (arith, length-map words replaced))
      (rw (get_or_replaced words i, get_or_replaced words (i + s), ← x, ← y) roll)

  pub replaced_all : length words - s ≤ i → set b (length words - s) h ≡ onto (hashes B s words) b₀
  replaced_all all =
      let last : length words - s ≡ i = omega (arith, inv.within, length-map words replaced) in
      rw (last, ← hashes_are B s words) (filled_all B s (map replaced words) b₀ b h i inv (omega (arith, length-map words replaced)))

-- ---- the loop of hash_windows: the words are the first of a part of the workspace, and the hashes stand
-- `distance` words on. Two hashes are rolled side by side, from the first
-- window on and from the one at `half` on.
-- The hash at k stands in its place.
abbrev pub Stands : ℕ → ℕ → ℕ → ℕ → List ℕ → List ℕ → ℕ → Type 0
Stands B s count distance ws₀ ws k = get_or ws (distance + k) 0 ≡ at_window B s (take count ws₀) k

pub record Beside (B s count distance half : ℕ) (ws₀ ws : List ℕ) (near far i : ℕ) : Type 0 where
  pub within : half + i + s ≤ count
  pub same : length ws ≡ length ws₀
  pub front : take distance ws ≡ take distance ws₀
  pub first : near ≡ at_window B s (take count ws₀) i
  pub second : far ≡ at_window B s (take count ws₀) (half + i)
  pub before : (k : ℕ) → k < i → Stands B s count distance ws₀ ws k
  pub behind : (k : ℕ) → half ≤ k → k < half + i → Stands B s count distance ws₀ ws k
  pub kept : (k : ℕ) → windows s count ≤ k → get_or ws (distance + k) 0 ≡ get_or ws₀ (distance + k) 0

halves : (n half : ℕ) → half ≡ n / 2 → 2 * half ≤ n
halves n half e = rw e (mul-div-le n 2)

-- A window of the words, as the slice that the code hands on.
slice_hash : (B s count at : ℕ) (ws : List ℕ) → at + s ≤ count → words_hash B (take s (drop at ws)) ≡ at_window B s (take count ws) at
slice_hash B s count at ws fits =
    ap (words_hash B) (sym (take-take s (count - at) (drop at ws) (omega arith)) ∙ ap (take s) (rest_of_front at count ws))

pub beside_none : (B s count distance half : ℕ) (ws : List ℕ) (near far : ℕ) → 1 ≤ s → s ≤ count → half ≡ (count + 1 - s) / 2 → near ≡ words_hash B (take s ws) → far ≡ words_hash B (take (half + s - half) (drop half ws)) → Beside B s count distance half ws ws near far 0
beside_none B s count distance half ws near far least fits middle e d =
    let most : 2 * half ≤ count + 1 - s = halves (count + 1 - s) half middle in
    let width : half + s - half ≡ s = omega arith in
    record {
      within = omega arith;
      same = refl;
      front = refl;
      first = e ∙ slice_hash B s count 0 ws (omega arith);
      second = rw (add-zero half) (rw width at d ∙ slice_hash B s count half ws (omega arith));
      before = λ k l. absurd (omega arith);
      behind = λ k h l. absurd (omega arith);
      kept = λ k l. refl;
    }

-- A hash that stands in its place does so after a hash is stored, be it the same.
module _ (B s count distance : ℕ) (ws₀ ws : List ℕ) (at v : ℕ) (right : v ≡ at_window B s (take count ws₀) at) (room : distance + at < length ws) where
  stands_here : Stands B s count distance ws₀ (set ws (distance + at) v) at
  stands_here = get_or-set_same ws (distance + at) v 0 room ∙ right

  stands_still : (k : ℕ) → Stands B s count distance ws₀ ws k → Stands B s count distance ws₀ (set ws (distance + at) v) k
  stands_still k e = go (ℕ_discrete k at)
    where
      go : Dec (k ≡ at) → Stands B s count distance ws₀ (set ws (distance + at) v) k
      go (yes d) = rw d stands_here
      go (no d) = get_or-set_other ws (distance + at) (distance + k) v 0 (λ c. d (omega (arith, c))) ∙ e

module _ (B s count distance half : ℕ) (ws₀ ws : List ℕ) (near far i : ℕ) (inv : Beside B s count distance half ws₀ ws near far i) (least : 1 ≤ s) (apart : count ≤ distance) (room : distance + count ≤ length ws₀) where
  -- A word before the hashes is the word that stood there.
  word_at_lem : (k : ℕ) → k < count → get_or ws k 0 ≡ get_or (take count ws₀) k 0
  word_at_lem k less =
      sym (get_or-take distance ws k 0 (omega arith))
      ∙ (ap (λ xs. get_or xs k 0) inv.front
      ∙ (get_or-take distance ws₀ k 0 (omega arith) ∙ sym (get_or-take count ws₀ k 0 less)))

  words_are : length (take count ws₀) ≡ count
  words_are = length-take-le count ws₀ (omega arith)

  -- The workspace with the first hash stored, and with both.
  abbrev once : List ℕ
  once = set ws (distance + i) near

  abbrev twice : List ℕ
  twice = set once (distance + (half + i)) far

  pub once_room : distance + (half + i) < length once
  once_room = omega (arith, length-set ws (distance + i) near, inv.same, inv.within)

  both_front : take distance twice ≡ take distance ws₀
  both_front =
      take-set-le distance once (distance + (half + i)) far (omega arith)
      ∙ (take-set-le distance ws (distance + i) near (omega arith) ∙ inv.front)

  both_still : (k : ℕ) → Stands B s count distance ws₀ ws k → Stands B s count distance ws₀ twice k
  both_still k e =
      stands_still B s count distance ws₀ once (half + i) far inv.second once_room k
      (stands_still B s count distance ws₀ ws i near inv.first (omega (arith, inv.same, inv.within)) k e)

  both_before : (k : ℕ) → k < i + 1 → Stands B s count distance ws₀ twice k
  both_before k l = go (ℕ_discrete k i)
    where
      go : Dec (k ≡ i) → Stands B s count distance ws₀ twice k
      go (yes d) =
          rw d
          (stands_still B s count distance ws₀ once (half + i) far inv.second once_room i
          (stands_here B s count distance ws₀ ws i near inv.first (omega (arith, inv.same, inv.within))))
      go (no d) = both_still k (inv.before k (omega (arith, d)))

  both_behind : (k : ℕ) → half ≤ k → k < half + (i + 1) → Stands B s count distance ws₀ twice k
  both_behind k h l = go (ℕ_discrete k (half + i))
    where
      go : Dec (k ≡ half + i) → Stands B s count distance ws₀ twice k
      go (yes d) = rw d (stands_here B s count distance ws₀ once (half + i) far inv.second once_room)
      go (no d) = both_still k (inv.behind k h (omega (arith, d)))

  both_kept : (k : ℕ) → windows s count ≤ k → get_or twice (distance + k) 0 ≡ get_or ws₀ (distance + k) 0
  both_kept k l =
      get_or-set_other once (distance + (half + i)) (distance + k) far 0 (λ c. absurd (omega (arith, c, l, inv.within)))
      ∙ (get_or-set_other ws (distance + i) (distance + k) near 0 (λ c. absurd (omega (arith, c, l, inv.within))) ∙ inv.kept k l)

  both_same : length twice ≡ length ws₀
  both_same = length-set once (distance + (half + i)) far ∙ (length-set ws (distance + i) near ∙ inv.same)

  pub beside_more : (p near' far' : ℕ) → p ≡ B ^ (s - 1) % 2 ^ 32 → i < count - s - half → Rolls B p near (get_or ws i 0) (get_or ws (i + s) 0) near' → Rolls B p far (get_or ws (half + i) 0) (get_or ws (half + i + s) 0) far' → Beside B s count distance half ws₀ twice near' far' (i + 1)
  beside_more p near' far' q less rolls rolls' =
      let on : half + (i + 1) ≡ half + i + 1 = omega arith in
      record {
        within = omega arith;
        same = both_same;
        front = both_front;
        first = hash_next B s (take count ws₀) p near near' i least q (omega (arith, words_are)) inv.first (rw (word_at_lem i (omega arith), word_at_lem (i + s) (omega arith)) at rolls);
        second = rw on (hash_next B s (take count ws₀) p far far' (half + i) least q (omega (arith, words_are)) inv.second (rw (word_at_lem (half + i) (omega arith), word_at_lem (half + i + s) (omega arith)) at rolls'));
        before = both_before;
        behind = both_behind;
        kept = both_kept;
      }

  pub beside_all : half ≡ (count + 1 - s) / 2 → count - s - half ≤ i → set (set ws (distance + (count - s - half)) near) (distance + (half + (count - s - half))) far ≡ take distance ws₀ ++ onto (hashes_by (words_hash B) s (take count ws₀)) (drop distance ws₀)
  beside_all middle all =
      let last : count - s - half ≡ i = omega (arith, inv.within) in
      let back : drop distance twice ≡ onto (hashes_by (words_hash B) s (take count ws₀)) (drop distance ws₀) =
      onto_words (hashes_by (words_hash B) s (take count ws₀)) (drop distance ws₀) (drop distance twice)
      (omega (arith, many, words_are, length-drop distance ws₀))
      (length-drop distance twice ∙ (ap (λ n. n - distance) both_same ∙ sym (length-drop distance ws₀)))
      (λ k l. get_or-drop distance twice k 0 ∙ (all_stand k (omega (arith, l, many, words_are)) ∙ sym (get_or_hashes B s (take count ws₀) k (omega (arith, l, many, words_are)))))
      (λ k l. get_or-drop distance twice k 0 ∙ (both_kept k (omega (arith, l, many, words_are)) ∙ sym (get_or-drop distance ws₀ k 0))) in
      rw last (sym (take-append-drop distance twice) ∙ rw (both_front, back) refl)
    where
      many : length (hashes_by (words_hash B) s (take count ws₀)) ≡ windows s (length (take count ws₀))
      many = length_hashes B s (take count ws₀)

      all_stand : (k : ℕ) → k + s ≤ count → Stands B s count distance ws₀ twice k
      all_stand k fits = go (dec_lt k (i + 1))
        where
          go : Dec (k < i + 1) → Stands B s count distance ws₀ twice k
          go (yes l) = both_before k l
          go (no l) = both_behind k (omega (arith, l, halves (count + 1 - s) half middle)) (omega (arith, l))
