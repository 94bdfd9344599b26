-- A part of the two sequences is hashed. The hashes stand past both sequences and before the bounds, each as far from its word as all are, so
-- all else in the workspace is as it was.
-- Assumes nothing.
use Prim.Native.Nat.{ℕ, ◌+◌, ◌-◌, ◌≤◌, ◌<◌}
use native.Mathlib.Omega.{arith}
use mathlib.Core.Path.{◌≡◌, refl, sym, ◌∙◌, ap}
use mathlib.Core.List.{List, ◌++◌, append_assoc, append-nil}
use lib.ListN.{length, take, drop, get_or, length-append, length-drop, get_or-append}
use lib.Seq.{length-take-le, take-take, take-add, drop-drop, get_or-append-add, get_or-take, get_or-drop, ext_get_or}
use Rattle.buffer.specs.Buffer.{onto}
use Rattle.buffer.proofs.Buffer.{rest_of_front, length_onto, tail_is}
use Rattle.tile.proofs.Tail.{tail_last}
use Rattle.window.specs.Hash.{words_hash}
use Rattle.window.specs.HashList.{hashes_by, hash_at}
use Rattle.window.proofs.HashList.{length_hashes, get_or_hashes, hash_current}
use Rattle.bounds.specs.Workspace.{Space, state, bounds_from, chains_from}
use Rattle.bounds.specs.declared.Job.{Job}
use Rattle.bounds.proofs.Workspace.{front_state, space_kept}
use Rattle.index.specs.Built.{PartHashed}
use Rattle.index.specs.declared.pass.Pass.{Pass}

-- ---- words put into a list from a position on
module _ (ws front ws' : List ℕ) (a : ℕ) (room : a + length front ≤ length ws) (made : ws' ≡ take a ws ++ onto front (drop a ws)) where
  before_length : length (take a ws) ≡ a
  before_length = length-take-le a ws (omega arith)

  put_length : length ws' ≡ length ws
  put_length =
      ap length made
      ∙ (length-append (take a ws) (onto front (drop a ws))
      ∙ omega (arith, before_length, length_onto front (drop a ws) (omega (arith, length-drop a ws)), length-drop a ws))

  put_before : (i : ℕ) → i < a → get_or ws' i 0 ≡ get_or ws i 0
  put_before i l = rw made (get_or-append (take a ws) (onto front (drop a ws)) 0 i (omega (arith, before_length)) ∙ get_or-take a ws i 0 l)

  past : (k : ℕ) → get_or ws' (a + k) 0 ≡ get_or (onto front (drop a ws)) k 0
  past k =
      let e : a + k ≡ length (take a ws) + k = omega (arith, before_length) in
      ap (λ xs. get_or xs (a + k) 0) made
      ∙ (ap (λ i. get_or (take a ws ++ onto front (drop a ws)) i 0) e ∙ get_or-append-add (take a ws) (onto front (drop a ws)) k 0)

  put_here : (k : ℕ) → k < length front → get_or ws' (a + k) 0 ≡ get_or front k 0
  put_here k l = past k ∙ get_or-append front (drop (length front) (drop a ws)) 0 k l

  put_after : (i : ℕ) → a + length front ≤ i → get_or ws' i 0 ≡ get_or ws i 0
  put_after i l =
      let k = i - a - length front in
      let e : a + (length front + k) ≡ i = omega arith in
      let there : get_or ws' (a + (length front + k)) 0 ≡ get_or ws (a + (length front + k)) 0 =
      past (length front + k)
      ∙ (get_or-append-add front (drop (length front) (drop a ws)) k 0
      ∙ (get_or-drop (length front) (drop a ws) k 0 ∙ get_or-drop a ws (length front + k) 0)) in
      rw e at there

-- ---- what hashing a part does
pub part_hashed : (x : Pass) (from count : ℕ) (ws part : List ℕ) → Space x.job ws → x.s ≤ count → from + count ≤ x.job.n + x.job.m → part ≡ take (x.job.n + x.job.m) (take (length ws - from) (drop from ws)) ++ onto (hashes_by (words_hash x.multiplier) x.s (take count (take (length ws - from) (drop from ws)))) (drop (x.job.n + x.job.m) (take (length ws - from) (drop from ws))) → PartHashed x from count ws (take from ws ++ (part ++ drop (length ws - from) (drop from ws)))
part_hashed x from count ws part space long fits e =
    record {
      room = put_length ws front ws' a roomy made;
      before = λ i l. put_before ws front ws' a roomy made i (omega arith);
      after = λ i l. put_after ws front ws' a roomy made i (omega (arith, many));
      hashed = λ k l.
          let at : x.job.n + x.job.m + (from + k) ≡ a + k = omega arith in
          let in_words : k + x.s ≤ length words = omega (arith, words_are) in
          rw at
          (put_here ws front ws' a roomy made k (omega (arith, many))
          ∙ (get_or_hashes x.multiplier x.s words k in_words
          ∙ ap (words_hash x.multiplier) (window k l)));
    }
  where
    a : ℕ
    a = from + (x.job.n + x.job.m)

    words : List ℕ
    words = take count (drop from ws)

    front : List ℕ
    front = hashes_by (words_hash x.multiplier) x.s words

    ws' : List ℕ
    ws' = take from ws ++ (part ++ drop (length ws - from) (drop from ws))

    words_are : length words ≡ count
    words_are = length-take-le count (drop from ws) (omega (arith, length-drop from ws, space.roomy))

    many : length front ≡ count + 1 - x.s
    many = omega (arith, length_hashes x.multiplier x.s words, words_are)

    roomy : a + length front ≤ length ws
    roomy = omega (arith, many, space.roomy, x.one)

    made : ws' ≡ take a ws ++ onto front (drop a ws)
    made =
        rw (
          e,
          tail_is from ws,
          tail_last from ws,
          append-nil (take (x.job.n + x.job.m) (drop from ws) ++ onto front (drop (x.job.n + x.job.m) (drop from ws))),
          take-add from (x.job.n + x.job.m) ws,
          append_assoc (take from ws) (take (x.job.n + x.job.m) (drop from ws)) (onto front (drop a ws)),
          drop-drop (x.job.n + x.job.m) from ws,
        )
        refl

    window : (k : ℕ) → k + x.s ≤ count → take x.s (drop k words) ≡ take x.s (drop (from + k) ws)
    window k l =
        ap (take x.s) (sym (rest_of_front k count (drop from ws)))
        ∙ (take-take x.s (count - k) (drop k (drop from ws)) (omega arith) ∙ ap (take x.s) (drop-drop k from ws))

-- ---- and what it leaves
module _ (x : Pass) (from count : ℕ) (ws ws' : List ℕ) (h : PartHashed x from count ws ws') (space : Space x.job ws) (fits : from + count ≤ x.job.n + x.job.m) where
  abbrev j : Job
  j = x.job

  same_front : take (j.n + j.m) ws' ≡ take (j.n + j.m) ws
  same_front =
      let short : length (take (j.n + j.m) ws) ≡ j.n + j.m = length-take-le (j.n + j.m) ws (omega (arith, space.roomy)) in
      let short' : length (take (j.n + j.m) ws') ≡ j.n + j.m = length-take-le (j.n + j.m) ws' (omega (arith, space.roomy, h.room)) in
      ext_get_or 0 (take (j.n + j.m) ws') (take (j.n + j.m) ws) (short' ∙ sym short)
      (λ i l.
      let less : i < j.n + j.m = omega (arith, short') in
      get_or-take (j.n + j.m) ws' i 0 less ∙ (h.before i (omega arith) ∙ sym (get_or-take (j.n + j.m) ws i 0 less)))

  -- The sequences are as they were, and so are the bounds and all that follows them.
  pub part_state : state j ws' ≡ state j ws
  part_state = front_state j ws ws' same_front

  pub part_later : (i : ℕ) → bounds_from j ≤ i → get_or ws' i 0 ≡ get_or ws i 0
  part_later i l = h.after i (omega (arith, x.one))

  same_tail : drop (chains_from j) ws' ≡ drop (chains_from j) ws
  same_tail =
      let a = chains_from j in
      ext_get_or 0 (drop a ws') (drop a ws) (length-drop a ws' ∙ (ap (λ n. n - a) h.room ∙ sym (length-drop a ws)))
      (λ i l. get_or-drop a ws' i 0 ∙ (part_later (a + i) (omega arith) ∙ sym (get_or-drop a ws i 0)))

  pub part_space : Space j ws'
  part_space = space_kept j ws ws' h.room part_state same_tail (λ q l. part_later (bounds_from j + q) (omega arith)) space

-- ---- a window of a sequence is one of the workspace
window_in : (s u m : ℕ) (xs : List ℕ) → u + s ≤ m → take s (drop u (take m xs)) ≡ take s (drop u xs)
window_in s u m xs fits = ap (take s) (sym (rest_of_front u m xs)) ∙ take-take s (m - u) (drop u xs) (omega arith)

module _ (x : Pass) (ws : List ℕ) (space : Space x.job ws) where
  pub pattern_hashes : (p : ℕ) → p + x.s ≤ x.job.n → words_hash x.multiplier (take x.s (drop p ws)) ≡ hash_at x.multiplier x.s (state x.job ws).pattern p
  pattern_hashes p fits =
      ap (words_hash x.multiplier) (sym (window_in x.s p x.job.n ws fits))
      ∙ hash_current x.multiplier x.s (state x.job ws).pattern space.current.of_pattern p

  pub text_hashes : (u : ℕ) → u + x.s ≤ x.job.m → words_hash x.multiplier (take x.s (drop (x.job.n + u) ws)) ≡ hash_at x.multiplier x.s (state x.job ws).text u
  text_hashes u fits =
      ap (λ xs. words_hash x.multiplier (take x.s xs)) (sym (drop-drop u x.job.n ws))
      ∙ (ap (words_hash x.multiplier) (sym (window_in x.s u x.job.m (drop x.job.n ws) fits))
      ∙ hash_current x.multiplier x.s (state x.job ws).text space.current.of_text u)
