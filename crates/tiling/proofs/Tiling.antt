-- The tiling's equation without fuel, and where its tiles lie. A tile takes its words, all of them calls, from both sequences, so that
-- the tiling ends by itself. A word that is not 0 after some marking is the word that was there at the start, so the words of a
-- tile match in the sequences as handed in.
-- Assumes nothing.
use Prim.Native.Nat.{ℕ, ◌+◌, ◌≤◌, ◌<◌}
use native.Mathlib.Decide.{dec_le}
use native.Mathlib.Omega.{arith}
use mathlib.Core.Path.{◌≡◌, refl, sym, ◌∙◌, ap}
use mathlib.Core.Bool.{Bool, true, false}
use mathlib.Core.List.{List, [], ◌∷◌, ◌++◌, map}
use borrow.Author.Tests.{le-leb, lt-leb}
use lib.Dec.{leb}
use lib.ListN.{length, take, drop, length-drop}
use lib.Seq.{get_or-drop}
use Rattle.symbol.specs.Word.{is_call, replaced}
use Rattle.symbol.proofs.Word.{call_below}
use Rattle.symbol.proofs.Retired.{match_call}
use Rattle.tiling.specs.Each.{Each, none, also}
use Rattle.tiling.specs.Tally.{tally}
use Rattle.tiling.specs.Greedy.{Greedy, done, more}
use Rattle.tiling.specs.Tiling.{Tile, State, best, Lies, size, lay, tiling_by, tiling}
use Rattle.tiling.proofs.Run.{run_within, run_match, match_words}
use Rattle.tiling.proofs.Tally.{tally_length, tally_mark, tally_all, tally_append, tally_map}
use Rattle.tiling.proofs.Greedy.{only, greedy_meets}
use Rattle.tiling.proofs.Best.{best_is}
use Rattle.tiling.proofs.Marked.{Worked, worked_none, worked_lay, match_kept}

-- ---- where a tile lies
pub best_lies : (s : State) → 1 ≤ (best s).len → Lies s (best s)
best_lies s h =
    let k = best s in
    let r = (best_is s).long in
    let w = run_within (drop k.p s.pattern) (drop k.t s.text) in
    let n = length-drop k.p s.pattern in
    let m = length-drop k.t s.text in
    record {
      in_pattern = omega (arith, r, w, n, m);
      in_text = omega (arith, r, w, n, m);
      matching = λ i l.
          rw (← get_or-drop k.p s.pattern i 0, ← get_or-drop k.t s.text i 0)
          (run_match (drop k.p s.pattern) (drop k.t s.text) i (omega (arith, r)));
    }

-- ---- what a tile takes
-- A test of words that goes by replaced words, as the match does.
abbrev pub ByReplaced : (ℕ → Bool) → Type 0
ByReplaced test = (w : ℕ) → test (replaced w) ≡ test w

-- From s to s' these words were taken from the pattern, and from the text words that match them; n of them are calls.
pub record Takes (s s' : State) (n : ℕ) : Type 0 where
  pub words : List ℕ
  pub whole : tally is_call words ≡ n
  pub from_pattern : (test : ℕ → Bool) → test 0 ≡ false → tally test s.pattern ≡ tally test s'.pattern + tally test words
  pub from_text : (test : ℕ → Bool) → test 0 ≡ false → ByReplaced test → tally test s.text ≡ tally test s'.text + tally test words

pub takes_none : (s : State) → Takes s s 0
unfolding tally
takes_none s = record { words = []; whole = refl; from_pattern = λ test z. omega arith; from_text = λ test z r. omega arith }

pub takes_more : (s₀ s s' : State) (m n : ℕ) → Takes s₀ s m → Takes s s' n → Takes s₀ s' (m + n)
takes_more s₀ s s' m n a b =
    record {
      words = a.words ++ b.words;
      whole = omega (arith, tally_append is_call a.words b.words, a.whole, b.whole);
      from_pattern = λ test z. omega (arith, tally_append test a.words b.words, a.from_pattern test z, b.from_pattern test z);
      from_text = λ test z r. omega (arith, tally_append test a.words b.words, a.from_text test z r, b.from_text test z r);
    }

-- The words of a tile are calls, and once they are replaced the same on both sides.
same_words : (s : State) (k : Tile) → Lies s k → map replaced (take k.len (drop k.p s.pattern)) ≡ map replaced (take k.len (drop k.t s.text))
same_words s k l =
    match_words (drop k.p s.pattern) (drop k.t s.text) k.len
    (omega (arith, length-drop k.p s.pattern, l.in_pattern))
    (omega (arith, length-drop k.t s.text, l.in_text))
    (λ i h. rw (get_or-drop k.p s.pattern i 0, get_or-drop k.t s.text i 0) (l.matching i h))

-- So a test that goes by replaced words counts as many on either side.
same_count : (s : State) (k : Tile) → Lies s k → (test : ℕ → Bool) → ByReplaced test → tally test (take k.len (drop k.p s.pattern)) ≡ tally test (take k.len (drop k.t s.text))
same_count s k l test r = sym (tally_map test replaced r _) ∙ (ap (tally test) (same_words s k l) ∙ tally_map test replaced r _)

pub takes_tile : (s : State) (k : Tile) → Lies s k → Takes s (lay s k) k.len
unfolding lay
takes_tile s k l =
    record {
      words = take k.len (drop k.p s.pattern);
      whole =
          tally_all is_call k.len (drop k.p s.pattern) (omega (arith, length-drop k.p s.pattern, l.in_pattern))
          (λ i m. rw (get_or-drop k.p s.pattern i 0) (match_call _ _ (l.matching i m)));
      from_pattern = λ test z. tally_mark test z k.p k.len s.pattern;
      from_text = λ test z r. rw (same_count s k l test r) (tally_mark test z k.t k.len s.text);
    }

-- ---- the fuel suffices
-- Free calls of the pattern: each tile takes some.
abbrev pub calls : State → ℕ
calls s = tally is_call s.pattern

pub zero_no_call : is_call 0 ≡ false
zero_no_call = call_below 0 (omega arith)

pub calls_fall : (s : State) → 1 ≤ (best s).len → calls (lay s (best s)) < calls s
calls_fall s h = let r = takes_tile s (best s) (best_lies s h) in omega (arith, r.whole, r.from_pattern is_call zero_no_call)

-- The tiling is what the greedy choice lays, whatever the fuel.
pub tiling_greedy : (minimum : ℕ) → 1 ≤ minimum → (s : State) → Greedy best size lay minimum s (tiling minimum s)
unfolding tiling_by
tiling_greedy minimum one s = greedy_meets best size lay calls calls_fall minimum one (length s.pattern) s (tally_length is_call s.pattern)

-- The tiling's equation: the best is laid and then what is left is tiled, or nothing long enough is left.
pub tiling_equation : (minimum : ℕ) → 1 ≤ minimum → (s : State) → tiling minimum s ≡ elim (leb minimum (best s).len) [ true ↦ best s ∷ tiling minimum (lay s (best s)) | false ↦ [] ]
tiling_equation minimum one s = go (dec_le minimum (best s).len)
  where
    go : Dec (minimum ≤ (best s).len) → tiling minimum s ≡ elim (leb minimum (best s).len) [ true ↦ best s ∷ tiling minimum (lay s (best s)) | false ↦ [] ]
    go (yes h) = rw (le-leb minimum (best s).len h) (only (tiling_greedy minimum one s) (more h (tiling_greedy minimum one (lay s (best s)))))
    go (no h) =
        let l : (best s).len < minimum = omega (arith, h) in
        rw (lt-leb minimum (best s).len l) (only (tiling_greedy minimum one s) (done l))

-- ---- every tile lies in the sequences as handed in
-- Words that match stand at the start too.
pub lies_before : (s₀ s : State) (k : Tile) → Worked s₀ s → Lies s k → Lies s₀ k
lies_before s₀ s k r l =
    record {
      in_pattern = omega (arith, l.in_pattern, r.of_pattern.same);
      in_text = omega (arith, l.in_text, r.of_text.same);
      matching = λ i h. match_kept s₀.pattern s.pattern s₀.text s.text r.of_pattern r.of_text (k.p + i) (k.t + i) (l.matching i h);
    }

pub laid_lie : (s₀ : State) {minimum : ℕ} {s : State} {ks : List Tile} → 1 ≤ minimum → Worked s₀ s → Greedy best size lay minimum s ks → Each (Lies s₀) ks
laid_lie s₀ one w (done h) = none
laid_lie s₀ one w (more {s = s} h g) =
    also (lies_before s₀ s (best s) w (best_lies s (omega arith))) (laid_lie s₀ one (worked_lay s₀ s (best s) w) g)

-- "Nothing is listed but the greedy string tiling": each tile lies within both sequences and its words match one by one.
pub tiles_lie : (minimum : ℕ) → 1 ≤ minimum → (s : State) → Each (Lies s) (tiling minimum s)
tiles_lie minimum one s = laid_lie s one (worked_none s) (tiling_greedy minimum one s)
