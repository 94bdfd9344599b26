-- What a call gives where it is accepted. It has compared at minimum 1, and entry k, what the first tiles of at least k + 1 words
-- cover, is what the tiles at minimum k + 1 cover, for these are the first ones, down to the last that is long enough.
-- Assumes nothing.
use Rattle.std.specs.Prelude.{Ok}
use Prim.Native.Nat.{ℕ, ◌+◌, ◌*◌, ◌≤◌, ◌<◌}
use native.Mathlib.Omega.{arith}
use mathlib.Core.Path.{◌≡◌, refl, sym, ◌∙◌, ap, subst}
use mathlib.Core.List.{List, ◌∷◌, ◌++◌}
use borrow.Author.Tests.{ltb-false}
use lib.Dec.{ltb}
use lib.ListN.{length}
use Rattle.refusal.proofs.Causes.{clear}
use Rattle.buffer.specs.Buffer.{onto, tabulate}
use Rattle.buffer.proofs.Buffer.{tabulate_same}
use Rattle.tiling.specs.Each.{Each, none, also}
use Rattle.tiling.specs.Greedy.{Begins}
use Rattle.tiling.specs.Listing.{Entry, listing, covered}
use Rattle.tiling.specs.Comparing.{Comparable, InRange, Roomy}
use Rattle.tiling.specs.Answer.{Compares}
use Rattle.tiling.specs.Demand.{long, tiles_in, Demands}
use Rattle.tiling.specs.Outcome.{compared_as}
use Rattle.tiling.specs.declared.Compared.{Compared}
use Rattle.tiling.specs.declared.Summary.{Summary}
use Rattle.tiling.proofs.Comparing.{comparable, search_in_range, fast_roomy, fast_rest}
use Rattle.tiling.proofs.Demand.{listing_begins, tiles_fit}
use Rattle.tiling.proofs.Answers.{answers_listed, answers_demands}
use Rattle.cover.specs.Promise.{cover_refusal, cover_at, cover_buffer, EveryMinimum}
use Rattle.cover.specs.Walked.{first_long, cover_of}
use Rattle.cover.proofs.Walking.{first_here, first_none}

-- ---- the first tiles that are long enough
first_exact : {n : ℕ} {ks rest : List Entry} → Each (λ e. n ≤ e.len) ks → Each (λ e. e.len < n) rest → first_long n (ks ++ rest) ≡ ks
unfolding first_long
first_exact none none = refl
first_exact {n} none (also {x = e} {xs = es} h short) = first_none n e es h
first_exact {n} {rest = rest} (also {x = e} {xs = es} h enough) short =
    first_here n e (es ++ rest) h ∙ ap (λ xs. e ∷ xs) (first_exact enough short)

first_begins : {n : ℕ} {ks ls : List Entry} → Begins long n ks ls → first_long n ls ≡ ks
first_begins r = rw r.whole (first_exact r.enough r.short)

cover_of_lem : (first second : List ℕ) (k : ℕ) → cover_of (listing first second 1) k ≡ cover_at first second k
cover_of_lem first second k = ap covered (first_begins (listing_begins first second 1 (k + 1) (omega arith) (omega arith)))

-- ---- what was compared
-- What was compared are the sequences of the call, at minimum 1.
pub compared_those : {f s first second : List ℕ} {m : ℕ} {ws b : List ℕ} {a : Compared} {ws' b' : List ℕ} → f ≡ first → s ≡ second → m ≡ 1 → Compares 0 f s m ws b a ws' b' → Compares 0 first second 1 ws b a ws' b'
compared_those e g h c = rw (← e, ← g, ← h) c

not_refused : {first second ws b : List ℕ} {a : Compared} {ws' b' : List ℕ} → Compares 0 first second 1 ws b a ws' b' → a.refusal ≡ 0
not_refused c = ap (λ x. x.refusal) c.answer

listed_entries : (first second ws b : List ℕ) (a : Compared) (ws' b' e e' : List ℕ) → Compares 0 first second 1 ws b a ws' b' → e' ≡ onto (tabulate (cover_of (tiles_in a.tiles b')) 256) e → e' ≡ onto (tabulate (cover_at first second) 256) e
listed_entries first second ws b a ws' b' e e' c f =
    let same : tabulate (cover_of (tiles_in a.tiles b')) 256 ≡ tabulate (cover_at first second) 256 =
    ap (λ es. tabulate (cover_of es) 256) (answers_listed c (not_refused c)) ∙ tabulate_same (cover_of (listing first second 1)) (cover_at first second) (cover_of_lem first second) 256 in
    f ∙ ap (λ xs. onto xs e) same

-- ---- where no cause holds
pub record Accepted (first second : List ℕ) (buckets start workspace tiles entries : ℕ) : Type 0 where
  pub can : Comparable first second 1
  pub set : InRange 1 buckets start
  pub room : Roomy (length first) (length second) 1 workspace tiles
  pub enough : 256 ≤ entries

pub accepted : (first second : List ℕ) (buckets start workspace tiles entries : ℕ) → 0 ≡ cover_refusal first second buckets start workspace tiles entries → Accepted first second buckets start workspace tiles entries
accepted first second buckets start workspace tiles entries z =
    record {
      can = comparable first second 1 _ (sym z);
      set = search_in_range first second 1 buckets start _ (sym z);
      room = fast_roomy first second 1 workspace tiles buckets start _ (sym z);
      enough = ltb-false entries 256 (clear (ltb entries 256) 11 0 (omega arith) (fast_rest first second 1 workspace tiles buckets start _ (sym z))).first;
    }

-- Then the tiles stand whole in the buffer, and what they cover is at most a length.
module _ (first second : List ℕ) (buckets start : ℕ) (ws b : List ℕ) (entries : ℕ) (k : Accepted first second buckets start (length ws) (length b) entries) (a : Summary) (ws' b' : List ℕ) (c : Compares 0 first second 1 ws b (compared_as (Ok a)) ws' b') where
  demands : Demands first second 1 (compared_as (Ok a)) b'
  demands = answers_demands c (not_refused c) k.can

  pub tiles_whole : length b' ≡ length b → 3 * a.tiles ≤ length b'
  tiles_whole same =
      let counted : a.tiles ≡ length (listing first second 1) = demands.tiles ∙ ap length (answers_listed c (not_refused c)) in
      omega (arith, counted, tiles_fit first second 1 (omega arith), k.room.tile_room)

  pub tiles_few : covered (tiles_in a.tiles b') ≤ 2048
  tiles_few = omega (arith, demands.tiled.within_first, k.can.first_short)

-- ---- the promise
pub every_accepted : (first second : List ℕ) (buckets start : ℕ) (ws b e : List ℕ) → 0 ≡ cover_refusal first second buckets start (length ws) (length b) (length e) → (a : Summary) (ws' b' e' : List ℕ) → Compares 0 first second 1 ws b (compared_as (Ok a)) ws' b' → e' ≡ onto (tabulate (cover_of (tiles_in a.tiles b')) 256) e → EveryMinimum first second buckets start ws b e (compared_as (Ok a)) ws' b' e'
every_accepted first second buckets start ws b e z a ws' b' e' c f =
    record {
      compares = subst (λ n. Compares n first second 1 ws b (compared_as (Ok a)) ws' b') z c;
      entries = subst (λ n. e' ≡ cover_buffer n first second e) z (listed_entries first second ws b (compared_as (Ok a)) ws' b' e e' c f);
    }
