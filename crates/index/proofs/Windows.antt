-- What the search may go by. Where a run of s words begins, all its words are calls, so both windows are free; they are the same words once
-- replaced and so have the same hash, the pattern's has set its entry, and the text's is linked; so no walk along its bucket steps over it.
-- Assumes nothing.
use Prim.Native.Nat.{ℕ, ◌+◌, ◌-◌, ◌≤◌, ◌<◌}
use native.Mathlib.Omega.{arith}
use mathlib.Core.Path.{◌≡◌, refl, sym, ◌∙◌, ap, subst}
use mathlib.Core.Bool.{true, ◌&&◌}
use mathlib.Core.List.{List}
use borrow.Author.Tests.{le-leb, eq-eqb, eqb-true}
use lib.Dec.{eqb}
use lib.ListN.{drop, get_or}
use Rattle.symbol.proofs.Word.{and_both, and_left, and_right}
use Rattle.tiling.specs.Tiling.{State, run_at}
use Rattle.tiling.proofs.Run.{run_words}
use Rattle.window.specs.Hash.{words_hash, bucket}
use Rattle.window.specs.HashList.{hash_at}
use Rattle.bounds.specs.Workspace.{Space, state}
use Rattle.index.specs.Indexed.{pattern_hash, text_hash, link, slot, Indexed, Filtered}
use Rattle.index.specs.Built.{free_at, AllFree, raises, raised_from, listed, in_bucket, next_in, linked_from, entry_of, TextsFrom, Built}
use Rattle.index.specs.declared.pass.Pass.{Pass}
use Rattle.index.proofs.Bucket.{bucket_below, slot_below}
use Rattle.index.proofs.First.{first_least, first_most, first_passes, some_most}
use Rattle.index.proofs.Free.{free_run, run_pattern, run_text, test_free}
use Rattle.index.proofs.Kept.{row_inside, column_inside}

-- ---- what the search may go by
module _ (x : Pass) (ws hs fs : List ℕ) (space : Space x.job ws) (of_pattern : (p : ℕ) → AllFree x.s (state x.job ws).pattern p → pattern_hash x.job ws p ≡ hash_at x.multiplier x.s (state x.job ws).pattern p) (of_text : (t : ℕ) → AllFree x.s (state x.job ws).text t → text_hash x.job ws t ≡ hash_at x.multiplier x.s (state x.job ws).text t) (heads : (b : ℕ) → b < 1024 → get_or hs b 0 ≡ next_in x ws b 0) (links : (t : ℕ) → t < x.job.m → listed x ws t ≡ true → link x.job ws t ≡ next_in x ws (bucket x.buckets (text_hash x.job ws t)) (t + 1)) (entries : (i : ℕ) → i < 4096 → get_or fs i 0 ≡ entry_of (raised_from x ws i 0) (linked_from x ws i 0)) where
  -- A number past the text is none of its positions.
  passes : (b t : ℕ) → next_in x ws b t < x.job.m → in_bucket x ws b (next_in x ws b t) ≡ true
  passes b t l = first_passes (in_bucket x ws b) t (x.job.m - t) (omega (arith, space.short_text))

  -- The link of a window that is linked in a bucket is the next one there.
  link_in : (b v : ℕ) → v < x.job.m → in_bucket x ws b v ≡ true → link x.job ws v ≡ next_in x ws b (v + 1)
  link_in b v l e =
      let c : bucket x.buckets (text_hash x.job ws v) ≡ b = eqb-true _ _ (and_right (listed x ws v) (eqb (bucket x.buckets (text_hash x.job ws v)) b) e) in
      links v l (and_left (listed x ws v) (eqb (bucket x.buckets (text_hash x.job ws v)) b) e) ∙ ap (λ k. next_in x ws k (v + 1)) c

  module _ (p u : ℕ) (h : x.s ≤ run_at (state x.job ws) p u) where
    pattern_free : AllFree x.s (state x.job ws).pattern p
    pattern_free = run_pattern (state x.job ws).pattern (state x.job ws).text p u x.s h

    text_free : AllFree x.s (state x.job ws).text u
    text_free = run_text (state x.job ws).pattern (state x.job ws).text p u x.s h

    same_hash : text_hash x.job ws u ≡ pattern_hash x.job ws p
    same_hash =
        let ps = drop p (state x.job ws).pattern in
        let ts = drop u (state x.job ws).text in
        of_text u text_free ∙ (ap (words_hash x.multiplier) (sym (run_words ps ts x.s h)) ∙ sym (of_pattern p pattern_free))

    inside : u < x.job.m
    inside = column_inside x.job ws p u (omega (arith, h, x.one))

    free : x.s ≤ free_at x.job ws u
    free = omega (arith, h, free_run x.job ws p u)

    in_row : p < x.job.n
    in_row = row_inside x.job ws p u (omega (arith, h, x.one))

    -- The pattern has a window with its entry, so its window is linked.
    raised : raised_from x ws (slot (pattern_hash x.job ws p)) 0 ≡ true
    raised =
        some_most (raises x ws (slot (pattern_hash x.job ws p))) x.job.n p space.short_pattern
        (and_both (test_free x.s (state x.job ws).pattern p pattern_free) (eq-eqb (slot (pattern_hash x.job ws p)) (slot (pattern_hash x.job ws p)) refl))
        in_row

    is_listed : listed x ws u ≡ true
    is_listed = and_both (le-leb x.s (free_at x.job ws u) free) (rw same_hash raised)

    found : in_bucket x ws (bucket x.buckets (pattern_hash x.job ws p)) u ≡ true
    found =
        and_both is_listed
        (eq-eqb (bucket x.buckets (text_hash x.job ws u)) (bucket x.buckets (pattern_hash x.job ws p)) (ap (bucket x.buckets) same_hash))

    not_past : (t : ℕ) → t ≤ u → next_in x ws (bucket x.buckets (pattern_hash x.job ws p)) t ≤ u
    not_past t l = first_most (in_bucket x ws (bucket x.buckets (pattern_hash x.job ws p))) t (x.job.m - t) u found l (omega (arith, inside))

    in_both : linked_from x ws (slot (pattern_hash x.job ws p)) 0 ≡ true
    in_both =
        some_most (λ v. listed x ws v && eqb (slot (text_hash x.job ws v)) (slot (pattern_hash x.job ws p))) x.job.m u space.short_text
        (and_both is_listed (eq-eqb (slot (text_hash x.job ws u)) (slot (pattern_hash x.job ws p)) (ap slot same_hash)))
        inside

    entered : get_or fs (slot (pattern_hash x.job ws p)) 0 ≡ 2
    entered = rw (entries (slot (pattern_hash x.job ws p)) (slot_below (pattern_hash x.job ws p)), raised, in_both) refl

  pub filtered : Filtered x ws fs
  filtered = record { known = entered }

  pub indexed : Indexed x ws hs
  indexed =
      record {
        linked = in_bucket x ws;
        least = x.one;
        kin = same_hash;
        head = λ p u h.
            let b = bucket x.buckets (pattern_hash x.job ws p) in
            omega (arith, heads b (bucket_below x.buckets (pattern_hash x.job ws p) x.some_bucket x.few_buckets), not_past p u h 0 (omega arith));
        next = λ p u v h l e.
            omega (arith, link_in (bucket x.buckets (pattern_hash x.job ws p)) v (omega (arith, inside p u h)) e, not_past p u h (v + 1) (omega arith));
        head_linked = λ b l k. rw (heads b l) (passes b 0 (omega (arith, heads b l)));
        next_linked = λ b v l e k. rw (link_in b v l e) (passes b (v + 1) (omega (arith, link_in b v l e)));
        rising = λ b v l e. omega (arith, link_in b v l e, first_least (in_bucket x ws b) (v + 1) (x.job.m - (v + 1)) (omega (arith, space.short_text)));
      }

-- ---- the whole index
module _ (x : Pass) (ws ws₂ hs fs : List ℕ) (same : state x.job ws₂ ≡ state x.job ws) (t : TextsFrom x ws₂ hs fs 0) where
  text : (u : ℕ) → AllFree x.s (state x.job ws₂).text u → text_hash x.job ws₂ u ≡ hash_at x.multiplier x.s (state x.job ws₂).text u
  text u free = t.of_text u (omega arith) free

  links : (u : ℕ) → u < x.job.m → listed x ws₂ u ≡ true → link x.job ws₂ u ≡ next_in x ws₂ (bucket x.buckets (text_hash x.job ws₂ u)) (u + 1)
  links u l e = t.linked.links u (omega arith) l e

  built : Built x ws ws₂ hs fs
  built =
      record {
        space = t.space;
        same = same;
        of_pattern = λ p free.
            t.of_pattern p (subst (λ (z : State). AllFree x.s z.pattern p) (sym same) free)
            ∙ ap (λ (z : State). hash_at x.multiplier x.s z.pattern p) same;
        of_text = λ u free.
            text u (subst (λ (z : State). AllFree x.s z.text u) (sym same) free)
            ∙ ap (λ (z : State). hash_at x.multiplier x.s z.text u) same;
        heads = t.linked.heads;
        links = links;
        entries = t.linked.entries;
        indexed = indexed x ws₂ hs fs t.space t.of_pattern text t.linked.heads links t.linked.entries;
        filtered = filtered x ws₂ hs fs t.space t.of_pattern text t.linked.heads links t.linked.entries;
      }

pub built_all : (x x₁ x₂ : Pass) (ws ws₁ ws₂ hs fs : List ℕ) → x₁ ≡ x → x₂ ≡ x₁ → state x₁.job ws₁ ≡ state x.job ws → state x₂.job ws₂ ≡ state x₁.job ws₁ → TextsFrom x₂ ws₂ hs fs 0 → Built x ws ws₂ hs fs
built_all x x₁ x₂ ws ws₁ ws₂ hs fs d e first second t =
    let k : x₂ ≡ x = e ∙ d in
    built x ws ws₂ hs fs (rw k at (second ∙ first)) (rw k at t)
