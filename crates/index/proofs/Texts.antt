-- The text's windows, stretch by stretch from right to left. A window with a marked word is not linked, so what is linked from one stretch on
-- is linked from the end of the stretch before it on; and hashing that one changes no hash of a window behind it.
-- Assumes nothing.
use Prim.Native.Nat.{ℕ, ◌+◌, ◌-◌, ◌≤◌, ◌<◌}
use native.Mathlib.Decide.{dec_lt}
use native.Mathlib.Omega.{arith}
use mathlib.Core.Path.{◌≡◌, refl, sym, ◌∙◌, ap, subst}
use mathlib.Core.Bool.{true, false, ◌&&◌}
use mathlib.Core.List.{List}
use lib.Dec.{eqb}
use lib.ListN.{get_or, replicate, get_or-replicate}
use Rattle.tiling.specs.Tiling.{State}
use Rattle.window.specs.Hash.{bucket}
use Rattle.window.specs.HashList.{hash_at}
use Rattle.chain.specs.Stretches.{StretchBefore}
use Rattle.bounds.specs.Workspace.{Space, state, bounds_from}
use Rattle.bounds.specs.declared.Job.{Job}
use Rattle.bounds.proofs.Workspace.{pattern_length, text_length}
use Rattle.index.specs.Indexed.{pattern_hash, text_hash, link, slot}
use Rattle.index.specs.Built.{free_at, AllFree, raised_from, listed, in_bucket, next_in, entry_of, PartHashed, Stretched, RowsFrom, LinkedFrom, Linked, TextsFrom}
use Rattle.index.specs.declared.pass.Pass.{Pass}
use Rattle.index.proofs.First.{next_none, next_skip, some_none, some_skip}
use Rattle.index.proofs.Free.{Busy, busy_by, busy_text, busy_listed, not_free}
use Rattle.index.proofs.Linking.{linked_same}
use Rattle.index.proofs.Parts.{part_state, part_later, part_space, text_hashes}
use Rattle.index.proofs.Stretches.{Walk, walk_first, walk_here, busy_between, end_marked, free_within}

-- ---- windows with a marked word are passed over
module _ (x : Pass) (ws hs fs : List ℕ) (a b : ℕ) (low : a ≤ b) (busy : (q : ℕ) → a ≤ q → q < b → Busy x.s (state x.job ws).text q) where
  not_listed : (q : ℕ) → a ≤ q → q < b → listed x ws q ≡ false
  not_listed q k l = busy_listed x ws q (busy q k l)

  linked_skip : LinkedFrom x ws hs fs b → LinkedFrom x ws hs fs a
  linked_skip r =
      record {
        within = omega (arith, r.within);
        heads = λ c l. r.heads c l ∙ sym (next_skip (in_bucket x ws c) x.job.m a b low r.within (λ q k m. rw (not_listed q k m) refl));
        links = λ u k l e. links u k l e (dec_lt u b);
        entries = λ i l. r.entries i l ∙ ap (entry_of (raised_from x ws i 0)) (sym (some_skip (λ u. listed x ws u && eqb (slot (text_hash x.job ws u)) i) x.job.m a b low r.within (λ q k m. rw (not_listed q k m) refl)));
      }
    where
      links : (u : ℕ) → a ≤ u → u < x.job.m → listed x ws u ≡ true → Dec (u < b) → link x.job ws u ≡ next_in x ws (bucket x.buckets (text_hash x.job ws u)) (u + 1)
      links u k l e (yes m) = absurd (let o : ◌≡◌ {A = ℕ} 0 1 = (let g : false ≡ true = sym (not_listed u k m) ∙ e in cc) in omega arith)
      links u k l e (no m) = r.links u (omega (arith, m)) l e

  texts_skip : TextsFrom x ws hs fs b → TextsFrom x ws hs fs a
  texts_skip r =
      record {
        space = r.space;
        of_pattern = r.of_pattern;
        of_text = λ u k free. go u k free (dec_lt u b);
        linked = linked_skip r.linked;
      }
    where
      go : (u : ℕ) → a ≤ u → AllFree x.s (state x.job ws).text u → Dec (u < b) → text_hash x.job ws u ≡ hash_at x.multiplier x.s (state x.job ws).text u
      go u k free (yes l) = absurd (not_free x.s (state x.job ws).text u (busy u k l) free)
      go u k free (no l) = r.of_text u (omega (arith, l)) free

-- ---- one stretch
-- It may be too short for a window.
pub texts_short : (x : Pass) (ws hs fs : List ℕ) (from to : ℕ) → from ≤ to → (0 < to → Stretched (state x.job ws).text from to) → TextsFrom x ws hs fs to → to - from < x.s → TextsFrom x ws hs fs from
texts_short x ws hs fs from to ordered st r short = go (dec_lt 0 to)
  where
    go : Dec (0 < to) → TextsFrom x ws hs fs from
    go (yes some) =
        texts_skip x ws hs fs from to ordered
        (λ q k l. busy_by x.s (state x.job ws).text q to (omega arith) (omega (arith, (st some).some)) (st some).closed)
        r
    go (no none) = let e : from ≡ to = omega (arith, none) in rw e r

module _ (x : Pass) (ws hs fs : List ℕ) (from to : ℕ) (st : Stretched (state x.job ws).text from to) (r : TextsFrom x ws hs fs to) where
  abbrev j : Job
  j = x.job

  abbrev s : ℕ
  s = x.s

  inside : to ≤ j.m
  inside = omega (arith, st.within, text_length j ws r.space)

  module _ (long : s ≤ to - from) (ws' : List ℕ) (h : PartHashed x (j.n + from) (to - from) ws ws') where
    fits : j.n + from + (to - from) ≤ j.n + j.m
    fits = omega (arith, inside, st.some)

    part_same : state j ws' ≡ state j ws
    part_same = part_state x (j.n + from) (to - from) ws ws' h r.space fits

    pub texts_space : Space j ws'
    texts_space = part_space x (j.n + from) (to - from) ws ws' h r.space fits

    pub texts_ordered : from ≤ to
    texts_ordered = omega (arith, st.some)

    -- No call stands where the stretch ends.
    pub texts_end : 0 ≡ free_at j ws' to
    texts_end =
        let busy : Busy 1 (state j ws').text to = subst (λ (z : State). Busy 1 z.text to) (sym part_same) (busy_by 1 (state j ws).text to to (omega arith) (omega arith) st.closed) in
        omega (arith, busy_text j ws' 1 to busy)

    kept_row : (p : ℕ) → p < j.n → pattern_hash j ws' p ≡ pattern_hash j ws p
    kept_row p l = h.before (j.n + j.m + p) (omega arith)

    kept_text : (u : ℕ) → to ≤ u → text_hash j ws' u ≡ text_hash j ws u
    kept_text u l = h.after (j.n + j.m + j.n + u) (omega (arith, st.some, x.one))

    kept_link : (u : ℕ) → link j ws' u ≡ link j ws u
    kept_link u = part_later x (j.n + from) (to - from) ws ws' h r.space fits (bounds_from j + j.n + u) (omega arith)

    pub texts_linked : LinkedFrom x ws' hs fs to
    texts_linked =
        linked_same x ws ws' hs fs to part_same kept_row (λ u k l. kept_text u k) inside r.linked.heads
        (λ u k l e. kept_link u ∙ r.linked.links u k l e)
        r.linked.entries

    module _ (ws₂ hs' fs' : List ℕ) (done : Linked x ws' ws₂ hs' fs' from) where
      pub texts_state : state j ws₂ ≡ state j ws
      texts_state = done.same ∙ part_same

      -- The windows that reach past the stretch are not free.
      reaching : (u : ℕ) → to + 1 - s ≤ u → u < to → Busy s (state j ws).text u
      reaching u k l = busy_by s (state j ws).text u to (omega arith) (omega arith) st.closed

      new : (u : ℕ) → from ≤ u → u < to + 1 - s → text_hash j ws' u ≡ hash_at x.multiplier s (state j ws).text u
      new u k l =
          let e : j.n + from + (u - from) ≡ j.n + u = omega arith in
          let at : j.n + j.m + j.n + u ≡ j.n + j.m + (j.n + u) = omega arith in
          let there = h.hashed (u - from) (omega arith) in
          ap (λ i. get_or ws' i 0) at ∙ (rw e at there ∙ text_hashes x ws r.space u (omega (arith, inside)))

      hash_before : (u : ℕ) → from ≤ u → AllFree s (state j ws).text u → Dec (u < to + 1 - s) → Dec (u < to) → text_hash j ws' u ≡ hash_at x.multiplier s (state j ws).text u
      hash_before u k free (yes l) d = new u k l
      hash_before u k free (no l) (yes d) = absurd (not_free s (state j ws).text u (reaching u (omega (arith, l)) d) free)
      hash_before u k free (no l) (no d) = kept_text u (omega (arith, d)) ∙ r.of_text u (omega (arith, d)) free

      row_within : (p : ℕ) → AllFree s (state j ws).pattern p → p < j.n
      row_within p free = omega (arith, free_within s (state j ws).pattern p x.one free, pattern_length j ws r.space)

      text_within : (u : ℕ) → AllFree s (state j ws).text u → u < j.m
      text_within u free = omega (arith, free_within s (state j ws).text u x.one free, text_length j ws r.space)

      entered : TextsFrom x ws₂ hs' fs' from
      entered =
          record {
            space = done.space;
            of_pattern = λ p free.
                let free' : AllFree s (state j ws).pattern p = subst (λ (z : State). AllFree s z.pattern p) texts_state free in
                let l : p < j.n = row_within p free' in
                done.of_pattern p l
                ∙ (kept_row p l
                ∙ (r.of_pattern p free' ∙ ap (λ (z : State). hash_at x.multiplier s z.pattern p) (sym texts_state)));
            of_text = λ u k free.
                let free' : AllFree s (state j ws).text u = subst (λ (z : State). AllFree s z.text u) texts_state free in
                done.of_text u (text_within u free')
                ∙ (hash_before u k free' (dec_lt u (to + 1 - s)) (dec_lt u to)
                ∙ ap (λ (z : State). hash_at x.multiplier s z.text u) (sym texts_state));
            linked = done.linked;
          }

    module _ (x' : Pass) (e : x' ≡ x) (ws₂ hs' fs' : List ℕ) (done : Linked x' ws' ws₂ hs' fs' from) where
      pub same_texts : state x'.job ws₂ ≡ state j ws
      same_texts = rw e (texts_state ws₂ hs' fs' (rw e at done))

      pub texts_entered : TextsFrom x' ws₂ hs' fs' from
      texts_entered = rw e (entered ws₂ hs' fs' (rw e at done))

-- ---- stretch by stretch
pub record TextWalk (x : Pass) (before : State) (ws hs fs : List ℕ) (end : ℕ) : Type 0 where
  pub same : state x.job ws ≡ before
  pub walk : Walk (state x.job ws).text end
  pub texts : TextsFrom x ws hs fs end

none_texts : (x : Pass) (ws hs fs : List ℕ) → hs ≡ replicate 1024 2048 → RowsFrom x ws fs 0 → TextsFrom x ws hs fs x.job.m
none_texts x ws hs fs fresh rows =
    record {
      space = rows.space;
      of_pattern = λ p free. rows.hashed p (omega arith) free;
      of_text = λ u k free. absurd (not_free x.s (state x.job ws).text u (past u k) free);
      linked =
          record {
            within = omega arith;
            heads = λ b l. rw fresh (get_or-replicate {A = ℕ} 1024 b 2048 0 l) ∙ sym (next_none (in_bucket x ws b) x.job.m);
            links = λ u a b. absurd (omega arith);
            entries = λ i l. rw (some_none (λ u. listed x ws u && eqb (slot (text_hash x.job ws u)) i) x.job.m) (rows.raised.entries i l);
          };
    }
  where
    past : (u : ℕ) → x.job.m ≤ u → Busy x.s (state x.job ws).text u
    past u k = busy_by x.s (state x.job ws).text u u (omega arith) (omega (arith, x.one)) (end_marked (state x.job ws).text u (omega (arith, text_length x.job ws rows.space)))

pub text_walk_first : (x : Pass) (ws hs fs : List ℕ) → hs ≡ replicate 1024 2048 → RowsFrom x ws fs 0 → TextWalk x (state x.job ws) ws hs fs x.job.m
text_walk_first x ws hs fs fresh rows =
    record {
      same = refl;
      walk = walk_first (state x.job ws).text x.job.m (sym (text_length x.job ws rows.space));
      texts = none_texts x ws hs fs fresh rows;
    }

module _ (x : Pass) (before : State) (ws hs fs : List ℕ) (end : ℕ) (w : TextWalk x before ws hs fs end) (from to : ℕ) (b : StretchBefore (state x.job ws).text end from to) where
  pub text_walk_here : 0 < to → Stretched (state x.job ws).text from to
  text_walk_here = walk_here (state x.job ws).text end from to w.walk b

  pub text_walk_texts : TextsFrom x ws hs fs to
  text_walk_texts = texts_skip x ws hs fs to end b.within (busy_between x.s (state x.job ws).text end from to x.one b) w.texts
