-- One position of the text after another, from right to left. The head of a bucket is its first linked window from here on; so a link that
-- takes it over is the next one after this, and where the window at t is free and the pattern has its entry it becomes the head.
-- Assumes nothing.
use Prim.Native.Nat.{ℕ, ◌+◌, ◌-◌, ◌≤◌, ◌<◌}
use native.Mathlib.Decide.{dec_lt, ℕ_discrete}
use native.Mathlib.Omega.{arith}
use mathlib.Core.Path.{◌≡◌, refl, sym, ◌∙◌, ap}
use mathlib.Core.Bool.{Bool, true, false, ◌&&◌}
use mathlib.Core.List.{List}
use borrow.Author.Tests.{eq-eqb, ne_eqb}
use lib.Dec.{leb, ltb, eqb}
use Rattle.symbol.proofs.Word.{and_right}
use lib.ListN.{length, drop, get_or, set, get_or-eq_default}
use lib.Seq.{get_or-set_same, get_or-set_other, drop-set-lt}
use Rattle.tiling.specs.Stretch.{free_first}
use Rattle.tiling.specs.Tiling.{State}
use Rattle.window.specs.Hash.{bucket}
use Rattle.bounds.specs.Workspace.{Space, state, bounds_from, chains_from}
use Rattle.bounds.specs.declared.Job.{Job}
use Rattle.bounds.proofs.Workspace.{state_set, space_kept}
use Rattle.index.specs.Indexed.{pattern_hash, text_hash, link, slot}
use Rattle.index.specs.Built.{free_at, raises, raised_from, listed, in_bucket, next_in, linked_from, entry_of, takes, Entered, LinkedFrom, Linked}
use Rattle.index.specs.declared.pass.Pass.{Pass}
use Rattle.index.proofs.Bucket.{bucket_below, slot_below}
use Rattle.index.proofs.First.{first_least, first_same, next_here, next_later, some_here, some_later, some_same}
use Rattle.index.proofs.Free.{free_same}

-- ---- what is linked is told by words and hashes
module _ (x : Pass) (ws ws' hs fs : List ℕ) (t : ℕ) (same : state x.job ws' ≡ state x.job ws) (of_pattern : (p : ℕ) → p < x.job.n → pattern_hash x.job ws' p ≡ pattern_hash x.job ws p) (of_text : (u : ℕ) → t ≤ u → u < x.job.m → text_hash x.job ws' u ≡ text_hash x.job ws u) where
  same_raises : (k q : ℕ) → q < x.job.n → raises x ws k q ≡ raises x ws' k q
  same_raises k q l =
      ap (λ (z : State). leb x.s (free_first (drop q z.pattern)) && eqb (slot (pattern_hash x.job ws q)) k) (sym same)
      ∙ rw (of_pattern q l) refl

  same_raised : (k : ℕ) → raised_from x ws k 0 ≡ raised_from x ws' k 0
  same_raised k = some_same (raises x ws k) (raises x ws' k) 0 (x.job.n - 0) (λ q a l. same_raises k q (omega arith))

  same_listed : (u : ℕ) → t ≤ u → u < x.job.m → listed x ws u ≡ listed x ws' u
  same_listed u a l = rw (free_same x.job ws ws' u same, of_text u a l, same_raised (slot (text_hash x.job ws u))) refl

  same_next : (b u : ℕ) → t ≤ u → next_in x ws b u ≡ next_in x ws' b u
  same_next b u a =
      first_same (in_bucket x ws b) (in_bucket x ws' b) u (x.job.m - u)
      (λ k c l. let z : k < x.job.m = omega arith in let y : t ≤ k = omega arith in rw (same_listed k y z, of_text k y z) refl)

  same_linked : (k : ℕ) → linked_from x ws k t ≡ linked_from x ws' k t
  same_linked k =
      some_same (λ u. listed x ws u && eqb (slot (text_hash x.job ws u)) k) (λ u. listed x ws' u && eqb (slot (text_hash x.job ws' u)) k) t (x.job.m - t)
      (λ u a l. let z : u < x.job.m = omega arith in rw (same_listed u a z, of_text u a z) refl)

  pub linked_same : t ≤ x.job.m → ((b : ℕ) → b < 1024 → get_or hs b 0 ≡ next_in x ws b t) → ((u : ℕ) → t ≤ u → u < x.job.m → listed x ws u ≡ true → link x.job ws' u ≡ next_in x ws (bucket x.buckets (text_hash x.job ws u)) (u + 1)) → ((i : ℕ) → i < 4096 → get_or fs i 0 ≡ entry_of (raised_from x ws i 0) (linked_from x ws i t)) → LinkedFrom x ws' hs fs t
  linked_same within heads links entries =
      record {
        within = within;
        heads = λ b l. heads b l ∙ same_next b t (omega arith);
        links = λ u a l y. rw (of_text u a l) (links u a l (same_listed u a l ∙ y) ∙ same_next (bucket x.buckets (text_hash x.job ws u)) (u + 1) (omega arith));
        entries = λ k l. entries k l ∙ rw (same_raised k, same_linked k) refl;
      }

-- ---- one window, as the code goes through it

module _ (x : Pass) (t free : ℕ) (ws hs fs : List ℕ) (long : x.s ≤ free) (h e : ℕ) (eh : h ≡ text_hash x.job ws t) (ee : e ≡ get_or fs (slot h) 0) where
  entry : e ≡ get_or fs (slot (text_hash x.job ws t)) 0
  entry = ee ∙ ap (λ z. get_or fs (slot z) 0) eh

-- ---- the windows of a stretch that begins at `from`
pub record Backward (x : Pass) (from : ℕ) (ws₀ ws hs fs : List ℕ) (t free : ℕ) : Type 0 where
  pub low : from ≤ t
  pub within : t ≤ x.job.m
  pub space : Space x.job ws
  pub same : state x.job ws ≡ state x.job ws₀
  pub of_pattern : (p : ℕ) → p < x.job.n → pattern_hash x.job ws p ≡ pattern_hash x.job ws₀ p
  pub of_text : (u : ℕ) → u < x.job.m → text_hash x.job ws u ≡ text_hash x.job ws₀ u
  pub heads : (b : ℕ) → b < 1024 → get_or hs b 0 ≡ next_in x ws₀ b t
  pub links : (u : ℕ) → t ≤ u → u < x.job.m → listed x ws₀ u ≡ true → link x.job ws u ≡ next_in x ws₀ (bucket x.buckets (text_hash x.job ws₀ u)) (u + 1)
  pub entries : (i : ℕ) → i < 4096 → get_or fs i 0 ≡ entry_of (raised_from x ws₀ i 0) (linked_from x ws₀ i t)
  pub count : free ≡ free_at x.job ws t

-- An entry is above 0 just where the pattern has a window with it.
entry_some : (r l : Bool) → ltb 0 (entry_of r l) ≡ r
entry_some false l = refl
entry_some true false = refl
entry_some true true = refl

-- The step to position t, where the windows from the next one on are linked.
module _ (x : Pass) (from : ℕ) (ws₀ ws hs fs : List ℕ) (t after free : ℕ) (i : Backward x from ws₀ ws hs fs (t + 1) after) (low : from ≤ t) (inside : t < x.job.m) (f : free ≡ free_at x.job ws t) (ws' hs' fs' : List ℕ) (e : Entered x t free ws hs fs ws' hs' fs') where
  abbrev j : Job
  j = x.job

  abbrev h : ℕ
  h = text_hash j ws t

  abbrev b : ℕ
  b = bucket x.buckets h

  abbrev at : ℕ
  at = bounds_from j + j.n + t

  abbrev entering : ℕ → ℕ → Bool
  entering k u = listed x ws₀ u && eqb (slot (text_hash j ws₀ u)) k

  same_hash : h ≡ text_hash j ws₀ t
  same_hash = i.of_text t inside

  same_bucket : b ≡ bucket x.buckets (text_hash j ws₀ t)
  same_bucket = ap (bucket x.buckets) same_hash

  small : b < 1024
  small = bucket_below x.buckets h x.some_bucket x.few_buckets

  -- The window is linked just where the definition says so.
  taken : takes x free (get_or fs (slot h) 0) ≡ listed x ws₀ t
  taken =
      let a : free ≡ free_at j ws₀ t = f ∙ free_same j ws₀ ws t i.same in
      rw (i.entries (slot h) (slot_below h), entry_some (raised_from x ws₀ (slot h) 0) (linked_from x ws₀ (slot h) (t + 1)), a, same_hash) refl

  long_heads : b < length hs
  long_heads = go (dec_lt b (length hs))
    where
      go : Dec (b < length hs) → b < length hs
      go (yes z) = z
      go (no z) =
          let none : get_or hs b 0 ≡ 0 = get_or-eq_default hs 0 {n = b} (omega (arith, z)) in
          absurd (omega (arith, none, i.heads b small, first_least (in_bucket x ws₀ b) (t + 1) (j.m - (t + 1)) (omega (arith, i.space.short_text))))

  -- ---- a window that is not linked changes nothing
  module _ (no-link : listed x ws₀ t ≡ false) where
    not_taken : takes x free (get_or fs (slot h) 0) ≡ false
    not_taken = taken ∙ no-link

    not_in : (c : ℕ) → in_bucket x ws₀ c t ≡ false
    not_in c = rw no-link refl

    not_entering : (k : ℕ) → entering k t ≡ false
    not_entering k = rw no-link refl

    still_links : (u : ℕ) → t ≤ u → u < j.m → Dec (u ≡ t) → listed x ws₀ u ≡ true → link j ws u ≡ next_in x ws₀ (bucket x.buckets (text_hash j ws₀ u)) (u + 1)
    still_links u a l (yes k) z = absurd (let o : ◌≡◌ {A = ℕ} 0 1 = (let g : false ≡ true = sym no-link ∙ (ap (listed x ws₀) (sym k) ∙ z) in cc) in omega arith)
    still_links u a l (no k) z = i.links u (omega (arith, k)) l z

    skipped : Backward x from ws₀ ws hs fs t free
    skipped =
        record {
          low = low;
          within = omega arith;
          space = i.space;
          same = i.same;
          of_pattern = i.of_pattern;
          of_text = i.of_text;
          heads = λ c l. i.heads c l ∙ sym (next_later (in_bucket x ws₀ c) t j.m inside (not_in c));
          links = λ u a l. still_links u a l (ℕ_discrete u t);
          entries = λ k l. rw (some_later (entering k) t j.m inside (not_entering k)) (i.entries k l);
          count = f;
        }

    pub step_skipped : Backward x from ws₀ ws' hs' fs' t free
    step_skipped = rw (e.words, e.heads, e.filter, not_taken) skipped

  -- ---- one that is linked becomes the head of its bucket
  module _ (linked : listed x ws₀ t ≡ true) where
    is_taken : takes x free (get_or fs (slot h) 0) ≡ true
    is_taken = taken ∙ linked

    words : ws' ≡ set ws at (get_or hs b 0)
    words = e.words ∙ rw is_taken refl

    new_heads : hs' ≡ set hs b t
    new_heads = e.heads ∙ rw is_taken refl

    filter : fs' ≡ set fs (slot h) 2
    filter = e.filter ∙ rw is_taken refl

    elsewhere : (k : ℕ) → (k ≡ at → ⊥) → get_or ws' k 0 ≡ get_or ws k 0
    elsewhere k d = rw words (get_or-set_other ws at k (get_or hs b 0) 0 d)

    link_here : link j ws' t ≡ next_in x ws₀ (bucket x.buckets (text_hash j ws₀ t)) (t + 1)
    link_here = rw words (get_or-set_same ws at (get_or hs b 0) 0 (omega (arith, i.space.roomy))) ∙ (i.heads b small ∙ ap (λ c. next_in x ws₀ c (t + 1)) same_bucket)

    links : (u : ℕ) → t ≤ u → u < j.m → Dec (u ≡ t) → listed x ws₀ u ≡ true → link j ws' u ≡ next_in x ws₀ (bucket x.buckets (text_hash j ws₀ u)) (u + 1)
    links u a l (yes k) z = rw k link_here
    links u a l (no k) z = elsewhere (bounds_from j + j.n + u) (λ y. k (omega arith)) ∙ i.links u (omega (arith, k)) l z

    this_bucket : in_bucket x ws₀ b t ≡ true
    this_bucket = rw (linked, eq-eqb (bucket x.buckets (text_hash j ws₀ t)) b (sym same_bucket)) refl

    other_bucket : (c : ℕ) → (c ≡ b → ⊥) → in_bucket x ws₀ c t ≡ false
    other_bucket c d = rw (linked, ne_eqb (bucket x.buckets (text_hash j ws₀ t)) c (λ z. d (sym z ∙ sym same_bucket))) refl

    heads : (c : ℕ) → c < 1024 → Dec (c ≡ b) → get_or hs' c 0 ≡ next_in x ws₀ c t
    heads c l (yes d) = rw (new_heads, d) (get_or-set_same hs b t 0 long_heads ∙ sym (next_here (in_bucket x ws₀ b) t j.m inside this_bucket))
    heads c l (no d) =
        rw new_heads (get_or-set_other hs b c t 0 d ∙ (i.heads c l ∙ sym (next_later (in_bucket x ws₀ c) t j.m inside (other_bucket c d))))

    -- The pattern has a window with its entry.
    raised : raised_from x ws₀ (slot h) 0 ≡ true
    raised = rw same_hash (and_right (leb x.s (free_at j ws₀ t)) (raised_from x ws₀ (slot (text_hash j ws₀ t)) 0) linked)

    this_entry : entering (slot h) t ≡ true
    this_entry = rw (linked, eq-eqb (slot (text_hash j ws₀ t)) (slot h) (ap slot (sym same_hash))) refl

    other_entry : (k : ℕ) → (k ≡ slot h → ⊥) → entering k t ≡ false
    other_entry k d = rw (linked, ne_eqb (slot (text_hash j ws₀ t)) k (λ z. d (sym z ∙ ap slot (sym same_hash)))) refl

    entries : (k : ℕ) → k < 4096 → Dec (k ≡ slot h) → get_or fs' k 0 ≡ entry_of (raised_from x ws₀ k 0) (linked_from x ws₀ k t)
    entries k l (yes d) = rw (d, raised, some_here (entering (slot h)) t j.m inside i.space.short_text this_entry) (e.known is_taken)
    entries k l (no d) = rw (filter, some_later (entering k) t j.m inside (other_entry k d)) (get_or-set_other fs (slot h) k 2 0 d ∙ i.entries k l)

    state_linked : state j ws' ≡ state j ws
    state_linked =
        let k : at ≡ bounds_from j + (j.n + t) = omega arith in
        rw (words, k) (state_set j ws (j.n + t) (get_or hs b 0))

    tail_linked : drop (chains_from j) ws' ≡ drop (chains_from j) ws
    tail_linked = rw words (drop-set-lt (chains_from j) ws at (get_or hs b 0) (omega arith))

    pub step_linked : length ws' ≡ length ws → Backward x from ws₀ ws' hs' fs' t free
    step_linked same =
        record {
          low = low;
          within = omega arith;
          space = space_kept j ws ws' same state_linked tail_linked (λ q l. elsewhere (bounds_from j + q) (λ y. omega arith)) i.space;
          same = state_linked ∙ i.same;
          of_pattern = λ p l. elsewhere (j.n + j.m + p) (λ z. omega arith) ∙ i.of_pattern p l;
          of_text = λ u l. elsewhere (j.n + j.m + j.n + u) (λ z. omega arith) ∙ i.of_text u l;
          heads = λ c l. heads c l (ℕ_discrete c b);
          links = λ u a l. links u a l (ℕ_discrete u t);
          entries = λ k l. entries k l (ℕ_discrete k (slot h));
          count = f ∙ sym (free_same j ws ws' t state_linked);
        }

  pub stepped : length ws' ≡ length ws → Backward x from ws₀ ws' hs' fs' t free
  stepped same = go (listed x ws₀ t) refl
    where
      go : (c : Bool) → listed x ws₀ t ≡ c → Backward x from ws₀ ws' hs' fs' t free
      go true z = step_linked z same
      go false z = step_skipped z

module _ (x : Pass) (from : ℕ) (ws₀ ws hs fs : List ℕ) (t free : ℕ) (i : Backward x from ws₀ ws hs fs t free) where
  module _ (some : from < t) where
    back : t - 1 + 1 ≡ t
    back = omega arith

    pub backward_inside : t - 1 < x.job.m
    backward_inside = omega (arith, i.within)

    pub backward_more : (x' : Pass) → x' ≡ x → (r : ℕ) → r ≡ free_at x.job ws (t - 1) → (ws' hs' fs' : List ℕ) → Entered x (t - 1) r ws hs fs ws' hs' fs' → length ws' ≡ length ws → Backward x' from ws₀ ws' hs' fs' (t - 1) r
    backward_more x' k r f ws' hs' fs' e same =
        let now : Backward x from ws₀ ws hs fs (t - 1 + 1) free = rw back i in
        rw k (stepped x from ws₀ ws hs fs (t - 1) free r now (omega arith) backward_inside f ws' hs' fs' e same)

  pub backward_all : t ≤ from → Linked x ws₀ ws hs fs from
  backward_all none =
      let z : from ≡ t = omega (arith, i.low) in
      record {
        space = i.space;
        same = i.same;
        of_pattern = i.of_pattern;
        of_text = i.of_text;
        linked = rw z (linked_same x ws₀ ws hs fs t i.same i.of_pattern (λ u k l. i.of_text u l) i.within i.heads i.links i.entries);
      }
