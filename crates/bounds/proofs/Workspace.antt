-- The parts of the workspace: what a store in one part leaves of the others.
-- Assumes nothing.
use Prim.Native.Nat.{ℕ, ◌+◌, ◌-◌, ◌*◌, ◌≤◌, ◌<◌}
use native.Mathlib.Decide.{dec_lt, ℕ_discrete}
use native.Mathlib.Omega.{arith}
use mathlib.Core.Path.{◌≡◌, refl, sym, ◌∙◌, ap, subst}
use mathlib.Core.List.{List}
use lib.ListN.{length, take, drop, get_or, set, length-drop, length-set}
use lib.Seq.{length-take-le, get_or-take, take-set-le, take-take, drop-drop, drop-set-lt, drop-set-add, get_or-set_other}
use Rattle.buffer.proofs.Buffer.{rest_of_front}
use Rattle.tiling.specs.Run.{mark}
use Rattle.tiling.specs.Tiling.{State, lay, AllCurrent}
use Rattle.tiling.proofs.Run.{length_mark, mark_before, mark_inside, mark_after}
use Rattle.tiling.proofs.Replaced.{current_lay}
use Rattle.tile.proofs.Marking.{take_mark_in, take_mark_out, drop_mark_in, drop_mark_out}
use Rattle.bounds.specs.Workspace.{Space, state, bounds_from, bound, chains_from, pattern_chain, text_chain, marked, unlinked_in, laid}
use Rattle.chain.specs.Chain.{Free, Ranged}
use Rattle.chain.specs.Unlinked.{unlinked}
use Rattle.chain.proofs.Links.{chained_unlinked, length_unlinked}
use Rattle.bounds.specs.Greatest.{Greatest}
use Rattle.bounds.specs.declared.Job.{Job}
use Rattle.bounds.proofs.Most.{greatest_same, greatest_part}
use Rattle.bounds.proofs.Part.{put_length, put_front, put_part, put_back, put_before}

-- ---- the sequences in the workspace
same_state : (s u : State) → s.pattern ≡ u.pattern → s.text ≡ u.text → s ≡ u
same_state s u a b = λ i. record { pattern = a i; text = b i }

-- A store among the bounds leaves them as they were.
pub state_set : (j : Job) (ws : List ℕ) (p v : ℕ) → state j (set ws (bounds_from j + p) v) ≡ state j ws
state_set j ws p v =
    let e : bounds_from j + p ≡ j.n + (j.n + j.m + j.m + p) = omega arith in
    same_state (state j (set ws (bounds_from j + p) v)) (state j ws)
    (take-set-le j.n ws (bounds_from j + p) v (omega arith))
    (rw (e, drop-set-add j.n ws (j.n + j.m + j.m + p) v) (take-set-le j.m (drop j.n ws) (j.n + j.m + j.m + p) v (omega arith)))

-- A tile within both marks its words there and no others.
state_marked : (j : Job) (ws : List ℕ) (p t len : ℕ) → p + len ≤ j.n → t + len ≤ j.m → state j (marked j p t len ws) ≡ lay (state j ws) (record { p = p; t = t; len = len })
unfolding lay
state_marked j ws p t len h k =
    let ws₁ = mark p len ws in
    let ws₂ = mark (j.n + t) len ws₁ in
    let e : bounds_from j + p ≡ j.n + (j.n + j.m + j.m + p) = omega arith in
    same_state (state j (marked j p t len ws)) (lay (state j ws) (record { p = p; t = t; len = len }))
    (rw (
      take_mark_out j.n (bounds_from j + p) len ws₂ (omega arith),
      take_mark_out j.n (j.n + t) len ws₁ (omega arith),
      take_mark_in j.n p len ws h,
    )
    refl)
    (rw (
      e,
      drop_mark_in j.n (j.n + j.m + j.m + p) len ws₂,
      take_mark_out j.m (j.n + j.m + j.m + p) len (drop j.n ws₂) (omega arith),
      drop_mark_in j.n t len ws₁,
      drop_mark_out j.n p len ws h,
      take_mark_in j.m t len (drop j.n ws) k,
    )
    refl)

length_marked : (j : Job) (ws : List ℕ) (p t len : ℕ) → length (marked j p t len ws) ≡ length ws
length_marked j ws p t len =
    length_mark (bounds_from j + p) len (mark (j.n + t) len (mark p len ws))
    ∙ (length_mark (j.n + t) len (mark p len ws) ∙ length_mark p len ws)

-- ---- the bounds
-- After a tile the rows that it covers have bound 0, and the others have what they had.
marked_covered : (j : Job) (ws : List ℕ) (p t len q : ℕ) → p ≤ q → q < p + len → bound j (marked j p t len ws) q ≡ 0
marked_covered j ws p t len q h k = mark_inside (bounds_from j + p) len (mark (j.n + t) len (mark p len ws)) (bounds_from j + q) (omega arith) (omega arith)

below_bounds : (j : Job) (ws : List ℕ) (p t len q : ℕ) → p + len ≤ j.n → t + len ≤ j.m → get_or (mark (j.n + t) len (mark p len ws)) (bounds_from j + q) 0 ≡ bound j ws q
below_bounds j ws p t len q h k =
    mark_after (j.n + t) len (mark p len ws) (bounds_from j + q) (omega arith) ∙ mark_after p len ws (bounds_from j + q) (omega arith)

marked_before : (j : Job) (ws : List ℕ) (p t len q : ℕ) → p + len ≤ j.n → t + len ≤ j.m → q < p → bound j (marked j p t len ws) q ≡ bound j ws q
marked_before j ws p t len q h k l = mark_before (bounds_from j + p) len (mark (j.n + t) len (mark p len ws)) (bounds_from j + q) (omega arith) ∙ below_bounds j ws p t len q h k

marked_after : (j : Job) (ws : List ℕ) (p t len q : ℕ) → p + len ≤ j.n → t + len ≤ j.m → p + len ≤ q → bound j (marked j p t len ws) q ≡ bound j ws q
marked_after j ws p t len q h k l = mark_after (bounds_from j + p) len (mark (j.n + t) len (mark p len ws)) (bounds_from j + q) (omega arith) ∙ below_bounds j ws p t len q h k

-- ---- parts of the workspace
-- Where the first words are as they were, the sequences are.
pub front_state : (j : Job) (ws ws' : List ℕ) → take (j.n + j.m) ws' ≡ take (j.n + j.m) ws → state j ws' ≡ state j ws
front_state j ws ws' e = same_state (state j ws') (state j ws) pattern text
  where
    pattern : take j.n ws' ≡ take j.n ws
    pattern = sym (take-take j.n (j.n + j.m) ws' (omega arith)) ∙ (ap (take j.n) e ∙ take-take j.n (j.n + j.m) ws (omega arith))

    text : take j.m (drop j.n ws') ≡ take j.m (drop j.n ws)
    text =
        let all : j.n + j.m - j.n ≡ j.m = omega arith in
        rw (← all, rest_of_front j.n (j.n + j.m) ws', rest_of_front j.n (j.n + j.m) ws) (ap (drop j.n) e)

-- Where the last words are, the chains are.
chains_same : (j : Job) (ws ws' : List ℕ) → drop (chains_from j) ws' ≡ drop (chains_from j) ws → text_chain j ws' ≡ text_chain j ws
chains_same j ws ws' e = ap (take j.m) (sym (drop-drop j.n (chains_from j) ws') ∙ (ap (drop j.n) e ∙ drop-drop j.n (chains_from j) ws))

-- A store elsewhere leaves a workspace what it is: the lengths, the sequences, the chains and the bounds are as they were.
pub space_kept : (j : Job) (ws ws' : List ℕ) → length ws' ≡ length ws → state j ws' ≡ state j ws → drop (chains_from j) ws' ≡ drop (chains_from j) ws → ((q : ℕ) → q < j.n → bound j ws' q ≡ bound j ws q) → Space j ws → Space j ws'
space_kept j ws ws' e same chains bounds s =
    record {
      short_pattern = s.short_pattern;
      short_text = s.short_text;
      roomy = omega (arith, e, s.roomy);
      current = subst AllCurrent (sym same) s.current;
      of_pattern = rw (ap (λ (u : State). u.pattern) same, ap (take j.n) chains) s.of_pattern;
      of_text = rw (ap (λ (u : State). u.text) same, chains_same j ws ws' chains) s.of_text;
      covered = λ q h z. bounds q h ∙ s.covered q h (sym (word q h) ∙ z);
    }
  where
    word : (q : ℕ) → q < j.n → get_or ws' q 0 ≡ get_or ws q 0
    word q h = sym (get_or-take j.n ws' q 0 h) ∙ (ap (λ (u : State). get_or u.pattern q 0) same ∙ get_or-take j.n ws q 0 h)

-- A new bound of a free row.
pub space_bound : (j : Job) (ws : List ℕ) (p v : ℕ) → p < j.n → Free ws p → Space j ws → Space j (set ws (bounds_from j + p) v)
space_bound j ws p v h f s =
    record {
      short_pattern = s.short_pattern;
      short_text = s.short_text;
      roomy = omega (arith, length-set ws (bounds_from j + p) v, s.roomy);
      current = subst AllCurrent (sym same) s.current;
      of_pattern = rw (ap (λ (u : State). u.pattern) same, ap (take j.n) chains) s.of_pattern;
      of_text = rw (ap (λ (u : State). u.text) same, chains_same j ws ws' chains) s.of_text;
      covered = λ q l z. covered q l z (ℕ_discrete q p);
    }
  where
    ws' : List ℕ
    ws' = set ws (bounds_from j + p) v

    same : state j (set ws (bounds_from j + p) v) ≡ state j ws
    same = state_set j ws p v

    chains : drop (chains_from j) (set ws (bounds_from j + p) v) ≡ drop (chains_from j) ws
    chains = drop-set-lt (chains_from j) ws (bounds_from j + p) v (omega arith)

    word : (q : ℕ) → q < j.n → get_or (set ws (bounds_from j + p) v) q 0 ≡ get_or ws q 0
    word q l = get_or-set_other ws (bounds_from j + p) q v 0 (λ e. omega arith)

    covered : (q : ℕ) → q < j.n → get_or (set ws (bounds_from j + p) v) q 0 ≡ 0 → Dec (q ≡ p) → bound j (set ws (bounds_from j + p) v) q ≡ 0
    covered q l z (yes e) = absurd (f (ap (λ x. get_or ws x 0) (sym e) ∙ (sym (word q l) ∙ z)))
    covered q l z (no d) = get_or-set_other ws (bounds_from j + p) (bounds_from j + q) v 0 (λ e. d (omega arith)) ∙ s.covered q l (sym (word q l) ∙ z)

-- The lengths of the two sequences.
pub pattern_length : (j : Job) (ws : List ℕ) → Space j ws → length (state j ws).pattern ≡ j.n
pattern_length j ws s = length-take-le j.n ws (omega (arith, s.roomy))

pub text_length : (j : Job) (ws : List ℕ) → Space j ws → length (state j ws).text ≡ j.m
text_length j ws s = length-take-le j.m (drop j.n ws) (omega (arith, s.roomy, length-drop j.n ws))

-- ---- a tile
module _ (j : Job) (ws : List ℕ) (p t len : ℕ) (h : p + len ≤ j.n) (k : t + len ≤ j.m) (room : 4 * (j.n + j.m) ≤ length ws) where
  abbrev cf : ℕ
  cf = chains_from j

  abbrev tf : ℕ
  tf = chains_from j + j.n

  abbrev all : ℕ
  all = 4 * (j.n + j.m)

  abbrev ws₁ : List ℕ
  ws₁ = marked j p t len ws

  abbrev ws₂ : List ℕ
  ws₂ = unlinked_in cf tf p len ws₁

  abbrev on_rows : List ℕ
  on_rows = unlinked p len (take (tf - cf) (drop cf ws₁))

  abbrev on_texts : List ℕ
  on_texts = unlinked t len (take (all - tf) (drop tf ws₂))

  room₁ : 4 * (j.n + j.m) ≤ length ws₁
  room₁ = omega (arith, room, length_marked j ws p t len)

  rows_length : length on_rows ≡ tf - cf
  rows_length = length_unlinked p len (take (tf - cf) (drop cf ws₁)) ∙ length-take-le (tf - cf) (drop cf ws₁) (omega (arith, room₁, length-drop cf ws₁))

  length₂ : length ws₂ ≡ length ws₁
  length₂ = put_length cf tf ws₁ on_rows (omega arith) (omega (arith, room₁)) rows_length

  texts_length : length on_texts ≡ all - tf
  texts_length = length_unlinked t len (take (all - tf) (drop tf ws₂)) ∙ length-take-le (all - tf) (drop tf ws₂) (omega (arith, room₁, length₂, length-drop tf ws₂))

  pub length_laid : length (laid j p t len ws) ≡ length ws
  length_laid = put_length tf all ws₂ on_texts (omega arith) (omega (arith, room₁, length₂)) texts_length ∙ (length₂ ∙ length_marked j ws p t len)

  -- Before the chains only the marks were made.
  pub below_chains : (i : ℕ) → i < chains_from j → get_or (laid j p t len ws) i 0 ≡ get_or (marked j p t len ws) i 0
  below_chains i l =
      put_before tf all ws₂ on_texts (omega arith) (omega (arith, room₁, length₂)) texts_length i (omega arith)
      ∙ put_before cf tf ws₁ on_rows (omega arith) (omega (arith, room₁)) rows_length i l

  pub state_laid : state j (laid j p t len ws) ≡ lay (state j ws) (record { p = p; t = t; len = len })
  state_laid =
      front_state j ws₁ (laid j p t len ws)
      (put_front tf all ws₂ on_texts (omega arith) (omega (arith, room₁, length₂)) texts_length (j.n + j.m) (omega arith)
      ∙ put_front cf tf ws₁ on_rows (omega arith) (omega (arith, room₁)) rows_length (j.n + j.m) (omega arith))
      ∙ state_marked j ws p t len h k

  -- After a tile the rows that it covers have bound 0, and the others have what they had.
  pub bound_covered : (q : ℕ) → q < j.n → p ≤ q → q < p + len → bound j (laid j p t len ws) q ≡ 0
  bound_covered q i a b = below_chains (bounds_from j + q) (omega arith) ∙ marked_covered j ws p t len q a b

  pub bound_before : (q : ℕ) → q < p → bound j (laid j p t len ws) q ≡ bound j ws q
  bound_before q a = below_chains (bounds_from j + q) (omega arith) ∙ marked_before j ws p t len q h k a

  pub bound_after : (q : ℕ) → q < j.n → p + len ≤ q → bound j (laid j p t len ws) q ≡ bound j ws q
  bound_after q i a = below_chains (bounds_from j + q) (omega arith) ∙ marked_after j ws p t len q h k a

  -- ---- the chains
  -- The marks lie before them.
  unmarked : drop cf ws₁ ≡ drop cf ws
  unmarked =
      drop_mark_out cf (bounds_from j + p) len (mark (j.n + t) len (mark p len ws)) (omega arith)
      ∙ (drop_mark_out cf (j.n + t) len (mark p len ws) (omega arith) ∙ drop_mark_out cf p len ws (omega arith))

  rows_are : pattern_chain j (laid j p t len ws) ≡ unlinked p len (pattern_chain j ws)
  rows_are =
      let e : tf - cf ≡ j.n = omega arith in
      let ws₃ = laid j p t len ws in
      let front : take tf ws₃ ≡ take tf ws₂ = put_front tf all ws₂ on_texts (omega arith) (omega (arith, room₁, length₂)) texts_length tf (omega arith) in
      let part : take (tf - cf) (drop cf ws₃) ≡ take (tf - cf) (drop cf ws₂) = rest_of_front cf tf ws₃ ∙ (ap (drop cf) front ∙ sym (rest_of_front cf tf ws₂)) in
      let mine : take (tf - cf) (drop cf ws₂) ≡ on_rows = put_part cf tf ws₁ on_rows (omega arith) (omega (arith, room₁)) rows_length in
      ap (λ n. take n (drop cf ws₃)) (sym e) ∙ (part ∙ (mine ∙ (ap (λ xs. unlinked p len (take (tf - cf) xs)) unmarked ∙ ap (λ n. unlinked p len (take n (drop cf ws))) e)))

  texts_are : text_chain j (laid j p t len ws) ≡ unlinked t len (text_chain j ws)
  texts_are =
      let e : all - tf ≡ j.m = omega arith in
      let mine : take (all - tf) (drop tf (laid j p t len ws)) ≡ on_texts = put_part tf all ws₂ on_texts (omega arith) (omega (arith, room₁, length₂)) texts_length in
      let past : drop tf ws₂ ≡ drop tf ws₁ = put_back cf tf ws₁ on_rows (omega arith) (omega (arith, room₁)) rows_length tf (omega arith) in
      let before : drop tf ws₁ ≡ drop tf ws = sym (drop-drop j.n cf ws₁) ∙ (ap (drop j.n) unmarked ∙ drop-drop j.n cf ws) in
      ap (λ n. take n (drop tf (laid j p t len ws))) (sym e) ∙ (mine ∙ (ap (λ xs. unlinked t len (take (all - tf) xs)) (past ∙ before) ∙ ap (λ n. unlinked t len (take n (drop tf ws))) e))

  -- The two parts may be taken out of, one after the other.
  pub rows_ranged : Space j ws → Ranged (take (tf - cf) (drop cf ws₁))
  rows_ranged s = let e : tf - cf ≡ j.n = omega arith in rw (e, unmarked) s.of_pattern.ranged

  pub texts_ranged : Space j ws → Ranged (take (all - tf) (drop tf ws₂))
  texts_ranged s =
      let e : all - tf ≡ j.m = omega arith in
      let past : drop tf ws₂ ≡ drop tf ws₁ = put_back cf tf ws₁ on_rows (omega arith) (omega (arith, room₁)) rows_length tf (omega arith) in
      let before : drop tf ws₁ ≡ drop tf ws = sym (drop-drop j.n cf ws₁) ∙ (ap (drop j.n) unmarked ∙ drop-drop j.n cf ws) in
      rw (e, past ∙ before) s.of_text.ranged

-- Laying a tile on free words keeps both chains.
module _ (j : Job) (ws : List ℕ) (p t len : ℕ) (h : p + len ≤ j.n) (k : t + len ≤ j.m) (some : 1 ≤ len) (s : Space j ws) (free-rows : (i : ℕ) → i < len → Free (state j ws).pattern (p + i)) (free-text : (i : ℕ) → i < len → Free (state j ws).text (t + i)) where
  tile_covered : (q : ℕ) → q < j.n → get_or (laid j p t len ws) q 0 ≡ 0 → Dec (q < p) → Dec (q < p + len) → bound j (laid j p t len ws) q ≡ 0
  tile_covered q l z (yes a) d =
      bound_before j ws p t len h k s.roomy q a
      ∙ s.covered q l (sym (below_chains j ws p t len h k s.roomy q (omega arith) ∙ (mark_before (bounds_from j + p) len (mark (j.n + t) len (mark p len ws)) q (omega arith) ∙ (mark_before (j.n + t) len (mark p len ws) q (omega arith) ∙ mark_before p len ws q a))) ∙ z)
  tile_covered q l z (no a) (yes b) = bound_covered j ws p t len h k s.roomy q l (omega (arith, a)) b
  tile_covered q l z (no a) (no b) =
      bound_after j ws p t len h k s.roomy q l (omega (arith, b))
      ∙ s.covered q l (sym (below_chains j ws p t len h k s.roomy q (omega arith) ∙ (mark_before (bounds_from j + p) len (mark (j.n + t) len (mark p len ws)) q (omega arith) ∙ (mark_before (j.n + t) len (mark p len ws) q (omega arith) ∙ mark_after p len ws q (omega (arith, b))))) ∙ z)

  pub space_laid : Space j (laid j p t len ws)
  unfolding lay
  space_laid =
      record {
        short_pattern = s.short_pattern;
        short_text = s.short_text;
        roomy = omega (arith, length_laid j ws p t len h k s.roomy, s.roomy);
        current = subst AllCurrent (sym is) (current_lay (state j ws) (record { p = p; t = t; len = len }) s.current);
        of_pattern =
            rw (ap (λ (u : State). u.pattern) is, rows_are j ws p t len h k s.roomy)
            (chained_unlinked (state j ws).pattern (pattern_chain j ws) s.of_pattern p len some (omega (arith, pattern_length j ws s)) free-rows);
        of_text =
            rw (ap (λ (u : State). u.text) is, texts_are j ws p t len h k s.roomy)
            (chained_unlinked (state j ws).text (text_chain j ws) s.of_text t len some (omega (arith, text_length j ws s)) free-text);
        covered = λ q l z. tile_covered q l z (dec_lt q p) (dec_lt q (p + len));
      }
    where
      is : state j (laid j p t len ws) ≡ lay (state j ws) (record { p = p; t = t; len = len })
      is = state_laid j ws p t len h k s.roomy

-- What taking it out asks for, step by step.
module _ (j : Job) (ws : List ℕ) (p t len : ℕ) (s : Space j ws) (h : p + len ≤ j.n) (k : t + len ≤ j.m) (ws₁ : List ℕ) (w₁ : ws₁ ≡ marked j p t len ws) where
  pub marked_ranged : Ranged (take (3 * (j.n + j.m) + j.n - 3 * (j.n + j.m)) (drop (3 * (j.n + j.m)) ws₁))
  marked_ranged = rw w₁ (rows_ranged j ws p t len h k s.roomy s)

  pub marked_room : 4 * (j.n + j.m) ≤ length ws₁
  marked_room = omega (arith, ap length w₁, length_marked j ws p t len, s.roomy)

  module _ (ws₂ : List ℕ) (w₂ : ws₂ ≡ unlinked_in (3 * (j.n + j.m)) (3 * (j.n + j.m) + j.n) p len ws₁) where
    is₂ : ws₂ ≡ unlinked_in (3 * (j.n + j.m)) (3 * (j.n + j.m) + j.n) p len (marked j p t len ws)
    is₂ = rw w₁ at w₂

    pub unlinked_ranged : Ranged (take (4 * (j.n + j.m) - (3 * (j.n + j.m) + j.n)) (drop (3 * (j.n + j.m) + j.n) ws₂))
    unlinked_ranged = rw is₂ (texts_ranged j ws p t len h k s.roomy s)

    pub unlinked_room : 4 * (j.n + j.m) ≤ length ws₂
    unlinked_room = omega (arith, ap length is₂, length₂ j ws p t len h k s.roomy, length_marked j ws p t len, s.roomy)

-- ---- the chains as parts of the workspace

-- The bounds of some rows as a part of the workspace.
pub greatest_rows : (j : Job) (ws : List ℕ) (from to r : ℕ) → Space j ws → from ≤ to → to ≤ j.n → (let begin = 2 * (j.n + j.m) + from in let end = 2 * (j.n + j.m) + to in let part = take (end - begin) (drop begin ws) in Greatest (λ k. get_or part k 0) (length part) r) → Greatest (λ i. bound j ws (from + i)) (to - from) r
greatest_rows j ws from to r s h l g =
    let begin = 2 * (j.n + j.m) + from in
    let count : 2 * (j.n + j.m) + to - begin ≡ to - from = omega arith in
    let part : Greatest (λ i. get_or ws (begin + i) 0) (to - from) r = rw count at (greatest_part ws begin (2 * (j.n + j.m) + to - begin) r (omega (arith, s.roomy)) g) in
    greatest_same (λ i. get_or ws (begin + i) 0) (λ i. bound j ws (from + i)) (to - from) r (λ i k. let e : begin + i ≡ 2 * (j.n + j.m) + (from + i) = omega arith in ap (λ k. get_or ws k 0) e) part
