-- The chain of a comparison's refusals, part by part: what each part says where none of its causes holds, that it then leaves the number to
-- the later parts, and how what the code of a part answered is carried to the whole chain. Each part asks the same of both sequences, so
-- exchanging them changes no number.
-- Assumes nothing.
use Prim.Native.Nat.{ℕ, ◌+◌, ◌*◌, ◌/◌, ◌≤◌, min}
use native.Mathlib.Omega.{arith}
use mathlib.Core.Path.{◌≡◌, refl, ◌∙◌, ap}
use mathlib.Core.Bool.{true, false, not}
use mathlib.Core.List.{List}
use borrow.Author.Tests.{eqb-false, ltb-false, not-false, le-ltb, ne_eqb}
use lib.Dec.{eqb, ltb}
use lib.ListN.{length}
use Rattle.symbol.specs.Sequence.{all_sound, too_long}
use Rattle.refusal.specs.Refusal.{refuse}
use Rattle.refusal.specs.Number.{number}
use Rattle.refusal.specs.declared.Refusal.{Refusal}
use Rattle.refusal.proofs.Causes.{never_none, refuse_swap, clear, Part, part_end, part_cause, part_then, part_stops}
use Rattle.tiling.specs.Comparing.{sequences, minimums, settings, workspaces, room, plain_refusal, search_checks, fast_checks, fast_refusal, Comparable, InRange, Roomy}

-- ---- no cause holds
record SequencesClear (first second : List ℕ) (later : ℕ) : Type 0 where
  pub first_short : length first ≤ 2048
  pub second_short : length second ≤ 2048
  pub first_sound : all_sound first ≡ true
  pub second_sound : all_sound second ≡ true
  pub rest : later ≡ 0

sequences_clear : (first second : List ℕ) (later : ℕ) → sequences first second later ≡ 0 → SequencesClear first second later
sequences_clear first second later e =
    let a = clear (too_long first) 1 (refuse (too_long second) 1 (refuse (not (all_sound first)) 2 (refuse (not (all_sound second)) 2 later))) (omega arith) e in
    let b = clear (too_long second) 1 (refuse (not (all_sound first)) 2 (refuse (not (all_sound second)) 2 later)) (omega arith) a.rest in
    let c = clear (not (all_sound first)) 2 (refuse (not (all_sound second)) 2 later) (omega arith) b.rest in
    let d = clear (not (all_sound second)) 2 later (omega arith) c.rest in
    record {
      first_short = ltb-false 2048 (length first) a.first;
      second_short = ltb-false 2048 (length second) b.first;
      first_sound = not-false (all_sound first) c.first;
      second_sound = not-false (all_sound second) d.first;
      rest = d.rest;
    }

record MinimumsClear (minimum later : ℕ) : Type 0 where
  pub least : 1 ≤ minimum
  pub most : minimum ≤ 256
  pub rest : later ≡ 0

minimums_clear : (minimum later : ℕ) → minimums minimum later ≡ 0 → MinimumsClear minimum later
minimums_clear minimum later e =
    let a = clear (eqb minimum 0) 3 (refuse (ltb 256 minimum) 3 later) (omega arith) e in
    let b = clear (ltb 256 minimum) 3 later (omega arith) a.rest in
    record {
      least = omega (arith, eqb-false minimum 0 a.first);
      most = ltb-false 256 minimum b.first;
      rest = b.rest;
    }

record SettingsClear (minimum buckets start later : ℕ) : Type 0 where
  pub in_range : InRange minimum buckets start
  pub rest : later ≡ 0

settings_clear : (minimum buckets start later : ℕ) → settings minimum buckets start later ≡ 0 → SettingsClear minimum buckets start later
settings_clear minimum buckets start later e =
    let a = clear (eqb buckets 0) 4 (refuse (ltb 1024 buckets) 4 (refuse (ltb start minimum) 5 (refuse (ltb 2048 start) 5 later))) (omega arith) e in
    let b = clear (ltb 1024 buckets) 4 (refuse (ltb start minimum) 5 (refuse (ltb 2048 start) 5 later)) (omega arith) a.rest in
    let c = clear (ltb start minimum) 5 (refuse (ltb 2048 start) 5 later) (omega arith) b.rest in
    let d = clear (ltb 2048 start) 5 later (omega arith) c.rest in
    record {
      in_range =
          record {
            some_bucket = omega (arith, eqb-false buckets 0 a.first);
            few_buckets = ltb-false 1024 buckets b.first;
            start_least = ltb-false start minimum c.first;
            start_most = ltb-false 2048 start d.first;
          };
      rest = d.rest;
    }

record RoomClear (n m minimum workspace tiles later : ℕ) : Type 0 where
  pub roomy : Roomy n m minimum workspace tiles
  pub rest : later ≡ 0

room_clear : (n m minimum workspace tiles later : ℕ) → room n m minimum workspace tiles later ≡ 0 → RoomClear n m minimum workspace tiles later
room_clear n m minimum workspace tiles later e =
    let a = clear (ltb workspace (4 * (n + m))) 6 (refuse (ltb tiles (3 * (min n m / minimum))) 7 later) (omega arith) e in
    let b = clear (ltb tiles (3 * (min n m / minimum))) 7 later (omega arith) a.rest in
    record {
      roomy =
          record {
            work_room = ltb-false workspace (4 * (n + m)) a.first;
            tile_room = ltb-false tiles (3 * (min n m / minimum)) b.first;
          };
      rest = b.rest;
    }

-- What either engine accepts can be compared, whatever it checks later.
record ComparableClear (first second : List ℕ) (minimum later : ℕ) : Type 0 where
  pub comparable : Comparable first second minimum
  pub rest : later ≡ 0

comparable_clear : (first second : List ℕ) (minimum later : ℕ) → sequences first second (minimums minimum later) ≡ 0 → ComparableClear first second minimum later
comparable_clear first second minimum later e =
    let c = sequences_clear first second (minimums minimum later) e in
    let d = minimums_clear minimum later c.rest in
    record {
      comparable =
          record {
            first_short = c.first_short;
            second_short = c.second_short;
            first_sound = c.first_sound;
            second_sound = c.second_sound;
            least = d.least;
            most = d.most;
          };
      rest = d.rest;
    }

pub comparable : (first second : List ℕ) (minimum later : ℕ) → sequences first second (minimums minimum later) ≡ 0 → Comparable first second minimum
comparable first second minimum later e = (comparable_clear first second minimum later e).comparable

-- And, by the search, its settings are in range, whatever a service checks later.
module _ (first second : List ℕ) (minimum buckets start later : ℕ) (e : search_checks first second minimum buckets start later ≡ 0) where
  settings_are : SettingsClear minimum buckets start later
  settings_are = settings_clear minimum buckets start later (comparable_clear first second minimum _ e).rest

  pub search_in_range : InRange minimum buckets start
  search_in_range = settings_are.in_range

  pub search_rest : later ≡ 0
  search_rest = settings_are.rest

-- And there is room.
module _ (first second : List ℕ) (minimum workspace tiles : ℕ) where
  module _ (buckets start later : ℕ) (e : fast_checks first second minimum buckets start workspace tiles later ≡ 0) where
    room_is : RoomClear (length first) (length second) minimum workspace tiles later
    room_is = room_clear (length first) (length second) minimum workspace tiles later (search_rest first second minimum buckets start _ e)

    pub fast_roomy : Roomy (length first) (length second) minimum workspace tiles
    fast_roomy = room_is.roomy

    pub fast_rest : later ≡ 0
    fast_rest = room_is.rest

-- ---- a part of which no cause holds leaves the number to what is checked later
pub comparable_passes : (first second : List ℕ) (minimum later : ℕ) → Comparable first second minimum → sequences first second (minimums minimum later) ≡ later
comparable_passes first second minimum later c =
    let some : eqb minimum 0 ≡ false = ne_eqb minimum 0 (λ e. absurd (omega (arith, c.least))) in
    rw (
      le-ltb 2048 (length first) c.first_short,
      le-ltb 2048 (length second) c.second_short,
      c.first_sound,
      c.second_sound,
      some,
      le-ltb 256 minimum c.most,
    )
    refl

pub in_range_passes : (minimum buckets start later : ℕ) → InRange minimum buckets start → settings minimum buckets start later ≡ later
in_range_passes minimum buckets start later i =
    let some : eqb buckets 0 ≡ false = ne_eqb buckets 0 (λ e. absurd (omega (arith, i.some_bucket))) in
    rw (some, le-ltb 1024 buckets i.few_buckets, le-ltb start minimum i.start_least, le-ltb 2048 start i.start_most) refl

pub search_passes : (first second : List ℕ) (minimum buckets start later : ℕ) → Comparable first second minimum → InRange minimum buckets start → search_checks first second minimum buckets start later ≡ later
search_passes first second minimum buckets start later c i = comparable_passes first second minimum _ c ∙ in_range_passes minimum buckets start later i

pub roomy_passes : (n m minimum workspace tiles later : ℕ) → Roomy n m minimum workspace tiles → room n m minimum workspace tiles later ≡ later
roomy_passes n m minimum workspace tiles later r =
    rw (le-ltb workspace (4 * (n + m)) r.work_room, le-ltb tiles (3 * (min n m / minimum)) r.tile_room) refl

-- So what can be compared is accepted, where there is room and, by the search, where its settings are in range.
module _ (first second : List ℕ) (minimum workspace tiles : ℕ) (c : Comparable first second minimum) (r : Roomy (length first) (length second) minimum workspace tiles) where
  pub plain_accepts : plain_refusal first second minimum workspace tiles ≡ 0
  plain_accepts = comparable_passes first second minimum _ c ∙ roomy_passes (length first) (length second) minimum workspace tiles 0 r

  pub fast_passes : (buckets start later : ℕ) → InRange minimum buckets start → fast_checks first second minimum buckets start workspace tiles later ≡ later
  fast_passes buckets start later i =
      search_passes first second minimum buckets start _ c i ∙ roomy_passes (length first) (length second) minimum workspace tiles later r

-- ---- exchanging the sequences
pub comparable_exchange : {first second : List ℕ} {minimum : ℕ} → Comparable first second minimum → Comparable second first minimum
comparable_exchange c =
    record {
      first_short = c.second_short;
      second_short = c.first_short;
      first_sound = c.second_sound;
      second_sound = c.first_sound;
      least = c.least;
      most = c.most;
    }

sequences_exchange : (first second : List ℕ) (later : ℕ) → sequences first second later ≡ sequences second first later
sequences_exchange first second later =
    ap (λ k. refuse (too_long first) 1 (refuse (too_long second) 1 k)) (refuse_swap (not (all_sound first)) (not (all_sound second)) 2 later)
    ∙ refuse_swap (too_long first) (too_long second) 1 _

room_exchange : (n m minimum workspace tiles later : ℕ) → room n m minimum workspace tiles later ≡ room m n minimum workspace tiles later
room_exchange n m minimum workspace tiles later =
    let sum : n + m ≡ m + n = omega arith in
    let shorter : min n m ≡ min m n = omega arith in
    rw (sum, shorter) refl

-- The refusals are symmetric in the two sequences, for all numbers.
pub plain_refusal_exchange : (first second : List ℕ) (minimum workspace tiles : ℕ) → plain_refusal first second minimum workspace tiles ≡ plain_refusal second first minimum workspace tiles
plain_refusal_exchange first second minimum workspace tiles =
    sequences_exchange first second _
    ∙ ap (λ k. sequences second first (minimums minimum k)) (room_exchange (length first) (length second) minimum workspace tiles 0)

pub search_checks_exchange : (first second : List ℕ) (minimum buckets start later : ℕ) → search_checks first second minimum buckets start later ≡ search_checks second first minimum buckets start later
search_checks_exchange first second minimum buckets start later = sequences_exchange first second _

pub fast_checks_exchange : (first second : List ℕ) (minimum buckets start workspace tiles later : ℕ) → fast_checks first second minimum buckets start workspace tiles later ≡ fast_checks second first minimum buckets start workspace tiles later
fast_checks_exchange first second minimum buckets start workspace tiles later =
    search_checks_exchange first second minimum buckets start _
    ∙ ap (search_checks second first minimum buckets start) (room_exchange (length first) (length second) minimum workspace tiles later)

-- ---- the parts of the chain
sequences_part : (first second : List ℕ) → Part (sequences first second)
sequences_part first second =
    part_cause _ (too_long first) 1 (omega arith)
    (part_cause _ (too_long second) 1 (omega arith)
    (part_cause _ (not (all_sound first)) 2 (omega arith) (part_cause _ (not (all_sound second)) 2 (omega arith) part_end)))

minimums_part : (minimum : ℕ) → Part (minimums minimum)
minimums_part minimum = part_cause _ (eqb minimum 0) 3 (omega arith) (part_cause _ (ltb 256 minimum) 3 (omega arith) part_end)

comparable_part : (first second : List ℕ) (minimum : ℕ) → Part (λ k. sequences first second (minimums minimum k))
comparable_part first second minimum = part_then (sequences first second) (minimums minimum) (sequences_part first second) (minimums_part minimum)

settings_part : (minimum buckets start : ℕ) → Part (settings minimum buckets start)
settings_part minimum buckets start =
    part_cause _ (eqb buckets 0) 4 (omega arith)
    (part_cause _ (ltb 1024 buckets) 4 (omega arith)
    (part_cause _ (ltb start minimum) 5 (omega arith) (part_cause _ (ltb 2048 start) 5 (omega arith) part_end)))

-- The check of the workspace is one by itself too: a service that lists no tile has no other of the room.
pub workspace_part : (n m workspace : ℕ) → Part (workspaces n m workspace)
workspace_part n m workspace = part_cause _ (ltb workspace (4 * (n + m))) 6 (omega arith) part_end

room_part : (n m minimum workspace tiles : ℕ) → Part (room n m minimum workspace tiles)
room_part n m minimum workspace tiles =
    part_cause _ (ltb workspace (4 * (n + m))) 6 (omega arith)
    (part_cause _ (ltb tiles (3 * (min n m / minimum))) 7 (omega arith) part_end)

-- All that the search checks is a part of what a service checks, without room and with it.
pub search_part : (first second : List ℕ) (minimum buckets start : ℕ) → Part (search_checks first second minimum buckets start)
search_part first second minimum buckets start =
    part_then (λ k. sequences first second (minimums minimum k)) (settings minimum buckets start) (comparable_part first second minimum) (settings_part minimum buckets start)

pub fast_part : (first second : List ℕ) (minimum buckets start workspace tiles : ℕ) → Part (fast_checks first second minimum buckets start workspace tiles)
fast_part first second minimum buckets start workspace tiles =
    part_then (search_checks first second minimum buckets start) (room (length first) (length second) minimum workspace tiles)
    (search_part first second minimum buckets start)
    (room_part (length first) (length second) minimum workspace tiles)

-- A refusal that the code of a part answered is that of the whole chain, whatever is checked later.
pub workspace_stopped : (n m workspace : ℕ) (e : Refusal) (later : ℕ) → number e ≡ workspaces n m workspace 0 → number e ≡ workspaces n m workspace later
workspace_stopped n m workspace e later h = part_stops _ (workspace_part n m workspace) (number e) later h (never_none e)

module _ (first second : List ℕ) (e : Refusal) (later : ℕ) where
  pub sequences_stopped : number e ≡ sequences first second 0 → number e ≡ sequences first second later
  sequences_stopped h = part_stops _ (sequences_part first second) (number e) later h (never_none e)

  pub pair_stopped : (minimum : ℕ) → number e ≡ sequences first second (minimums minimum 0) → number e ≡ sequences first second (minimums minimum later)
  pair_stopped minimum h = part_stops _ (comparable_part first second minimum) (number e) later h (never_none e)

  pub search_stopped : (minimum buckets start : ℕ) → number e ≡ search_checks first second minimum buckets start 0 → number e ≡ search_checks first second minimum buckets start later
  search_stopped minimum buckets start h = part_stops _ (search_part first second minimum buckets start) (number e) later h (never_none e)

  pub fast_stopped : (minimum buckets start workspace tiles : ℕ) → number e ≡ fast_refusal first second minimum buckets start workspace tiles → number e ≡ fast_checks first second minimum buckets start workspace tiles later
  fast_stopped minimum buckets start workspace tiles h =
      part_stops _ (fast_part first second minimum buckets start workspace tiles) (number e) later h (never_none e)
