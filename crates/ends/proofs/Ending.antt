-- From the last state of a comparison to the listing of its tiles. At the goal no more is laid, and short of it nothing as long as the minimum is
-- left; so what was laid are the first tiles that the greedy choice lays, until the goal, and those are the first of the tiling, of the
-- replaced words and so of the words.
-- Assumes nothing.
use Prim.Native.Nat.{ℕ}
use native.Mathlib.Nat.{mul-le-mul_left, mul-one}
use native.Mathlib.Omega.{arith}
use mathlib.Core.Path.{◌≡◌, refl, sym, ◌∙◌, ap, subst}
use mathlib.Core.Bool.{Bool, true, false}
use mathlib.Core.List.{List, [], ◌++◌, map, append-nil}
use lib.ListN.{length, length-map}
use Rattle.symbol.specs.Word.{replaced}
use Rattle.buffer.specs.Buffer.{onto}
use Rattle.tiling.specs.Tiling.{Tile, State, start, best, size, on_pattern, lay, tiling, replaced_in}
use Rattle.tiling.specs.Greedy.{Greedy, done}
use Rattle.tiling.specs.Comparing.{Comparable}
use Rattle.tiling.specs.Choice.{first_is_pattern, pattern_of, text_of}
use Rattle.tiling.specs.Listing.{start_on_pattern, listing, tile_words, covered}
use Rattle.tiling.specs.Until.{Far, unlaid, until, first_listed}
use Rattle.tiling.proofs.Greedy.{only}
use Rattle.tiling.proofs.Tiling.{tiling_greedy}
use Rattle.tiling.proofs.Replaced.{tiling_replaced, fillable_replaced}
use Rattle.tiling.proofs.Until.{until_stops, until_replaced, until_map}
use Rattle.tile.specs.Listed.{listed}
use Rattle.bounds.specs.Workspace.{state}
use Rattle.sweep.specs.Goal.{stops_at, at_goal, stopped, until_goal}
use Rattle.sweep.specs.Settled.{pick}
use Rattle.sweep.specs.Progress.{Fits, far, Laid, Finished}
use Rattle.sweep.specs.declared.Goal.{Goal}
use Rattle.bounds.specs.declared.Job.{Job}
use Rattle.sweep.specs.declared.Totals.{Totals}
use Rattle.sweep.proofs.Step.{goal_is}
use Rattle.ends.specs.Ends.{Opened, no_tiles}
use Rattle.ends.specs.Result.{Room, Ran}
use Rattle.ends.proofs.Opening.{first_state, listing_is, opened_fits}

-- ---- tiles as they are listed
at_same : (t : Bool) (k : Tile) → start_on_pattern t (listed t k) ≡ k.p
at_same true k = refl
at_same false k = refl

size_same : (t : Bool) (k : Tile) → (listed t k).len ≡ k.len
size_same true k = refl
size_same false k = refl

-- The first tiles of the listing, until any test holds, are those of the tiling as they are listed.
pub first_listed_is : (stop : Far → Bool) (first second : List ℕ) (minimum : ℕ) → first_listed stop first second minimum ≡ map (listed (first_is_pattern first second)) (until on_pattern size stop (unlaid (pattern_of first second)) (tiling minimum (start (pattern_of first second) (text_of first second))))
first_listed_is stop first second minimum =
    let t = first_is_pattern first second in
    let pattern = pattern_of first second in
    ap (until (start_on_pattern t) (λ e. e.len) stop (unlaid pattern)) (listing_is first second minimum)
    ∙ until_map on_pattern size (start_on_pattern t) (λ e. e.len) (listed t) (at_same t) (size_same t) stop (unlaid pattern) (tiling minimum (start pattern (text_of first second)))

-- ---- words that are replaced
replaced_stop : (goal : Goal) (minimum n : ℕ) (ws : List ℕ) → stopped goal minimum (record { covered = n; pattern = map replaced ws }) ≡ stopped goal minimum (record { covered = n; pattern = ws })
unfolding stopped
replaced_stop goal minimum n ws = ap (λ x. stops_at goal n x) (fillable_replaced minimum ws)

-- ---- nothing laid
held_none : (t : Bool) (b : List ℕ) → b ≡ pick t b b
held_none true b = refl
held_none false b = refl

module _ (first second : List ℕ) (minimum : ℕ) (goal : Goal) (ws b : List ℕ) (c : Comparable first second minimum) (room : Room (length first) (length second) minimum goal (length ws) (length b)) (j : Job) (ws₁ : List ℕ) (o : Opened first second minimum ws j ws₁) where
  abbrev pattern : List ℕ
  pattern = pattern_of first second

  abbrev s₀ : State
  s₀ = replaced_in (start pattern (text_of first second))

  abbrev all : List Tile
  all = tiling minimum (start pattern (text_of first second))

  starts : state j ws₁ ≡ s₀
  starts = first_state first second minimum goal ws b c room j ws₁ o

  nothing_laid : Laid j s₀ b ws₁ b (no_tiles j goal)
  unfolding tile_words covered
  nothing_laid =
      record {
        tiles = [];
        rest = λ ls g. subst (λ u. Greedy best size lay j.minimum u ls) starts g;
        going = λ ls. ap (λ (u : State). until_goal goal j.minimum (unlaid u.pattern) ls) (sym starts);
        held = held_none goal.listed b;
        counted = refl;
        summed = refl;
      }

  -- ---- the end
  module _ (ws₂ b' : List ℕ) (k : Totals) (f : Finished j j.minimum ws₁ b (no_tiles j goal) ws₂ b' k) where
    laid_here : Laid j s₀ b ws₂ b' k
    laid_here = f.onward.keeps s₀ b nothing_laid

    -- What the greedy choice would lay from here on, after these.
    abbrev later : List Tile
    later = tiling j.minimum (state j ws₂)

    later_greedy : Greedy best size lay j.minimum (state j ws₂) later
    later_greedy = tiling_greedy j.minimum f.fits.least (state j ws₂)

    least_is : j.minimum ≡ minimum
    least_is = ap (λ x. x.minimum) o.job

    goal_of : k.goal ≡ goal
    goal_of = f.onward.aim

    straight_is : j.straight ≡ first_is_pattern first second
    straight_is = ap (λ x. x.straight) o.job

    together : laid_here.tiles ++ later ≡ all
    together =
        only
        (subst (λ x. Greedy best size lay x s₀ (laid_here.tiles ++ later)) least_is (laid_here.rest later later_greedy))
        (tiling_greedy minimum c.least s₀)
        ∙ tiling_replaced minimum (start pattern (text_of first second))

    -- Short of the goal there is nothing; so nothing is laid before the goal.
    none_later : at_goal k ≡ false → later ≡ []
    none_later g = only later_greedy (done (f.short g))

    none_before : until_goal k.goal j.minimum (far j ws₂ k) later ≡ []
    unfolding until
    none_before = go (at_goal k) refl
      where
        go : (t : Bool) → at_goal k ≡ t → until_goal k.goal j.minimum (far j ws₂ k) later ≡ []
        go true e = until_stops on_pattern size (stopped k.goal j.minimum) (far j ws₂ k) later (sym (goal_is j ws₂ b' k f.fits) ∙ e)
        go false e = ap (until_goal k.goal j.minimum (far j ws₂ k)) (none_later e)

    -- The tiles laid are the first of the tiling, until the goal; and, as they are listed, of the listing.
    until_here : until_goal k.goal j.minimum (unlaid (map replaced pattern)) all ≡ laid_here.tiles
    until_here =
        ap (until_goal k.goal j.minimum (unlaid (map replaced pattern))) (sym together)
        ∙ (laid_here.going later ∙ (ap (λ ks. laid_here.tiles ++ ks) none_before ∙ append-nil laid_here.tiles))

    first_tiles : until on_pattern size (stopped goal minimum) (unlaid pattern) all ≡ laid_here.tiles
    first_tiles =
        sym (until_replaced on_pattern size (stopped goal minimum) (replaced_stop goal minimum) 0 pattern all)
        ∙ (ap (λ g. until on_pattern size (stopped g minimum) (unlaid (map replaced pattern)) all) (sym goal_of)
        ∙ (ap (λ n. until on_pattern size (stopped k.goal n) (unlaid (map replaced pattern)) all) (sym least_is) ∙ until_here))

    first_listed_lem : first_listed (stopped goal minimum) first second minimum ≡ map (listed j.straight) laid_here.tiles
    first_listed_lem =
        first_listed_is (stopped goal minimum) first second minimum
        ∙ (ap (map (listed (first_is_pattern first second))) first_tiles ∙ ap (λ x. map (listed x) laid_here.tiles) (sym straight_is))

    all_listed : at_goal k ≡ false → map (listed j.straight) laid_here.tiles ≡ listing first second minimum
    all_listed g =
        let e : laid_here.tiles ≡ all = sym (append-nil laid_here.tiles) ∙ (ap (λ ks. laid_here.tiles ++ ks) (sym (none_later g)) ∙ together) in
        ap (map (listed j.straight)) e ∙ (ap (λ x. map (listed x) all) straight_is ∙ sym (listing_is first second minimum))

    at_goal_is : at_goal k ≡ stops_at goal k.covered k.fillable
    unfolding at_goal
    at_goal_is = ap (λ g. stops_at g k.covered k.fillable) goal_of

    -- Each tile has a word or more, and none is covered twice.
    ran : Ran first second minimum goal b b' k
    ran =
        let entries = first_listed_lem in
        let held : b' ≡ pick goal.listed (onto (tile_words (map (listed j.straight) laid_here.tiles)) b) b =
        laid_here.held ∙ ap (λ g. pick g.listed (onto (tile_words (map (listed j.straight) laid_here.tiles)) b) b) goal_of in
        record {
          laid =
              record {
                held = held ∙ ap (λ es. pick goal.listed (onto (tile_words es) b) b) (sym entries);
                counted = rw entries (laid_here.counted ∙ sym (length-map laid_here.tiles (listed j.straight)));
                summed = rw entries laid_here.summed;
              };
          all = λ g. entries ∙ all_listed (at_goal_is ∙ g);
          few_tiles = omega (arith, mul-le-mul_left k.count f.fits.least, mul-one k.count, f.fits.each, f.fits.free, f.fits.space.short_pattern);
          few_covered = omega (arith, f.fits.free, f.fits.space.short_pattern);
          few_words = omega (arith, c.first_short, c.second_short);
        }

-- The same where the first record was computed.
module _ (first second : List ℕ) (minimum : ℕ) (goal : Goal) (ws b : List ℕ) (c : Comparable first second minimum) (room : Room (length first) (length second) minimum goal (length ws) (length b)) (j : Job) (ws₁ : List ℕ) (o : Opened first second minimum ws j ws₁) (k₀ : Totals) (none : k₀ ≡ no_tiles j goal) where
  pub begun : length ws₁ ≡ length ws → Fits j ws₁ b k₀
  begun same = rw none (opened_fits first second minimum goal ws b c room j ws₁ o same)

  pub ended : (ws₂ b' : List ℕ) (k : Totals) → Finished j j.minimum ws₁ b k₀ ws₂ b' k → Ran first second minimum goal b b' k
  ended ws₂ b' k f = ran first second minimum goal ws b c room j ws₁ o ws₂ b' k (rw none at f)
