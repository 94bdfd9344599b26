-- From two sequences to the first state of a comparison. Pattern and text are copied to the start of the workspace, their words replaced, so
-- the first state is theirs but for retired calls, and all words are free.
-- Assumes nothing.
use Prim.Native.Nat.{ℕ, ◌+◌, ◌*◌, ◌≤◌, ◌<◌, min}
use native.Mathlib.Omega.{arith}
use mathlib.Core.Path.{◌≡◌, refl, sym, ◌∙◌, ap, subst}
use mathlib.Core.Bool.{Bool, true, false}
use mathlib.Core.List.{List, ◌++◌, map, append_assoc}
use lib.ListN.{length, take, drop, get_or, set, length-take, length-drop, length-map, length-append}
use lib.Seq.{take_at, drop_at, length-take-le, get_or-take, get_or-drop}
use Rattle.symbol.specs.Word.{is_call, replaced}
use Rattle.symbol.specs.Sequence.{all_sound, none_retired}
use Rattle.symbol.proofs.Sequence.{get_or_replaced, none_current, sound_not_zero}
use Rattle.buffer.specs.Buffer.{onto}
use Rattle.buffer.proofs.Buffer.{length_onto, Copied, copied_more}
use Rattle.tiling.specs.Tiling.{State, start, tiling, replaced_in, AllCurrent}
use Rattle.tiling.specs.Comparing.{Comparable}
use Rattle.tiling.specs.Choice.{first_is_pattern, pattern_of, text_of}
use Rattle.tiling.specs.Stretch.{if_long, fillable}
use Rattle.tiling.specs.Listing.{listing}
use Rattle.tiling.proofs.Run.{length_mark, mark_inside}
use Rattle.tiling.proofs.Tally.{tally_length}
use Rattle.tiling.proofs.Choice.{first_shorter, second_shorter}
use Rattle.tiling.proofs.Replaced.{replaced_free, current_start, fillable_replaced}
use Rattle.tile.specs.Listed.{listed}
use Rattle.tile.proofs.Marking.{take_mark_out}
use Rattle.chain.specs.Chain.{Free, Chained}
use Rattle.chain.proofs.Links.{chained_start}
use Rattle.bounds.specs.Workspace.{Space, state, chains_from, pattern_chain, text_chain}
use Rattle.bounds.proofs.Workspace.{front_state}
use Rattle.stretch.proofs.Fillable.{fillable_all}
use Rattle.sweep.specs.Progress.{Fits}
use Rattle.sweep.specs.declared.Goal.{Goal}
use Rattle.bounds.specs.declared.Job.{Job}
use Rattle.ends.specs.Ends.{begun, Opened, no_tiles}
use Rattle.ends.specs.Result.{Room}

-- ---- copying in

-- Words without a retired call are their own replacements; others are replaced one by one.
pub copied_same : (words b b' : List ℕ) (r : Bool) → r ≡ none_retired words → r ≡ true → b' ≡ onto words b → b' ≡ onto (map replaced words) b
copied_same words b b' r e t k = rw (none_current words (sym e ∙ t)) k

pub copied_word : (words b₀ b : List ℕ) (i w : ℕ) → Copied (map replaced words) b₀ b i → i < length words → w ≡ replaced (get_or words i 0) → Copied (map replaced words) b₀ (set b i w) (i + 1)
copied_word words b₀ b i w r h e = rw (e, ← get_or_replaced words i) (copied_more (map replaced words) b₀ b i r (rw (length-map words replaced) h))

-- ---- which sequence is the pattern
module _ (first second : List ℕ) (minimum : ℕ) (b : Bool) (e : b ≡ first_is_pattern first second) (ws ws' : List ℕ) where
  pub opened_first : b ≡ true → ws' ≡ begun first second ws → Opened first second minimum ws (record { n = length first; m = length second; minimum = minimum; straight = true }) ws'
  unfolding pattern_of text_of
  opened_first k c =
      let is : first_is_pattern first second ≡ true = sym e ∙ k in
      record { job = rw (pattern_of, text_of, is) refl; copied = rw (pattern_of, text_of, is) c }

  pub opened_second : b ≡ false → ws' ≡ begun second first ws → Opened first second minimum ws (record { n = length second; m = length first; minimum = minimum; straight = false }) ws'
  unfolding pattern_of text_of
  opened_second k c =
      let is : first_is_pattern first second ≡ false = sym e ∙ k in
      record { job = rw (pattern_of, text_of, is) refl; copied = rw (pattern_of, text_of, is) c }

module _ (first second : List ℕ) where
  -- The pattern is the shorter one, and both together have as many words as before.
  pub record Chosen : Type 0 where
    pub shorter : length (pattern_of first second) ≡ min (length first) (length second)
    pub together : length (pattern_of first second) + length (text_of first second) ≡ length first + length second

  pub chosen_lengths : Chosen
  unfolding pattern_of text_of
  chosen_lengths = go (first_is_pattern first second) refl
    where
      go : (t : Bool) → first_is_pattern first second ≡ t → Chosen
      go true e = record { shorter = rw (pattern_of, e) (omega (arith, first_shorter first second e)); together = rw (pattern_of, text_of, e) refl }
      go false e = record { shorter = rw (pattern_of, e) (omega (arith, second_shorter first second e)); together = rw (pattern_of, text_of, e) (omega arith) }

  -- The listing is the tiling of pattern and text, each tile listed by which of them was first.
  pub listing_is : (minimum : ℕ) → listing first second minimum ≡ map (listed (first_is_pattern first second)) (tiling minimum (start (pattern_of first second) (text_of first second)))
  unfolding listing pattern_of text_of
  listing_is minimum = go (first_is_pattern first second) refl
    where
      go : (t : Bool) → first_is_pattern first second ≡ t → listing first second minimum ≡ map (listed (first_is_pattern first second)) (tiling minimum (start (pattern_of first second) (text_of first second)))
      go true e = rw (listing, pattern_of, text_of, e) refl
      go false e = rw (listing, pattern_of, text_of, e) refl

-- ---- the start
-- The state of a workspace that begins with two sequences.
copied_state : (pattern text : List ℕ) (j : Job) → j.n ≡ length pattern → j.m ≡ length text → (ws : List ℕ) → state j (onto (pattern ++ text) ws) ≡ start pattern text
copied_state pattern text j n m ws = λ i. record { pattern = of_pattern i; text = of_text i }
  where
    rest : List ℕ
    rest = drop (length (pattern ++ text)) ws

    whole : (pattern ++ text) ++ rest ≡ pattern ++ (text ++ rest)
    whole = append_assoc pattern text rest

    of_pattern : take j.n (onto (pattern ++ text) ws) ≡ pattern
    of_pattern = rw whole (take_at pattern (text ++ rest) j.n (sym n))

    of_text : take j.m (drop j.n (onto (pattern ++ text) ws)) ≡ text
    of_text = rw (whole, drop_at pattern (text ++ rest) j.n (sym n)) (take_at text rest j.m (sym m))

-- The pattern is one of two sound sequences, so its words are free.
pattern_sound : (first second : List ℕ) → all_sound first ≡ true → all_sound second ≡ true → all_sound (pattern_of first second) ≡ true
unfolding pattern_of
pattern_sound first second e k = go (first_is_pattern first second) refl
  where
    go : (t : Bool) → first_is_pattern first second ≡ t → all_sound (pattern_of first second) ≡ true
    go true t = rw (pattern_of, t) e
    go false t = rw (pattern_of, t) k

text_sound : (first second : List ℕ) → all_sound first ≡ true → all_sound second ≡ true → all_sound (text_of first second) ≡ true
unfolding text_of
text_sound first second e k = go (first_is_pattern first second) refl
  where
    go : (t : Bool) → first_is_pattern first second ≡ t → all_sound (text_of first second) ≡ true
    go true t = rw (text_of, t) k
    go false t = rw (text_of, t) e

-- A sound word is free, and so is what it is replaced by.
words_free : (ws : List ℕ) → all_sound ws ≡ true → (i : ℕ) → i < length (map replaced ws) → Free (map replaced ws) i
words_free ws e i h z = sound_not_zero ws e i (omega (arith, length-map ws replaced)) (replaced_free (get_or ws i 0) (sym (get_or_replaced ws i) ∙ z))

-- The chains stand after everything else, and all their entries are 0.
module _ (pattern text ws : List ℕ) (j : Job) (n : j.n ≡ length pattern) (m : j.m ≡ length text) (room : 4 * (j.n + j.m) ≤ length (begun pattern text ws)) where
  abbrev ws₁ : List ℕ
  ws₁ = begun pattern text ws

  begun_state : state j ws₁ ≡ replaced_in (start pattern text)
  begun_state =
      let both = map replaced pattern ++ map replaced text in
      front_state j (onto both ws) ws₁ (take_mark_out (j.n + j.m) (3 * (length pattern + length text)) (length pattern + length text) (onto both ws) (omega arith))
      ∙ copied_state (map replaced pattern) (map replaced text) j (n ∙ sym (length-map pattern replaced)) (m ∙ sym (length-map text replaced)) ws

  entry_zero : (a k i : ℕ) → i < k → chains_from j ≤ a → a + k ≤ 4 * (j.n + j.m) → get_or (take k (drop a ws₁)) i 0 ≡ 0
  entry_zero a k i h l e =
      get_or-take k (drop a ws₁) i 0 h
      ∙ (get_or-drop a ws₁ i 0
      ∙ mark_inside (3 * (length pattern + length text)) (length pattern + length text) (onto (map replaced pattern ++ map replaced text) ws) (a + i) (omega arith) (omega arith))

  part_length : (a k : ℕ) → a + k ≤ 4 * (j.n + j.m) → length (take k (drop a ws₁)) ≡ k
  part_length a k h = length-take-le k (drop a ws₁) (omega (arith, length-drop a ws₁, room))

  module _ (short_pattern : j.n ≤ 2048) (short_text : j.m ≤ 2048) (sound-pattern : all_sound pattern ≡ true) (sound-text : all_sound text ≡ true) where
    begun_rows : Chained (state j ws₁).pattern (pattern_chain j ws₁)
    begun_rows =
        let k : length (pattern_chain j ws₁) ≡ j.n = part_length (chains_from j) j.n (omega arith) in
        rw (ap (λ (u : State). u.pattern) begun_state)
        (chained_start (map replaced pattern) (pattern_chain j ws₁) (omega (arith, length-map pattern replaced)) (omega (arith, k, length-map pattern replaced)) (words_free pattern sound-pattern)
        (λ i h. entry_zero (chains_from j) j.n i (omega (arith, k)) (omega arith) (omega arith)))

    begun_texts : Chained (state j ws₁).text (text_chain j ws₁)
    begun_texts =
        let k : length (text_chain j ws₁) ≡ j.m = part_length (chains_from j + j.n) j.m (omega arith) in
        rw (ap (λ (u : State). u.text) begun_state)
        (chained_start (map replaced text) (text_chain j ws₁) (omega (arith, length-map text replaced)) (omega (arith, k, length-map text replaced)) (words_free text sound-text)
        (λ i h. entry_zero (chains_from j + j.n) j.m i (omega (arith, k)) (omega arith) (omega arith)))

    begun_free : (q : ℕ) → q < j.n → Free ws₁ q
    begun_free q h z =
        words_free pattern sound-pattern q (omega (arith, length-map pattern replaced))
        (ap (λ (u : State). get_or u.pattern q 0) (sym begun_state) ∙ (get_or-take j.n ws₁ q 0 h ∙ z))

    begun_space : Space j ws₁
    begun_space =
        record {
          short_pattern = short_pattern;
          short_text = short_text;
          roomy = room;
          current = subst AllCurrent (sym begun_state) (current_start pattern text);
          of_pattern = begun_rows;
          of_text = begun_texts;
          covered = λ q h z. absurd (begun_free q h z);
        }

module _ (first second : List ℕ) (minimum : ℕ) (goal : Goal) (ws b : List ℕ) (c : Comparable first second minimum) (room : Room (length first) (length second) minimum goal (length ws) (length b)) where
  abbrev pattern : List ℕ
  pattern = pattern_of first second

  abbrev text : List ℕ
  text = text_of first second

  -- All words of the pattern are free.
  all_free : fillable minimum (map replaced pattern) ≡ if_long minimum (length pattern)
  all_free =
      fillable_replaced minimum pattern
      ∙ fillable_all minimum pattern (sound_not_zero pattern (pattern_sound first second c.first_sound c.second_sound))

  module _ (j : Job) (ws₁ : List ℕ) (o : Opened first second minimum ws j ws₁) where
    lengths : Chosen first second
    lengths = chosen_lengths first second

    pattern_is : j.n ≡ length pattern
    pattern_is = ap (λ x. x.n) o.job

    text_is : j.m ≡ length text
    text_is = ap (λ x. x.m) o.job

    begun_length : length (begun pattern text ws) ≡ length ws
    begun_length =
        let both = map replaced pattern ++ map replaced text in
        length_mark (3 * (length pattern + length text)) (length pattern + length text) (onto both ws)
        ∙ omega (arith, length_onto both ws (omega (arith, length-append (map replaced pattern) (map replaced text), length-map pattern replaced, length-map text replaced, lengths.together, room.work_room)), length-append (map replaced pattern) (map replaced text), length-map pattern replaced, length-map text replaced, lengths.together, room.work_room)

    first_space : Space j ws₁
    first_space =
        subst (Space j) (sym o.copied)
        (begun_space pattern text ws j pattern_is text_is
        (omega (arith, lengths.together, pattern_is, text_is, room.work_room, begun_length))
        (omega (arith, pattern_is, lengths.shorter, c.first_short))
        (omega (arith, text_is, lengths.shorter, lengths.together, c.first_short, c.second_short))
        (pattern_sound first second c.first_sound c.second_sound)
        (text_sound first second c.first_sound c.second_sound))

    -- The comparison starts from the replaced words.
    pub first_state : state j ws₁ ≡ replaced_in (start pattern text)
    first_state =
        ap (state j) o.copied ∙ begun_state pattern text ws j pattern_is text_is (omega (arith, lengths.together, pattern_is, text_is, room.work_room, begun_length))

    -- Nothing is laid, so everything fits.
    pub opened_fits : length ws₁ ≡ length ws → Fits j ws₁ b (no_tiles j goal)
    opened_fits same =
        let l = chosen_lengths first second in
        let left : if_long minimum (length pattern) ≡ fillable minimum (state j ws₁).pattern =
        sym all_free ∙ ap (λ (u : State). fillable minimum u.pattern) (sym first_state) in
        rw o.job
        (record {
          space = rw o.job at first_space;
          least = c.least;
          most = c.most;
          tile_room = λ t. rw l.shorter (room.tile_room t);
          each = omega arith;
          free = omega (arith, tally_length is_call (take (length pattern) ws₁), length-take (length pattern) ws₁);
          left = rw o.job at left;
        })
