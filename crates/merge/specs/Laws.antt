-- What holds of two typings merged: of a position, and of two records for which merging is not refused. Statements alone; nothing is
-- defined by them.
use Rattle.std.specs.Prelude.{ℕ, ◌+◌, ◌≡◌, ◌⊎◌, true, false, List, ◌++◌, map, length, take, drop}
use Rattle.symbol.specs.Word.{is_call, is_no_call, no_call, replaced, matches}
use Rattle.buffer.specs.Buffer.{onto}
use Rattle.record.specs.Format.{id_of}
use Rattle.record.specs.Reading.{head, count, sequence, read_answer, read_buffer}
use Rattle.merge.specs.Word.{merged_word, merged}
use Rattle.merge.specs.Merging.{merge_refusal, merge_answer, merge_buffer}

-- ---- a position
-- A word that the typings a and b have at a position, or the no-call.
abbrev pub From : ℕ → ℕ → ℕ → Type 0
From a b w = (w ≡ a) ⊎ ((w ≡ b) ⊎ (w ≡ no_call))

-- A typing does not speak against a word: it has no call there, or one that matches.
abbrev pub Allows : ℕ → ℕ → Type 0
Allows w a = (is_no_call a ≡ true) ⊎ (matches w a ≡ true)

-- No call is invented: the merged word is from one of the two, and where it is a call neither speaks against it.
pub record NotInvented (a b w : ℕ) : Type 0 where
  pub from : From a b w
  pub allowed : is_call w ≡ true → Allows w a × Allows w b

-- Both ways round: the same once retired codes are replaced, so that they match the same words. As they stand they differ only where both
-- typings have a call and these match; each way then keeps its first's.
pub record EitherFirst (a b : ℕ) : Type 0 where
  pub alike : replaced (merged_word a b) ≡ replaced (merged_word b a)
  pub like : (w : ℕ) → matches (merged_word a b) w ≡ matches (merged_word b a) w
  pub equal : matches a b ≡ false → merged_word a b ≡ merged_word b a
  pub first_kept : matches a b ≡ true → (merged_word a b ≡ a) × (merged_word b a ≡ b)

-- "Three typings may depend on the order of joining": of two calls that do not match, the second wins where it comes again after both, and
-- nothing is left where it is merged with itself before.
pub record OrderMatters (a b : ℕ) : Type 0 where
  pub again_after : merged_word (merged_word a b) b ≡ b
  pub again_before : merged_word a (merged_word b b) ≡ no_call

-- Two typings do not speak against one another at a position: one has no call there, or they match.
abbrev pub Undisputed : ℕ → ℕ → Type 0
Undisputed a b = (is_no_call a ≡ true) ⊎ ((is_no_call b ≡ true) ⊎ (matches a b ≡ true))

-- In any order: however three typings are grouped the word is the same, and whichever of them comes last it is the same once retired codes are
-- replaced. (Which of two comes first is EitherFirst.)
pub record AnyOrder (a b c : ℕ) : Type 0 where
  pub grouped : merged_word (merged_word a b) c ≡ merged_word a (merged_word b c)
  pub second_last : replaced (merged_word (merged_word a c) b) ≡ replaced (merged_word (merged_word a b) c)
  pub first_last : replaced (merged_word (merged_word b c) a) ≡ replaced (merged_word (merged_word a b) c)

-- ---- two records
-- "The result is a strip that reads without refusal", with the id and the count of both and the words merged, wherever there is room for them.
pub record Reads (first second buffer out : List ℕ) : Type 0 where
  pub answer : read_answer (merge_buffer first second buffer) (length out) ≡ record { refusal = 0; id = id_of (head first); count = count first; used = count first + 2 }
  pub copied : read_buffer (merge_buffer first second buffer) out ≡ onto (merged (sequence first) (sequence second)) out
  pub same_id : id_of (head first) ≡ id_of (head second)
  pub same_count : count first ≡ count second

-- "Joining a strip with itself gives it back": it is accepted, its words are those of the record, and the words beyond them stay.
pub record GivenBack (src buffer : List ℕ) : Type 0 where
  pub accepts : merge_refusal src src (length buffer) ≡ 0
  pub same : take (count src + 2) (merge_buffer src src buffer) ≡ take (count src + 2) src
  pub beyond : drop (count src + 2) (merge_buffer src src buffer) ≡ drop (count src + 2) buffer

-- Both ways round: neither is refused, and the sequences are the same once retired codes are replaced.
pub record BothWays (first second : List ℕ) (room : ℕ) : Type 0 where
  pub accepts : merge_refusal second first room ≡ 0
  pub alike : map replaced (merged (sequence second) (sequence first)) ≡ map replaced (merged (sequence first) (sequence second))

-- Words after a trailer are not looked at: whatever follows either record, all that merging gives is the same.
pub record Unread (first second rest others : List ℕ) : Type 0 where
  pub answer : (room : ℕ) → merge_answer (first ++ rest) (second ++ others) room ≡ merge_answer first second room
  pub written : (buffer : List ℕ) → merge_buffer (first ++ rest) (second ++ others) buffer ≡ merge_buffer first second buffer
