-- What merging two records gives for any words and any buffer.
use Rattle.std.specs.Prelude.{ℕ, ◌+◌, not, List, eqb, ltb, length}
use Rattle.refusal.specs.Refusal.{refuse, outcome, counted}
use Rattle.refusal.specs.declared.Counted.{Counted}
use Rattle.buffer.specs.Buffer.{onto}
use Rattle.record.specs.Format.{id_of, encode}
use Rattle.record.specs.Reading.{head, count, sequence, fault}
use Rattle.merge.specs.Word.{merged}

-- "Answers: the first strip's own checks, then the second's, then different fish numbers 13, different counts 14, destination 11." What two
-- records are asked together, and the whole chain.
abbrev pub pair_refusal : List ℕ → List ℕ → ℕ → ℕ
pair_refusal first second room =
    refuse (not (eqb (id_of (head first)) (id_of (head second)))) 13
    (refuse (not (eqb (count first) (count second))) 14
    (refuse (ltb room (count first + 2)) 11 0))

abbrev pub merge_refusal : List ℕ → List ℕ → ℕ → ℕ
merge_refusal first second room = fault first (fault second (pair_refusal first second room))

-- The record of the fish with each word merged, header and trailer of its own.
abbrev pub merged_record : List ℕ → List ℕ → List ℕ
merged_record first second = encode (id_of (head first)) (merged (sequence first) (sequence second))

-- "The reply is the count of words written."
abbrev pub merge_answer : List ℕ → List ℕ → ℕ → Counted
merge_answer first second room = counted (merge_refusal first second room) (count first + 2)

abbrev pub merge_buffer : List ℕ → List ℕ → List ℕ → List ℕ
merge_buffer first second buffer = outcome (merge_refusal first second (length buffer)) (onto (merged_record first second) buffer) buffer
