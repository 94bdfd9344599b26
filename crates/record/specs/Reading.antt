-- What reading a record gives for any words and any buffer.
use Rattle.std.specs.Prelude.{ℕ, ◌+◌, Bool, not, ◌&&◌, Result, Ok, Err, List, eqb, ltb, length, get_or, take, drop}
use Rattle.symbol.specs.Word.{kind, low}
use Rattle.symbol.specs.Sequence.{all_sound}
use Rattle.refusal.specs.Number.{number}
use Rattle.refusal.specs.Refusal.{refuse, outcome}
use Rattle.refusal.specs.declared.Refusal.{Refusal}
use Rattle.buffer.specs.Buffer.{onto}
use Rattle.record.specs.Format.{id_of, count_of, checksum}
use Rattle.record.specs.declared.Found.{Found}
use Rattle.record.specs.declared.ReadAnswer.{ReadAnswer}

-- The first word, and the count that it gives.
abbrev pub head : List ℕ → ℕ
head src = get_or src 0 0

abbrev pub count : List ℕ → ℕ
count src = count_of (head src)

-- The words between header and trailer.
abbrev pub sequence : List ℕ → List ℕ
sequence src = take (count src) (drop 1 src)

-- The word after the sequence is "kind 3 with the right sum".
unfoldable pub closes : List ℕ → Bool
closes src =
    eqb (kind (get_or src (count src + 1) 0)) 3
    && eqb (low (get_or src (count src + 1) 0)) (checksum (take (count src + 1) src))

-- "Reading a strip: an empty slice is 8; then 9; then fewer than count + 2 words is 8; then 2, 10, 11." The frame, the content, both
-- as the record's own faults, and the room for it, each followed by what is checked later.
abbrev pub frame : List ℕ → ℕ → ℕ
frame src later =
    refuse (eqb (length src) 0) 8
    (refuse (not (eqb (kind (head src)) 0)) 9
    (refuse (ltb 2048 (count src)) 9
    (refuse (ltb (length src) (count src + 2)) 8 later)))

abbrev pub content : List ℕ → ℕ → ℕ
content src later = refuse (not (all_sound (sequence src))) 2 (refuse (not (closes src)) 10 later)

abbrev pub fault : List ℕ → ℕ → ℕ
fault src later = frame src (content src later)

abbrev pub read_refusal : List ℕ → ℕ → ℕ
read_refusal src room = fault src (refuse (ltb room (count src)) 11 0)

-- "Reading a strip answers the fish number, the count and how many words were used"
abbrev pub read_answer : List ℕ → ℕ → ReadAnswer
read_answer src room =
    record {
      refusal = read_refusal src room;
      id = outcome (read_refusal src room) (id_of (head src)) 0;
      count = outcome (read_refusal src room) (count src) 0;
      used = outcome (read_refusal src room) (count src + 2) 0;
    }

-- The answer as which what is found is given, or a refusal.
abbrev pub read_as : Result Found Refusal → ReadAnswer
read_as (Ok found) = record { refusal = 0; id = found.id; count = found.count; used = found.used }
read_as (Err e) = record { refusal = number e; id = 0; count = 0; used = 0 }

-- "and copies the strand to the start of a lent buffer"
abbrev pub read_buffer : List ℕ → List ℕ → List ℕ
read_buffer src buffer = outcome (read_refusal src (length buffer)) (onto (sequence src) buffer) buffer
