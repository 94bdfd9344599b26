-- What it means that reading and writing undo each other, and that a reader stops at the trailer.
use Rattle.std.specs.Prelude.{ℕ, ◌+◌, ◌^◌, ◌<◌, ◌≡◌, List, ◌++◌, length, take, drop}
use Rattle.buffer.specs.Buffer.{onto}
use Rattle.record.specs.Format.{id_of}
use Rattle.record.specs.Reading.{head, count, sequence, fault, read_refusal, read_answer, read_buffer}
use Rattle.record.specs.Writing.{write_refusal, write_buffer}

-- What comes of writing what was read from src, by way of buffer, to out.
abbrev pub rewritten : List ℕ → List ℕ → List ℕ → List ℕ
rewritten src buffer out = write_buffer (id_of (head src)) (take (count src) (read_buffer src buffer)) out

-- "No accepted strip changes by being read and written again": the write is accepted, its words are those of the record, and the words
-- beyond them stay.
pub record Rewritten (src buffer out : List ℕ) : Type 0 where
  pub id_fits : id_of (head src) < 2 ^ 16
  pub accepts : write_refusal (take (count src) (read_buffer src buffer)) (length out) ≡ 0
  pub same : take (count src + 2) (rewritten src buffer out) ≡ take (count src + 2) src
  pub beyond : drop (count src + 2) (rewritten src buffer out) ≡ drop (count src + 2) out

-- "and no strand by being written and read": the read is accepted and gives the id, the count and the words.
pub record Reread (id : ℕ) (s buffer out : List ℕ) : Type 0 where
  pub answer : read_answer (write_buffer id s buffer) (length out) ≡ record { refusal = 0; id = id; count = length s; used = length s + 2 }
  pub copied : read_buffer (write_buffer id s buffer) out ≡ onto s out

-- "Words after the closing word aren't looked at": whatever follows src, its parts and its faults, and all that reading gives, are the
-- same.
pub record Unread (src rest : List ℕ) : Type 0 where
  pub first : head (src ++ rest) ≡ head src
  pub words : sequence (src ++ rest) ≡ sequence src
  pub own : (later : ℕ) → fault (src ++ rest) later ≡ fault src later
  pub refusal : (room : ℕ) → read_refusal (src ++ rest) room ≡ read_refusal src room
  pub answer : (room : ℕ) → read_answer (src ++ rest) room ≡ read_answer src room
  pub copied : (buffer : List ℕ) → read_buffer (src ++ rest) buffer ≡ read_buffer src buffer
