-- What the writers of the report promise, and what they are told of the records and of the tiles.
use Rattle.std.specs.Prelude.{ℕ, ◌+◌, ◌*◌, ◌≤◌, ◌<◌, ◌≡◌, Result, Ok, Err, List, length, take}
use Rattle.refusal.specs.Number.{number}
use Rattle.refusal.specs.declared.Refusal.{Refusal}
use Rattle.buffer.specs.Buffer.{onto}
use Rattle.record.specs.Format.{id_of}
use Rattle.record.specs.Reading.{head, count, sequence}
use Rattle.record.specs.declared.Found.{Found}
use Rattle.tiling.specs.Each.{Each}
use Rattle.tiling.specs.Listing.{Entry, listing, covered, score}
use Rattle.tiling.specs.Demand.{tiles_in}
use Rattle.tiling.specs.declared.Compared.{Compared}
use Rattle.report.specs.Pair.{reading, comparing}
use Rattle.report.specs.Buffers.{report_bytes}

-- The bytes stand at the start of the buffer, r is their number, and what lies beyond is as it was.
pub record Written (bytes b : List ℕ) (r : ℕ) (b' : List ℕ) : Type 0 where
  pub count : r ≡ length bytes
  pub few : r ≤ report_bytes
  pub held : b' ≡ onto bytes b

-- What was found of a record, its sequence at the start of the buffer.
pub record Held (src : List ℕ) (found : Found) (buffer : List ℕ) : Type 0 where
  pub none : reading src ≡ 0
  pub id : found.id ≡ id_of (head src)
  pub used : found.used ≡ count src + 2
  pub whole : found.used ≤ length src
  pub fits : found.count ≤ length buffer
  pub short : found.count ≤ 2048
  pub prefix : take found.count buffer ≡ sequence src

-- What reading gives where the buffer has room for every sequence: the record, or why it cannot be read.
abbrev pub Read : List ℕ → Result Found Refusal → List ℕ → Type 0
Read src (Ok found) buffer = Held src found buffer
Read src (Err e) buffer = number e ≡ reading src

-- A tile's starts are positions of sequences: below 2,048.
pub record Starts (e : Entry) : Type 0 where
  pub first : e.first < 2048
  pub second : e.second < 2048

-- The tiles of an accepted comparison of sequences with n and m words, as answer and tile buffer have them.
pub record Laid (n m : ℕ) (a : Compared) (tiles : List ℕ) : Type 0 where
  pub few : a.tiles ≤ 2048
  pub room : 3 * a.tiles ≤ length tiles
  pub starts : Each Starts (tiles_in a.tiles tiles)
  pub covered : a.covered ≡ covered (tiles_in a.tiles tiles)
  pub score : a.score ≡ score a.covered (n + m)

-- What the search gives for two sequences: why they are not compared, or their tiles.
pub record Searched (first second : List ℕ) (minimum : ℕ) (a : Compared) (tiles : List ℕ) : Type 0 where
  pub refusal : a.refusal ≡ comparing first second minimum
  pub laid : a.refusal ≡ 0 → Laid (length first) (length second) a tiles
  pub listed : a.refusal ≡ 0 → tiles_in a.tiles tiles ≡ listing first second minimum
