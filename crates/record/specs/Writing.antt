-- What writing a record gives for any id, any words and any buffer.
use Rattle.std.specs.Prelude.{ℕ, ◌+◌, not, List, ltb, length}
use Rattle.symbol.specs.Sequence.{all_sound, too_long}
use Rattle.refusal.specs.Refusal.{refuse, outcome, counted}
use Rattle.refusal.specs.declared.Counted.{Counted}
use Rattle.buffer.specs.Buffer.{onto}
use Rattle.record.specs.Format.{encode}

-- "Writing checks 1, 2, then 11."
abbrev pub write_refusal : List ℕ → ℕ → ℕ
write_refusal s room =
    refuse (too_long s) 1
    (refuse (not (all_sound s)) 2
    (refuse (ltb room (length s + 2)) 11 0))

-- "answers the count of words written"
abbrev pub write_answer : List ℕ → ℕ → Counted
write_answer s room = counted (write_refusal s room) (length s + 2)

abbrev pub write_buffer : ℕ → List ℕ → List ℕ → List ℕ
write_buffer id s buffer = outcome (write_refusal s (length buffer)) (onto (encode id s) buffer) buffer
