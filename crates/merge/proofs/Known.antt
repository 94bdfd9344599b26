-- Every case of the known list comes out as written: the checker computes the test.
-- Assumes nothing.
use mathlib.Core.Bool.{true}
use mathlib.Core.Path.{◌≡◌, refl}
use Rattle.symbol.specs.Word.{kind, low, code, is_call, is_no_call, is_sound, replacements, is_retired, replaced, equal_calls, matches}
use Rattle.symbol.specs.Sequence.{every}
use Rattle.buffer.specs.Buffer.{same}
use Rattle.record.specs.Format.{header, id_of, count_of, sum_low, checksum, trailer, encode}
use Rattle.record.specs.Reading.{closes}
use Rattle.merge.specs.Word.{merged_word, merged}
use Rattle.merge.specs.Known.{holds, all_hold, typed, again, empty, other, cases}

pub known : all_hold cases ≡ true
unfolding kind low code is_call is_no_call is_sound replacements is_retired replaced equal_calls matches every same header id_of count_of sum_low checksum trailer encode closes merged_word merged holds all_hold typed again empty other cases
known = refl
