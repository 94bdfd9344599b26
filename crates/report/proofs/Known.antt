-- Every input of the list is answered as written, the worked example of 01 among them: the checker computes the definition.
-- Assumes nothing.
use mathlib.Core.Bool.{true}
use mathlib.Core.Path.{◌≡◌, refl}
use Rattle.symbol.specs.Word.{kind, low, code, is_call, is_no_call, is_sound, replacements, is_retired, replaced, equal_calls, matches}
use Rattle.symbol.specs.Sequence.{every}
use Rattle.record.specs.Format.{id_of, count_of, sum_low, checksum}
use Rattle.record.specs.Reading.{closes}
use Rattle.tiling.specs.Run.{leading, mark}
use Rattle.tiling.specs.Greedy.{peak, greedy}
use Rattle.tiling.specs.Tiling.{best_text_by, row_length_by, best_by, lay, tiling_by}
use Rattle.tiling.specs.Choice.{first_by_words, first_is_pattern}
use Rattle.tiling.specs.Listing.{listing, covered, score, shift}
use Rattle.buffer.specs.Buffer.{same}
use Rattle.tiling.specs.Known.{shorter, longer}
use Rattle.lines.specs.Text.{ascii, digits, decimal, signed, spaced}
use Rattle.report.specs.Words.{words_of}
use Rattle.report.specs.Pair.{refused_line, shift_end, tile_line, tile_lines, opening, closing, pair_lines, from_pair, from_second, from_first, from_words, pair_report}
use Rattle.report.specs.Known.{bytes_of, first, second, cases, all_hold}

pub known : all_hold cases ≡ true
unfolding kind low code is_call is_no_call is_sound replacements is_retired replaced equal_calls matches every id_of count_of sum_low checksum closes leading mark peak greedy best_text_by row_length_by best_by lay tiling_by first_by_words first_is_pattern listing covered score shift same shorter longer ascii digits decimal signed spaced words_of refused_line shift_end tile_line tile_lines opening closing pair_lines from_pair from_second from_first from_words pair_report bytes_of first second cases all_hold
known = refl
