-- Every case of the known list comes out as written: the checker computes the test.
-- Assumes nothing.
use mathlib.Core.Bool.{true}
use mathlib.Core.Path.{◌≡◌, refl}
use Rattle.symbol.specs.Word.{kind, low, code, is_call, replacements, is_retired, replaced, equal_calls, matches}
use Rattle.buffer.specs.Buffer.{tabulate, same}
use Rattle.window.specs.Hash.{weigh, words_hash}
use Rattle.tiling.specs.Run.{leading, mark}
use Rattle.tiling.specs.Greedy.{peak, greedy}
use Rattle.tiling.specs.Tiling.{best_text_by, row_length_by, best_by, lay, tiling_by}
use Rattle.tiling.specs.Choice.{first_by_words, first_is_pattern}
use Rattle.tiling.specs.Listing.{listing, tile_words, covered, score, shift}
use Rattle.tiling.specs.Known.{sameℤ, shifted, holds, all_hold, shorter, longer, cases}

pub known : all_hold cases ≡ true
unfolding tabulate weigh words_hash kind low code is_call replacements is_retired replaced equal_calls matches leading mark peak greedy best_text_by row_length_by best_by lay tiling_by first_by_words first_is_pattern listing tile_words covered score shift same sameℤ shifted holds all_hold shorter longer cases
known = refl
