-- Every case of the known list comes out as written: the checker computes the test.
-- Assumes nothing.
use mathlib.Core.Bool.{true}
use mathlib.Core.Path.{◌≡◌, refl}
use Rattle.symbol.specs.Word.{kind, low, code, is_call, replacements, is_retired, replaced, equal_calls, matches}
use Rattle.buffer.specs.Buffer.{tabulate, same}
use Rattle.tiling.specs.Run.{leading, mark}
use Rattle.tiling.specs.Greedy.{peak, greedy}
use Rattle.tiling.specs.Tiling.{best_text_by, row_length_by, best_by, lay, tiling_by}
use Rattle.tiling.specs.Choice.{first_by_words, first_is_pattern}
use Rattle.tiling.specs.Listing.{listing, covered}
use Rattle.tiling.specs.Known.{shorter, longer}
use Rattle.cover.specs.Known.{holds, all_hold, cases}

pub known : all_hold cases ≡ true
unfolding tabulate kind low code is_call replacements is_retired replaced equal_calls matches leading mark peak greedy best_text_by row_length_by best_by lay tiling_by first_by_words first_is_pattern listing covered same shorter longer holds all_hold cases
known = refl
