-- Every case of the known list comes out as written: the checker computes the test.
-- Assumes nothing.
use mathlib.Core.Bool.{true}
use mathlib.Core.Path.{◌≡◌, refl}
use Rattle.symbol.specs.Word.{kind, low, code, is_call, replacements, is_retired, replaced, equal_calls, matches}
use Rattle.tiling.specs.Run.{leading, mark}
use Rattle.tiling.specs.Greedy.{peak, greedy}
use Rattle.tiling.specs.Tiling.{best_text_by, row_length_by, best_by, lay, tiling_by}
use Rattle.tiling.specs.Choice.{first_by_words, first_is_pattern, pattern_of}
use Rattle.tiling.specs.Stretch.{stretches_after, if_long, sum_long}
use Rattle.tiling.specs.Until.{until}
use Rattle.tiling.specs.Listing.{listing, covered, score}
use Rattle.tiling.specs.Known.{shorter, longer}
use Rattle.threshold.specs.Promise.{told}
use Rattle.threshold.specs.Known.{equal, holds, all_hold, cases}

pub known : all_hold cases ≡ true
unfolding kind low code is_call replacements is_retired replaced equal_calls matches leading mark peak greedy best_text_by row_length_by best_by lay tiling_by first_by_words first_is_pattern pattern_of stretches_after if_long sum_long until listing covered score shorter longer told equal holds all_hold cases
known = refl
