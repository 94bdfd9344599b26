-- Whether some of the known pairs reach some thresholds, and the tiles that this takes, as one list of cases, and the test that each comes out
-- as written.
use Rattle.std.specs.Prelude.{ℕ, Bool, true, false, not, ◌&&◌, List, [], ◌∷◌, eqb, length}
use Rattle.symbol.specs.Word.{no_call}
use Rattle.tiling.specs.Known.{a, b, c, d, e, shorter, longer}
use Rattle.threshold.specs.Promise.{told_tiles, is_reached}

pub record Case : Type 0 where
  pub first : List ℕ
  pub second : List ℕ
  pub minimum : ℕ
  pub threshold : ℕ
  pub reached : Bool
  pub tiles : ℕ

-- Both or neither.
unfoldable pub equal : Bool → Bool → Bool
equal true t = t
equal false t = not t

unfoldable pub holds : Case → Bool
holds k =
    equal (is_reached k.first k.second k.minimum k.threshold) k.reached
    && eqb (length (told_tiles k.first k.second k.minimum k.threshold)) k.tiles

unfoldable pub all_hold : List Case → Bool
all_hold [] = true
all_hold (k ∷ ks) = holds k && all_hold ks

unfoldable pub cases : List Case
cases =
    record { first = []; second = []; minimum = 1; threshold = 0; reached = true; tiles = 0 }
    ∷ record { first = []; second = []; minimum = 1; threshold = 1; reached = false; tiles = 0 }
    -- K5: 7 words against 12, of which tiles of 5, 1 and 1 words cover 7: a score of 736 at minimum 1, and of 526 at minimum 2.
    ∷ record { first = shorter; second = longer; minimum = 1; threshold = 0; reached = true; tiles = 0 }
    ∷ record { first = shorter; second = longer; minimum = 1; threshold = 526; reached = true; tiles = 1 }
    ∷ record { first = shorter; second = longer; minimum = 1; threshold = 527; reached = true; tiles = 2 }
    ∷ record { first = shorter; second = longer; minimum = 1; threshold = 736; reached = true; tiles = 3 }
    ∷ record { first = shorter; second = longer; minimum = 1; threshold = 737; reached = false; tiles = 0 }  -- 7 words are too few
    ∷ record { first = longer; second = shorter; minimum = 1; threshold = 736; reached = true; tiles = 3 }
    ∷ record { first = shorter; second = longer; minimum = 3; threshold = 527; reached = false; tiles = 1 }  -- what is left is too short
    ∷ record { first = shorter; second = longer; minimum = 8; threshold = 1; reached = false; tiles = 0 }  -- the pattern is too short
    -- A no-call is free: with it three words could be covered of three.
    ∷ record { first = a ∷ no_call ∷ b ∷ []; second = a ∷ no_call ∷ c ∷ []; minimum = 1; threshold = 1000; reached = false; tiles = 1 }
    -- And it does not end a stretch: after the tile of a and b four words in a row could still be covered.
    ∷ record { first = a ∷ b ∷ c ∷ no_call ∷ d ∷ e ∷ []; second = d ∷ e ∷ a ∷ b ∷ no_call ∷ no_call ∷ []; minimum = 2; threshold = 700; reached = false; tiles = 2 }
    ∷ []
