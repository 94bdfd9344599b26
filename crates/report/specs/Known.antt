-- Inputs of the pair program with what it prints for them, and the test that each comes out as written.
use Rattle.std.specs.Prelude.{ℕ, ◌/◌, ◌%◌, Bool, true, ◌&&◌, List, [], ◌∷◌, ◌++◌}
use Rattle.buffer.specs.Buffer.{same}
use Rattle.tiling.specs.Known.{shorter, longer}
use Rattle.lines.specs.Text.{ascii}
use Rattle.report.specs.Pair.{pair_report}

-- Words as a file has them: "each word is four bytes, lowest byte first".
unfoldable pub bytes_of : List ℕ → List ℕ
bytes_of [] = []
bytes_of (w ∷ ws) = w % 256 ∷ w / 256 % 256 ∷ w / 65536 % 256 ∷ w / 16777216 ∷ bytes_of ws

pub record Case : Type 0 where
  pub input : List ℕ
  pub output : List ℕ

-- "fish 12 has caabaad and fish 13 has baadcaaaabaa (the strings of 000). Headings and closings are, in hexadecimal, 00030007, C0030014
-- and 0003400C, C003401F."
unfoldable pub first : List ℕ
first = 0x00030007 ∷ shorter ++ (0xC0030014 ∷ [])

unfoldable pub second : List ℕ
second = 0x0003400C ∷ longer ++ (0xC003401F ∷ [])

unfoldable pub cases : List Case
cases =
    -- the worked example of 01
    record {
      input = bytes_of (1 ∷ first ++ second);
      output = ascii "FISH 12 13\nMINIMUM 1\nTILES 3\n1 7 5 6\n0 4 1 4\n6 3 1 -3\nCOVERED 7 OF 7 12\nSCORE 736\n";
    }
    -- the same with words after the second record and a last part of three bytes
    ∷ record {
      input = bytes_of (1 ∷ first ++ (second ++ first)) ++ (1 ∷ 2 ∷ 3 ∷ []);
      output = ascii "FISH 12 13\nMINIMUM 1\nTILES 3\n1 7 5 6\n0 4 1 4\n6 3 1 -3\nCOVERED 7 OF 7 12\nSCORE 736\n";
    }
    ∷ record { input = []; output = ascii "REFUSED 8\n" }  -- no minimum word
    ∷ record { input = 1 ∷ 0 ∷ 0 ∷ []; output = ascii "REFUSED 8\n" }
    ∷ record { input = bytes_of (1 ∷ first); output = ascii "REFUSED 8\n" }  -- no second record
    ∷ record { input = bytes_of (1 ∷ second ++ (0xC0030014 ∷ [])); output = ascii "REFUSED 9\n" }
    ∷ record { input = bytes_of (0 ∷ first ++ second); output = ascii "REFUSED 3\n" }
    ∷ []

unfoldable pub all_hold : List Case → Bool
all_hold [] = true
all_hold (k ∷ ks) = same (pair_report k.input) k.output && all_hold ks
