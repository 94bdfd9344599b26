-- What two typings of one fish say of a position, and of a sequence. To merge is 02's joining.
use Rattle.std.specs.Prelude.{ℕ, true, false, List, [], ◌∷◌}
use Rattle.symbol.specs.Word.{is_no_call, no_call, matches}

-- "where both match under U4 take the first's word; where one is a no-call take the other's; otherwise write a no-call" (02, U6)
unfoldable pub merged_word : ℕ → ℕ → ℕ
merged_word a b =
    elim (matches a b) [
      | true ↦ a
      | false ↦ elim (is_no_call a) [ true ↦ b | false ↦ elim (is_no_call b) [ true ↦ a | false ↦ no_call ] ]
    ]

-- "word by word": position by position, as far as both reach.
unfoldable pub merged : List ℕ → List ℕ → List ℕ
merged [] t = []
merged (a ∷ s) [] = []
merged (a ∷ s) (b ∷ t) = merged_word a b ∷ merged s t
