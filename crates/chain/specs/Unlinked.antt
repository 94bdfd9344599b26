-- The entries of a chain after some words were taken out of it. No reader of the engines' contracts needs these.
use Rattle.std.specs.Prelude.{ℕ, zero, suc, ◌+◌, ◌-◌, ◌*◌, ◌/◌, true, false, List, ltb, length, set}
use Rattle.chain.specs.Chain.{next_of, before_of, entry}

-- The previous word points on to the next one, and the next one back to the previous, where there are such words.
unfoldable pub pointed_on : ℕ → ℕ → List ℕ → List ℕ
pointed_on zero next es = es
pointed_on (suc b) next es = set es b (entry b (before_of es b) next)

unfoldable pub pointed_back : ℕ → ℕ → List ℕ → List ℕ
pointed_back before next es =
    elim (ltb next (length es)) [ true ↦ set es next (entry next before (next_of es next)) | false ↦ es ]

-- The first words of n blocks of 32 after block b lead to the same two.
unfoldable pub led : ℕ → ℕ → ℕ → ℕ → List ℕ → List ℕ
led before next b zero es = es
led before next b (suc n) es = set (led before next b n es) (32 * (b + suc n)) (entry (32 * (b + suc n)) before next)

-- The words on either side point to one another.
abbrev pub mended : ℕ → ℕ → List ℕ → List ℕ
mended before next es = pointed_back before next (pointed_on before next es)

-- The words from `at` up to the last one lead to the same two: the first, the last, and those of blocks between.
abbrev pub led_out : ℕ → ℕ → ℕ → ℕ → List ℕ → List ℕ
led_out at last before next es =
    led before next (at / 32) (last / 32 - at / 32) (set (set es at (entry at before next)) last (entry last before next))

-- len words from position `at` on were taken out.
unfoldable pub unlinked : ℕ → ℕ → List ℕ → List ℕ
unlinked at len es =
    let last = at + len - 1 in
    let before = before_of es at in
    let next = next_of es last in
    led_out at last before next (mended before next es)
