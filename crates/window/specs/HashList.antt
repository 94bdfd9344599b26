-- The list of the hashes of a sequence's windows, and what asking for it gives for any words and any buffer.
use Rattle.std.specs.Prelude.{ℕ, suc, ◌-◌, not, List, length, take, drop, ◌==◌, nat_lt}
use Rattle.symbol.specs.Sequence.{all_sound, too_long}
use Rattle.refusal.specs.Refusal.{refuse, outcome, counted}
use Rattle.refusal.specs.declared.Counted.{Counted}
use Rattle.buffer.specs.Buffer.{onto, tabulate}
use Rattle.window.specs.Hash.{hash}

-- At how many positions of n words a window of length s fits: "none fits when the window is longer than the strand".
abbrev pub windows : ℕ → ℕ → ℕ
windows s n = suc n - s

abbrev pub hash_at : ℕ → ℕ → List ℕ → ℕ → ℕ
hash_at B s words i = hash B (take s (drop i words))

-- "the hash at each place where a window fits": by any hash of a window, and by that for a multiplier.
abbrev pub hashes_by : (List ℕ → ℕ) → ℕ → List ℕ → List ℕ
hashes_by h s words = tabulate (λ i. h (take s (drop i words))) (windows s (length words))

abbrev pub hashes : ℕ → ℕ → List ℕ → List ℕ
hashes B = hashes_by (hash B)

-- "It checks 1, 2, 5, then 11."
abbrev pub hash_refusal : List ℕ → ℕ → ℕ → ℕ
hash_refusal words s room =
    refuse (too_long words) 1
    (refuse (not (all_sound words)) 2
    (refuse (s == 0) 5
    (refuse (nat_lt 2048 s) 5
    (refuse (nat_lt room (windows s (length words))) 11 0))))

abbrev pub hash_answer : List ℕ → ℕ → ℕ → Counted
hash_answer words s room = counted (hash_refusal words s room) (windows s (length words))

-- "fills the start of a lent buffer .. Buffer words past the hashes keep their values."
abbrev pub hash_buffer : List ℕ → ℕ → ℕ → List ℕ → List ℕ
hash_buffer words B s buffer = outcome (hash_refusal words s (length buffer)) (onto (hashes B s words) buffer) buffer
