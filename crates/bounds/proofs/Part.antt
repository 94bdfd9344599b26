-- A list with another part in the place of one: what stands there, and what is as it was.
-- Assumes nothing.
use Prim.Native.Nat.{ℕ, ◌+◌, ◌-◌, ◌≤◌, ◌<◌}
use native.Mathlib.Omega.{arith}
use mathlib.Core.Path.{◌≡◌, sym, ◌∙◌, ap}
use mathlib.Core.List.{List, ◌++◌}
use lib.ListN.{length, take, drop, get_or, length-append, length-drop}
use lib.Seq.{length-take-le, take-append-le, take-take, take_at, drop_at, drop-drop, get_or-take, get_or-drop}

module _ (from to : ℕ) (ws part : List ℕ) (h : from ≤ to) (l : to ≤ length ws) (e : length part ≡ to - from) where
  abbrev new : List ℕ
  new = take from ws ++ (part ++ drop to ws)

  front_length : length (take from ws) ≡ from
  front_length = length-take-le from ws (omega arith)

  pub put_length : length new ≡ length ws
  put_length =
      length-append (take from ws) (part ++ drop to ws)
      ∙ omega (arith, front_length, length-append part (drop to ws), e, length-drop to ws)

  pub put_front : (k : ℕ) → k ≤ from → take k new ≡ take k ws
  put_front k z = take-append-le k (take from ws) (part ++ drop to ws) (omega (arith, front_length)) ∙ take-take k from ws z

  rest : drop from new ≡ part ++ drop to ws
  rest = drop_at (take from ws) (part ++ drop to ws) from front_length

  pub put_part : take (to - from) (drop from new) ≡ part
  put_part = ap (take (to - from)) rest ∙ take_at part (drop to ws) (to - from) e

  put_end : drop to new ≡ drop to ws
  put_end =
      let all : from + (to - from) ≡ to = omega arith in
      ap (λ k. drop k new) (sym all) ∙ (sym (drop-drop (to - from) from new) ∙ (ap (drop (to - from)) rest ∙ drop_at part (drop to ws) (to - from) e))

  pub put_back : (k : ℕ) → to ≤ k → drop k new ≡ drop k ws
  put_back k z =
      let all : to + (k - to) ≡ k = omega arith in
      ap (λ i. drop i new) (sym all) ∙ (sym (drop-drop (k - to) to new) ∙ (ap (drop (k - to)) put_end ∙ (drop-drop (k - to) to ws ∙ ap (λ i. drop i ws) all)))

  pub put_before : (i : ℕ) → i < from → get_or new i 0 ≡ get_or ws i 0
  put_before i z = sym (get_or-take from new i 0 z) ∙ (ap (λ xs. get_or xs i 0) (put_front from (omega arith)) ∙ get_or-take from ws i 0 z)

  pub put_after : (i : ℕ) → to ≤ i → get_or new i 0 ≡ get_or ws i 0
  put_after i z =
      let all : to + (i - to) ≡ i = omega arith in
      ap (λ k. get_or new k 0) (sym all) ∙ (sym (get_or-drop to new (i - to) 0) ∙ (ap (λ xs. get_or xs (i - to) 0) put_end ∙ (get_or-drop to ws (i - to) 0 ∙ ap (λ k. get_or ws k 0) all)))
