-- Free windows. A word matches itself just when it is a call, so the calls that stand without a gap from a position of the text on are the
-- run of the text with itself; and since words that match are calls, no run is longer. A call is not marked, so a window that has a marked
-- word is none of calls, and where a run of s words begins both windows are free.
-- Assumes nothing.
use Prim.Native.Nat.{ℕ, suc, ◌+◌, ◌-◌, ◌^◌, ◌≤◌, ◌<◌}
use native.Mathlib.Decide.{dec_lt, ℕ_discrete}
use native.Mathlib.Omega.{arith}
use native.Mathlib.Numerals.{add-one}
use mathlib.Core.Path.{◌≡◌, refl, sym, ◌∙◌, ap}
use mathlib.Core.Bool.{Bool, true, false}
use mathlib.Core.List.{List, ◌∷◌}
use borrow.Author.Tests.{le-leb, lt-leb}
use lib.Dec.{leb}
use lib.ListN.{drop, get_or, length-take, length-drop}
use lib.Seq.{drop-cons, get_or-take, get_or-drop}
use Rattle.symbol.specs.Word.{is_call, matches}
use Rattle.symbol.proofs.Word.{call_range}
use Rattle.symbol.proofs.Retired.{match_call, match_self, match_swap, no_match_left}
use Rattle.tiling.specs.Run.{run}
use Rattle.tiling.specs.Stretch.{free_first}
use Rattle.tiling.specs.Tiling.{State, run_at}
use Rattle.tiling.proofs.Leading.{leading_cons, leading_none}
use Rattle.tiling.proofs.Run.{run_match, run_least, run_within}
use Rattle.tiling.proofs.Stretch.{free_most, free_least}
use Rattle.chain.specs.Chain.{Free}
use Rattle.bounds.specs.Workspace.{Space, state}
use Rattle.bounds.specs.declared.Job.{Job}
use Rattle.bounds.proofs.Workspace.{text_length}
use Rattle.index.specs.Built.{free_at, AllFree, listed}
use Rattle.index.specs.declared.pass.Pass.{Pass}

run_free : (ps ts : List ℕ) → run ps ts ≤ run ts ts
run_free ps ts =
    run_least ts ts (run ps ts)
    (λ i h. let m = match_swap (get_or ps i 0) (get_or ts i 0) (run_match ps ts i h) in match_self (get_or ts i 0) (match_call (get_or ts i 0) (get_or ps i 0) m))

-- A run of the text is free.
pub free_run : (j : Job) (ws : List ℕ) (p u : ℕ) → run_at (state j ws) p u ≤ free_at j ws u
free_run j ws p u = run_free (drop p (state j ws).pattern) (drop u (state j ws).text)

-- ---- word by word
call_more : (x : ℕ) (xs : List ℕ) → is_call x ≡ true → run (x ∷ xs) (x ∷ xs) ≡ suc (run xs xs)
call_more x xs e = leading_cons matches x x xs xs (match_self x e)

call_none : (x : ℕ) (xs : List ℕ) → is_call x ≡ false → run (x ∷ xs) (x ∷ xs) ≡ 0
call_none x xs e = leading_none matches x x xs xs (no_match_left x x e)

-- None stand past the end, so a free window begins within the text.
free_within : (j : Job) (ws : List ℕ) (t : ℕ) → free_at j ws t ≤ j.m - t
free_within j ws t =
    let rest = drop t (state j ws).text in
    omega (arith, run_within rest rest, length-drop t (state j ws).text, length-take j.m (drop j.n ws))

-- What is free is so by the sequences alone.
pub free_same : (j : Job) (ws ws' : List ℕ) (u : ℕ) → state j ws' ≡ state j ws → free_at j ws' u ≡ free_at j ws u
free_same j ws ws' u e = ap (λ (x : State). run (drop u x.text) (drop u x.text)) e

module _ (j : Job) (ws : List ℕ) (t after : ℕ) (s : Space j ws) (inside : t < j.m) (known : after ≡ free_at j ws (t + 1)) where
  first_word : drop t (state j ws).text ≡ get_or ws (j.n + t) 0 ∷ drop (t + 1) (state j ws).text
  first_word =
      let e : get_or (state j ws).text t 0 ≡ get_or ws (j.n + t) 0 = get_or-take j.m (drop j.n ws) t 0 inside ∙ get_or-drop j.n ws t 0 in
      rw (add-one t, ← e) (drop-cons (state j ws).text t 0 (omega (arith, text_length j ws s)))

  pub free_fits : after + 1 < 2 ^ 64
  free_fits = omega (arith, free_within j ws (t + 1), s.short_text)

  pub free_more : (r : Bool) → r ≡ is_call (get_or ws (j.n + t) 0) → r ≡ true → after + 1 ≡ free_at j ws t
  free_more r e k =
      let xs = drop (t + 1) (state j ws).text in
      rw first_word (omega (arith, call_more (get_or ws (j.n + t) 0) xs (sym e ∙ k)))

  pub free_stop : (r : Bool) → r ≡ is_call (get_or ws (j.n + t) 0) → r ≡ false → 0 ≡ free_at j ws t
  free_stop r e k =
      let xs = drop (t + 1) (state j ws).text in
      rw first_word (omega (arith, call_none (get_or ws (j.n + t) 0) xs (sym e ∙ k)))

-- ---- marked words
-- A call is not marked, so the words of a run are free on both sides.
call_free : (w : ℕ) → is_call w ≡ true → w ≡ 0 → ⊥
call_free w e z = omega (arith, (call_range w e).least)

run_word : (xs ys : List ℕ) (p u k : ℕ) → k < run (drop p xs) (drop u ys) → matches (get_or xs (p + k) 0) (get_or ys (u + k) 0) ≡ true
run_word xs ys p u k l = rw (← get_or-drop p xs k 0, ← get_or-drop u ys k 0) (run_match (drop p xs) (drop u ys) k l)

module _ (xs ys : List ℕ) (p u s : ℕ) (h : s ≤ run (drop p xs) (drop u ys)) where
  pub run_pattern : AllFree s xs p
  run_pattern k l = call_free (get_or xs (p + k) 0) (match_call (get_or xs (p + k) 0) (get_or ys (u + k) 0) (run_word xs ys p u k (omega arith)))

  pub run_text : AllFree s ys u
  run_text k l =
      call_free (get_or ys (u + k) 0)
      (match_call (get_or ys (u + k) 0) (get_or xs (p + k) 0) (match_swap (get_or xs (p + k) 0) (get_or ys (u + k) 0) (run_word xs ys p u k (omega arith))))

-- One of the s words from q on is marked.
pub record Busy (s : ℕ) (xs : List ℕ) (q : ℕ) : Type 0 where
  pub at : ℕ
  pub less : at < s
  pub marked : get_or xs (q + at) 0 ≡ 0

pub busy_by : (s : ℕ) (xs : List ℕ) (q e : ℕ) → q ≤ e → e < q + s → (Free xs e → ⊥) → Busy s xs q
busy_by s xs q e low high d =
    record { at = e - q; less = omega arith; marked = let k : q + (e - q) ≡ e = omega arith in rw k (go (ℕ_discrete (get_or xs e 0) 0)) }
  where
    go : Dec (get_or xs e 0 ≡ 0) → get_or xs e 0 ≡ 0
    go (yes z) = z
    go (no z) = absurd (d z)

module _ (s : ℕ) (xs : List ℕ) (q : ℕ) where
  pub not_free : Busy s xs q → AllFree s xs q → ⊥
  not_free b free = free b.at b.less b.marked

  pub test_busy : Busy s xs q → leb s (free_first (drop q xs)) ≡ false
  test_busy b = lt-leb s (free_first (drop q xs)) (omega (arith, free_most (drop q xs) b.at (get_or-drop q xs b.at 0 ∙ b.marked), b.less))

  pub test_free : AllFree s xs q → leb s (free_first (drop q xs)) ≡ true
  test_free free = le-leb s (free_first (drop q xs)) (free_least (drop q xs) s (λ k l z. free k l (sym (get_or-drop q xs k 0) ∙ z)))

-- So no such window of the text is linked.
pub busy_text : (j : Job) (ws : List ℕ) (s u : ℕ) → Busy s (state j ws).text u → free_at j ws u < s
busy_text j ws s u b = go (dec_lt b.at (free_at j ws u))
  where
    go : Dec (b.at < free_at j ws u) → free_at j ws u < s
    go (yes l) = absurd (run_pattern (state j ws).text (state j ws).text u u (free_at j ws u) (omega arith) b.at l b.marked)
    go (no l) = omega (arith, l, b.less)

pub busy_listed : (x : Pass) (ws : List ℕ) (u : ℕ) → Busy x.s (state x.job ws).text u → listed x ws u ≡ false
busy_listed x ws u b = rw (lt-leb x.s (free_at x.job ws u) (busy_text x.job ws x.s u b)) refl
