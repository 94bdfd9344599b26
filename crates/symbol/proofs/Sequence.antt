-- A test of each word of a sequence, word by word; and sequences without a retired code, which replacing leaves as they are.
-- Assumes nothing.
use Prim.Native.Nat.{ℕ, zero, suc, ◌<◌}
use native.Mathlib.Nat.{not-suc-le-zero, le_of_suc-le-suc}
use native.Mathlib.Omega.{arith}
use mathlib.Core.Path.{◌≡◌, refl, sym, ◌∙◌, ap, subst}
use mathlib.Core.Bool.{Bool, true, false, not, ◌&&◌, and_assoc, and-true}
use mathlib.Core.List.{List, [], ◌∷◌, map}
use borrow.Author.Tests.{not-true}
use lib.ListN.{length, take, drop, get_or, get_or-map}
use Rattle.std.specs.List.{fold}
use Rattle.symbol.specs.Word.{kind, low, is_call, is_no_call, is_sound, is_retired, replaced}
use Rattle.symbol.specs.Sequence.{every, all_sound, none_retired, Current}
use Rattle.symbol.proofs.Word.{and_left, and_right}
use Rattle.symbol.proofs.Retired.{replaced_none, replaced_below, replaced_twice}

-- ---- a fold over every word: whether each one passes the test
module _ (test : ℕ → Bool) where
  every_after : (a : Bool) (s : List ℕ) → fold (λ all w. all && test w) a s ≡ (a && every test s)
  unfolding every
  every_after a [] = sym (and-true a)
  every_after a (w ∷ s) = rw (every_after (a && test w) s, and_assoc a (test w) (every test s))

  pub every_fold : (s : List ℕ) → fold (λ all w. all && test w) true s ≡ every test s
  every_fold s = every_after true s

  -- Each word of a list that passes does.
  pub every_at : (s : List ℕ) → every test s ≡ true → (i : ℕ) → i < length s → test (get_or s i 0) ≡ true
  unfolding every
  every_at [] e i h = absurd (not-suc-le-zero h)
  every_at (w ∷ ws) e zero h = and_left _ _ e
  every_at (w ∷ ws) e (suc i) h = every_at ws (and_right (test w) _ e) i (le_of_suc-le-suc h)

-- So no word of a sound sequence is 0.
zero_unsound : is_sound 0 ≡ false
unfolding is_sound is_call is_no_call kind low
zero_unsound = refl

pub sound_not_zero : (s : List ℕ) → all_sound s ≡ true → (i : ℕ) → i < length s → get_or s i 0 ≡ 0 → ⊥
sound_not_zero s e i h z =
    let f : true ≡ false = sym (subst (λ w. is_sound w ≡ true) z (every_at is_sound s e i h)) ∙ zero_unsound in
    let c : ◌≡◌ {A = ℕ} 0 1 = cc in
    omega arith

-- ---- replacing word by word
pub get_or_replaced : (ws : List ℕ) (i : ℕ) → get_or (map replaced ws) i 0 ≡ replaced (get_or ws i 0)
get_or_replaced ws i = ap (get_or (map replaced ws) i) (sym (replaced_below 0 (omega arith))) ∙ get_or-map replaced ws i 0

pub take_replaced : (n : ℕ) (ws : List ℕ) → take n (map replaced ws) ≡ map replaced (take n ws)
take_replaced zero ws = refl
take_replaced (suc n) [] = refl
take_replaced (suc n) (w ∷ ws) = ap (λ xs. replaced w ∷ xs) (take_replaced n ws)

pub drop_replaced : (n : ℕ) (ws : List ℕ) → drop n (map replaced ws) ≡ map replaced (drop n ws)
drop_replaced zero ws = refl
drop_replaced (suc n) [] = refl
drop_replaced (suc n) (w ∷ ws) = drop_replaced n ws

-- ---- words that are replaced already
pub none_current : (ws : List ℕ) → none_retired ws ≡ true → Current ws
unfolding every
none_current [] e = refl
none_current (w ∷ ws) e =
    let here : replaced w ≡ w = replaced_none w (not-true (is_retired w) (and_left _ _ e)) in
    rw (here, none_current ws (and_right (not (is_retired w)) _ e)) refl

pub current_replaced : (ws : List ℕ) → Current (map replaced ws)
current_replaced [] = refl
current_replaced (w ∷ ws) = rw (replaced_twice w, current_replaced ws) refl

pub current_at : (ws : List ℕ) → Current ws → (i : ℕ) → replaced (get_or ws i 0) ≡ get_or ws i 0
current_at ws c i = sym (get_or_replaced ws i) ∙ ap (λ xs. get_or xs i 0) c

pub current_take : (n : ℕ) (ws : List ℕ) → Current ws → Current (take n ws)
current_take n ws c = sym (take_replaced n ws) ∙ ap (take n) c

pub current_drop : (n : ℕ) (ws : List ℕ) → Current ws → Current (drop n ws)
current_drop n ws c = sym (drop_replaced n ws) ∙ ap (drop n) c
