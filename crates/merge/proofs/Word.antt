-- The merged word case by case, and what holds of it: it is from one of the two typings or the no-call, both ways round it is the same
-- once replaced, and three typings depend on their order. And word by word: as long as both, sound where both are, itself where both are one.
-- Assumes nothing.
use Prim.Native.Nat.{ℕ, zero, suc, ◌<◌}
use native.Mathlib.Nat.{not-suc-le-zero, le_of_suc-le-suc}
use native.Mathlib.Omega.{arith}
use mathlib.Core.Path.{◌≡◌, refl, sym, ◌∙◌, ap}
use mathlib.Core.Logic.{inl, inr, ⊎_elim}
use mathlib.Core.Bool.{Bool, true, false}
use mathlib.Core.List.{List, [], ◌∷◌, map}
use lib.ListN.{length, get_or}
use Rattle.symbol.specs.Word.{kind, low, is_call, is_no_call, no_call, is_sound, is_retired, replaced, equal_calls, matches}
use Rattle.symbol.specs.Sequence.{every, all_sound}
use Rattle.symbol.proofs.Word.{and_both, and_left, and_right, no_call_is, calls_equal, calls_call}
use Rattle.symbol.proofs.Retired.{replaced_none, call_replaced, match_equal, match_self, match_swap, no_match_left}
use Rattle.merge.specs.Word.{merged_word, merged}
use Rattle.merge.specs.Laws.{NotInvented, EitherFirst, OrderMatters, Undisputed, AnyOrder}

-- ---- the cases
module _ (a b : ℕ) where
  word_agreed : matches a b ≡ true → merged_word a b ≡ a
  unfolding merged_word
  word_agreed e = rw (merged_word, e) refl

  word_second : matches a b ≡ false → is_no_call a ≡ true → merged_word a b ≡ b
  unfolding merged_word
  word_second e f = rw (merged_word, e, f) refl

  word_first : matches a b ≡ false → is_no_call a ≡ false → is_no_call b ≡ true → merged_word a b ≡ a
  unfolding merged_word
  word_first e f g = rw (merged_word, e, f, g) refl

  word_conflict : matches a b ≡ false → is_no_call a ≡ false → is_no_call b ≡ false → merged_word a b ≡ no_call
  unfolding merged_word
  word_conflict e f g = rw (merged_word, e, f, g) refl

-- The same as the code tests them, in their order. Equal calls match as they stand.
pub take_equal : (a b : ℕ) (x : Bool) → x ≡ equal_calls a b → x ≡ true → a ≡ merged_word a b
take_equal a b x e t =
    let equal : equal_calls a b ≡ true = sym e ∙ t in
    sym (word_agreed a b (rw (← calls_equal a b equal) (match_self a (calls_call a b equal))))

module _ (a b : ℕ) (x : Bool) (e : x ≡ matches a b) where
  pub take_agreed : x ≡ true → a ≡ merged_word a b
  take_agreed t = sym (word_agreed a b (sym e ∙ t))

  module _ (f : x ≡ false) (y : Bool) (g : y ≡ is_no_call a) where
    pub take_second : y ≡ true → b ≡ merged_word a b
    take_second t = sym (word_second a b (sym e ∙ f) (sym g ∙ t))

    module _ (h : y ≡ false) (z : Bool) (k : z ≡ is_no_call b) where
      pub take_first : z ≡ true → a ≡ merged_word a b
      take_first t = sym (word_first a b (sym e ∙ f) (sym g ∙ h) (sym k ∙ t))

      pub take_none : z ≡ false → no_call ≡ merged_word a b
      take_none t = sym (word_conflict a b (sym e ∙ f) (sym g ∙ h) (sym k ∙ t))

-- The no-call is one and no call, and a call is not one.
no_call_one : is_no_call no_call ≡ true
unfolding is_no_call kind low
no_call_one = refl

no_call_none : is_call no_call ≡ false
unfolding is_call kind low
no_call_none = refl

no_call_sound : is_sound no_call ≡ true
unfolding is_sound
no_call_sound = rw (no_call_none, no_call_one) refl

call_one : (w : ℕ) → is_call w ≡ true → is_no_call w ≡ false
call_one w e = go (is_no_call w) refl
  where
    go : (t : Bool) → is_no_call w ≡ t → t ≡ false
    go true f = sym e ∙ (ap is_call (no_call_is w f) ∙ no_call_none)
    go false f = refl

other_way : (a b : ℕ) → matches a b ≡ false → matches b a ≡ false
other_way a b e = go (matches b a) refl
  where
    go : (t : Bool) → matches b a ≡ t → t ≡ false
    go true f = sym (match_swap b a f) ∙ e
    go false f = refl

-- ---- no call is invented
pub not_invented : (a b : ℕ) → NotInvented a b (merged_word a b)
not_invented a b = go (matches a b) (is_no_call a) (is_no_call b) refl refl refl
  where
    go : (x y z : Bool) → matches a b ≡ x → is_no_call a ≡ y → is_no_call b ≡ z → NotInvented a b (merged_word a b)
    go true y z e f g = rw (word_agreed a b e) (record { from = inl refl; allowed = λ k. (inr (match_self a k), inr e) })
    go false true z e f g = rw (word_second a b e f) (record { from = inr (inl refl); allowed = λ k. (inl f, inr (match_self b k)) })
    go false false true e f g = rw (word_first a b e f g) (record { from = inl refl; allowed = λ k. (inr (match_self a k), inl g) })
    go false false false e f g =
        rw (word_conflict a b e f g)
        (record { from = inr (inr refl); allowed = λ k. absurd (let z : true ≡ false = sym k ∙ no_call_none in let n : ◌≡◌ {A = ℕ} 0 1 = cc in omega arith) })

-- ---- both ways round
either_equal : (a b : ℕ) → matches a b ≡ false → merged_word a b ≡ merged_word b a
either_equal a b e = go (is_no_call a) (is_no_call b) refl refl
  where
    go : (y z : Bool) → is_no_call a ≡ y → is_no_call b ≡ z → merged_word a b ≡ merged_word b a
    go true true f g = word_second a b e f ∙ (no_call_is b g ∙ (sym (no_call_is a f) ∙ sym (word_second b a (other_way a b e) g)))
    go true false f g = word_second a b e f ∙ sym (word_first b a (other_way a b e) g f)
    go false true f g = word_first a b e f g ∙ sym (word_second b a (other_way a b e) g)
    go false false f g = word_conflict a b e f g ∙ sym (word_conflict b a (other_way a b e) g f)

either_alike : (a b : ℕ) → replaced (merged_word a b) ≡ replaced (merged_word b a)
either_alike a b = go (matches a b) refl
  where
    go : (x : Bool) → matches a b ≡ x → replaced (merged_word a b) ≡ replaced (merged_word b a)
    go true e = rw (word_agreed a b e, word_agreed b a (match_swap a b e)) (match_equal a b e)
    go false e = ap replaced (either_equal a b e)

pub either_first : (a b : ℕ) → EitherFirst a b
unfolding matches
either_first a b =
    record {
      alike = either_alike a b;
      like = λ w. ap (λ x. equal_calls x (replaced w)) (either_alike a b);
      equal = either_equal a b;
      first_kept = λ e. (word_agreed a b e, word_agreed b a (match_swap a b e));
    }

-- ---- three typings
pub order_matters : (a b : ℕ) → is_call a ≡ true → is_call b ≡ true → matches a b ≡ false → OrderMatters a b
order_matters a b p q e =
    let conflict : merged_word a b ≡ no_call = word_conflict a b e (call_one a p) (call_one b q) in
    record {
      again_after = rw conflict (word_second no_call b (no_match_left no_call b no_call_none) no_call_one);
      again_before = rw (word_agreed b b (match_self b q)) conflict;
    }

-- A call stays where nothing speaks against it, and the no-call gives way to whatever there is.
stays : (a x : ℕ) → is_no_call a ≡ false → Undisputed a x → merged_word a x ≡ a
stays a x n u = ⊎_elim (λ e. absurd (let z : true ≡ false = sym e ∙ n in let k : ◌≡◌ {A = ℕ} 0 1 = cc in omega arith)) (⊎_elim (λ e. none e (matches a x) refl) (word_agreed a x)) u
  where
    none : is_no_call x ≡ true → (t : Bool) → matches a x ≡ t → merged_word a x ≡ a
    none e true f = word_agreed a x f
    none e false f = word_first a x f n e

gives_way : (a x : ℕ) → is_no_call a ≡ true → merged_word a x ≡ x
gives_way a x e = rw (no_call_is a e) (word_second no_call x (no_match_left no_call x no_call_none) no_call_one)

in_groups : (a b c : ℕ) → Undisputed a b → Undisputed a c → merged_word (merged_word a b) c ≡ merged_word a (merged_word b c)
in_groups a b c p q = go (is_no_call a) refl
  where
    merged_undisputed : Undisputed a (merged_word b c)
    merged_undisputed =
        ⊎_elim
        (λ e. rw e p)
        (⊎_elim (λ e. rw e q) (λ e. rw e (inr (inl no_call_one))))
        (not_invented b c).from

    go : (t : Bool) → is_no_call a ≡ t → merged_word (merged_word a b) c ≡ merged_word a (merged_word b c)
    go true e = rw (gives_way a b e, gives_way a (merged_word b c) e) refl
    go false e = rw (stays a b e p, stays a c e q, stays a (merged_word b c) e merged_undisputed) refl

-- Words that are the same once replaced merge to words that are.
not_retired : (w : ℕ) → is_call w ≡ false → is_retired w ≡ false
unfolding is_retired
not_retired w e = rw e refl

no_call_replaced : (w : ℕ) → is_no_call (replaced w) ≡ is_no_call w
no_call_replaced w = go (is_call w) refl
  where
    go : (t : Bool) → is_call w ≡ t → is_no_call (replaced w) ≡ is_no_call w
    go true e = call_one (replaced w) (call_replaced w ∙ e) ∙ sym (call_one w e)
    go false e = ap is_no_call (replaced_none w (not_retired w e))

match_like : (x y c : ℕ) → replaced x ≡ replaced y → matches y c ≡ matches x c
unfolding matches
match_like x y c e = ap (λ w. equal_calls w (replaced c)) (sym e)

like_first : (x y c : ℕ) → replaced x ≡ replaced y → replaced (merged_word x c) ≡ replaced (merged_word y c)
like_first x y c e = go (matches x c) (is_no_call x) (is_no_call c) refl refl refl
  where
    none : is_no_call y ≡ is_no_call x
    none = sym (no_call_replaced y) ∙ (ap is_no_call (sym e) ∙ no_call_replaced x)

    go : (u v z : Bool) → matches x c ≡ u → is_no_call x ≡ v → is_no_call c ≡ z → replaced (merged_word x c) ≡ replaced (merged_word y c)
    go true v z f g h = rw (word_agreed x c f, word_agreed y c (match_like x y c e ∙ f)) e
    go false true z f g h = rw (word_second x c f g, word_second y c (match_like x y c e ∙ f) (none ∙ g)) refl
    go false false true f g h = rw (word_first x c f g h, word_first y c (match_like x y c e ∙ f) (none ∙ g) h) e
    go false false false f g h = rw (word_conflict x c f g h, word_conflict y c (match_like x y c e ∙ f) (none ∙ g) h) refl

like_second : (a x y : ℕ) → replaced x ≡ replaced y → replaced (merged_word a x) ≡ replaced (merged_word a y)
like_second a x y e = either_alike a x ∙ (like_first x y a e ∙ either_alike y a)

pub any_order : (a b c : ℕ) → Undisputed a b → Undisputed a c → AnyOrder a b c
any_order a b c p q =
    let groups = in_groups a b c p q in
    record {
      grouped = groups;
      second_last = ap replaced (in_groups a c b q p) ∙ (like_second a (merged_word c b) (merged_word b c) (either_alike c b) ∙ ap replaced (sym groups));
      first_last = either_alike (merged_word b c) a ∙ ap replaced (sym groups);
    }

-- ---- word by word
word_sound : (a b : ℕ) → is_sound a ≡ true → is_sound b ≡ true → is_sound (merged_word a b) ≡ true
word_sound a b p q = go (matches a b) (is_no_call a) (is_no_call b) refl refl refl
  where
    go : (x y z : Bool) → matches a b ≡ x → is_no_call a ≡ y → is_no_call b ≡ z → is_sound (merged_word a b) ≡ true
    go true y z e f g = rw (word_agreed a b e) p
    go false true z e f g = rw (word_second a b e f) q
    go false false true e f g = rw (word_first a b e f g) p
    go false false false e f g = rw (word_conflict a b e f g) no_call_sound

word_self : (a : ℕ) → is_sound a ≡ true → merged_word a a ≡ a
unfolding is_sound
word_self a p = go (is_call a) refl
  where
    go : (t : Bool) → is_call a ≡ t → merged_word a a ≡ a
    go true e = word_agreed a a (match_self a e)
    go false e = word_second a a (no_match_left a a e) (rw e at p)

pub length_merged : (s t : List ℕ) → length s ≡ length t → length (merged s t) ≡ length s
unfolding merged
length_merged [] t e = refl
length_merged (a ∷ s) [] e = absurd (omega (arith, e))
length_merged (a ∷ s) (b ∷ t) e = ap suc (length_merged s t (omega (arith, e)))

pub get_or_merged : (s t : List ℕ) → length s ≡ length t → (i : ℕ) → i < length s → get_or (merged s t) i 0 ≡ merged_word (get_or s i 0) (get_or t i 0)
unfolding merged
get_or_merged [] t e i h = absurd (not-suc-le-zero h)
get_or_merged (a ∷ s) [] e i h = absurd (omega (arith, e))
get_or_merged (a ∷ s) (b ∷ t) e zero h = refl
get_or_merged (a ∷ s) (b ∷ t) e (suc i) h = get_or_merged s t (omega (arith, e)) i (le_of_suc-le-suc h)

pub merged_sound : (s t : List ℕ) → all_sound s ≡ true → all_sound t ≡ true → all_sound (merged s t) ≡ true
unfolding merged every
merged_sound [] t p q = refl
merged_sound (a ∷ s) [] p q = refl
merged_sound (a ∷ s) (b ∷ t) p q =
    and_both
    (word_sound a b (and_left (is_sound a) _ p) (and_left (is_sound b) _ q))
    (merged_sound s t (and_right (is_sound a) _ p) (and_right (is_sound b) _ q))

pub merged_self : (s : List ℕ) → all_sound s ≡ true → merged s s ≡ s
unfolding merged every
merged_self [] p = refl
merged_self (a ∷ s) p = rw (word_self a (and_left (is_sound a) _ p), merged_self s (and_right (is_sound a) _ p)) refl

pub merged_alike : (s t : List ℕ) → map replaced (merged t s) ≡ map replaced (merged s t)
unfolding merged
merged_alike [] [] = refl
merged_alike [] (b ∷ t) = refl
merged_alike (a ∷ s) [] = refl
merged_alike (a ∷ s) (b ∷ t) = rw (either_alike b a, merged_alike s t) refl
