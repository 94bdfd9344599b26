-- What is laid until a test holds is a beginning of the list; and it is the same tiles however they are listed, whether the pattern's words are
-- replaced or not, and by any test that says the same.
-- Assumes nothing.
use Prim.Native.Nat.{ℕ, ◌+◌}
use mathlib.Core.Path.{◌≡◌, refl, sym, ◌∙◌, ap}
use mathlib.Core.Bool.{Bool, true, false}
use mathlib.Core.List.{List, [], ◌∷◌, ◌++◌, map}
use Rattle.symbol.specs.Word.{replaced}
use Rattle.tiling.specs.Run.{mark}
use Rattle.tiling.specs.Until.{Far, further, until}
use Rattle.tiling.proofs.Replaced.{mark_replaced}

module _ {K : Type 0} (at size : K → ℕ) (stop : Far → Bool) where
  pub until_stops : (f : Far) (ks : List K) → stop f ≡ true → until at size stop f ks ≡ []
  unfolding until
  until_stops f [] e = refl
  until_stops f (k ∷ ks) e = rw (until, e) refl

  pub until_goes : (f : Far) (k : K) (ks : List K) → stop f ≡ false → until at size stop f (k ∷ ks) ≡ k ∷ until at size stop (further f (at k) (size k)) ks
  unfolding until
  until_goes f k ks e = rw (until, e) refl

  -- What is laid until then is a beginning of the whole list.
  pub record Beginning (ks ls : List K) : Type 0 where
    pub rest : List K
    pub whole : ls ≡ ks ++ rest

  pub until_begins : (f : Far) (ks : List K) → Beginning (until at size stop f ks) ks
  unfolding until
  until_begins f [] = record { rest = []; whole = refl }
  until_begins f (k ∷ ks) = go (until_begins (further f (at k) (size k)) ks) (stop f) refl
    where
      go : Beginning (until at size stop (further f (at k) (size k)) ks) ks → (b : Bool) → stop f ≡ b → Beginning (until at size stop f (k ∷ ks)) (k ∷ ks)
      go r true e = record { rest = k ∷ ks; whole = rw (until_stops f (k ∷ ks) e) refl }
      go r false e = record { rest = r.rest; whole = rw (until_goes f k ks e) (ap (λ xs. k ∷ xs) r.whole) }

  -- By another test that says the same.
  pub until_same : (other : Far → Bool) → ((f : Far) → other f ≡ stop f) → (f : Far) (ks : List K) → until at size other f ks ≡ until at size stop f ks
  until_same other h f ks = ap (λ (t : Far → Bool). until at size t f ks) (λ i x. h x i)

  -- Of a pattern whose words are replaced, where that makes no difference to the test.
  module _ (h : (c : ℕ) (ws : List ℕ) → stop (record { covered = c; pattern = map replaced ws }) ≡ stop (record { covered = c; pattern = ws })) where
    pub until_replaced : (c : ℕ) (ws : List ℕ) (ks : List K) → until at size stop (record { covered = c; pattern = map replaced ws }) ks ≡ until at size stop (record { covered = c; pattern = ws }) ks
    unfolding until
    until_replaced c ws [] = refl
    until_replaced c ws (k ∷ ks) =
        let rest : until at size stop (record { covered = c + size k; pattern = mark (at k) (size k) (map replaced ws) }) ks ≡ until at size stop (record { covered = c + size k; pattern = mark (at k) (size k) ws }) ks =
        rw (mark_replaced (at k) (size k) ws) (until_replaced (c + size k) (mark (at k) (size k) ws) ks) in
        λ i. elim (h c ws i) [ true ↦ [] | false ↦ k ∷ rest i ]

-- Tiles listed in another form, with the same starts and lengths.
module _ {K L : Type 0} (at size : K → ℕ) (at' size' : L → ℕ) (form : K → L) (same_at : (k : K) → at' (form k) ≡ at k) (same_size : (k : K) → size' (form k) ≡ size k) (stop : Far → Bool) where
  pub until_map : (f : Far) (ks : List K) → until at' size' stop f (map form ks) ≡ map form (until at size stop f ks)
  unfolding until
  until_map f [] = refl
  until_map f (k ∷ ks) = go (until_map (further f (at k) (size k)) ks) (stop f) refl
    where
      go : until at' size' stop (further f (at k) (size k)) (map form ks) ≡ map form (until at size stop (further f (at k) (size k)) ks) → (b : Bool) → stop f ≡ b → until at' size' stop f (map form (k ∷ ks)) ≡ map form (until at size stop f (k ∷ ks))
      go r true e = until_stops at' size' stop f (map form (k ∷ ks)) e ∙ ap (map form) (sym (until_stops at size stop f (k ∷ ks) e))
      go r false e =
          until_goes at' size' stop f (form k) (map form ks) e
          ∙ (rw (same_at k, same_size k, until_goes at size stop f k ks e) (ap (λ xs. form k ∷ xs) r))
