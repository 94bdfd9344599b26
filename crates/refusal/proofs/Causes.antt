-- A chain of refusals link by link: a cause that holds gives its number, one that does not leaves it to the later causes. And what an
-- entry point gives that has branched on the number.
-- Assumes nothing.
use Prim.Native.Nat.{ℕ, zero, suc, ◌<◌}
use native.Mathlib.Decide.{ℕ_discrete}
use native.Mathlib.Omega.{arith}
use mathlib.Core.Path.{◌≡◌, refl, sym, ◌∙◌}
use mathlib.Core.Bool.{Bool, true, false, not}
use lib.Dec.{eqb}
use borrow.Author.Tests.{ne_eqb}
use borrow.Author.Rules.{rules}
use Rattle.refusal.specs.Number.{number}
use Rattle.refusal.specs.declared.Refusal.{Refusal}
use Rattle.refusal.specs.Refusal.{refuse, outcome}

-- The number of a refusal is never that of none.
pub never_none : (e : Refusal) → number e ≡ 0 → ⊥
never_none e = search rules

-- ---- a chain
pub refused : (t : Bool) (n later : ℕ) → t ≡ true → n ≡ refuse t n later
refused t n later e = rw e

pub passed : (t : Bool) (r n later : ℕ) → t ≡ false → r ≡ later → r ≡ refuse t n later
passed t r n later e k = rw e k

-- Of two causes with one number it does not matter which is asked first.
pub refuse_swap : (s t : Bool) (n later : ℕ) → refuse s n (refuse t n later) ≡ refuse t n (refuse s n later)
refuse_swap true true n later = refl
refuse_swap true false n later = refl
refuse_swap false t n later = refl

-- What an accepted chain says of its first cause and of the later ones.
pub record Clear (t : Bool) (later : ℕ) : Type 0 where
  pub first : t ≡ false
  pub rest : later ≡ 0

pub clear : (t : Bool) (n later : ℕ) → 0 < n → refuse t n later ≡ 0 → Clear t later
clear true n later h e = absurd (omega arith)
clear false n later h e = record { first = refl; rest = e }

-- ---- a part of a chain, as a function of what is checked later
-- A cause of the part stops the chain; where none holds, what is checked later decides.
pub record Part (f : ℕ → ℕ) : Type 0 where
  pub stops : (f 0 ≡ 0 → ⊥) → (k : ℕ) → f 0 ≡ f k
  pub goes : f 0 ≡ 0 → (k : ℕ) → k ≡ f k

pub part_end : Part (λ k. k)
part_end = record { stops = λ d k. absurd (d refl); goes = λ e k. refl }

pub part_cause : (f : ℕ → ℕ) (t : Bool) (n : ℕ) → 0 < n → Part f → Part (λ k. refuse t n (f k))
part_cause f true n h p = record { stops = λ d k. refl; goes = λ e k. absurd (omega arith) }
part_cause f false n h p = p

-- Two parts one after the other are a part.
pub part_then : (f g : ℕ → ℕ) → Part f → Part g → Part (λ k. f (g k))
part_then f g p q = go (ℕ_discrete (f 0) 0)
  where
    go : Dec (f 0 ≡ 0) → Part (λ k. f (g k))
    go (yes z) =
        let same : (k : ℕ) → k ≡ f k = p.goes z in
        record {
          stops = λ d k. sym (same (g 0)) ∙ (q.stops (λ e. d (sym (same (g 0)) ∙ e)) k ∙ same (g k));
          goes = λ e k. q.goes (same (g 0) ∙ e) k ∙ same (g k);
        }
    go (no d) =
        let first : (k : ℕ) → f 0 ≡ f k = p.stops d in
        record {
          stops = λ e k. sym (first (g 0)) ∙ first (g k);
          goes = λ e k. absurd (d (first (g 0) ∙ e));
        }

-- What the code of a part answered, carried to the whole chain.
pub part_stops : (f : ℕ → ℕ) → Part f → (r k : ℕ) → r ≡ f 0 → (r ≡ 0 → ⊥) → r ≡ f k
part_stops f p r k e d = e ∙ p.stops (λ z. d (e ∙ z)) k

pub part_goes : (f : ℕ → ℕ) → Part f → (r q k : ℕ) → r ≡ f 0 → r ≡ 0 → q ≡ k → q ≡ f k
part_goes f p r q k e z s = s ∙ p.goes (sym e ∙ z) k

-- ---- causes as the code tests them

pub differs : (a b : ℕ) → (a ≡ b → ⊥) → not (eqb a b) ≡ true
differs a b d = rw (ne_eqb a b d) refl

-- ---- an outcome
pub outcome_refused : {A : Type 0} (r : ℕ) (new old : A) → (r ≡ 0 → ⊥) → outcome r new old ≡ old
outcome_refused zero new old d = absurd (d refl)
outcome_refused (suc r) new old d = refl

pub outcome_accepted : {A : Type 0} (r : ℕ) (new old : A) → r ≡ 0 → outcome r new old ≡ new
outcome_accepted zero new old e = refl
outcome_accepted (suc r) new old e = cc

-- An entry point has the refusal's number r, where q is the number by definition.
module _ (r q : ℕ) (e : r ≡ q) where
  pub kept : {A : Type 0} (new old : A) → (r ≡ 0 → ⊥) → old ≡ outcome q new old
  kept new old d = sym (outcome_refused q new old (λ z. d (e ∙ z)))

  pub given : {A : Type 0} (x new old : A) → r ≡ 0 → x ≡ new → x ≡ outcome q new old
  given x new old z k = k ∙ sym (outcome_accepted q new old (sym e ∙ z))
